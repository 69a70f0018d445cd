-- The options as the parser of command lines has them.
use Rattle.std.specs.Prelude.{◌==◌, ◌&&◌, ℕ, Bool, true, false, List, [], ◌∷◌, Option, Some, None, codes}
use Rattle.clap.specs.Simple.{App, new_rule, new_app, with_rule}
use Rattle.clap.specs.Walk.{Rule}
use Rattle.clap.specs.declared.builder.action.ArgAction.TheVariants.{Set, SetTrue}
use Rattle.dx_words.specs.Line.{Said, trace, links, memory, workload, with_trace, with_links, with_budget, with_workload}
use Rattle.dx_words.specs.declared.line.Line.{Line}
use Rattle.dx_words.specs.declared.line.Reading.{Reading}
use Rattle.dx_words.specs.declared.line.Reading.TheVariants as reading
use Rattle.dx_words.specs.Values.{budget_of, executions_of}
use Rattle.dx_words.specs.declared.command.Named.{Named}
use Rattle.dx_words.specs.declared.command.Named.TheVariants.{Trace, Links, Budget, Executions}

-- a word with two dashes and something behind them
abbrev pub is_long : List ℕ → Bool
is_long [] = false
is_long (a ∷ []) = false
is_long (a ∷ b ∷ []) = false
is_long (a ∷ b ∷ x ∷ xs) = a == 45 && b == 45

abbrev pub flag_rule : List ℕ → Rule
flag_rule name = record (new_rule name) { long = Some name; action = Some SetTrue }

-- with a value behind `=`, or with none
abbrev pub value_rule : List ℕ → Rule
value_rule name = record (new_rule name) { long = Some name; action = Some Set; range = Some (record { start_inclusive = 0; end_inclusive = 1 }) }

abbrev pub bare : App
bare = record (new_app (codes "dxi")) { top = record (new_app (codes "dxi")).top { no_binary_name = true; disable_help_flag = true; disable_version_flag = true } }

abbrev pub options : App
options = with_rule (with_rule (with_rule (with_rule bare (flag_rule (codes "trace"))) (flag_rule (codes "links"))) (value_rule (codes "memory"))) (value_rule (codes "workload"))

-- an option with the number that its word says
abbrev pub budget_named : Option ℕ → Option Named
budget_named None = None
budget_named (Some n) = Some (Budget (Some n))

abbrev pub executions_named : Option ℕ → Option Named
executions_named None = None
executions_named (Some n) = Some (Executions (Some n))

abbrev pub named_of : Option Said → Option Named
named_of None = None
named_of (Some trace) = Some Trace
named_of (Some links) = Some Links
named_of (Some (memory None)) = Some (Budget None)
named_of (Some (memory (Some v))) = budget_named (budget_of v)
named_of (Some (workload None)) = Some (Executions None)
named_of (Some (workload (Some v))) = executions_named (executions_of v)

-- the same of what is said from an option on
abbrev pub with_named : Named → (Reading → Option Line) → Option Line
with_named Trace next = with_trace (next reading.Options)
with_named Links next = with_links (next reading.Options)
with_named (Budget None) next = next reading.Budget
with_named (Budget (Some n)) next = with_budget (Some n) (next reading.Options)
with_named (Executions None) next = next reading.Executions
with_named (Executions (Some n)) next = with_workload (Some n) (next reading.Options)
