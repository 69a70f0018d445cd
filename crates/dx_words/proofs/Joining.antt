-- A line that was read, and what the words behind it say.
use Rattle.std.proofs.Common.{◌≡◌, refl, List, [], ◌∷◌, Option, Some, None, true, false, Bool, ap, ◌∙◌, ◌≤◌, take, drop, length, arith}
use Rattle.dx_words.specs.declared.line.Line.{Line}
use Rattle.dx_words.specs.declared.line.Reading.{Reading}
use Rattle.dx_words.specs.declared.line.Reading.TheVariants as reading
use Rattle.dx_words.specs.declared.words.Job.{Job}
use Rattle.std.specs.Prelude.{ℕ, String}
use Rattle.std.specs.declared.alloc.Global.{Global}
use Rattle.dx_words.specs.Values.{budget_of, executions_of}
use Rattle.dx_words.specs.Line.{text, texts, ends_options, is_session, with_word, said, with_budget, with_workload, joined, nothing, line_from, with_said, Said, trace, links, memory, workload}
use Rattle.dx_words.specs.Command.{named_of, with_named, budget_named, executions_named}
use Rattle.dx_words.specs.declared.command.Named.{Named}

pub nothing_before : (l : Option Line) → joined nothing l ≡ l
nothing_before None = refl
nothing_before (Some l) = refl

pub nothing_behind : (l : Line) → joined l (Some nothing) ≡ Some l
nothing_behind l = by l.budget l.trace l.links l.job
  where
    by : (b : Option _) (t k : Bool) (j : Option Job) → joined (record { budget = b; trace = t; links = k; job = j }) (Some nothing) ≡ Some (record { budget = b; trace = t; links = k; job = j })
    by None true true None = refl
    by None true true (Some j) = refl
    by None true false None = refl
    by None true false (Some j) = refl
    by None false true None = refl
    by None false true (Some j) = refl
    by None false false None = refl
    by None false false (Some j) = refl
    by (Some b) true true None = refl
    by (Some b) true true (Some j) = refl
    by (Some b) true false None = refl
    by (Some b) true false (Some j) = refl
    by (Some b) false true None = refl
    by (Some b) false true (Some j) = refl
    by (Some b) false false None = refl
    by (Some b) false false (Some j) = refl

pub ends_here : (l : Line) (r : Reading) → (r ≡ reading.Options) → joined l (line_from r []) ≡ Some l
ends_here l r e = rw e (nothing_behind l)

pub ends_behind : (l : Line) (r : Reading) → (r ≡ reading.Sessions) → joined l (line_from r []) ≡ Some l
ends_behind l r e = rw e (nothing_behind l)

-- ---- an option

pub option_word : (w : List ℕ) (next : Reading → Option Line) → ends_options w ≡ false → is_session w ≡ false → with_word w next ≡ with_said (said w) next
option_word w next e s = rw (e, s) refl

-- what is said from an option on, if there is one
abbrev with_some : Option Named → (Reading → Option Line) → Option Line
with_some None next = None
with_some (Some n) next = with_named n next

some_said : (o : Option Said) (next : Reading → Option Line) → with_said o next ≡ with_some (named_of o) next
some_said None next = refl
some_said (Some trace) next = refl
some_said (Some links) next = refl
some_said (Some (memory None)) next = refl
some_said (Some (workload None)) next = refl
some_said (Some (memory (Some v))) next = go (budget_of v)
  where
    go : (o : Option ℕ) → with_budget o (next reading.Options) ≡ with_some (budget_named o) next
    go None = refl
    go (Some n) = refl
some_said (Some (workload (Some v))) next = go (executions_of v)
  where
    go : (o : Option ℕ) → with_workload o (next reading.Options) ≡ with_some (executions_named o) next
    go None = refl
    go (Some n) = refl

pub named_said : (o : Option Said) (n : Named) (next : Reading → Option Line) → named_of o ≡ Some n → with_said o next ≡ with_named n next
named_said o n next e = some_said o next ∙ ap (λ m. with_some m next) e

pub no_said : (o : Option Said) (a : Line) (next : Reading → Option Line) → named_of o ≡ None → joined a (with_said o next) ≡ None
no_said o a next e = ap (joined a) (some_said o next ∙ ap (λ m. with_some m next) e)

-- ---- the first word, and the others

pub first_apart : (ws front : List (String Global)) → 1 ≤ length ws → front ≡ take 1 ws → text front ∷ texts (drop 1 ws) ≡ texts ws
first_apart [] front l e = absurd (omega (arith, l))
first_apart (w ∷ ws) front l e = ap (λ f. text f ∷ texts ws) e
