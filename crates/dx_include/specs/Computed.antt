-- Loading, as it is computed.
use Rattle.std.specs.Prelude.{◌≡◌, All, ℕ, zero, suc, List, [], ◌∷◌, Option, Some, None, Result, Ok, Err, Bool, true, false}
use Rattle.dx_base.specs.declared.token.SyntaxError.{SyntaxError}
use Rattle.dx_io.specs.Devices.{FileMap}
use Rattle.dx_ast.specs.declared.statements.Stmt.{Stmt}
use Rattle.dx_ast.specs.declared.statements.Stmt.TheVariants as stmt
use Rattle.dx_ast.specs.Script.{tokens_of}
use Rattle.dx_script_grammar.specs.Reading as reading
use Rattle.dx_script_grammar.specs.Reading.{Outcome}
use Rattle.dx_include.specs.declared.loaded.Loaded.{Loaded}
use Rattle.dx_include.specs.declared.fail.LoadFail.{LoadFail}
use Rattle.dx_include.specs.declared.fail.LoadFail.TheVariants as fail
use Rattle.dx_include.specs.Loading.{Name, Loading, max_levels, nothing, refused, with_statement, with_text, behind, is_too_long}

-- the statements that were read, or the first error
abbrev pub answer_of : Outcome (List Stmt) → Result (List Stmt) SyntaxError
answer_of (Ok read) = Ok read.0
answer_of (Err wrong) = Err wrong.0

-- the statements of a text, or its first error
unfoldable pub parsed : List ℕ → Result (List Stmt) SyntaxError
parsed text = answer_of (reading.script (tokens_of text))

abbrev pub Load : Type 0
Load = Loaded → Name → Loading

abbrev pub go_on : List Name → Result Loaded LoadFail → (Loaded → Loading) → Loading
go_on reads (Ok so_far) next = behind reads (next so_far)
go_on reads (Err why) next = refused reads why

unfoldable pub splice : Load → List Stmt → Loaded → Loading
splice load [] so_far = record { reads = []; ends = Ok so_far }
splice load (stmt.Include name ∷ others) so_far = go_on (load so_far name).reads (load so_far name).ends (splice load others)
splice load (s ∷ others) so_far = splice load others (with_statement so_far s)

-- a statement that stands for itself, and statements none of which is an include
abbrev pub IsPlain : Stmt → Type 0
IsPlain s = (name : Name) → s ≡ stmt.Include name → ⊥

abbrev pub IncludesNothing : List Stmt → Type 0
IncludesNothing statements = All IsPlain statements

abbrev pub of_parsed : Load → Loaded → Name → List ℕ → Result (List Stmt) SyntaxError → Loading
of_parsed load so_far name text (Ok statements) = behind (name ∷ []) (splice load statements (with_text so_far text))
of_parsed load so_far name text (Err e) = refused (name ∷ []) (fail.Syntax name e)

abbrev pub of_length : Bool → Load → Loaded → Name → List ℕ → Loading
of_length true load so_far name text = refused (name ∷ []) (fail.TooLong name)
of_length false load so_far name text = of_parsed load so_far name text (parsed text)

abbrev pub of_file : Load → Loaded → Name → Option (List ℕ) → Loading
of_file load so_far name None = refused (name ∷ []) (fail.Missing name)
of_file load so_far name (Some text) = of_length (is_too_long so_far text) load so_far name text

unfoldable pub load_within : ℕ → FileMap → Load
load_within zero files so_far name = refused [] (fail.Nested name)
load_within (suc levels) files so_far name = of_file (load_within levels files) so_far name (files name)

abbrev pub loading_of : FileMap → Name → Loading
loading_of files name = load_within max_levels files nothing name
