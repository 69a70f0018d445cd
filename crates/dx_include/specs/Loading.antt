-- Loading: the statements of a session's file, with those of the included file in the place of each include, or the refusal
-- that loading meets first; and the names that are asked for on the way.
use Rattle.std.specs.Prelude.{◌≡◌, ◌⊎◌, ℕ, zero, suc, ◌+◌, List, [], ◌∷◌, ◌++◌, length, Option, Some, None, Result, Ok, Err, Bool, true, false, nat_lt}
use Rattle.dx_base.specs.declared.token.SyntaxError.{SyntaxError}
use Rattle.dx_io.specs.Devices.{FileMap}
use Rattle.dx_ast.specs.declared.statements.Stmt.{Stmt}
use Rattle.dx_ast.specs.declared.statements.Stmt.TheVariants as stmt
use Rattle.dx_ast.specs.Script.{IsScript, IsFirstError}
use Rattle.dx_include.specs.declared.loaded.Loaded.{Loaded}
use Rattle.dx_include.specs.declared.fail.LoadFail.{LoadFail}
use Rattle.dx_include.specs.declared.fail.LoadFail.TheVariants as fail

abbrev pub Name : Type 0
Name = List ℕ

-- what a loading asks for, and what is loaded behind it or why it is refused
pub record Loading : Type 0 where
  pub reads : List Name
  pub ends : Result Loaded LoadFail

-- the session and the files that it includes, one within the other
abbrev pub max_levels : ℕ
max_levels = 16

abbrev pub max_bytes : ℕ
max_bytes = 16777216

abbrev pub nothing : Loaded
nothing = record { statements = []; bytes = 0 }

-- ---- parts of a loading

abbrev pub refused : List Name → LoadFail → Loading
refused reads why = record { reads = reads; ends = Err why }

abbrev pub with_statement : Loaded → Stmt → Loaded
with_statement so_far s = record { statements = so_far.statements ++ s ∷ []; bytes = so_far.bytes }

abbrev pub with_text : Loaded → List ℕ → Loaded
with_text so_far text = record { statements = so_far.statements; bytes = so_far.bytes + length text }

-- a loading that begins with these reads
abbrev pub behind : List Name → Loading → Loading
behind reads l = record { reads = reads ++ l.reads; ends = l.ends }

-- the texts pass the limit with this one
abbrev pub is_too_long : Loaded → List ℕ → Bool
is_too_long so_far text = nat_lt max_bytes (so_far.bytes + length text)

-- ---- the definition

-- what a name's loading comes to, behind what is loaded so far
abbrev pub Loads : Type 1
Loads = Loaded → Name → Loading → Type 0

-- A loading that asked for these and ended so; where it loaded, another one goes on behind what it loaded.
abbrev pub GoesOn : List Name → Result Loaded LoadFail → (Loaded → Loading → Type 0) → Loading → Type 0
GoesOn reads (Ok so_far) next l = (others : Loading) × next so_far others × (l ≡ behind reads others)
GoesOn reads (Err why) next l = l ≡ refused reads why

-- Statements one after the other: an include is replaced by what its file loads, and each other one joins.
abbrev pub Splices : Loads → List Stmt → Loaded → Loading → Type 0
Splices loads [] so_far l = l ≡ record { reads = []; ends = Ok so_far }
Splices loads (stmt.Include name ∷ others) so_far l = (first : Loading) × loads so_far name first × GoesOn first.reads first.ends (Splices loads others) l
Splices loads (s ∷ others) so_far l = Splices loads others (with_statement so_far s) l

-- A text that is parsed whole: its first error, or its statements, spliced.
abbrev pub LoadsText : Loads → Loaded → Name → List ℕ → Loading → Type 0
LoadsText loads so_far name text l =
    ((e : SyntaxError) × IsFirstError text e × (l ≡ refused (name ∷ []) (fail.Syntax name e)))
    ⊎ ((statements : List Stmt) × (inside : Loading) × IsScript text statements × Splices loads statements (with_text so_far text) inside × (l ≡ behind (name ∷ []) inside))

abbrev pub LoadsUnlessLong : Bool → Loads → Loaded → Name → List ℕ → Loading → Type 0
LoadsUnlessLong true loads so_far name text l = l ≡ refused (name ∷ []) (fail.TooLong name)
LoadsUnlessLong false loads so_far name text l = LoadsText loads so_far name text l

-- a file that is there or isn't
abbrev pub LoadsFile : Loads → Loaded → Name → Option (List ℕ) → Loading → Type 0
LoadsFile loads so_far name None l = l ≡ refused (name ∷ []) (fail.Missing name)
LoadsFile loads so_far name (Some text) l = LoadsUnlessLong (is_too_long so_far text) loads so_far name text l

-- The file of a name, at most so many levels deep. One level too deep is refused before the file is asked for.
abbrev pub LoadsWithin : ℕ → FileMap → Loads
LoadsWithin zero files so_far name l = l ≡ refused [] (fail.Nested name)
LoadsWithin (suc levels) files so_far name l = LoadsFile (LoadsWithin levels files) so_far name (files name) l

-- what the loading of a session comes to
abbrev pub IsLoading : FileMap → Name → Loading → Type 0
IsLoading files name l = LoadsWithin max_levels files nothing name l
