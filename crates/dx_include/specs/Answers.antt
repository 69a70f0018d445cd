-- What a call answers beside what its loading comes to.
use Rattle.std.specs.Prelude.{◌≡◌, ℕ, ◌≤◌, List, Option, Result, Ok, Err, true, false}
use Rattle.dx_base.specs.declared.token.SyntaxError.{SyntaxError}
use Rattle.dx_io.specs.Devices.{Cause, Grows, GrowsInto}
use Rattle.dx_ast.specs.declared.statements.Stmt.{Stmt}
use Rattle.dx_cursor.specs.declared.fail.ParseFail.{ParseFail}
use Rattle.dx_cursor.specs.declared.fail.ParseFail.TheVariants as parse
use Rattle.dx_include.specs.declared.loaded.Loaded.{Loaded}
use Rattle.dx_include.specs.declared.fail.LoadFail.{LoadFail}
use Rattle.dx_include.specs.declared.fail.LoadFail.TheVariants as fail
use Rattle.dx_include.specs.Loading.{Name, Loading, is_too_long, with_text}
use Rattle.dx_include.specs.Computed.{parsed}

-- it refused as the loading is refused and asked for its reads, or was cut short and asked for a front of them
abbrev pub Refuses : Loading → LoadFail → Option (List Name) → Option (List Name) → Type 0
Refuses l fail.ReadFault old new = GrowsInto old new l.reads
Refuses l fail.Memory old new = GrowsInto old new l.reads
Refuses l why old new = (l.ends ≡ Err why) × Grows old new l.reads

-- of a call that adds to what is loaded so far
abbrev pub Adds : {U : Type 0} → Loading → Loaded → Result U LoadFail → Option (List Name) → Option (List Name) → Type 0
Adds l new (Ok u) asked_old asked_new = (l.ends ≡ Ok new) × Grows asked_old asked_new l.reads
Adds l new (Err why) asked_old asked_new = Refuses l why asked_old asked_new

abbrev pub statements_of : Result Loaded LoadFail → Result (List Stmt) LoadFail
statements_of (Ok loaded) = Ok loaded.statements
statements_of (Err why) = Err why

-- of a call that answers the statements
abbrev pub Loads : Loading → Result (List Stmt) LoadFail → Option (List Name) → Option (List Name) → Type 0
Loads l (Ok statements) asked_old asked_new = (statements_of l.ends ≡ Ok statements) × Grows asked_old asked_new l.reads
Loads l (Err why) asked_old asked_new = Refuses l why asked_old asked_new

-- a read fault is answered exactly where the count of the files' faults has risen: with any other answer it is as it was
abbrev pub LoadCause : {T : Type 0} → ℕ → ℕ → Result T LoadFail → Type 0
LoadCause before now result = Cause fail.ReadFault before now result

-- of a call that parses
abbrev pub ParseFails : Result (List Stmt) SyntaxError → ParseFail → Type 0
ParseFails there (parse.Refused e) = there ≡ Err e
ParseFails there parse.Memory = Unit {0}

abbrev pub Parses : Result (List Stmt) SyntaxError → Result (List Stmt) ParseFail → Type 0
Parses there (Ok statements) = there ≡ Ok statements
Parses there (Err why) = ParseFails there why

-- a text behind what is loaded so far: its statements, or why it is refused
abbrev pub TextFails : Loaded → Name → List ℕ → LoadFail → Type 0
TextFails so_far name text (fail.TooLong n) = (is_too_long so_far text ≡ true) × (n ≡ name)
TextFails so_far name text (fail.Syntax n e) = (is_too_long so_far text ≡ false) × (parsed text ≡ Err e) × (n ≡ name)
TextFails so_far name text fail.Memory = Unit {0}
TextFails so_far name text _ = ⊥

abbrev pub TakesText : Loaded → Name → List ℕ → Result (List Stmt) LoadFail → Loaded → Type 0
TakesText so_far name text (Ok statements) new = (is_too_long so_far text ≡ false) × (parsed text ≡ Ok statements) × (new ≡ with_text so_far text)
TakesText so_far name text (Err why) new = TextFails so_far name text why
