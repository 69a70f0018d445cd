-- What the walk of a statement marks: no more is read where the statement is expanded.
use Rattle.std.specs.Prelude.{◌≡◌, ◌⊎◌, ◌<◌, ◌≤◌, ℕ, List, Option, None, true, false, is_some, length, slice_index_or}
use Rattle.dx_base.specs.NameTable.{under_name}
use Rattle.dx_ast.specs.Classes.{Text as Name}
use Rattle.dx_ast.specs.Syntax.{Expr, Call, Args, Stmt, Stmts, Macro}
use Rattle.dx_base.specs.NameLists.{has}
use Rattle.dx_macros.specs.Site.{Step}
use Rattle.dx_macros.specs.Dictionary.{Macros, callee}
use Rattle.dx_definitions.specs.TopTexts.{TopText, definition}
use Rattle.dx_macros.specs.Walk.{Walk, Walked, Goes, Reader, WalkUnder, enter_callee, walk_expr, walk_call, walk_args, walk_statement, walk_body, read_all, walk_macro, walk_text, reader_at}
use Rattle.dx_graph.specs.Operands.{Own}
use Rattle.dx_texts.specs.Expanding.{dictionary_in}
use Rattle.dx_graph.specs.declared.operand.Results.{Results}
use Rattle.dx_texts.specs.declared.text.World.{World}
use Rattle.dx_texts.specs.declared.text.Text.{Text}

-- ---- marks

-- the results of the definitions, each where it was expanded
abbrev pub Memo : Type 0
Memo = List (Option Results)

-- definition number i was read
abbrev pub IsMarked : Walk → ℕ → Type 0
IsMarked w i = slice_index_or w.read i false ≡ true

-- what the one marks, the other marks too
abbrev pub Includes : Walk → Walk → Type 0
Includes a b = (i : ℕ) → IsMarked a i → IsMarked b i

-- the definitions before a position that are marked have their results
abbrev pub AreKnown : Memo → ℕ → Walk → Type 0
AreKnown memo position w = (i : ℕ) → i < position → IsMarked w i → is_some (slice_index_or memo i None) ≡ true

-- the walk of definition number i
abbrev pub definition_walk : Macros → List TopText → ℕ → Walk → Walked
definition_walk macros defs i = walk_text macros (reader_at macros defs i) (definition defs i)

-- the definition was walked, and all that it marked is marked
pub record WalkedWithin (macros : Macros) (defs : List TopText) (b : Walk) (i : ℕ) : Type 0 where
  pub from : Walk
  pub to : Walk
  pub goes : definition_walk macros defs i from ≡ Goes to
  pub count : length from.read ≡ length b.read
  pub within : Includes to b

-- from one walk to another: marks stay, and what is marked since was walked
pub record Grown (macros : Macros) (defs : List TopText) (a b : Walk) : Type 0 where
  pub count : length b.read ≡ length a.read
  pub marks : Includes a b
  pub fresh : (i : ℕ) → IsMarked b i → IsMarked a i ⊎ WalkedWithin macros defs b i

-- a walk comes to its end, and what it read before the position has its results
pub record IsWalked (memo : Memo) (position : ℕ) (walk : Walk → Walked) : Type 0 where
  pub from : Walk
  pub to : Walk
  pub goes : walk from ≡ Goes to
  pub count : position ≤ length from.read
  pub known : AreKnown memo position to

-- ---- the walk of a text

-- how names are read at a position of the top level
abbrev pub top_reader : World → ℕ → Reader
top_reader w position = reader_at (dictionary_in w).macros (dictionary_in w).definitions position

abbrev pub walk_under : World → Text → WalkUnder
walk_under w t = record { macros = (dictionary_in w).macros; left = t.left; enter = walk_macro (dictionary_in w).macros (top_reader w t.position) t.left }

-- the names have meanings of the text's own
abbrev pub Holds : Own → List Name → Type 0
Holds own names = (name : Name) → has names name ≡ true → is_some (own name) ≡ true

-- a way to read the names of a text: those without a meaning of its own as at its position of the top level
pub record IsReader (w : World) (t : Text) (read : Reader) : Type 0 where
  pub top : (name : Name) → under_name t.own name ≡ None → read name ≡ top_reader w t.position name
  pub marks : (name : Name) (a b : Walk) → read name a ≡ Goes b → Grown (dictionary_in w).macros (dictionary_in w).definitions a b

-- a part of a text was walked, whatever its site, the calls before it and the number of its targets
pub record WasWalked (w : World) (t : Text) (walk : List Step → Reader → List Name → ℕ → Walk → Walked) : Type 0 where
  pub base : List Step
  pub read : Reader
  pub before : List Name
  pub targets : ℕ
  pub reader : IsReader w t read
  pub walked : IsWalked w.memo t.position (walk base read before targets)

abbrev pub ExprWalked : World → Text → Expr → Type 0
ExprWalked w t e = WasWalked w t (λ base read before targets. walk_expr (walk_under w t) base read before targets e)

abbrev pub CallWalked : World → Text → Call → Type 0
CallWalked w t c = WasWalked w t (λ base read before targets. walk_call (walk_under w t) base read before targets c)

abbrev pub ArgsWalked : World → Text → Args → Type 0
ArgsWalked w t args = WasWalked w t (λ base read before targets. walk_args (walk_under w t) base read before args)

abbrev pub StatementWalked : World → Text → Stmt → Type 0
StatementWalked w t s = WasWalked w t (λ base read before targets. walk_statement (walk_under w t) base read before s)

-- a name was read
abbrev pub NameWalked : World → Text → Name → Type 0
NameWalked w t name = WasWalked w t (λ base read before targets. read name)

-- names were read one after the other
abbrev pub NamesWalked : World → Text → List Name → Type 0
NamesWalked w t names = WasWalked w t (λ base read before targets. read_all read names)

-- what a name calls was walked
abbrev pub CalleeWalked : World → Text → Name → Type 0
CalleeWalked w t name = WasWalked w t (λ base read before targets. enter_callee (walk_under w t) base (callee (dictionary_in w).macros name))

-- a call of the macro was walked
abbrev pub MacroWalked : World → Text → Macro → Type 0
MacroWalked w t m = WasWalked w t (λ base read before targets. (walk_under w t).enter m base)

-- the rest of a macro's body was walked, and then its results were read
pub record BodyWalked (w : World) (t : Text) (results : List Name) (body : Stmts) : Type 0 where
  pub base : List Step
  pub own : List Name
  pub before : List Name
  pub holds : Holds (under_name t.own) own
  pub walked : IsWalked w.memo t.position (walk_body (walk_under w t) base (top_reader w t.position) results own before body)

-- a text of the top level was walked
abbrev pub TopWalked : World → ℕ → TopText → Type 0
TopWalked w position t = IsWalked w.memo position (walk_text (dictionary_in w).macros (top_reader w position) t)
