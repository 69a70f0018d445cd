-- Sessions whose outcomes are known, as trees. Each holds by computing.
use Rattle.std.specs.Prelude.{◌≡◌, ℕ, ℤ, pos, List, [], ◌∷◌, ◌++◌, Option, Some, None, Ok, Err, codes, if◌then◌else◌}
use Rattle.std.specs.Str.{bytes_eq}
use Rattle.dx_base.specs.Object.{Tree as Object, text, no_parts}
use Rattle.dx_base.specs.declared.code.Code.TheVariants.{DivisionByZero, BadArgument, NoFile}
use Rattle.dx_base.specs.declared.function.Function.TheVariants as function
use Rattle.dx_base.specs.declared.function.Module.{Module}
use Rattle.dx_base.specs.declared.function.Module.TheVariants as computing
use Rattle.dx_ast.specs.declared.constants.Const.TheVariants as const
use Rattle.dx_ast.specs.Value.{ints, value_of}
use Rattle.dx_macros.specs.Site.{Step, Nth, Target, steps_text}
use Rattle.dx_macros.specs.Tree.{Place, Tree, ConstantTree, ResultTree, CallTree, TreeCall, Trees, NoTree, AndTree}
use Rattle.dx_links.specs.declared.key.Key.{Key}
use Rattle.dx_links.specs.declared.key.Key.TheVariants as key
use Rattle.dx_objects.specs.Runs.{Answer}
use Rattle.dx_meaning.specs.Outcome.{Value}
use Rattle.dx_meaning.specs.Outcome.{Use, Val, ErrAt, Off, HaltAt, Outcome}
use Rattle.dx_meaning.specs.Meaning.{World, outcome}

abbrev number : ℤ → Value
number n = Some (ints [] (n ∷ []))

abbrev int : ℤ → Tree
int n = ConstantTree (const.Int n)

abbrev words : List ℕ → Tree
words t = ConstantTree (const.Text t)

-- a library in which Compute refuses one text, and Collect and other texts give their last value
abbrev last : Value → List Value → Value
last v [] = v
last v (u ∷ rest) = last u rest

abbrev compute : List ℕ → List Value → Answer
compute t rest = if bytes_eq t (codes "1 / 0") then Err DivisionByZero else Ok (last None rest ∷ [])

abbrev answer : Module → List Value → Option (List ℕ) → Answer
answer computing.Compute (Some (text t xs) ∷ rest) file = compute t rest
answer computing.Import values None = Err NoFile
answer computing.Import values (Some bytes) = Ok (Some (text bytes no_parts) ∷ [])
answer m values file = Ok (last None values ∷ [])

abbrev no_links : World
no_links = record { link = λ k. None; written = λ name. None; file = λ name. None; answer = answer }

abbrev at : List Step → Place
at site = record { site = site; path = []; cache = 1 }

abbrev step : List ℕ → ℕ → List Step
step name k = Nth name k ∷ []

-- `a = 10; bad = Compute("1 / 0");` and a Switch of them
abbrev bad : Tree
bad = ResultTree 0 (TreeCall (function.Module computing.Compute) (at (Target (codes "bad") ∷ step (codes "Compute") 1)) (AndTree (words (codes "1 / 0")) NoTree))

abbrev switched : ℤ → Tree → Tree → Tree
switched n a b = ResultTree 0 (TreeCall function.Switch (at (step (codes "Switch") 1)) (AndTree (int n) (AndTree a (AndTree b NoTree))))

-- `p, q = Route(2, n);`
abbrev route : ℤ → CallTree
route n = TreeCall function.Route (at (Target (codes "p") ∷ step (codes "Route") 1)) (AndTree (int (pos 2)) (AndTree (int n) NoTree))

-- in a macro: `Compute("$0 + $1", Compute("1 / 0"), p)` is passed over, and the error's site is that of the later call
abbrev in_m : ℕ → Place
in_m k = record { site = Nth (codes "m") 1 ∷ step (codes "Compute") k; path = Nth (codes "m") 1 ∷ []; cache = 1 }

abbrev division : ℕ → Tree
division k = ResultTree 0 (TreeCall (function.Module computing.Compute) (in_m k) (AndTree (words (codes "1 / 0")) NoTree))

-- a link that holds 7: a Get gives it and its name
abbrev one_link : World
one_link = record { link = held; written = no_links.written; file = no_links.file; answer = answer }
  where
    held : Key → Option Object
    held (key.Global n) = if bytes_eq n (codes "n") then Some (ints [] (pos 7 ∷ [])) else None
    held (key.Local p n) = None

abbrev get : Tree → CallTree
get name = TreeCall function.GetGlobal (at (step (codes "GetGlobal") 1)) (AndTree (int (pos 0)) (AndTree name NoTree))

-- ---- the name of an Import is a selector

abbrev import : ℕ → Tree → Tree
import k name = ResultTree 0 (TreeCall (function.Module computing.Import) (in_m k) (AndTree name NoTree))

-- `Collect(Import(Compute("1 / 0")), p)` ends by the name, and with its arguments changed round nothing is run
abbrev collect : Tree → Tree → Tree
collect a b = ResultTree 0 (TreeCall (function.Module computing.Collect) (at (step (codes "Collect") 1)) (AndTree a (AndTree b NoTree)))

-- what was written under a name is read in place of the file
abbrev one_written : World
one_written = record { link = no_links.link; written = λ name. if bytes_eq name (codes "o") then Some (72 ∷ []) else None; file = λ name. Some (70 ∷ []); answer = answer }

-- what the sessions come to
pub record Examples : Type 0 where
  pub zero_is_null : outcome no_links (switched (pos 0) (int (pos 10)) (int (pos 10))) ≡ record { decided = Val None; control_uses = []; data_uses = [] }
  pub first_is_chosen : outcome no_links (switched (pos 1) (int (pos 10)) bad) ≡ record { decided = Val (number (pos 10)); control_uses = []; data_uses = [] }
  pub second_is_bad : outcome no_links (switched (pos 2) (int (pos 10)) bad) ≡ record {
    decided = ErrAt (Target (codes "bad") ∷ step (codes "Compute") 1) DivisionByZero;
    control_uses = [];
    data_uses = record { site = Target (codes "bad") ∷ step (codes "Compute") 1; called = computing.Compute; inputs = value_of (const.Text (codes "1 / 0")) ∷ [] } ∷ [];
  }
  pub text_halts : (outcome no_links (ResultTree 0 (TreeCall function.Route (at (Target (codes "p") ∷ step (codes "Route") 1)) (AndTree (words (codes "a")) (AndTree (int (pos 5)) NoTree))))).decided ≡ HaltAt (Target (codes "p") ∷ step (codes "Route") 1) BadArgument
  pub first_is_off : outcome no_links (ResultTree 0 (route (pos 5))) ≡ record { decided = Off; control_uses = []; data_uses = [] }
  pub second_is_on : outcome no_links (ResultTree 1 (route (pos 5))) ≡ record { decided = Val (number (pos 5)); control_uses = []; data_uses = [] }
  -- `Collect(Compute("1 / 0"), p)`: nothing is run
  pub nothing_runs : outcome no_links (ResultTree 0 (TreeCall (function.Module computing.Collect) (at (step (codes "Collect") 1)) (AndTree bad (AndTree (ResultTree 0 (route (pos 1))) NoTree)))) ≡ record { decided = Off; control_uses = []; data_uses = [] }
  pub passed_over : (outcome no_links (ResultTree 0 (TreeCall (function.Module computing.Compute) (in_m 1) (AndTree (words (codes "$0 + $1")) (AndTree (division 2) (AndTree (ResultTree 0 (route (pos 1))) NoTree)))))).decided ≡ Off
  pub later_site : (outcome no_links (division 3)).decided ≡ ErrAt (Nth (codes "m") 1 ∷ step (codes "Compute") 3) DivisionByZero
  pub held_is_given : (outcome one_link (ResultTree 0 (get (words (codes "n"))))).decided ≡ Val (number (pos 7))
  pub other_is_initial : (outcome one_link (ResultTree 0 (get (words (codes "x"))))).decided ≡ Val (number (pos 0))
  pub own_name : (outcome one_link (ResultTree 1 (get (ConstantTree const.Null)))).decided ≡ Val (Some (text (35 ∷ steps_text (step (codes "GetGlobal") 1)) no_parts))
  pub name_refuses : outcome no_links (import 1 (division 1)) ≡ record {
    decided = HaltAt (in_m 1).site DivisionByZero;
    control_uses = record { site = (in_m 1).site; called = computing.Compute; inputs = value_of (const.Text (codes "1 / 0")) ∷ [] } ∷ [];
    data_uses = [];
  }
  pub name_before_off : (outcome no_links (collect (import 1 (division 1)) (ResultTree 0 (route (pos 1))))).decided ≡ HaltAt (in_m 1).site DivisionByZero
  pub off_before_name : outcome no_links (collect (ResultTree 0 (route (pos 1))) (import 1 (division 1))) ≡ record { decided = Off; control_uses = []; data_uses = [] }
  pub written_is_read : (outcome one_written (import 1 (words (codes "o")))).decided ≡ Val (Some (text (72 ∷ []) no_parts))
  pub other_file_is_read : (outcome one_written (import 1 (words (codes "p")))).decided ≡ Val (Some (text (70 ∷ []) no_parts))
