-- Executions whose outcome and course are known. Each holds by computing.
use Rattle.std.specs.Prelude.{◌≡◌, ℕ, ℤ, pos, List, [], ◌∷◌, ◌++◌, Option, Some, None, Ok, Err, codes}
use Rattle.dx_base.specs.Object.{Tree as Object, text, no_parts, results_size}
use Rattle.dx_base.specs.declared.code.Code.TheVariants.{BadArgument, Unsupported, NoFile, Overflow}
use Rattle.dx_base.specs.declared.function.Function.TheVariants as function
use Rattle.dx_base.specs.declared.function.Module.{Module}
use Rattle.dx_base.specs.declared.function.Module.TheVariants as computing
use Rattle.dx_base.specs.declared.function.Effect.{Effect}
use Rattle.dx_base.specs.declared.function.Effect.TheVariants as effect
use Rattle.dx_ast.specs.declared.constants.Const.TheVariants as const
use Rattle.dx_ast.specs.Value.{ints}
use Rattle.dx_macros.specs.Site.{Step, Nth, steps_text}
use Rattle.dx_macros.specs.Tree.{Place, Tree, ConstantTree, ResultTree, CallTree, TreeCall, Trees, NoTree, AndTree}
use Rattle.dx_objects.specs.Runs.{Values, Answer}
use Rattle.dx_links.specs.declared.key.Key.TheVariants as key
use Rattle.dx_native_text.specs.Text as native
use Rattle.dx_machine.specs.Machine.{Event, RanAt, HitAt, KeptAt}
use Rattle.dx_performing.specs.Acts.{Prints, Puts, Sets, Refuses, act}
use Rattle.dx_performing.specs.Execution.{Execution, Current, Refused, execution, behind, world_with}
use Rattle.dx_performing.specs.Kept.{new}
use Rattle.dx_performing.specs.Course.{Fixed, executed}

-- ---- values and calls

abbrev number : ℤ → Object
number n = ints [] (n ∷ [])

abbrev words : List ℕ → Object
words t = text t no_parts

abbrev site : List ℕ → List Step
site name = Nth name 1 ∷ []

-- the first call of a name in a macro `m`
abbrev at : List ℕ → Place
at name = record { site = Nth (codes "m") 1 ∷ site name; path = Nth (codes "m") 1 ∷ []; cache = 1 }

abbrev int : ℤ → Tree
int n = ConstantTree (const.Int n)

abbrev null : Tree
null = ConstantTree const.Null

abbrev word : List ℕ → Tree
word t = ConstantTree (const.Text t)

abbrev three : Tree → Tree → Tree → Trees
three a b c = AndTree a (AndTree b (AndTree c NoTree))

abbrev effect_call : Effect → List ℕ → Trees → CallTree
effect_call e name args = TreeCall (function.Effect e) (at name) args

abbrev print : Tree → CallTree
print t = effect_call effect.Print (codes "Print") (three t null null)

abbrev echo : List ℕ → CallTree
echo t = effect_call effect.Echo (codes "Echo") (AndTree (word t) NoTree)

abbrev export : Tree → List ℕ → CallTree
export t name = effect_call effect.Export (codes "Export") (three t (word name) null)

abbrev set_global : Tree → Tree → CallTree
set_global t link = effect_call effect.SetGlobal (codes "SetGlobal") (AndTree t (AndTree link NoTree))

abbrev module_call : Module → List ℕ → Trees → Tree
module_call m name args = ResultTree 0 (TreeCall (function.Module m) (at name) args)

-- a library in which Collect gives its inputs' first, Import gives its file as a text, and all others refuse
abbrev answer : Module → Values → Option (List ℕ) → Answer
answer computing.Collect (v ∷ rest) file = Ok (v ∷ [])
answer computing.Import values (Some bytes) = Ok (Some (words bytes) ∷ [])
answer computing.Import values None = Err NoFile
answer m values file = Err Overflow

abbrev no_file : List ℕ → Option (List ℕ)
no_file name = None

abbrev import : List ℕ → Tree
import name = module_call computing.Import (codes "Import") (AndTree (word name) NoTree)

abbrev collect : Tree → Tree
collect t = module_call computing.Collect (codes "Collect") (AndTree t NoTree)

abbrev refused : Tree
refused = module_call computing.Inquire (codes "Inquire") (AndTree null NoTree)

-- the result of a Route whose selector is 2 and that is its first, which is off
abbrev off : Tree
off = ResultTree 0 (TreeCall function.Route (at (codes "Route")) (AndTree (int (pos 2)) (AndTree (int (pos 5)) NoTree)))

-- the k-th call of Inquire in `m`, which is refused
abbrev again_refused : ℕ → Tree
again_refused k = ResultTree 0 (TreeCall (function.Module computing.Inquire) (record { site = Nth (codes "m") 1 ∷ Nth (codes "Inquire") k ∷ []; path = Nth (codes "m") 1 ∷ []; cache = 1 }) (AndTree null NoTree))

-- the first is formed and passed over, and the second is the one that the error names
abbrev formed_before : List CallTree
formed_before = print (module_call computing.Collect (codes "Collect") (AndTree (again_refused 1) (AndTree off NoTree))) ∷ print (again_refused 2) ∷ []

abbrev get_global : Tree → Tree
get_global link = ResultTree 0 (TreeCall function.GetGlobal (at (codes "GetGlobal")) (AndTree null (AndTree link NoTree)))

-- ---- executions with no links and nothing written

abbrev fresh : Current
fresh = record { links = []; written = [] }

abbrev done : List CallTree → Execution
done effects = execution (world_with fresh answer no_file) effects

abbrev later : List CallTree → Current
later effects = behind (done effects) fresh

-- ---- courses

abbrev fixed : ℕ → Fixed
fixed budget = record { answer = answer; file = no_file; budget = budget }

abbrev once : ℕ → List Event
once budget = (executed (fixed budget) (print (collect (int (pos 5))) ∷ []) new).events

-- the same execution once more
abbrev again : ℕ → List Event
again budget = (executed (fixed budget) (print (collect (int (pos 5))) ∷ []) (executed (fixed budget) (print (collect (int (pos 5))) ∷ []) new).kept).events

-- a link is set, and looked at in a later execution
abbrev set_and_get : List Event
set_and_get = (executed (fixed 0) (print (get_global (word (codes "n"))) ∷ []) (executed (fixed 0) (set_global (collect (int (pos 5))) (word (codes "n")) ∷ []) new).kept).events

abbrev collected : Event
collected = RanAt (steps_text (at (codes "Collect")).site) (record { run = (computing.Collect, Some (number (pos 5)) ∷ []); own = None })

pub record Examples : Type 0 where
  -- acts
  pub echoes : act effect.Echo (at []) (Some (words (codes "a")) ∷ None ∷ []) ≡ Prints (codes "a NULL" ++ 10 ∷ [])
  pub prints : act effect.Print (at []) (None ∷ None ∷ None ∷ []) ≡ Prints (codes "NULL" ++ 10 ∷ [])
  pub no_options : act effect.Print (at []) (None ∷ Some (number (pos 5)) ∷ None ∷ []) ≡ Refuses BadArgument
  pub puts : act effect.Export (at []) (Some (number (pos 5)) ∷ Some (words (codes "o")) ∷ Some (words (codes "dx")) ∷ []) ≡ Puts (codes "o") (native.text_of (number (pos 5)))
  pub nothing_to_put : act effect.Export (at []) (None ∷ Some (words (codes "o")) ∷ None ∷ []) ≡ Refuses BadArgument
  pub no_name : act effect.Export (at []) (Some (number (pos 5)) ∷ Some (words []) ∷ Some (words (codes "tiff")) ∷ []) ≡ Refuses BadArgument
  pub another_format : act effect.Export (at []) (Some (number (pos 5)) ∷ Some (words (codes "o")) ∷ Some (words (codes "tiff")) ∷ []) ≡ Refuses Unsupported
  pub sets_global : act effect.SetGlobal (at []) (Some (number (pos 5)) ∷ Some (words (codes "n")) ∷ []) ≡ Sets (key.Global (codes "n")) (Some (number (pos 5)))
  pub sets_local : act effect.SetLocal (at []) (None ∷ Some (words (codes "n")) ∷ []) ≡ Sets (key.Local (steps_text (at []).path) (codes "n")) None
  pub no_link : act effect.SetGlobal (at []) (Some (number (pos 5)) ∷ None ∷ []) ≡ Refuses BadArgument
  -- an effect that is off is passed over
  pub passed_over : (done (print off ∷ echo (codes "a") ∷ [])).printed ≡ codes "a" ++ 10 ∷ []
  -- nothing comes behind an error
  pub ends_at_error : (done (echo (codes "a") ∷ print refused ∷ echo (codes "b") ∷ [])).printed ≡ codes "a" ++ 10 ∷ []
  pub own_refusal : (done (set_global (int (pos 5)) null ∷ [])).error ≡ Some (record { site = (at (codes "SetGlobal")).site; failure = Refused BadArgument })
  -- an execution sees the files as they were when it began, and what it exported is written whatever it ended with
  pub files_as_before : (done (export (int (pos 5)) (codes "o") ∷ print (import (codes "o")) ∷ [])).error ≡ Some (record { site = (at (codes "Import")).site; failure = Refused NoFile })
  pub written_behind : (later (export (int (pos 5)) (codes "o") ∷ print (import (codes "o")) ∷ [])).written ≡ (codes "o", native.text_of (number (pos 5))) ∷ []
  -- the last Set of a key counts, and none does where there is an error
  pub last_set : (later (set_global (int (pos 5)) (word (codes "n")) ∷ set_global (int (pos 6)) (word (codes "n")) ∷ [])).links ≡ (key.Global (codes "n"), number (pos 6)) ∷ []
  pub set_of_null : (later (set_global (int (pos 5)) (word (codes "n")) ∷ set_global null (word (codes "n")) ∷ [])).links ≡ []
  pub no_set_with_error : (later (set_global (int (pos 5)) (word (codes "n")) ∷ print refused ∷ [])).links ≡ []
  -- a run is stored where the budget allows it, and found again
  pub first_time : once 1000 ≡ collected ∷ KeptAt (steps_text (at (codes "Collect")).site) (results_size (Some (number (pos 5)) ∷ [])) ∷ []
  pub second_time : again 1000 ≡ HitAt (steps_text (at (codes "Collect")).site) ∷ []
  pub no_budget : again 0 ≡ collected ∷ []
  -- a run has the site of the call that formed its term first, and an error that of the call that the meaning names
  pub run_site : (executed (fixed 0) formed_before new).events ≡ RanAt (steps_text (Nth (codes "m") 1 ∷ Nth (codes "Inquire") 1 ∷ [])) (record { run = (computing.Inquire, None ∷ []); own = None }) ∷ []
  pub error_site : (done formed_before).error ≡ Some (record { site = Nth (codes "m") 1 ∷ Nth (codes "Inquire") 2 ∷ []; failure = Refused Overflow })
  -- the value of a link needs no run, whatever is stored
  pub link_needs_no_run : set_and_get ≡ []
