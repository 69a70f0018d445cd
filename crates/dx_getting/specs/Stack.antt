-- Calls in work, each for the next, and the getting that is left of them.
use Rattle.std.specs.Prelude.{◌≡◌, ℕ, zero, suc, ◌+◌, ◌<◌, ◌≤◌, List, [], ◌∷◌, length, take, drop, slice_get, nat_eq, Bool, true, false, Option, Some, None, Result, Ok, Err}
use Rattle.std.specs.Map.{lookup}
use Rattle.std.specs.declared.rc.Rc.{Rc}
use Rattle.std.specs.declared.alloc.Global.{Global}
use Rattle.dx_base.specs.Object.{Tree}
use Rattle.dx_base.specs.declared.function.Module.{Module}
use Rattle.dx_objects.specs.Values.{value_of}
use Rattle.dx_tags.specs.declared.term.Term.{Term}
use Rattle.dx_tags.specs.declared.term.Term.TheVariants.{Constant, Held as HeldBy, Call, File}
use Rattle.dx_tags.specs.declared.term.ValueTag.{ValueTag}
use Rattle.dx_tags.specs.Closed.{ValueTerm, ConstantTerm, HeldTerm, ResultTerm, FileTerm, CallTerm, CallOf, ValueTerms, NoTerm, AndTerm, Head, heads_of, head_at, value_term, value_terms}
use Rattle.dx_tags.specs.Whole.{is_file, HaveNoFile}
use Rattle.dx_base.specs.Modules.{Takes}
use Rattle.dx_links.specs.Denotes.{denotes, all_denote, own_file}
use Rattle.dx_links.specs.Getting.{has_value}
use Rattle.dx_cache.specs.declared.entry.Entry.{Entry}
use Rattle.dx_cache.specs.Cached as kept
use Rattle.dx_machine.specs.Machine.{Frame, State, Got, Went, and_then, state_at, run_call, get, get_call, get_all}
use Rattle.dx_getting.specs.declared.work.Work.{Work}
use Rattle.dx_getting.specs.declared.fail.GetFail.{GetFail}
use Rattle.dx_getting.specs.declared.working.Open.{Open}
use Rattle.dx_getting.specs.declared.working.Next.{Next}
use Rattle.dx_getting.specs.declared.working.Next.TheVariants.{Argument, Run}
use Rattle.dx_getting.specs.Told.{Told}
use Rattle.dx_getting.specs.Stands.{Setting, World, MayGet, Stands, WentTo, FailsAt, IsCut, IsReady, around_of, frame_of, link_terms, call_at}

-- a term whose call is got
pub record IsToGet (e : Setting) (t : ValueTag) : Type 0 where
  pub may : MayGet e t.tag
  pub form : value_term (heads_of e.terms) t ≡ ResultTerm t.result (call_at (heads_of e.terms) t.tag)
  pub free : has_value (link_terms (heads_of e.terms) e.links) (ResultTerm t.result (call_at (heads_of e.terms) t.tag)) ≡ false

-- ---- what is left

-- the arguments of a call's term
abbrev pub args_in : Option Term → List ValueTag
args_in None = []
args_in (Some (Constant c)) = []
args_in (Some (HeldBy k)) = []
args_in (Some (File b)) = []
args_in (Some (Call m args)) = args

-- the getting of a call's arguments from one on, and its run
abbrev pub rest_in : Frame → List Head → Option Term → ℕ → State → Got
rest_in k hs None n s = Went s
rest_in k hs (Some (Constant c)) n s = Went s
rest_in k hs (Some (HeldBy i)) n s = Went s
rest_in k hs (Some (File b)) n s = Went s
rest_in k hs (Some (Call m args)) n s = and_then (get_all k (value_terms hs (drop n args)) s) (run_call k m (value_terms hs args) (all_denote k.around (value_terms hs args)))

abbrev pub term_of : List Term → Open → Option Term
term_of terms o = slice_get terms o.wanted.tag

-- what is left of the call on top, whose next argument is the first that has no value
abbrev pub rest_top : Frame → List Term → Open → State → Got
rest_top k terms o s = rest_in k (heads_of terms) (term_of terms o) (length o.inputs) s

-- what is left of a call whose next argument is got by the call above it
abbrev pub rest_under : Frame → List Term → Open → State → Got
rest_under k terms o s = rest_in k (heads_of terms) (term_of terms o) (suc (length o.inputs)) s

-- what is left below the top, the lowest first
abbrev pub rest_below : Frame → List Term → List Open → State → Got
rest_below k terms [] s = Went s
rest_below k terms (o ∷ os) s = and_then (rest_below k terms os s) (rest_under k terms o)

-- what is left of the whole stack
abbrev pub rest_of : Frame → List Term → List Open → Open → State → Got
rest_of k terms below top s = and_then (rest_top k terms top s) (rest_below k terms below)

-- ---- the stack

pub record IsOpen (e : Setting) (o : Open) : Type 0 where
  pub may : MayGet e o.wanted.tag
  pub «module» : Module
  pub args : List ValueTag
  pub term : slice_get e.terms o.wanted.tag ≡ Some (Call «module» args)
  pub fits : length o.inputs ≤ length args
  pub plain : HaveNoFile (heads_of e.terms) (take (length o.inputs) args)

abbrev pub above : List Open → Open → Open
above [] top = top
above (o ∷ os) top = o

-- a call works for the next argument of the one below it
pub record IsAbove (e : Setting) (under over : Open) : Type 0 where
  pub arg : slice_get (args_in (term_of e.terms under)) (length under.inputs) ≡ Some over.wanted
  pub to_get : IsToGet e over.wanted
  pub smaller : over.wanted.tag < under.wanted.tag

abbrev pub AreBelow : Setting → List Open → Open → Type 0
AreBelow e [] top = Unit {0}
AreBelow e (o ∷ os) top = IsOpen e o × IsAbove e o (above os top) × AreBelow e os top

abbrev pub IsStack : Setting → List Open → Open → Type 0
IsStack e below top = IsOpen e top × AreBelow e below top

-- no entry has a tag, and its call isn't known
pub record IsAway (w : Work) (tag : ℕ) : Type 0 where
  pub entry : kept.find tag w.cache.entries ≡ None
  pub known : lookup (nat_eq tag) w.known.calls ≡ None

-- so it is for each call in work
abbrev pub AreAway : Work → List Open → Type 0
AreAway w [] = Unit {0}
AreAway w (o ∷ os) = IsAway w o.wanted.tag × AreAway w os

-- the values that a call has are those of its first arguments
abbrev pub HasInputs : Setting → World → Open → Type 0
HasInputs e files o = all_denote (around_of e files) (value_terms (heads_of e.terms) (take (length o.inputs) (args_in (term_of e.terms o)))) ≡ Ok o.inputs

abbrev pub HaveInputs : Setting → World → List Open → Type 0
HaveInputs e files [] = Unit {0}
HaveInputs e files (o ∷ os) = HasInputs e files o × HaveInputs e files os

-- the call that the whole stack works for
abbrev pub lowest : List Open → Open → ValueTag
lowest below top = (above below top).wanted

-- ---- how much is left at most

abbrev mutual
  pub size_of : ValueTerm → ℕ
  size_of (ConstantTerm c) = 1
  size_of (HeldTerm k) = 1
  size_of (FileTerm b) = 1
  size_of (ResultTerm result c) = 2 + size_of_call c

  pub size_of_call : CallTerm → ℕ
  size_of_call (CallOf m ts) = sizes_of ts

  pub sizes_of : ValueTerms → ℕ
  sizes_of NoTerm = 0
  sizes_of (AndTerm t ts) = size_of t + sizes_of ts

abbrev pub left_in : List Head → Option Term → ℕ → ℕ
left_in hs o n = 1 + sizes_of (value_terms hs (drop n (args_in o)))

abbrev pub left_below : List Term → List Open → ℕ
left_below terms [] = 0
left_below terms (o ∷ os) = left_in (heads_of terms) (term_of terms o) (suc (length o.inputs)) + left_below terms os

abbrev pub left_of : List Term → List Open → Open → ℕ
left_of terms below top = left_in (heads_of terms) (term_of terms top) (length top.inputs) + left_below terms below

-- ---- what steps do

-- what a call has to do next: an argument that is no file is got, or it is run, on its inputs and the file that it has
pub record IsArgument (e : Setting) (o : Open) (arg : ValueTag) : Type 0 where
  pub at : slice_get (args_in (term_of e.terms o)) (length o.inputs) ≡ Some arg
  pub plain : is_file (head_at (heads_of e.terms) arg.tag) ≡ false

pub record IsReadyToRun (e : Setting) (o : Open) (m : Module) (file : Option (List ℕ)) : Type 0 where
  pub args : List ValueTag
  pub term : slice_get e.terms o.wanted.tag ≡ Some (Call m args)
  pub takes : Takes m (length o.inputs)
  pub own : own_file (value_terms (heads_of e.terms) args) ≡ file
  pub inputs : (files : World) → HasInputs e files o → all_denote (around_of e files) (value_terms (heads_of e.terms) args) ≡ Ok o.inputs
  pub rest : (k : Frame) (s : State) → get_all k (value_terms (heads_of e.terms) (drop (length o.inputs) args)) s ≡ Went s

abbrev pub NextIs : Setting → Open → Next → Type 0
NextIs e o (Argument arg) = IsArgument e o arg
NextIs e o (Run m None) = IsReadyToRun e o m None
NextIs e o (Run m (Some content)) = IsReadyToRun e o m (Some content.now)

-- a value at hand, or a call that has to run
abbrev pub AtHand : {E : Type 0} → Setting → World → Told → ValueTag → Result (Option (Option (Rc Tree Global))) E → Got → Work → Work → Told → Type 0
AtHand e files base t (Ok (Some v)) g old w now = WentTo e files base g w now × (denotes (around_of e files) (value_term (heads_of e.terms) t) ≡ Ok (value_of v))
AtHand e files base t (Ok None) g old w now = (s : State) × Stands e files w base now s × (g ≡ rest_in (frame_of e files old.cache.budget) (heads_of e.terms) (slice_get e.terms t.tag) 0 s)
AtHand e files base t (Err _) g old w now = IsCut e files w base now (state_at g)

-- so much was left for the machine, and it is what is left now, where the work stands
abbrev pub GoesOn : Setting → World → Told → ℕ → Got → List Open → Open → Work → Told → Type 0
GoesOn e files base budget g below top w now =
    (s : State) × Stands e files w base now s × (g ≡ rest_of (frame_of e files budget) e.terms below top s) × HasInputs e files top × HaveInputs e files below

abbrev pub TakesOn : {A E : Type 0} → Setting → World → Told → ℕ → Result A E → Got → List Open → Open → Work → Told → Type 0
TakesOn e files base budget (Ok _) g below top w now = GoesOn e files base budget g below top w now
TakesOn e files base budget (Err _) g below top w now = IsCut e files w base now (state_at g)

-- one step of the stack
abbrev pub Steps : Setting → World → Told → ℕ → ValueTag → Result Bool GetFail → Got → List Open → Open → Work → Told → Type 0
Steps e files base budget t (Ok true) g below top w now = WentTo e files base g w now × IsReady t.tag w.known.calls
Steps e files base budget t (Ok false) g below top w now = GoesOn e files base budget g below top w now
Steps e files base budget t (Err fail) g below top w now = FailsAt e files base fail g w now

-- what a step that isn't the last leaves
pub record IsStepped (e : Setting) (w : Work) (left : ℕ) (t : ValueTag) (below : List Open) (top : Open) : Type 0 where
  pub stack : IsStack e below top
  pub away : IsAway w top.wanted.tag × AreAway w below
  pub less : left_of e.terms below top < left
  pub same : lowest below top ≡ t

abbrev pub OnStep : {E : Type 0} → Result Bool E → Type 0 → Type 0
OnStep (Ok true) P = Unit {0}
OnStep (Ok false) P = P
OnStep (Err fail) P = Unit {0}
