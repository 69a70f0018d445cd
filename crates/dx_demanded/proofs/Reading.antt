-- The runs of an execution have what was put before it, and so they ask for the names under which nothing was put.
use Rattle.std.proofs.Common.{◌≡◌, ℕ, List, [], ◌∷◌, ◌++◌, Option, Some, None, Bool, true, false, refl, sym, ap, ap₂, ◌∙◌, subst, append-nil}
use Rattle.std.proofs.lemmas.List.Elements.{filter-append}
use Rattle.std.specs.Prelude.{Result, Ok, Err, option_map, cond, ◌||◌, is_some, not}
use Rattle.std.specs.Map.{lookup}
use Rattle.std.specs.BTreeMap.{is_at}
use Rattle.dx_base.specs.Object.{Tree as Object}
use Rattle.dx_base.specs.declared.code.Code.{Code}
use Rattle.dx_base.specs.declared.function.Function.TheVariants as function
use Rattle.dx_macros.specs.Tree.{CallTree, TreeCall, Trees}
use Rattle.dx_objects.specs.Runs.{Ran}
use Rattle.dx_tags.specs.Closed.{ValueTerm, ConstantTerm, HeldTerm, ResultTerm, FileTerm, ValueTerms}
use Rattle.dx_tags.specs.Files.{FileMap, content_of}
use Rattle.dx_links.specs.declared.key.Key.{Key}
use Rattle.dx_links.specs.LinkMap.{key_cmp}
use Rattle.dx_links.specs.Denotes.{Around, denotes}
use Rattle.dx_links.specs.Getting.{same_value, has_value}
use Rattle.dx_machine.specs.Machine.{Task, FormedCall, State, state_at, tasks_of, runs_in, name_read, as_list, read_by, reads_in, get_all}
use Rattle.dx_machine.proofs.Grows.{tasks-append}
use Rattle.dx_machine.proofs.SameTerms.{value_itself}
use Rattle.dx_meaning.specs.Scan.{Scanned, Forms, Ends, scan_each, all_scanned}
use Rattle.dx_meaning.specs.Forming.{after}
use Rattle.dx_meaning.specs.Outcome.{Value}
use Rattle.dx_meaning.proofs.Terms.{is_file_term}
use Rattle.dx_performing.specs.Execution.{execution}
use Rattle.dx_performing.specs.Kept.{Kept, Link, LinkTerms}
use Rattle.dx_performing.specs.Course.{Fixed, At, around_of, world_of, sight_of, value_or_none, frame_with, begins, formed_calls, as_terms, look_at, get_scanned, effect_got, came, ends_by, worked, unless, course, committed, clearing, executed}
use Rattle.dx_performing.specs.Meant.{LinksRight}
use Rattle.dx_performing.specs.Selectors.{selectors_all}
use Rattle.dx_demanded.specs.Reads.{HaveWhatWasPut, put_under, RunsHaveWhatWasPut, names_imported, not_put, ReadsAreOfNamesNotPut}
use Rattle.dx_demanded.proofs.Kept.{terms_in, true_behind}
use Rattle.dx_demanded.proofs.Owned.{RanOwned, owned_none, owned_then, then_owned, all_owned}
use Rattle.dx_demanded.proofs.Performed.{cleared_runs_none}
use Rattle.dx_demanded.proofs.Scanned.{Sees, arguments_own, selectors_own}

-- ---- what is seen

abbrev IsLink : List ValueTerm → ValueTerm → Type 0
IsLink links t = (is_file_term t ≡ false) × (has_value links t ≡ true)

-- a file stands for no object
no_file : (a : Around) (t : ValueTerm) (o : Object) → denotes a t ≡ Ok (Some o) → is_file_term t ≡ false
no_file a (ConstantTerm c) o e = refl
no_file a (HeldTerm n) o e = refl
no_file a (ResultTerm r c) o e = refl
no_file a (FileTerm bytes) o e = cc

link_by : (a : Around) (b : Bool) (l : Link) (links : List ValueTerm) (p : Option Link) (t : ValueTerm) → denotes a l.term ≡ Ok (Some l.object) → (option_map (λ (x : Link). x.term) p ≡ Some t → IsLink links t) →
    option_map (λ (x : Link). x.term) (cond b (Some l) p) ≡ Some t → IsLink (l.term ∷ links) t
link_by a true l links p t r f e =
    let same : l.term ≡ t = cc in
    subst (IsLink (l.term ∷ links)) same (no_file a l.term l.object r, ap (λ b. b || has_value links l.term) (value_itself l.term))
link_by a false l links p t r f e = let is = f e in (is.0, true_behind (same_value l.term t) (has_value links t) is.1)

link_at : (a : Around) (test : Key → Bool) (ls : LinkTerms) → LinksRight a ls → (t : ValueTerm) → option_map (λ (l : Link). l.term) (lookup test ls) ≡ Some t → IsLink (terms_in ls) t
link_at a test [] r t e = cc
link_at a test (l ∷ ls) r t e = link_by a (test l.0) l.1 (terms_in ls) (lookup test ls) t r.0 (link_at a test ls r.1 t) e

value_is : (r : Result Value Code) (v : Value) → value_or_none r ≡ Some v → r ≡ Ok v
value_is (Ok u) v e = let same : u ≡ v = cc in ap (λ (w : Value). Ok w) same
value_is (Err code) v e = cc

sees : (x : Fixed) (k : Kept) → LinksRight (around_of x k) k.links → Sees (around_of x k) (terms_in k.links) k.written (sight_of x k)
sees x k r = record {
  linked = λ name t e. link_at (around_of x k) (is_at (key_cmp name)) k.links r t e;
  put = λ name. refl;
  told = λ t v e. value_is (denotes (around_of x k) t) v e;
}

-- ---- an effect, and those behind it

module _ (x : Fixed) (k : Kept) (r : LinksRight (around_of x k) k.links) where
  arguments_owned : (formed : List FormedCall) (args : Trees) (y : Scanned ValueTerms) → y ≡ all_scanned (scan_each (sight_of x k) args) → (s : State) → RanOwned k.written s (state_at (get_scanned (frame_with x k formed) y s))
  arguments_owned formed args (Forms ts) e s = all_owned k.written (frame_with x k formed) ts s (arguments_own (around_of x k) (terms_in k.links) k.written (sight_of x k) (sees x k r) args ts (sym e))
  arguments_owned formed args (Ends end) e s = owned_none k.written s

  effect_owned : (formed : List FormedCall) (args : Trees) (s : State) → RanOwned k.written s (state_at (effect_got (frame_with x k formed) (look_at (sight_of x k) args) s))
  effect_owned formed args s =
      let own = as_terms (selectors_all (sight_of x k) args) in
      then_owned k.written s (get_all (frame_with x k formed) own s) (get_scanned (frame_with x k formed) (all_scanned (scan_each (sight_of x k) args)))
      (all_owned k.written (frame_with x k formed) own s (selectors_own (around_of x k) (terms_in k.links) k.written (sight_of x k) (sees x k r) args))
      (λ s1. arguments_owned formed args (all_scanned (scan_each (sight_of x k) args)) refl s1)

  ended_by : (b : Bool) (at now later : At) → RanOwned k.written at.state now.state → RanOwned k.written now.state later.state → RanOwned k.written at.state (unless b now later).state
  ended_by true at now later p q = p
  ended_by false at now later p q = owned_then k.written at.state now.state later.state p q

  course_owned : (effects : List CallTree) (at : At) → RanOwned k.written at.state (course x k effects at).state
  course_owned [] at = owned_none k.written at.state
  course_owned (TreeCall (function.Effect e) p args ∷ cs) at =
      let looked = look_at (sight_of x k) args in
      let now = worked x k e p looked at in
      ended_by (ends_by e p (came (around_of x k) looked.terms)) at now (course x k cs now) (effect_owned (formed_calls (after looked.forms at.formings)) args at.state) (course_owned cs now)
  course_owned (TreeCall (function.Module m) p args ∷ cs) at = course_owned cs at
  course_owned (TreeCall function.Switch p args ∷ cs) at = course_owned cs at
  course_owned (TreeCall function.Route p args ∷ cs) at = course_owned cs at
  course_owned (TreeCall function.GetLocal p args ∷ cs) at = course_owned cs at
  course_owned (TreeCall function.GetGlobal p args ∷ cs) at = course_owned cs at

pub runs_have_what_was_put : RunsHaveWhatWasPut
runs_have_what_was_put x k effects r =
    let at = course x k effects (begins k) in
    let behind_it = committed k (execution (world_of x k) effects) at in
    let ran = course_owned x k r effects (begins k) in
    let tasks : tasks_of (at.state.events ++ clearing behind_it) ≡ ran.more = tasks-append at.state.events (clearing behind_it) ∙ ap (λ ts. tasks_of at.state.events ++ ts) (cleared_runs_none behind_it) ∙ append-nil (tasks_of at.state.events) ∙ ran.runs in
    subst (HaveWhatWasPut k.written) (sym tasks) ran.own

-- ---- so their reads are of names under which nothing was put

one_read : (written : FileMap) (own : Option (List ℕ)) (run : Ran) (name : Option (List ℕ)) → name_read run.0 run.1 ≡ name → own ≡ put_under written name → read_by own run ≡ not_put written (as_list name)
one_read written own run None n e = ap (λ (o : Option (List ℕ)). read_by o run) e ∙ ap as_list n
one_read written own run (Some name) n e = by (content_of name written) refl
  where
    by : (o : Option (List ℕ)) → content_of name written ≡ o → read_by own run ≡ not_put written (name ∷ [])
    by None q = ap (λ (o : Option (List ℕ)). read_by o run) (e ∙ q) ∙ ap as_list n ∙ sym (rw q refl)
    by (Some bytes) q = ap (λ (o : Option (List ℕ)). read_by o run) (e ∙ q) ∙ sym (rw q refl)

pub reads_not_put : (written : FileMap) (ts : List Task) → HaveWhatWasPut written ts → reads_in ts ≡ not_put written (names_imported (runs_in ts))
reads_not_put written [] h = refl
reads_not_put written (t ∷ ts) h =
    ap₂ (λ xs ys. xs ++ ys) (one_read written t.own t.run (name_read t.run.0 t.run.1) refl h.0) (reads_not_put written ts h.1)
    ∙ sym (filter-append (λ (name : List ℕ). not (is_some (content_of name written))) (as_list (name_read t.run.0 t.run.1)) (names_imported (runs_in ts)))

pub reads_are_of_names_not_put : ReadsAreOfNamesNotPut
reads_are_of_names_not_put x k effects r = reads_not_put k.written (tasks_of (executed x effects k).events) (runs_have_what_was_put x k effects r)
