-- How an execution ends, and what is put in place then.
use Rattle.std.proofs.Common.{◌≡◌, ◌<◌, ◌≤◌, inl, inr, ℕ, List, [], ◌∷◌, ◌++◌, length, Bool, true, Option, Some, None, Result, Ok, Err, sym, ap, ◌∙◌, subst}
use Rattle.std.specs.Prelude.{◌==◌, if◌then◌else◌, not, is_some, IsErrAnd}
use Rattle.std.specs.List.{IsDistinct}
use Rattle.std.specs.Map.{keys_of, lookup}
use Rattle.dx_base.specs.declared.code.Code.{Code}
use Rattle.dx_graph.specs.Graph.{Node}
use Rattle.dx_io.specs.Devices.{Cause}
use Rattle.dx_io.specs.declared.fails.ExportFail.{ExportFail}
use Rattle.dx_io.specs.declared.fails.ExportFail.TheVariants as export
use Rattle.dx_io.proofs.Growing.{grows_by_nothing}
use Rattle.dx_tags.specs.contracts.term.ValueTagPartialEq.TheImpl as tags
use Rattle.dx_tags.specs.declared.term.Term.{Term}
use Rattle.dx_tags.specs.Files.{FileMap}
use Rattle.dx_links.specs.LinkMap.{LinkMap, after}
use Rattle.dx_links.specs.declared.held.Change.{Change}
use Rattle.dx_getting.specs.Bound.{IsBound, links_with}
use Rattle.dx_tags.specs.HeldTerms.{held_terms}
use Rattle.dx_links.specs.Emptied.{values_held, all_held}
use Rattle.dx_getting.specs.Terms.{BoundValues, Table, count_in}
use Rattle.dx_getting.specs.declared.event.Event.{Event}
use Rattle.dx_getting.specs.declared.event.Event.TheVariants as shown
use Rattle.dx_objects.specs.Runs.{Values}
use Rattle.dx_demand.specs.Forming.{named_terms}
use Rattle.dx_performing.specs.Execution.{Export}
use Rattle.dx_performing.specs.Kept.{is_full}
use Rattle.dx_ending.specs.Putting.{ArePutBefore}
use Rattle.dx_ending.proofs.CountLaws.{emptied_bound, nothing_found}
use Rattle.dx_engine.specs.Leaving.{ValuesLeft, IsLeft, LeavesSo, links_behind}
use Rattle.dx_engine.specs.Ending.{OnEnd, OnCut, ErrorIs, SiteIs, CutsPuts, ended_so, export_error}
use Rattle.dx_engine.specs.declared.exec_error.ExecError.{ExecError}
use Rattle.dx_engine.specs.declared.exec_error.ExecError.TheVariants.{Module, ReadFault, WriteFault, ExportFault, Memory}
use Rattle.dx_engine.specs.declared.gathered.Gathered.{Gathered}
use Rattle.dx_engine.specs.declared.state.State.{State}

-- ---- by how it ends

pub on_end : (r : Result (Unit {0}) ExecError) (P : Type 0) → P → OnEnd r P
on_end (Ok u) P p = p
on_end (Err (Module site code)) P p = p
on_end (Err ReadFault) P p = tt
on_end (Err WriteFault) P p = tt
on_end (Err ExportFault) P p = tt
on_end (Err Memory) P p = tt

pub on_cut : (r : Result (Unit {0}) ExecError) (P : Type 0) → P → OnCut r P
on_cut (Ok u) P p = tt
on_cut (Err (Module site code)) P p = tt
on_cut (Err ReadFault) P p = p
on_cut (Err WriteFault) P p = p
on_cut (Err ExportFault) P p = p
on_cut (Err Memory) P p = p

no_end : (f : ExportFail) (P : Type 0) → OnEnd (Err (export_error f)) P
no_end export.Fault P = tt
no_end export.Memory P = tt

no_error : (f : ExportFail) (nodes : List Node) (e : Option (ℕ × Code)) → ErrorIs nodes e (Err (export_error f))
no_error export.Fault nodes e = tt
no_error export.Memory nodes e = tt

abbrev is_export : Result (Unit {0}) ExecError → Type 0
is_export (Ok u) = ⊥
is_export (Err (Module site code)) = ⊥
is_export (Err ReadFault) = ⊥
is_export (Err WriteFault) = ⊥
is_export (Err ExportFault) = Unit {0}
is_export (Err Memory) = ⊥

abbrev is_memory : Result (Unit {0}) ExecError → Type 0
is_memory (Ok u) = ⊥
is_memory (Err (Module site code)) = ⊥
is_memory (Err ReadFault) = ⊥
is_memory (Err WriteFault) = ⊥
is_memory (Err ExportFault) = ⊥
is_memory (Err Memory) = Unit {0}

pub unput_is : (f : ExportFail) (r : Result (Unit {0}) ExecError) → IsErrAnd r (λ e. e ≡ export_error f) → r ≡ Err (export_error f)
unput_is f (Ok u) is = absurd is
unput_is f (Err e) is = ap Err is

pub unput_cause : (f : ExportFail) (before now : ℕ) (made : Result (Unit {0}) ExportFail) (r : Result (Unit {0}) ExecError) → made ≡ Err f → r ≡ Err (export_error f) → Cause export.Fault before now made → Cause ExportFault before now r
unput_cause export.Fault before now made r m is cause = record { later = cause.later; failed = λ e. cause.failed m; otherwise = λ n. absurd (n is) }
unput_cause export.Memory before now made r m is cause = record { later = cause.later; failed = λ e. absurd (subst is_memory (sym is ∙ e) tt); otherwise = λ n. cause.otherwise (λ e. absurd (cc (sym m ∙ e))) }

pub unput_is_no_read : (f : ExportFail) (r : Result (Unit {0}) ExecError) → r ≡ Err (export_error f) → ¬ (r ≡ Err ReadFault)
unput_is_no_read export.Fault r is e = subst is_export (sym is ∙ e) tt
unput_is_no_read export.Memory r is e = subst is_memory (sym is ∙ e) tt

pub unput_is_no_write : (f : ExportFail) (r : Result (Unit {0}) ExecError) → r ≡ Err (export_error f) → ¬ (r ≡ Err WriteFault)
unput_is_no_write export.Fault r is e = subst is_export (sym is ∙ e) tt
unput_is_no_write export.Memory r is e = subst is_memory (sym is ∙ e) tt

pub unput_end : (f : ExportFail) (r : Result (Unit {0}) ExecError) → r ≡ Err (export_error f) → (P : Type 0) → OnEnd r P
unput_end f r e P = subst (λ y. OnEnd y P) (sym e) (no_end f P)

pub unput_error : (f : ExportFail) (r : Result (Unit {0}) ExecError) → r ≡ Err (export_error f) → (nodes : List Node) (e : Option (ℕ × Code)) → ErrorIs nodes e r
unput_error f r is nodes e = subst (ErrorIs nodes e) (sym is) (no_error f nodes e)

pub ended_error : (nodes : List Node) (e : Option (ℕ × Code)) (site : Option (List ℕ × Code)) (r : Result (Unit {0}) ExecError) → SiteIs nodes e site → ended_so site r → ErrorIs nodes e r
ended_error nodes e None r s is = subst (ErrorIs nodes e) (sym is) s
ended_error nodes e (Some x) r s is = subst (ErrorIs nodes e) (sym is) s

site_tells : (nodes : List Node) (e : Option (ℕ × Code)) (site : Option (List ℕ × Code)) → SiteIs nodes e site → is_some site ≡ is_some e
site_tells nodes e None s = sym (ap is_some s)
site_tells nodes e (Some x) s = sym (ap is_some s.1)

-- ---- what was put

-- memory ran out before the first put
pub none_put : (r : Result (Unit {0}) ExecError) (was : Option (List Export)) (before behind : FileMap) (all : List Export) → IsErrAnd r (λ e. e ≡ Memory) → behind ≡ before → CutsPuts r was was before behind all
none_put (Ok u) was before behind all is e = absurd is
none_put (Err error) was before behind all is e = subst (λ (y : ExecError). CutsPuts (Err y) was was before behind all) (sym is) (inl (record { told = grows_by_nothing was; files = e }))

cut_at : (f : ExportFail) (was now : Option (List Export)) (before behind : FileMap) (all : List Export) → ArePutBefore was now before behind all → CutsPuts (Err (export_error f)) was now before behind all
cut_at export.Fault was now before behind all p = p
cut_at export.Memory was now before behind all p = inr p

-- a put failed
pub front_put : (f : ExportFail) (r : Result (Unit {0}) ExecError) (was now : Option (List Export)) (before before' behind : FileMap) (all : List Export) → r ≡ Err (export_error f) → before' ≡ before → ArePutBefore was now before' behind all → CutsPuts r was now before behind all
front_put f r was now before before' behind all is e p =
    subst (λ (y : Result (Unit {0}) ExecError). CutsPuts y was now before behind all) (sym is) (cut_at f was now before behind all (subst (λ (y : FileMap). ArePutBefore was now y behind all) e p))

-- it wasn't cut short
pub uncut_put : (site : Option (List ℕ × Code)) (r : Result (Unit {0}) ExecError) (was now : Option (List Export)) (before behind : FileMap) (all : List Export) → ended_so site r → CutsPuts r was now before behind all
uncut_put None r was now before behind all is = subst (λ (y : Result (Unit {0}) ExecError). CutsPuts y was now before behind all) (sym is) tt
uncut_put (Some s) r was now before behind all is = subst (λ (y : Result (Unit {0}) ExecError). CutsPuts y was now before behind all) (sym is) tt

-- ---- what is left

-- only the links, the values, how many links hold each, and from which tag on they are kept tell whether they are bound
pub bound_stays : (links links' : LinkMap) (bound bound' : Table) → links' ≡ links → bound'.pairs ≡ bound.pairs → bound'.counts ≡ bound.counts → bound'.from ≡ bound.from → IsBound links bound → IsBound links' bound'
bound_stays links links' bound bound' l p c n b = record {
  once = subst (λ (ps : BoundValues). IsDistinct tags.ghosts.eq (keys_of ps)) (sym p) b.once;
  below = λ t lt. ap (count_in t) c ∙ b.below t (subst (λ m. t.tag < m) n lt);
  counted = λ t le. ap (count_in t) c ∙ b.counted t (subst (λ m. m ≤ t.tag) n le) ∙ ap (links_with t) (sym l);
  found = λ t. ap (λ (ps : BoundValues). is_some (lookup (tags.ghosts.eq t) ps)) p ∙ b.found t ∙ ap (λ cs. not (count_in t cs == 0)) (sym c);
}

-- what an emptying leaves behind changes
pub left_emptied : (st st' : State) (changes made : List Change) (full : Bool) (links : LinkMap) → full ≡ true → links ≡ after st.links.links made
    → st'.links.links ≡ all_held (after st.links.links made) → st'.links.held ≡ values_held (after st.links.links made)
    → st'.bound.from ≡ length (after st.links.links made) → st'.bound.pairs ≡ [] → st'.bound.counts ≡ [] → st'.at.tags ≡ held_terms (length (after st.links.links made))
    → st'.at.work.cache.entries ≡ [] → st'.at.work.cache.budget ≡ st.at.work.cache.budget → st'.at.work.events.items ≡ st.at.work.events.items ++ shown.Clear ∷ [] → IsLeft st changes full links st'
left_emptied st st' changes made full links f w l h n p c t e b v = record {
  links_are = l ∙ ap all_held (sym w) ∙ ap (λ (y : Bool). if y then all_held links else links) (sym f);
  bound = subst (λ (ls : LinkMap). IsBound ls st'.bound) (sym l) (emptied_bound (after st.links.links made) st'.bound n p c);
  values = subst (λ (y : Bool). ValuesLeft st.bound.pairs changes y st') (sym f) (nothing_found st'.links.links st'.bound.pairs p);
  from = n ∙ ap length (sym w) ∙ ap (λ (y : Bool). if y then length links else st.bound.from) (sym f);
  tags = t ∙ ap (λ (ls : LinkMap). held_terms (length ls)) (sym w) ∙ ap (λ (y : Bool). if y then held_terms (length links) else st.at.tags) (sym f);
  held = h ∙ ap values_held (sym w) ∙ ap (λ (y : Bool). if y then values_held links else st.links.held) (sym f);
  entries = e ∙ ap (λ (y : Bool). if y then [] else st.at.work.cache.entries) (sym f);
  budget = b;
  events = v ∙ ap (λ (y : Bool). st.at.work.events.items ++ (if y then shown.Clear ∷ [] else [])) (sym f);
}

-- what is left of a state whose values and events are the same is left of it
left_so : (st st2 st3 : State) (changes : List Change) (full : Bool) (links : LinkMap) → st2.bound.pairs ≡ st.bound.pairs → st2.bound.from ≡ st.bound.from → st2.at.tags ≡ st.at.tags → st2.links.held ≡ st.links.held → st2.at.work.cache ≡ st.at.work.cache → st2.at.work.events.items ≡ st.at.work.events.items → IsLeft st2 changes full links st3 → IsLeft st changes full links st3
left_so st st2 st3 changes full links b n t h c e left = record {
  links_are = left.links_are;
  bound = left.bound;
  values = subst (λ (ps : BoundValues). ValuesLeft ps changes full st3) b left.values;
  from = left.from ∙ ap (λ (y : ℕ). if full then length links else y) n;
  tags = left.tags ∙ ap (λ (y : List Term). if full then held_terms (length links) else y) t;
  held = left.held ∙ ap (λ (y : Values). if full then values_held links else y) h;
  entries = left.entries ∙ ap (λ y. if full then [] else y.entries) c;
  budget = left.budget ∙ ap (λ y. y.budget) c;
  events = left.events ∙ ap (λ (y : List Event). y ++ (if full then shown.Clear ∷ [] else [])) e;
}

pub left_behind : (st st2 st3 : State) (nodes : List Node) (g : Gathered) (site : Option (List ℕ × Code)) (failed : Bool) → SiteIs nodes g.error site → failed ≡ is_some site → st2.bound.pairs ≡ st.bound.pairs → st2.bound.from ≡ st.bound.from → st2.at.tags ≡ st.at.tags → st2.links.held ≡ st.links.held → st2.at.work.cache ≡ st.at.work.cache → st2.at.work.events.items ≡ st.at.work.events.items → IsLeft st2 g.changes (is_full (named_terms st.at.tags)) (links_behind st.links.links failed g.changes) st3 → LeavesSo st g st3
left_behind st st2 st3 nodes g site failed s f b n t h c e left =
    subst (λ (was : Bool). IsLeft st g.changes (is_full (named_terms st.at.tags)) (links_behind st.links.links was g.changes) st3) (f ∙ site_tells nodes g.error site s)
    (left_so st st2 st3 g.changes (is_full (named_terms st.at.tags)) (links_behind st.links.links failed g.changes) b n t h c e left)
