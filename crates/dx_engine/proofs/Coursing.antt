-- How far the effects of an execution were performed, and what is left of them.
use Rattle.std.proofs.Common.{◌≡◌, inl, inr, ℕ, List, [], ◌∷◌, ◌++◌, Bool, true, false, Option, Some, None, refl, sym, ap, ap₂, ◌∙◌, subst, append_assoc, append-nil, arith}
use Rattle.std.specs.Prelude.{option_map}
use Rattle.dx_base.specs.declared.function.Effect.{Effect}
use Rattle.dx_base.specs.declared.function.Function.TheVariants as function
use Rattle.dx_io.specs.Devices.{Grows, GrowsInto}
use Rattle.dx_graph.specs.Graph.{Node}
use Rattle.dx_macros.specs.Site.{Step}
use Rattle.dx_macros.specs.Tree.{Place, CallTree, TreeCall}
use Rattle.dx_tags.specs.declared.term.Term.{Term}
use Rattle.dx_tags.specs.Closed.{Head, heads_of, GoesOn}
use Rattle.dx_links.specs.declared.held.Change.{Change}
use Rattle.dx_links.specs.Holding.{Holding}
use Rattle.dx_machine.specs.Machine.{State, Task, tasks_of}
use Rattle.dx_machine.proofs.Grows.{RunsGrow, all_grow, grows_then, grows_none}
use Rattle.dx_getting.specs.Told.{Told, Adds, AddsSome}
use Rattle.dx_getting.proofs.TellLaws.{grows_more, grows_nothing}
use Rattle.dx_demand.proofs.Growing.{term_grows}
use Rattle.dx_meaning.specs.Forming.{Formings}
use Rattle.dx_meaning.specs.Scan.{Scanned, Forms, Ends}
use Rattle.dx_tags.specs.Closed.{ValueTerms}
use Rattle.dx_machine.specs.Machine.{Frame}
use Rattle.dx_performing.specs.Execution.{Execution, execution}
use Rattle.dx_performing.specs.Kept.{Kept}
use Rattle.dx_performing.specs.Course.{Fixed, At, Looked, world_of, around_of, sight_of, frame_with, formed_calls, look_at, get_scanned, effect_got, came, ends_by, worked, unless, call_course, course, as_terms}
use Rattle.dx_ending.specs.Terms.{set_terms_of, link_of}
use Rattle.dx_looking.specs.Setting.{nodes_in}
use Rattle.dx_looking.specs.Looking.{StandsAt, IsCutIn}
use Rattle.dx_looking.specs.declared.setup.Setup.{Setup}
use Rattle.dx_looking.specs.declared.progress.Progress.{Progress}
use Rattle.dx_effects.specs.Coming.{node_trees}
use Rattle.dx_engine.specs.Gathering.{ahead, text_in, puts_in, changes_in, is_end, Gathering, nothing, gathered_with, error_of}
use Rattle.dx_engine.specs.Doing.{HoldingFits, DoneSo, node_looked, node_got, place_of_node}
use Rattle.dx_engine.specs.Running.{from_state, ChangesFit}
use Rattle.dx_engine.specs.Stopping.{StopsIn, printed_by}
use Rattle.dx_engine.specs.declared.done.Done.{Done}
use Rattle.dx_engine.specs.declared.done.Done.TheVariants as done

-- ---- the course only adds runs

scanned_grow : (k : Frame) (x : Scanned ValueTerms) (s : State) → RunsGrow s (get_scanned k x s)
scanned_grow k (Forms ts) s = all_grow k ts s
scanned_grow k (Ends e) s = grows_none s

pub effect_grows : (k : Frame) (looked : Looked) (s : State) → RunsGrow s (effect_got k looked s)
effect_grows k looked s = grows_then s _ (get_scanned k looked.terms) (all_grow k (as_terms looked.selectors) s) (scanned_grow k looked.terms)

-- from one state to another
pub record MoreRuns (s s' : State) : Type 0 where
  pub more : List Task
  pub runs : tasks_of s'.events ≡ tasks_of s.events ++ more

more_then : (a b c : State) → MoreRuns a b → MoreRuns b c → MoreRuns a c
more_then a b c m n = record { more = m.more ++ n.more; runs = n.runs ∙ ap (λ ts. ts ++ n.more) m.runs ∙ append_assoc (tasks_of a.events) m.more n.more }

pub more_none : (s : State) → MoreRuns s s
more_none s = record { more = []; runs = sym (append-nil (tasks_of s.events)) }

unless_more : (s : State) (b : Bool) (now later : At) → MoreRuns s now.state → MoreRuns now.state later.state → MoreRuns s (unless b now later).state
unless_more s true now later m n = m
unless_more s false now later m n = more_then s now.state later.state m n

worked_more : (x : Fixed) (k : Kept) (e : Effect) (p : Place) (looked : Looked) (at : At) → MoreRuns at.state (worked x k e p looked at).state
worked_more x k e p looked at = let g = effect_grows (frame_with x k (formed_calls (worked x k e p looked at).formings)) looked at.state in record { more = g.more; runs = g.runs }

call_more : (x : Fixed) (k : Kept) (c : CallTree) (rest : At → At) → ((at : At) → MoreRuns at.state (rest at).state) → (at : At) → MoreRuns at.state (call_course x k c rest at).state
call_more x k (TreeCall (function.Effect e) p args) rest h at =
    let now = worked x k e p (look_at (sight_of x k) args) at in
    unless_more at.state (ends_by e p (came (around_of x k) (look_at (sight_of x k) args).terms)) now (rest now) (worked_more x k e p (look_at (sight_of x k) args) at) (h now)
call_more x k (TreeCall (function.Module m) p args) rest h at = h at
call_more x k (TreeCall function.Switch p args) rest h at = h at
call_more x k (TreeCall function.Route p args) rest h at = h at
call_more x k (TreeCall function.GetLocal p args) rest h at = h at
call_more x k (TreeCall function.GetGlobal p args) rest h at = h at

pub course_more : (x : Fixed) (k : Kept) (cs : List CallTree) (at : At) → MoreRuns at.state (course x k cs at).state
course_more x k [] at = more_none at.state
course_more x k (c ∷ cs) at = call_more x k c (course x k cs) (course_more x k cs) at

-- ---- changes as terms grow

one_set : (old new : List Term) → GoesOn old new → (o : Option Holding) → HoldingFits old o → option_map (link_of (heads_of new)) o ≡ option_map (link_of (heads_of old)) o
one_set old new g None f = refl
one_set old new g (Some h) f = ap (λ t. Some (record { object = h.value; term = t })) (term_grows old new g h.tag f)

pub sets_same : (old new : List Term) → GoesOn old new → (cs : List Change) → ChangesFit old cs → set_terms_of (heads_of new) cs ≡ set_terms_of (heads_of old) cs
sets_same old new g [] f = refl
sets_same old new g (c ∷ cs) f = ap₂ (λ o rest. record { key = c.key; link = o } ∷ rest) (one_set old new g c.held f.0) (sets_same old new g cs f.1)

pub sets_append : (hs : List Head) (a b : List Change) → set_terms_of hs (a ++ b) ≡ set_terms_of hs a ++ set_terms_of hs b
sets_append hs [] b = refl
sets_append hs (c ∷ a) b = ap (λ rest. record { key = c.key; link = option_map (link_of hs) c.held } ∷ rest) (sets_append hs a b)

-- ---- what an effect adds to an execution

pub ahead_printed : (nodes : List Node) (site : List Step) (d : Done) (x : Execution) → is_end d ≡ false → (ahead nodes site d x).printed ≡ text_in d ++ x.printed
ahead_printed nodes site (done.Prints text) x e = refl
ahead_printed nodes site (done.Puts name object) x e = refl
ahead_printed nodes site (done.Sets c) x e = refl
ahead_printed nodes site done.PassedOver x e = refl
ahead_printed nodes site (done.Ends n code) x e = cc

pub ahead_exports : (nodes : List Node) (site : List Step) (d : Done) (x : Execution) → is_end d ≡ false → (ahead nodes site d x).exports ≡ puts_in d ++ x.exports
ahead_exports nodes site (done.Prints text) x e = refl
ahead_exports nodes site (done.Puts name object) x e = refl
ahead_exports nodes site (done.Sets c) x e = refl
ahead_exports nodes site done.PassedOver x e = refl
ahead_exports nodes site (done.Ends n code) x e = cc

pub ahead_error : (nodes : List Node) (site : List Step) (d : Done) (x : Execution) → is_end d ≡ false → (ahead nodes site d x).error ≡ x.error
ahead_error nodes site (done.Prints text) x e = refl
ahead_error nodes site (done.Puts name object) x e = refl
ahead_error nodes site (done.Sets c) x e = refl
ahead_error nodes site done.PassedOver x e = refl
ahead_error nodes site (done.Ends n code) x e = cc

-- the text of an effect is a front of what is printed from it on
pub ahead_front : (nodes : List Node) (site : List Step) (d : Done) (x : Execution) → (rest : List ℕ) × ((ahead nodes site d x).printed ≡ text_in d ++ rest)
ahead_front nodes site (done.Prints text) x = (x.printed, refl)
ahead_front nodes site (done.Puts name object) x = (x.printed, refl)
ahead_front nodes site (done.Sets c) x = (x.printed, refl)
ahead_front nodes site done.PassedOver x = (x.printed, refl)
ahead_front nodes site (done.Ends n code) x = ([], refl)

-- ---- on the course

-- these effects were performed, and none ended the execution
pub record OnCourse (setup : Setup) (x : Fixed) (k : Kept) (base : Told) (all rest : List CallTree) (s : State) (f : Formings) (before : Option (List ℕ)) (g : Gathering) (at : Progress) (now : Told) (written : Option (List ℕ)) : Type 0 where
  pub done : List CallTree
  pub all_are : all ≡ done ++ rest
  pub state : State
  pub formed : Formings
  pub stands : StandsAt setup x k base at now state formed
  pub course : (more : List CallTree) → course x k (done ++ more) (from_state s f) ≡ course x k more (record { state = state; formings = formed; sets = set_terms_of (heads_of at.tags) g.changes })
  pub text : List ℕ
  pub wrote : Grows before written text
  pub printed : (more : List CallTree) → printed_by x k (done ++ more) ≡ text ++ printed_by x k more
  pub exports : (execution (world_of x k) all).exports ≡ g.exports ++ (execution (world_of x k) rest).exports
  pub error : (execution (world_of x k) all).error ≡ (execution (world_of x k) rest).error

pub begun : (setup : Setup) (x : Fixed) (k : Kept) (base : Told) (all : List CallTree) (s : State) (f : Formings) (before : Option (List ℕ)) (at : Progress) (now : Told) → StandsAt setup x k base at now s f → OnCourse setup x k base all all s f before nothing at now before
begun setup x k base all s f before at now st = record { done = []; all_are = refl; state = s; formed = f; stands = st; course = λ more. refl; text = []; wrote = grows_nothing before; printed = λ more. refl; exports = refl; error = refl }

module _ (setup : Setup) (x : Fixed) (k : Kept) (base : Told) (all rest : List CallTree) (s : State) (f : Formings) (before : Option (List ℕ)) (g : Gathering) (at : Progress) (now : Told) (written : Option (List ℕ)) (o : OnCourse setup x k base all rest s f before g at now written) where
  all_course : course x k all (from_state s f) ≡ course x k rest (record { state = o.state; formings = o.formed; sets = set_terms_of (heads_of at.tags) g.changes })
  all_course = ap (λ cs. course x k cs (from_state s f)) o.all_are ∙ o.course rest

  all_printed : printed_by x k all ≡ o.text ++ printed_by x k rest
  all_printed = ap (printed_by x k) o.all_are ∙ o.printed rest

  done_printed : printed_by x k o.done ≡ o.text
  done_printed = ap (printed_by x k) (sym (append-nil o.done)) ∙ o.printed [] ∙ append-nil o.text

-- it ends there, or goes on with nothing
unless_same : (b : Bool) (at : At) → unless b at at ≡ at
unless_same true at = refl
unless_same false at = refl

module _ (setup : Setup) (x : Fixed) (k : Kept) (base : Told) (all rest : List CallTree) (s : State) (f : Formings) (before : Option (List ℕ)) (g : Gathering) (at : Progress) (now : Told) (written : Option (List ℕ)) (n : ℕ) (e : Effect) (o : OnCourse setup x k base all (TreeCall (function.Effect e) (place_of_node setup n) (node_trees setup n) ∷ rest) s f before g at now written) where
  abbrev here : At
  here = record { state = o.state; formings = o.formed; sets = set_terms_of (heads_of at.tags) g.changes }

  abbrev place : Place
  place = place_of_node setup n

  abbrev looked : Looked
  looked = node_looked setup x k n

  abbrev behind : At
  behind = worked x k e place looked here

  abbrev ends : Bool
  ends = ends_by e place (came (around_of x k) looked.terms)

  abbrev call : CallTree
  call = TreeCall (function.Effect e) place (node_trees setup n)

  text_is : printed_by x k o.done ≡ o.text
  text_is = done_printed setup x k base all (call ∷ rest) s f before g at now written o

  there : course x k (o.done ++ call ∷ []) (from_state s f) ≡ behind
  there = o.course (call ∷ []) ∙ unless_same ends behind

  -- cut short while it is performed
  pub cut_there : (now' : Told) → IsCutIn base now' (node_got setup x k n o.state o.formed) → StopsIn true x k all (from_state s f) base before now' written
  cut_there now' h = record {
    whole = o.done;
    next = call ∷ [];
    rest = rest;
    all = o.all_are;
    few = omega arith;
    front = [];
    left = printed_by x k (call ∷ []);
    text = o.printed (call ∷ []) ∙ ap (λ y. y ++ printed_by x k (call ∷ [])) (sym text_is);
    printed = subst (Grows before written) (sym (append-nil (printed_by x k o.done) ∙ text_is)) o.wrote;
    told = inr (refl, refl, subst (λ (a : At). AddsSome base now' (tasks_of a.state.events)) (sym there) h);
  }

  module _ (d : Done) (at' : Progress) (now' : Told) (so : DoneSo setup x k base n e o.state o.formed d at' now') (on : GoesOn at.tags at'.tags) (fits : ChangesFit at.tags g.changes) where
    sets_behind : behind.sets ≡ set_terms_of (heads_of at'.tags) (g.changes ++ changes_in d)
    sets_behind = ap₂ (λ a b. a ++ b) (sym (sets_same at.tags at'.tags on g.changes fits)) so.sets ∙ sym (sets_append (heads_of at'.tags) g.changes (changes_in d))

    behind_is : behind ≡ record { state = behind.state; formings = behind.formings; sets = set_terms_of (heads_of at'.tags) (g.changes ++ changes_in d) }
    behind_is = ap (λ z. record { state = behind.state; formings = behind.formings; sets = z }) sets_behind

    decided : (more : List CallTree) → printed_by x k (call ∷ more) ≡ (ahead (nodes_in setup) place.site d (execution (world_of x k) more)).printed
    decided more = ap (λ (y : Execution). y.printed) (so.decides (execution (world_of x k) more))

    -- cut short while its text is printed
    pub cut_printing : (ahead : Bool) (written' : Option (List ℕ)) → GrowsInto written written' (text_in d) → StopsIn ahead x k all (from_state s f) base before now' written'
    cut_printing ahead written' p =
        let a = ahead_front (nodes_in setup) place.site d (execution (world_of x k) []) in
        record {
          whole = o.done;
          next = call ∷ [];
          rest = rest;
          all = o.all_are;
          few = omega arith;
          front = p.0;
          left = p.1 ++ a.0;
          text = o.printed (call ∷ []) ∙ ap (λ y. y ++ printed_by x k (call ∷ [])) (sym text_is) ∙ ap (λ y. printed_by x k o.done ++ y) (decided [] ∙ a.1 ∙ ap (λ y. y ++ a.0) p.2 ∙ append_assoc p.0 p.1 a.0);
          printed = subst (λ y. Grows before written' (y ++ p.0)) (sym text_is) (grows_more before written written' o.text p.0 o.wrote p.3);
          told = inl (subst (λ (y : At). Adds base now' (tasks_of y.state.events)) (sym there) so.stands.work.told);
        }

    -- it goes on with the others
    pub goes_on : is_end d ≡ false → (written' : Option (List ℕ)) → Grows written written' (text_in d) → OnCourse setup x k base all rest s f before (gathered_with d g) at' now' written'
    goes_on none written' p = record {
      done = o.done ++ call ∷ [];
      all_are = o.all_are ∙ sym (append_assoc o.done (call ∷ []) rest);
      state = behind.state;
      formed = behind.formings;
      stands = so.stands;
      course = λ more. ap (λ cs. course x k cs (from_state s f)) (append_assoc o.done (call ∷ []) more) ∙ o.course (call ∷ more) ∙ ap (λ b. unless b behind (course x k more behind)) (so.ends ∙ none) ∙ ap (course x k more) behind_is;
      text = o.text ++ text_in d;
      wrote = grows_more before written written' o.text (text_in d) o.wrote p;
      printed = λ more. ap (printed_by x k) (append_assoc o.done (call ∷ []) more) ∙ o.printed (call ∷ more) ∙ ap (λ y. o.text ++ y) (decided more ∙ ahead_printed (nodes_in setup) place.site d (execution (world_of x k) more) none) ∙ sym (append_assoc o.text (text_in d) (printed_by x k more));
      exports = o.exports ∙ ap (λ y. g.exports ++ y) (ap (λ (y : Execution). y.exports) (so.decides (execution (world_of x k) rest)) ∙ ahead_exports (nodes_in setup) place.site d (execution (world_of x k) rest) none) ∙ sym (append_assoc g.exports (puts_in d) (execution (world_of x k) rest).exports);
      error = o.error ∙ ap (λ (y : Execution). y.error) (so.decides (execution (world_of x k) rest)) ∙ ahead_error (nodes_in setup) place.site d (execution (world_of x k) rest) none;
    }

-- ---- behind the last effect

-- nothing is left
pub record IsDone (setup : Setup) (x : Fixed) (k : Kept) (base : Told) (all : List CallTree) (s : State) (f : Formings) (before : Option (List ℕ)) (g : Gathering) (at : Progress) (now : Told) (written : Option (List ℕ)) : Type 0 where
  pub printed : Grows before written (execution (world_of x k) all).printed
  pub exports : g.exports ≡ (execution (world_of x k) all).exports
  pub error : error_of (nodes_in setup) g.error ≡ (execution (world_of x k) all).error
  pub sets : set_terms_of (heads_of at.tags) g.changes ≡ (course x k all (from_state s f)).sets
  pub stands : StandsAt setup x k base at now (course x k all (from_state s f)).state (course x k all (from_state s f)).formings

pub done_so : (setup : Setup) (x : Fixed) (k : Kept) (base : Told) (all : List CallTree) (s : State) (f : Formings) (before : Option (List ℕ)) (g : Gathering) (at : Progress) (now : Told) (written : Option (List ℕ)) → g.error ≡ None → OnCourse setup x k base all [] s f before g at now written → IsDone setup x k base all s f before g at now written
done_so setup x k base all s f before g at now written none o = record {
  printed = subst (Grows before written) (sym (all_printed setup x k base all [] s f before g at now written o ∙ append-nil o.text)) o.wrote;
  exports = sym (o.exports ∙ append-nil g.exports);
  error = ap (error_of (nodes_in setup)) none ∙ sym o.error;
  sets = sym (ap (λ (a : At). a.sets) (all_course setup x k base all [] s f before g at now written o));
  stands = subst (λ (a : At). StandsAt setup x k base at now a.state a.formings) (sym (all_course setup x k base all [] s f before g at now written o)) o.stands;
}

module _ (setup : Setup) (x : Fixed) (k : Kept) (base : Told) (all rest : List CallTree) (s : State) (f : Formings) (before : Option (List ℕ)) (g : Gathering) (at : Progress) (now : Told) (written : Option (List ℕ)) (n : ℕ) (e : Effect) (o : OnCourse setup x k base all (TreeCall (function.Effect e) (place_of_node setup n) (node_trees setup n) ∷ rest) s f before g at now written) (at' : Progress) (now' : Told) (on : GoesOn at.tags at'.tags) (fits : ChangesFit at.tags g.changes) where
  end_by : (d : Done) → DoneSo setup x k base n e o.state o.formed d at' now' → is_end d ≡ true → (written' : Option (List ℕ)) → Grows written written' (text_in d) → IsDone setup x k base all s f before (gathered_with d g) at' now' written'
  end_by (done.Prints text) so is written' p = cc
  end_by (done.Puts name object) so is written' p = cc
  end_by (done.Sets c) so is written' p = cc
  end_by done.PassedOver so is written' p = cc
  end_by (done.Ends m code) so is written' p =
      let w = world_of x k in
      let b = behind setup x k base all rest s f before g at now written n e o in
      let cs = call setup x k base all rest s f before g at now written n e o ∷ rest in
      let there : course x k all (from_state s f) ≡ b = all_course setup x k base all cs s f before g at now written o ∙ ap (λ y. unless y b (course x k rest b)) so.ends in
      let ended = so.decides (execution w rest) in
      record {
        printed = subst (Grows before written') (sym (all_printed setup x k base all cs s f before g at now written o ∙ ap (λ y. o.text ++ y) (ap (λ (y : Execution). y.printed) ended))) (grows_more before written written' o.text [] o.wrote p);
        exports = sym (o.exports ∙ ap (λ y. g.exports ++ y) (ap (λ (y : Execution). y.exports) ended));
        error = sym (o.error ∙ ap (λ (y : Execution). y.error) ended);
        sets = sym (sets_behind setup x k base all rest s f before g at now written n e o (done.Ends m code) at' now' so on fits) ∙ sym (ap (λ (a : At). a.sets) there);
        stands = subst (λ (a : At). StandsAt setup x k base at' now' a.state a.formings) (sym there) so.stands;
      }

  pub ends_there : (d : Done) → DoneSo setup x k base n e o.state o.formed d at' now' → is_end d ≡ true → (written' : Option (List ℕ)) → Grows written written' (text_in d) → IsDone setup x k base all s f before (gathered_with d g) at' now' written'
  ends_there = end_by
