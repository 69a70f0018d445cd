-- The next effect of an execution, and what fits behind it.
use Rattle.std.proofs.Common.{false, ◌≡◌, ℕ, ◌+◌, ◌<◌, ◌≤◌, List, [], ◌∷◌, ◌++◌, length, map, drop, get_or, Option, Some, None, true, refl, sym, ap, ◌∙◌, subst}
use Rattle.std.proofs.lemmas.List.{at_drop_more, at_drop_all}
use Rattle.std.proofs.Math.Logic.{∥∥₁_elim, ∥∥₁_map}
use Rattle.std.proofs.Props.{props}
use Rattle.std.specs.Prelude.{Result, Ok, Err, IsErrAnd}
use Rattle.dx_base.specs.declared.code.Code.{Code}
use Rattle.dx_base.specs.declared.function.Effect.{Effect}
use Rattle.dx_base.specs.declared.function.Function.{Function}
use Rattle.dx_base.specs.declared.function.Function.TheVariants as function
use Rattle.dx_graph.specs.Graph.{node_at, IsEffect, IsEffectNode, IsGraph}
use Rattle.dx_graph.specs.GraphView.{graph_of}
use Rattle.dx_graph.specs.Unfolding.{call_at, calls_of}
use Rattle.dx_graph.proofs.Unfolding.{unfold_by_inputs}
use Rattle.dx_demand.proofs.PortSteps.{nodes_of}
use Rattle.dx_demand.proofs.Terms.{value_grow}
use Rattle.dx_macros.specs.Tree.{CallTree, TreeCall}
use Rattle.dx_tags.specs.declared.term.Term.{Term}
use Rattle.dx_tags.specs.Closed.{GoesOn}
use Rattle.dx_links.specs.declared.held.Change.{Change}
use Rattle.dx_links.specs.Holding.{Holding}
use Rattle.dx_machine.specs.Machine.{State}
use Rattle.dx_getting.specs.Told.{Told}
use Rattle.dx_meaning.specs.Forming.{Formings}
use Rattle.dx_performing.specs.Kept.{Kept}
use Rattle.dx_performing.specs.Course.{Fixed}
use Rattle.dx_looking.specs.Setting.{nodes_in}
use Rattle.dx_looking.specs.declared.setup.Setup.{Setup}
use Rattle.dx_looking.specs.declared.progress.Progress.{Progress}
use Rattle.dx_effects.specs.Coming.{node_trees}
use Rattle.dx_engine.specs.Gathering.{gathers, Gathering, gathered_with, changes_in, is_end, error_with}
use Rattle.dx_engine.specs.Doing.{HoldingFits, DoneFits, PerformsSo, place_of_node}
use Rattle.dx_looking.specs.declared.cut.Cut.{Cut}
use Rattle.dx_looking.specs.declared.cut.Cut.TheVariants as cut
use Rattle.dx_engine.specs.Fronts.{reads_ahead}
use Rattle.dx_engine.specs.Running.{ErrorFits, ChangesFit, GatheredFits, AreRun, RunsSo, from_state}
use Rattle.dx_engine.specs.Stopping.{StopsIn}
use Rattle.dx_engine.specs.Shortened.{cut_short}
use Rattle.dx_engine.specs.declared.done.Done.{Done}
use Rattle.dx_engine.specs.declared.done.Done.TheVariants as done
use Rattle.dx_engine.specs.declared.gathered.Gathered.{Gathered}
use Rattle.dx_engine.specs.declared.short.Short.{Short}
use Rattle.dx_engine.proofs.Coursing.{OnCourse, IsDone}

-- ---- effects

surely : (f : Function) → ∥ IsEffect f ∥₁ → IsEffect f
surely (function.Effect e) h = tt
surely (function.Module m) h = ∥∥₁_elim h (hlevel props) (λ x. x)
surely function.Switch h = ∥∥₁_elim h (hlevel props) (λ x. x)
surely function.Route h = ∥∥₁_elim h (hlevel props) (λ x. x)
surely function.GetLocal h = ∥∥₁_elim h (hlevel props) (λ x. x)
surely function.GetGlobal h = ∥∥₁_elim h (hlevel props) (λ x. x)

pub effect_node : (setup : Setup) (i n : ℕ) → i < length (graph_of setup.graph.now).effects → n ≡ get_or (graph_of setup.graph.now).effects i 0 → IsEffectNode (nodes_in setup) n
effect_node setup i n lt at =
    let g = setup.graph.now in (
      ∥∥₁_elim g.lawful (hlevel props) (λ is. subst (λ m. m < length (nodes_in setup)) (sym at) (is.effects i 0 lt).0),
      surely (node_at (nodes_in setup) n).what (∥∥₁_map g.lawful (λ (is : IsGraph (graph_of g)). subst (λ m. IsEffect (node_at (nodes_in setup) m).what) (sym at) (is.effects i 0 lt).1)),
    )

effect_call : (setup : Setup) (n : ℕ) (e : Effect) → n < length (nodes_in setup) → (node_at (nodes_in setup) n).what ≡ function.Effect e → call_at (calls_of (nodes_in setup)) n ≡ TreeCall (function.Effect e) (place_of_node setup n) (node_trees setup n)
effect_call setup n e lt what =
    unfold_by_inputs (nodes_in setup) (nodes_of (graph_of setup.graph.now) setup.graph.now.lawful) n lt ∙ ap (λ f. TreeCall f (place_of_node setup n) (node_trees setup n)) what

abbrev pub rest_from : Setup → ℕ → List CallTree
rest_from setup i = map (call_at (calls_of (nodes_in setup))) (drop i (graph_of setup.graph.now).effects)

pub next_effect : (setup : Setup) (x : Fixed) (k : Kept) (base : Told) (all : List CallTree) (s : State) (f : Formings) (before : Option (List ℕ)) (g : Gathering) (at : Progress) (now : Told) (written : Option (List ℕ)) (i n : ℕ) (e : Effect) →
    i < length (graph_of setup.graph.now).effects → n ≡ get_or (graph_of setup.graph.now).effects i 0 → (node_at (nodes_in setup) n).what ≡ function.Effect e → OnCourse setup x k base all (rest_from setup i) s f before g at now written →
    OnCourse setup x k base all (TreeCall (function.Effect e) (place_of_node setup n) (node_trees setup n) ∷ rest_from setup (i + 1)) s f before g at now written
next_effect setup x k base all s f before g at now written i n e lt is what o =
    let effects = (graph_of setup.graph.now).effects in
    let calls = call_at (calls_of (nodes_in setup)) in
    subst (λ rest. OnCourse setup x k base all rest s f before g at now written)
    (at_drop_more (map calls) effects i 0 lt ∙ ap (λ m. calls m ∷ rest_from setup (i + 1)) (sym is) ∙ ap (λ c. c ∷ rest_from setup (i + 1)) (effect_call setup n e (effect_node setup i n lt is).0 what)) o

pub no_effect : (setup : Setup) (x : Fixed) (k : Kept) (base : Told) (all : List CallTree) (s : State) (f : Formings) (before : Option (List ℕ)) (g : Gathering) (at : Progress) (now : Told) (written : Option (List ℕ)) (i : ℕ) →
    length (graph_of setup.graph.now).effects ≤ i → OnCourse setup x k base all (rest_from setup i) s f before g at now written → OnCourse setup x k base all [] s f before g at now written
no_effect setup x k base all s f before g at now written i le o =
    subst (λ rest. OnCourse setup x k base all rest s f before g at now written) (at_drop_all (map (call_at (calls_of (nodes_in setup)))) (graph_of setup.graph.now).effects i le) o

-- ---- what fits

holding_grows : (old new : List Term) → GoesOn old new → (o : Option Holding) → HoldingFits old o → HoldingFits new o
holding_grows old new g None f = tt
holding_grows old new g (Some h) f = value_grow old new g h.tag f

changes_grow : (old new : List Term) → GoesOn old new → (cs : List Change) → ChangesFit old cs → ChangesFit new cs
changes_grow old new g [] f = tt
changes_grow old new g (c ∷ cs) f = (holding_grows old new g c.held f.0, changes_grow old new g cs f.1)

changes_append : (terms : List Term) (a b : List Change) → ChangesFit terms a → ChangesFit terms b → ChangesFit terms (a ++ b)
changes_append terms [] b f h = h
changes_append terms (c ∷ a) b f h = (f.0, changes_append terms a b f.1 h)

done_changes : (setup : Setup) (at : Progress) (d : Done) → DoneFits setup at d → ChangesFit at.tags (changes_in d)
done_changes setup at (done.Prints text) h = tt
done_changes setup at (done.Puts name object) h = tt
done_changes setup at (done.Sets c) h = (h, tt)
done_changes setup at done.PassedOver h = tt
done_changes setup at (done.Ends n code) h = tt

pub changes_more : (setup : Setup) (at at' : Progress) (d : Done) (cs : List Change) → GoesOn at.tags at'.tags → DoneFits setup at' d → ChangesFit at.tags cs → ChangesFit at'.tags (cs ++ changes_in d)
changes_more setup at at' d cs g h f = changes_append at'.tags cs (changes_in d) (changes_grow at.tags at'.tags g cs f) (done_changes setup at' d h)

pub error_more : (setup : Setup) (at : Progress) (d : Done) (e : Option (ℕ × Code)) → DoneFits setup at d → e ≡ None → ErrorFits setup (error_with d e)
error_more setup at (done.Prints text) e h n = subst (ErrorFits setup) (sym n) tt
error_more setup at (done.Puts name object) e h n = subst (ErrorFits setup) (sym n) tt
error_more setup at (done.Sets c) e h n = subst (ErrorFits setup) (sym n) tt
error_more setup at done.PassedOver e h n = subst (ErrorFits setup) (sym n) tt
error_more setup at (done.Ends m code) e h n = h

error_none : (d : Done) (e : Option (ℕ × Code)) → is_end d ≡ false → e ≡ None → error_with d e ≡ None
error_none (done.Prints text) e h n = n
error_none (done.Puts name object) e h n = n
error_none (done.Sets c) e h n = n
error_none done.PassedOver e h n = n
error_none (done.Ends m code) e h n = cc

pub no_error_yet : (g g' : Gathered) (d : Done) → gathers g' ≡ gathered_with d (gathers g) → is_end d ≡ false → g.error ≡ None → g'.error ≡ None
no_error_yet g g' d e h n = ap (λ (y : Gathering). y.error) e ∙ error_none d g.error h n

pub gathered_fits : (setup : Setup) (at at' : Progress) (d : Done) (g g' : Gathered) → gathers g' ≡ gathered_with d (gathers g) → GoesOn at.tags at'.tags → DoneFits setup at' d → ChangesFit at.tags g.changes → g.error ≡ None → GatheredFits setup at' g'
gathered_fits setup at at' d g g' e on h f n = record {
  error = subst (ErrorFits setup) (sym (ap (λ (y : Gathering). y.error) e)) (error_more setup at' d g.error h n);
  changes = subst (ChangesFit at'.tags) (sym (ap (λ (y : Gathering). y.changes) e)) (changes_more setup at at' d g.changes on h f);
}

-- ---- the ends

-- looking may be cut short between the reading of a file and its run
looking_reads_ahead : (c : Cut) → true ≡ reads_ahead (cut_short c)
looking_reads_ahead cut.ReadFault = refl
looking_reads_ahead cut.Memory = refl

pub runs_cut : (setup : Setup) (x : Fixed) (k : Kept) (base : Told) (all : List CallTree) (s : State) (f : Formings) (before : Option (List ℕ)) (r : Result Gathered Short) (c : Cut) → IsErrAnd r (λ short. short ≡ cut_short c) → (at : Progress) (now : Told) (written : Option (List ℕ)) → StopsIn true x k all (from_state s f) base before now written → RunsSo setup x k base all s f before r at now written
runs_cut setup x k base all s f before (Ok g) c e at now written h = absurd e
runs_cut setup x k base all s f before (Err short) c e at now written h = subst (λ ahead. StopsIn ahead x k all (from_state s f) base before now written) (looking_reads_ahead c ∙ ap reads_ahead (sym e)) h

pub are_run : (setup : Setup) (x : Fixed) (k : Kept) (base : Told) (all : List CallTree) (s : State) (f : Formings) (before : Option (List ℕ)) (g : Gathered) (at : Progress) (now : Told) (written : Option (List ℕ)) → IsDone setup x k base all s f before (gathers g) at now written → AreRun setup x k base all s f before g at now written
are_run setup x k base all s f before g at now written d = record { printed = d.printed; exports = d.exports; error = d.error; sets = d.sets; stands = d.stands }

-- what the performing of an effect is from here
abbrev pub PerformsHere : Setup → ℕ → Effect → Result Done Cut → Progress → Told → Fixed → Kept → Told → State → Formings → Type 0
PerformsHere setup n e r at now x k base s f = PerformsSo setup x k base n e s f r at now
