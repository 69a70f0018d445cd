-- What the code does with the values of an effect's arguments.
use Rattle.std.proofs.Common.{◌≡◌, ℕ, ◌+◌, ◌<◌, ◌≤◌, List, [], ◌∷◌, length, Option, Some, None, sym, subst}
use Rattle.std.specs.Prelude.{Result, Ok, Err, IfOk}
use Rattle.dx_base.specs.Object.{Tree as Object}
use Rattle.dx_base.specs.declared.function.Effect.{Effect}
use Rattle.dx_base.specs.declared.function.Function.TheVariants as function
use Rattle.dx_ast.specs.Table.{row_of}
use Rattle.dx_graph.specs.Graph.{node_at}
use Rattle.dx_graph.specs.GraphView.{graph_of}
use Rattle.dx_objects.specs.Runs.{Values}
use Rattle.dx_tags.specs.declared.term.Term.{Term}
use Rattle.dx_tags.specs.declared.term.ValueTag.{ValueTag}
use Rattle.dx_demand.specs.Terms.{AreArguments}
use Rattle.dx_demand.proofs.PortSteps.{nodes_of}
use Rattle.dx_performing.specs.Acts.{Act}
use Rattle.dx_acts.specs.Answers.{AreValues}
use Rattle.dx_looking.specs.Setting.{nodes_in}
use Rattle.dx_looking.specs.declared.cut.Cut.{Cut}
use Rattle.dx_looking.specs.declared.setup.Setup.{Setup}
use Rattle.dx_looking.specs.declared.progress.Progress.{Progress}
use Rattle.dx_engine.specs.Doing.{HoldingFits, DoneFits}
use Rattle.dx_engine.specs.Answering.{held_as, Does}
use Rattle.dx_engine.specs.declared.done.Done.{Done}
use Rattle.dx_engine.specs.declared.done.Done.TheVariants as done

held_fits : (terms : List Term) (v : Option Object) (ts : List ValueTag) → AreArguments terms ts → HoldingFits terms (held_as v ts)
held_fits terms None ts a = tt
held_fits terms (Some o) [] a = tt
held_fits terms (Some o) (t ∷ ts) a = record { fits = record { within = a.earlier.0.0; result = a.earlier.0.1 }; value = a.values.0 }

does_fits : (setup : Setup) (at : Progress) (a : Act) (ts : List ValueTag) (n : ℕ) → AreArguments at.tags ts → n < length (nodes_in setup) → (d : Done) → Does a ts n d → DoneFits setup at d
does_fits setup at a ts n args lt (done.Prints text) h = tt
does_fits setup at a ts n args lt (done.Puts name object) h = tt
does_fits setup at a ts n args lt (done.Sets c) h = subst (HoldingFits at.tags) (sym h.2) (held_fits at.tags h.0 ts args)
does_fits setup at a ts n args lt done.PassedOver h = tt
does_fits setup at a ts n args lt (done.Ends m code) h = subst (λ o. o < length (nodes_in setup)) (sym h.1) lt

pub act_fits : (setup : Setup) (at : Progress) (a : Act) (ts : List ValueTag) (n : ℕ) → AreArguments at.tags ts → n < length (nodes_in setup) → (r : Result Done Cut) → IfOk r (λ d. Does a ts n d) → IfOk r (λ d. DoneFits setup at d)
act_fits setup at a ts n args lt (Ok d) h = does_fits setup at a ts n args lt d h
act_fits setup at a ts n args lt (Err cut) h = tt

-- an effect has as many values as it takes arguments
pub values_fit : (setup : Setup) (n : ℕ) → n < length (nodes_in setup) → (e : Effect) → (node_at (nodes_in setup) n).what ≡ function.Effect e → (vs : Values) → length vs ≡ length (node_at (nodes_in setup) n).inputs → AreValues e vs
values_fit setup n lt e what vs count =
    let node = nodes_of (graph_of setup.graph.now) setup.graph.now.lawful n lt in
    let enough = subst (λ f. length (row_of f).params ≤ length (node_at (nodes_in setup) n).inputs) what node.enough in
    let few = subst (λ f. length (node_at (nodes_in setup) n).inputs ≤ length (row_of f).params + (row_of f).more) what node.few in
    record {
      enough = subst (λ k. length (row_of (function.Effect e)).params ≤ k) (sym count) enough;
      few = subst (λ k. k ≤ length (row_of (function.Effect e)).params + (row_of (function.Effect e)).more) (sym count) few;
    }
