use Rattle.std.proofs.Common.{◌≡◌, ◌∙◌, [], List, Option, Some, None, All, map, IfSome, sym, ap, ap₂, subst}
use Rattle.dx_ast.specs.declared.expressions.Arg.{Arg}
use Rattle.dx_ast.specs.declared.expressions.Call.{out-Call}
use Rattle.dx_ast.specs.Plain.{plain_args, plain_call}
use Rattle.dx_ast.specs.Syntax.{Call}
use Rattle.dx_ast.proofs.PlainLaws.{plain_call_out}
use Rattle.dx_graph.specs.GraphView.{graph_of}
use Rattle.dx_graph.specs.Operands.{GivenFits, given_of}
use Rattle.dx_graph.specs.declared.given.Given.{Given}
use Rattle.dx_graph.specs.declared.graph.Graph.{Graph}
use Rattle.dx_graph.specs.Unfolding.{unfolded}
use Rattle.dx_macros.specs.Dictionary.{callee, of_call}
use Rattle.dx_macros.specs.DictionaryView.{dictionary_of}
use Rattle.dx_macros.specs.Expansion.{effects_among, kept_of, top_spot}
use Rattle.dx_macros.specs.Tree.{CallTree}
use Rattle.dx_macros.specs.Walk.{fault_in, walk_of}
use Rattle.dx_signatures.specs.Callees.{Callee, CallsFunction}
use Rattle.dx_signatures.specs.CalleeView.{plain_callee}
use Rattle.dx_signatures.specs.Faults.{arg_names, fault_of_call}
use Rattle.dx_texts.specs.Expanding.{function_call, function_expanded}
use Rattle.dx_flat.specs.Flat.{AreFlat}
use Rattle.dx_flat.proofs.FlatCalls.{call_goes, call_effects}
use Rattle.dx_texts.proofs.LawfulParts.{call_args, call_cache}
use Rattle.dx_flat.proofs.flat.flat_call.Goals as goal

pub flat_args-requires : goal.flat_args-requires
flat_args-requires c = record { lawful = call_args c.args.c.now c.as_slice-args.result.now c.as_slice-args.ensures c.requires.lawful }

pub graph_of_one-requires : goal.graph_of_one-requires
graph_of_one-requires c = record {
  given = subst (λ (gs : List Given). All (GivenFits []) gs) (sym c.as_slice.ensures) (c.in_ok-given.ensures.fits []);
  cache = call_cache c.args.c.now c.requires.lawful;
}

if_some : {A : Type 0} {P : A → Type 0} (o : Option A) → ((x : A) → P x) → IfSome o P
if_some (Some a) h = h a
if_some None h = tt

comes_to : (o : Option Graph) (made effects : List CallTree) → made ≡ effects → IfSome o (λ g. unfolded (graph_of g) ≡ made) → IfSome o (λ g. unfolded (graph_of g) ≡ effects)
comes_to (Some g) made effects e h = h ∙ e
comes_to None made effects e h = h

pub returns : goal.returns
returns c =
    let d = dictionary_of c.args.d.now in
    let f = c.args.f.now in
    let fn = c.in-Function.function in
    let code = out-Call c.args.c.now in
    let gs = map (given_of []) c.in_ok-given.given in
    let what : callee d.macros code.name ≡ plain_callee c.called-callee.result = ap (callee d.macros) (sym c.bytes.ensures) ∙ sym c.called-callee.ensures in
    let called : callee d.macros code.name ≡ CallsFunction fn = what ∙ ap plain_callee c.in-Function.is in
    let none : fault_of_call 0 (callee d.macros code.name) 64 (arg_names (plain_args code.args)) 0 ≡ None =
    ap₂ (λ (k : Callee) (xs : List Arg). fault_of_call 0 k 64 (arg_names (plain_args xs)) 0) what (sym c.as_slice-args.ensures) ∙ c.is_faultless.ensures c.if-not-is_faultless.false in
    let flat = subst (λ (xs : List Arg). AreFlat d f (plain_args xs) gs) c.as_slice-args.ensures (c.in_ok-given.ensures.flat []) in
    let goes = ap (λ (k : Call). fault_in (walk_of d (of_call k))) (plain_call_out c.args.c.now) ∙ call_goes d f code.name code.cache (plain_args code.args) gs fn called none flat in
    let made : List Given → List CallTree = λ xs. effects_among (function_expanded fn (function_call (top_spot []) fn code.cache 1 (map (given_of []) xs))).kept in
    let means : made c.as_slice.result.now ≡ effects_among (kept_of 64 d f (Some (of_call (plain_call c.args.c.now)))) =
    ap made c.as_slice.ensures ∙ call_effects d f code.name code.cache (plain_args code.args) gs fn called flat ∙ ap (λ (k : Call). effects_among (kept_of 64 d f (Some (of_call k)))) (sym (plain_call_out c.args.c.now)) in
    record {
      fault = if_some c.graph_of_one.result (λ g. goes);
      means = comes_to c.graph_of_one.result (made c.as_slice.result.now) _ means c.graph_of_one.ensures;
    }
