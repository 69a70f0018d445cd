use Rattle.std.proofs.Common.{refl, arith}
use Rattle.dx_macros.specs.DictionaryView.{dictionary_of}
use Rattle.dx_graph.proofs.Taking.{all_push}
use Rattle.dx_graph.specs.Operands.{GivenFits}
use Rattle.dx_flat.proofs.FlatCalls.{flat_step, flat_done}
use Rattle.dx_texts.proofs.LawfulParts.{arg_lawful}
use Rattle.dx_flat.proofs.flat.flat_args.Goals as goal

pub flat_operand-requires : goal.flat_operand-requires
flat_operand-requires c = record { lawful = arg_lawful c.args.args.now c.loop-arg.arg-index c.arg-item.result c.loop-arg-test.true c.arg-item.is c.requires.lawful }

pub loop-arg-preserved : goal.loop-arg-preserved
loop-arg-preserved c =
    let so_far = c.loop-arg.invariant in
    record {
      flat = λ nodes.
          flat_step (dictionary_of c.args.d.now) c.args.f.now c.args.args.now c.loop-arg.arg-index c.arg-item.result nodes c.loop-arg.given c.push.new.self _
          c.loop-arg-test.true c.arg-item.is refl c.in-Ok.ensures.ok (c.in_ok-operand.ensures.tree nodes) (so_far.flat nodes);
      fits = λ nodes. all_push (GivenFits nodes) c.loop-arg.given c.push.new.self _ c.in-Ok.ensures.ok (so_far.fits nodes) (c.in_ok-operand.ensures.fits nodes);
    }

pub returns-clause-flat : goal.returns-clause-flat
returns-clause-flat c = λ nodes. flat_done (dictionary_of c.args.d.now) c.args.f.now c.args.args.now c.loop-arg.arg-index _ (omega (arith, c.loop-arg-test.false)) (c.loop-arg.invariant.flat nodes)
