use Rattle.dx_texts.specs.Expanding.{scope_of}
use Rattle.dx_graph.proofs.Outcomes.{one_named, all_named, none_named}
use Rattle.dx_texts.proofs.Parts.{name_walked, names_left}
use Rattle.dx_texts.proofs.expansion.results_of.Goals as goal

pub loop-name-init : goal.loop-name-init
loop-name-init c = record {
  walked = c.requires.walked;
  named = λ nodes memo own. none_named nodes (scope_of c.args.w.now c.args.t.now nodes) c.args.names.now c.new-all.result.items c.new-all.ensures.items;
}

pub meaning-requires : goal.meaning-requires
meaning-requires c =
    record { walked = name_walked c.args.w.now c.args.t.now c.args.names.now c.loop-name.name-index c.name-item.result c.bytes.result.now c.loop-name-test.true c.name-item.is c.bytes.ensures c.loop-name.invariant.walked }

pub loop-name-preserved : goal.loop-name-preserved
loop-name-preserved c = record {
  walked = names_left c.args.w.now c.args.t.now c.args.names.now c.loop-name.name-index c.name-item.result c.loop-name-test.true c.name-item.is c.loop-name.invariant.walked;
  named = λ nodes memo own.
      one_named nodes (scope_of c.args.w.now c.args.t.now nodes) c.args.names.now c.loop-name.name-index c.name-item.result c.bytes.result.now c.loop-name.all.items c.put.new.list.items c.meaning.result
      c.loop-name-test.true c.name-item.is c.bytes.ensures c.in_ok-put.ensures (c.meaning.ensures nodes memo own) (c.loop-name.invariant.named nodes memo own);
}

pub returns : goal.returns
returns c = record {
  gives = λ nodes memo own.
      all_named nodes (scope_of c.args.w.now c.args.t.now nodes) c.args.names.now c.loop-name.name-index c.loop-name.all c.loop-name-test.false (c.loop-name.invariant.named nodes memo own);
}
