use Rattle.std.proofs.Common.{◌∙◌, refl, sym, ap, subst}
use Rattle.dx_graph.specs.GraphView.{graph_of}
use Rattle.dx_links.specs.LinkMap.{LinkMap}
use Rattle.dx_demand.specs.Forming.{named_terms}
use Rattle.dx_performing.specs.Kept.{is_full}
use Rattle.dx_performing.specs.Execution.{after_exports}
use Rattle.dx_ending.specs.Putting.{exports_of}
use Rattle.dx_engine.specs.Leaving.{links_behind, PreparedSo}
use Rattle.dx_engine.proofs.Finished.{on_end, on_cut, unput_is, unput_cause, unput_is_no_read, unput_is_no_write, unput_end, unput_error, ended_error, none_put, front_put, uncut_put, bound_stays, left_behind}
use Rattle.dx_engine.proofs.state.State.finish.Goals as goal

pub returns-in_err-site-clause-cut : goal.returns-in_err-site-clause-cut
returns-in_err-site-clause-cut g c = none_put c.from_residual.result _ _ _ _ c.from_residual.ensures.1 refl

pub returns-in_err-prepared-clause-cut : goal.returns-in_err-prepared-clause-cut
returns-in_err-prepared-clause-cut g c = none_put c.from_residual-in_err-prepared.result _ _ _ _ c.from_residual-in_err-prepared.ensures.1 refl

pub returns-in_err-reserve-clause-cut : goal.returns-in_err-reserve-clause-cut
returns-in_err-reserve-clause-cut g c = none_put c.from_residual-in_err-reserve.result _ _ _ _ c.from_residual-in_err-reserve.ensures.1 c.reserve.ensures.files

pub returns-in_err-reserve-2-clause-cut : goal.returns-in_err-reserve-2-clause-cut
returns-in_err-reserve-2-clause-cut g c = none_put c.from_residual-in_err-reserve-2.result _ _ _ _ c.from_residual-in_err-reserve-2.ensures.1 c.reserve.ensures.files

pub returns-in_err-make_puts-clause-left : goal.returns-in_err-make_puts-clause-left
returns-in_err-make_puts-clause-left g c = unput_end c.in_err-make_puts.field-0.0 c.from_residual-in_err-make_puts.result (unput_is _ _ c.from_residual-in_err-make_puts.ensures.1) _

pub returns-in_err-make_puts-clause-put : goal.returns-in_err-make_puts-clause-put
returns-in_err-make_puts-clause-put g c = unput_end c.in_err-make_puts.field-0.0 c.from_residual-in_err-make_puts.result (unput_is _ _ c.from_residual-in_err-make_puts.ensures.1) _

pub returns-in_err-make_puts-clause-error : goal.returns-in_err-make_puts-clause-error
returns-in_err-make_puts-clause-error g c = unput_error c.in_err-make_puts.field-0.0 c.from_residual-in_err-make_puts.result (unput_is _ _ c.from_residual-in_err-make_puts.ensures.1) _ _

pub returns-in_err-make_puts-clause-cut : goal.returns-in_err-make_puts-clause-cut
returns-in_err-make_puts-clause-cut g c = front_put c.in_err-make_puts.field-0.0 c.from_residual-in_err-make_puts.result _ _ _ _ _ _ (unput_is _ _ c.from_residual-in_err-make_puts.ensures.1) c.reserve.ensures.files c.in_err-make_puts.ensures.front

pub returns-in_err-prepared-clause-links : goal.returns-in_err-prepared-clause-links
returns-in_err-prepared-clause-links g c = on_cut c.from_residual-in_err-prepared.result _ c.prepare.ensures.links

pub returns-in_err-prepared-clause-bound : goal.returns-in_err-prepared-clause-bound
returns-in_err-prepared-clause-bound g c = on_cut c.from_residual-in_err-prepared.result _ (c.prepare.ensures.pairs, c.prepare.ensures.counts, c.prepare.ensures.from)

pub returns-in_err-reserve-clause-links : goal.returns-in_err-reserve-clause-links
returns-in_err-reserve-clause-links g c = on_cut c.from_residual-in_err-reserve.result _ c.prepare.ensures.links

pub returns-in_err-reserve-clause-bound : goal.returns-in_err-reserve-clause-bound
returns-in_err-reserve-clause-bound g c = on_cut c.from_residual-in_err-reserve.result _ (c.prepare.ensures.pairs, c.prepare.ensures.counts, c.prepare.ensures.from)

pub returns-in_err-reserve-2-clause-links : goal.returns-in_err-reserve-2-clause-links
returns-in_err-reserve-2-clause-links g c = on_cut c.from_residual-in_err-reserve-2.result _ c.prepare.ensures.links

pub returns-in_err-reserve-2-clause-bound : goal.returns-in_err-reserve-2-clause-bound
returns-in_err-reserve-2-clause-bound g c = on_cut c.from_residual-in_err-reserve-2.result _ (c.prepare.ensures.pairs, c.prepare.ensures.counts, c.prepare.ensures.from)

pub returns-in_err-make_puts-clause-links : goal.returns-in_err-make_puts-clause-links
returns-in_err-make_puts-clause-links g c = on_cut c.from_residual-in_err-make_puts.result _ c.prepare.ensures.links

pub returns-in_err-make_puts-clause-bound : goal.returns-in_err-make_puts-clause-bound
returns-in_err-make_puts-clause-bound g c = on_cut c.from_residual-in_err-make_puts.result _ (c.prepare.ensures.pairs, c.prepare.ensures.counts, c.prepare.ensures.from)

pub returns-in_err-make_puts-clause-same : goal.returns-in_err-make_puts-clause-same
returns-in_err-make_puts-clause-same g c = on_cut c.from_residual-in_err-make_puts.result _ (refl, c.prepare.ensures.held, refl)

pub returns-in_err-make_puts-clause-faults : goal.returns-in_err-make_puts-clause-faults
returns-in_err-make_puts-clause-faults g c =
    let is = unput_is c.in_err-make_puts.field-0.0 c.from_residual-in_err-make_puts.result c.from_residual-in_err-make_puts.ensures.1 in
    (unput_is_no_read c.in_err-make_puts.field-0.0 c.from_residual-in_err-make_puts.result is, unput_is_no_write c.in_err-make_puts.field-0.0 c.from_residual-in_err-make_puts.result is)

pub returns-in_err-make_puts-clause-cause : goal.returns-in_err-make_puts-clause-cause
returns-in_err-make_puts-clause-cause g c = unput_cause c.in_err-make_puts.field-0.0 _ _ c.make_puts.result c.from_residual-in_err-make_puts.result c.in_err-make_puts.was (unput_is _ _ c.from_residual-in_err-make_puts.ensures.1) c.make_puts.ensures.cause

pub keep-requires-clause-bound : goal.keep-requires-clause-bound
keep-requires-clause-bound g c = bound_stays c.args.self.now.links.links c.prepare.new.links.links c.args.self.now.bound c.prepare.new.bound c.prepare.ensures.links c.prepare.ensures.pairs c.prepare.ensures.counts c.prepare.ensures.from c.requires.bound

pub returns-clause-left : goal.returns-clause-left
returns-clause-left g c =
    let changes = c.args.gathered.changes in
    let full = is_full (named_terms c.args.self.now.at.tags) in
    let links = links_behind c.args.self.now.links.links c.is_some-failed.result changes in
    on_end c.ended.result _
    (left_behind c.args.self.now _ c.keep.new.self (graph_of c.args.g.now).nodes c.args.gathered c.in_ok-site.site c.is_some-failed.result
    c.in_ok-site.ensures c.is_some-failed.ensures c.prepare.ensures.pairs c.prepare.ensures.from refl c.prepare.ensures.held refl c.reserve-2.ensures.items
    (c.keep.ensures.left changes full links (subst (λ (ls : LinkMap). PreparedSo ls changes full links c.in_ok-prepared.prepared) (sym c.prepare.ensures.links) c.in_ok-prepared.ensures.prepared)))

pub returns-clause-put : goal.returns-clause-put
returns-clause-put g c =
    on_end c.ended.result _
    (record {
      told = c.in_ok-make_puts.ensures.all.told;
      files = ap (λ y. y.files) c.keep.ensures.written ∙ (c.in_ok-make_puts.ensures.all.files ∙ ap (λ y. after_exports y (exports_of c.args.gathered.puts.items)) c.reserve.ensures.files);
    })

pub returns-clause-cut : goal.returns-clause-cut
returns-clause-cut g c = uncut_put c.in_ok-site.site c.ended.result _ _ _ _ _ c.ended.ensures

pub returns-clause-error : goal.returns-clause-error
returns-clause-error g c = ended_error _ _ c.in_ok-site.site c.ended.result c.in_ok-site.ensures c.ended.ensures
