use Rattle.std.proofs.Common.{length, sym, ap, subst, Result, Ok, Err, arith}
use Rattle.std.specs.Prelude.{OnOk}
use Rattle.dx_links.proofs.LinkLaws.{AreSorted}
use Rattle.dx_links.proofs.SettledLaws.{seen_length, seen_sorted}
use Rattle.dx_links.proofs.links.Links.reserve.Goals as goal

on_ok : {A E P : Type 0} (r : Result A E) → P → OnOk r P
on_ok (Ok x) p = p
on_ok (Err e) p = tt

pub returns-in_err-reserve-clause-sorted : goal.returns-in_err-reserve-clause-sorted
returns-in_err-reserve-clause-sorted c = seen_sorted c.self.inside.settled c.reserve.new.self.links c.in_err-reserve.ensures.sorted

pub returns-clause-counted : goal.returns-clause-counted
returns-clause-counted c =
    let n = seen_length c.self.inside.settled c.reserve.new.self.links in
    let same = ap length c.unsettle.ensures.links in
    let h = c.in_ok-reserve.ensures.counted in
    on_ok c.unsettle.result (omega (arith, n, same, h))

pub returns-clause-sorted : goal.returns-clause-sorted
returns-clause-sorted c = subst AreSorted (sym c.unsettle.ensures.links) (seen_sorted c.self.inside.settled c.reserve.new.self.links c.in_ok-reserve.ensures.sorted)
