use Rattle.std.proofs.Common.{◌≡◌, ◌++◌, ℕ, List, subst}
use Rattle.std.specs.Prelude.{OnOk}
use Rattle.dx_telling.proofs.Telling.{told_is}
use Rattle.dx_telling.proofs.behind.push_behind.Goals as goal

pub returns : goal.returns
returns c = λ made t.
    subst (λ (text : List ℕ). OnOk c.push_at_hand.result (c.push_at_hand.new.out.items ≡ c.args.out.now.items ++ text))
    (told_is c.args.asked made c.args.failing.now c.args.events.now c.args.links.now t) c.push_at_hand.ensures
