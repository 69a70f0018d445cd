use Rattle.std.proofs.Common.{◌≡◌, ◌&&◌, Bool, true, false, cond, Option, None, refl, ℕ, ◌-◌, suc, arith, sym, ap, ◌∙◌}
use Rattle.std.specs.Prelude.{◌==◌}
use Rattle.dx_base.specs.Object.{Tree}
use Rattle.dx_tags.specs.contracts.term.ValueTagPartialEq.TheImpl as tags
use Rattle.dx_getting.specs.Terms.{count_in}
use Rattle.dx_getting.proofs.bound.Bound.release.Goals as goal

stays : (b : Bool) (r : Option Tree) → r ≡ cond (b && false) None r
stays true r = refl
stays false r = refl

goes : (b : Bool) (r : Option Tree) → cond b None r ≡ cond (b && true) None r
goes true r = refl
goes false r = refl
