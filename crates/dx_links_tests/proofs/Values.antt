-- Values of terms that are there.
use Rattle.std.proofs.Common.{◌≡◌, ◌∙◌, List, Some, sym, ap, subst}
use Rattle.std.specs.Prelude.{slice_get}
use Rattle.std.proofs.lemmas.Option.{slice_get_within}
use Rattle.dx_base.specs.declared.function.Module.{Module}
use Rattle.dx_tags.specs.declared.term.Term.{Term}
use Rattle.dx_tags.specs.declared.term.Term.TheVariants.{Call}
use Rattle.dx_tags.specs.declared.term.ValueTag.{ValueTag}
use Rattle.dx_tags.specs.Closed.{head_of, heads_of, AllFormed, Fits, IsResultOf}
use Rattle.dx_tags.proofs.ClosedTerms.{head_unfolds}

fits_by : (ts : List Term) (t : ValueTag) (u : Term) → AllFormed ts → slice_get ts t.tag ≡ Some u → IsResultOf (head_of (heads_of ts) u) t.result → Fits ts t
fits_by ts t u f s r = record { within = slice_get_within ts t.tag u s; result = subst (λ h. IsResultOf h t.result) (sym (head_unfolds ts f t.tag u s)) r }

pub call_fits : (ts : List Term) (t : ValueTag) (u : Term) (m : Module) (vs : List ValueTag) → AllFormed ts → slice_get ts t.tag ≡ Some u → u ≡ Call m vs → Fits ts t
call_fits ts t u m vs f s e = fits_by ts t (Call m vs) f (s ∙ ap Some e) tt
