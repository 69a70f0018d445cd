use Rattle.std.proofs.Common.{◌≡◌, ◌∙◌, ℕ, sym, ap, true, false, arith}
use Rattle.std.specs.Prelude.{nat_lt}
use Rattle.std.proofs.lemmas.Bool.{lt-ltb}
use Rattle.dx_signatures.proofs.Fits.{many_arguments, no_parameter, many_results, fits_signature, beyond_by}
use Rattle.dx_signatures.proofs.signature.fault_of_signature.Goals as goal

pub returns-then-is_beyond : goal.returns-then-is_beyond
returns-then-is_beyond c = λ s names a b r l h.
    sym (many_arguments s names c.args.targets (beyond_by s names _ _ _ true a b l (sym c.is_beyond.ensures ∙ c.if-is_beyond.true)))

pub returns-then-not-fit : goal.returns-then-not-fit
returns-then-not-fit c = λ s names a b r l h.
    sym (no_parameter s names c.args.targets (beyond_by s names _ _ _ false a b l (sym c.is_beyond.ensures ∙ c.if-is_beyond.false)) (h ∙ c.if-not-fit.true))

pub returns-then-targets-results : goal.returns-then-targets-results
returns-then-targets-results c = λ s names a b r l h.
    let more : nat_lt c.args.results c.args.targets ≡ true = lt-ltb _ _ (omega arith) in
    sym (many_results s names c.args.targets (beyond_by s names _ _ _ false a b l (sym c.is_beyond.ensures ∙ c.if-is_beyond.false)) (h ∙ c.if-not-fit.false) (ap (λ (n : ℕ). nat_lt n c.args.targets) r ∙ more))

pub returns-else-targets-results : goal.returns-else-targets-results
returns-else-targets-results c = λ s names a b r l h.
    let more : nat_lt c.args.results c.args.targets ≡ false = grind arith in
    sym (fits_signature s names c.args.targets (beyond_by s names _ _ _ false a b l (sym c.is_beyond.ensures ∙ c.if-is_beyond.false)) (h ∙ c.if-not-fit.false) (ap (λ (n : ℕ). nat_lt n c.args.targets) r ∙ more))
