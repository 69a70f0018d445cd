-- The terms of a call's arguments, and of the file behind them.
use Rattle.std.proofs.Common.{◌≡◌, ℕ, List, [], ◌∷◌, ◌++◌, Some, None, refl, ap}
use Rattle.dx_tags.specs.declared.term.ValueTag.{ValueTag}
use Rattle.dx_tags.specs.Closed.{Head, FileTerm, ValueTerm, ValueTerms, NoTerm, AndTerm, value_term, value_terms}
use Rattle.dx_meaning.specs.Scan.{with_file}

pub with_none : (ts : ValueTerms) → with_file ts None ≡ ts
with_none NoTerm = refl
with_none (AndTerm t ts) = ap (AndTerm t) (with_none ts)

pub file_pushed : (hs : List Head) (ts : List ValueTag) (t : ValueTag) (bytes : List ℕ) → value_term hs t ≡ FileTerm bytes → value_terms hs (ts ++ t ∷ []) ≡ with_file (value_terms hs ts) (Some bytes)
file_pushed hs [] t bytes e = ap (λ (u : ValueTerm). AndTerm u NoTerm) e
file_pushed hs (u ∷ ts) t bytes e = ap (AndTerm (value_term hs u)) (file_pushed hs ts t bytes e)
