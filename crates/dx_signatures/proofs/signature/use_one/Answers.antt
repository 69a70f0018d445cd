use Rattle.std.proofs.Common.{◌∙◌, sym, ap₂, map, List, ℕ, Bor, arith}
use Rattle.std.proofs.lemmas.List.{length-map}
use Rattle.dx_signatures.specs.CalleeView.{place_of}
use Rattle.dx_signatures.proofs.Fits.{is_at, uses_named, uses_none}
use Rattle.dx_signatures.proofs.signature.use_one.Goals as goal

pub remove-requires-in-Some-place_of : goal.remove-requires-in-Some-place_of
remove-requires-in-Some-place_of c =
    let now : Bor (List ℕ) → List ℕ = λ n. n.now in
    let p = is_at (map now c.as_slice.result.now) c.bytes.result.now c.in-Some-place_of.i (sym c.place_of.ensures ∙ c.in-Some-place_of.is) in
    omega (arith, p.below, length-map c.as_slice.result.now now, c.as_slice.ensures.len)

pub returns-in-None-place_of : goal.returns-in-None-place_of
returns-in-None-place_of c =
    let now : Bor (List ℕ) → List ℕ = λ n. n.now in
    let at = sym (ap₂ (λ xs n. place_of (map now xs) n) c.as_slice.ensures.value c.bytes.ensures) ∙ sym c.place_of.ensures ∙ c.in-None-place_of.is in
    uses_none (map now c.args.free.now.items) (map now c.args.free.now.items) c.args.name.now c.in-Some.n c.in-Some.is at

pub returns-in-Some-place_of : goal.returns-in-Some-place_of
returns-in-Some-place_of c =
    let now : Bor (List ℕ) → List ℕ = λ n. n.now in
    let at = sym (ap₂ (λ xs n. place_of (map now xs) n) c.as_slice.ensures.value c.bytes.ensures) ∙ sym c.place_of.ensures ∙ c.in-Some-place_of.is in
    uses_named now c.args.free.now.items c.remove-in-Some-place_of.new.self.items c.args.name.now c.in-Some.n c.in-Some-place_of.i c.in-Some.is at c.remove-in-Some-place_of.ensures.items
