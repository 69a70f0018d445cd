-- The bytes of items that are left.
use Rattle.std.proofs.Common.{◌≡◌, ℕ, suc, ◌+◌, ◌-◌, ◌*◌, ◌<◌, ◌≤◌, Bool, ℤ, List, [], ◌∷◌, ◌++◌, take, drop, append_assoc, ap, ◌∙◌, sym, arith}
use Rattle.dx_places.proofs.Turns.{one_more}
use Rattle.dx_base.specs.declared.elem.ElemType.{ElemType}
use Rattle.dx_base.specs.declared.elem.ElemType.TheVariants.{Byte, UByte, Short, UShort, Int, UInt}
use Rattle.dx_base.specs.Elem.{byte_count}
use Rattle.dx_native_grammar.specs.Words.{decoded, complement, joined}

pub few_bytes : (t : ElemType) → byte_count t ≤ 4
few_bytes Byte = omega arith
few_bytes UByte = omega arith
few_bytes Short = omega arith
few_bytes UShort = omega arith
few_bytes Int = omega arith
few_bytes UInt = omega arith

pub one_row : (n i w l : ℕ) → i < n → l ≡ (n - i) * w → l ≡ w + (n - (i + 1)) * w
one_row n i w l below e =
    let turn : n - i ≡ suc (n - (i + 1)) = omega arith in
    let m : suc (n - (i + 1)) * w ≡ w + (n - (i + 1)) * w = grind arith in
    e ∙ ap (λ k. k * w) turn ∙ m

pub next_item : (t : ElemType) (msb : Bool) (n i : ℕ) (found whole new : List ℤ) (rest front back : List ℕ) (v : ℤ) → found ++ decoded t msb (n - i) rest ≡ whole → i < n
    → front ≡ take (byte_count t) rest → back ≡ drop (byte_count t) rest → v ≡ complement t (joined t msb front) → new ≡ found ++ v ∷ [] → new ++ decoded t msb (n - (i + 1)) back ≡ whole
next_item t msb n i found whole new rest front back v h below f b e p =
    let m = one_more (λ k. found ++ decoded t msb k rest) n i below (sym h) in
    let a = append_assoc found (v ∷ []) (decoded t msb (n - (i + 1)) back) in
    cc
