use Rattle.std.proofs.Common.{◌≡◌, ◌*◌, ◌%◌, ℕ, length}
use Rattle.std.proofs.Math.Nat.{mul-mod_left, mul-one}
use Rattle.dx_consts.proofs.value.object_of.Goals as goal

-- whole vectors of one length
no_rest : (n count width : ℕ) → n ≡ count * width → n % (width * 1) ≡ 0
no_rest n count width e = rw (e, mul-one) (mul-mod_left count width)

pub ints-requires-in-Vectors-clause-whole : goal.ints-requires-in-Vectors-clause-whole
ints-requires-in-Vectors-clause-whole c =
    let shape = rw c.in-Vectors.is at c.requires.shape in
    rw (c.as_slice-in-Vectors.ensures, c.in_ok-shape_of-in-Vectors.ensures) (no_rest (length c.in-Vectors.ns) shape.2.0 c.in-Vectors.width shape.2.2)
