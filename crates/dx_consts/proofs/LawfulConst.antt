-- That a constant is lawful is a proposition.
use Rattle.std.proofs.Common.{◌≡◌, ℕ, zero, suc, ◌+◌, ◌*◌, ◌<◌, ◌≤◌, Bool, true, false, Option, Some, None, refl, sym, ap, ◌∙◌, subst, arith, length}
use Rattle.std.specs.Prelude.{IsTrue, ◌/◌}
use Rattle.std.proofs.Math.Bridge.{le_prop}
use Rattle.std.proofs.Math.Nat.{ℕ_set, mul-div_cancel}
use Rattle.std.proofs.Math.Bool.{Bool-set}
use Rattle.std.proofs.Math.Logic.{∥∥₁_elim}
use Rattle.dx_base.specs.Object.{Tree}
use Rattle.dx_base.specs.ObjectLimits.{fits}
use Rattle.dx_ast.specs.declared.constants.Const.{Const}
use Rattle.dx_ast.specs.declared.constants.Const.TheVariants as const
use Rattle.dx_ast.specs.Value.{Fits, value_of, HasLawfulValue}
use Rattle.dx_ast.specs.Lawful.{IsLawfulConst, HasLawfulShape}

true_prop : (b : Bool) (x y : IsTrue b) → x ≡ y
true_prop b x y = Bool-set b true x y

fits_prop : (o : Option Tree) (x y : Fits o) → x ≡ y
fits_prop None x y = refl
fits_prop (Some t) x y = true_prop (fits t) x y

times : (m n w : ℕ) → 1 ≤ w → m * w ≡ n * w → m ≡ n
times m n w p e =
    let some : 0 < w = omega (arith, p) in
    sym (mul-div_cancel m some) ∙ ap (λ x. x / w) e ∙ mul-div_cancel n some

-- a list of this length is so many times this width in one way
abbrev Count : (n w : ℕ) → Type 0
Count n w = (a : ℕ) × (a ≤ 65536) × (n ≡ a * w)

same_count : (n w a : ℕ) (p : a ≤ 65536) (q : n ≡ a * w) (b : ℕ) (e : a ≡ b) (p' : b ≤ 65536) (q' : n ≡ b * w) → Path (Count n w) (a, p, q) (b, p', q')
same_count n w a p q b e = subst (λ c. (p' : c ≤ 65536) (q' : n ≡ c * w) → Path (Count n w) (a, p, q) (c, p', q')) e (λ p' q' i. (a, le_prop p p' i, ℕ_set n (a * w) q q' i))

shape_prop : (c : Const) (x y : HasLawfulShape c) → x ≡ y
shape_prop const.Null x y = refl
shape_prop (const.Int n) x y = refl
shape_prop (const.Text t) x y = refl
shape_prop (const.Vector ns) x y = λ i. (le_prop x.0 y.0 i, le_prop x.1 y.1 i)
shape_prop (const.Ints ns) x y = le_prop x y
shape_prop (const.Vectors width ns) x y = λ i. (le_prop x.0 y.0 i, le_prop x.1 y.1 i, same_count (length ns) width x.2.0 x.2.1 x.2.2 y.2.0 (times x.2.0 y.2.0 width x.0 (sym x.2.2 ∙ y.2.2)) y.2.1 y.2.2 i)
shape_prop (const.Texts ts) x y = le_prop x y

pub lawful_prop : (c : Const) (x y : IsLawfulConst c) → x ≡ y
lawful_prop c x y = λ i. record { shape = shape_prop c x.shape y.shape i; value = fits_prop (value_of c) x.value y.value i }

pub lawful_of : (c : Const) → ∥ IsLawfulConst c ∥₁ → IsLawfulConst c
lawful_of c h = ∥∥₁_elim h (lawful_prop c) (λ l. l)
