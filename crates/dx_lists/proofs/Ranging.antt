-- A turn of the loop that makes a range, over the numbers themselves.
use Rattle.std.proofs.Common.{◌≡◌, ◌<◌, ℤ, pos, ◌+ℤ◌, ◌≤ℤ◌, Bool, true, false, cond, List, [], ◌∷◌, ◌++◌, refl, sym, ap, ◌∙◌, arith, append_assoc, append-nil, w32, w64, FitsSigned}
use Rattle.std.specs.Prelude.{int_lt}
use Rattle.std.proofs.lemmas.Int.{ints}
use Rattle.dx_ast.specs.Values.{is_zero, is_passed, range_count, range}
use Rattle.dx_script_laws.proofs.Ranges.{range_count-next, range-next, range-passed}

-- x is behind a, in the direction of d
pub record IsBehind (a d x : ℤ) : Type 0 where
  pub down : int_lt d (pos 0) ≡ true → x ≤ℤ a
  pub up : int_lt d (pos 0) ≡ false → a ≤ℤ x

-- from x on there are x and those from x + d on, and both numbers fit
pub record IsStep (a b d x : ℤ) : Type 0 where
  pub number : FitsSigned w32 x
  pub sum : FitsSigned w64 (x +ℤ d)
  pub behind : IsBehind a d (x +ℤ d)
  pub next : range x b d ≡ x ∷ range (x +ℤ d) b d
  pub fewer : range_count (x +ℤ d) b d < range_count x b d

between : (down : Bool) (a b d x : ℤ) → int_lt d (pos 0) ≡ down → cond down (int_lt x b) (int_lt b x) ≡ false → IsBehind a d x → FitsSigned w32 a → FitsSigned w32 b → FitsSigned w32 x
between true a b d x e here behind fa fb = let h = behind.down e in omega (arith, ints)
between false a b d x e here behind fa fb = let h = behind.up e in omega (arith, ints)

pub is_step : (a b d x : ℤ) → is_zero d ≡ false → is_passed x b d ≡ false → IsBehind a d x → FitsSigned w32 a → FitsSigned w32 b → FitsSigned w32 d → IsStep a b d x
is_step a b d x some here behind fa fb fd =
    let fx = between (int_lt d (pos 0)) a b d x refl here behind fa fb in
    record {
      number = fx;
      sum = omega (arith, ints);
      behind = record { down = λ h. let g = behind.down h in omega (arith, ints); up = λ h. let g = behind.up h in omega (arith, ints) };
      next = range-next x b d some here;
      fewer = let e = range_count-next x b d some here in omega arith;
    }

pub moved_on : (a b d x : ℤ) (before now : List ℤ) → IsStep a b d x → range a b d ≡ before ++ range x b d → now ≡ before ++ x ∷ [] → range a b d ≡ now ++ range (x +ℤ d) b d
moved_on a b d x before now step same pushed =
    same ∙ ap (λ l. before ++ l) step.next ∙ sym (append_assoc before (x ∷ []) (range (x +ℤ d) b d)) ∙ ap (λ l. l ++ range (x +ℤ d) b d) (sym pushed)

pub ended : (a b d x : ℤ) (found : List ℤ) → is_passed x b d ≡ true → range a b d ≡ found ++ range x b d → found ≡ range a b d
ended a b d x found passed same = sym (same ∙ ap (λ l. found ++ l) (range-passed x b d passed) ∙ append-nil found)
