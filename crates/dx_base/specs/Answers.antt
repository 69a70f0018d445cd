-- What a call answered beside what it should: the same, unless it was cut short by want of memory or by a device. Of the
-- call's errors, `refusal` tells those that refuse what was given, with what they say, from those that cut it short.
use Rattle.std.specs.Prelude.{◌≡◌, Option, Some, None, Result, Ok, Err, IfSome}
use Rattle.dx_base.specs.declared.fail.Fail.{Fail}
use Rattle.dx_base.specs.declared.fail.Fail.TheVariants.{Refused, Memory}

-- of a Fail all but want of memory
abbrev pub refused : {R : Type 0} → Fail R → Option R
refused (Refused r) = Some r
refused Memory = None

module _ {A E R : Type 0} (refusal : E → Option R) where
  -- this answer, or this refusal
  abbrev pub Answers : Result A R → Result A E → Type 0
  Answers there (Ok a) = there ≡ Ok a
  Answers there (Err e) = IfSome (refusal e) (λ r. there ≡ Err r)

  -- this answer, and no refusal
  abbrev pub Gives : A → Result A E → Type 0
  Gives a (Ok found) = found ≡ a
  Gives a (Err e) = IfSome (refusal e) (λ r. ⊥)

  -- this refusal, and no answer
  abbrev pub Refuses : R → Result A E → Type 0
  Refuses r (Ok a) = ⊥
  Refuses r (Err e) = IfSome (refusal e) (λ said. said ≡ r)

  -- of an answer the one holds, and of a refusal the other
  abbrev pub IsEither : (A → Type 0) → (R → Type 0) → Result A E → Type 0
  IsEither P Q (Ok a) = P a
  IsEither P Q (Err e) = IfSome (refusal e) Q

  -- of a refusal this holds
  abbrev pub OnRefusal : (R → Type 0) → Result A E → Type 0
  OnRefusal Q (Ok a) = Unit {0}
  OnRefusal Q (Err e) = IfSome (refusal e) Q
