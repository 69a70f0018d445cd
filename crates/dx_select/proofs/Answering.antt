-- An answer that is handed on.
use Rattle.std.proofs.Common.{◌≡◌, Some, None, Ok, Err, Bool, true, false, refl, cond, sym, ap}
use Rattle.dx_base.specs.declared.code.Code.TheVariants.{TooLarge}
use Rattle.dx_base.specs.Object.{Tree}
use Rattle.dx_base.specs.ObjectLimits.{fits}
use Rattle.dx_objects.specs.Makes.{Makes, refusal}
use Rattle.dx_objects.specs.Runs.{Gives}
use Rattle.dx_objects.specs.declared.makers.ObjectError.{ObjectError}
use Rattle.dx_objects.specs.declared.makers.ObjectError.TheVariants as refused
use Rattle.dx_objects.specs.declared.run_fail.RunFail.{RunFail}
use Rattle.dx_objects.specs.declared.run_fail.RunFail.TheVariants.{Code, Memory}
use Rattle.dx_select.specs.Answered.{Answered, ◌>>=◌, one_result, in_limits, GivesObject}

-- where something follows and there is an answer, there was something to follow
pub bound : {A B : Type 0} (there : Answered A) (f : A → Answered B) (b : B) → (there >>= f) ≡ Ok b → (a : A) × (there ≡ Ok a) × (f a ≡ Ok b)
bound (Ok a) f b e = (a, refl, e)
bound (Err code) f b e = absurd (cc e)

pub passed : (there : Answered Tree) (e : RunFail) → GivesObject there (Err e) → Gives (one_result there) (Err e)
passed there (Code code) h = rw h refl
passed there Memory h = tt

-- where only its size can be said against an object
ok_by : (b : Bool) (t o : Tree) → b ≡ fits t → refusal t ≡ cond b None (Some refused.TooLarge) → Makes t (Ok o) → in_limits t ≡ Ok o
ok_by true t o s e h = rw (← s) (ap (λ u. Ok u) (sym h.0))
ok_by false t o s e h = absurd (cc (e, h.1))

err_by : (b : Bool) (t : Tree) (f : ObjectError) → b ≡ fits t → refusal t ≡ cond b None (Some refused.TooLarge) → Makes t (Err f) → in_limits t ≡ Err TooLarge
err_by true t f s e h = absurd (cc (e, h))
err_by false t f s e h = rw (← s) refl

pub only_large_ok : (t o : Tree) → refusal t ≡ cond (fits t) None (Some refused.TooLarge) → Makes t (Ok o) → in_limits t ≡ Ok o
only_large_ok t o e h = ok_by (fits t) t o refl e h

pub only_large_err : (t : Tree) (f : ObjectError) → refusal t ≡ cond (fits t) None (Some refused.TooLarge) → Makes t (Err f) → in_limits t ≡ Err TooLarge
only_large_err t f e h = err_by (fits t) t f refl e h
