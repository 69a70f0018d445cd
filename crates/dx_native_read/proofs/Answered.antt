-- What the reader answers, by cases.
use Rattle.std.proofs.Common.{◌≡◌, ℕ, Bool, true, false, List, length, Option, Some, None, Result, Ok, Err, refl, sym, ap, subst, ◌∙◌, inl, inr}
use Rattle.std.specs.Prelude.{option_map, cond, nat_le}
use Rattle.dx_base.specs.Object.{Tree, array, text, field, group, composite, series, levels}
use Rattle.dx_base.specs.ObjectLimits.{IsLawful, fits}
use Rattle.dx_base.specs.declared.code.NativeKind.TheVariants as fault
use Rattle.dx_places.specs.Grammar.{At}
use Rattle.dx_native_lex.specs.Token.{error}
use Rattle.dx_native_lex.specs.declared.fault.NativeError.{NativeError}
use Rattle.dx_native_lex.specs.declared.fault.NativeFail.{NativeFail}
use Rattle.dx_native_lex.specs.declared.fault.NativeFail.TheVariants as fail
use Rattle.dx_native_grammar.specs.Grammar.{File, file}
use Rattle.dx_native_grammar.specs.Meaning.{earlier, object_or, meant, tree_at, clauses_fault}
use Rattle.dx_native_grammar.specs.Native.{IsNative, beginning}
use Rattle.dx_native_grammar.specs.declared.clause.Clause.{Clause}
use Rattle.dx_native_grammar.proofs.Once.{once}
use Rattle.dx_native_sound.specs.Sound.{Every, IsSound}
use Rattle.dx_native_walk.specs.Answer.{IsBroken, FailsAt}
use Rattle.dx_native_walk.specs.declared.fail.BuildFail.{BuildFail}
use Rattle.dx_native_walk.specs.declared.fail.BuildFail.TheVariants as build
use Rattle.dx_native_read.specs.Answer.{Means, Answers, native_of}
use Rattle.dx_native_read.proofs.Whole.{whole}

pub means_refused : (r : Result Tree NativeError) (f : NativeFail) (e : NativeError) → f ≡ fail.Refused e → r ≡ Err e → Means r (Err f)
means_refused r f e p q = subst (λ (f : NativeFail). Means r (Err f)) (sym p) q

-- ---- an object, or why it is none

pub lawful_fits : (t : Tree) → IsLawful t → fits t ≡ true
lawful_fits (array a xs) h = cc h.1.limits
lawful_fits (text b xs) h = cc h.1.limits
lawful_fits (field ps xs) h = cc h.0.limits
lawful_fits (group ps xs) h = cc h.0.limits
lawful_fits (composite ps xs) h = cc h.0.limits
lawful_fits (series ps xs) h = cc h.0.limits

pub object_is : (o : Option Tree) (t : Tree) (at : ℕ) → o ≡ Some t → IsLawful t → object_or o at ≡ Ok t
object_is o t at e h =
    ap (λ o. object_or o at) e ∙ ap (λ b. cond {A = Result Tree NativeError} b (Ok t) (Err (error fault.TooLarge at))) (lawful_fits t h)

pub too_deep : (o : Option Tree) (at : ℕ) → o ≡ None → object_or o at ≡ Err (error fault.TooDeep at)
too_deep o at e = ap (λ o. object_or o at) e

no_levels : (o : Option Tree) → option_map levels o ≡ None → o ≡ None
no_levels None h = refl
no_levels (Some t) h = absurd cc

pub counted_deep : (o : Option Tree) (n : Option ℕ) (at : ℕ) → n ≡ option_map levels o → n ≡ None → object_or o at ≡ Err (error fault.TooDeep at)
counted_deep o n at e h = too_deep o at (no_levels o (sym e ∙ h))

too_large_by : (t : Tree) (b : Bool) (at : ℕ) → fits t ≡ b → (fits t ≡ true → ⊥) → cond {A = Result Tree NativeError} b (Ok t) (Err (error fault.TooLarge at)) ≡ Err (error fault.TooLarge at)
too_large_by t true at e h = absurd (h e)
too_large_by t false at e h = refl

pub too_large : (cs : List Clause) → Every IsSound cs → clauses_fault cs cs ≡ None → (i at : ℕ) (o : Option Tree) → tree_at cs 64 i ≡ o → (o ≡ None → ⊥) → IsBroken o
    → object_or o at ≡ Err (error fault.TooLarge at)
too_large cs s r i at None e some b = absurd (some refl)
too_large cs s r i at (Some t) e some b = too_large_by t (fits t) at refl (λ f. b (whole cs s r 64 i t e f))

pub counted_some : (o : Option Tree) (n : ℕ) → Some n ≡ option_map levels o → o ≡ None → ⊥
counted_some None n e h = absurd cc
counted_some (Some t) n e h = absurd cc

pub fails_mean : (cs : List Clause) → Every IsSound cs → clauses_fault cs cs ≡ None → (i at : ℕ) → (tree_at cs 64 i ≡ None → ⊥) → (e : BuildFail) → FailsAt (tree_at cs 64 i) e → (f : NativeFail) → f ≡ native_of e at
    → Means (object_or (tree_at cs 64 i) at) (Err f)
fails_mean cs s r i at some build.Deep h f e = means_refused _ f (error fault.TooDeep at) e (too_deep (tree_at cs 64 i) at h)
fails_mean cs s r i at some build.Broken h f e = means_refused _ f (error fault.TooLarge at) e (too_large cs s r i at (tree_at cs 64 i) refl some h)
fails_mean cs s r i at some build.Memory h f e = subst (λ (f : NativeFail). Means (object_or (tree_at cs 64 i) at) (Err f)) (sym e) tt

-- ---- a text

pub answered : (bytes : List ℕ) (which : Option (List ℕ)) (f : File) (s : At) → file.is (beginning bytes) f s → (r : Result Tree NativeFail) → Means (meant f which (length bytes)) r → Answers bytes which r
answered bytes which f s h (Ok t) m = inr (f, s, h, sym m)
answered bytes which f s h (Err (fail.Refused e)) m = inr (f, s, h, sym m)
answered bytes which f s h (Err fail.Memory) m = tt

pub only : (bytes : List ℕ) (which : Option (List ℕ)) (r : Result Tree NativeFail) → Answers bytes which r → (q : Result Tree NativeError) → IsNative bytes which q → Means q r
only bytes which (Ok t) a q h = once bytes which q (Ok t) h a
only bytes which (Err (fail.Refused e)) a q h = once bytes which q (Err e) h a
only bytes which (Err fail.Memory) a q h = tt

-- a text that the grammar refuses
pub refused : (bytes : List ℕ) (which : Option (List ℕ)) (e : NativeError) → file.fails (beginning bytes) e → IsNative bytes which (Err e)
refused bytes which e h = inl (e, h, refl)

-- ---- answers that are refusals

pub clauses_fine : (x y : Option NativeError) → earlier x y ≡ None → x ≡ None
clauses_fine None y h = refl
clauses_fine (Some e) None h = absurd cc
clauses_fine (Some e) (Some g) h = absurd (sooner (nat_le e.at g.at) h)
  where
    sooner : (b : Bool) → cond {A = Option NativeError} b (Some e) (Some g) ≡ None → ⊥
    sooner true h = absurd cc
    sooner false h = absurd cc
