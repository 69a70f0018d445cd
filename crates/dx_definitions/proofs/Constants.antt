-- The constants of definitions: what a name means, and that later definitions leave it.
use Rattle.std.proofs.Common.{◌≡◌, ℕ, zero, suc, ◌<◌, ◌≤◌, ◌+◌, List, [], ◌∷◌, ◌++◌, length, map, Option, Some, None, Bool, true, false, ◌⊎◌, inl, inr, refl, sym, ap, ap₂, subst, ◌∙◌, arith, length-append}
use Rattle.std.specs.Prelude.{slice_get, if◌then◌else◌}
use Rattle.dx_base.specs.NameLists.{has}
use Rattle.dx_ast.specs.declared.constants.Const.{Const}
use Rattle.dx_ast.specs.Classes.{Text}
use Rattle.dx_ast.specs.declared.expressions.Expr as views
use Rattle.dx_ast.specs.declared.expressions.Expr.TheVariants as expr
use Rattle.dx_ast.specs.declared.statements.Assign.{Assign}
use Rattle.dx_ast.specs.Plain.{plain_expr}
use Rattle.dx_ast.specs.Syntax.{Expr, Constant, Name}
use Rattle.dx_ast.proofs.PlainLaws.{plain_expr_out}
use Rattle.dx_definitions.specs.TopTexts.{TopText, definition, last_named}
use denote.Hole.Carrier
use Rattle.dx_definitions.specs.Index.{text_of}
use Rattle.dx_definitions.specs.Constants.{value_constant, of_one, constant_at, constant_of, StandsIn, AreNoted}

-- ---- a name means what its last definition assigns

named_by : (b : Bool) (defs : List TopText) (p i : ℕ) (n : Text) → (last_named defs p n ≡ Some i → constant_at defs p n ≡ constant_of defs i) →
    (if b then Some p else last_named defs p n) ≡ Some i → (if b then constant_of defs p else constant_at defs p n) ≡ constant_of defs i
named_by true defs p i n go e = let same : p ≡ i = cc in ap (constant_of defs) same
named_by false defs p i n go e = go e

pub constant_named : (defs : List TopText) (p i : ℕ) (n : Text) → last_named defs p n ≡ Some i → constant_at defs p n ≡ constant_of defs i
constant_named defs zero i n e = cc
constant_named defs (suc p) i n e = named_by (has (definition defs p).targets n) defs p i n (constant_named defs p i n) e

-- ---- later definitions leave what the earlier ones come to

pub definition_still : (defs : List TopText) (t : TopText) (i : ℕ) → i < length defs → definition (defs ++ t ∷ []) i ≡ definition defs i
definition_still [] t i h = absurd (omega arith)
definition_still (d ∷ defs) t zero h = refl
definition_still (d ∷ defs) t (suc i) h = definition_still defs t i (omega arith)

-- the same text with the same meanings of names
abbrev of_text : TopText → (Text → Option Const) → Option Const
of_text d before = of_one d.targets (value_constant d.value before)

abbrev at_text : TopText → (Text → Option Const) → Text → Option Const
at_text d before n = if has d.targets n then of_text d before else before n

pub constant_still : (defs : List TopText) (t : TopText) (p : ℕ) → p ≤ length defs → constant_at (defs ++ t ∷ []) p ≡ constant_at defs p
constant_still defs t zero h = refl
constant_still defs t (suc i) h = ap₂ at_text (definition_still defs t i (omega arith)) (constant_still defs t i (omega arith))

pub assigned_still : (defs : List TopText) (t : TopText) (i : ℕ) → i < length defs → constant_of (defs ++ t ∷ []) i ≡ constant_of defs i
assigned_still defs t i h = ap₂ of_text (definition_still defs t i h) (constant_still defs t i (omega arith))

stands_still : (defs : List TopText) (t : TopText) (i j : ℕ) → StandsIn defs i j → StandsIn (defs ++ t ∷ []) i j
stands_still defs t i j s =
    let more = length-append defs (t ∷ []) in
    let here = s.first in
    let there = s.position in
    record {
      first = omega (arith, more, here);
      position = omega (arith, more, there);
      constant = s.constant;
      stands = ap (λ (d : TopText). d.value) (definition_still defs t j s.position) ∙ s.stands;
      assigned = assigned_still defs t i s.first ∙ s.assigned;
    }

-- what is noted stays where a definition joins
pub noted_still : (defs : List TopText) (t : TopText) (noted : List (Option ℕ)) → AreNoted defs noted → AreNoted (defs ++ t ∷ []) noted
noted_still defs t noted are i j e = stands_still defs t i j (are i j e)

-- ---- one more position

-- what stands at a position stands before the last, or is the last
abbrev IsAt : List (Option ℕ) → Option ℕ → ℕ → Option ℕ → Type 0
IsAt xs o i x = (slice_get xs i ≡ Some x) ⊎ ((i ≡ length xs) × (o ≡ x))

shifted : (y : Option ℕ) (xs : List (Option ℕ)) (o : Option ℕ) (i : ℕ) (x : Option ℕ) → IsAt xs o i x → IsAt (y ∷ xs) o (suc i) x
shifted y xs o i x (inl e) = inl e
shifted y xs o i x (inr e) = inr (ap suc e.0, e.1)

at_end : (xs : List (Option ℕ)) (o : Option ℕ) (i : ℕ) (x : Option ℕ) → slice_get (xs ++ o ∷ []) i ≡ Some x → IsAt xs o i x
at_end [] o zero x e = inr (refl, cc)
at_end [] o (suc i) x e = cc
at_end (y ∷ xs) o zero x e = inl e
at_end (y ∷ xs) o (suc i) x e = shifted y xs o i x (at_end xs o i x e)

stands_at : (defs : List TopText) (xs : List (Option ℕ)) (o : Option ℕ) (i j : ℕ) → AreNoted defs xs → ((k : ℕ) → o ≡ Some k → StandsIn defs (length xs) k) → IsAt xs o i (Some j) → StandsIn defs i j
stands_at defs xs o i j are new (inl e) = are i j e
stands_at defs xs o i j are new (inr e) = subst (λ k. StandsIn defs k j) (sym e.0) (new j e.1)

-- a position that is noted behind the others, or for which there was no memory
pub noted_after : (defs : List TopText) (xs new : List (Option ℕ)) (o : Option ℕ) (position : ℕ) (ok : Bool) → new ≡ (if ok then xs ++ o ∷ [] else xs) → position ≡ length xs → AreNoted defs xs → ((k : ℕ) → o ≡ Some k → StandsIn defs position k) → AreNoted defs new
noted_after defs xs new o position true e at are stands =
    let here = subst (λ n. (k : ℕ) → o ≡ Some k → StandsIn defs n k) at stands in
    subst (AreNoted defs) (sym e) (λ i j s. stands_at defs xs o i j are here (at_end xs o i (Some j) s))
noted_after defs xs new o position false e at are stands = subst (AreNoted defs) (sym e) are

-- ---- how a definition comes to a constant

one_target : (d : TopText) (t : Text) (e : Expr) (before : Text → Option Const) → d ≡ record { targets = t ∷ []; value = e } → of_text d before ≡ value_constant e before
one_target d t e before is = ap (λ x. of_text x before) is

-- it stands there itself
pub stands_itself : (defs : List TopText) (i : ℕ) (t : Text) (c : Const) → i < length defs → definition defs i ≡ record { targets = t ∷ []; value = Constant c } → StandsIn defs i i
stands_itself defs i t c h is = record {
  first = h;
  position = h;
  constant = c;
  stands = ap (λ (d : TopText). d.value) is;
  assigned = one_target (definition defs i) t (Constant c) (constant_at defs i) is;
}

-- or it names one that comes to it
pub stands_by_name : (defs : List TopText) (i k j : ℕ) (t n : Text) → i < length defs → definition defs i ≡ record { targets = t ∷ []; value = Name n } → last_named defs i n ≡ Some k → StandsIn defs k j → StandsIn defs i j
stands_by_name defs i k j t n h is last s = record {
  first = h;
  position = s.position;
  constant = s.constant;
  stands = s.stands;
  assigned = one_target (definition defs i) t (Name n) (constant_at defs i) is ∙ constant_named defs i k n last ∙ s.assigned;
}

-- a name means the constant of its last definition
pub constant_means : (defs : List TopText) (p k : ℕ) (n : Text) (j : ℕ) (c : Const) → last_named defs p n ≡ Some k → StandsIn defs k j → (definition defs j).value ≡ Constant c → constant_at defs p n ≡ Some c
constant_means defs p k n j c last s v =
    let stands = s.stands in
    let same : s.constant ≡ c = cc in
    constant_named defs p k n last ∙ s.assigned ∙ ap Some same

-- ---- the code's definitions

pub single : (xs : List Text) → 1 ≤ length xs → length xs < 2 → (x : Text) × (xs ≡ x ∷ [])
single [] a b = absurd (omega arith)
single (x ∷ []) a b = (x, refl)
single (x ∷ y ∷ xs) a b = absurd (omega arith)

pub expr_constant : (c : Const) → plain_expr (expr.Constant c) ≡ Constant c
unfolding views.out-Expr denote.Hole.Carrier.out
expr_constant c = plain_expr_out (expr.Constant c)

pub expr_name : (n : Text) → plain_expr (expr.Name n) ≡ Name n
unfolding views.out-Expr denote.Hole.Carrier.out
expr_name n = plain_expr_out (expr.Name n)

pub text_is : (ts : List Text) (t : Text) (v e : Expr) → ts ≡ t ∷ [] → v ≡ e → ◌≡◌ {A = TopText} (record { targets = ts; value = v }) (record { targets = t ∷ []; value = e })
text_is ts t v e same is = ap₂ (λ (xs : List Text) (x : Expr). record { targets = xs; value = x }) same is

pub map_last : (xs : List Assign) (a : Assign) → map text_of (xs ++ a ∷ []) ≡ map text_of xs ++ text_of a ∷ []
map_last [] a = refl
map_last (x ∷ xs) a = ap (λ (ys : List TopText). text_of x ∷ ys) (map_last xs a)
