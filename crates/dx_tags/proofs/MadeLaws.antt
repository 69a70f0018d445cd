-- The objects that are kept for constants, as terms and objects come in.
use Rattle.std.proofs.Common.{◌≡◌, ℕ, zero, suc, List, [], ◌∷◌, ◌++◌, length, Bool, true, false, Option, Some, None, ◌⊎◌, inl, inr, refl, sym, ap, subst, if◌then◌else◌, IfSome}
use Rattle.std.specs.Prelude.{slice_get}
use Rattle.std.specs.declared.rc.Rc.{Rc}
use Rattle.std.specs.declared.alloc.Global.{Global}
use Rattle.dx_base.specs.Object.{Tree}
use Rattle.dx_ast.specs.Lawful.{IsLawfulConst}
use Rattle.dx_ast.specs.declared.constants.Const.{Const}
use Rattle.dx_ast.specs.Value.{value_of}
use Rattle.dx_tags.specs.declared.term.Term.{Term}
use Rattle.dx_tags.specs.declared.term.Term.TheVariants.{Constant}
use Rattle.dx_tags.specs.Made.{IsMade, AreMade, IsLawfulTerm}

abbrev Kept : Type 0
Kept = Option (Rc Tree Global)

-- what stands at a place stands before the last, or is the last
abbrev IsAt : List Kept → Kept → ℕ → Kept → Type 0
IsAt os o i x = (slice_get os i ≡ Some x) ⊎ ((i ≡ length os) × (o ≡ x))

shifted : (p : Kept) (os : List Kept) (o : Kept) (i : ℕ) (x : Kept) → IsAt os o i x → IsAt (p ∷ os) o (suc i) x
shifted p os o i x (inl e) = inl e
shifted p os o i x (inr e) = inr (ap suc e.0, e.1)

at_end : (os : List Kept) (o : Kept) (i : ℕ) (x : Kept) → slice_get (os ++ o ∷ []) i ≡ Some x → IsAt os o i x
at_end [] o zero x e = inr (refl, cc)
at_end [] o (suc i) x e = cc
at_end (p ∷ os) o zero x e = inl e
at_end (p ∷ os) o (suc i) x e = shifted p os o i x (at_end os o i x e)

of_some : (terms : List Term) (place : ℕ) (o : Kept) (x : Rc Tree Global) → o ≡ Some x → IfSome o (λ y. IsMade terms place y.value) → IsMade terms place x.value
of_some terms place (Some y) x e h = let same : y ≡ x = cc in subst (λ (z : Rc Tree Global). IsMade terms place z.value) same h
of_some terms place None x e h = cc

made_at : (terms : List Term) (os : List Kept) (o : Kept) (i : ℕ) (x : Rc Tree Global) → AreMade terms os → IfSome o (λ y. IsMade terms (length os) y.value) → IsAt os o i (Some x) → IsMade terms i x.value
made_at terms os o i x made is (inl e) = made i x e
made_at terms os o i x made is (inr e) = subst (λ k. IsMade terms k x.value) (sym e.0) (of_some terms (length os) o x e.1 is)

-- an object that is kept behind the others, or for which there was no memory
pub made_after : (terms : List Term) (os new : List Kept) (o : Kept) (place : ℕ) (ok : Bool) → new ≡ (if ok then os ++ o ∷ [] else os) → place ≡ length os → AreMade terms os → IfSome o (λ y. IsMade terms place y.value) → AreMade terms new
made_after terms os new o place true e at made is =
    let here = subst (λ k. IfSome o (λ (y : Rc Tree Global). IsMade terms k y.value)) at is in
    subst (AreMade terms) (sym e) (λ i x s. made_at terms os o i x made here (at_end os o i (Some x) s))
made_after terms os new o place false e at made is = subst (AreMade terms) (sym e) made

-- a constant that is a lawful term is lawful
pub lawful_in : (t : Term) (c : Const) → IsLawfulTerm t → Some t ≡ Some (Constant c) → ∥ IsLawfulConst c ∥₁
lawful_in t c f e = let same : t ≡ Constant c = cc in subst IsLawfulTerm same f

at_front : (ks : List Term) (t : Term) (i : ℕ) (x : Term) → slice_get ks i ≡ Some x → slice_get (ks ++ t ∷ []) i ≡ Some x
at_front [] t i x e = cc
at_front (k ∷ ks) t zero x e = e
at_front (k ∷ ks) t (suc i) x e = at_front ks t i x e

-- what was made stays where a term comes last
pub made_still : (ks new : List Term) (t : Term) (os : List Kept) → (new ≡ ks) ⊎ (new ≡ ks ++ t ∷ []) → AreMade ks os → AreMade new os
made_still ks new t os (inl e) made = subst (λ ts. AreMade ts os) (sym e) made
made_still ks new t os (inr e) made =
    subst (λ ts. AreMade ts os) (sym e) (λ i o s. let m = made i o s in (m.0, at_front ks t i (Constant m.0) m.1, m.2))

-- the object that was made is the value of the constant
pub made_value : (ks : List Term) (i : ℕ) (o : Tree) (c : Const) → IsMade ks i o → slice_get ks i ≡ Some (Constant c) → value_of c ≡ Some o
made_value ks i o c m e =
    let is : slice_get ks i ≡ Some (Constant m.0) = m.1 in
    let same : m.0 ≡ c = cc in
    subst (λ d. value_of d ≡ Some o) same m.2
