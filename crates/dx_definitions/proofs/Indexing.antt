-- The definitions that are noted in the index, and those that aren't yet.
use Rattle.std.proofs.Common.{◌≡◌, ℕ, zero, suc, ◌<◌, ◌≤◌, List, [], ◌∷◌, ◌++◌, length, take, map, Option, Some, refl, sym, ap, ap₂, subst, ◌∙◌, arith}
use Rattle.std.specs.Prelude.{if◌then◌else◌, Bool, true, false}
use Rattle.std.proofs.lemmas.List.{length-map, map-append}
use Rattle.dx_ast.specs.declared.statements.Assign.{Assign}
use Rattle.dx_ast.specs.Classes.{Text}
use Rattle.dx_base.specs.NameLists.{has}
use Rattle.dx_definitions.specs.TopTexts.{TopText, definition, last_named}
use Rattle.dx_definitions.specs.Index.{Index, text_of, noted, Indexes, IsIndexed}
use Rattle.dx_definitions.proofs.Noting.{joins}

take_definition : (defs : List TopText) (k i : ℕ) → i < k → definition (take k defs) i ≡ definition defs i
take_definition [] zero i h = refl
take_definition [] (suc k) i h = refl
take_definition (t ∷ rest) zero i h = absurd (omega arith)
take_definition (t ∷ rest) (suc k) zero h = refl
take_definition (t ∷ rest) (suc k) (suc i) h = take_definition rest k i (omega arith)

-- the last of a name before a position is one of the first so many
pub last_take : (defs : List TopText) (n : Text) (k p : ℕ) → p ≤ k → last_named (take k defs) p n ≡ last_named defs p n
last_take defs n k zero h = refl
last_take defs n k (suc i) h =
    ap₂ (λ (t : TopText) (o : Option ℕ). if has t.targets n then Some i else o) (take_definition defs k i (omega arith)) (last_take defs n k i (omega arith))

take_next : (defs : List TopText) (n : ℕ) → n < length defs → take (suc n) defs ≡ take n defs ++ definition defs n ∷ []
take_next [] n h = absurd (omega arith)
take_next (t ∷ rest) zero h = refl
take_next (t ∷ rest) (suc n) h = ap (λ (xs : List TopText). t ∷ xs) (take_next rest n (omega arith))

length_taken : (defs : List TopText) (n : ℕ) → n ≤ length defs → length (take n defs) ≡ n
length_taken [] zero h = refl
length_taken [] (suc n) h = absurd (omega arith)
length_taken (t ∷ rest) zero h = refl
length_taken (t ∷ rest) (suc n) h = ap suc (length_taken rest n (omega arith))

-- one definition more is noted
pub index_next : (defs : List TopText) (n m : ℕ) (index new : Index) → m ≡ suc n → n < length defs → new ≡ noted index (definition defs n).targets n → IsIndexed n index defs → IsIndexed m new defs
index_next defs n m index new e h grown old = record {
  within = omega (arith, e, h);
  indexes =
      let t = definition defs n in
      let whole : take n defs ++ t ∷ [] ≡ take m defs = sym (take_next defs n h) ∙ ap (λ (k : ℕ). take k defs) (sym e) in
      let same : noted index t.targets (length (take n defs)) ≡ new = ap (noted index t.targets) (length_taken defs n (omega (arith, h))) ∙ sym grown in
      subst (λ (xs : List TopText). Indexes new xs) whole (subst (λ (i : Index). Indexes i (take n defs ++ t ∷ [])) same (joins index (take n defs) t old.indexes));
}

-- want of memory left some marks of a definition that isn't noted
pub index_kept : (defs : List TopText) (n : ℕ) (index new : Index) → ((ds : List TopText) → length ds ≡ n → Indexes index ds → Indexes new ds) → IsIndexed n index defs → IsIndexed n new defs
index_kept defs n index new keeps old = record { within = old.within; indexes = keeps (take n defs) (length_taken defs n old.within) old.indexes }

take_first : {A : Type 0} (xs ys : List A) (n : ℕ) → n ≤ length xs → take n (xs ++ ys) ≡ take n xs
take_first [] ys zero h = refl
take_first [] ys (suc n) h = absurd (omega arith)
take_first (x ∷ xs) ys zero h = refl
take_first (x ∷ xs) ys (suc n) h = ap (λ zs. x ∷ zs) (take_first xs ys n (omega arith))

-- a definition joins that isn't noted yet
pub index_push : (list more : List Assign) (a : Assign) (n : ℕ) (index : Index) → more ≡ list ++ a ∷ [] → IsIndexed n index (map text_of list) → IsIndexed n index (map text_of more)
index_push list more a n index e old =
    let grown = ap (map text_of) e ∙ map-append text_of list (a ∷ []) in
    let within = old.within in
    record {
      within = omega (arith, within, length-map list text_of, length-map more text_of, ap length e, length_snoc list);
      indexes = subst (λ (xs : List TopText). Indexes index xs) (sym (ap (take n) grown ∙ take_first (map text_of list) (text_of a ∷ []) n within)) old.indexes;
    }
  where
    length_snoc : (xs : List Assign) → length (xs ++ a ∷ []) ≡ suc (length xs)
    length_snoc [] = refl
    length_snoc (x ∷ xs) = ap suc (length_snoc xs)

-- one position down, where the name isn't
pub step_down : (defs : List TopText) (n : Text) (p q : ℕ) → p ≡ suc q → has (definition defs q).targets n ≡ false → last_named defs q n ≡ last_named defs p n
step_down defs n p q e h = sym (ap (λ (k : ℕ). last_named defs k n) e ∙ ap (λ (b : Bool). if b then Some q else last_named defs q n) h)

pub step_found : (defs : List TopText) (n : Text) (p q : ℕ) → p ≡ suc q → has (definition defs q).targets n ≡ true → Some q ≡ last_named defs p n
step_found defs n p q e h = sym (ap (λ (k : ℕ). last_named defs k n) e ∙ ap (λ (b : Bool). if b then Some q else last_named defs q n) h)
