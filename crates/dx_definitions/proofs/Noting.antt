-- The positions of the definitions of each name.
use Rattle.std.proofs.Common.{◌≡◌, ℕ, zero, suc, ◌-◌, ◌<◌, ◌≤◌, List, [], ◌∷◌, ◌++◌, length, drop, get_or, Option, Some, Bool, true, false, Vec, refl, sym, ap, ap₂, subst, ◌∙◌, arith}
use Rattle.std.specs.Prelude.{Result, Ok, Err, OnErr, ◌||◌, if◌then◌else◌}
use Rattle.std.specs.List.{Contains}
use Rattle.std.specs.Str.{bytes_eq}
use Rattle.std.specs.Map.{lookup, IsKeyTest, AreApart, KeepsOthers}
use Rattle.std.specs.declared.alloc.Global.{Global}
use Rattle.std.specs.HashMap.{HashMap, UpdatesBy}
use Rattle.std.proofs.lemmas.Bool.{cases_Bool, cond-true, cond-false}
use Rattle.std.proofs.lemmas.Cmp.{nat_list_eq_equiv}
use Rattle.std.proofs.lemmas.List.Elements.{All-append, Contains-append_left, Contains-push}
use Rattle.std.proofs.lemmas.List.Sorted.{IsNonDecreasingBy-push}
use Rattle.std.proofs.lemmas.Slice.Eq.{bytes_eq-Decides}
use mathlib.Core.Logic.{◌⊎◌, inl, inr, ⊎_elim}
use Rattle.dx_base.specs.NameTable.{under_name, changed_at}
use Rattle.dx_base.proofs.NameTables.{same_key}
use Rattle.dx_ast.specs.Classes.{Text}
use Rattle.dx_base.specs.NameLists.{has}
use Rattle.dx_definitions.specs.TopTexts.{TopText, definition}
use Rattle.dx_definitions.specs.Index.{Index, listed, index_of, with_position, noted, ArePositions, Indexes}

-- ---- a list that is written in the table

apart : (bs cs ks : Text) → bytes_eq bs cs ≡ false → bytes_eq bs ks ≡ true → bytes_eq cs ks ≡ false
apart bs cs ks n y = nat_list_eq_equiv.symm cs ks ∙ sym (nat_list_eq_equiv.congr bs ks cs y) ∙ n

other_entries : {X : Type 0} (test : Vec ℕ Global → Bool) (old new : List (Vec ℕ Global × X)) → KeepsOthers same_key test old new → (other : Vec ℕ Global → Bool) → IsKeyTest same_key other → AreApart test other → lookup other new ≡ lookup other old
unfolding KeepsOthers
other_entries test old new h = h

written_at : {X S : Type 0} (old new : HashMap (Vec ℕ Global) X S) (name : Text) (value : Option X) → UpdatesBy same_key (λ (key : Vec ℕ Global). bytes_eq name key.items) old new value
    → (other : Text) → under_name new other ≡ changed_at (under_name old) name value other
written_at old new name value h other =
    ⊎_elim
    (λ y. subst (λ l. under_name new l ≡ value) ((bytes_eq-Decides name other).0 y) h.1 ∙ sym (cond-true (bytes_eq name other) value (under_name old other) y))
    (λ e. other_entries _ _ _ h.3 _ (λ x y. nat_list_eq_equiv.congr other x.items y.items) (λ k. apart name other k.items e) ∙ sym (cond-false (bytes_eq name other) value (under_name old other) e))
    (cases_Bool (bytes_eq name other))

-- what is under each name after a value was written under one
pub written : {X S : Type 0} (old new : HashMap (Vec ℕ Global) X S) (name : Text) (value : Option X) → UpdatesBy same_key (λ (key : Vec ℕ Global). bytes_eq name key.items) old new value
    → under_name new ≡ changed_at (under_name old) name value
written old new name value h =
    let each = written_at old new name value h in
    λ i other. each other i

-- ---- one position more

module _ {S : Type 0} (old new : HashMap (Vec ℕ Global) (Vec ℕ Global) S) (name : Text) (list : Vec ℕ Global) where
  pub index_grown : (position : ℕ) → under_name new ≡ changed_at (under_name old) name (Some list) → list.items ≡ index_of old name ++ position ∷ [] → index_of new ≡ with_position (index_of old) name position
  index_grown position h e = λ i other. each other i
    where
      by : (other : Text) (b : Bool) → listed (if b then Some list else under_name old other) ≡ (if b then index_of old name ++ position ∷ [] else index_of old other)
      by other true = e
      by other false = refl

      each : (other : Text) → index_of new other ≡ with_position (index_of old) name position other
      each other = ap (λ (t : Text → Option (Vec ℕ Global)). listed (t other)) h ∙ by other (bytes_eq name other)

  pub index_kept : under_name new ≡ changed_at (under_name old) name (Some list) → list.items ≡ index_of old name → index_of new ≡ index_of old
  index_kept h e = λ i other. each other i
    where
      by : (other : Text) (b : Bool) → bytes_eq name other ≡ b → listed (if b then Some list else under_name old other) ≡ index_of old other
      by other true s = e ∙ ap (index_of old) ((bytes_eq-Decides name other).0 s)
      by other false s = refl

      each : (other : Text) → index_of new other ≡ index_of old other
      each other = ap (λ (t : Text → Option (Vec ℕ Global)). listed (t other)) h ∙ by other (bytes_eq name other) refl

-- the position behind all definitions may stand under any name
keeps_one : (index : Index) (defs : List TopText) (name : Text) → Indexes index defs → Indexes (with_position index name (length defs)) defs
keeps_one index defs name all other = go (bytes_eq name other) refl
  where
    more : ArePositions (index name ++ length defs ∷ []) defs name
    more =
        let here = all name in
        let last : (d : ℕ) → 0 < length (index name) → get_or (index name) (length (index name) - 1) d ≤ length defs = λ d lt. here.within (length (index name) - 1) d (omega (arith, lt)) in
        record {
          ascending = IsNonDecreasingBy-push (λ x. x) (index name) (length defs) here.ascending last;
          within = All-append (λ p. p ≤ length defs) (index name) (length defs ∷ []) here.within (λ k d lt. one k d lt);
          all = λ p h. Contains-append_left (index name) (length defs ∷ []) p (here.all p h);
        }
      where
        one : (k d : ℕ) → k < 1 → get_or (length defs ∷ []) k d ≤ length defs
        one zero d lt = omega arith
        one (suc k) d lt = absurd (omega arith)

    go : (b : Bool) → bytes_eq name other ≡ b → ArePositions (if b then index name ++ length defs ∷ [] else index other) defs other
    go true e = subst (λ (n : Text). ArePositions (index name ++ length defs ∷ []) defs n) ((bytes_eq-Decides name other).0 e) more
    go false e = all other

pub keeps_all : (names : List Text) (index : Index) (defs : List TopText) → Indexes index defs → Indexes (noted index names (length defs)) defs
keeps_all [] index defs all = all
keeps_all (n ∷ rest) index defs all = keeps_all rest (with_position index n (length defs)) defs (keeps_one index defs n all)

pub keeps_note : (old new : Index) (name : Text) (position : ℕ) (defs : List TopText) → new ≡ with_position old name position → length defs ≡ position → Indexes old defs → Indexes new defs
keeps_note old new name position defs e l all =
    subst (λ (index : Index). Indexes index defs) (sym (e ∙ ap (λ (p : ℕ). with_position old name p) (sym l))) (keeps_one old defs name all)

-- the next of some names
pub note_next : (names : List Text) (i j : ℕ) (n m : Text) (index : Index) (position : ℕ) → i < length names → n ≡ get_or names i n → m ≡ n → j ≡ suc i →
    noted (with_position index m position) (drop j names) position ≡ noted index (drop i names) position
note_next [] i j n m index position h e same next = absurd (omega (arith, h))
note_next (x ∷ rest) zero zero n m index position h e same next = absurd (omega (arith, next))
note_next (x ∷ rest) (suc i) zero n m index position h e same next = absurd (omega (arith, next))
note_next (x ∷ rest) zero (suc j) n m index position h e same next =
    let start : j ≡ 0 = omega (arith, next) in
    ap₂ (λ (y : Text) (k : ℕ). noted (with_position index y position) (drop k rest) position) (same ∙ e) start
note_next (x ∷ rest) (suc i) (suc j) n m index position h e same next = note_next rest i j n m index position (omega arith) e same (omega (arith, next))

-- ---- a definition that joins

stays_one : (index : Index) (m : Text) (position : ℕ) (n : Text) (p : ℕ) → Contains (index n) p → Contains (with_position index m position n) p
stays_one index m position n p h = go (bytes_eq m n) refl
  where
    go : (b : Bool) → bytes_eq m n ≡ b → Contains (if b then index m ++ position ∷ [] else index n) p
    go true e = Contains-append_left (index m) (position ∷ []) p (subst (λ (x : Text). Contains (index x) p) (sym ((bytes_eq-Decides m n).0 e)) h)
    go false e = h

stays : (names : List Text) (index : Index) (position : ℕ) (n : Text) (p : ℕ) → Contains (index n) p → Contains (noted index names position n) p
stays [] index position n p h = h
stays (m ∷ rest) index position n p h = stays rest (with_position index m position) position n p (stays_one index m position n p h)

-- the position is under each of the names
joined : (names : List Text) (index : Index) (position : ℕ) (n : Text) → has names n ≡ true → Contains (noted index names position n) position
joined [] index position n h = cc
joined (m ∷ rest) index position n h = go (bytes_eq m n) refl (joined rest (with_position index m position) position n) h
  where
    go : (b : Bool) → bytes_eq m n ≡ b → (has rest n ≡ true → Contains (noted (with_position index m position) rest position n) position) → (b || has rest n) ≡ true → Contains (noted (with_position index m position) rest position n) position
    go true e later s =
        let here : with_position index m position n ≡ index m ++ position ∷ [] = cond-true (bytes_eq m n) (index m ++ position ∷ []) (index n) e in
        stays rest (with_position index m position) position n position (subst (λ (xs : List ℕ). Contains xs position) (sym here) (Contains-push (index m) position))
    go false e later s = later s

-- which definition is at a position, after one joined
joined_at : (defs : List TopText) (t : TopText) (n : Text) (p : ℕ) → has (definition (defs ++ t ∷ []) p).targets n ≡ true →
    (has (definition defs p).targets n ≡ true) ⊎ ((p ≡ length defs) × (has t.targets n ≡ true))
joined_at [] t n zero h = inr (refl, h)
joined_at [] t n (suc p) h = cc
joined_at (s ∷ rest) t n zero h = inl h
joined_at (s ∷ rest) t n (suc p) h = next (joined_at rest t n p h)
  where
    next : (has (definition rest p).targets n ≡ true) ⊎ ((p ≡ length rest) × (has t.targets n ≡ true)) → (has (definition rest p).targets n ≡ true) ⊎ ((suc p ≡ suc (length rest)) × (has t.targets n ≡ true))
    next (inl x) = inl x
    next (inr x) = inr (ap suc x.0, x.1)

length_snoc : (defs : List TopText) (t : TopText) → length (defs ++ t ∷ []) ≡ suc (length defs)
length_snoc [] t = refl
length_snoc (s ∷ rest) t = ap suc (length_snoc rest t)

-- the index fits the definitions with the one that was noted
pub joins : (index : Index) (defs : List TopText) (t : TopText) → Indexes index defs → Indexes (noted index t.targets (length defs)) (defs ++ t ∷ [])
joins index defs t all n =
    let kept = keeps_all t.targets index defs all n in
    record {
      ascending = kept.ascending;
      within = λ k d lt. let at = kept.within k d lt in let l = length_snoc defs t in omega (arith, at, l);
      all = λ p h. from p (joined_at defs t n p h);
    }
  where
    from : (p : ℕ) → (has (definition defs p).targets n ≡ true) ⊎ ((p ≡ length defs) × (has t.targets n ≡ true)) → Contains (noted index t.targets (length defs) n) p
    from p (inl h) = stays t.targets index (length defs) n p ((all n).all p h)
    from p (inr h) = subst (λ (q : ℕ). Contains (noted index t.targets (length defs) n) q) (sym h.0) (joined t.targets index (length defs) n h.1)

pub on_err : {A E P : Type 0} (r : Result A E) → P → OnErr r P
on_err (Ok a) h = tt
on_err (Err e) h = h
