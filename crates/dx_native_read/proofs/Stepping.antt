-- What the clauses of a file mean steps by ints.
use Rattle.std.proofs.Common.{◌≡◌, ℕ, zero, suc, pos, true, List, [], ◌∷◌, Option, Some, None, refl, sym, ap, ◌∙◌}
use Rattle.std.specs.Prelude.{◌&&◌, slice_get}
use Rattle.dx_base.specs.Object.{Tree, PartList, array, text, no_parts, part}
use Rattle.dx_base.specs.ObjectLimits.{unplaced}
use Rattle.dx_base.specs.ObjectNumbers.{int_number, has_int_steps, steps_by_ints, all_step_by_ints}
use Rattle.dx_native_grammar.specs.Meaning.{parts_at, given_at, attributes_at, listed_tree, body_at, clause_at, at_place, named_at, place_of, tree_at}
use Rattle.dx_native_grammar.specs.declared.clause.Attribute.{Attribute}
use Rattle.dx_native_grammar.specs.declared.clause.Body.{Body}
use Rattle.dx_native_grammar.specs.declared.clause.Body.TheVariants as body
use Rattle.dx_native_grammar.specs.declared.clause.Clause.{Clause}
use Rattle.dx_native_grammar.specs.declared.clause.Given.{Given}
use Rattle.dx_native_grammar.specs.declared.clause.Given.TheVariants as value
use Rattle.dx_native_grammar.specs.declared.clause.ListClass.{ListClass}
use Rattle.dx_native_grammar.specs.declared.clause.ListClass.TheVariants as listing
use Rattle.dx_native_grammar.specs.declared.clause.Part.{Part}
use Rattle.dx_native_meaning.proofs.Somes.{some_is, part_parts, listed_parts}
use Rattle.dx_native_sound.specs.Sound.{Every, IsSoundBody, IsSound}
use Rattle.dx_native_read.proofs.Naming.{two}
use Rattle.dx_native_read.proofs.Whole.{sound_at}

parts_step : (f : List ℕ → Option Tree) → ((n : List ℕ) (t : Tree) → f n ≡ Some t → steps_by_ints t ≡ true) → (ls : List Part) (ps : PartList) → parts_at f ls ≡ Some ps → all_step_by_ints ps ≡ true
parts_step f h [] ps e = ap all_step_by_ints (sym (some_is no_parts ps e))
parts_step f h (l ∷ ls) ps e =
    let q = part_parts l.name l.position (f l.target.text) (parts_at f ls) ps e in
    ap all_step_by_ints (sym q.4) ∙ two (steps_by_ints q.0) (all_step_by_ints q.1) (h l.target.text q.0 q.2) (parts_step f h ls q.1 q.3)

given_step : (k : ℕ) (f : List ℕ → Option Tree) → ((n : List ℕ) (t : Tree) → f n ≡ Some t → steps_by_ints t ≡ true) → (g : Given) (t : Tree) → given_at k f g ≡ Some t → steps_by_ints t ≡ true
given_step zero f h g t e = absurd cc
given_step (suc k) f h (value.Text b) t e = ap steps_by_ints (sym (some_is (text b no_parts) t e))
given_step (suc k) f h (value.Number z) t e = ap steps_by_ints (sym (some_is (int_number z) t e))
given_step (suc k) f h (value.Object r) t e = h r.text t e

attributes_step : (k : ℕ) (f : List ℕ → Option Tree) → ((n : List ℕ) (t : Tree) → f n ≡ Some t → steps_by_ints t ≡ true) → (xs : List Attribute) (ps : PartList) → attributes_at k f xs ≡ Some ps → all_step_by_ints ps ≡ true
attributes_step k f h [] ps e = ap all_step_by_ints (sym (some_is no_parts ps e))
attributes_step k f h (x ∷ xs) ps e =
    let q = part_parts (Some x.name) (pos 0) (given_at k f x.value) (attributes_at k f xs) ps e in
    ap all_step_by_ints (sym q.4) ∙ two (steps_by_ints q.0) (all_step_by_ints q.1) (given_step k f h x.value q.0 q.2) (attributes_step k f h xs q.1 q.3)

step_unplaced : (ps : PartList) → all_step_by_ints (unplaced ps) ≡ all_step_by_ints ps
step_unplaced no_parts = refl
step_unplaced (part n z t ps) = ap (λ b. steps_by_ints t && b) (step_unplaced ps)

listed_step : (c : ListClass) (ps xs : PartList) → all_step_by_ints ps ≡ true → all_step_by_ints xs ≡ true → steps_by_ints (listed_tree c ps xs) ≡ true
listed_step listing.Field ps xs p q = two (all_step_by_ints (unplaced ps)) (all_step_by_ints xs) (step_unplaced ps ∙ p) q
listed_step listing.Group ps xs p q = two (all_step_by_ints (unplaced ps)) (all_step_by_ints xs) (step_unplaced ps ∙ p) q
listed_step listing.Composite ps xs p q = two (all_step_by_ints (unplaced ps)) (all_step_by_ints xs) (step_unplaced ps ∙ p) q
listed_step listing.Series ps xs p q = two (all_step_by_ints ps) (all_step_by_ints xs) p q

body_step : (f : List ℕ → Option Tree) → ((n : List ℕ) (t : Tree) → f n ≡ Some t → steps_by_ints t ≡ true) → (b : Body) (o : Option PartList) (t : Tree) → IsSoundBody b → ((xs : PartList) → o ≡ Some xs → all_step_by_ints xs ≡ true)
    → body_at f b o ≡ Some t → steps_by_ints t ≡ true
body_step f h b None t s g e = absurd cc
body_step f h (body.Array a) (Some xs) t s g e = ap steps_by_ints (sym (some_is (array a xs) t e)) ∙ two (has_int_steps a.class) (all_step_by_ints xs) s (g xs refl)
body_step f h (body.Text b) (Some xs) t s g e = ap steps_by_ints (sym (some_is (text b xs) t e)) ∙ g xs refl
body_step f h (body.Parts c ls) (Some xs) t s g e =
    let q = listed_parts c (parts_at f ls) xs t e in
    ap steps_by_ints (sym q.2) ∙ listed_step c q.0 xs (parts_step f h ls q.0 q.1) (g xs refl)

clause_step : (k : ℕ) (f : List ℕ → Option Tree) → ((n : List ℕ) (t : Tree) → f n ≡ Some t → steps_by_ints t ≡ true) → (o : Option Clause) (t : Tree) → ((c : Clause) → o ≡ Some c → IsSound c)
    → clause_at k f o ≡ Some t → steps_by_ints t ≡ true
clause_step k f h None t s e = absurd cc
clause_step k f h (Some c) t s e =
    body_step f h c.content.body (attributes_at k f c.content.attributes) t (s c refl).of_body (λ xs q. attributes_step k f h c.content.attributes xs q) e

place_step : (g : ℕ → Option Tree) → ((i : ℕ) (t : Tree) → g i ≡ Some t → steps_by_ints t ≡ true) → (o : Option ℕ) (t : Tree) → at_place g o ≡ Some t → steps_by_ints t ≡ true
place_step g h None t e = absurd cc
place_step g h (Some i) t e = h i t e

pub step : (cs : List Clause) → Every IsSound cs → (k i : ℕ) (t : Tree) → tree_at cs k i ≡ Some t → steps_by_ints t ≡ true
unfolding tree_at
step cs s zero i t e = absurd cc
step cs s (suc k) i t e =
    clause_step k (named_at cs (tree_at cs k)) (λ n t e. place_step (tree_at cs k) (step cs s k) (place_of cs n) t e) (slice_get cs i) t (λ c q. sound_at cs s i c q) e
