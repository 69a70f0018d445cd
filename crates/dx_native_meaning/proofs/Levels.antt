-- The levels of what clauses mean.
use Rattle.std.proofs.Common.{◌≡◌, ℕ, zero, suc, ◌<◌, ◌≤◌, max, pos, List, [], ◌∷◌, Option, Some, None, refl, sym, ap, ◌∙◌, arith}
use Rattle.std.specs.Prelude.{slice_get}
use Rattle.dx_base.specs.Object.{Tree, PartList, array, text, field, group, composite, series, no_parts, part, levels, deepest}
use Rattle.dx_base.specs.ObjectLimits.{unplaced}
use Rattle.dx_base.specs.ObjectNumbers.{int_number}
use Rattle.dx_native_grammar.specs.Meaning.{with_part, parts_at, given_at, attributes_at, listed_tree, listed_at, body_at, clause_at, at_place, named_at, place_of, tree_at}
use Rattle.dx_native_grammar.specs.declared.clause.Attribute.{Attribute}
use Rattle.dx_native_grammar.specs.declared.clause.Body.{Body}
use Rattle.dx_native_grammar.specs.declared.clause.Body.TheVariants as body
use Rattle.dx_native_grammar.specs.declared.clause.Clause.{Clause}
use Rattle.dx_native_grammar.specs.declared.clause.Given.{Given}
use Rattle.dx_native_grammar.specs.declared.clause.Given.TheVariants as value
use Rattle.dx_native_grammar.specs.declared.clause.ListClass.{ListClass}
use Rattle.dx_native_grammar.specs.declared.clause.ListClass.TheVariants as listing
use Rattle.dx_native_grammar.specs.declared.clause.Part.{Part}
use Rattle.dx_native_meaning.proofs.Somes.{some_is, part_parts, listed_parts}

deepest_unplaced : (ps : PartList) → deepest (unplaced ps) ≡ deepest ps
deepest_unplaced no_parts = refl
deepest_unplaced (part n z t ps) = ap (max (levels t)) (deepest_unplaced ps)

pub listed_levels : (k : ListClass) (ps xs : PartList) → levels (listed_tree k ps xs) ≡ suc (max (deepest ps) (deepest xs))
listed_levels listing.Field ps xs = ap (λ d. suc (max d (deepest xs))) (deepest_unplaced ps)
listed_levels listing.Group ps xs = ap (λ d. suc (max d (deepest xs))) (deepest_unplaced ps)
listed_levels listing.Composite ps xs = ap (λ d. suc (max d (deepest xs))) (deepest_unplaced ps)
listed_levels listing.Series ps xs = refl

-- ---- the levels of what is meant

parts_shallow : (k : ℕ) (f : List ℕ → Option Tree) → ((n : List ℕ) (t : Tree) → f n ≡ Some t → levels t ≤ k) → (ls : List Part) (ps : PartList) → parts_at f ls ≡ Some ps → deepest ps ≤ k
parts_shallow k f h [] ps e = let p = ap deepest (some_is no_parts ps e) in omega arith
parts_shallow k f h (l ∷ ls) ps e =
    let q = part_parts l.name l.position (f l.target.text) (parts_at f ls) ps e in
    let a = h l.target.text q.0 q.2 in
    let b = parts_shallow k f h ls q.1 q.3 in
    let c = ap deepest q.4 in
    omega arith

given_shallow : (k : ℕ) (f : List ℕ → Option Tree) → ((n : List ℕ) (t : Tree) → f n ≡ Some t → levels t ≤ k) → (g : Given) (t : Tree) → given_at k f g ≡ Some t → levels t ≤ k
given_shallow zero f h g t e = absurd cc
given_shallow (suc k) f h (value.Text b) t e = let p = ap levels (some_is (text b no_parts) t e) in omega arith
given_shallow (suc k) f h (value.Number z) t e = let p = ap levels (some_is (int_number z) t e) in omega arith
given_shallow (suc k) f h (value.Object r) t e = h r.text t e

attributes_shallow : (k : ℕ) (f : List ℕ → Option Tree) → ((n : List ℕ) (t : Tree) → f n ≡ Some t → levels t ≤ k) → (xs : List Attribute) (ps : PartList) → attributes_at k f xs ≡ Some ps → deepest ps ≤ k
attributes_shallow k f h [] ps e = let p = ap deepest (some_is no_parts ps e) in omega arith
attributes_shallow k f h (x ∷ xs) ps e =
    let q = part_parts (Some x.name) (pos 0) (given_at k f x.value) (attributes_at k f xs) ps e in
    let a = given_shallow k f h x.value q.0 q.2 in
    let b = attributes_shallow k f h xs q.1 q.3 in
    let c = ap deepest q.4 in
    omega arith

body_shallow : (k : ℕ) (f : List ℕ → Option Tree) → ((n : List ℕ) (t : Tree) → f n ≡ Some t → levels t ≤ k) → (b : Body) (o : Option PartList) → ((xs : PartList) → o ≡ Some xs → deepest xs ≤ k)
    → (t : Tree) → body_at f b o ≡ Some t → levels t ≤ suc k
body_shallow k f h b None g t e = absurd cc
body_shallow k f h (body.Array a) (Some xs) g t e = let p = ap levels (some_is (array a xs) t e) in let d = g xs refl in omega arith
body_shallow k f h (body.Text b) (Some xs) g t e = let p = ap levels (some_is (text b xs) t e) in let d = g xs refl in omega arith
body_shallow k f h (body.Parts c ls) (Some xs) g t e =
    let q = listed_parts c (parts_at f ls) xs t e in
    let a = parts_shallow k f h ls q.0 q.1 in
    let l = listed_levels c q.0 xs in
    let p = ap levels q.2 in
    let d = g xs refl in
    omega arith

clause_shallow : (k : ℕ) (f : List ℕ → Option Tree) → ((n : List ℕ) (t : Tree) → f n ≡ Some t → levels t ≤ k) → (c : Option Clause) (t : Tree) → clause_at k f c ≡ Some t → levels t ≤ suc k
clause_shallow k f h None t e = absurd cc
clause_shallow k f h (Some c) t e =
    body_shallow k f h c.content.body (attributes_at k f c.content.attributes) (λ xs g. attributes_shallow k f h c.content.attributes xs g) t e

place_shallow : (k : ℕ) (f : ℕ → Option Tree) → ((i : ℕ) (t : Tree) → f i ≡ Some t → levels t ≤ k) → (o : Option ℕ) (t : Tree) → at_place f o ≡ Some t → levels t ≤ k
place_shallow k f h None t e = absurd cc
place_shallow k f h (Some i) t e = h i t e

-- a tree that is meant has no more levels than are allowed
pub shallow : (cs : List Clause) (k i : ℕ) (t : Tree) → tree_at cs k i ≡ Some t → levels t ≤ k
unfolding tree_at
shallow cs zero i t e = absurd cc
shallow cs (suc k) i t e =
    clause_shallow k (named_at cs (tree_at cs k)) (λ n t e. place_shallow k (tree_at cs k) (shallow cs k) (place_of cs n) t e) (slice_get cs i) t e

-- ---- with fewer levels

pub levels_some : (t : Tree) → 1 ≤ levels t
levels_some (array a xs) = omega arith
levels_some (text b xs) = omega arith
levels_some (field ps xs) = omega arith
levels_some (group ps xs) = omega arith
levels_some (composite ps xs) = omega arith
levels_some (series ps xs) = omega arith

parts_low : (j : ℕ) (f g : List ℕ → Option Tree) → ((n : List ℕ) (t : Tree) → f n ≡ Some t → levels t ≤ j → g n ≡ Some t) → (ls : List Part) (ps : PartList) → parts_at f ls ≡ Some ps → deepest ps ≤ j → parts_at g ls ≡ Some ps
parts_low j f g h [] ps e l = e
parts_low j f g h (l ∷ ls) ps e low =
    let q = part_parts l.name l.position (f l.target.text) (parts_at f ls) ps e in
    let c = ap deepest q.4 in
    let a = h l.target.text q.0 q.2 (omega arith) in
    let b = parts_low j f g h ls q.1 q.3 (omega arith) in
    ap (λ o. with_part l.name l.position o (parts_at g ls)) a ∙ ap (λ p. with_part l.name l.position (Some q.0) p) b ∙ ap (λ ps. Some ps) q.4

given_low : (k j : ℕ) (f g : List ℕ → Option Tree) → ((n : List ℕ) (t : Tree) → f n ≡ Some t → levels t ≤ j → g n ≡ Some t) → (v : Given) (t : Tree) → given_at k f v ≡ Some t → levels t ≤ j → given_at j g v ≡ Some t
given_low zero j f g h v t e l = absurd cc
given_low (suc k) zero f g h v t e l = let s = levels_some t in absurd (omega arith)
given_low (suc k) (suc j) f g h (value.Text b) t e l = e
given_low (suc k) (suc j) f g h (value.Number z) t e l = e
given_low (suc k) (suc j) f g h (value.Object r) t e l = h r.text t e l

attributes_low : (k j : ℕ) (f g : List ℕ → Option Tree) → ((n : List ℕ) (t : Tree) → f n ≡ Some t → levels t ≤ j → g n ≡ Some t) → (xs : List Attribute) (ps : PartList) → attributes_at k f xs ≡ Some ps → deepest ps ≤ j → attributes_at j g xs ≡ Some ps
attributes_low k j f g h [] ps e l = e
attributes_low k j f g h (x ∷ xs) ps e low =
    let q = part_parts (Some x.name) (pos 0) (given_at k f x.value) (attributes_at k f xs) ps e in
    let c = ap deepest q.4 in
    let a = given_low k j f g h x.value q.0 q.2 (omega arith) in
    let b = attributes_low k j f g h xs q.1 q.3 (omega arith) in
    ap (λ o. with_part (Some x.name) (pos 0) o (attributes_at j g xs)) a ∙ ap (λ p. with_part (Some x.name) (pos 0) (Some q.0) p) b ∙ ap (λ ps. Some ps) q.4

body_low : (j : ℕ) (f g : List ℕ → Option Tree) → ((n : List ℕ) (t : Tree) → f n ≡ Some t → levels t ≤ j → g n ≡ Some t) → (b : Body) (o p : Option PartList) → ((xs : PartList) → o ≡ Some xs → deepest xs ≤ j → p ≡ Some xs)
    → (t : Tree) → body_at f b o ≡ Some t → levels t ≤ suc j → body_at g b p ≡ Some t
body_low j f g h b None p m t e l = absurd cc
body_low j f g h (body.Array a) (Some xs) p m t e l =
    let d = ap levels (some_is (array a xs) t e) in
    ap (body_at g (body.Array a)) (m xs refl (omega arith)) ∙ e
body_low j f g h (body.Text b) (Some xs) p m t e l =
    let d = ap levels (some_is (text b xs) t e) in
    ap (body_at g (body.Text b)) (m xs refl (omega arith)) ∙ e
body_low j f g h (body.Parts c ls) (Some xs) p m t e l =
    let q = listed_parts c (parts_at f ls) xs t e in
    let d = ap levels q.2 in
    let w = listed_levels c q.0 xs in
    let a = parts_low j f g h ls q.0 q.1 (omega arith) in
    ap (body_at g (body.Parts c ls)) (m xs refl (omega arith)) ∙ ap (λ ps. listed_at c ps xs) a ∙ ap (λ t. Some t) q.2

clause_low : (k j : ℕ) (f g : List ℕ → Option Tree) → ((n : List ℕ) (t : Tree) → f n ≡ Some t → levels t ≤ j → g n ≡ Some t) → (c : Option Clause) (t : Tree) → clause_at k f c ≡ Some t → levels t ≤ suc j → clause_at j g c ≡ Some t
clause_low k j f g h None t e l = absurd cc
clause_low k j f g h (Some c) t e l =
    body_low j f g h c.content.body (attributes_at k f c.content.attributes) (attributes_at j g c.content.attributes) (λ xs p d. attributes_low k j f g h c.content.attributes xs p d) t e l

place_low : (j : ℕ) (f g : ℕ → Option Tree) → ((i : ℕ) (t : Tree) → f i ≡ Some t → levels t ≤ j → g i ≡ Some t) → (o : Option ℕ) (t : Tree) → at_place f o ≡ Some t → levels t ≤ j → at_place g o ≡ Some t
place_low j f g h None t e l = absurd cc
place_low j f g h (Some i) t e l = h i t e l

-- as many levels as the tree has are enough
pub low : (cs : List Clause) (k j i : ℕ) (t : Tree) → tree_at cs k i ≡ Some t → levels t ≤ j → tree_at cs j i ≡ Some t
unfolding tree_at
low cs zero j i t e l = absurd cc
low cs (suc k) zero i t e l = let s = levels_some t in absurd (omega arith)
low cs (suc k) (suc j) i t e l =
    clause_low k j (named_at cs (tree_at cs k)) (named_at cs (tree_at cs j)) (λ n t e l. place_low j (tree_at cs k) (tree_at cs j) (λ i t e l. low cs k j i t e l) (place_of cs n) t e l) (slice_get cs i) t e l

-- and fewer are not
too_low : (cs : List Clause) (k j i : ℕ) (t : Tree) → tree_at cs k i ≡ Some t → j < levels t → (o : Option Tree) → tree_at cs j i ≡ o → o ≡ None
too_low cs k j i t e l None h = refl
too_low cs k j i t e l (Some u) h =
    let a = shallow cs j i u h in
    let b = shallow cs k i t e in
    let c = low cs j k i u h (omega arith) in
    let same : t ≡ u = some_is t u (sym e ∙ c) in
    let d = ap levels same in
    absurd (omega arith)

pub deep : (cs : List Clause) (k j i : ℕ) (t : Tree) → tree_at cs k i ≡ Some t → j < levels t → tree_at cs j i ≡ None
deep cs k j i t e l = too_low cs k j i t e l (tree_at cs j i) refl
