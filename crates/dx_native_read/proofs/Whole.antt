-- What the clauses of a file mean is an object, where it is within the limits.
use Rattle.std.proofs.Common.{◌≡◌, ℕ, zero, suc, pos, Bool, true, false, List, [], ◌∷◌, Option, Some, None, refl, sym, ap, subst, ◌∙◌}
use Rattle.std.specs.Prelude.{◌&&◌, cond, slice_get, nat_le}
use Rattle.dx_base.specs.Object.{Tree, PartList, array, text, field, group, composite, series, no_parts, part}
use Rattle.dx_base.specs.ObjectLimits.{fits, is_array, is_field, all_arrays, all_fields, differ, all_named, none_named, has_good_names, has_array_components, has_field_members, unplaced}
use Rattle.dx_base.specs.ObjectNumbers.{int_number}
use Rattle.dx_native_lex.specs.declared.fault.NativeError.{NativeError}
use Rattle.dx_native_lex.specs.declared.token.Named.{Named}
use Rattle.dx_native_grammar.specs.Meaning.{earlier, is_array_body, is_field_body, has_body, unfit, component_fault, field_fault, parts_fault, body_fault, attributes_fault, content_fault, clauses_fault, parts_at, given_at, attributes_at, listed_tree, body_at, clause_at, at_place, named_at, place_of, tree_at}
use Rattle.dx_native_grammar.specs.Names.{attribute_names}
use Rattle.dx_native_grammar.specs.declared.clause.Attribute.{Attribute}
use Rattle.dx_native_grammar.specs.declared.clause.Body.{Body}
use Rattle.dx_native_grammar.specs.declared.clause.Body.TheVariants as body
use Rattle.dx_native_grammar.specs.declared.clause.Clause.{Clause}
use Rattle.dx_native_grammar.specs.declared.clause.Given.{Given}
use Rattle.dx_native_grammar.specs.declared.clause.Given.TheVariants as value
use Rattle.dx_native_grammar.specs.declared.clause.ListClass.{ListClass}
use Rattle.dx_native_grammar.specs.declared.clause.ListClass.TheVariants as listing
use Rattle.dx_native_grammar.specs.declared.clause.Part.{Part}
use Rattle.dx_native_meaning.proofs.Somes.{some_is, part_parts, listed_parts}
use Rattle.dx_native_sound.specs.Sound.{Distinct, Every, IsSoundBody, IsSound}
use Rattle.dx_native_walk.specs.Answer.{IsOne, IsWhole, AreWhole}
use Rattle.dx_native_read.proofs.Fitting.{AllFit, array_fit, text_fit, field_fit, series_fit, fit_placed}
use Rattle.dx_native_read.proofs.Naming.{two, parts_differ, parts_named, parts_unnamed, attributes_differ, attributes_named, differ_unplaced, named_unplaced}

-- ---- references that are not refused

nothing_earlier : (x y : Option NativeError) → earlier x y ≡ None → (x ≡ None) × (y ≡ None)
nothing_earlier None y h = (refl, h)
nothing_earlier (Some e) None h = absurd cc
nothing_earlier (Some e) (Some g) h = absurd (sooner (nat_le e.at g.at) h)
  where
    sooner : (b : Bool) → cond {A = Option NativeError} b (Some e) (Some g) ≡ None → ⊥
    sooner true h = absurd cc
    sooner false h = absurd cc

no_fault : (cs ds : List Clause) → clauses_fault cs ds ≡ None → (i : ℕ) (c : Clause) → slice_get ds i ≡ Some c → content_fault cs c.content ≡ None
no_fault cs [] h i c e = absurd cc
no_fault cs (d ∷ ds) h zero c e =
    let q = nothing_earlier (content_fault cs d.content) (clauses_fault cs ds) h in
    let same : d ≡ c = some_clause d c e in
    ap (λ (c : Clause). content_fault cs c.content) (sym same) ∙ q.0
  where
    some_clause : (x y : Clause) → ◌≡◌ {A = Option Clause} (Some x) (Some y) → x ≡ y
    some_clause x y e = cc
no_fault cs (d ∷ ds) h (suc i) c e = no_fault cs ds (nothing_earlier (content_fault cs d.content) (clauses_fault cs ds) h).1 i c e

pub sound_at : (cs : List Clause) → Every IsSound cs → (i : ℕ) (c : Clause) → slice_get cs i ≡ Some c → IsSound c
sound_at [] h i c e = absurd cc
sound_at (d ∷ ds) h zero c e = let same : d ≡ c = some_clause d c e in subst IsSound same h.0
  where
    some_clause : (x y : Clause) → ◌≡◌ {A = Option Clause} (Some x) (Some y) → x ≡ y
    some_clause x y e = cc
sound_at (d ∷ ds) h (suc i) c e = sound_at ds h.1 i c e

-- ---- components are arrays, and members of composite groups fields

array_tree : (k : ℕ) (f : List ℕ → Option Tree) (c : Option Clause) (t : Tree) → has_body is_array_body c ≡ true → clause_at k f c ≡ Some t → is_array t ≡ true
array_tree k f None t h e = absurd cc
array_tree k f (Some c) t h e = by_body c.content.body (attributes_at k f c.content.attributes) h e
  where
    by_body : (b : Body) (o : Option PartList) → is_array_body b ≡ true → body_at f b o ≡ Some t → is_array t ≡ true
    by_body b None h e = absurd cc
    by_body (body.Array a) (Some xs) h e = ap is_array (sym (some_is (array a xs) t e))
    by_body (body.Text a) (Some xs) h e = absurd cc
    by_body (body.Parts c ls) (Some xs) h e = absurd cc

field_tree : (k : ℕ) (f : List ℕ → Option Tree) (c : Option Clause) (t : Tree) → has_body is_field_body c ≡ true → clause_at k f c ≡ Some t → is_field t ≡ true
field_tree k f None t h e = absurd cc
field_tree k f (Some c) t h e = by_body c.content.body (attributes_at k f c.content.attributes) h e
  where
    by_body : (b : Body) (o : Option PartList) → is_field_body b ≡ true → body_at f b o ≡ Some t → is_field t ≡ true
    by_body b None h e = absurd cc
    by_body (body.Array a) (Some xs) h e = absurd cc
    by_body (body.Text a) (Some xs) h e = absurd cc
    by_body (body.Parts listing.Field ls) (Some xs) h e = let q = listed_parts listing.Field (parts_at f ls) xs t e in ap is_field (sym q.2)
    by_body (body.Parts listing.Group ls) (Some xs) h e = absurd cc
    by_body (body.Parts listing.Composite ls) (Some xs) h e = absurd cc
    by_body (body.Parts listing.Series ls) (Some xs) h e = absurd cc

array_at : (cs : List Clause) (k i : ℕ) (t : Tree) → has_body is_array_body (slice_get cs i) ≡ true → tree_at cs k i ≡ Some t → is_array t ≡ true
unfolding tree_at
array_at cs zero i t h e = absurd cc
array_at cs (suc k) i t h e = array_tree k (named_at cs (tree_at cs k)) (slice_get cs i) t h e

field_at : (cs : List Clause) (k i : ℕ) (t : Tree) → has_body is_field_body (slice_get cs i) ≡ true → tree_at cs k i ≡ Some t → is_field t ≡ true
unfolding tree_at
field_at cs zero i t h e = absurd cc
field_at cs (suc k) i t h e = field_tree k (named_at cs (tree_at cs k)) (slice_get cs i) t h e

fitting : (kind : Body → Bool) (cs : List Clause) (o : Option ℕ) (at : ℕ) → unfit kind cs o at ≡ None → (i : ℕ) × (o ≡ Some i) × (has_body kind (slice_get cs i) ≡ true)
fitting kind cs None at h = absurd cc
fitting kind cs (Some i) at h = (i, refl, by_test (has_body kind (slice_get cs i)) _ h)
  where
    by_test : (b : Bool) (e : NativeError) → cond {A = Option NativeError} b None (Some e) ≡ None → b ≡ true
    by_test true e h = refl
    by_test false e h = absurd cc

component_array : (cs : List Clause) (k : ℕ) (r : Named) (t : Tree) → component_fault cs r ≡ None → named_at cs (tree_at cs k) r.text ≡ Some t → is_array t ≡ true
component_array cs k r t h e =
    let q = fitting is_array_body cs (place_of cs r.text) r.at h in
    array_at cs k q.0 t q.2 (sym (ap (at_place (tree_at cs k)) q.1) ∙ e)

member_field : (cs : List Clause) (k : ℕ) (r : Named) (t : Tree) → field_fault cs r ≡ None → named_at cs (tree_at cs k) r.text ≡ Some t → is_field t ≡ true
member_field cs k r t h e =
    let q = fitting is_field_body cs (place_of cs r.text) r.at h in
    field_at cs k q.0 t q.2 (sym (ap (at_place (tree_at cs k)) q.1) ∙ e)

components_arrays : (cs : List Clause) (k : ℕ) (ls : List Part) (ps : PartList) → parts_fault cs listing.Field ls ≡ None → parts_at (named_at cs (tree_at cs k)) ls ≡ Some ps → all_arrays ps ≡ true
components_arrays cs k [] ps h e = ap all_arrays (sym (some_is no_parts ps e))
components_arrays cs k (l ∷ ls) ps h e =
    let q = part_parts l.name l.position (named_at cs (tree_at cs k) l.target.text) (parts_at (named_at cs (tree_at cs k)) ls) ps e in
    let n = nothing_earlier (component_fault cs l.target) (parts_fault cs listing.Field ls) h in
    ap all_arrays (sym q.4) ∙ two (is_array q.0) (all_arrays q.1) (component_array cs k l.target q.0 n.0 q.2) (components_arrays cs k ls q.1 n.1 q.3)

members_fields : (cs : List Clause) (k : ℕ) (ls : List Part) (ps : PartList) → parts_fault cs listing.Composite ls ≡ None → parts_at (named_at cs (tree_at cs k)) ls ≡ Some ps → all_fields ps ≡ true
members_fields cs k [] ps h e = ap all_fields (sym (some_is no_parts ps e))
members_fields cs k (l ∷ ls) ps h e =
    let q = part_parts l.name l.position (named_at cs (tree_at cs k) l.target.text) (parts_at (named_at cs (tree_at cs k)) ls) ps e in
    let n = nothing_earlier (field_fault cs l.target) (parts_fault cs listing.Composite ls) h in
    ap all_fields (sym q.4) ∙ two (is_field q.0) (all_fields q.1) (member_field cs k l.target q.0 n.0 q.2) (members_fields cs k ls q.1 n.1 q.3)

arrays_unplaced : (ps : PartList) → all_arrays (unplaced ps) ≡ all_arrays ps
arrays_unplaced no_parts = refl
arrays_unplaced (part n z t ps) = ap (λ b. is_array t && b) (arrays_unplaced ps)

fields_unplaced : (ps : PartList) → all_fields (unplaced ps) ≡ all_fields ps
fields_unplaced no_parts = refl
fields_unplaced (part n z t ps) = ap (λ b. is_field t && b) (fields_unplaced ps)

-- ---- parts and attributes

whole_unplaced : (ps : PartList) → AreWhole ps → AreWhole (unplaced ps)
whole_unplaced no_parts h = tt
whole_unplaced (part n z t ps) h = (h.0, whole_unplaced ps h.1)

parts_whole : (f : List ℕ → Option Tree) → ((n : List ℕ) (t : Tree) → f n ≡ Some t → fits t ≡ true → IsWhole t) → (ls : List Part) (ps : PartList) → parts_at f ls ≡ Some ps → AllFit ps → AreWhole ps
parts_whole f h [] ps e a = subst AreWhole (some_is no_parts ps e) tt
parts_whole f h (l ∷ ls) ps e a =
    let q = part_parts l.name l.position (f l.target.text) (parts_at f ls) ps e in
    let b = subst AllFit (sym q.4) a in
    subst AreWhole q.4 (h l.target.text q.0 q.2 b.0, parts_whole f h ls q.1 q.3 b.1)

alone : (t : Tree) → has_good_names t ≡ true → has_array_components t ≡ true → has_field_members t ≡ true → fits t ≡ true → IsOne t
alone t a b c d = record { names = cc a; components = cc b; members = cc c; limits = cc d }

given_whole : (k : ℕ) (f : List ℕ → Option Tree) → ((n : List ℕ) (t : Tree) → f n ≡ Some t → fits t ≡ true → IsWhole t) → (g : Given) (t : Tree) → given_at k f g ≡ Some t → fits t ≡ true → IsWhole t
given_whole zero f h g t e a = absurd cc
given_whole (suc k) f h (value.Text b) t e a =
    let same = some_is (text b no_parts) t e in
    subst IsWhole same (alone (text b no_parts) refl refl refl (ap fits same ∙ a), tt)
given_whole (suc k) f h (value.Number z) t e a =
    let same = some_is (int_number z) t e in
    subst IsWhole same (alone (int_number z) refl refl refl (ap fits same ∙ a), tt)
given_whole (suc k) f h (value.Object r) t e a = h r.text t e a

attributes_whole : (k : ℕ) (f : List ℕ → Option Tree) → ((n : List ℕ) (t : Tree) → f n ≡ Some t → fits t ≡ true → IsWhole t) → (xs : List Attribute) (ps : PartList) → attributes_at k f xs ≡ Some ps → AllFit ps → AreWhole ps
attributes_whole k f h [] ps e a = subst AreWhole (some_is no_parts ps e) tt
attributes_whole k f h (x ∷ xs) ps e a =
    let q = part_parts (Some x.name) (pos 0) (given_at k f x.value) (attributes_at k f xs) ps e in
    let b = subst AllFit (sym q.4) a in
    subst AreWhole q.4 (given_whole k f h x.value q.0 q.2 b.0, attributes_whole k f h xs q.1 q.3 b.1)

-- ---- a clause

-- attributes as an object may have them
record AreGood (xs : PartList) : Type 0 where
  named : all_named xs ≡ true
  apart : differ xs ≡ true
  whole : AllFit xs → AreWhole xs

good : (xs : PartList) → all_named xs ≡ true → differ xs ≡ true → (all_named xs && differ xs) ≡ true
good xs p q = two (all_named xs) (differ xs) p q

module _ (cs : List Clause) (k : ℕ) (h : (n : List ℕ) (t : Tree) → named_at cs (tree_at cs k) n ≡ Some t → fits t ≡ true → IsWhole t) where
  listed_whole : (c : ListClass) (ls : List Part) (ps xs : PartList) → IsSoundBody (body.Parts c ls) → parts_fault cs c ls ≡ None → parts_at (named_at cs (tree_at cs k)) ls ≡ Some ps → AreGood xs
      → fits (listed_tree c ps xs) ≡ true → IsWhole (listed_tree c ps xs)
  listed_whole listing.Field ls ps xs s r e g a =
      let w = field_fit (unplaced ps) xs a in
      let names = two (all_named (unplaced ps) && differ (unplaced ps)) (all_named xs && differ xs)
      (two (all_named (unplaced ps)) (differ (unplaced ps)) (named_unplaced ps ∙ parts_named (named_at cs (tree_at cs k)) ls ps e s.1) (differ_unplaced ps ∙ parts_differ (named_at cs (tree_at cs k)) ls ps e s.0)) (good xs g.named g.apart) in (
        alone (field (unplaced ps) xs) names (arrays_unplaced ps ∙ components_arrays cs k ls ps r e) refl a,
        whole_unplaced ps (parts_whole (named_at cs (tree_at cs k)) h ls ps e (fit_placed ps w.0)),
        g.whole w.1,
      )
  listed_whole listing.Group ls ps xs s r e g a =
      let w = field_fit (unplaced ps) xs a in
      let names = two (differ (unplaced ps)) (all_named xs && differ xs) (differ_unplaced ps ∙ parts_differ (named_at cs (tree_at cs k)) ls ps e s.0) (good xs g.named g.apart) in (
        alone (group (unplaced ps) xs) names refl refl a,
        whole_unplaced ps (parts_whole (named_at cs (tree_at cs k)) h ls ps e (fit_placed ps w.0)),
        g.whole w.1,
      )
  listed_whole listing.Composite ls ps xs s r e g a =
      let w = field_fit (unplaced ps) xs a in
      let names = two (differ (unplaced ps)) (all_named xs && differ xs) (differ_unplaced ps ∙ parts_differ (named_at cs (tree_at cs k)) ls ps e s.0) (good xs g.named g.apart) in (
        alone (composite (unplaced ps) xs) names refl (fields_unplaced ps ∙ members_fields cs k ls ps r e) a,
        whole_unplaced ps (parts_whole (named_at cs (tree_at cs k)) h ls ps e (fit_placed ps w.0)),
        g.whole w.1,
      )
  listed_whole listing.Series ls ps xs s r e g a =
      let w = series_fit ps xs a in
      let names = two (none_named ps) (all_named xs && differ xs) (parts_unnamed (named_at cs (tree_at cs k)) ls ps e s.1) (good xs g.named g.apart) in
      (alone (series ps xs) names refl refl a, parts_whole (named_at cs (tree_at cs k)) h ls ps e w.0, g.whole w.1)

  body_whole : (b : Body) (o : Option PartList) (t : Tree) → IsSoundBody b → body_fault cs b ≡ None → ((xs : PartList) → o ≡ Some xs → AreGood xs) → body_at (named_at cs (tree_at cs k)) b o ≡ Some t → fits t ≡ true → IsWhole t
  body_whole b None t s r g e a = absurd cc
  body_whole (body.Array d) (Some xs) t s r g e a =
      let same = some_is (array d xs) t e in
      let x = g xs refl in
      let b = ap fits same ∙ a in
      subst IsWhole same (alone (array d xs) (good xs x.named x.apart) refl refl b, x.whole (array_fit d xs b))
  body_whole (body.Text d) (Some xs) t s r g e a =
      let same = some_is (text d xs) t e in
      let x = g xs refl in
      let b = ap fits same ∙ a in
      subst IsWhole same (alone (text d xs) (good xs x.named x.apart) refl refl b, x.whole (text_fit d xs b))
  body_whole (body.Parts c ls) (Some xs) t s r g e a =
      let q = listed_parts c (parts_at (named_at cs (tree_at cs k)) ls) xs t e in
      subst IsWhole q.2 (listed_whole c ls q.0 xs s r q.1 (g xs refl) (ap fits q.2 ∙ a))

  attributes_good : (xs : List Attribute) (ps : PartList) → attributes_at k (named_at cs (tree_at cs k)) xs ≡ Some ps → Distinct (attribute_names xs) → AreGood ps
  attributes_good xs ps e d = record {
    named = attributes_named k (named_at cs (tree_at cs k)) xs ps e;
    apart = attributes_differ k (named_at cs (tree_at cs k)) xs ps e d;
    whole = attributes_whole k (named_at cs (tree_at cs k)) h xs ps e;
  }

  clause_whole : (o : Option Clause) (t : Tree) → ((c : Clause) → o ≡ Some c → IsSound c × (content_fault cs c.content ≡ None)) → clause_at k (named_at cs (tree_at cs k)) o ≡ Some t → fits t ≡ true → IsWhole t
  clause_whole None t s e a = absurd cc
  clause_whole (Some c) t s e a =
      let p = s c refl in
      let n = nothing_earlier (body_fault cs c.content.body) (attributes_fault cs c.content.attributes) p.1 in
      body_whole c.content.body (attributes_at k (named_at cs (tree_at cs k)) c.content.attributes) t p.0.of_body n.0 (λ xs q. attributes_good c.content.attributes xs q p.0.attributes) e a

place_whole : (g : ℕ → Option Tree) → ((i : ℕ) (t : Tree) → g i ≡ Some t → fits t ≡ true → IsWhole t) → (o : Option ℕ) (t : Tree) → at_place g o ≡ Some t → fits t ≡ true → IsWhole t
place_whole g h None t e a = absurd cc
place_whole g h (Some i) t e a = h i t e a

-- a tree that is meant and within the limits is an object
pub whole : (cs : List Clause) → Every IsSound cs → clauses_fault cs cs ≡ None → (k i : ℕ) (t : Tree) → tree_at cs k i ≡ Some t → fits t ≡ true → IsWhole t
unfolding tree_at
whole cs s r zero i t e a = absurd cc
whole cs s r (suc k) i t e a =
    clause_whole cs k (λ n t e a. place_whole (tree_at cs k) (whole cs s r k) (place_of cs n) t e a) (slice_get cs i) t
    (λ c q. (sound_at cs s i c q, no_fault cs cs r i c q)) e a
