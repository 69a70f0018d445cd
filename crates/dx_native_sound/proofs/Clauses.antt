-- Each clause that the grammar lets stand is sound.
use Rattle.std.proofs.Common.{◌≡◌, ℕ, zero, suc, ℤ, Bool, true, false, List, [], ◌∷◌, ◌++◌, Option, Some, None, length, refl, sym, ap, subst, ◌∙◌}
use Rattle.std.specs.Prelude.{is_some, is_none, ◌&&◌, codes, cond}
use Rattle.dx_base.specs.Array.{ArrayData, plain, constant, regular, product}
use Rattle.dx_base.specs.Elem.{in_range}
use Rattle.dx_base.specs.ObjectNumbers.{are_ints, has_int_steps}
use Rattle.dx_base.specs.declared.elem.ElemType.TheVariants.{Int}
use Rattle.dx_places.specs.Grammar.{At, Grammar, Goes, chosen}
use Rattle.dx_native_lex.specs.Token.{NativeGrammar, sees}
use Rattle.dx_native_lex.specs.declared.fault.NativeError.{NativeError}
use Rattle.dx_native_grammar.specs.Grammar.{Listed, File, bounded, int, counted, attribute, next_attribute, attributes, sees_attribute, component, member, placed, part_of, listed_part, listed_attribute, listed_next, sees_listed, listed, listing_content, text, made, plain_array, constant_array, regular_array, delta, deltas, grid_points, grid_cells, array_content, content_at, content, place, clause, file_clause, file_default, file_next, sees_next, sees_object, file_clauses, file}
use Rattle.dx_native_grammar.specs.Names.{part_names, attribute_names, has_label, has_part, has_attribute}
use Rattle.dx_native_grammar.specs.Words.{repeated, part_word, array_of, points_of, cells_of}
use Rattle.dx_native_grammar.specs.declared.clause.Attribute.{Attribute}
use Rattle.dx_native_grammar.specs.declared.clause.Clause.{Clause}
use Rattle.dx_native_grammar.specs.declared.clause.Content.{Content}
use Rattle.dx_native_grammar.specs.declared.clause.ListClass.{ListClass}
use Rattle.dx_native_grammar.specs.declared.clause.ListClass.TheVariants as listing
use Rattle.dx_native_grammar.specs.declared.clause.Part.{Part}
use Rattle.dx_native_sound.specs.Sound.{Distinct, Every, IsNamedIn, IsSoundBody, IsSound}
use Rattle.dx_native_sound.proofs.Distinct.{parts_push, attributes_push, all_push}

-- what each turn of a loop keeps stands at its end
goes_keep : {A : Type 0} (test : A → At → Bool) (X : A → Grammar NativeError A) (P : A → Type 0) → ((a : A) (s : At) (c : A) (m : At) → P a → (X a).is s c m → P c)
    → (k : ℕ) (a : A) (s : At) (b : A) (e : At) → Goes test X k a s b e → P a → P b
goes_keep test X P keep zero a s b e h p = subst P h.1 p
goes_keep test X P keep (suc k) a s b e h p = goes_keep test X P keep k h.2 h.1 b e h.4 (keep a s h.2 h.1 p h.3)

either : {P Q R : Type 0} (b : Bool) → chosen b P Q → (P → R) → (Q → R) → R
either true h p q = p h
either false h p q = q h

-- ---- attributes

unrepeated : (b : Bool) (at : ℕ) → repeated b at ≡ None → b ≡ false
unrepeated true at h = absurd cc
unrepeated false at h = refl

attribute_fresh : (found : List Attribute) (s : At) (a : Attribute) (e : At) → (attribute found).is s a e → has_attribute a.name found ≡ false
unfolding attribute
attribute_fresh found s a e (m, u, k, (l, n, q, (o, v, r, (p, g, w, d)))) =
    ap (λ (a : Attribute). has_attribute a.name found) (sym d.0) ∙ unrepeated (has_attribute n.text found) n.at r.0

turn_attribute : (found : List Attribute) (s : At) (new : List Attribute) (e : At) → Distinct (attribute_names found) → (next_attribute found).is s new e → Distinct (attribute_names new)
unfolding next_attribute
turn_attribute found s new e d (m, a, h, w) = subst (λ (xs : List Attribute). Distinct (attribute_names xs)) w.0 (attributes_push found a d (attribute_fresh found s a m h))

attributes_distinct : (s : At) (xs : List Attribute) (e : At) → attributes.is s xs e → Distinct (attribute_names xs)
unfolding attributes
attributes_distinct s xs e (k, h) = goes_keep sees_attribute next_attribute (λ xs. Distinct (attribute_names xs)) turn_attribute k [] s xs e h tt

-- ---- parts

IsSoundPart : ListClass → List Part → Part → Type 0
IsSoundPart k found p = (has_label p.name found ≡ false) × IsNamedIn k p

component_sound : (found : List Part) (s : At) (p : Part) (e : At) → (component found).is s p e → (has_label p.name found ≡ false) × IsNamedIn listing.Field p
unfolding component
component_sound found s p e (m, u, k, (l, n, q, (o, v, r, (x, g, w, d)))) =
    (ap (λ (p : Part). has_label p.name found) (sym d.0) ∙ unrepeated (has_part n.text found) n.at r.0, ap (λ (p : Part). is_some p.name) (sym d.0))

member_sound : (found : List Part) (s : At) (p : Part) (e : At) → (member found).is s p e → has_label p.name found ≡ false
unfolding member
member_sound found s p e (m, u, k, (l, n, q, (o, v, r, (x, g, w, d)))) =
    ap (λ (p : Part). has_label p.name found) (sym d.0) ∙ unrepeated (has_label n.name found) n.at r.0

placed_sound : (found : List Part) (s : At) (p : Part) (e : At) → (placed found).is s p e → (has_label p.name found ≡ false) × IsNamedIn listing.Series p
unfolding placed
placed_sound found s p e (m, u, k, (l, i, q, (o, v, r, (x, z, w, (y, g, f, d))))) =
    (ap (λ (p : Part). has_label p.name found) (sym d.0), ap (λ (p : Part). is_none p.name) (sym d.0))

part_sound : (k : ListClass) (found : List Part) (s : At) (p : Part) (e : At) → (part_of k found).is s p e → (has_label p.name found ≡ false) × IsNamedIn k p
part_sound listing.Field found s p e h = component_sound found s p e h
part_sound listing.Group found s p e h = (member_sound found s p e h, tt)
part_sound listing.Composite found s p e h = (member_sound found s p e h, tt)
part_sound listing.Series found s p e h = placed_sound found s p e h

abbrev IsSoundList : ListClass → Listed → Type 0
IsSoundList k l = (Distinct (part_names l.parts) × Every (IsNamedIn k) l.parts) × Distinct (attribute_names l.attributes)

turn_part : (k : ListClass) (l : Listed) (s : At) (new : Listed) (e : At) → IsSoundList k l → (listed_part k l).is s new e → IsSoundList k new
unfolding listed_part
turn_part k l s new e d (m, p, h, w) =
    let q = part_sound k l.parts s p m h in
    subst (IsSoundList k) w.0 ((parts_push l.parts p d.0.0 q.0, all_push (IsNamedIn k) l.parts p d.0.1 q.1), d.1)

turn_listed_attribute : (k : ListClass) (l : Listed) (s : At) (new : Listed) (e : At) → IsSoundList k l → (listed_attribute l).is s new e → IsSoundList k new
unfolding listed_attribute
turn_listed_attribute k l s new e d (m, a, h, w) = subst (IsSoundList k) w.0 (d.0, attributes_push l.attributes a d.1 (attribute_fresh l.attributes s a m h))

turn_listed : (k : ListClass) (l : Listed) (s : At) (new : Listed) (e : At) → IsSoundList k l → (listed_next k l).is s new e → IsSoundList k new
unfolding listed_next
turn_listed k l s new e d h = either (sees (part_word k) s) h (turn_part k l s new e d) (turn_listed_attribute k l s new e d)

listed_sound : (k : ListClass) (s : At) (l : Listed) (e : At) → (listed k).is s l e → IsSoundList k l
unfolding listed
listed_sound k s l e (n, h) = goes_keep (sees_listed k) (listed_next k) (IsSoundList k) (turn_listed k) n (record { parts = []; attributes = [] }) s l e h ((tt, tt), tt)

-- ---- ints

in_bounds : (b : Bool) (f : NativeError) → cond {A = Option NativeError} b None (Some f) ≡ None → b ≡ true
in_bounds true f h = refl
in_bounds false f h = absurd cc

int_is : (s : At) (z : ℤ) (e : At) → int.is s z e → in_range Int z ≡ true
unfolding bounded
int_is s z e (m, n, q, (o, u, r, d)) = ap (in_range Int) (sym d.0) ∙ in_bounds _ _ r.0

all_snoc : (zs : List ℤ) (z : ℤ) → are_ints zs ≡ true → in_range Int z ≡ true → are_ints (zs ++ z ∷ []) ≡ true
all_snoc [] z h p = ap (λ b. b && true) p
all_snoc (y ∷ zs) z h p =
    let q = both (in_range Int y) (are_ints zs) h in
    ap (λ b. b && are_ints (zs ++ z ∷ [])) q.0 ∙ all_snoc zs z q.1 p
  where
    both : (a b : Bool) → (a && b) ≡ true → (a ≡ true) × (b ≡ true)
    both true b h = (refl, h)
    both false b h = absurd cc

counted_ints : (n : ℕ) (found : List ℤ) (s : At) (zs : List ℤ) (e : At) → are_ints found ≡ true → (counted int n found).is s zs e → are_ints zs ≡ true
unfolding counted
counted_ints zero found s zs e h d = ap are_ints (sym d.0) ∙ h
counted_ints (suc n) found s zs e h (m, z, q, d) = counted_ints n (found ++ z ∷ []) m zs e (all_snoc found z h (int_is s z m q)) d

deltas_ints : (n k : ℕ) (found : List ℤ) (s : At) (zs : List ℤ) (e : At) → are_ints found ≡ true → (deltas n k found).is s zs e → are_ints zs ≡ true
unfolding deltas delta
deltas_ints n zero found s zs e h d = ap are_ints (sym d.0) ∙ h
deltas_ints n (suc k) found s zs e h (m, ds, (l, u, w, q), d) = deltas_ints n k ds m zs e (counted_ints n found l ds m h q) d

-- ---- arrays

made_is : (at : ℕ) (a : ArrayData) (s : At) (b : ArrayData) (e : At) → (made at a).is s b e → a ≡ b
unfolding made
made_is at a s b e (m, u, q, d) = d.0

plain_steps : (at : ℕ) (s : At) (a : ArrayData) (e : At) → (plain_array at).is s a e → has_int_steps a.class ≡ true
unfolding plain_array
plain_steps at s a e (m, u, q, (l, h, r, (o, vs, v, d))) = ap (λ (a : ArrayData). has_int_steps a.class) (sym (made_is at (array_of h (plain vs)) o a e d))

constant_steps : (at : ℕ) (s : At) (a : ArrayData) (e : At) → (constant_array at).is s a e → has_int_steps a.class ≡ true
unfolding constant_array
constant_steps at s a e (m, u, q, (l, h, r, (o, vs, v, d))) = ap (λ (a : ArrayData). has_int_steps a.class) (sym (made_is at (array_of h (constant h.items vs)) o a e d))

two : (a b : Bool) → a ≡ true → b ≡ true → (a && b) ≡ true
two true b p q = q
two false b p q = absurd cc

regular_steps : (at : ℕ) (s : At) (a : ArrayData) (e : At) → (regular_array at).is s a e → has_int_steps a.class ≡ true
unfolding regular_array
regular_steps at s a e (m, u, q, (l, h, r, (o, v, w, (p, os, x, (i, y, z, (j, ds, g, d)))))) =
    ap (λ (a : ArrayData). has_int_steps a.class) (sym (made_is at (array_of h (regular h.items os ds)) j a e d))
    ∙ two (are_ints os) (are_ints ds) (counted_ints (product h.extents) [] o os p refl x) (counted_ints (product h.extents) [] i ds j refl g)

points_steps : (at : ℕ) (s : At) (a : ArrayData) (e : At) → (grid_points at).is s a e → has_int_steps a.class ≡ true
unfolding grid_points
points_steps at s a e (m, u, q, (l, cs, r, (o, v, w, (p, f, x, (i, os, y, (j, ds, g, d)))))) =
    ap (λ (a : ArrayData). has_int_steps a.class) (sym (made_is at (points_of cs os ds) j a e d))
    ∙ two (are_ints os) (are_ints ds) (counted_ints (length cs) [] p os i refl y) (deltas_ints (length cs) (length cs) [] i ds j refl g)

cells_steps : (at : ℕ) (s : At) (a : ArrayData) (e : At) → (grid_cells at).is s a e → has_int_steps a.class ≡ true
unfolding grid_cells
cells_steps at s a e (m, u, q, (l, cs, r, d)) = ap (λ (a : ArrayData). has_int_steps a.class) (sym (made_is at (cells_of cs) l a e d))

-- ---- contents

IsSoundContent : Content → Type 0
IsSoundContent c = IsSoundBody c.body × Distinct (attribute_names c.attributes)

array_sound : (X : NativeGrammar ArrayData) → ((s : At) (a : ArrayData) (e : At) → X.is s a e → has_int_steps a.class ≡ true)
    → (s : At) (c : Content) (e : At) → (array_content X).is s c e → IsSoundBody c.body × Distinct (attribute_names c.attributes)
unfolding array_content
array_sound X steps s c e (m, a, q, (l, xs, r, d)) =
    subst (λ (c : Content). IsSoundBody c.body × Distinct (attribute_names c.attributes)) d.0 (steps s a m q, attributes_distinct m xs l r)

text_sound : (s : At) (c : Content) (e : At) → text.is s c e → IsSoundBody c.body × Distinct (attribute_names c.attributes)
unfolding text
text_sound s c e (m, u, q, (l, t, r, (o, xs, v, d))) =
    subst (λ (c : Content). IsSoundBody c.body × Distinct (attribute_names c.attributes)) d.0 (tt, attributes_distinct l xs o v)

listing_sound : (k : ListClass) (s : At) (c : Content) (e : At) → (listing_content k).is s c e → IsSoundBody c.body × Distinct (attribute_names c.attributes)
unfolding listing_content
listing_sound k s c e (m, u, q, (l, x, r, d)) =
    subst (λ (c : Content). IsSoundBody c.body × Distinct (attribute_names c.attributes)) d.0 (listed_sound k m x l r)

content_sound : (at : ℕ) (s : At) (c : Content) (e : At) → (content_at at).is s c e → IsSoundBody c.body × Distinct (attribute_names c.attributes)
unfolding content_at
content_sound at s c e h =
    either (sees (codes "array") s) h (array_sound (plain_array at) (plain_steps at) s c e) (λ h.
    either (sees (codes "constantarray") s) h (array_sound (constant_array at) (constant_steps at) s c e) (λ h.
    either (sees (codes "regulararray") s) h (array_sound (regular_array at) (regular_steps at) s c e) (λ h.
    either (sees (codes "gridpositions") s) h (array_sound (grid_points at) (points_steps at) s c e) (λ h.
    either (sees (codes "gridconnections") s) h (array_sound (grid_cells at) (cells_steps at) s c e) (λ h.
    either (sees (codes "string") s) h (text_sound s c e) (λ h.
    either (sees (codes "field") s) h (listing_sound listing.Field s c e) (λ h.
    either (sees (codes "group") s) h (listing_sound listing.Group s c e) (λ h.
    either (sees (codes "compositefield") s) h (listing_sound listing.Composite s c e) (λ h.
    either (sees (codes "series") s) h (listing_sound listing.Series s c e) (λ h. absurd h))))))))))

clause_sound : (found : List Clause) (s : At) (c : Clause) (e : At) → (clause found).is s c e → IsSound c
unfolding clause content place
clause_sound found s c e (m, u, q, (l, n, r, (o, v, w, (p, x, y, (i, t, z, d))))) =
    let at = z.1 in
    let whole = content_sound z.1 z.0 t i z.3 in
    subst IsSound d.0 (record { of_body = whole.0; attributes = whole.1 })

turn_file : (f : File) (s : At) (new : File) (e : At) → Every IsSound f.clauses → (file_next f).is s new e → Every IsSound new.clauses
unfolding file_next file_clause file_default
turn_file f s new e h t = either (sees_object s) t
    (λ (m, c, q, d). subst (λ (f : File). Every IsSound f.clauses) d.0 (all_push IsSound f.clauses c h (clause_sound f.clauses s c m q)))
    (λ (m, u, q, (l, n, r, d)). subst (λ (f : File). Every IsSound f.clauses) d.0 h)

-- each clause of a file is sound
pub file_sound : (s : At) (f : File) (e : At) → file.is s f e → Every IsSound f.clauses
unfolding file file_clauses
file_sound s f e (m, g, (k, q), (l, u, r, d)) =
    subst (λ (f : File). Every IsSound f.clauses) d.0 (goes_keep sees_next file_next (λ (f : File). Every IsSound f.clauses) turn_file k (record { clauses = []; default = None }) s g m q tt)
