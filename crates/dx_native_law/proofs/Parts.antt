-- The lines of components and members stand where their words are shown.
use Rattle.std.proofs.Common.{◌≡◌, ◌==◌, ℕ, zero, suc, ◌+◌, ◌-◌, ◌<◌, ◌≤◌, ◌⊎◌, inl, inr, Bool, true, false, cond, List, [], ◌∷◌, ◌++◌, length, length-append, map, Option, Some, None, ℤ, pos, refl, sym, ap, ◌∙◌, subst, append_assoc, append-nil, arith}
use Rattle.std.specs.Prelude.{bytes_eq, codes, ◌||◌}
use Rattle.std.specs.List.{list_any}
use Rattle.std.specs.Ordering.{int_eq}
use Rattle.std.proofs.lemmas.Bool.Decides.{Decides-int_eq}
use Rattle.std.proofs.lemmas.List.{map-append}
use Rattle.dx_base.specs.Object.{Tree, PartList, no_parts, part}
use Rattle.dx_places.specs.Grammar.{At, Grammar, chosen, Goes}
use Rattle.dx_native_lex.specs.Scan.{Found, number_of, meaning_of}
use Rattle.dx_native_lex.specs.Token.{sees, number_misfit, class_of, none_of, one}
use Rattle.dx_native_lex.specs.declared.token.Named.{Named}
use Rattle.dx_native_grammar.specs.declared.clause.Attribute.{Attribute}
use Rattle.dx_native_grammar.specs.declared.clause.Label.{Label}
use Rattle.dx_native_grammar.specs.declared.clause.ListClass.{ListClass}
use Rattle.dx_native_grammar.specs.declared.clause.ListClass.TheVariants as listing
use Rattle.dx_native_grammar.specs.declared.clause.Part.{Part}
use Rattle.dx_native_grammar.specs.Names.{name_before, part_names, attribute_names, has_part, has_label}
use Rattle.dx_native_grammar.specs.Words.{repeated, index_in, index_with, int_low, int_high, part_word}
use Rattle.dx_native_grammar.specs.Grammar.{Listed, component, member, placed, label, index, name_in, part_of, listed_part, listed_attribute, listed_next, sees_listed, next_attribute, sees_attribute, int as int_number}
use Rattle.dx_base.specs.Words.{all_escaped}
use Rattle.dx_native_text.specs.Lines.{Word, bare, in_quotes}
use Rattle.dx_native_text.specs.Text.{value_words, member_word, last_of, many}
use Rattle.dx_native_law.proofs.LaidLines.{key, natural, number, component_word}
use Rattle.dx_native_law.proofs.Erased.{unplaced, erased_part, erased_attribute}
use Rattle.dx_native_law.proofs.Runs.{Runs, found_of, tail_of}
use Rattle.dx_native_law.proofs.Tokens.{words_of, meant}
use Rattle.dx_native_law.proofs.Numbers.{decimal_again}
use Rattle.dx_native_law.proofs.Stands.{first_of_two, second_of_two, is_word, sees_word, key_stands, named_at, quoted_stands, bounded_stands, IsIn}
use Rattle.dx_native_law.proofs.Listings.{reference_stands, name_of, Attributes}

-- ---- names and indexes

same_int : (n : ℕ) → int_eq (pos n) (pos n) ≡ true
same_int n = (Decides-int_eq (pos n) (pos n)).1 refl

abbrev label_at : Option (List ℕ) → ℕ → Label
label_at n o = record { name = n; at = o }

index_is : (n o : ℕ) → n < 10000000000 → index_in n o (name_of n) ≡ Some (label_at None o)
index_is n o small = ap (index_with n o) (decimal_again n small) ∙ ap (λ t. cond t (Some (label_at None o)) None) (same_int n)

index_stands : (n : ℕ) (ws : List Word) (s e : At) → n < 10000000000 → Runs s (natural n ∷ ws) e → (o : ℕ) × (m : At) × (index n).is s (label_at None o) m × Runs m ws e
unfolding index
index_stands n ws s e small h = (h.it.0, h.it.1, (ap (class_of (index_in n) none_of) h.it.2 ∙ index_is n h.it.0 small, ap (λ (f : Found). f.after) h.it.2), tail_of h)

label_index : (n : ℕ) (ws : List Word) (s e : At) → n < 10000000000 → Runs s (natural n ∷ ws) e → (o : ℕ) × (m : At) × (label n).is s (label_at None o) m × Runs m ws e
unfolding label
label_index n ws s e small h = (h.it.0, h.it.1, (ap (class_of (index_in n) name_in) h.it.2 ∙ index_is n h.it.0 small, ap (λ (f : Found). f.after) h.it.2), tail_of h)

label_name : (b : List ℕ) (n : ℕ) (ws : List Word) (s e : At) → Runs s (in_quotes b ∷ ws) e → (o : ℕ) × (m : At) × (label n).is s (label_at (Some b) o) m × Runs m ws e
unfolding label
label_name b n ws s e h =
    (h.it.0, h.it.1, (ap (class_of (index_in n) name_in) h.it.2 ∙ ap (λ (t : List ℕ). let l : Label = label_at (Some t) h.it.0 in Some l) (meant b), ap (λ (f : Found). f.after) h.it.2), tail_of h)

-- ---- one part

-- the words of a part with so many before it, whose object has the number k
abbrev pub part_words : ListClass → ℕ → Option (List ℕ) → ℤ → ℕ → List Word
part_words listing.Field i n p k = key (codes "component") ∷ component_word n ∷ value_words k
part_words listing.Group i n p k = key (codes "member") ∷ member_word i n ∷ value_words k
part_words listing.Composite i n p k = key (codes "member") ∷ member_word i n ∷ value_words k
part_words listing.Series i n p k = key (codes "member") ∷ natural i ∷ key (codes "position") ∷ number p ∷ value_words k

-- a part that may stand there, where these names do
abbrev pub IsPart : ListClass → List (List ℕ) → ℕ → Option (List ℕ) → ℤ → Type 0
IsPart listing.Field names i None p = ⊥
IsPart listing.Field names i (Some n) p = (list_any (bytes_eq n) names ≡ false) × (pos 0 ≡ p)
IsPart listing.Group names i None p = (i < 10000000000) × (pos 0 ≡ p)
IsPart listing.Composite names i None p = (i < 10000000000) × (pos 0 ≡ p)
IsPart listing.Group names i (Some n) p = (list_any (bytes_eq n) names ≡ false) × (pos 0 ≡ p)
IsPart listing.Composite names i (Some n) p = (list_any (bytes_eq n) names ≡ false) × (pos 0 ≡ p)
IsPart listing.Series names i None p = (i < 10000000000) × IsIn int_low int_high p
IsPart listing.Series names i (Some n) p = ⊥

abbrev pub erased_as : Option (List ℕ) → ℤ → ℕ → Part
erased_as n p k = record { name = n; position = p; target = unplaced (name_of k) }

pub part_stands : (K : ListClass) (found : List Part) (n : Option (List ℕ)) (p : ℤ) (k : ℕ) (ws : List Word) (s e : At) → IsPart K (part_names found) (length found) n p → bytes_eq (name_of k) (codes "file") ≡ false
    → Runs s (part_words K (length found) n p k ++ ws) e → (a : Part) × (m : At) × (part_of K found).is s a m × Runs m ws e × (erased_part a ≡ erased_as n p k)
unfolding component member placed
part_stands listing.Field found None p k ws s e h isnt r = absurd h
part_stands listing.Field found (Some n) p k ws s e h isnt r =
    let w = key_stands (codes "component") _ s e refl r in
    let q = quoted_stands n _ w.0 e w.2 in
    let t = reference_stands (name_of k) ws q.1 e isnt q.3 in (
      record { name = Some n; position = pos 0; target = named_at (name_of k) t.0 },
      t.1,
      (w.0, tt, w.1, (q.1, named_at n q.0, q.2, (q.1, tt, (ap (λ b. repeated b q.0) h.0, refl), (t.1, named_at (name_of k) t.0, t.2, (refl, refl))))),
      t.3,
      ap (λ (p : ℤ). erased_as (Some n) p k) h.1,
    )
part_stands listing.Group found None p k ws s e h isnt r =
    let w = key_stands (codes "member") _ s e refl r in
    let q = label_index (length found) _ w.0 e h.0 w.2 in
    let t = reference_stands (name_of k) ws q.1 e isnt q.3 in (
      record { name = None; position = pos 0; target = named_at (name_of k) t.0 },
      t.1,
      (w.0, tt, w.1, (q.1, label_at None q.0, q.2, (q.1, tt, (refl, refl), (t.1, named_at (name_of k) t.0, t.2, (refl, refl))))),
      t.3,
      ap (λ (p : ℤ). erased_as None p k) h.1,
    )
part_stands listing.Composite found None p k ws s e h isnt r =
    let w = key_stands (codes "member") _ s e refl r in
    let q = label_index (length found) _ w.0 e h.0 w.2 in
    let t = reference_stands (name_of k) ws q.1 e isnt q.3 in (
      record { name = None; position = pos 0; target = named_at (name_of k) t.0 },
      t.1,
      (w.0, tt, w.1, (q.1, label_at None q.0, q.2, (q.1, tt, (refl, refl), (t.1, named_at (name_of k) t.0, t.2, (refl, refl))))),
      t.3,
      ap (λ (p : ℤ). erased_as None p k) h.1,
    )
part_stands listing.Group found (Some n) p k ws s e h isnt r =
    let w = key_stands (codes "member") _ s e refl r in
    let q = label_name n (length found) _ w.0 e w.2 in
    let t = reference_stands (name_of k) ws q.1 e isnt q.3 in (
      record { name = Some n; position = pos 0; target = named_at (name_of k) t.0 },
      t.1,
      (w.0, tt, w.1, (q.1, label_at (Some n) q.0, q.2, (q.1, tt, (ap (λ b. repeated b q.0) h.0, refl), (t.1, named_at (name_of k) t.0, t.2, (refl, refl))))),
      t.3,
      ap (λ (p : ℤ). erased_as (Some n) p k) h.1,
    )
part_stands listing.Composite found (Some n) p k ws s e h isnt r =
    let w = key_stands (codes "member") _ s e refl r in
    let q = label_name n (length found) _ w.0 e w.2 in
    let t = reference_stands (name_of k) ws q.1 e isnt q.3 in (
      record { name = Some n; position = pos 0; target = named_at (name_of k) t.0 },
      t.1,
      (w.0, tt, w.1, (q.1, label_at (Some n) q.0, q.2, (q.1, tt, (ap (λ b. repeated b q.0) h.0, refl), (t.1, named_at (name_of k) t.0, t.2, (refl, refl))))),
      t.3,
      ap (λ (p : ℤ). erased_as (Some n) p k) h.1,
    )
part_stands listing.Series found None p k ws s e h isnt r =
    let w = key_stands (codes "member") _ s e refl r in
    let q = index_stands (length found) _ w.0 e h.0 w.2 in
    let x = key_stands (codes "position") _ q.1 e refl q.3 in
    let z = bounded_stands int_low int_high p _ x.0 e h.1.small h.1.between x.2 in
    let t = reference_stands (name_of k) ws z.0 e isnt z.2 in (
      record { name = None; position = p; target = named_at (name_of k) t.0 },
      t.1,
      (w.0, tt, w.1, (q.1, label_at None q.0, q.2, (x.0, tt, x.1, (z.0, p, z.1, (t.1, named_at (name_of k) t.0, t.2, (refl, refl)))))),
      t.3,
      refl,
    )
part_stands listing.Series found (Some n) p k ws s e h isnt r = absurd h

-- ---- all parts of an object, whose objects have the numbers from k on, in front of its attributes

abbrev pub lines_of_parts : ListClass → ℕ → PartList → ℕ → List (List Word)
lines_of_parts K i no_parts k = []
lines_of_parts K i (part n p t ps) k = part_words K i n p (last_of k (many t)) ∷ lines_of_parts K (suc i) ps (k + many t)

abbrev pub AreParts : ListClass → List (List ℕ) → ℕ → PartList → ℕ → Type 0
AreParts K names i no_parts k = Unit {0}
AreParts K names i (part n p t ps) k = IsPart K names i n p × (bytes_eq (name_of (last_of k (many t))) (codes "file") ≡ false) × AreParts K (names ++ name_before n []) (suc i) ps (k + many t)

abbrev pub erased_parts : PartList → ℕ → List Part
erased_parts no_parts k = []
erased_parts (part n p t ps) k = erased_as n p (last_of k (many t)) ∷ erased_parts ps (k + many t)

before_append : (n : Option (List ℕ)) (xs ys : List (List ℕ)) → name_before n (xs ++ ys) ≡ name_before n xs ++ ys
before_append None xs ys = refl
before_append (Some n) xs ys = refl

pub names_push : (ps : List Part) (p : Part) → part_names (ps ++ p ∷ []) ≡ part_names ps ++ name_before p.name []
names_push [] p = refl
names_push (q ∷ ps) p = ap (name_before q.name) (names_push ps p) ∙ before_append q.name (part_names ps) (name_before p.name [])

-- the turns that go over the attributes alone go on in a listing, whatever parts there are
pub only_attributes : (K : ListClass) (parts : List Part) (n : ℕ) (a b : List Attribute) (s e : At) → ((m : At) → sees_attribute a m ≡ true → sees (part_word K) m ≡ false) → sees (part_word K) e ≡ false
    → Goes sees_attribute next_attribute n a s b e → Goes (sees_listed K) (listed_next K) n (record { parts = parts; attributes = a }) s (record { parts = parts; attributes = b }) e
unfolding next_attribute listed_next listed_attribute
only_attributes K parts zero a b s e isnt last h = (
  subst (λ (m : At). (sees (part_word K) m || sees_attribute a m) ≡ false) (sym h.2) (ap (λ t. t || sees_attribute a e) last ∙ subst (λ (m : At). sees_attribute a m ≡ false) h.2 h.0),
  ap (λ (x : List Attribute). let l : Listed = record { parts = parts; attributes = x } in l) h.1,
  h.2,
)
only_attributes K parts (suc n) a b s e isnt last h =
    let sees_not = isnt s h.0 in
    let one = h.3 in (
      ap (λ t. t || sees_attribute a s) sees_not ∙ h.0,
      h.1,
      record { parts = parts; attributes = h.2 },
      second_of_two _ _ (sees (part_word K) s) sees_not (one.0, one.1, one.2, (ap (λ (x : List Attribute). let l : Listed = record { parts = parts; attributes = x } in l) one.3.0, one.3.1)),
      only_attributes K parts n h.2 b h.1 e isnt last h.4,
    )
