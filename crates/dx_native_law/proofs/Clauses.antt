-- Fields, groups and series, and whole clauses, stand where their words are shown.
use Rattle.std.proofs.Common.{◌≡◌, ◌==◌, ℕ, zero, suc, ◌+◌, ◌<◌, ◌≤◌, ◌⊎◌, inl, inr, Bool, true, false, cond, List, [], ◌∷◌, ◌++◌, length, length-append, map, Option, Some, None, ℤ, pos, refl, sym, ap, ◌∙◌, subst, append_assoc, append-nil, arith}
use Rattle.std.specs.Prelude.{bytes_eq, codes, ◌||◌}
use Rattle.std.specs.List.{list_any}
use Rattle.std.specs.Bool.{Decides}
use Rattle.std.proofs.lemmas.List.{map-append}
use Rattle.std.proofs.lemmas.Slice.Eq.{bytes_eq-Decides}
use Rattle.dx_base.specs.Array.{ArrayData}
use Rattle.dx_base.specs.Object.{Tree, PartList, no_parts, part}
use Rattle.dx_places.specs.Grammar.{At, Grammar, chosen, Goes}
use Rattle.dx_native_lex.specs.Scan.{Found, lexed}
use Rattle.dx_native_lex.specs.Token.{NativeGrammar, sees, is_key}
use Rattle.dx_native_lex.specs.declared.scan.Kind.{Kind}
use Rattle.dx_native_lex.specs.declared.scan.Kind.TheVariants as kind
use Rattle.dx_native_grammar.specs.declared.clause.Attribute.{Attribute}
use Rattle.dx_native_grammar.specs.declared.clause.Body.{Body}
use Rattle.dx_native_grammar.specs.declared.clause.Body.TheVariants as body
use Rattle.dx_native_grammar.specs.declared.clause.Clause.{Clause}
use Rattle.dx_native_grammar.specs.declared.clause.Content.{Content}
use Rattle.dx_native_grammar.specs.declared.clause.ListClass.{ListClass}
use Rattle.dx_native_grammar.specs.declared.clause.ListClass.TheVariants as listing
use Rattle.dx_native_grammar.specs.declared.clause.Part.{Part}
use Rattle.dx_native_grammar.specs.Names.{name_before, part_names, has_clause}
use Rattle.dx_native_grammar.specs.Words.{part_word, repeated}
use Rattle.dx_native_grammar.specs.Grammar.{Listed, part_of, listed_part, listed_next, sees_listed, listed, class_word, listing_content, text, attributes, attributes_from, next_attribute, sees_attribute, array_content, plain_array, constant_array, regular_array, grid_points, grid_cells, content, content_at, place, clause}
use Rattle.dx_native_text.specs.Lines.{Word, bare, in_quotes}
use Rattle.dx_native_text.specs.Text.{last_of, many, attribute_lines, object_line}
use Rattle.dx_native_law.proofs.LaidLines.{key, natural, number}
use Rattle.dx_native_law.proofs.Erased.{unplaced, erased_attribute, erased_part, erased_body, erased_content, erased_clause}
use Rattle.dx_native_law.proofs.Runs.{Runs}
use Rattle.dx_native_law.proofs.Tokens.{words_of}
use Rattle.dx_native_law.proofs.Stands.{first_of_two, second_of_two, is_word, sees_word, key_stands, named_stands, named_at, quoted_stands}
use Rattle.dx_native_law.proofs.Listings.{name_of, Attributes, AreGiven, attributes_of, attributes_stand}
use Rattle.dx_native_law.proofs.Parts.{part_words, part_stands, lines_of_parts, AreParts, erased_as, erased_parts, names_push, only_attributes}

-- ---- the parts of a listing

abbrev listed_of : List Part → List Attribute → Listed
listed_of ps xs = record { parts = ps; attributes = xs }

sees_part : (K : ListClass) (i : ℕ) (n : Option (List ℕ)) (p : ℤ) (j : ℕ) (ws : List Word) (s e : At) → Runs s (part_words K i n p j ++ ws) e → sees (part_word K) s ≡ true
sees_part listing.Field i n p j ws s e r = sees_word (codes "component") (key (codes "component")) _ s e r
sees_part listing.Group i n p j ws s e r = sees_word (codes "member") (key (codes "member")) _ s e r
sees_part listing.Composite i n p j ws s e r = sees_word (codes "member") (key (codes "member")) _ s e r
sees_part listing.Series i n p j ws s e r = sees_word (codes "member") (key (codes "member")) _ s e r

record Parts (K : ListClass) (found : List Part) (ps : PartList) (k : ℕ) (s : At) (tail : List Word) (e : At) : Type 0 where
  all : List Part
  at : At
  extend : (n : ℕ) (b : Listed) (z : At) → Goes (sees_listed K) (listed_next K) n (listed_of all []) at b z → (j : ℕ) × Goes (sees_listed K) (listed_next K) j (listed_of found []) s b z
  behind : Runs at tail e
  same : map erased_part all ≡ map erased_part found ++ erased_parts ps k

parts_stand : (K : ListClass) (ps : PartList) (k : ℕ) (found : List Part) (tail : List Word) (s e : At) → AreParts K (part_names found) (length found) ps k
    → Runs s (words_of (lines_of_parts K (length found) ps k) ++ tail) e → Parts K found ps k s tail e
unfolding listed_next listed_part
parts_stand K no_parts k found tail s e h r = record { all = found; at = s; extend = λ n b z g. (n, g); behind = r; same = sym (append-nil (map erased_part found)) }
parts_stand K (part n p t ps) k found tail s e h r =
    let i = length found in
    let j = last_of k (many t) in
    let after = k + many t in
    let rest = words_of (lines_of_parts K (suc i) ps after) ++ tail in
    let shown : Runs s (part_words K i n p j ++ rest) e = subst (λ (l : List Word). Runs s l e) (append_assoc (part_words K i n p j) (words_of (lines_of_parts K (suc i) ps after)) tail) r in
    let one = part_stands K found n p j rest s e h.0 h.1 shown in
    let a = one.0 in
    let new = found ++ a ∷ [] in
    let count : suc i ≡ length new = omega (arith, length-append found (a ∷ [])) in
    let name : a.name ≡ n = ap (λ (q : Part). q.name) one.4 in
    let names : part_names found ++ name_before n [] ≡ part_names new = ap (λ n. part_names found ++ name_before n []) (sym name) ∙ sym (names_push found a) in
    let good : AreParts K (part_names new) (length new) ps after = subst (λ (ns : List (List ℕ)). AreParts K ns (length new) ps after) names (subst (λ (c : ℕ). AreParts K (part_names found ++ name_before n []) c ps after) count h.2) in
    let more = parts_stand K ps after new tail one.1 e good (subst (λ (c : ℕ). Runs one.1 (words_of (lines_of_parts K c ps after) ++ tail) e) count one.3) in
    let seen = sees_part K i n p j rest s e shown in
    record {
      all = more.all;
      at = more.at;
      extend = λ n b z g. let m = more.extend n b z g in (suc m.0, (ap (λ t. t || sees_attribute found s) seen, one.1, listed_of new [], first_of_two _ _ (sees (part_word K) s) seen (one.1, a, one.2, (refl, refl)), m.1));
      behind = more.behind;
      same = more.same ∙ ap (λ l. l ++ erased_parts ps after) (map-append erased_part found (a ∷ [])) ∙ append_assoc (map erased_part found) (erased_part a ∷ []) (erased_parts ps after)
          ∙ ap (λ (q : Part). map erased_part found ++ q ∷ erased_parts ps after) one.4;
    }

-- ---- a word is one key word at most

other_by : (c v w : List ℕ) → bytes_eq v w ≡ false → bytes_eq c v ≡ true → bytes_eq c w ≡ false
other_by c v w isnt h = ap (λ c. bytes_eq c w) ((bytes_eq-Decides c v).0 h) ∙ isnt

other_key : (k : Kind) (c v w : List ℕ) → bytes_eq v w ≡ false → is_key v k c ≡ true → is_key w k c ≡ false
other_key kind.End c v w isnt h = refl
other_key kind.Word c v w isnt h = other_by c v w isnt h
other_key kind.Quoted c v w isnt h = refl
other_key kind.Wrong c v w isnt h = refl

no_part : (K : ListClass) (m : At) → sees (codes "attribute") m ≡ true → sees (part_word K) m ≡ false
no_part listing.Field m h = other_key (lexed m).kind (lexed m).content (codes "attribute") (codes "component") refl h
no_part listing.Group m h = other_key (lexed m).kind (lexed m).content (codes "attribute") (codes "member") refl h
no_part listing.Composite m h = other_key (lexed m).kind (lexed m).content (codes "attribute") (codes "member") refl h
no_part listing.Series m h = other_key (lexed m).kind (lexed m).content (codes "attribute") (codes "member") refl h

-- what comes behind an object: neither a part nor an attribute
pub record IsBehind (w : Word) : Type 0 where
  pub attribute : is_word (codes "attribute") w ≡ false
  pub component : is_word (codes "component") w ≡ false
  pub member : is_word (codes "member") w ≡ false

behind_part : (K : ListClass) (w : Word) → IsBehind w → is_word (part_word K) w ≡ false
behind_part listing.Field w h = h.component
behind_part listing.Group w h = h.member
behind_part listing.Composite w h = h.member
behind_part listing.Series w h = h.member

attribute_no_part : (K : ListClass) → is_word (part_word K) (key (codes "attribute")) ≡ false
attribute_no_part listing.Field = refl
attribute_no_part listing.Group = refl
attribute_no_part listing.Composite = refl
attribute_no_part listing.Series = refl

-- what stands, and the words behind it
pub record Content_is (X : NativeGrammar Content) (want : Content) (s : At) (w : Word) (ws : List Word) (e : At) : Type 0 where
  pub got : Content
  pub at : At
  pub stand : X.is s got at
  pub behind : Runs at (w ∷ ws) e
  pub same : erased_content got ≡ want

pub listing_stands : (K : ListClass) (ps xs : PartList) (k j : ℕ) (w : Word) (ws : List Word) (s e : At) → AreParts K [] 0 ps k → AreGiven [] xs j → IsBehind w → bytes_eq (class_word K) (class_word K) ≡ true
    → Runs s (key (class_word K) ∷ (words_of (lines_of_parts K 0 ps k) ++ (words_of (attribute_lines xs j) ++ w ∷ ws))) e
    → Content_is (listing_content K) (record { body = body.Parts K (erased_parts ps k); attributes = attributes_of xs j }) s w ws e
unfolding listing_content listed
listing_stands K ps xs k j w ws s e hp hx last same_word r =
    let tail = words_of (attribute_lines xs j) ++ w ∷ ws in
    let c = key_stands (class_word K) (words_of (lines_of_parts K 0 ps k) ++ tail) s e same_word r in
    let p = parts_stand K ps k [] tail c.0 e hp c.2 in
    let x = attributes_stand xs j [] w ws p.at e hx last.attribute p.behind in
    let end : sees (part_word K) x.place ≡ false = sees_word (part_word K) w ws x.place e x.behind ∙ behind_part K w last in
    let goes = only_attributes K p.all x.turns [] x.all p.at x.place (no_part K) end x.stand in
    let m = p.extend x.turns (listed_of p.all x.all) x.place goes in
    record {
      got = record { body = body.Parts K p.all; attributes = x.all };
      at = x.place;
      stand = (c.0, tt, c.1, (x.place, listed_of p.all x.all, m, (refl, refl)));
      behind = x.behind;
      same = (λ i. record { body = body.Parts K (p.same i); attributes = x.same i });
    }

-- ---- texts and arrays with their attributes

pub text_stands : (b : List ℕ) (xs : PartList) (j : ℕ) (w : Word) (ws : List Word) (s e : At) → AreGiven [] xs j → IsBehind w
    → Runs s (key (codes "string") ∷ in_quotes b ∷ (words_of (attribute_lines xs j) ++ w ∷ ws)) e → Content_is text (record { body = body.Text b; attributes = attributes_of xs j }) s w ws e
unfolding text attributes
text_stands b xs j w ws s e hx last r =
    let c = key_stands (codes "string") _ s e refl r in
    let q = quoted_stands b (words_of (attribute_lines xs j) ++ w ∷ ws) c.0 e c.2 in
    let x = attributes_stand xs j [] w ws q.1 e hx last.attribute q.3 in
    record {
      got = record { body = body.Text b; attributes = x.all };
      at = x.place;
      stand = (c.0, tt, c.1, (q.1, named_at b q.0, q.2, (x.place, x.all, (x.turns, x.stand), (refl, refl))));
      behind = x.behind;
      same = (λ i. record { body = body.Text b; attributes = x.same i });
    }

pub array_stands : (X : NativeGrammar ArrayData) (a : ArrayData) (xs : PartList) (j : ℕ) (w : Word) (ws : List Word) (s m e : At) → AreGiven [] xs j → IsBehind w → X.is s a m
    → Runs m (words_of (attribute_lines xs j) ++ w ∷ ws) e → Content_is (array_content X) (record { body = body.Array a; attributes = attributes_of xs j }) s w ws e
unfolding array_content attributes
array_stands X a xs j w ws s m e hx last h r =
    let x = attributes_stand xs j [] w ws m e hx last.attribute r in
    record {
      got = record { body = body.Array a; attributes = x.all };
      at = x.place;
      stand = (m, a, h, (x.place, x.all, (x.turns, x.stand), (refl, refl)));
      behind = x.behind;
      same = (λ i. record { body = body.Array a; attributes = x.same i });
    }

-- ---- what stands behind `class`

pub array_class : (o : ℕ) (c : Content) (us : List Word) (s m e : At) → Runs s (key (codes "array") ∷ us) e → (array_content (plain_array o)).is s c m → (content_at o).is s c m
unfolding content_at
array_class o c us s m e r h =
    first_of_two _ _ (sees (codes "array") s) (sees_word (codes "array") (key (codes "array")) us s e r) h

pub constantarray_class : (o : ℕ) (c : Content) (us : List Word) (s m e : At) → Runs s (key (codes "constantarray") ∷ us) e → (array_content (constant_array o)).is s c m → (content_at o).is s c m
unfolding content_at
constantarray_class o c us s m e r h =
    second_of_two _ _ (sees (codes "array") s) (sees_word (codes "array") (key (codes "constantarray")) us s e r)
    (first_of_two _ _ (sees (codes "constantarray") s) (sees_word (codes "constantarray") (key (codes "constantarray")) us s e r) h)

pub regulararray_class : (o : ℕ) (c : Content) (us : List Word) (s m e : At) → Runs s (key (codes "regulararray") ∷ us) e → (array_content (regular_array o)).is s c m → (content_at o).is s c m
unfolding content_at
regulararray_class o c us s m e r h =
    second_of_two _ _ (sees (codes "array") s) (sees_word (codes "array") (key (codes "regulararray")) us s e r)
    (second_of_two _ _ (sees (codes "constantarray") s) (sees_word (codes "constantarray") (key (codes "regulararray")) us s e r)
    (first_of_two _ _ (sees (codes "regulararray") s) (sees_word (codes "regulararray") (key (codes "regulararray")) us s e r) h))

pub gridpositions_class : (o : ℕ) (c : Content) (us : List Word) (s m e : At) → Runs s (key (codes "gridpositions") ∷ us) e → (array_content (grid_points o)).is s c m → (content_at o).is s c m
unfolding content_at
gridpositions_class o c us s m e r h =
    second_of_two _ _ (sees (codes "array") s) (sees_word (codes "array") (key (codes "gridpositions")) us s e r)
    (second_of_two _ _ (sees (codes "constantarray") s) (sees_word (codes "constantarray") (key (codes "gridpositions")) us s e r)
    (second_of_two _ _ (sees (codes "regulararray") s) (sees_word (codes "regulararray") (key (codes "gridpositions")) us s e r)
    (first_of_two _ _ (sees (codes "gridpositions") s) (sees_word (codes "gridpositions") (key (codes "gridpositions")) us s e r) h)))

pub gridconnections_class : (o : ℕ) (c : Content) (us : List Word) (s m e : At) → Runs s (key (codes "gridconnections") ∷ us) e → (array_content (grid_cells o)).is s c m → (content_at o).is s c m
unfolding content_at
gridconnections_class o c us s m e r h =
    second_of_two _ _ (sees (codes "array") s) (sees_word (codes "array") (key (codes "gridconnections")) us s e r)
    (second_of_two _ _ (sees (codes "constantarray") s) (sees_word (codes "constantarray") (key (codes "gridconnections")) us s e r)
    (second_of_two _ _ (sees (codes "regulararray") s) (sees_word (codes "regulararray") (key (codes "gridconnections")) us s e r)
    (second_of_two _ _ (sees (codes "gridpositions") s) (sees_word (codes "gridpositions") (key (codes "gridconnections")) us s e r)
    (first_of_two _ _ (sees (codes "gridconnections") s) (sees_word (codes "gridconnections") (key (codes "gridconnections")) us s e r) h))))

pub string_class : (o : ℕ) (c : Content) (us : List Word) (s m e : At) → Runs s (key (codes "string") ∷ us) e → text.is s c m → (content_at o).is s c m
unfolding content_at
string_class o c us s m e r h =
    second_of_two _ _ (sees (codes "array") s) (sees_word (codes "array") (key (codes "string")) us s e r)
    (second_of_two _ _ (sees (codes "constantarray") s) (sees_word (codes "constantarray") (key (codes "string")) us s e r)
    (second_of_two _ _ (sees (codes "regulararray") s) (sees_word (codes "regulararray") (key (codes "string")) us s e r)
    (second_of_two _ _ (sees (codes "gridpositions") s) (sees_word (codes "gridpositions") (key (codes "string")) us s e r)
    (second_of_two _ _ (sees (codes "gridconnections") s) (sees_word (codes "gridconnections") (key (codes "string")) us s e r)
    (first_of_two _ _ (sees (codes "string") s) (sees_word (codes "string") (key (codes "string")) us s e r) h)))))

pub field_class : (o : ℕ) (c : Content) (us : List Word) (s m e : At) → Runs s (key (codes "field") ∷ us) e → (listing_content listing.Field).is s c m → (content_at o).is s c m
unfolding content_at
field_class o c us s m e r h =
    second_of_two _ _ (sees (codes "array") s) (sees_word (codes "array") (key (codes "field")) us s e r)
    (second_of_two _ _ (sees (codes "constantarray") s) (sees_word (codes "constantarray") (key (codes "field")) us s e r)
    (second_of_two _ _ (sees (codes "regulararray") s) (sees_word (codes "regulararray") (key (codes "field")) us s e r)
    (second_of_two _ _ (sees (codes "gridpositions") s) (sees_word (codes "gridpositions") (key (codes "field")) us s e r)
    (second_of_two _ _ (sees (codes "gridconnections") s) (sees_word (codes "gridconnections") (key (codes "field")) us s e r)
    (second_of_two _ _ (sees (codes "string") s) (sees_word (codes "string") (key (codes "field")) us s e r)
    (first_of_two _ _ (sees (codes "field") s) (sees_word (codes "field") (key (codes "field")) us s e r) h))))))

pub group_class : (o : ℕ) (c : Content) (us : List Word) (s m e : At) → Runs s (key (codes "group") ∷ us) e → (listing_content listing.Group).is s c m → (content_at o).is s c m
unfolding content_at
group_class o c us s m e r h =
    second_of_two _ _ (sees (codes "array") s) (sees_word (codes "array") (key (codes "group")) us s e r)
    (second_of_two _ _ (sees (codes "constantarray") s) (sees_word (codes "constantarray") (key (codes "group")) us s e r)
    (second_of_two _ _ (sees (codes "regulararray") s) (sees_word (codes "regulararray") (key (codes "group")) us s e r)
    (second_of_two _ _ (sees (codes "gridpositions") s) (sees_word (codes "gridpositions") (key (codes "group")) us s e r)
    (second_of_two _ _ (sees (codes "gridconnections") s) (sees_word (codes "gridconnections") (key (codes "group")) us s e r)
    (second_of_two _ _ (sees (codes "string") s) (sees_word (codes "string") (key (codes "group")) us s e r)
    (second_of_two _ _ (sees (codes "field") s) (sees_word (codes "field") (key (codes "group")) us s e r)
    (first_of_two _ _ (sees (codes "group") s) (sees_word (codes "group") (key (codes "group")) us s e r) h)))))))

pub composite_class : (o : ℕ) (c : Content) (us : List Word) (s m e : At) → Runs s (key (codes "compositefield") ∷ us) e → (listing_content listing.Composite).is s c m → (content_at o).is s c m
unfolding content_at
composite_class o c us s m e r h =
    second_of_two _ _ (sees (codes "array") s) (sees_word (codes "array") (key (codes "compositefield")) us s e r)
    (second_of_two _ _ (sees (codes "constantarray") s) (sees_word (codes "constantarray") (key (codes "compositefield")) us s e r)
    (second_of_two _ _ (sees (codes "regulararray") s) (sees_word (codes "regulararray") (key (codes "compositefield")) us s e r)
    (second_of_two _ _ (sees (codes "gridpositions") s) (sees_word (codes "gridpositions") (key (codes "compositefield")) us s e r)
    (second_of_two _ _ (sees (codes "gridconnections") s) (sees_word (codes "gridconnections") (key (codes "compositefield")) us s e r)
    (second_of_two _ _ (sees (codes "string") s) (sees_word (codes "string") (key (codes "compositefield")) us s e r)
    (second_of_two _ _ (sees (codes "field") s) (sees_word (codes "field") (key (codes "compositefield")) us s e r)
    (second_of_two _ _ (sees (codes "group") s) (sees_word (codes "group") (key (codes "compositefield")) us s e r)
    (first_of_two _ _ (sees (codes "compositefield") s) (sees_word (codes "compositefield") (key (codes "compositefield")) us s e r) h))))))))

pub series_class : (o : ℕ) (c : Content) (us : List Word) (s m e : At) → Runs s (key (codes "series") ∷ us) e → (listing_content listing.Series).is s c m → (content_at o).is s c m
unfolding content_at
series_class o c us s m e r h =
    second_of_two _ _ (sees (codes "array") s) (sees_word (codes "array") (key (codes "series")) us s e r)
    (second_of_two _ _ (sees (codes "constantarray") s) (sees_word (codes "constantarray") (key (codes "series")) us s e r)
    (second_of_two _ _ (sees (codes "regulararray") s) (sees_word (codes "regulararray") (key (codes "series")) us s e r)
    (second_of_two _ _ (sees (codes "gridpositions") s) (sees_word (codes "gridpositions") (key (codes "series")) us s e r)
    (second_of_two _ _ (sees (codes "gridconnections") s) (sees_word (codes "gridconnections") (key (codes "series")) us s e r)
    (second_of_two _ _ (sees (codes "string") s) (sees_word (codes "string") (key (codes "series")) us s e r)
    (second_of_two _ _ (sees (codes "field") s) (sees_word (codes "field") (key (codes "series")) us s e r)
    (second_of_two _ _ (sees (codes "group") s) (sees_word (codes "group") (key (codes "series")) us s e r)
    (second_of_two _ _ (sees (codes "compositefield") s) (sees_word (codes "compositefield") (key (codes "series")) us s e r)
    (first_of_two _ _ (sees (codes "series") s) (sees_word (codes "series") (key (codes "series")) us s e r) h)))))))))

-- ---- a clause

-- the clause of object number k, where its class word and what is behind it are shown
pub clause_stands : (found : List Clause) (k : ℕ) (c : List ℕ) (us : List Word) (want : Content) (w : Word) (ws : List Word) (s e : At) → has_clause (name_of k) found ≡ false
    → Runs s (key (codes "object") ∷ natural k ∷ key (codes "class") ∷ (bare c ∷ us)) e
    → ((o : ℕ) (m : At) → Runs m (bare c ∷ us) e → Content_is (content_at o) want m w ws e)
    → (got : Clause) × (m : At) × (clause found).is s got m × Runs m (w ∷ ws) e × (erased_clause got ≡ record { name = unplaced (name_of k); content = want })
unfolding clause content place
clause_stands found k c us want w ws s e fresh r inside =
    let a = key_stands (codes "object") _ s e refl r in
    let n = named_stands (name_of k) (key (codes "class") ∷ (bare c ∷ us)) a.0 e a.2 in
    let b = key_stands (codes "class") (bare c ∷ us) n.1 e refl n.3 in
    let x = inside (lexed b.0).at b.0 b.2 in (
      record { name = named_at (name_of k) n.0; content = x.got },
      x.at,
      (a.0, tt, a.1, (n.1, named_at (name_of k) n.0, n.2, (n.1, tt, (ap (λ t. repeated t n.0) fresh, refl), (b.0, tt, b.1, (x.at, x.got, (b.0, (lexed b.0).at, (b.0, b.0, (refl, refl), (refl, refl)), x.stand), (refl, refl)))))),
      x.behind,
      ap (λ (y : Content). let d : Clause = record { name = unplaced (name_of k); content = y } in d) x.same,
    )
