-- What was written of an object stands there again: one clause for each object, in the writer's order.
use Rattle.std.proofs.Common.{◌≡◌, ◌≢◌, ◌==◌, ℕ, zero, suc, ◌+◌, ◌-◌, ◌*◌, ◌<◌, ◌≤◌, ◌^◌, Bool, true, false, cond, List, [], ◌∷◌, ◌++◌, length, map, take, drop, append_assoc, append-nil, Option, Some, None, ℤ, pos, refl, sym, ap, ◌∙◌, subst, arith}
use Rattle.std.specs.Prelude.{bytes_eq, codes, ◌||◌}
use Rattle.std.specs.List.{list_any}
use Rattle.std.specs.Bool.{Decides}
use Rattle.std.proofs.lemmas.List.{map-append}
use Rattle.std.proofs.lemmas.List.Folds.{list_any-append}
use Rattle.std.proofs.lemmas.Fmt.{decimal_injective}
use Rattle.std.proofs.lemmas.Slice.Eq.{bytes_eq-Decides}
use Rattle.dx_base.specs.Array.{ArrayData}
use Rattle.dx_base.specs.Object.{Tree, PartList, array, text, field, group, composite, series, no_parts, part}
use Rattle.dx_places.specs.Grammar.{At, Grammar, chosen, Goes}
use Rattle.dx_native_lex.specs.Token.{sees}
use Rattle.dx_native_lex.specs.declared.token.Named.{Named}
use Rattle.dx_native_grammar.specs.declared.clause.Attribute.{Attribute}
use Rattle.dx_native_grammar.specs.declared.clause.Body.{Body}
use Rattle.dx_native_grammar.specs.declared.clause.Body.TheVariants as body
use Rattle.dx_native_grammar.specs.declared.clause.Clause.{Clause}
use Rattle.dx_native_grammar.specs.declared.clause.Content.{Content}
use Rattle.dx_native_grammar.specs.declared.clause.ListClass.{ListClass}
use Rattle.dx_native_grammar.specs.declared.clause.ListClass.TheVariants as listing
use Rattle.dx_native_grammar.specs.Names.{clause_names, has_clause}
use Rattle.dx_native_lex.specs.Scan.{Found}
use Rattle.dx_native_grammar.specs.Words.{at_end, is_end}
use Rattle.dx_native_grammar.specs.Grammar.{File, clause, content_at, listing_content, file_clause, file_next, file_clauses, file, ending, sees_next, sees_object, sees_default, class_word}
use Rattle.dx_native_text.specs.Lines.{Word, bare, in_quotes, spelled}
use Rattle.dx_native_text.specs.Arrays.{class_words, class_lines}
use Rattle.dx_native_text.specs.Inline.{Inline, inline_of}
use Rattle.dx_native_text.specs.Text.{last_of, unless_inline, many, parts_many, values_many, lines_of, part_lines, value_lines, unless_inline_lines, attribute_lines, object_line, end_line, text_of}
use Rattle.dx_native_law.proofs.LaidLines.{key, natural, component_lines, member_lines, placed_lines}
use Rattle.dx_native_law.proofs.Erased.{unplaced, erased_clause}
use Rattle.dx_native_law.proofs.Runs.{Runs, at}
use Rattle.dx_native_law.proofs.Tokens.{words_of, AreGood, AreLines, text_runs}
use Rattle.dx_native_law.proofs.Stands.{first_of_two, second_of_two, is_word, sees_word}
use Rattle.dx_native_law.proofs.Listings.{name_of, AreGiven, attributes_of}
use Rattle.dx_native_law.proofs.Grids.{IsNoNumber, object_no, end_no}
use Rattle.dx_native_law.proofs.Parts.{part_words, lines_of_parts, AreParts, erased_parts}
use Rattle.dx_native_law.proofs.Clauses.{IsBehind, Content_is, listing_stands, text_stands, string_class, field_class, group_class, composite_class, series_class, clause_stands}

-- ---- names that are new

pub isnt_by : (b : Bool) (P : Type 0) → Decides b P → (P → ⊥) → b ≡ false
isnt_by true P d n = absurd (n (d.0 refl))
isnt_by false P d n = refl

pub apart : (m n : ℕ) → m < 2 ^ 64 → n < 2 ^ 64 → m ≢ n → bytes_eq (name_of m) (name_of n) ≡ false
apart m n p q other = isnt_by (bytes_eq (name_of m) (name_of n)) (name_of m ≡ name_of n) (bytes_eq-Decides (name_of m) (name_of n)) (λ e. other (decimal_injective m n p q e))

-- from the number n on no object stands yet
abbrev pub Fresh : ℕ → List Clause → Type 0
Fresh n cs = (i : ℕ) → n ≤ i → i < 2 ^ 64 → has_clause (name_of i) cs ≡ false

names_push : (cs : List Clause) (c : Clause) → clause_names (cs ++ c ∷ []) ≡ clause_names cs ++ c.name.text ∷ []
names_push [] c = refl
names_push (x ∷ cs) c = ap (λ ns. x.name.text ∷ ns) (names_push cs c)

fresh_push : (n : ℕ) (cs : List Clause) (c : Clause) → n < 2 ^ 64 → c.name.text ≡ name_of n → Fresh n cs → Fresh (suc n) (cs ++ c ∷ [])
fresh_push n cs c small name fresh i l h =
    let p = λ (x : List ℕ). bytes_eq (name_of i) x in
    ap (list_any p) (names_push cs c) ∙ list_any-append p (clause_names cs) (c.name.text ∷ [])
    ∙ ap (λ b. b || (p c.name.text || false)) (fresh i (omega arith) h)
    ∙ ap (λ x. p x || false) name
    ∙ ap (λ b. b || false) (apart i n h small (omega arith))

-- ---- words of lines

words_append : (ls ms : List (List Word)) → words_of (ls ++ ms) ≡ words_of ls ++ words_of ms
words_append [] ms = refl
words_append (l ∷ ls) ms = ap (λ x. l ++ x) (words_append ls ms) ∙ sym (append_assoc l (words_of ls) (words_of ms))

two : (b : List (List Word)) (ol : List Word) (c d : List (List Word)) (tail : List Word)
    → words_of (b ++ (ol ∷ (c ++ d))) ++ tail ≡ words_of b ++ (ol ++ (words_of c ++ (words_of d ++ tail)))
two b ol c d tail =
    ap (λ x. x ++ tail) (words_append b (ol ∷ (c ++ d)))
    ∙ append_assoc (words_of b) (ol ++ words_of (c ++ d)) tail
    ∙ ap (λ x. words_of b ++ x) (append_assoc ol (words_of (c ++ d)) tail ∙ ap (λ x. ol ++ x) (ap (λ x. x ++ tail) (words_append c d) ∙ append_assoc (words_of c) (words_of d) tail))

three : (a b : List (List Word)) (ol : List Word) (c d : List (List Word)) (tail : List Word)
    → words_of (a ++ (b ++ (ol ∷ (c ++ d)))) ++ tail ≡ words_of a ++ (words_of b ++ (ol ++ (words_of c ++ (words_of d ++ tail))))
three a b ol c d tail =
    ap (λ x. x ++ tail) (words_append a (b ++ (ol ∷ (c ++ d)))) ∙ append_assoc (words_of a) (words_of (b ++ (ol ∷ (c ++ d)))) tail ∙ ap (λ x. words_of a ++ x) (two b ol c d tail)

-- what may come behind an object
pub record IsTail (tail : List Word) : Type 0 where
  pub word : Word
  pub rest : List Word
  pub parts : tail ≡ word ∷ rest
  pub behind : IsBehind word
  pub number : IsNoNumber word

object_behind : IsBehind (key (codes "object"))
object_behind = record { attribute = refl; component = refl; member = refl }

object_tail : (ws : List Word) → IsTail (key (codes "object") ∷ ws)
object_tail ws = record { word = key (codes "object"); rest = ws; parts = refl; behind = object_behind; number = object_no }

end_tail : IsTail end_line
end_tail = record { word = key (codes "end"); rest = []; parts = refl; behind = record { attribute = refl; component = refl; member = refl }; number = end_no }

split : (a b : List (List Word)) (tail : List Word) → words_of (a ++ b) ++ tail ≡ words_of a ++ (words_of b ++ tail)
split a b tail = ap (λ x. x ++ tail) (words_append a b) ∙ append_assoc (words_of a) (words_of b) tail

value_starts : (v : Option Inline) (t : Tree) (k : ℕ) (tail : List Word) → IsTail (words_of (lines_of t k) ++ tail) → IsTail tail → IsTail (words_of (unless_inline_lines v (lines_of t k)) ++ tail)
value_starts None t k tail g h = g
value_starts (Some v) t k tail g h = h

mutual
  tree_starts : (t : Tree) (k : ℕ) (tail : List Word) → IsTail (words_of (lines_of t k) ++ tail)
  tree_starts (array a xs) k tail = subst IsTail (sym (two (value_lines xs k) _ (class_lines a a.class) (attribute_lines xs k) tail)) (values_start xs k _ (object_tail _))
  tree_starts (text b xs) k tail = subst IsTail (sym (two (value_lines xs k) _ [] (attribute_lines xs k) tail)) (values_start xs k _ (object_tail _))
  tree_starts (field ps xs) k tail = subst IsTail (sym (three (part_lines ps k) (value_lines xs (k + parts_many ps)) _ (component_lines 0 ps k) (attribute_lines xs (k + parts_many ps)) tail)) (parts_start ps k _ (values_start xs (k + parts_many ps) _ (object_tail _)))
  tree_starts (group ps xs) k tail = subst IsTail (sym (three (part_lines ps k) (value_lines xs (k + parts_many ps)) _ (member_lines 0 ps k) (attribute_lines xs (k + parts_many ps)) tail)) (parts_start ps k _ (values_start xs (k + parts_many ps) _ (object_tail _)))
  tree_starts (composite ps xs) k tail = subst IsTail (sym (three (part_lines ps k) (value_lines xs (k + parts_many ps)) _ (member_lines 0 ps k) (attribute_lines xs (k + parts_many ps)) tail)) (parts_start ps k _ (values_start xs (k + parts_many ps) _ (object_tail _)))
  tree_starts (series ps xs) k tail = subst IsTail (sym (three (part_lines ps k) (value_lines xs (k + parts_many ps)) _ (placed_lines 0 ps k) (attribute_lines xs (k + parts_many ps)) tail)) (parts_start ps k _ (values_start xs (k + parts_many ps) _ (object_tail _)))

  parts_start : (ps : PartList) (k : ℕ) (tail : List Word) → IsTail tail → IsTail (words_of (part_lines ps k) ++ tail)
  parts_start no_parts k tail h = h
  parts_start (part n p t ps) k tail h = subst IsTail (sym (split (lines_of t k) (part_lines ps (k + many t)) tail)) (tree_starts t k (words_of (part_lines ps (k + many t)) ++ tail))

  values_start : (xs : PartList) (k : ℕ) (tail : List Word) → IsTail tail → IsTail (words_of (value_lines xs k) ++ tail)
  values_start no_parts k tail h = h
  values_start (part n p t xs) k tail h =
      let after = k + unless_inline (inline_of t) (many t) in
      subst IsTail (sym (split (unless_inline_lines (inline_of t) (lines_of t k)) (value_lines xs after) tail)) (value_starts (inline_of t) t k (words_of (value_lines xs after) ++ tail) (tree_starts t k (words_of (value_lines xs after) ++ tail)) (values_start xs after tail h))

-- ---- what stands

abbrev file_of : List Clause → Option Named → File
file_of cs d = record { clauses = cs; default = d }

abbrev pub own : ℕ → Content → Clause
own n want = record { name = unplaced (name_of n); content = want }

-- behind a file so far stand further clauses, which are these but for their offsets
pub record Standing (f : File) (next : ℕ) (new : List Clause) (s : At) (tail : List Word) (e : At) : Type 0 where
  pub clauses : List Clause
  pub place : At
  pub extend : (j : ℕ) (b : File) (z : At) → Goes sees_next file_next j (file_of clauses f.default) place b z → (i : ℕ) × Goes sees_next file_next i f s b z
  pub behind : Runs place tail e
  pub same : map erased_clause clauses ≡ map erased_clause f.clauses ++ new
  pub fresh : Fresh next clauses

none_stands : (f : File) (n : ℕ) (s : At) (tail : List Word) (e : At) → Fresh n f.clauses → Runs s tail e → Standing f n [] s tail e
none_stands f n s tail e fresh r = record { clauses = f.clauses; place = s; extend = λ j b z g. (j, g); behind = r; same = sym (append-nil (map erased_clause f.clauses)); fresh = fresh }

then_stands : (f : File) (n m : ℕ) (new more : List Clause) (s : At) (mid tail : List Word) (e : At) → (a : Standing f n new s mid e) → Standing (file_of a.clauses f.default) m more a.place tail e → Standing f m (new ++ more) s tail e
then_stands f n m new more s mid tail e a b = record {
  clauses = b.clauses;
  place = b.place;
  extend = λ j x z g. let h = b.extend j x z g in a.extend h.0 x z h.1;
  behind = b.behind;
  same = b.same ∙ ap (λ l. l ++ more) a.same ∙ append_assoc (map erased_clause f.clauses) new more;
  fresh = b.fresh;
}

own_stands : (f : File) (n : ℕ) (c : List ℕ) (us : List Word) (want : Content) (w : Word) (ws : List Word) (s e : At) → n < 2 ^ 64 → Fresh n f.clauses
    → Runs s (key (codes "object") ∷ natural n ∷ key (codes "class") ∷ (bare c ∷ us)) e
    → ((o : ℕ) (m : At) → Runs m (bare c ∷ us) e → Content_is (content_at o) want m w ws e) → Standing f (suc n) (own n want ∷ []) s (w ∷ ws) e
unfolding file_next file_clause
own_stands f n c us want w ws s e small fresh r inside =
    let x = clause_stands f.clauses n c us want w ws s e (fresh n (omega arith) small) r inside in
    let seen : sees_object s ≡ true = sees_word (codes "object") (key (codes "object")) (natural n ∷ key (codes "class") ∷ (bare c ∷ us)) s e r in
    let name : x.0.name.text ≡ name_of n = ap (λ (d : Clause). d.name.text) x.4 in
    record {
      clauses = f.clauses ++ x.0 ∷ [];
      place = x.1;
      extend = λ j b z g. (suc j, (ap (λ t. t || sees_default s) seen, x.1, file_of (f.clauses ++ x.0 ∷ []) f.default, first_of_two _ _ (sees_object s) seen (x.1, x.0, x.2, (refl, refl)), g));
      behind = x.3;
      same = map-append erased_clause f.clauses (x.0 ∷ []) ∙ ap (λ (d : Clause). map erased_clause f.clauses ++ d ∷ []) x.4;
      fresh = fresh_push n f.clauses x.0 small name fresh;
    }

-- ---- objects that can be written

-- an array whose class is read again behind `class`
pub record IsAgain (a : ArrayData) : Type 0 where
  pub first : List ℕ
  pub others : List Word
  pub words : class_words a a.class ≡ bare first ∷ others
  pub good : AreGood (class_words a a.class)
  pub lines : AreLines (class_lines a a.class)
  pub stand : (xs : PartList) (j : ℕ) (w : Word) (ws : List Word) (o : ℕ) (m e : At) → AreGiven [] xs j → IsBehind w → IsNoNumber w
      → Runs m (bare first ∷ (others ++ (words_of (class_lines a a.class) ++ (words_of (attribute_lines xs j) ++ w ∷ ws)))) e
      → Content_is (content_at o) (record { body = body.Array a; attributes = attributes_of xs j }) m w ws e

abbrev pub IsGoodValue : Option Inline → Type 0 → Type 0
IsGoodValue None P = P
IsGoodValue (Some v) P = Unit {0}

abbrev mutual
  pub IsGood : Tree → ℕ → Type 0
  IsGood (array a xs) k = IsAgain a × AreGiven [] xs k × AreGoodValues xs k × (k + values_many xs < 2 ^ 64)
  IsGood (text b xs) k = AreGiven [] xs k × AreGoodValues xs k × (k + values_many xs < 2 ^ 64)
  IsGood (field ps xs) k = AreParts listing.Field [] 0 ps k × AreGiven [] xs (k + parts_many ps) × AreGoodParts ps k × AreGoodValues xs (k + parts_many ps) × (k + (parts_many ps + values_many xs) < 2 ^ 64)
  IsGood (group ps xs) k = AreParts listing.Group [] 0 ps k × AreGiven [] xs (k + parts_many ps) × AreGoodParts ps k × AreGoodValues xs (k + parts_many ps) × (k + (parts_many ps + values_many xs) < 2 ^ 64)
  IsGood (composite ps xs) k = AreParts listing.Composite [] 0 ps k × AreGiven [] xs (k + parts_many ps) × AreGoodParts ps k × AreGoodValues xs (k + parts_many ps) × (k + (parts_many ps + values_many xs) < 2 ^ 64)
  IsGood (series ps xs) k = AreParts listing.Series [] 0 ps k × AreGiven [] xs (k + parts_many ps) × AreGoodParts ps k × AreGoodValues xs (k + parts_many ps) × (k + (parts_many ps + values_many xs) < 2 ^ 64)

  pub AreGoodParts : PartList → ℕ → Type 0
  AreGoodParts no_parts k = Unit {0}
  AreGoodParts (part n p t ps) k = IsGood t k × AreGoodParts ps (k + many t)

  pub AreGoodValues : PartList → ℕ → Type 0
  AreGoodValues no_parts k = Unit {0}
  AreGoodValues (part n p t xs) k = IsGoodValue (inline_of t) (IsGood t k) × AreGoodValues xs (k + unless_inline (inline_of t) (many t))

-- ---- their clauses

abbrev pub listed_content : ListClass → PartList → ℕ → PartList → ℕ → Content
listed_content K ps k xs j = record { body = body.Parts K (erased_parts ps k); attributes = attributes_of xs j }

abbrev pub if_clauses : Option Inline → List Clause → List Clause
if_clauses None cs = cs
if_clauses (Some v) cs = []

abbrev mutual
  pub clauses_of : Tree → ℕ → List Clause
  clauses_of (array a xs) k = value_clauses xs k ++ own (k + values_many xs) (record { body = body.Array a; attributes = attributes_of xs k }) ∷ []
  clauses_of (text b xs) k = value_clauses xs k ++ own (k + values_many xs) (record { body = body.Text b; attributes = attributes_of xs k }) ∷ []
  clauses_of (field ps xs) k = part_clauses ps k ++ (value_clauses xs (k + parts_many ps) ++ own (k + (parts_many ps + values_many xs)) (listed_content listing.Field ps k xs (k + parts_many ps)) ∷ [])
  clauses_of (group ps xs) k = part_clauses ps k ++ (value_clauses xs (k + parts_many ps) ++ own (k + (parts_many ps + values_many xs)) (listed_content listing.Group ps k xs (k + parts_many ps)) ∷ [])
  clauses_of (composite ps xs) k = part_clauses ps k ++ (value_clauses xs (k + parts_many ps) ++ own (k + (parts_many ps + values_many xs)) (listed_content listing.Composite ps k xs (k + parts_many ps)) ∷ [])
  clauses_of (series ps xs) k = part_clauses ps k ++ (value_clauses xs (k + parts_many ps) ++ own (k + (parts_many ps + values_many xs)) (listed_content listing.Series ps k xs (k + parts_many ps)) ∷ [])

  pub part_clauses : PartList → ℕ → List Clause
  part_clauses no_parts k = []
  part_clauses (part n p t ps) k = clauses_of t k ++ part_clauses ps (k + many t)

  pub value_clauses : PartList → ℕ → List Clause
  value_clauses no_parts k = []
  value_clauses (part n p t xs) k = if_clauses (inline_of t) (clauses_of t k) ++ value_clauses xs (k + unless_inline (inline_of t) (many t))

-- ---- they stand

fresh_at : (n m : ℕ) (cs : List Clause) → n ≡ m → Fresh n cs → Fresh m cs
fresh_at n m cs e h = subst (λ (n : ℕ). Fresh n cs) e h

moved : (f : File) (n m : ℕ) (new : List Clause) (s : At) (tail : List Word) (e : At) → n ≡ m → Standing f n new s tail e → Standing f m new s tail e
moved f n m new s tail e same h = subst (λ (n : ℕ). Standing f n new s tail e) same h

-- the parts of a listing as the writer's lines
pub component_same : (i : ℕ) (ps : PartList) (k : ℕ) → lines_of_parts listing.Field i ps k ≡ component_lines i ps k
component_same i no_parts k = refl
component_same i (part n p t ps) k = ap (λ ls. part_words listing.Field i n p (last_of k (many t)) ∷ ls) (component_same (suc i) ps (k + many t))

pub member_same : (i : ℕ) (ps : PartList) (k : ℕ) → lines_of_parts listing.Group i ps k ≡ member_lines i ps k
member_same i no_parts k = refl
member_same i (part n p t ps) k = ap (λ ls. part_words listing.Group i n p (last_of k (many t)) ∷ ls) (member_same (suc i) ps (k + many t))

pub composite_same : (i : ℕ) (ps : PartList) (k : ℕ) → lines_of_parts listing.Composite i ps k ≡ member_lines i ps k
composite_same i no_parts k = refl
composite_same i (part n p t ps) k = ap (λ ls. part_words listing.Composite i n p (last_of k (many t)) ∷ ls) (composite_same (suc i) ps (k + many t))

pub placed_same : (i : ℕ) (ps : PartList) (k : ℕ) → lines_of_parts listing.Series i ps k ≡ placed_lines i ps k
placed_same i no_parts k = refl
placed_same i (part n p t ps) k = ap (λ ls. part_words listing.Series i n p (last_of k (many t)) ∷ ls) (placed_same (suc i) ps (k + many t))

value_stands : (v : Option Inline) (t : Tree) (k : ℕ) (f : File) (tail : List Word) (s e : At) → IsGoodValue v (IsGood t k) → Fresh k f.clauses → Runs s (words_of (unless_inline_lines v (lines_of t k)) ++ tail) e
    → (IsGood t k → Runs s (words_of (lines_of t k) ++ tail) e → Standing f (k + many t) (clauses_of t k) s tail e) → Standing f (k + unless_inline v (many t)) (if_clauses v (clauses_of t k)) s tail e
value_stands None t k f tail s e good fresh r next = next good r
value_stands (Some v) t k f tail s e good fresh r next = let z : k ≡ k + 0 = omega arith in moved f k (k + 0) [] s tail e z (none_stands f k s tail e fresh r)

mutual
  objects_stand : (t : Tree) (k : ℕ) (f : File) (tail : List Word) (s e : At) → IsGood t k → IsTail tail → Fresh k f.clauses → Runs s (words_of (lines_of t k) ++ tail) e → Standing f (k + many t) (clauses_of t k) s tail e
  objects_stand (array a xs) k f tail s e good last fresh r =
      let n = k + values_many xs in
      let mid = object_line n (class_words a a.class) ++ (words_of (class_lines a a.class) ++ (words_of (attribute_lines xs k) ++ tail)) in
      let shown : Runs s (words_of (value_lines xs k) ++ mid) e = subst (λ (l : List Word). Runs s l e) (two (value_lines xs k) (object_line n (class_words a a.class)) (class_lines a a.class) (attribute_lines xs k) tail) r in
      let v = values_stand xs k f mid s e good.2 (object_tail _) fresh shown in
      let again = good.0 in
      let us = again.others ++ (words_of (class_lines a a.class) ++ (words_of (attribute_lines xs k) ++ last.word ∷ last.rest)) in
      let front : mid ≡ key (codes "object") ∷ natural n ∷ key (codes "class") ∷ (bare again.first ∷ us) =
      ap (λ (c : List Word). key (codes "object") ∷ natural n ∷ key (codes "class") ∷ (c ++ (words_of (class_lines a a.class) ++ (words_of (attribute_lines xs k) ++ tail)))) again.words
      ∙ ap (λ (l : List Word). key (codes "object") ∷ natural n ∷ key (codes "class") ∷ (bare again.first ∷ (again.others ++ (words_of (class_lines a a.class) ++ (words_of (attribute_lines xs k) ++ l))))) last.parts in
      let o = own_stands (file_of v.clauses f.default) n again.first us (record { body = body.Array a; attributes = attributes_of xs k }) last.word last.rest v.place e good.3 v.fresh (subst (λ (l : List Word). Runs v.place l e) front v.behind)
      (λ o m h. again.stand xs k last.word last.rest o m e good.1 last.behind last.number h) in
      moved f (suc n) (k + suc (values_many xs)) (clauses_of (array a xs) k) s tail e (omega arith)
      (then_stands f n (suc n) (value_clauses xs k) (own n (record { body = body.Array a; attributes = attributes_of xs k }) ∷ []) s mid tail e v
      (subst (λ (l : List Word). Standing (file_of v.clauses f.default) (suc n) (own n (record { body = body.Array a; attributes = attributes_of xs k }) ∷ []) v.place l e) (sym last.parts) o))
  objects_stand (text b xs) k f tail s e good last fresh r =
      let n = k + values_many xs in
      let want : Content = record { body = body.Text b; attributes = attributes_of xs k } in
      let mid = object_line n (key (codes "string") ∷ in_quotes b ∷ []) ++ (words_of (attribute_lines xs k) ++ tail) in
      let shown : Runs s (words_of (value_lines xs k) ++ mid) e = subst (λ (l : List Word). Runs s l e) (two (value_lines xs k) (object_line n (key (codes "string") ∷ in_quotes b ∷ [])) [] (attribute_lines xs k) tail) r in
      let v = values_stand xs k f mid s e good.1 (object_tail _) fresh shown in
      let us = in_quotes b ∷ (words_of (attribute_lines xs k) ++ last.word ∷ last.rest) in
      let front : mid ≡ key (codes "object") ∷ natural n ∷ key (codes "class") ∷ (key (codes "string") ∷ us) =
      ap (λ (l : List Word). key (codes "object") ∷ natural n ∷ key (codes "class") ∷ (key (codes "string") ∷ in_quotes b ∷ (words_of (attribute_lines xs k) ++ l))) last.parts in
      let o = own_stands (file_of v.clauses f.default) n (codes "string") us want last.word last.rest v.place e good.2 v.fresh (subst (λ (l : List Word). Runs v.place l e) front v.behind)
      (λ o m h. let c = text_stands b xs k last.word last.rest m e good.0 last.behind h in record { got = c.got; at = c.at; stand = string_class o c.got us m c.at e h c.stand; behind = c.behind; same = c.same }) in
      moved f (suc n) (k + suc (values_many xs)) (clauses_of (text b xs) k) s tail e (omega arith)
      (then_stands f n (suc n) (value_clauses xs k) (own n want ∷ []) s mid tail e v
      (subst (λ (l : List Word). Standing (file_of v.clauses f.default) (suc n) (own n want ∷ []) v.place l e) (sym last.parts) o))
  objects_stand (field ps xs) k f tail s e good last fresh r =
      let j = k + parts_many ps in
      let n = k + (parts_many ps + values_many xs) in
      let want = listed_content listing.Field ps k xs j in
      let mid = object_line n (key (codes "field") ∷ []) ++ (words_of (component_lines 0 ps k) ++ (words_of (attribute_lines xs j) ++ tail)) in
      let shown : Runs s (words_of (part_lines ps k) ++ (words_of (value_lines xs j) ++ mid)) e = subst (λ (l : List Word). Runs s l e) (three (part_lines ps k) (value_lines xs j) (object_line n (key (codes "field") ∷ [])) (component_lines 0 ps k) (attribute_lines xs j) tail) r in
      let p = parts_stand ps k f (words_of (value_lines xs j) ++ mid) s e good.2 (values_start xs j mid (object_tail _)) fresh shown in
      let v = values_stand xs j (file_of p.clauses f.default) mid p.place e good.3 (object_tail _) p.fresh p.behind in
      let us = words_of (lines_of_parts listing.Field 0 ps k) ++ (words_of (attribute_lines xs j) ++ last.word ∷ last.rest) in
      let front : mid ≡ key (codes "object") ∷ natural n ∷ key (codes "class") ∷ (key (codes "field") ∷ us) =
      ap (λ (l : List Word). key (codes "object") ∷ natural n ∷ key (codes "class") ∷ (key (codes "field") ∷ (words_of (component_lines 0 ps k) ++ (words_of (attribute_lines xs j) ++ l)))) last.parts
      ∙ ap (λ (ls : List (List Word)). key (codes "object") ∷ natural n ∷ key (codes "class") ∷ (key (codes "field") ∷ (words_of ls ++ (words_of (attribute_lines xs j) ++ last.word ∷ last.rest)))) (sym (component_same 0 ps k)) in
      let count : j + values_many xs ≡ n = omega arith in
      let o = own_stands (file_of v.clauses f.default) n (codes "field") us want last.word last.rest v.place e good.4 (fresh_at (j + values_many xs) n v.clauses count v.fresh) (subst (λ (l : List Word). Runs v.place l e) front v.behind)
      (λ o m h. let c = listing_stands listing.Field ps xs k j last.word last.rest m e good.0 good.1 last.behind refl h in record { got = c.got; at = c.at; stand = field_class o c.got us m c.at e h c.stand; behind = c.behind; same = c.same }) in
      moved f (suc n) (k + suc (parts_many ps + values_many xs)) (clauses_of (field ps xs) k) s tail e (omega arith)
      (then_stands f j (suc n) (part_clauses ps k) (value_clauses xs j ++ own n want ∷ []) s (words_of (value_lines xs j) ++ mid) tail e p
      (then_stands (file_of p.clauses f.default) (j + values_many xs) (suc n) (value_clauses xs j) (own n want ∷ []) p.place mid tail e v
      (subst (λ (l : List Word). Standing (file_of v.clauses f.default) (suc n) (own n want ∷ []) v.place l e) (sym last.parts) o)))
  objects_stand (group ps xs) k f tail s e good last fresh r =
      let j = k + parts_many ps in
      let n = k + (parts_many ps + values_many xs) in
      let want = listed_content listing.Group ps k xs j in
      let mid = object_line n (key (codes "group") ∷ []) ++ (words_of (member_lines 0 ps k) ++ (words_of (attribute_lines xs j) ++ tail)) in
      let shown : Runs s (words_of (part_lines ps k) ++ (words_of (value_lines xs j) ++ mid)) e = subst (λ (l : List Word). Runs s l e) (three (part_lines ps k) (value_lines xs j) (object_line n (key (codes "group") ∷ [])) (member_lines 0 ps k) (attribute_lines xs j) tail) r in
      let p = parts_stand ps k f (words_of (value_lines xs j) ++ mid) s e good.2 (values_start xs j mid (object_tail _)) fresh shown in
      let v = values_stand xs j (file_of p.clauses f.default) mid p.place e good.3 (object_tail _) p.fresh p.behind in
      let us = words_of (lines_of_parts listing.Group 0 ps k) ++ (words_of (attribute_lines xs j) ++ last.word ∷ last.rest) in
      let front : mid ≡ key (codes "object") ∷ natural n ∷ key (codes "class") ∷ (key (codes "group") ∷ us) =
      ap (λ (l : List Word). key (codes "object") ∷ natural n ∷ key (codes "class") ∷ (key (codes "group") ∷ (words_of (member_lines 0 ps k) ++ (words_of (attribute_lines xs j) ++ l)))) last.parts
      ∙ ap (λ (ls : List (List Word)). key (codes "object") ∷ natural n ∷ key (codes "class") ∷ (key (codes "group") ∷ (words_of ls ++ (words_of (attribute_lines xs j) ++ last.word ∷ last.rest)))) (sym (member_same 0 ps k)) in
      let count : j + values_many xs ≡ n = omega arith in
      let o = own_stands (file_of v.clauses f.default) n (codes "group") us want last.word last.rest v.place e good.4 (fresh_at (j + values_many xs) n v.clauses count v.fresh) (subst (λ (l : List Word). Runs v.place l e) front v.behind)
      (λ o m h. let c = listing_stands listing.Group ps xs k j last.word last.rest m e good.0 good.1 last.behind refl h in record { got = c.got; at = c.at; stand = group_class o c.got us m c.at e h c.stand; behind = c.behind; same = c.same }) in
      moved f (suc n) (k + suc (parts_many ps + values_many xs)) (clauses_of (group ps xs) k) s tail e (omega arith)
      (then_stands f j (suc n) (part_clauses ps k) (value_clauses xs j ++ own n want ∷ []) s (words_of (value_lines xs j) ++ mid) tail e p
      (then_stands (file_of p.clauses f.default) (j + values_many xs) (suc n) (value_clauses xs j) (own n want ∷ []) p.place mid tail e v
      (subst (λ (l : List Word). Standing (file_of v.clauses f.default) (suc n) (own n want ∷ []) v.place l e) (sym last.parts) o)))
  objects_stand (composite ps xs) k f tail s e good last fresh r =
      let j = k + parts_many ps in
      let n = k + (parts_many ps + values_many xs) in
      let want = listed_content listing.Composite ps k xs j in
      let mid = object_line n (key (codes "compositefield") ∷ []) ++ (words_of (member_lines 0 ps k) ++ (words_of (attribute_lines xs j) ++ tail)) in
      let shown : Runs s (words_of (part_lines ps k) ++ (words_of (value_lines xs j) ++ mid)) e = subst (λ (l : List Word). Runs s l e) (three (part_lines ps k) (value_lines xs j) (object_line n (key (codes "compositefield") ∷ [])) (member_lines 0 ps k) (attribute_lines xs j) tail) r in
      let p = parts_stand ps k f (words_of (value_lines xs j) ++ mid) s e good.2 (values_start xs j mid (object_tail _)) fresh shown in
      let v = values_stand xs j (file_of p.clauses f.default) mid p.place e good.3 (object_tail _) p.fresh p.behind in
      let us = words_of (lines_of_parts listing.Composite 0 ps k) ++ (words_of (attribute_lines xs j) ++ last.word ∷ last.rest) in
      let front : mid ≡ key (codes "object") ∷ natural n ∷ key (codes "class") ∷ (key (codes "compositefield") ∷ us) =
      ap (λ (l : List Word). key (codes "object") ∷ natural n ∷ key (codes "class") ∷ (key (codes "compositefield") ∷ (words_of (member_lines 0 ps k) ++ (words_of (attribute_lines xs j) ++ l)))) last.parts
      ∙ ap (λ (ls : List (List Word)). key (codes "object") ∷ natural n ∷ key (codes "class") ∷ (key (codes "compositefield") ∷ (words_of ls ++ (words_of (attribute_lines xs j) ++ last.word ∷ last.rest)))) (sym (composite_same 0 ps k)) in
      let count : j + values_many xs ≡ n = omega arith in
      let o = own_stands (file_of v.clauses f.default) n (codes "compositefield") us want last.word last.rest v.place e good.4 (fresh_at (j + values_many xs) n v.clauses count v.fresh) (subst (λ (l : List Word). Runs v.place l e) front v.behind)
      (λ o m h. let c = listing_stands listing.Composite ps xs k j last.word last.rest m e good.0 good.1 last.behind refl h in record { got = c.got; at = c.at; stand = composite_class o c.got us m c.at e h c.stand; behind = c.behind; same = c.same }) in
      moved f (suc n) (k + suc (parts_many ps + values_many xs)) (clauses_of (composite ps xs) k) s tail e (omega arith)
      (then_stands f j (suc n) (part_clauses ps k) (value_clauses xs j ++ own n want ∷ []) s (words_of (value_lines xs j) ++ mid) tail e p
      (then_stands (file_of p.clauses f.default) (j + values_many xs) (suc n) (value_clauses xs j) (own n want ∷ []) p.place mid tail e v
      (subst (λ (l : List Word). Standing (file_of v.clauses f.default) (suc n) (own n want ∷ []) v.place l e) (sym last.parts) o)))
  objects_stand (series ps xs) k f tail s e good last fresh r =
      let j = k + parts_many ps in
      let n = k + (parts_many ps + values_many xs) in
      let want = listed_content listing.Series ps k xs j in
      let mid = object_line n (key (codes "series") ∷ []) ++ (words_of (placed_lines 0 ps k) ++ (words_of (attribute_lines xs j) ++ tail)) in
      let shown : Runs s (words_of (part_lines ps k) ++ (words_of (value_lines xs j) ++ mid)) e = subst (λ (l : List Word). Runs s l e) (three (part_lines ps k) (value_lines xs j) (object_line n (key (codes "series") ∷ [])) (placed_lines 0 ps k) (attribute_lines xs j) tail) r in
      let p = parts_stand ps k f (words_of (value_lines xs j) ++ mid) s e good.2 (values_start xs j mid (object_tail _)) fresh shown in
      let v = values_stand xs j (file_of p.clauses f.default) mid p.place e good.3 (object_tail _) p.fresh p.behind in
      let us = words_of (lines_of_parts listing.Series 0 ps k) ++ (words_of (attribute_lines xs j) ++ last.word ∷ last.rest) in
      let front : mid ≡ key (codes "object") ∷ natural n ∷ key (codes "class") ∷ (key (codes "series") ∷ us) =
      ap (λ (l : List Word). key (codes "object") ∷ natural n ∷ key (codes "class") ∷ (key (codes "series") ∷ (words_of (placed_lines 0 ps k) ++ (words_of (attribute_lines xs j) ++ l)))) last.parts
      ∙ ap (λ (ls : List (List Word)). key (codes "object") ∷ natural n ∷ key (codes "class") ∷ (key (codes "series") ∷ (words_of ls ++ (words_of (attribute_lines xs j) ++ last.word ∷ last.rest)))) (sym (placed_same 0 ps k)) in
      let count : j + values_many xs ≡ n = omega arith in
      let o = own_stands (file_of v.clauses f.default) n (codes "series") us want last.word last.rest v.place e good.4 (fresh_at (j + values_many xs) n v.clauses count v.fresh) (subst (λ (l : List Word). Runs v.place l e) front v.behind)
      (λ o m h. let c = listing_stands listing.Series ps xs k j last.word last.rest m e good.0 good.1 last.behind refl h in record { got = c.got; at = c.at; stand = series_class o c.got us m c.at e h c.stand; behind = c.behind; same = c.same }) in
      moved f (suc n) (k + suc (parts_many ps + values_many xs)) (clauses_of (series ps xs) k) s tail e (omega arith)
      (then_stands f j (suc n) (part_clauses ps k) (value_clauses xs j ++ own n want ∷ []) s (words_of (value_lines xs j) ++ mid) tail e p
      (then_stands (file_of p.clauses f.default) (j + values_many xs) (suc n) (value_clauses xs j) (own n want ∷ []) p.place mid tail e v
      (subst (λ (l : List Word). Standing (file_of v.clauses f.default) (suc n) (own n want ∷ []) v.place l e) (sym last.parts) o)))

  parts_stand : (ps : PartList) (k : ℕ) (f : File) (tail : List Word) (s e : At) → AreGoodParts ps k → IsTail tail → Fresh k f.clauses → Runs s (words_of (part_lines ps k) ++ tail) e → Standing f (k + parts_many ps) (part_clauses ps k) s tail e
  parts_stand no_parts k f tail s e good last fresh r = let z : k ≡ k + 0 = omega arith in moved f k (k + 0) [] s tail e z (none_stands f k s tail e fresh r)
  parts_stand (part n p t ps) k f tail s e good last fresh r =
      let after = k + many t in
      let mid = words_of (part_lines ps after) ++ tail in
      let a = objects_stand t k f mid s e good.0 (parts_start ps after tail last) fresh (subst (λ (l : List Word). Runs s l e) (split (lines_of t k) (part_lines ps after) tail) r) in
      let b = parts_stand ps after (file_of a.clauses f.default) tail a.place e good.1 last a.fresh a.behind in
      let count : after + parts_many ps ≡ k + (many t + parts_many ps) = omega arith in
      moved f (after + parts_many ps) (k + (many t + parts_many ps)) (clauses_of t k ++ part_clauses ps after) s tail e count
      (then_stands f after (after + parts_many ps) (clauses_of t k) (part_clauses ps after) s mid tail e a b)

  values_stand : (xs : PartList) (k : ℕ) (f : File) (tail : List Word) (s e : At) → AreGoodValues xs k → IsTail tail → Fresh k f.clauses → Runs s (words_of (value_lines xs k) ++ tail) e → Standing f (k + values_many xs) (value_clauses xs k) s tail e
  values_stand no_parts k f tail s e good last fresh r = let z : k ≡ k + 0 = omega arith in moved f k (k + 0) [] s tail e z (none_stands f k s tail e fresh r)
  values_stand (part n p t xs) k f tail s e good last fresh r =
      let v = inline_of t in
      let after = k + unless_inline v (many t) in
      let mid = words_of (value_lines xs after) ++ tail in
      let a = value_stands v t k f mid s e good.0 fresh (subst (λ (l : List Word). Runs s l e) (split (unless_inline_lines v (lines_of t k)) (value_lines xs after) tail) r) (λ g h. objects_stand t k f mid s e g (values_start xs after tail last) fresh h) in
      let b = values_stand xs after (file_of a.clauses f.default) tail a.place e good.1 last a.fresh a.behind in
      let count : after + values_many xs ≡ k + (unless_inline v (many t) + values_many xs) = omega arith in
      moved f (after + values_many xs) (k + (unless_inline v (many t) + values_many xs)) (if_clauses v (clauses_of t k) ++ value_clauses xs after) s tail e count
      (then_stands f after (after + values_many xs) (if_clauses v (clauses_of t k)) (value_clauses xs after) s mid tail e a b)

-- ---- the whole text

goes_end : (f : File) (s e : At) → Runs s end_line e → Goes sees_next file_next 0 f s f s
goes_end f s e r =
    let object : sees_object s ≡ false = sees_word (codes "object") (key (codes "end")) [] s e r in
    let default : sees_default s ≡ false = sees_word (codes "default") (key (codes "end")) [] s e r in
    (ap (λ (b : Bool). b || sees_default s) object ∙ default, refl, refl)

no_clauses : Fresh 1 []
no_clauses i l h = refl

-- the words of an object and `end` are a file of its clauses
pub file_stands : (t : Tree) (s e : At) → IsGood t 1 → Runs s (words_of (lines_of t 1) ++ end_line) e → (f : File) × (m : At) × file.is s f m × (map erased_clause f.clauses ≡ clauses_of t 1) × (f.default ≡ None)
unfolding file file_clauses ending
file_stands t s e good r =
    let a = objects_stand t 1 (file_of [] None) end_line s e good end_tail no_clauses r in
    let f = file_of a.clauses None in
    let goes = a.extend 0 f a.place (goes_end f a.place e a.behind) in
    let isnt_end : at_end a.place ≡ false = ap (λ (l : Found). is_end l.kind) a.behind.it.2 in
    (f, a.place, (a.place, f, goes, (a.place, tt, second_of_two _ _ (at_end a.place) isnt_end (first_of_two _ _ (sees (codes "end") a.place) (sees_word (codes "end") (key (codes "end")) [] a.place e a.behind) (refl, refl)), (refl, refl))), a.same, refl)

-- what is written of an object is a file of its clauses
pub text_is_file : (t : Tree) → IsGood t 1 → AreLines (lines_of t 1 ++ end_line ∷ []) → (f : File) × (m : At) × file.is (at 0 (text_of t)) f m × (map erased_clause f.clauses ≡ clauses_of t 1) × (f.default ≡ None)
unfolding text_of
text_is_file t good lines =
    let r = text_runs (lines_of t 1 ++ end_line ∷ []) lines 0 in
    let whole : words_of (lines_of t 1 ++ end_line ∷ []) ≡ words_of (lines_of t 1) ++ end_line = words_append (lines_of t 1) (end_line ∷ []) in
    file_stands t (at 0 (text_of t)) r.0 good (subst (λ (l : List Word). Runs (at 0 (text_of t)) l r.0) whole r.1)
