-- The clauses that are written of an object mean that object.
use Rattle.std.proofs.Common.{◌≡◌, ◌≢◌, ◌==◌, ℕ, zero, suc, ◌+◌, ◌-◌, ◌*◌, ◌<◌, ◌≤◌, ◌^◌, ◌⊎◌, inl, inr, max, Bool, true, false, cond, List, [], ◌∷◌, ◌++◌, length, length-append, map, append_assoc, append-nil, Option, Some, None, ℤ, pos, refl, sym, ap, ◌∙◌, subst, arith}
use Rattle.std.specs.Prelude.{bytes_eq, slice_get, position, nat_lt, not}
use Rattle.std.specs.List.{position_or_len, prefix_len}
use Rattle.std.specs.Bool.{Decides}
use Rattle.std.proofs.lemmas.Bool.Decides.{eqb_tells, nat_tests}
use Rattle.std.proofs.lemmas.Slice.Eq.{bytes_eq-Decides}
use Rattle.dx_base.specs.declared.elem.ElemType.{ElemType}
use Rattle.dx_base.specs.declared.elem.ElemType.TheVariants.{Byte, UByte, Short, UShort, Int, UInt}
use Rattle.dx_base.specs.Array.{ArrayData, Class, plain, constant, regular, grid_positions, grid_connections}
use Rattle.dx_base.specs.Object.{Tree, PartList, array, text, field, group, composite, series, no_parts, part, levels, deepest}
use Rattle.dx_base.specs.ObjectLimits.{unplaced}
use Rattle.dx_native_meaning.proofs.Levels.{levels_some}
use Rattle.dx_native_lex.specs.declared.token.Named.{Named}
use Rattle.dx_native_grammar.specs.declared.clause.Attribute.{Attribute}
use Rattle.dx_native_grammar.specs.declared.clause.Clause.{Clause}
use Rattle.dx_native_grammar.specs.declared.clause.Body.TheVariants as body
use Rattle.dx_native_grammar.specs.declared.clause.Content.{Content}
use Rattle.dx_native_grammar.specs.declared.clause.ListClass.{ListClass}
use Rattle.dx_native_grammar.specs.declared.clause.ListClass.TheVariants as listing
use Rattle.dx_native_grammar.specs.Names.{clause_names}
use Rattle.dx_native_grammar.specs.Meaning.{place_of, with_part, parts_at, given_at, attributes_at, listed_tree, listed_at, body_at, clause_at, at_place, named_at, tree_at}
use Rattle.dx_native_text.specs.Inline.{Inline, as_text, as_number, inline_of, inline_number, int_of, one_value, value_of_rank_0}
use Rattle.dx_native_text.specs.Text.{unless_inline, many, parts_many, values_many, last_of}
use Rattle.dx_native_law.proofs.LaidLines.{number_data}
use Rattle.dx_native_law.proofs.Listings.{name_of, given_of, attributes_of}
use Rattle.dx_native_law.proofs.Parts.{erased_as, erased_parts}
use Rattle.dx_native_law.proofs.Objects.{own, if_clauses, clauses_of, part_clauses, value_clauses, apart, listed_content}

-- ---- lengths

pub some_many : (t : Tree) → 1 ≤ many t
some_many (array a xs) = omega arith
some_many (text b xs) = omega arith
some_many (field ps xs) = omega arith
some_many (group ps xs) = omega arith
some_many (composite ps xs) = omega arith
some_many (series ps xs) = omega arith

pub length_if : (v : Option Inline) (t : Tree) (k : ℕ) → length (clauses_of t k) ≡ many t → length (if_clauses v (clauses_of t k)) ≡ unless_inline v (many t)
length_if None t k h = h
length_if (Some v) t k h = refl

length_own : (ls : List Clause) (c : Clause) (n : ℕ) → length ls ≡ n → length (ls ++ c ∷ []) ≡ suc n
length_own ls c n h = omega (arith, h, length-append ls (c ∷ []))

length_listing : (K : ListClass) (ps xs : PartList) (k : ℕ) (c : Clause) → length (part_clauses ps k) ≡ parts_many ps → length (value_clauses xs (k + parts_many ps)) ≡ values_many xs
    → length (part_clauses ps k ++ (value_clauses xs (k + parts_many ps) ++ c ∷ [])) ≡ suc (parts_many ps + values_many xs)
length_listing K ps xs k c h g =
    let o = length_own (value_clauses xs (k + parts_many ps)) c (values_many xs) g in
    omega (arith, h, o, length-append (part_clauses ps k) (value_clauses xs (k + parts_many ps) ++ c ∷ []))

mutual
  pub length_of : (t : Tree) (k : ℕ) → length (clauses_of t k) ≡ many t
  length_of (array a xs) k = length_own (value_clauses xs k) _ (values_many xs) (length_values xs k)
  length_of (text b xs) k = length_own (value_clauses xs k) _ (values_many xs) (length_values xs k)
  length_of (field ps xs) k = length_listing listing.Field ps xs k _ (length_parts ps k) (length_values xs (k + parts_many ps))
  length_of (group ps xs) k = length_listing listing.Group ps xs k _ (length_parts ps k) (length_values xs (k + parts_many ps))
  length_of (composite ps xs) k = length_listing listing.Composite ps xs k _ (length_parts ps k) (length_values xs (k + parts_many ps))
  length_of (series ps xs) k = length_listing listing.Series ps xs k _ (length_parts ps k) (length_values xs (k + parts_many ps))

  pub length_parts : (ps : PartList) (k : ℕ) → length (part_clauses ps k) ≡ parts_many ps
  length_parts no_parts k = refl
  length_parts (part n p t ps) k = let a = length_of t k in let b = length_parts ps (k + many t) in omega (arith, a, b, length-append (clauses_of t k) (part_clauses ps (k + many t)))

  pub length_values : (xs : PartList) (k : ℕ) → length (value_clauses xs k) ≡ values_many xs
  length_values no_parts k = refl
  length_values (part n p t xs) k =
      let after = k + unless_inline (inline_of t) (many t) in
      let a = length_if (inline_of t) t k (length_of t k) in
      let b = length_values xs after in
      omega (arith, a, b, length-append (if_clauses (inline_of t) (clauses_of t k)) (value_clauses xs after))

-- ---- places of names

abbrev pub IsNumbered : ℕ → List Clause → Type 0
IsNumbered n [] = Unit {0}
IsNumbered n (c ∷ cs) = (c.name.text ≡ name_of n) × IsNumbered (suc n) cs

numbered_append : (n m : ℕ) (xs ys : List Clause) → IsNumbered n xs → n + length xs ≡ m → IsNumbered m ys → IsNumbered n (xs ++ ys)
numbered_append n m [] ys h e g = let p : m ≡ n = omega arith in subst (λ (k : ℕ). IsNumbered k ys) p g
numbered_append n m (x ∷ xs) ys h e g = (h.0, numbered_append (suc n) m xs ys h.1 (omega arith) g)

numbered_if : (v : Option Inline) (t : Tree) (k : ℕ) → IsNumbered k (clauses_of t k) → IsNumbered k (if_clauses v (clauses_of t k))
numbered_if None t k h = h
numbered_if (Some v) t k h = tt

numbered_listing : (ps xs : PartList) (k : ℕ) (want : Content) → IsNumbered k (part_clauses ps k) → IsNumbered (k + parts_many ps) (value_clauses xs (k + parts_many ps))
    → IsNumbered k (part_clauses ps k ++ (value_clauses xs (k + parts_many ps) ++ own (k + (parts_many ps + values_many xs)) want ∷ []))
numbered_listing ps xs k want h g =
    let j = k + parts_many ps in
    let a : k + length (part_clauses ps k) ≡ j = ap (λ n. k + n) (length_parts ps k) in
    let b : j + length (value_clauses xs j) ≡ k + (parts_many ps + values_many xs) = let l = length_values xs j in omega (arith, l) in
    numbered_append k j (part_clauses ps k) (value_clauses xs j ++ own (k + (parts_many ps + values_many xs)) want ∷ []) h a
    (numbered_append j (k + (parts_many ps + values_many xs)) (value_clauses xs j) (own (k + (parts_many ps + values_many xs)) want ∷ []) g b (refl, tt))

mutual
  pub numbered : (t : Tree) (k : ℕ) → IsNumbered k (clauses_of t k)
  numbered (array a xs) k = numbered_append k (k + values_many xs) (value_clauses xs k) _ (numbered_values xs k) (ap (λ n. k + n) (length_values xs k)) (refl, tt)
  numbered (text b xs) k = numbered_append k (k + values_many xs) (value_clauses xs k) _ (numbered_values xs k) (ap (λ n. k + n) (length_values xs k)) (refl, tt)
  numbered (field ps xs) k = numbered_listing ps xs k _ (numbered_parts ps k) (numbered_values xs (k + parts_many ps))
  numbered (group ps xs) k = numbered_listing ps xs k _ (numbered_parts ps k) (numbered_values xs (k + parts_many ps))
  numbered (composite ps xs) k = numbered_listing ps xs k _ (numbered_parts ps k) (numbered_values xs (k + parts_many ps))
  numbered (series ps xs) k = numbered_listing ps xs k _ (numbered_parts ps k) (numbered_values xs (k + parts_many ps))

  numbered_parts : (ps : PartList) (k : ℕ) → IsNumbered k (part_clauses ps k)
  numbered_parts no_parts k = tt
  numbered_parts (part n p t ps) k = numbered_append k (k + many t) (clauses_of t k) (part_clauses ps (k + many t)) (numbered t k) (ap (λ n. k + n) (length_of t k)) (numbered_parts ps (k + many t))

  numbered_values : (xs : PartList) (k : ℕ) → IsNumbered k (value_clauses xs k)
  numbered_values no_parts k = tt
  numbered_values (part n p t xs) k =
      let after = k + unless_inline (inline_of t) (many t) in
      numbered_append k after (if_clauses (inline_of t) (clauses_of t k)) (value_clauses xs after) (numbered_if (inline_of t) t k (numbered t k)) (ap (λ n. k + n) (length_if (inline_of t) t k (length_of t k))) (numbered_values xs after)

is_it : (b : Bool) (P : Type 0) → Decides b P → P → b ≡ true
is_it b P d p = d.1 p

pub same_name : (n : ℕ) → bytes_eq (name_of n) (name_of n) ≡ true
same_name n = is_it (bytes_eq (name_of n) (name_of n)) (name_of n ≡ name_of n) (bytes_eq-Decides (name_of n) (name_of n)) refl

first_by : (n j : ℕ) (c : Clause) (cs : List Clause) → j < 2 ^ 64 → n < 2 ^ 64 → c.name.text ≡ name_of n → (n ≢ j → suc n + position_or_len (bytes_eq (name_of j)) (clause_names cs) ≡ j)
    → (((n == j) ≡ true) × (n ≡ j)) ⊎ (((n == j) ≡ false) × (n ≢ j)) → n + position_or_len (bytes_eq (name_of j)) (clause_names (c ∷ cs)) ≡ j
first_by n j c cs q p name next (inl e) =
    let it : bytes_eq (name_of j) c.name.text ≡ true = ap (bytes_eq (name_of j)) name ∙ ap (λ m. bytes_eq (name_of j) (name_of m)) e.1 ∙ same_name j in
    let z = ap (λ b. cond (not b) (1 + position_or_len (bytes_eq (name_of j)) (clause_names cs)) 0) it in
    let same = e.1 in
    omega (arith, z)
first_by n j c cs q p name next (inr e) =
    let it : bytes_eq (name_of j) c.name.text ≡ false = ap (bytes_eq (name_of j)) name ∙ apart j n q p (λ h. e.1 (sym h)) in
    let z = ap (λ b. cond (not b) (1 + position_or_len (bytes_eq (name_of j)) (clause_names cs)) 0) it in
    let r = next e.1 in
    omega (arith, z, r)

first_place : (n j : ℕ) (cs : List Clause) → IsNumbered n cs → n ≤ j → j < n + length cs → n + length cs ≤ 2 ^ 64 → n + position_or_len (bytes_eq (name_of j)) (clause_names cs) ≡ j
first_place n j [] h l g b = absurd (omega arith)
first_place n j (c ∷ cs) h l g b = first_by n j c cs (omega arith) (omega arith) h.0 (λ other. first_place (suc n) j cs h.1 (omega arith) (omega arith) (omega arith)) (eqb_tells n j)

names_length : (cs : List Clause) → length (clause_names cs) ≡ length cs
names_length [] = refl
names_length (c ∷ cs) = ap suc (names_length cs)

-- object number j stands at place j - 1
pub place : (j : ℕ) (cs : List Clause) → IsNumbered 1 cs → 0 < j → j ≤ length cs → length cs < 2 ^ 64 → place_of cs (name_of j) ≡ Some (j - 1)
place j cs h some l b =
    let p = position_or_len (bytes_eq (name_of j)) (clause_names cs) in
    let e = first_place 1 j cs h (omega arith) (omega arith) (omega arith) in
    let here : p ≡ j - 1 = omega (arith, e) in
    let within : nat_lt p (length (clause_names cs)) ≡ true = let m = names_length cs in let lt : p < length (clause_names cs) = omega (arith, m, here) in grind (arith, nat_tests) in
    ap (λ t. cond t (Some p) None) within ∙ ap (λ (n : ℕ). Some n) here

-- ---- attributes that stand by themselves

pub int_again : (t : ElemType) (es : List ℕ) (c : Class) (z : ℤ) → inline_number (int_of t es c) ≡ Some (as_number z) → number_data z ≡ record { elem = t; extents = es; class = c }
int_again Byte es c z e = absurd cc
int_again UByte es c z e = absurd cc
int_again Short es c z e = absurd cc
int_again UShort es c z e = absurd cc
int_again UInt es c z e = absurd cc
int_again Int (x ∷ es) c z e = absurd cc
int_again Int [] (plain []) z e = absurd cc
int_again Int [] (plain (y ∷ x ∷ vs)) z e = absurd cc
int_again Int [] (constant n v) z e = absurd cc
int_again Int [] (regular n o d) z e = absurd cc
int_again Int [] (grid_positions cs o ds) z e = absurd cc
int_again Int [] (grid_connections cs) z e = absurd cc
int_again Int [] (plain (y ∷ [])) z e = let same : y ≡ z = cc in ap number_data (sym same)

number_no_text : (o : Option ℤ) (b : List ℕ) → inline_number o ≡ Some (as_text b) → ⊥
number_no_text None b e = cc
number_no_text (Some z) b e = cc

-- what stands by itself is the value
inline_again : (lev : ℕ) (meant : List ℕ → Option Tree) (t : Tree) (v : Inline) (j : ℕ) → inline_of t ≡ Some v → given_at (suc lev) meant (given_of (Some v) j) ≡ Some t
inline_again lev meant (array a no_parts) (as_text b) j e = absurd (number_no_text (int_of a.elem a.extents a.class) b e)
inline_again lev meant (array a no_parts) (as_number z) j e = ap (λ (a : ArrayData). Some (array a no_parts)) (int_again a.elem a.extents a.class z e)
inline_again lev meant (array a (part n p t xs)) v j e = absurd cc
inline_again lev meant (text b no_parts) (as_text c) j e = let same : b ≡ c = cc in ap (λ (b : List ℕ). Some (text b no_parts)) (sym same)
inline_again lev meant (text b no_parts) (as_number z) j e = absurd cc
inline_again lev meant (text b (part n p t xs)) v j e = absurd cc
inline_again lev meant (field ps xs) v j e = absurd cc
inline_again lev meant (group ps xs) v j e = absurd cc
inline_again lev meant (composite ps xs) v j e = absurd cc
inline_again lev meant (series ps xs) v j e = absurd cc

-- ---- what a tree has to be, beside the limits: attributes have names and no position

abbrev pub AreNamed : PartList → Type 0
AreNamed no_parts = Unit {0}
AreNamed (part None p t xs) = ⊥
AreNamed (part (Some n) p t xs) = (pos 0 ≡ p) × AreNamed xs

abbrev mutual
  pub IsNamed : Tree → Type 0
  IsNamed (array a xs) = AreNamed xs × AllNamed xs
  IsNamed (text b xs) = AreNamed xs × AllNamed xs
  IsNamed (field ps xs) = AllNamed ps × AreNamed xs × AllNamed xs × (unplaced ps ≡ ps)
  IsNamed (group ps xs) = AllNamed ps × AreNamed xs × AllNamed xs × (unplaced ps ≡ ps)
  IsNamed (composite ps xs) = AllNamed ps × AreNamed xs × AllNamed xs × (unplaced ps ≡ ps)
  IsNamed (series ps xs) = AllNamed ps × AreNamed xs × AllNamed xs

  pub AllNamed : PartList → Type 0
  AllNamed no_parts = Unit {0}
  AllNamed (part n p t ps) = IsNamed t × AllNamed ps

-- ---- clauses at their places

pub get_there : (before : List Clause) (c : Clause) (rest : List Clause) → slice_get (before ++ c ∷ rest) (length before) ≡ Some c
get_there [] c rest = refl
get_there (x ∷ before) c rest = get_there before c rest

pub record World (all : List Clause) : Type 0 where
  pub numbered : IsNumbered 1 all
  pub small : length all < 2 ^ 64

at_name : (all : List Clause) → World all → (lev j : ℕ) → 0 < j → j ≤ length all → named_at all (tree_at all lev) (name_of j) ≡ tree_at all lev (j - 1)
at_name all w lev j some l = ap (at_place (tree_at all lev)) (place j all w.numbered some l w.small)

own_means : (all : List Clause) (lev i n : ℕ) (want : Content) (before rest : List Clause) → all ≡ before ++ own n want ∷ rest → i ≡ length before
    → tree_at all (suc lev) i ≡ clause_at lev (named_at all (tree_at all lev)) (Some (own n want))
unfolding tree_at
own_means all lev i n want before rest e h =
    ap (clause_at lev (named_at all (tree_at all lev))) (ap (slice_get all) h ∙ ap (λ (l : List Clause). slice_get l (length before)) e ∙ get_there before (own n want) rest)

-- what stands between two lists, part by part
pub shift : (before a b rest : List Clause) → before ++ ((a ++ b) ++ rest) ≡ (before ++ a) ++ (b ++ rest)
shift before a b rest = ap (λ x. before ++ x) (append_assoc a b rest) ∙ sym (append_assoc before a (b ++ rest))

value_means : (lev : ℕ) (meant : List ℕ → Option Tree) (t : Tree) (v : Option Inline) (j : ℕ) → 1 ≤ lev → inline_of t ≡ v → (v ≡ None → meant (name_of j) ≡ Some t) → given_at lev meant (given_of v j) ≡ Some t
value_means zero meant t v j some e next = absurd (omega arith)
value_means (suc lev) meant t None j some e next = next refl
value_means (suc lev) meant t (Some v) j some e next = inline_again lev meant t v j e

-- the clauses of a part that is written come next
pub if_here : (v : Option Inline) (cs rest : List Clause) (all before : List Clause) → v ≡ None → all ≡ before ++ (if_clauses v cs ++ rest) → all ≡ before ++ (cs ++ rest)
if_here None cs rest all before e h = h
if_here (Some v) cs rest all before e h = absurd cc

pub within : (all before cs rest : List Clause) (m : ℕ) → all ≡ before ++ (cs ++ rest) → length cs ≡ m → length before + m ≤ length all
within all before cs rest m e h = let l = ap length e in omega (arith, l, h, length-append before (cs ++ rest), length-append cs rest)

mutual
  means : (all : List Clause) → World all → (t : Tree) (k lev : ℕ) (before rest : List Clause) → all ≡ before ++ (clauses_of t k ++ rest) → suc (length before) ≡ k → levels t ≤ lev → IsNamed t
      → tree_at all lev (k + many t - 1 - 1) ≡ Some t
  means all w (array a xs) k zero before rest e p l h = absurd (omega arith)
  means all w (text b xs) k zero before rest e p l h = absurd (omega arith)
  means all w (field ps xs) k zero before rest e p l h = absurd (omega arith)
  means all w (group ps xs) k zero before rest e p l h = absurd (omega arith)
  means all w (composite ps xs) k zero before rest e p l h = absurd (omega arith)
  means all w (series ps xs) k zero before rest e p l h = absurd (omega arith)
  means all w (array a xs) k (suc lev) before rest e p l h =
      let n = k + values_many xs in
      let want : Content = record { body = body.Array a; attributes = attributes_of xs k } in
      let front = before ++ value_clauses xs k in
      let here : all ≡ front ++ own n want ∷ rest = e ∙ shift before (value_clauses xs k) (own n want ∷ []) rest in
      let v = length_values xs k in
      let i : k + suc (values_many xs) - 1 - 1 ≡ length front = omega (arith, v, p, length-append before (value_clauses xs k)) in
      let xs_mean = attributes_mean all w xs k lev before (own n want ∷ rest) (e ∙ ap (λ x. before ++ x) (append_assoc (value_clauses xs k) (own n want ∷ []) rest)) p (omega arith) h.0 h.1 in
      own_means all lev (k + suc (values_many xs) - 1 - 1) n want front rest here i ∙ ap (body_at (named_at all (tree_at all lev)) (body.Array a)) xs_mean
  means all w (text b xs) k (suc lev) before rest e p l h =
      let n = k + values_many xs in
      let want : Content = record { body = body.Text b; attributes = attributes_of xs k } in
      let front = before ++ value_clauses xs k in
      let here : all ≡ front ++ own n want ∷ rest = e ∙ shift before (value_clauses xs k) (own n want ∷ []) rest in
      let v = length_values xs k in
      let i : k + suc (values_many xs) - 1 - 1 ≡ length front = omega (arith, v, p, length-append before (value_clauses xs k)) in
      let xs_mean = attributes_mean all w xs k lev before (own n want ∷ rest) (e ∙ ap (λ x. before ++ x) (append_assoc (value_clauses xs k) (own n want ∷ []) rest)) p (omega arith) h.0 h.1 in
      own_means all lev (k + suc (values_many xs) - 1 - 1) n want front rest here i ∙ ap (body_at (named_at all (tree_at all lev)) (body.Text b)) xs_mean
  means all w (field ps xs) k (suc lev) before rest e p l h =
      let j = k + parts_many ps in
      let n = k + (parts_many ps + values_many xs) in
      let want = listed_content listing.Field ps k xs j in
      let mid = before ++ part_clauses ps k in
      let front = mid ++ value_clauses xs j in
      let a = length_parts ps k in
      let b = length_values xs j in
      let at_mid : all ≡ mid ++ ((value_clauses xs j ++ own n want ∷ []) ++ rest) = e ∙ shift before (part_clauses ps k) (value_clauses xs j ++ own n want ∷ []) rest in
      let here : all ≡ front ++ own n want ∷ rest = at_mid ∙ shift mid (value_clauses xs j) (own n want ∷ []) rest in
      let i : k + suc (parts_many ps + values_many xs) - 1 - 1 ≡ length front = omega (arith, a, b, p, length-append before (part_clauses ps k), length-append mid (value_clauses xs j)) in
      let q : suc (length mid) ≡ j = omega (arith, a, p, length-append before (part_clauses ps k)) in
      let ps_mean = parts_mean all w ps k lev before ((value_clauses xs j ++ own n want ∷ []) ++ rest) (e ∙ ap (λ x. before ++ x) (append_assoc (part_clauses ps k) (value_clauses xs j ++ own n want ∷ []) rest)) p (omega arith) h.0 in
      let xs_mean = attributes_mean all w xs j lev mid (own n want ∷ rest) (at_mid ∙ ap (λ x. mid ++ x) (append_assoc (value_clauses xs j) (own n want ∷ []) rest)) q (omega arith) h.1 h.2 in
      own_means all lev (k + suc (parts_many ps + values_many xs) - 1 - 1) n want front rest here i
      ∙ ap (body_at (named_at all (tree_at all lev)) (body.Parts listing.Field (erased_parts ps k))) xs_mean ∙ ap (λ (o : Option PartList). listed_at listing.Field o xs) ps_mean ∙ ap (λ (qs : PartList). Some (field qs xs)) h.3
  means all w (group ps xs) k (suc lev) before rest e p l h =
      let j = k + parts_many ps in
      let n = k + (parts_many ps + values_many xs) in
      let want = listed_content listing.Group ps k xs j in
      let mid = before ++ part_clauses ps k in
      let front = mid ++ value_clauses xs j in
      let a = length_parts ps k in
      let b = length_values xs j in
      let at_mid : all ≡ mid ++ ((value_clauses xs j ++ own n want ∷ []) ++ rest) = e ∙ shift before (part_clauses ps k) (value_clauses xs j ++ own n want ∷ []) rest in
      let here : all ≡ front ++ own n want ∷ rest = at_mid ∙ shift mid (value_clauses xs j) (own n want ∷ []) rest in
      let i : k + suc (parts_many ps + values_many xs) - 1 - 1 ≡ length front = omega (arith, a, b, p, length-append before (part_clauses ps k), length-append mid (value_clauses xs j)) in
      let q : suc (length mid) ≡ j = omega (arith, a, p, length-append before (part_clauses ps k)) in
      let ps_mean = parts_mean all w ps k lev before ((value_clauses xs j ++ own n want ∷ []) ++ rest) (e ∙ ap (λ x. before ++ x) (append_assoc (part_clauses ps k) (value_clauses xs j ++ own n want ∷ []) rest)) p (omega arith) h.0 in
      let xs_mean = attributes_mean all w xs j lev mid (own n want ∷ rest) (at_mid ∙ ap (λ x. mid ++ x) (append_assoc (value_clauses xs j) (own n want ∷ []) rest)) q (omega arith) h.1 h.2 in
      own_means all lev (k + suc (parts_many ps + values_many xs) - 1 - 1) n want front rest here i
      ∙ ap (body_at (named_at all (tree_at all lev)) (body.Parts listing.Group (erased_parts ps k))) xs_mean ∙ ap (λ (o : Option PartList). listed_at listing.Group o xs) ps_mean ∙ ap (λ (qs : PartList). Some (group qs xs)) h.3
  means all w (composite ps xs) k (suc lev) before rest e p l h =
      let j = k + parts_many ps in
      let n = k + (parts_many ps + values_many xs) in
      let want = listed_content listing.Composite ps k xs j in
      let mid = before ++ part_clauses ps k in
      let front = mid ++ value_clauses xs j in
      let a = length_parts ps k in
      let b = length_values xs j in
      let at_mid : all ≡ mid ++ ((value_clauses xs j ++ own n want ∷ []) ++ rest) = e ∙ shift before (part_clauses ps k) (value_clauses xs j ++ own n want ∷ []) rest in
      let here : all ≡ front ++ own n want ∷ rest = at_mid ∙ shift mid (value_clauses xs j) (own n want ∷ []) rest in
      let i : k + suc (parts_many ps + values_many xs) - 1 - 1 ≡ length front = omega (arith, a, b, p, length-append before (part_clauses ps k), length-append mid (value_clauses xs j)) in
      let q : suc (length mid) ≡ j = omega (arith, a, p, length-append before (part_clauses ps k)) in
      let ps_mean = parts_mean all w ps k lev before ((value_clauses xs j ++ own n want ∷ []) ++ rest) (e ∙ ap (λ x. before ++ x) (append_assoc (part_clauses ps k) (value_clauses xs j ++ own n want ∷ []) rest)) p (omega arith) h.0 in
      let xs_mean = attributes_mean all w xs j lev mid (own n want ∷ rest) (at_mid ∙ ap (λ x. mid ++ x) (append_assoc (value_clauses xs j) (own n want ∷ []) rest)) q (omega arith) h.1 h.2 in
      own_means all lev (k + suc (parts_many ps + values_many xs) - 1 - 1) n want front rest here i
      ∙ ap (body_at (named_at all (tree_at all lev)) (body.Parts listing.Composite (erased_parts ps k))) xs_mean ∙ ap (λ (o : Option PartList). listed_at listing.Composite o xs) ps_mean ∙ ap (λ (qs : PartList). Some (composite qs xs)) h.3
  means all w (series ps xs) k (suc lev) before rest e p l h =
      let j = k + parts_many ps in
      let n = k + (parts_many ps + values_many xs) in
      let want = listed_content listing.Series ps k xs j in
      let mid = before ++ part_clauses ps k in
      let front = mid ++ value_clauses xs j in
      let a = length_parts ps k in
      let b = length_values xs j in
      let at_mid : all ≡ mid ++ ((value_clauses xs j ++ own n want ∷ []) ++ rest) = e ∙ shift before (part_clauses ps k) (value_clauses xs j ++ own n want ∷ []) rest in
      let here : all ≡ front ++ own n want ∷ rest = at_mid ∙ shift mid (value_clauses xs j) (own n want ∷ []) rest in
      let i : k + suc (parts_many ps + values_many xs) - 1 - 1 ≡ length front = omega (arith, a, b, p, length-append before (part_clauses ps k), length-append mid (value_clauses xs j)) in
      let q : suc (length mid) ≡ j = omega (arith, a, p, length-append before (part_clauses ps k)) in
      let ps_mean = parts_mean all w ps k lev before ((value_clauses xs j ++ own n want ∷ []) ++ rest) (e ∙ ap (λ x. before ++ x) (append_assoc (part_clauses ps k) (value_clauses xs j ++ own n want ∷ []) rest)) p (omega arith) h.0 in
      let xs_mean = attributes_mean all w xs j lev mid (own n want ∷ rest) (at_mid ∙ ap (λ x. mid ++ x) (append_assoc (value_clauses xs j) (own n want ∷ []) rest)) q (omega arith) h.1 h.2 in
      own_means all lev (k + suc (parts_many ps + values_many xs) - 1 - 1) n want front rest here i
      ∙ ap (body_at (named_at all (tree_at all lev)) (body.Parts listing.Series (erased_parts ps k))) xs_mean ∙ ap (λ (o : Option PartList). listed_at listing.Series o xs) ps_mean

  parts_mean : (all : List Clause) → World all → (ps : PartList) (k lev : ℕ) (before rest : List Clause) → all ≡ before ++ (part_clauses ps k ++ rest) → suc (length before) ≡ k → deepest ps ≤ lev → AllNamed ps
      → parts_at (named_at all (tree_at all lev)) (erased_parts ps k) ≡ Some ps
  parts_mean all w no_parts k lev before rest e p l h = refl
  parts_mean all w (part n q t ps) k lev before rest e p l h =
      let after = k + many t in
      let j = k + many t - 1 in
      let meant = named_at all (tree_at all lev) in
      let tail = part_clauses ps after ++ rest in
      let here : all ≡ before ++ (clauses_of t k ++ tail) = e ∙ ap (λ x. before ++ x) (append_assoc (clauses_of t k) (part_clauses ps after) rest) in
      let one = length_of t k in
      let some = some_many t in
      let fits = within all before (clauses_of t k) tail (many t) here one in
      let first : meant (name_of j) ≡ Some t = at_name all w lev j (omega arith) (omega (arith, fits)) ∙ means all w t k lev before tail here p (omega arith) h.0 in
      let front = before ++ clauses_of t k in
      let next = parts_mean all w ps after lev front rest (e ∙ shift before (clauses_of t k) (part_clauses ps after) rest) (omega (arith, one, length-append before (clauses_of t k))) (omega arith) h.1 in
      ap (λ (o : Option Tree). with_part n q o (parts_at meant (erased_parts ps after))) first ∙ ap (λ (o : Option PartList). with_part n q (Some t) o) next

  attributes_mean : (all : List Clause) → World all → (xs : PartList) (k lev : ℕ) (before rest : List Clause) → all ≡ before ++ (value_clauses xs k ++ rest) → suc (length before) ≡ k → deepest xs ≤ lev → AreNamed xs → AllNamed xs
      → attributes_at lev (named_at all (tree_at all lev)) (attributes_of xs k) ≡ Some xs
  attributes_mean all w no_parts k lev before rest e p l h g = refl
  attributes_mean all w (part None q t xs) k lev before rest e p l h g = absurd h
  attributes_mean all w (part (Some n) q t xs) k lev before rest e p l h g =
      let v = inline_of t in
      let after = k + unless_inline v (many t) in
      let j = k + many t - 1 in
      let meant = named_at all (tree_at all lev) in
      let tail = value_clauses xs after ++ rest in
      let here : all ≡ before ++ (if_clauses v (clauses_of t k) ++ tail) = e ∙ ap (λ x. before ++ x) (append_assoc (if_clauses v (clauses_of t k)) (value_clauses xs after) rest) in
      let one = length_if v t k (length_of t k) in
      let some = some_many t in
      let whole = length_of t k in
      let first : given_at lev meant (given_of v j) ≡ Some t =
      value_means lev meant t v j (let one_level = levels_some t in omega arith) refl (λ none.
      let there = if_here v (clauses_of t k) tail all before none here in
      let fits = within all before (clauses_of t k) tail (many t) there whole in
      at_name all w lev j (omega arith) (omega (arith, fits)) ∙ means all w t k lev before tail there p (omega arith) g.0) in
      let front = before ++ if_clauses v (clauses_of t k) in
      let next = attributes_mean all w xs after lev front rest (e ∙ shift before (if_clauses v (clauses_of t k)) (value_clauses xs after) rest) (omega (arith, one, length-append before (if_clauses v (clauses_of t k)))) (omega arith) h.1 g.1 in
      ap (λ (o : Option Tree). with_part (Some n) (pos 0) o (attributes_at lev meant (attributes_of xs after))) first
      ∙ ap (λ (o : Option PartList). with_part (Some n) (pos 0) (Some t) o) next
      ∙ ap (λ (z : ℤ). Some (part (Some n) z t xs)) h.0

-- the clauses of an object mean it
pub object_means : (t : Tree) (lev : ℕ) → many t < 2 ^ 64 → levels t ≤ lev → IsNamed t → tree_at (clauses_of t 1) lev (many t - 1) ≡ Some t
object_means t lev small l h =
    let n = length_of t 1 in
    let some = some_many t in
    let w : World (clauses_of t 1) = record { numbered = numbered t 1; small = omega (arith, n) } in
    let i : many t - 1 ≡ 1 + many t - 1 - 1 = omega arith in
    ap (tree_at (clauses_of t 1) lev) i ∙ means (clauses_of t 1) w t 1 lev [] [] (sym (append-nil (clauses_of t 1))) refl l h
