-- The most levels among parts, part by part, and those of a clause.
use Rattle.std.proofs.Common.{◌≡◌, ℕ, zero, suc, ◌+◌, ◌<◌, ◌≤◌, max, pos, List, length, drop, get_or, Option, Some, None, refl, sym, ap, subst, ◌∙◌, add-one, drop-cons, drop_of_length-le, length-set, inl, inr, ◌⊎◌, ◌≢◌, true, false, ◌==◌, arith}
use Rattle.std.specs.Prelude.{slice_get, slice_set, option_map, IfSome}
use Rattle.std.proofs.lemmas.List.{get_or-set_same, get_or-set_other}
use Rattle.std.proofs.lemmas.Bool.Decides.{eqb_tells}
use Rattle.std.proofs.lemmas.Option.{slice_get_within}
use Rattle.dx_base.specs.Object.{Tree, PartList, levels, deepest}
use Rattle.dx_native_grammar.specs.Meaning.{with_part, parts_at, given_at, attributes_at, listed_at, body_at, clause_at, tree_at}
use Rattle.dx_native_grammar.specs.declared.clause.Attribute.{Attribute}
use Rattle.dx_native_grammar.specs.declared.clause.Body.{Body}
use Rattle.dx_native_grammar.specs.declared.clause.Body.TheVariants as body
use Rattle.dx_native_grammar.specs.declared.clause.Clause.{Clause}
use Rattle.dx_native_grammar.specs.declared.clause.Part.{Part}
use Rattle.dx_native_meaning.proofs.Levels.{listed_levels, low, deep}
use Rattle.dx_native_levels.specs.Levels.{CountedAt, IsCounted, parts_in}

abbrev pub raised : ℕ → Option ℕ → Option ℕ
raised n None = None
raised n (Some m) = Some (max n m)

pub raised_zero : (o : Option ℕ) → raised 0 o ≡ o
raised_zero None = refl
raised_zero (Some m) = let e : max 0 m ≡ m = omega arith in ap (λ m. Some m) e

max_assoc : (a b c : ℕ) → max (max b a) c ≡ max a (max b c)
max_assoc a b c = omega arith

-- a part with so many levels in front of the others
in_front : (d : ℕ) (n : Option (List ℕ)) (z : _) (o : Option Tree) (p : Option PartList) (one : ℕ) → Some one ≡ option_map levels o
    → raised d (option_map deepest (with_part n z o p)) ≡ raised (max one d) (option_map deepest p)
in_front d n z None p one e = absurd cc
in_front d n z (Some t) None one e = refl
in_front d n z (Some t) (Some ps) one e =
    let some_is : one ≡ levels t = cc e in
    let m : max d (max (levels t) (deepest ps)) ≡ max (max one d) (deepest ps) = omega (arith, some_is) in
    ap (λ m. Some m) m

none_in_front : (d : ℕ) (n : Option (List ℕ)) (z : _) (o : Option Tree) (p : Option PartList) → None ≡ option_map levels o
    → raised d (option_map deepest (with_part n z o p)) ≡ None
none_in_front d n z None p e = refl
none_in_front d n z (Some t) p e = absurd cc

-- ---- parts

parts_opened : (f : List ℕ → Option Tree) (ls : List Part) (i : ℕ) (l : Part) → i < length ls → l ≡ get_or ls i l
    → parts_at f (drop i ls) ≡ with_part l.name l.position (f l.target.text) (parts_at f (drop (i + 1) ls))
parts_opened f ls i l below e =
    ap (parts_at f) (drop-cons ls i l below) ∙ ap (λ (m : Part). with_part m.name m.position (f m.target.text) (parts_at f (drop (suc i) ls))) (sym e)
    ∙ ap (λ k. with_part l.name l.position (f l.target.text) (parts_at f (drop k ls))) (sym (add-one i))

pub one_part : (f : List ℕ → Option Tree) (ls : List Part) (i : ℕ) (l : Part) (d one : ℕ) → i < length ls → l ≡ get_or ls i l
    → raised d (option_map deepest (parts_at f (drop i ls))) ≡ option_map deepest (parts_at f ls) → Some one ≡ option_map levels (f l.target.text)
    → raised (max one d) (option_map deepest (parts_at f (drop (i + 1) ls))) ≡ option_map deepest (parts_at f ls)
one_part f ls i l d one below e same h =
    sym (in_front d l.name l.position (f l.target.text) (parts_at f (drop (i + 1) ls)) one h)
    ∙ sym (ap (λ p. raised d (option_map deepest p)) (parts_opened f ls i l below e)) ∙ same

pub no_part : (f : List ℕ → Option Tree) (ls : List Part) (i : ℕ) (l : Part) (d : ℕ) → i < length ls → l ≡ get_or ls i l
    → raised d (option_map deepest (parts_at f (drop i ls))) ≡ option_map deepest (parts_at f ls) → None ≡ option_map levels (f l.target.text)
    → None ≡ option_map deepest (parts_at f ls)
no_part f ls i l d below e same h =
    sym (none_in_front d l.name l.position (f l.target.text) (parts_at f (drop (i + 1) ls)) h)
    ∙ sym (ap (λ p. raised d (option_map deepest p)) (parts_opened f ls i l below e)) ∙ same

pub all_parts : (f : List ℕ → Option Tree) (ls : List Part) (i : ℕ) (d : ℕ) → length ls ≤ i
    → raised d (option_map deepest (parts_at f (drop i ls))) ≡ option_map deepest (parts_at f ls) → Some d ≡ option_map deepest (parts_at f ls)
all_parts f ls i d past same =
    let m : d ≡ max d 0 = omega arith in
    ap (λ m. Some m) m ∙ sym (ap (λ ls. raised d (option_map deepest (parts_at f ls))) (drop_of_length-le ls past)) ∙ same

-- ---- attributes

attributes_opened : (k : ℕ) (f : List ℕ → Option Tree) (ls : List Attribute) (i : ℕ) (l : Attribute) → i < length ls → l ≡ get_or ls i l
    → attributes_at k f (drop i ls) ≡ with_part (Some l.name) (pos 0) (given_at k f l.value) (attributes_at k f (drop (i + 1) ls))
attributes_opened k f ls i l below e =
    ap (attributes_at k f) (drop-cons ls i l below) ∙ ap (λ (m : Attribute). with_part (Some m.name) (pos 0) (given_at k f m.value) (attributes_at k f (drop (suc i) ls))) (sym e)
    ∙ ap (λ j. with_part (Some l.name) (pos 0) (given_at k f l.value) (attributes_at k f (drop j ls))) (sym (add-one i))

pub one_attribute : (k : ℕ) (f : List ℕ → Option Tree) (ls : List Attribute) (i : ℕ) (l : Attribute) (d one : ℕ) → i < length ls → l ≡ get_or ls i l
    → raised d (option_map deepest (attributes_at k f (drop i ls))) ≡ option_map deepest (attributes_at k f ls) → Some one ≡ option_map levels (given_at k f l.value)
    → raised (max one d) (option_map deepest (attributes_at k f (drop (i + 1) ls))) ≡ option_map deepest (attributes_at k f ls)
one_attribute k f ls i l d one below e same h =
    sym (in_front d (Some l.name) (pos 0) (given_at k f l.value) (attributes_at k f (drop (i + 1) ls)) one h)
    ∙ sym (ap (λ p. raised d (option_map deepest p)) (attributes_opened k f ls i l below e)) ∙ same

pub no_attribute : (k : ℕ) (f : List ℕ → Option Tree) (ls : List Attribute) (i : ℕ) (l : Attribute) (d : ℕ) → i < length ls → l ≡ get_or ls i l
    → raised d (option_map deepest (attributes_at k f (drop i ls))) ≡ option_map deepest (attributes_at k f ls) → None ≡ option_map levels (given_at k f l.value)
    → None ≡ option_map deepest (attributes_at k f ls)
no_attribute k f ls i l d below e same h =
    sym (none_in_front d (Some l.name) (pos 0) (given_at k f l.value) (attributes_at k f (drop (i + 1) ls)) h)
    ∙ sym (ap (λ p. raised d (option_map deepest p)) (attributes_opened k f ls i l below e)) ∙ same

pub all_attributes : (k : ℕ) (f : List ℕ → Option Tree) (ls : List Attribute) (i : ℕ) (d : ℕ) → length ls ≤ i
    → raised d (option_map deepest (attributes_at k f (drop i ls))) ≡ option_map deepest (attributes_at k f ls) → Some d ≡ option_map deepest (attributes_at k f ls)
all_attributes k f ls i d past same =
    let m : d ≡ max d 0 = omega arith in
    ap (λ m. Some m) m ∙ sym (ap (λ ls. raised d (option_map deepest (attributes_at k f ls))) (drop_of_length-le ls past)) ∙ same

-- ---- a clause

abbrev pub both : Option ℕ → Option ℕ → Option ℕ
both None m = None
both (Some n) None = None
both (Some n) (Some m) = Some (suc (max n m))

listed_both : (c : _) (p : Option PartList) (xs : PartList) → option_map levels (listed_at c p xs) ≡ both (option_map deepest p) (Some (deepest xs))
listed_both c None xs = refl
listed_both c (Some ps) xs = ap (λ n. Some n) (listed_levels c ps xs)

body_both : (f : List ℕ → Option Tree) (b : Body) (o : Option PartList) → option_map levels (body_at f b o) ≡ both (option_map deepest (parts_in f b)) (option_map deepest o)
body_both f (body.Array a) None = refl
body_both f (body.Array a) (Some xs) = let m : deepest xs ≡ max 0 (deepest xs) = omega arith in ap (λ n. Some (suc n)) m
body_both f (body.Text b) None = refl
body_both f (body.Text b) (Some xs) = let m : deepest xs ≡ max 0 (deepest xs) = omega arith in ap (λ n. Some (suc n)) m
body_both f (body.Parts c ps) None = none_both (option_map deepest (parts_at f ps))
  where
    none_both : (o : Option ℕ) → None ≡ both o None
    none_both None = refl
    none_both (Some n) = refl
body_both f (body.Parts c ps) (Some xs) = listed_both c (parts_at f ps) xs

pub clause_both : (k : ℕ) (f : List ℕ → Option Tree) (c : Clause) (p a : Option ℕ) → p ≡ option_map deepest (parts_in f c.content.body)
    → a ≡ option_map deepest (attributes_at k f c.content.attributes) → option_map levels (clause_at k f (Some c)) ≡ both p a
clause_both k f c p a e d = body_both f c.content.body (attributes_at k f c.content.attributes) ∙ ap (λ p. both p (option_map deepest (attributes_at k f c.content.attributes))) (sym e) ∙ ap (both p) (sym d)

-- ---- what is known

some_is : (x y : ℕ) → ◌≡◌ {A = Option ℕ} (Some x) (Some y) → x ≡ y
some_is x y e = cc

pub within : (cs : List Clause) (known : List ℕ) (i : ℕ) (c : Clause) → IsCounted cs known → slice_get cs i ≡ Some c → i < length known
within cs known i c h e = omega (arith, h.many, slice_get_within cs i c e)

-- the levels that are known already
pub hit : (cs : List Clause) (i calls n : ℕ) → CountedAt cs i n → 0 < n → (r : Option ℕ) → IfSome r (λ m. (m ≡ n) × (n ≤ calls)) → (r ≡ None → calls < n)
    → r ≡ option_map levels (tree_at cs calls i)
hit cs i calls zero h some r few many = absurd (omega arith)
hit cs i calls (suc n) (k, t, e, l) some (Some m) few many =
    ap (λ m. Some m) (few.0 ∙ sym l) ∙ sym (ap (option_map levels) (low cs k calls i t e (let q = few.1 in omega (arith, l, q))))
hit cs i calls (suc n) (k, t, e, l) some None few many = sym (ap (option_map levels) (deep cs k calls i t e (let q = many refl in omega (arith, l, q))))

counted : (cs : List Clause) (k i n : ℕ) (o : Option Tree) → tree_at cs k i ≡ o → Some n ≡ option_map levels o → CountedAt cs i n
counted cs k i zero o h e = tt
counted cs k i (suc n) None h e = absurd cc
counted cs k i (suc n) (Some t) h e = (k, t, h, sym (some_is (suc n) (levels t) e))

counted_at : (cs : List Clause) (known : List ℕ) (i n : ℕ) → IsCounted cs known → i < length known → CountedAt cs i n → (j : ℕ)
    → ((◌≡◌ {A = ℕ} j i) ⊎ (j ≢ i)) → CountedAt cs j (get_or (slice_set known i n) j 0)
counted_at cs known i n h l e j (inl same) =
    subst (λ (j : ℕ). CountedAt cs j (get_or (slice_set known i n) j 0)) (sym same)
    (subst (CountedAt cs i) (sym (get_or-set_same known i n 0 l)) e)
counted_at cs known i n h l e j (inr other) = subst (CountedAt cs j) (sym (get_or-set_other known i j n 0 other)) (h.each j)

told : (j i : ℕ) → (((j == i) ≡ true) × (j ≡ i)) ⊎ (((j == i) ≡ false) × (j ≢ i)) → ((◌≡◌ {A = ℕ} j i) ⊎ (j ≢ i))
told j i (inl p) = inl p.1
told j i (inr p) = inr p.1

pub counted_set : (cs : List Clause) (known : List ℕ) (i k n : ℕ) → IsCounted cs known → i < length known → Some n ≡ option_map levels (tree_at cs k i) → IsCounted cs (slice_set known i n)
counted_set cs known i k n h l e = record {
  many = length-set known i n ∙ h.many;
  each = λ j. counted_at cs known i n h l (counted cs k i n (tree_at cs k i) refl e) j (told j i (eqb_tells j i));
}
