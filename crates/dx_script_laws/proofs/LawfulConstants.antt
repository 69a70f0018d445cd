-- The constants that a text stands for are lawful.
use Rattle.std.proofs.Common.{◌≡◌, ℕ, zero, suc, ◌+◌, ◌*◌, ◌≤◌, ◌==◌, ℤ, ◌+ℤ◌, Bool, true, false, not, cond, List, [], ◌∷◌, ◌++◌, length, Some, None, refl, sym, ap, subst, ◌∙◌, arith, length-append}
use Rattle.std.specs.Prelude.{nat_lt, IsTrue}
use Rattle.std.proofs.lemmas.Grind.{common_steps}
use Rattle.dx_base.specs.declared.token.Place.{Place}
use Rattle.dx_base.specs.declared.token.LexKind.{LexKind}
use Rattle.dx_base.specs.declared.token.LexKind.TheVariants as token
use Rattle.dx_base.specs.declared.token.SyntaxKind.{SyntaxKind}
use Rattle.dx_base.specs.declared.token.SyntaxKind.TheVariants as kind
use Rattle.dx_base.specs.Object as object
use Rattle.dx_base.specs.Object.{Tree, PartList, no_parts, levels, deepest, count, total_count, size, total_size}
use Rattle.dx_base.specs.ObjectLimits.{fits}
use Rattle.dx_grammar.specs.Rule.{more, snoc}
use Rattle.dx_ast.specs.declared.constants.Const.{Const}
use Rattle.dx_ast.specs.declared.constants.Const.TheVariants as const
use Rattle.dx_ast.specs.Classes.{Text, fault_if, at, is_reserved, name_in, text_in, name_of, text_of}
use Rattle.dx_ast.specs.Values.{Found, list_of, joined, agrees, with_element, element_fault, range_count, stepping, range, range_fault}
use Rattle.dx_ast.specs.Value.{ints, members, HasLawfulValue}
use Rattle.dx_ast.specs.Lawful.{IsName, HasLawfulShape, IsLawfulConst}
use Rattle.dx_ast.specs.Grammar as grammar
use Rattle.dx_script_laws.proofs.Sizes.{text_bytes, IsNameToken}
use Rattle.dx_script_laws.proofs.Gives.{Gives, value, checked, of_class, followed, past, either, repeated, Adds, adds_value, adds_checked, adds_class, adds_followed, adds_past, adds_either, adds_repeated}

-- ---- tests that were passed

pub no_fault : (b : Bool) (k : SyntaxKind) (p : Place) → fault_if b k p ≡ None → b ≡ false
no_fault true k p e = absurd cc
no_fault false k p e = refl

-- ---- names and strings

by_reserved : (b : Bool) (n : Text) (p : Place) (a : Place × Text) → at p (cond b None (Some n)) ≡ Some a → IsName n → IsName a.1
by_reserved true n p a e is = absurd cc
by_reserved false n p a e is = let same : (p, n) ≡ a = cc in subst (λ (x : Place × Text). IsName x.1) same is

name_good : (k : LexKind) (p : Place) (a : Place × Text) → at p (name_in k) ≡ Some a → IsNameToken k → IsName a.1
name_good (token.Name n) p a e is = by_reserved (is_reserved n) n p a e is
name_good _ p a e is = absurd cc

pub name : Gives grammar.name (λ n. IsName n.1)
name = of_class name_of (λ t a e small. name_good t.kind t.from a e small.names.0)

text_length : (k : LexKind) (p : Place) (a : Place × Text) → at p (text_in k) ≡ Some a → length a.1 ≡ text_bytes k
text_length (token.Text t) p a e = let same : (p, t) ≡ a = cc in ap (λ (x : Place × Text). length x.1) (sym same)
text_length _ p a e = absurd cc

pub text : Gives grammar.text (λ t. length t.1 ≤ 16777216)
text = of_class text_of (λ t a e small. let h = text_length t.kind t.from a e in let g = small.texts in omega arith)

-- ---- vectors

number : (found : List ℤ) → Gives (grammar.number found) (λ n. (length found == 256) ≡ false)
number found = past (λ _. past (λ n. checked _ _ (λ e. no_fault (length found == 256) kind.Syntax n.0 e)))

one_more : (found : List ℤ) (n : ℤ) → (1 ≤ length found) × (length found ≤ 256) → (length found == 256) ≡ false → (1 ≤ length (snoc found n)) × (length (snoc found n) ≤ 256)
one_more found n h e = let l = length-append found (n ∷ []) in (omega arith, grind arith)

vector : Gives grammar.vector (λ v. (1 ≤ length v.1) × (length v.1 ≤ 256))
vector = past (λ first. past (λ n.
    followed (repeated {add = snoc} {Good = λ ns. (1 ≤ length ns) × (length ns ≤ 256)} (λ found good. number found) one_more (n.1 ∷ []) (omega arith, omega arith)) (λ ns good.
    past (λ _. value good))))

-- ---- lists

abbrev IsElement : Const → Type 0
IsElement (const.Int n) = Unit {0}
IsElement (const.Text t) = Unit {0}
IsElement (const.Vector ns) = (1 ≤ length ns) × (length ns ≤ 256)
IsElement other = ⊥

-- a list of so many elements
abbrev HasCount : ℕ → Const → Type 0
HasCount n (const.Ints ns) = length ns ≡ n
HasCount n (const.Texts ts) = length ts ≡ n
HasCount n (const.Vectors width ns) = (1 ≤ width) × (width ≤ 256) × (length ns ≡ n * width)
HasCount n other = ⊥

abbrev IsFound : Found → Type 0
IsFound found = (found.0 ≤ 65536) × HasCount found.0 found.1

-- an element that the list may have, where there is room
abbrev IsNext : Found → Const → Type 0
IsNext found e = (agrees found.1 e ≡ true) × ((found.0 == 65536) ≡ false)

element : Gives grammar.element (λ e. IsElement e.1)
element =
    either (past (λ n. value tt))
    (either (past (λ t. value tt))
    (followed vector (λ v good. value good)))

no_element_fault : (found : Found) (p : Place) (e : Const) → element_fault found p e ≡ None → IsNext found e
no_element_fault found p e h = by (agrees found.1 e) refl h
  where
    by : (b : Bool) → agrees found.1 e ≡ b → cond (not b) (Some (record { kind = kind.MixedList; line = p.line; column = p.column })) (fault_if (found.0 == 65536) kind.ListTooLong p) ≡ None → IsNext found e
    by true is h = (is, no_fault (found.0 == 65536) kind.ListTooLong p h)
    by false is h = absurd cc

next_element : (found : Found) → Gives (grammar.next_element found) (IsNext found)
next_element found = past (λ _. past (λ e. checked _ _ (λ h. no_element_fault found e.0 e.1 h)))

one_longer : (n width : ℕ) → n * width + width ≡ (n + 1) * width
one_longer n width = grind arith

joined_counts : (n : ℕ) (list e : Const) → HasCount n list → agrees list e ≡ true → HasCount (n + 1) (joined list e)
joined_counts n (const.Ints ns) (const.Int k) h e = let l = length-append ns (k ∷ []) in omega arith
joined_counts n (const.Ints ns) _ h e = absurd cc
joined_counts n (const.Texts ts) (const.Text t) h e = let l = length-append ts (t ∷ []) in omega arith
joined_counts n (const.Texts ts) _ h e = absurd cc
joined_counts n (const.Vectors width ns) (const.Vector new) h e =
    let same : length new ≡ width = grind arith in
    (h.0, h.1, length-append ns new ∙ omega (arith, h.2, one_longer n width))
joined_counts n (const.Vectors width ns) _ h e = absurd cc
joined_counts n const.Null e h g = elim h [ ]
joined_counts n (const.Int k) e h g = elim h [ ]
joined_counts n (const.Text t) e h g = elim h [ ]
joined_counts n (const.Vector ns) e h g = elim h [ ]

first_counts : (e : Const) → IsElement e → HasCount 1 (list_of e)
first_counts (const.Int n) is = refl
first_counts (const.Text t) is = refl
first_counts (const.Vector ns) is = (is.0, is.1, omega arith)
first_counts const.Null is = elim is [ ]
first_counts (const.Ints ns) is = elim is [ ]
first_counts (const.Vectors width ns) is = elim is [ ]
first_counts (const.Texts ts) is = elim is [ ]

keeps : (found : Found) (e : Const) → IsFound found → IsNext found e → IsFound (with_element found e)
keeps found e is next = (grind arith, joined_counts found.0 found.1 e is.1 next.0)

shape : (n : ℕ) (list : Const) → n ≤ 65536 → HasCount n list → HasLawfulShape list
shape n (const.Ints ns) le h = omega arith
shape n (const.Texts ts) le h = omega arith
shape n (const.Vectors width ns) le h = (h.0, h.1, (n, le, h.2))
shape n const.Null le h = elim h [ ]
shape n (const.Int k) le h = elim h [ ]
shape n (const.Text t) le h = elim h [ ]
shape n (const.Vector ns) le h = elim h [ ]

elements_after : (e : Const) → IsElement e → Gives (grammar.elements_after e) HasLawfulShape
elements_after e is = followed (repeated {add = with_element} {Good = IsFound} (λ found good. next_element found) keeps (1, list_of e) (omega arith, first_counts e is)) (λ found good.
    past (λ _. value (shape found.0 found.1 good.0 good.1)))

-- ---- ranges

stepping_length : (n : ℕ) (a d : ℤ) → length (stepping n a d) ≡ n
stepping_length zero a d = refl
stepping_length (suc n) a d = ap suc (stepping_length n (a +ℤ d) d)

range_length : (a b d : ℤ) → length (range a b d) ≡ range_count a b d
unfolding range
range_length a b d = stepping_length (range_count a b d) a d

short_range : (a b : ℤ) (p : Place) (d : ℤ) → range_fault a b p d ≡ None → length (range a b d) ≤ 65536
short_range a b p d e =
    let h : nat_lt 65536 (range_count a b d) ≡ false = no_fault (nat_lt 65536 (range_count a b d)) kind.ListTooLong p e in
    let l = range_length a b d in
    grind (arith, common_steps)

range_after : (a : ℤ) → Gives (grammar.range_after a) HasLawfulShape
range_after a = past (λ _. past (λ b. past (λ d. past (λ _.
    checked _ _ (λ e. short_range a b.1 d.0 d.1 e)))))

list : Gives grammar.list HasLawfulShape
list = past (λ _.
    either (past (λ _. value (omega arith)))
    (either (followed element (λ e is. elements_after e.1 is)) (past (λ a. range_after a.1))))

-- ---- the bytes of strings

abbrev total : List Text → ℕ
total [] = 0
total (t ∷ ts) = length t + total ts

abbrev const_bytes : Const → ℕ
const_bytes (const.Text t) = length t
const_bytes (const.Texts ts) = total ts
const_bytes other = 0

total-append : (ts : List Text) (t : Text) → total (ts ++ t ∷ []) ≡ total ts + length t
total-append [] t = omega arith
total-append (u ∷ ts) t = let h = total-append ts t in omega arith

list_bytes : (e : Const) → const_bytes (list_of e) ≤ const_bytes e
list_bytes (const.Text t) = omega arith
list_bytes const.Null = omega arith
list_bytes (const.Int n) = omega arith
list_bytes (const.Vector ns) = omega arith
list_bytes (const.Ints ns) = omega arith
list_bytes (const.Vectors width ns) = omega arith
list_bytes (const.Texts ts) = omega arith

joined_bytes : (list e : Const) → const_bytes (joined list e) ≤ const_bytes list + const_bytes e
joined_bytes (const.Texts ts) (const.Text t) = let h = total-append ts t in omega arith
joined_bytes (const.Texts ts) _ = omega arith
joined_bytes (const.Ints ns) (const.Int n) = omega arith
joined_bytes (const.Ints ns) _ = omega arith
joined_bytes (const.Vectors width ns) (const.Vector new) = omega arith
joined_bytes (const.Vectors width ns) _ = omega arith
joined_bytes const.Null e = omega arith
joined_bytes (const.Int n) e = omega arith
joined_bytes (const.Text t) e = omega arith
joined_bytes (const.Vector ns) e = omega arith

text_adds : Adds grammar.text 0 (λ t. length t.1)
text_adds = adds_class text_of (λ t a e. let h = text_length t.kind t.from a e in omega arith)

element_adds : Adds grammar.element 0 (λ e. const_bytes e.1)
element_adds =
    adds_either (adds_past (λ n. adds_value (omega arith)))
    (adds_either (adds_followed text_adds (λ t. adds_value (omega arith)))
    (adds_past (λ v. adds_value (omega arith))))

next_adds : (found : Found) → Adds (grammar.next_element found) 0 const_bytes
next_adds found = adds_past (λ _. adds_followed element_adds (λ e. adds_checked _ _ (omega arith)))

elements_add : (e : Const) → Adds (grammar.elements_after e) (const_bytes e) const_bytes
elements_add e = adds_followed {first = λ found. const_bytes found.1} (starts (adds_repeated {add = with_element} {item = const_bytes} {bytes = λ found. const_bytes found.1} next_adds (λ found a. joined_bytes found.1 a) (1, list_of e)))
    (λ found. adds_followed {first = λ x. const_bytes found.1} (keep (const_bytes found.1)) (λ _. adds_value (omega arith)))
  where
    starts : Adds (more grammar.next_element with_element (1, list_of e)) (const_bytes (list_of e)) (λ found. const_bytes found.1) → Adds (more grammar.next_element with_element (1, list_of e)) (const_bytes e) (λ found. const_bytes found.1)
    starts x = record { is = λ ts found d. let h = x.is ts found d in let g = list_bytes e in omega arith }

    keep : {A : Type 0} {X : grammar.Rule A} (n : ℕ) → Adds X n (λ a. n)
    keep n = record { is = λ ts a d. omega arith }

list_adds : Adds grammar.list 0 const_bytes
list_adds = adds_past (λ _.
    adds_either (adds_past (λ _. adds_value (omega arith)))
    (adds_either (adds_followed element_adds (λ e. elements_add e.1))
    (adds_past (λ a. adds_past (λ _. adds_past (λ b. adds_past (λ d. adds_past (λ _. adds_checked _ _ (omega arith)))))))))

constant_adds : Adds grammar.constant 0 const_bytes
constant_adds =
    adds_either (adds_past (λ _. adds_value (omega arith)))
    (adds_either (adds_past (λ n. adds_value (omega arith)))
    (adds_either (adds_followed text_adds (λ t. adds_value (omega arith)))
    (adds_either (adds_past (λ v. adds_value (omega arith))) list_adds)))

-- ---- values within the limits of objects

fits_by : (t : Tree) → levels t ≤ 64 → count t ≤ 1048576 → size t ≤ 268435456 → IsTrue (fits t)
fits_by t l c s = grind (arith, common_steps)

members_flat : (ts : List Text) → deepest (members ts) ≤ 1
members_flat [] = omega arith
members_flat (t ∷ ts) = let h = members_flat ts in omega arith

members_count : (ts : List Text) → total_count (members ts) ≡ length ts
members_count [] = refl
members_count (t ∷ ts) = let h = members_count ts in omega arith

members_size : (ts : List Text) → total_size (members ts) ≡ 64 * length ts + total ts
members_size [] = omega arith
members_size (t ∷ ts) = let h = members_size ts in omega arith

few_values : (count width : ℕ) → count ≤ 65536 → width ≤ 256 → count * width ≤ 16777216
few_values count width c w = grind arith

lawful_value : (c : Const) → HasLawfulShape c → const_bytes c ≤ 16777216 → HasLawfulValue c
lawful_value const.Null h le = tt
lawful_value (const.Int n) h le = fits_by (ints [] (n ∷ [])) (omega arith) (omega arith) (omega arith)
lawful_value (const.Text t) h le = fits_by (object.text t no_parts) (omega arith) (omega arith) (omega arith)
lawful_value (const.Vector ns) h le = fits_by (ints (length ns ∷ []) ns) (omega arith) (omega arith) (let g = h.1 in omega arith)
lawful_value (const.Ints ns) h le = fits_by (ints [] ns) (omega arith) (omega arith) (omega arith)
lawful_value (const.Vectors width ns) h le = fits_by (ints (width ∷ []) ns) (omega arith) (omega arith) (let g = few_values h.2.0 width h.2.1 h.1 in let e = h.2.2 in omega arith)
lawful_value (const.Texts ts) h le = fits_by (object.group (members ts) no_parts) (let g = members_flat ts in omega arith) (let g = members_count ts in omega arith) (let g = members_size ts in omega arith)

-- ---- constants

constant_shape : Gives grammar.constant HasLawfulShape
constant_shape =
    either (past (λ _. value tt))
    (either (past (λ n. value tt))
    (either (past (λ t. value tt))
    (either (followed vector (λ v good. value good)) list)))

pub constant : Gives grammar.constant IsLawfulConst
constant = record {
  is = λ ts c d small.
      let s = constant_shape.is ts c d small in
      let b = constant_adds.is ts c d in
      let w = small.texts in
      record { shape = s; value = lawful_value c s (omega arith) };
}
