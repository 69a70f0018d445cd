-- What the grammar gives is bounded.
use Rattle.std.proofs.Common.{◌≡◌, ℕ, zero, suc, ◌≤◌, List, [], ◌∷◌, ◌++◌, Bool, true, false, Option, Some, None, length, refl, sym, ap, subst, ◌∙◌, length-append, arith}
use Rattle.std.specs.Prelude.{◌==◌, ◌&&◌, map, nat_le, nat_lt, if◌then◌else◌}
use Rattle.std.specs.Cmp.Derive.{both_true}
use Rattle.std.proofs.lemmas.Bool.Decides.{nat_tests}
use Rattle.dx_expr_grammar.specs.declared.token.Token.{Token}
use Rattle.dx_expr_grammar.specs.declared.token.TokenKind.{TokenKind}
use Rattle.dx_expr_grammar.specs.declared.token.TokenKind.TheVariants as kind
use Rattle.dx_expr_grammar.specs.declared.token.Sign.{Sign}
use Rattle.dx_expr_grammar.specs.declared.token.Sign.TheVariants as s
use Rattle.dx_expr_grammar.specs.declared.tree.Binary.{Binary}
use Rattle.dx_expr_grammar.specs.declared.tree.Level.{Level}
use Rattle.dx_expr_grammar.specs.declared.tree.Level.TheVariants as level
use Rattle.dx_expr_grammar.specs.declared.tree.Expression.{Expression}
use Rattle.dx_expr_grammar.specs.declared.tree.Expression.TheVariants as e
use Rattle.dx_grammar.specs.Rule.{one, unless, more, nothing, snoc}
use Rattle.dx_grammar.specs.FirstError.{IsText}
use Rattle.dx_expr_grammar.specs.Tokens.{Tokens}
use Rattle.dx_expr_grammar.specs.Words.{digits_in, digits_of, sign_of, class_of, prefix}
use Rattle.dx_expr_grammar.specs.Grammar as grammar
use Rattle.dx_expr_grammar.specs.Grammar.{Rule, Part, Whole, Signed, joined}
use Rattle.dx_expr_bounds.specs.Bounds.{is_bounded, all_of, is_width}
use Rattle.dx_expr_bounds.proofs.Equations.{bounded_number, bounded_input, bounded_unary, bounded_binary, bounded_choice, bounded_part, bounded_vector}
use Rattle.dx_expr_bounds.proofs.Giving.{Gives, Any, gives_any, gives_nothing, gives_then, gives_behind, gives_either, gives_more}

abbrev pub B : Expression → Type 0
B x = is_bounded x ≡ true

-- ---- parts that speak of no others

most_in : (most : ℕ) (k : TokenKind) (n : ℕ) → digits_in most k ≡ Some n → n ≤ most
most_in most (kind.Sign x) n h = absurd cc
most_in most (kind.Digits m) n h = by (nat_lt most m) refl h
  where
    by : (t : Bool) → nat_lt most m ≡ t → (if t then None else Some m) ≡ Some n → n ≤ most
    by true is h = absurd cc
    by false is h = let same : m ≡ n = cc in grind (arith, nat_tests)

digits : (most : ℕ) → Gives (λ n. n ≤ most) (grammar.digits most)
digits most = record { only = λ ts n h. most_in most h.0.kind n h.2 }

number : Gives B grammar.number
number = gives_then (gives_any {X = grammar.digits 2147483647}) (λ n _. gives_nothing (e.Number n) (bounded_number n))

small : (k : ℕ) → k ≤ 20 → B (e.Input k)
small k h = bounded_input k ∙ (grind (arith, nat_tests))

input : Gives B grammar.input
input = gives_behind {X = grammar.sign s.Dollar} (gives_then (digits 20) (λ k h. gives_nothing (e.Input k) (small k h)))

and_true : {a b : Bool} → a ≡ true → b ≡ true → (a && b) ≡ true
and_true {a} {b} p q = both_true p q

two : (o : Binary) (a b : Expression) → B a → B b → B (e.Binary o a b)
two o a b p q = bounded_binary o a b ∙ and_true p q

-- ---- operators between operands

module _ (l : Level) (X : Rule Expression) (operand : Gives B X) where
  right_side : (a : Expression) → B a → Gives (λ p. B (joined a p)) (grammar.right_side l X)
  right_side a p = gives_then (gives_any {X = grammar.operator l}) (λ o _. gives_then operand (λ b q. gives_nothing (o, b) (two o a b p q)))

  chain : Gives B (grammar.chain l X)
  chain = gives_then operand (λ a p. gives_more B Any (λ found. grammar.right_side l X) joined right_side a p)

  once : Gives B (grammar.once l X)
  once = gives_then operand (λ a p. gives_either (gives_then (right_side a p) (λ r q. gives_nothing (joined a r) q)) (gives_nothing a p))

module _ (X : Rule Expression) (signed : Gives B X) where
  disjunction : Gives B (grammar.disjunction X)
  disjunction =
      let product = chain level.Product X signed in
      let sum = chain level.Sum (grammar.product X) product in
      let relation = once level.Relation (grammar.sum X) sum in
      let equality = once level.Equality (grammar.relation X) relation in
      let conjunction = chain level.And (grammar.equality X) equality in
      chain level.Or (grammar.conjunction X) conjunction

-- ---- the parts of a vector

all_snoc : (found : List Expression) (a : Expression) → all_of (map is_bounded found) ≡ true → B a → all_of (map is_bounded (found ++ a ∷ [])) ≡ true
all_snoc [] a h p = and_true p refl
all_snoc (b ∷ found) a h p = by (is_bounded b) refl h (λ g. all_snoc found a g p)
  where
    by : (t : Bool) → is_bounded b ≡ t → (t && all_of (map is_bounded found)) ≡ true → (all_of (map is_bounded found) ≡ true → all_of (map is_bounded (found ++ a ∷ [])) ≡ true) →
        (is_bounded b && all_of (map is_bounded (found ++ a ∷ []))) ≡ true
    by true is h rest = and_true is (rest h)
    by false is h rest = absurd cc

record AreParts (found : List Expression) : Type 0 where
  pub bounded : all_of (map is_bounded found) ≡ true
  pub some : 1 ≤ length found
  pub few : length found ≤ 256

first_part : (a : Expression) → B a → AreParts (a ∷ [])
first_part a p = record { bounded = and_true p refl; some = omega arith; few = omega arith }

one_more : (found : List Expression) → AreParts found → (length found == 256) ≡ false → (a : Expression) → B a → AreParts (snoc found a)
one_more found h room a p = record {
  bounded = all_snoc found a h.bounded p;
  some = omega (arith, length-append found (a ∷ []), h.some);
  few = let below : length found ≤ 255 = grind (arith, nat_tests, h.few, room) in omega (arith, length-append found (a ∷ []));
}

vector_bounded : (found : List Expression) → AreParts found → B (e.Vector found)
vector_bounded found h =
    let within : is_width (length found) ≡ true = and_true {a = nat_le 1 (length found)} {b = nat_le (length found) 256} (grind (arith, nat_tests, h.some)) (grind (arith, nat_tests, h.few)) in
    bounded_vector found ∙ and_true within h.bounded

room_left : (found : List Expression) (at : ℕ) → Gives (λ _. (length found == 256) ≡ false) (unless {T = Token} {F = ℕ} (if length found == 256 then Some at else None) (tt {0}))
room_left found at = record { only = λ ts u h. by (length found == 256) refl ts u h }
  where
    by : (t : Bool) → (length found == 256) ≡ t → (ts : List Token) (u : Unit {0}) → (unless {T = Token} {F = ℕ} (if t then Some at else None) (tt {0})).is ts u → (length found == 256) ≡ false
    by true is ts u h = absurd h
    by false is ts u h = is

-- ---- the parts of the grammar that speak of themselves

module _ (X : Part → Rule Expression) (inside : (p : Part) → Gives B (X p)) where
  group : (k : ℕ) → Gives B (grammar.group X k)
  group k = gives_then (gives_any {X = grammar.opening s.Open k}) (λ inner _. gives_then (inside (Whole inner)) (λ a p. gives_behind {X = grammar.sign s.Close} (gives_nothing a p)))

  next_part : (k : ℕ) (found : List Expression) → AreParts found → Gives (λ a. AreParts (snoc found a)) (grammar.next_part X k found)
  next_part k found h = gives_then (gives_any {X = grammar.sign s.Comma}) (λ at _.
      gives_then (room_left found at) (λ _ room. record { only = λ ts a d. one_more found h room a ((inside (Whole k)).only ts a d) }))

  vector : (k : ℕ) → Gives B (grammar.vector X k)
  vector k = gives_then (gives_any {X = grammar.opening s.OpenVector k}) (λ inner _. gives_then (inside (Whole inner)) (λ a p.
      gives_then (gives_more AreParts Any (grammar.next_part X inner) snoc (next_part inner) (a ∷ []) (first_part a p)) (λ parts q.
      gives_behind {X = grammar.sign s.CloseVector} (gives_nothing (e.Vector parts) (vector_bounded parts q)))))

  function_of_one : (k : ℕ) → Gives B (grammar.function_of_one X k)
  function_of_one k = gives_then (gives_any {X = grammar.class _}) (λ f _. gives_then (gives_any {X = grammar.opening s.Open k}) (λ inner _.
      gives_then (inside (Whole inner)) (λ a p. gives_behind {X = grammar.sign s.Close} (gives_nothing (e.Unary f a) (bounded_unary f a ∙ p)))))

  function_of_two : (k : ℕ) → Gives B (grammar.function_of_two X k)
  function_of_two k = gives_then (gives_any {X = grammar.class _}) (λ f _. gives_then (gives_any {X = grammar.opening s.Open k}) (λ inner _.
      gives_then (inside (Whole inner)) (λ a p. gives_behind {X = grammar.sign s.Comma} (gives_then (inside (Whole inner)) (λ b q.
      gives_behind {X = grammar.sign s.Close} (gives_nothing (e.Binary f a b) (two f a b p q)))))))

  primary : (k : ℕ) → Gives B (grammar.primary X k)
  primary k = gives_either number (gives_either input (gives_either (group k) (gives_either (vector k) (gives_either (function_of_one k) (function_of_two k)))))

  postfix : (k : ℕ) → Gives B (grammar.postfix X k)
  postfix k = gives_then (primary k) (λ a p. gives_more B Any (λ found. grammar.part) e.Part (λ found q. record { only = λ ts n h. bounded_part found n ∙ q }) a p)

  signed : (k : ℕ) → Gives B (grammar.signed X k)
  signed k = gives_either (gives_then (gives_any {X = grammar.class prefix}) (λ o _. gives_then (inside (Signed k)) (λ a p. gives_nothing (e.Unary o a) (bounded_unary o a ∙ p)))) (postfix k)

  branches : (k : ℕ) (c : Expression) → B c → Gives B (grammar.branches X k c)
  branches k c r = gives_behind {X = grammar.sign s.Question} (gives_then (inside (Whole k)) (λ a p.
      gives_behind {X = grammar.sign s.Colon} (gives_then (inside (Whole k)) (λ b q. gives_nothing (e.Choice c a b) (bounded_choice c a b ∙ and_true r (and_true p q))))))

  whole : (k : ℕ) → Gives B (grammar.whole X k)
  whole k = gives_then (disjunction (grammar.signed X k) (signed k)) (λ c r. gives_either (branches k c r) (gives_nothing c r))

  production : (p : Part) → Gives B (grammar.production X p)
  production (Whole k) = whole k
  production (Signed k) = signed k

nested : (steps : ℕ) (p : Part) → Gives B (grammar.nested steps p)
unfolding grammar.nested
nested zero p = number
nested (suc steps) p = production (grammar.nested steps) (nested steps) p

-- an expression that a text is
pub text_bounded : (s : Tokens) (x : Expression) → IsText grammar.expression s x → is_bounded x ≡ true
text_bounded s x h = (nested h.derived.0 (Whole 64)).only s.tokens x h.derived.1
