-- Each production of the grammar is read, where the parts of the grammar are.
use Rattle.std.proofs.Common.{◌≡◌, ℕ, zero, suc, Bool, true, false, not, ◌&&◌, eqb, List, [], ◌∷◌, Option, Some, None, refl, ap, ◌∙◌}
use Rattle.std.specs.Prelude.{is_some, if◌then◌else◌}
use Rattle.std.proofs.lemmas.Bool.{eqb-true}
use Rattle.dx_expr_grammar.specs.declared.token.Sign.{Sign}
use Rattle.dx_expr_grammar.specs.declared.token.Sign.TheVariants as s
use Rattle.dx_expr_grammar.specs.declared.tree.Unary.TheVariants as unary
use Rattle.dx_expr_grammar.specs.declared.tree.Binary.{Binary}
use Rattle.dx_expr_grammar.specs.declared.tree.Binary.TheVariants as binary
use Rattle.dx_expr_grammar.specs.declared.tree.Level.{Level}
use Rattle.dx_expr_grammar.specs.declared.tree.Level.TheVariants as level
use Rattle.dx_expr_grammar.specs.declared.tree.Expression.{Expression}
use Rattle.dx_expr_grammar.specs.declared.tree.Expression.TheVariants as e
use Rattle.dx_grammar.specs.Stream.{while}
use Rattle.dx_grammar.specs.Rule.{more, snoc}
use Rattle.dx_grammar.proofs.Read.{Any, Opens}
use Rattle.dx_grammar.proofs.Many.{Past}
use Rattle.dx_grammar.proofs.Compose.{Fills}
use Rattle.dx_grammar.proofs.Laws.{done, check, refuses, next, after, either, loop, first, second, both, nothing_more, ends, anything, twice, more_opens, fills, fills_first}
use Rattle.dx_expr_grammar.specs.Tokens.{Tokens}
use Rattle.dx_expr_grammar.specs.Words.{code, is_sign_in, rank, of_level, operator, operator_at, prefix, one_operand, two_operands}
use Rattle.dx_expr_grammar.specs.Grammar as grammar
use Rattle.dx_expr_grammar.specs.Grammar.{Rule, Part, Whole, Signed, joined}
use Rattle.dx_expr_grammar.specs.Reading as reading
use Rattle.dx_expr_grammar.specs.Reading.{Parser, sees, sees_digits, sees_class}
use Rattle.dx_expr_laws.proofs.Classes.{Reads, sees_near, digits_near, class_near, sign_has, sign_lacks, class_lacks, digits_digits, sign_digits, class_digits, class_has, sign_unlike, digits_unlike, class_unlike, opens_class, in_class, each_sign, apart, sign, digits, class}

-- ---- what may follow

-- no part of a vector is taken
abbrev pub AfterSigned : Tokens → Type 0
AfterSigned = Past (sees s.Dot) Any

abbrev pub AfterProduct : Tokens → Type 0
AfterProduct = Past (sees_class (operator_at level.Product)) AfterSigned

abbrev pub AfterSum : Tokens → Type 0
AfterSum = Past (sees_class (operator_at level.Sum)) AfterProduct

abbrev pub AfterRelation : Tokens → Type 0
AfterRelation = Past (sees_class (operator_at level.Relation)) AfterSum

abbrev pub AfterEquality : Tokens → Type 0
AfterEquality = Past (sees_class (operator_at level.Equality)) AfterRelation

abbrev pub AfterConjunction : Tokens → Type 0
AfterConjunction = Past (sees_class (operator_at level.And)) AfterEquality

abbrev pub AfterDisjunction : Tokens → Type 0
AfterDisjunction = Past (sees_class (operator_at level.Or)) AfterConjunction

-- no operator and no `?` either
abbrev pub AfterWhole : Tokens → Type 0
AfterWhole = Past (sees s.Question) AfterDisjunction

abbrev pub After : Part → Tokens → Type 0
After (Whole brackets) = AfterWhole
After (Signed brackets) = AfterSigned

no_level : (l : Level) (o : Option (Level × Binary)) → is_some o ≡ false → is_some (of_level l o) ≡ false
no_level l None h = refl
no_level l (Some o) h = absurd cc

-- a sign that is no operator
stops_disjunction : (x : Sign) → is_some (operator x) ≡ false → eqb (code x) (code s.Dot) ≡ false → Opens (grammar.sign x) Any AfterDisjunction
stops_disjunction x none dot =
    let no_operator : (l : Level) → Opens (grammar.sign x) Any (λ u. sees_class (operator_at l) u ≡ false) = λ l. sign_unlike x (operator_at l) (no_level l (operator x) none) in
    twice (no_operator level.Or) (twice (no_operator level.And) (twice (no_operator level.Equality) (twice (no_operator level.Relation) (twice (no_operator level.Sum) (twice (no_operator level.Product) (twice (sign_lacks x s.Dot dot) anything))))))

-- a sign that follows a whole expression
pub closes : (x : Sign) → is_some (operator x) ≡ false → eqb (code x) (code s.Dot) ≡ false → eqb (code x) (code s.Question) ≡ false → Opens (grammar.sign x) Any AfterWhole
closes x none dot question = twice (sign_lacks x s.Question question) (stops_disjunction x none dot)

-- ---- operators

-- an operator of one level is none of another
other_by : (l m : Level) (o : Option (Level × Binary)) (b : Binary) → eqb (rank l) (rank m) ≡ false → of_level l o ≡ Some b → is_some (of_level m o) ≡ false
other_by l m None b apart h = absurd cc
other_by l m (Some (k, c)) b apart h = by (eqb (rank k) (rank l)) refl h
  where
    by : (same : Bool) → eqb (rank k) (rank l) ≡ same → (if same then Some c else None) ≡ Some b → is_some (if eqb (rank k) (rank m) then Some c else None) ≡ false
    by true e g = let v : rank k ≡ rank l = eqb-true (rank k) (rank l) e in ap (λ n. is_some (if eqb n (rank m) then Some c else None)) v ∙ ap (λ t. is_some (if t then Some c else None)) apart
    by false e g = absurd cc

other : (l m : Level) → eqb (rank l) (rank m) ≡ false → Opens (grammar.operator l) Any (λ u. sees_class (operator_at m) u ≡ false)
unfolding sees_class
other l m apart = opens_class (operator_at l) (in_class (operator_at m)) false (λ x o h. other_by l m (operator x) o apart h)

at_level : (l : Level) (x : Sign) (o : Binary) → operator_at l x ≡ Some o → is_some (operator x) ≡ true
at_level l x o h = by (operator x) h
  where
    by : (found : Option (Level × Binary)) → of_level l found ≡ Some o → is_some found ≡ true
    by None g = absurd cc
    by (Some p) g = refl

operator_no_dot : (l : Level) → Opens (grammar.operator l) Any AfterSigned
unfolding sees
operator_no_dot l = twice (opens_class (operator_at l) (is_sign_in s.Dot) false (λ x o h. apart (is_some (operator x)) (eqb (code x) (code s.Dot)) (each_sign (λ x. not (is_some (operator x) && eqb (code x) (code s.Dot))) refl x) (at_level l x o h))) anything

-- ---- operands

pub number : Reads grammar.number reading.number Any
unfolding reading.number
number = next (digits 2147483647) (λ n. done)

pub input : Reads grammar.input reading.input Any
unfolding reading.input
input = next (sign s.Dollar) (λ _. next (digits 20) (λ k. done))

pub part : Reads grammar.part reading.part Any
unfolding reading.part
part = next (sign s.Dot) (λ _. digits 255)

pub parts : (a : Expression) → Reads (more (λ found. grammar.part) e.Part a) (reading.parts a) AfterSigned
unfolding reading.parts
parts a = loop {add = e.Part} (sees_near s.Dot) (λ found. part) (λ found. fills_first fills) (λ found. first (sign_has s.Dot)) (λ found. anything) a

-- ---- operators between operands

module _ {X : Rule Expression} {P : Parser Expression} {Mid : Tokens → Type 0} (l : Level) (known : Sign) (o : Binary) (is : operator_at l known ≡ Some o) (follows : Opens (grammar.operator l) Any Mid) (operand : Reads X P Mid) where
  right_side : Reads (grammar.right_side l X) (reading.right_side l P) Mid
  unfolding reading.right_side
  right_side = next (class (operator_at l) known o is) (λ o. after operand (λ b. nothing_more) (λ b. done))

  chain : Reads (grammar.chain l X) (reading.chain l P) (Past (sees_class (operator_at l)) Mid)
  unfolding reading.chain
  chain = after operand
      (λ a. more_opens {X = λ found. grammar.right_side l X} {add = joined} (λ found. first follows) (λ u h. h.1) (λ u h. h.1) (λ found. first follows) a)
      (λ a. loop {add = joined} (class_near (operator_at l)) (λ found. right_side) (λ found. fills_first fills) (λ found. first (class_has (operator_at l))) (λ found. first follows) a)

  once : Reads (grammar.once l X) (reading.once l P) (Past (sees_class (operator_at l)) Mid)
  unfolding reading.once
  once = after operand
      (λ a. both (first (first follows)) (ends (λ u h. h.1)))
      (λ a. either (class_near (operator_at l)) (first (first (class_has (operator_at l))))
      (after right_side (λ p. ends (λ u h. h.1)) (λ p. done))
      (ends (λ u h. h.0)) done)

-- what follows an operand is an operator of a looser level, or none
at_product : Opens (grammar.operator level.Product) Any AfterSigned
at_product = operator_no_dot level.Product

at_sum : Opens (grammar.operator level.Sum) Any AfterProduct
at_sum = twice (other level.Sum level.Product refl) (operator_no_dot level.Sum)

at_relation : Opens (grammar.operator level.Relation) Any AfterSum
at_relation = twice (other level.Relation level.Sum refl) (twice (other level.Relation level.Product refl) (operator_no_dot level.Relation))

at_equality : Opens (grammar.operator level.Equality) Any AfterRelation
at_equality = twice (other level.Equality level.Relation refl) (twice (other level.Equality level.Sum refl) (twice (other level.Equality level.Product refl) (operator_no_dot level.Equality)))

at_conjunction : Opens (grammar.operator level.And) Any AfterEquality
at_conjunction = twice (other level.And level.Equality refl) (twice (other level.And level.Relation refl) (twice (other level.And level.Sum refl) (twice (other level.And level.Product refl) (operator_no_dot level.And))))

at_disjunction : Opens (grammar.operator level.Or) Any AfterConjunction
at_disjunction = twice (other level.Or level.And refl) (twice (other level.Or level.Equality refl) (twice (other level.Or level.Relation refl) (twice (other level.Or level.Sum refl) (twice (other level.Or level.Product refl) (operator_no_dot level.Or)))))

module _ {X : Rule Expression} {P : Parser Expression} (signed : Reads X P AfterSigned) where
  pub right_of_product : Reads (grammar.right_side level.Product (X)) (reading.right_side level.Product (reading.operand P level.Product)) AfterSigned
  right_of_product = right_side level.Product s.Times binary.Multiply refl at_product signed

  pub product : Reads (grammar.product X) (reading.chain level.Product (reading.operand P level.Product)) AfterProduct
  product = chain level.Product s.Times binary.Multiply refl at_product signed

  pub right_of_sum : Reads (grammar.right_side level.Sum (grammar.product X)) (reading.right_side level.Sum (reading.operand P level.Sum)) AfterProduct
  right_of_sum = right_side level.Sum s.Plus binary.Add refl at_sum product

  pub sum : Reads (grammar.sum X) (reading.chain level.Sum (reading.operand P level.Sum)) AfterSum
  sum = chain level.Sum s.Plus binary.Add refl at_sum product

  pub right_of_relation : Reads (grammar.right_side level.Relation (grammar.sum X)) (reading.right_side level.Relation (reading.operand P level.Relation)) AfterSum
  right_of_relation = right_side level.Relation s.Less binary.Less refl at_relation sum

  pub relation : Reads (grammar.relation X) (reading.once level.Relation (reading.operand P level.Relation)) AfterRelation
  relation = once level.Relation s.Less binary.Less refl at_relation sum

  pub right_of_equality : Reads (grammar.right_side level.Equality (grammar.relation X)) (reading.right_side level.Equality (reading.operand P level.Equality)) AfterRelation
  right_of_equality = right_side level.Equality s.Equal binary.Equal refl at_equality relation

  pub equality : Reads (grammar.equality X) (reading.once level.Equality (reading.operand P level.Equality)) AfterEquality
  equality = once level.Equality s.Equal binary.Equal refl at_equality relation

  pub right_of_conjunction : Reads (grammar.right_side level.And (grammar.equality X)) (reading.right_side level.And (reading.operand P level.And)) AfterEquality
  right_of_conjunction = right_side level.And s.And binary.And refl at_conjunction equality

  pub conjunction : Reads (grammar.conjunction X) (reading.chain level.And (reading.operand P level.And)) AfterConjunction
  conjunction = chain level.And s.And binary.And refl at_conjunction equality

  pub right_of_disjunction : Reads (grammar.right_side level.Or (grammar.conjunction X)) (reading.right_side level.Or (reading.operand P level.Or)) AfterConjunction
  right_of_disjunction = right_side level.Or s.Or binary.Or refl at_disjunction conjunction

  pub disjunction : Reads (grammar.disjunction X) (reading.chain level.Or (reading.operand P level.Or)) AfterDisjunction
  disjunction = chain level.Or s.Or binary.Or refl at_disjunction conjunction

-- ---- brackets

pub opening : (x : Sign) (k : ℕ) → Reads (grammar.opening x k) (reading.opening x k) Any
unfolding grammar.opening reading.opening
opening x zero = next (sign x) (λ at. refuses)
opening x (suc k) = next (sign x) (λ _. done)

opens_with : {Stop Q : Tokens → Type 0} (x : Sign) → Opens (grammar.sign x) Any Q → (k : ℕ) → Opens (grammar.opening x k) Stop Q
unfolding grammar.opening
opens_with x opens zero = first opens
opens_with x opens (suc k) = first opens

pub opening_fills : (x : Sign) (k : ℕ) → Fills (grammar.opening x k)
unfolding grammar.opening
opening_fills x zero = fills_first fills
opening_fills x (suc k) = fills_first fills

module _ (X : Part → Rule Expression) (P : Part → Parser Expression) (reads : (p : Part) → Reads (X p) (P p) (After p)) where
  pub group : (k : ℕ) → Reads (grammar.group X k) (reading.group P k) Any
  unfolding reading.group
  group k = next (opening s.Open k) (λ inner. after (reads (Whole inner)) (λ a. first (closes s.Close refl refl refl)) (λ a. next (sign s.Close) (λ _. done)))

  pub next_part : (k : ℕ) (found : List Expression) → Reads (grammar.next_part X k found) (reading.next_part P k found) AfterWhole
  unfolding reading.next_part
  next_part k found = next (sign s.Comma) (λ at. next (check _ _) (λ _. reads (Whole k)))

  next_shuts : (k : ℕ) (found : List Expression) → Opens (grammar.next_part X k found) AfterWhole AfterWhole
  next_shuts k found = first (closes s.Comma refl refl refl)

  pub next_parts : (k : ℕ) (a : Expression) → Reads (more (grammar.next_part X k) snoc (a ∷ [])) (while (sees s.Comma) (reading.next_part P k) snoc (a ∷ [])) (Past (sees s.Comma) AfterWhole)
  next_parts k a = loop {add = snoc} (sees_near s.Comma) (next_part k) (λ found. fills_first fills) (λ found. first (sign_has s.Comma)) (next_shuts k) (a ∷ [])

  pub vector : (k : ℕ) → Reads (grammar.vector X k) (reading.vector P k) Any
  unfolding reading.vector
  vector k = next (opening s.OpenVector k) (λ inner. after (reads (Whole inner))
      (λ a. second (more_opens {add = snoc} (next_shuts inner) (λ u h. h.1) (λ u h. h.1) (next_shuts inner) (a ∷ [])) (λ found. first (twice (sign_lacks s.CloseVector s.Comma refl) (closes s.CloseVector refl refl refl))))
      (λ a. after (next_parts inner a) (λ found. first (twice (sign_lacks s.CloseVector s.Comma refl) (closes s.CloseVector refl refl refl))) (λ found. next (sign s.CloseVector) (λ _. done))))

  pub function_of_one : (k : ℕ) → Reads (grammar.function_of_one X k) (reading.function_of_one P k) Any
  unfolding reading.function_of_one
  function_of_one k = next (class one_operand s.Abs unary.Absolute refl) (λ f. next (opening s.Open k) (λ inner. after (reads (Whole inner)) (λ a. first (closes s.Close refl refl refl)) (λ a. next (sign s.Close) (λ _. done))))

  pub function_of_two : (k : ℕ) → Reads (grammar.function_of_two X k) (reading.function_of_two P k) Any
  unfolding reading.function_of_two
  function_of_two k = next (class two_operands s.Min binary.Minimum refl) (λ f. next (opening s.Open k) (λ inner.
      after (reads (Whole inner)) (λ a. first (closes s.Comma refl refl refl)) (λ a. next (sign s.Comma) (λ _.
      after (reads (Whole inner)) (λ b. first (closes s.Close refl refl refl)) (λ b. next (sign s.Close) (λ _. done))))))

  pub primary : (k : ℕ) → Reads (grammar.primary X k) (reading.primary P k) Any
  unfolding reading.primary
  primary k =
      either digits_near (first (digits_digits 2147483647)) number
      (both (first (sign_digits s.Dollar)) (both (first (opens_with s.Open (sign_digits s.Open) k)) (both (first (opens_with s.OpenVector (sign_digits s.OpenVector) k)) (both (first (class_digits one_operand)) (first (class_digits two_operands))))))
      (either (sees_near s.Dollar) (first (sign_has s.Dollar)) input
      (both (first (opens_with s.Open (sign_lacks s.Open s.Dollar refl) k)) (both (first (opens_with s.OpenVector (sign_lacks s.OpenVector s.Dollar refl) k)) (both (first (class_lacks one_operand s.Dollar refl)) (first (class_lacks two_operands s.Dollar refl)))))
      (either (sees_near s.Open) (first (opens_with s.Open (sign_has s.Open) k)) (group k)
      (both (first (opens_with s.OpenVector (sign_lacks s.OpenVector s.Open refl) k)) (both (first (class_lacks one_operand s.Open refl)) (first (class_lacks two_operands s.Open refl))))
      (either (sees_near s.OpenVector) (first (opens_with s.OpenVector (sign_has s.OpenVector) k)) (vector k)
      (both (first (class_lacks one_operand s.OpenVector refl)) (first (class_lacks two_operands s.OpenVector refl)))
      (either (class_near one_operand) (first (class_has one_operand)) (function_of_one k)
      (first (class_unlike two_operands one_operand refl))
      (function_of_two k)))))

  pub postfix : (k : ℕ) → Reads (grammar.postfix X k) (reading.postfix P k) AfterSigned
  unfolding reading.postfix
  postfix k = next (primary k) (λ a. parts a)

  postfix_unlike : (k : ℕ) → Opens (grammar.postfix X k) AfterSigned (λ u. sees_class prefix u ≡ false)
  postfix_unlike k = first (both (first (digits_unlike 2147483647 prefix)) (both (first (sign_unlike s.Dollar prefix refl)) (both (first (opens_with s.Open (sign_unlike s.Open prefix refl) k))
      (both (first (opens_with s.OpenVector (sign_unlike s.OpenVector prefix refl) k)) (both (first (class_unlike one_operand prefix refl)) (first (class_unlike two_operands prefix refl)))))))

  pub signed : (k : ℕ) → Reads (grammar.signed X k) (reading.signed P k) AfterSigned
  unfolding reading.signed
  signed k = either (class_near prefix) (first (class_has prefix)) (next (class prefix s.Minus unary.Negate refl) (λ o. after (reads (Signed k)) (λ a. nothing_more) (λ a. done))) (postfix_unlike k) (postfix k)

  pub branches : (k : ℕ) (condition : Expression) → Reads (grammar.branches X k condition) (reading.branches P k condition) AfterWhole
  unfolding reading.branches
  branches k condition = next (sign s.Question) (λ _. after (reads (Whole k)) (λ a. first (closes s.Colon refl refl refl)) (λ a. next (sign s.Colon) (λ _. after (reads (Whole k)) (λ b. nothing_more) (λ b. done))))

  pub whole : (k : ℕ) → Reads (grammar.whole X k) (reading.whole P k) AfterWhole
  unfolding reading.whole
  whole k = after (disjunction (signed k)) (λ condition. both (first (stops_disjunction s.Question refl refl)) (ends (λ u h. h.1)))
      (λ condition. either (sees_near s.Question) (first (sign_has s.Question)) (branches k condition) (ends (λ u h. h.0)) done)

  pub production : (p : Part) → Reads (grammar.production X p) (reading.production P p) (After p)
  production (Whole k) = whole k
  production (Signed k) = signed k
