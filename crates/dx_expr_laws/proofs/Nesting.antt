-- Rules that speak of themselves: however deep an expression nests, the number of its tokens bounds the steps that
-- reading it takes, so that the grammar with no bound on steps is read.
use Rattle.std.proofs.Common.{◌≡◌, ℕ, zero, suc, ◌+◌, ◌<◌, ◌≤◌, List, [], ◌∷◌, ◌++◌, ◌⊎◌, length, Some, inl, inr, Ok, Err, refl, sym, ap, subst, ◌∙◌, arith}
use Rattle.std.proofs.lemmas.List.{append_cancel_right}
use Rattle.dx_expr_grammar.specs.declared.token.Token.{Token}
use Rattle.dx_expr_grammar.specs.declared.token.Sign.{Sign}
use Rattle.dx_expr_grammar.specs.declared.token.Sign.TheVariants as s
use Rattle.dx_expr_grammar.specs.declared.tree.Unary.TheVariants as unary
use Rattle.dx_expr_grammar.specs.declared.tree.Binary.{Binary}
use Rattle.dx_expr_grammar.specs.declared.tree.Binary.TheVariants as binary
use Rattle.dx_expr_grammar.specs.declared.tree.Level.{Level}
use Rattle.dx_expr_grammar.specs.declared.tree.Level.TheVariants as level
use Rattle.dx_expr_grammar.specs.declared.tree.Expression.{Expression}
use Rattle.dx_grammar.specs.Rule.{Begins, snoc}
use Rattle.dx_grammar.specs.Stream.{own, pure}
use Rattle.dx_grammar.proofs.Read.{Any, Alike, Took, Refused, before}
use Rattle.dx_grammar.proofs.Many.{Shrinks}
use Rattle.dx_grammar.proofs.Laws.{where_less, less, fills, check}
use Rattle.dx_expr_grammar.specs.Tokens.{Tokens}
use Rattle.dx_expr_grammar.specs.Words.{misfit, operator_at, prefix, one_operand, two_operands}
use Rattle.dx_expr_grammar.specs.Grammar as grammar
use Rattle.dx_expr_grammar.specs.Grammar.{Rule, Part, Whole, Signed, joined}
use Rattle.dx_expr_grammar.specs.Reading as reading
use Rattle.dx_expr_grammar.specs.Reading.{Parser, sees, sees_digits, sees_class}
use Rattle.dx_expr_laws.proofs.Classes.{Reads, sign, class}
use Rattle.dx_expr_laws.proofs.Productions as productions
use Rattle.dx_expr_laws.proofs.Productions.{After, AfterSigned}
use Rattle.dx_expr_laws.proofs.Agreement.{Agree, keeps, agree_less, agree_refl, agree_then, agree_behind, agree_choose, agree_while}
use Rattle.dx_expr_laws.proofs.Wider.{Wider, wider_refl, wider_trans, wider_then, wider_either, wider_left, wider_right, wider_more, wider_alone}

-- ---- the parsers of a production agree where those of its parts do

sign_shrinks : (x : Sign) → Shrinks (reading.sign x)
sign_shrinks x = less (sign x) fills

opening_shrinks : (x : Sign) (k : ℕ) → Shrinks (reading.opening x k)
opening_shrinks x k = less (productions.opening x k) (productions.opening_fills x k)

module _ (n : ℕ) (X : Part → Rule Expression) (P Q : Part → Parser Expression) (reads : (p : Part) → Reads (X p) (P p) (After p)) (same : (p : Part) → Agree n (P p) (Q p)) where
  group_agree : (k : ℕ) → Agree (suc n) (reading.group P k) (reading.group Q k)
  unfolding reading.group
  group_agree k = agree_behind (opening_shrinks s.Open k) (λ inner. agree_then (keeps (reads (Whole inner))) (same (Whole inner)) (λ a. agree_refl))

  next_agree : (k : ℕ) (found : List Expression) → Agree (suc n) (reading.next_part P k found) (reading.next_part Q k found)
  unfolding reading.next_part
  next_agree k found = agree_behind (sign_shrinks s.Comma) (λ at. agree_then (keeps (check {misfit = misfit} _ _ {Stop = Any})) agree_refl (λ _. same (Whole k)))

  vector_agree : (k : ℕ) → Agree (suc n) (reading.vector P k) (reading.vector Q k)
  unfolding reading.vector
  vector_agree k = agree_behind (opening_shrinks s.OpenVector k) (λ inner. agree_then (keeps (reads (Whole inner))) (same (Whole inner)) (λ a.
      agree_then (keeps (productions.next_parts X P reads inner a)) (agree_while _ _ (λ found. keeps (productions.next_part X P reads inner found)) (λ found. agree_less (next_agree inner found)) (a ∷ [])) (λ found. agree_refl)))

  one_agree : (k : ℕ) → Agree (suc n) (reading.function_of_one P k) (reading.function_of_one Q k)
  unfolding reading.function_of_one
  one_agree k = agree_behind (less (class one_operand s.Abs unary.Absolute refl) fills) (λ f. agree_then (keeps (productions.opening s.Open k)) agree_refl (λ inner. agree_then (keeps (reads (Whole inner))) (same (Whole inner)) (λ a. agree_refl)))

  two_agree : (k : ℕ) → Agree (suc n) (reading.function_of_two P k) (reading.function_of_two Q k)
  unfolding reading.function_of_two
  two_agree k = agree_behind (less (class two_operands s.Min binary.Minimum refl) fills) (λ f. agree_then (keeps (productions.opening s.Open k)) agree_refl (λ inner.
      agree_then (keeps (reads (Whole inner))) (same (Whole inner)) (λ a. agree_then (keeps (sign s.Comma)) agree_refl (λ _. agree_then (keeps (reads (Whole inner))) (same (Whole inner)) (λ b. agree_refl)))))

  primary_agree : (k : ℕ) → Agree (suc n) (reading.primary P k) (reading.primary Q k)
  unfolding reading.primary
  primary_agree k =
      agree_choose sees_digits (agree_refl {P = reading.number})
      (agree_choose (sees s.Dollar) (agree_refl {P = reading.input})
      (agree_choose (sees s.Open) (group_agree k)
      (agree_choose (sees s.OpenVector) (vector_agree k)
      (agree_choose (sees_class one_operand) (one_agree k) (two_agree k)))))

  postfix_agree : (k : ℕ) → Agree (suc n) (reading.postfix P k) (reading.postfix Q k)
  unfolding reading.postfix
  postfix_agree k = agree_then (keeps (productions.primary X P reads k)) (primary_agree k) (λ a. agree_refl)

  signed_agree : (k : ℕ) → Agree (suc n) (reading.signed P k) (reading.signed Q k)
  unfolding reading.signed
  signed_agree k = agree_choose (sees_class prefix) (agree_behind (less (class prefix s.Minus unary.Negate refl) fills) (λ o. agree_then (keeps (reads (Signed k))) (same (Signed k)) (λ a. agree_refl))) (postfix_agree k)

-- operands with operators between them
module _ {n : ℕ} {X : Rule Expression} {P Q : Parser Expression} {Mid : Tokens → Type 0} (l : Level) (known : Sign) (o : Binary) (is : operator_at l known ≡ Some o) (operand : Reads X P Mid) (right : Reads (grammar.right_side l X) (reading.right_side l P) Mid) (same : Agree n P Q) where
  right_agree : Agree n (reading.right_side l P) (reading.right_side l Q)
  unfolding reading.right_side
  right_agree = agree_then (keeps (class (operator_at l) known o is)) agree_refl (λ o. agree_then (keeps operand) same (λ b. agree_refl))

  chain_agree : Agree n (reading.chain l P) (reading.chain l Q)
  unfolding reading.chain
  chain_agree = agree_then (keeps operand) same (λ a. agree_while (sees_class (operator_at l)) joined (λ found. keeps right) (λ found. right_agree) a)

  once_agree : Agree n (reading.once l P) (reading.once l Q)
  unfolding reading.once
  once_agree = agree_then (keeps operand) same (λ a. agree_choose (sees_class (operator_at l)) (agree_then (keeps right) right_agree (λ p. agree_refl)) (agree_refl {P = pure a}))

module _ {n : ℕ} {X : Rule Expression} {P Q : Parser Expression} (signed : Reads X P AfterSigned) (same : Agree n P Q) where
  product_agree : Agree n (reading.chain level.Product (reading.operand P level.Product)) (reading.chain level.Product (reading.operand Q level.Product))
  product_agree = chain_agree level.Product s.Times binary.Multiply refl signed (productions.right_of_product signed) same

  sum_agree : Agree n (reading.chain level.Sum (reading.operand P level.Sum)) (reading.chain level.Sum (reading.operand Q level.Sum))
  sum_agree = chain_agree level.Sum s.Plus binary.Add refl (productions.product signed) (productions.right_of_sum signed) product_agree

  relation_agree : Agree n (reading.once level.Relation (reading.operand P level.Relation)) (reading.once level.Relation (reading.operand Q level.Relation))
  relation_agree = once_agree level.Relation s.Less binary.Less refl (productions.sum signed) (productions.right_of_relation signed) sum_agree

  equality_agree : Agree n (reading.once level.Equality (reading.operand P level.Equality)) (reading.once level.Equality (reading.operand Q level.Equality))
  equality_agree = once_agree level.Equality s.Equal binary.Equal refl (productions.relation signed) (productions.right_of_equality signed) relation_agree

  conjunction_agree : Agree n (reading.chain level.And (reading.operand P level.And)) (reading.chain level.And (reading.operand Q level.And))
  conjunction_agree = chain_agree level.And s.And binary.And refl (productions.equality signed) (productions.right_of_conjunction signed) equality_agree

  disjunction_agree : Agree n (reading.chain level.Or (reading.operand P level.Or)) (reading.chain level.Or (reading.operand Q level.Or))
  disjunction_agree = chain_agree level.Or s.Or binary.Or refl (productions.conjunction signed) (productions.right_of_disjunction signed) conjunction_agree

module _ (n : ℕ) (X : Part → Rule Expression) (P Q : Part → Parser Expression) (reads : (p : Part) → Reads (X p) (P p) (After p)) (same : (p : Part) → Agree n (P p) (Q p)) where
  branches_agree : (k : ℕ) (condition : Expression) → Agree (suc n) (reading.branches P k condition) (reading.branches Q k condition)
  unfolding reading.branches
  branches_agree k condition = agree_behind (sign_shrinks s.Question) (λ _.
      agree_then (keeps (reads (Whole k))) (same (Whole k)) (λ a. agree_then (keeps (sign s.Colon)) agree_refl (λ _. agree_then (keeps (reads (Whole k))) (same (Whole k)) (λ b. agree_refl))))

  whole_agree : (k : ℕ) → Agree (suc n) (reading.whole P k) (reading.whole Q k)
  unfolding reading.whole
  whole_agree k = agree_then (keeps (productions.disjunction (productions.signed X P reads k))) (disjunction_agree (productions.signed X P reads k) (signed_agree n X P Q reads same k))
      (λ condition. agree_choose (sees s.Question) (branches_agree k condition) (agree_refl {P = pure condition}))

  production_agree : (p : Part) → Agree (suc n) (reading.production P p) (reading.production Q p)
  production_agree (Whole k) = whole_agree k
  production_agree (Signed k) = signed_agree n X P Q reads same k

-- ---- some steps

nested_reads : (n : ℕ) (p : Part) → Reads (grammar.nested n p) (reading.nested n p) (After p)
unfolding grammar.nested reading.nested
nested_reads zero p = where_less (λ u h. tt) productions.number
nested_reads (suc n) p = productions.production (grammar.nested n) (reading.nested n) (nested_reads n) p

nested_agree : (n m : ℕ) → n ≤ m → (p : Part) → Agree n (reading.nested n p) (reading.nested m p)
unfolding reading.nested
nested_agree zero m h p = record { same = λ s short. absurd (omega arith) }
nested_agree (suc n) zero h p = absurd (omega arith)
nested_agree (suc n) (suc m) h p = production_agree n (grammar.nested n) (reading.nested n) (reading.nested m) (nested_reads n) (nested_agree n m (omega arith)) p

-- more steps read the same
pub enough : (m : ℕ) (p : Part) (s : Tokens) → length s.tokens < m → reading.reading p s ≡ reading.nested m p s
unfolding reading.reading
enough m p s h = (nested_agree (suc (length s.tokens)) m (omega arith) p).same s (omega arith)

-- reading a part goes by its production
pub reading_next : (p : Part) (s : Tokens) → reading.reading p s ≡ reading.production reading.reading p s
unfolding reading.reading reading.nested
reading_next p s =
    (production_agree (length s.tokens) (grammar.nested (length s.tokens)) (reading.nested (length s.tokens)) reading.reading (nested_reads (length s.tokens))
    (λ q. record { same = λ u short. sym (enough (length s.tokens) q u short) }) p).same s (omega arith)

pub whole_next : (k : ℕ) (s : Tokens) → reading.reading (Whole k) s ≡ reading.whole reading.reading k s
whole_next k s = reading_next (Whole k) s

pub signed_next : (k : ℕ) (s : Tokens) → reading.reading (Signed k) s ≡ reading.signed reading.reading k s
signed_next k s = reading_next (Signed k) s

-- ---- more steps say more

right_wider : {X Y : Rule Expression} (l : Level) → Wider X Y → Wider (grammar.right_side l X) (grammar.right_side l Y)
right_wider l w = wider_then wider_refl (λ o. wider_then w (λ b. wider_refl))

chain_wider : {X Y : Rule Expression} (l : Level) → Wider X Y → Wider (grammar.chain l X) (grammar.chain l Y)
chain_wider l w = wider_then w (λ a. wider_more {add = joined} (λ found. right_wider l w) a)

once_wider : {X Y : Rule Expression} (l : Level) → Wider X Y → Wider (grammar.once l X) (grammar.once l Y)
once_wider l w = wider_then w (λ a. wider_either (wider_then (right_wider l w) (λ p. wider_refl)) wider_refl)

disjunction_wider : {X Y : Rule Expression} → Wider X Y → Wider (grammar.disjunction X) (grammar.disjunction Y)
disjunction_wider w = chain_wider level.Or (chain_wider level.And (once_wider level.Equality (once_wider level.Relation (chain_wider level.Sum (chain_wider level.Product w)))))

module _ (X Y : Part → Rule Expression) (w : (p : Part) → Wider (X p) (Y p)) where
  next_wider : (k : ℕ) (found : List Expression) → Wider (grammar.next_part X k found) (grammar.next_part Y k found)
  next_wider k found = wider_then wider_refl (λ at. wider_then wider_refl (λ _. w (Whole k)))

  primary_wider : (k : ℕ) → Wider (grammar.primary X k) (grammar.primary Y k)
  primary_wider k =
      wider_either wider_refl (wider_either wider_refl
      (wider_either (wider_then wider_refl (λ inner. wider_then (w (Whole inner)) (λ a. wider_refl)))
      (wider_either (wider_then wider_refl (λ inner. wider_then (w (Whole inner)) (λ a. wider_then (wider_more {add = snoc} (next_wider inner) (a ∷ [])) (λ found. wider_refl))))
      (wider_either (wider_then wider_refl (λ f. wider_then wider_refl (λ inner. wider_then (w (Whole inner)) (λ a. wider_refl))))
      (wider_then wider_refl (λ f. wider_then wider_refl (λ inner. wider_then (w (Whole inner)) (λ a. wider_then wider_refl (λ _. wider_then (w (Whole inner)) (λ b. wider_refl))))))))))

  signed_wider : (k : ℕ) → Wider (grammar.signed X k) (grammar.signed Y k)
  signed_wider k = wider_either (wider_then wider_refl (λ o. wider_then (w (Signed k)) (λ a. wider_refl))) (wider_then (primary_wider k) (λ a. wider_refl))

  branches_wider : (k : ℕ) (condition : Expression) → Wider (grammar.branches X k condition) (grammar.branches Y k condition)
  branches_wider k condition = wider_then wider_refl (λ _. wider_then (w (Whole k)) (λ a. wider_then wider_refl (λ _. wider_then (w (Whole k)) (λ b. wider_refl))))

  production_wider : (p : Part) → Wider (grammar.production X p) (grammar.production Y p)
  production_wider (Whole k) = wider_then (disjunction_wider (signed_wider k)) (λ condition. wider_either (branches_wider k condition) wider_refl)
  production_wider (Signed k) = signed_wider k

-- a number is a signed operand and a whole expression
chain_alone : (X : Rule Expression) (l : Level) → Wider X (grammar.chain l X)
chain_alone X l = wider_alone X _ (λ a. ([], refl, refl))

once_alone : (X : Rule Expression) (l : Level) → Wider X (grammar.once l X)
once_alone X l = wider_alone X _ (λ a. inr (refl, refl))

number_signed : (X : Part → Rule Expression) (k : ℕ) → Wider grammar.number (grammar.signed X k)
number_signed X k = wider_trans (wider_trans wider_left (wider_alone (grammar.primary X k) _ (λ a. ([], refl, refl)))) wider_right

number_production : (X : Part → Rule Expression) (p : Part) → Wider grammar.number (grammar.production X p)
number_production X (Signed k) = number_signed X k
number_production X (Whole k) =
    let signed = grammar.signed X k in
    wider_trans (number_signed X k)
    (wider_trans (chain_alone _ level.Product) (wider_trans (chain_alone _ level.Sum) (wider_trans (once_alone _ level.Relation) (wider_trans (once_alone _ level.Equality)
    (wider_trans (chain_alone _ level.And) (wider_trans (chain_alone _ level.Or) (wider_alone (grammar.disjunction (grammar.signed X k)) _ (λ a. inr (refl, refl)))))))))

step_wider : (n : ℕ) (p : Part) → Wider (grammar.nested n p) (grammar.nested (suc n) p)
unfolding grammar.nested
step_wider zero p = number_production (grammar.nested zero) p
step_wider (suc n) p = production_wider (grammar.nested n) (grammar.nested (suc n)) (step_wider n) p

steps_wider : (more n : ℕ) (p : Part) → Wider (grammar.nested n p) (grammar.nested (more + n) p)
steps_wider zero n p = subst (λ m. Wider (grammar.nested n p) (grammar.nested m p)) (let e : n ≡ 0 + n = omega arith in e) wider_refl
steps_wider (suc more) n p = subst (λ m. Wider (grammar.nested n p) (grammar.nested m p)) (let e : suc (more + n) ≡ suc more + n = omega arith in e) (wider_trans (steps_wider more n p) (step_wider (more + n) p))

-- ---- any number of steps

module _ (p : Part) where
  -- what was taken of a stream is found by more steps too
  took : (s : Tokens) (a : Expression) (s' : Tokens) → reading.reading p s ≡ Ok (a, s') → Took (grammar.grammar p) (reading.reading p) s a s'
  took s a s' e = record {
    front = t.front;
    parts = t.parts;
    derived = (suc (length s.tokens), t.derived);
    local = λ u same. local u same;
  }
    where
      by : (m : ℕ) → length s.tokens < m → Took (grammar.nested m p) (reading.nested m p) s a s'
      by m h = (nested_reads m p).took s a s' (sym (enough m p s h) ∙ e)

      t : Took (grammar.nested (suc (length s.tokens)) p) (reading.nested (suc (length s.tokens)) p) s a s'
      t = by (suc (length s.tokens)) (omega arith)

      fronts : (m : ℕ) (h : length s.tokens < m) → (by m h).front ≡ t.front
      fronts m h = append_cancel_right (by m h).front t.front s'.tokens (sym (ap (λ (x : Tokens). x.tokens) (by m h).parts) ∙ ap (λ (x : Tokens). x.tokens) t.parts)

      local : (u : Tokens) → Alike s' u → reading.reading p (before t.front u) ≡ Ok (a, u)
      local u same =
          let m = suc (length s.tokens) + suc (length (t.front ++ u.tokens)) in
          let h : length s.tokens < m = omega arith in
          let g : length (t.front ++ u.tokens) < m = omega arith in
          enough m p (before t.front u) g ∙ ap (λ l. reading.nested m p (before l u)) (sym (fronts m h)) ∙ (by m h).local u same

  begun : (n : ℕ) (front : List Token) → Begins (grammar.nested n p) front → Begins (grammar.grammar p) front
  begun n front (inl (rest, a, d)) = inl (rest, a, (n, d))
  begun n front (inr (rest, f, d)) = inr (rest, f, (n, d))

  faulty : (n : ℕ) (front : List Token) (f : ℕ) (s' : Tokens) → (f ≡ own misfit s') ⊎ (grammar.nested n p).forbids front f → (f ≡ own misfit s') ⊎ (grammar.grammar p).forbids front f
  faulty n front f s' (inl e) = inl e
  faulty n front f s' (inr d) = inr (n, d)

  refused : (s : Tokens) (f : ℕ) (s' : Tokens) → reading.reading p s ≡ Err (f, s') → Refused misfit (grammar.grammar p) (reading.reading p) s f s'
  refused s f s' e = record {
    front = r.front;
    parts = r.parts;
    begins = begun (suc (length s.tokens)) r.front r.begins;
    fault = faulty (suc (length s.tokens)) r.front f s' r.fault;
    local = λ u same. local u same;
  }
    where
      by : (m : ℕ) → length s.tokens < m → Refused misfit (grammar.nested m p) (reading.nested m p) s f s'
      by m h = (nested_reads m p).refused s f s' (sym (enough m p s h) ∙ e)

      r : Refused misfit (grammar.nested (suc (length s.tokens)) p) (reading.nested (suc (length s.tokens)) p) s f s'
      r = by (suc (length s.tokens)) (omega arith)

      fronts : (m : ℕ) (h : length s.tokens < m) → (by m h).front ≡ r.front
      fronts m h = append_cancel_right (by m h).front r.front s'.tokens (sym (ap (λ (x : Tokens). x.tokens) (by m h).parts) ∙ ap (λ (x : Tokens). x.tokens) r.parts)

      local : (u : Tokens) → Alike s' u → reading.reading p (before r.front u) ≡ Err (f, u)
      local u same =
          let m = suc (length s.tokens) + suc (length (r.front ++ u.tokens)) in
          let h : length s.tokens < m = omega arith in
          let g : length (r.front ++ u.tokens) < m = omega arith in
          enough m p (before r.front u) g ∙ ap (λ l. reading.nested m p (before l u)) (sym (fronts m h)) ∙ (by m h).local u same

  takes : (ts : List Token) (a : Expression) → (grammar.grammar p).is ts a → (u : Tokens) → After p u → reading.reading p (before ts u) ≡ Ok (a, u)
  takes ts a (n, d) u stop =
      let m = suc (length (ts ++ u.tokens)) + n in
      enough m p (before ts u) (omega arith) ∙ (nested_reads m p).takes ts a ((steps_wider (suc (length (ts ++ u.tokens))) n p).is ts a d) u stop

  forbids : (ts : List Token) (f : ℕ) → (grammar.grammar p).forbids ts f → (u : Tokens) → reading.reading p (before ts u) ≡ Err (f, u)
  forbids ts f (n, d) u =
      let m = suc (length (ts ++ u.tokens)) + n in
      enough m p (before ts u) (omega arith) ∙ (nested_reads m p).forbids ts f ((steps_wider (suc (length (ts ++ u.tokens))) n p).forbids ts f d) u

  -- the grammar with no bound on steps is read
  pub reads : Reads (grammar.grammar p) (reading.reading p) (After p)
  reads = record { some = begun 0 [] (nested_reads 0 p).some; took = took; refused = refused; takes = takes; forbids = forbids }
