-- The values of an expression x that is of some kind, by those of its parts, each of which may be given in other words.
use Rattle.std.proofs.Common.{◌≡◌, ℕ, zero, suc, ℤ, pos, negsuc, true, false, List, [], ◌∷◌, Result, Ok, Err, refl, sym, ap, subst, ◌∙◌, arith}
use Rattle.std.specs.Prelude.{IfOk, if◌then◌else◌}
use Rattle.std.proofs.lemmas.Int.{ints}
use Rattle.dx_expr_grammar.specs.declared.tree.Binary.{Binary}
use Rattle.dx_expr_grammar.specs.declared.tree.Expression.{Expression}
use Rattle.dx_expr_grammar.specs.declared.tree.Expression.TheVariants as e
use Rattle.dx_expr.specs.declared.operators.Sides.{Sides}
use Rattle.dx_expr.specs.declared.operators.Sides.TheVariants as sides
use Rattle.dx_expr.specs.declared.fault.EvalFail.{EvalFail}
use Rattle.dx_expr.specs.declared.fault.EvalFail.TheVariants.{Fault, Memory}
use Rattle.dx_expr.specs.Value.{Inputs, Outcome, Values, value_of, values_by, sides_of, is_zero, the_value, alone, decided, ◌>>=◌}
use Rattle.dx_expr.specs.Evaluated.{Gives, GivesSingle, FailsWith}
use Rattle.dx_expr.proofs.Equations.{value_binary, value_choice}

-- what the code has at hand of an expression x is that expression
pub same_binary : (x : Expression) (o o' : Binary) (a b a' b' : Expression) → x ≡ e.Binary o a b → o' ≡ o → a' ≡ a → b' ≡ b → e.Binary o' a' b' ≡ x
same_binary x o o' a b a' b' is same left right = ap (λ p. e.Binary p a' b') same ∙ ap (λ p. e.Binary o p b') left ∙ ap (λ p. e.Binary o a p) right ∙ sym is

pub single_along : (r : Result ℤ EvalFail) (o p : Outcome Values) → o ≡ p → GivesSingle p r → GivesSingle o r
single_along r o p e h = subst (λ q. GivesSingle q r) (sym e) h

pub values_along : (r : Result (List ℤ) EvalFail) (o p : Outcome Values) → o ≡ p → Gives p r → Gives o r
values_along r o p e h = subst (λ q. Gives q r) (sym e) h

pub is_zero-not : (v : ℤ) → (v ≡ pos 0 → ⊥) → is_zero v ≡ false
is_zero-not (pos zero) h = absurd (h refl)
is_zero-not (pos (suc n)) h = grind (arith, ints)
is_zero-not (negsuc n) h = grind (arith, ints)

module _ (inputs : Inputs) (item : ℕ) (x : Expression) where
  abbrev V : Expression → Outcome Values
  V a = value_of inputs item a

  pub at_binary : (k : Sides) (o : Binary) (a b a' b' : Expression) → x ≡ e.Binary o a b → k ≡ sides_of o → a' ≡ a → b' ≡ b → V x ≡ values_by k o (V a') (V b')
  at_binary k o a b a' b' is same left right = ap V is ∙ value_binary inputs item o a b ∙ ap (λ s. values_by s o (V a) (V b)) (sym same) ∙ ap (λ a. values_by k o (V a) (V b)) (sym left) ∙ ap (λ b. values_by k o (V a') (V b)) (sym right)

  -- the branch that is taken
  pub at_other : (c a b c' b' : Expression) (v : ℤ) → x ≡ e.Choice c a b → c' ≡ c → b' ≡ b → V c' ≡ Ok (v ∷ []) → is_zero v ≡ true → V x ≡ V b'
  at_other c a b c' b' v is same other found taken =
      ap V is ∙ value_choice inputs item c a b ∙ ap (λ (o : Outcome Values). o >>= λ y. if is_zero (the_value y) then V b else V a) (sym (ap V same) ∙ found)
      ∙ ap (λ t. if t then V b else V a) taken ∙ sym (ap V other)

  pub at_one : (c a b c' a' : Expression) (v : ℤ) → x ≡ e.Choice c a b → c' ≡ c → a' ≡ a → V c' ≡ Ok (v ∷ []) → is_zero v ≡ false → V x ≡ V a'
  at_one c a b c' a' v is same one found taken =
      ap V is ∙ value_choice inputs item c a b ∙ ap (λ (o : Outcome Values). o >>= λ y. if is_zero (the_value y) then V b else V a) (sym (ap V same) ∙ found)
      ∙ ap (λ t. if t then V b else V a) taken ∙ sym (ap V one)

  pub fails_choice : (c a b c' : Expression) (f : EvalFail) → x ≡ e.Choice c a b → c' ≡ c → FailsWith (V c') f → FailsWith (V x) f
  fails_choice c a b c' (Fault fault) is same h = ap V is ∙ value_choice inputs item c a b ∙ ap (λ (o : Outcome Values). o >>= λ y. if is_zero (the_value y) then V b else V a) (sym (ap V same) ∙ h)
  fails_choice c a b c' Memory is same h = tt

pub fails_by : (k : Sides) (o : Binary) (a b : Outcome Values) (f : EvalFail) → FailsWith a f → FailsWith (values_by k o a b) f
fails_by k o a b (Fault fault) h = ap (λ a. values_by k o a b) h ∙ by k
  where
    by : (k : Sides) → values_by k o (Err fault) b ≡ Err fault
    by sides.UnlessTrue = refl
    by sides.IfTrue = refl
    by sides.Vectors = refl
    by sides.Both = refl
fails_by k o a b Memory h = tt

-- ---- where the left side has values

pub then_unless : (o : Binary) (q b : Outcome Values) (v : ℤ) → q ≡ Ok (v ∷ []) → (v ≡ pos 0 → ⊥) → values_by sides.UnlessTrue o q b ≡ Ok (pos 1 ∷ [])
then_unless o q b v e h = ap (λ q. values_by sides.UnlessTrue o q b) e ∙ ap (λ t. if t then (b >>= decided) else alone (pos 1)) (is_zero-not v h)

pub else_unless : (o : Binary) (q b : Outcome Values) (v : ℤ) → q ≡ Ok (v ∷ []) → v ≡ pos 0 → values_by sides.UnlessTrue o q b ≡ (b >>= decided)
else_unless o q b v e h = ap (λ q. values_by sides.UnlessTrue o q b) e ∙ ap (λ v. if is_zero v then (b >>= decided) else alone (pos 1)) h

pub then_if : (o : Binary) (q b : Outcome Values) (v : ℤ) → q ≡ Ok (v ∷ []) → v ≡ pos 0 → values_by sides.IfTrue o q b ≡ Ok (pos 0 ∷ [])
then_if o q b v e h = ap (λ q. values_by sides.IfTrue o q b) e ∙ ap (λ v. if is_zero v then alone (pos 0) else (b >>= decided)) h

pub else_if : (o : Binary) (q b : Outcome Values) (v : ℤ) → q ≡ Ok (v ∷ []) → (v ≡ pos 0 → ⊥) → values_by sides.IfTrue o q b ≡ (b >>= decided)
else_if o q b v e h = ap (λ q. values_by sides.IfTrue o q b) e ∙ ap (λ t. if t then alone (pos 0) else (b >>= decided)) (is_zero-not v h)

pub is_zero-is : (v : ℤ) → v ≡ pos 0 → is_zero v ≡ true
is_zero-is v h = ap is_zero h

-- ---- a fault that is handed on

pub single_fails : (r : Result ℤ EvalFail) (o : Outcome Values) (f : EvalFail) → r ≡ Err f → FailsWith o f → GivesSingle o r
single_fails r o f e h = subst (λ r. GivesSingle o r) (sym e) h

pub values_fail : (r : Result (List ℤ) EvalFail) (o : Outcome Values) (f : EvalFail) → r ≡ Err f → FailsWith o f → Gives o r
values_fail r o f e h = subst (λ r. Gives o r) (sym e) h

pub fails_along : (o p : Outcome Values) (f : EvalFail) → o ≡ p → FailsWith p f → FailsWith o f
fails_along o p f e h = subst (λ q. FailsWith q f) (sym e) h

-- a fact of the values, where there are some
pub of_values : (P : Values → Type 0) (o : Outcome Values) (r : Result (List ℤ) EvalFail) → ((vs : Values) → o ≡ Ok vs → P vs) → Gives o r → IfOk r P
of_values P o (Ok vs) each h = each vs h
of_values P o (Err f) each h = tt
