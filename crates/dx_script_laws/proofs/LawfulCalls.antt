-- The expressions and calls that a text stands for are lawful.
use Rattle.std.proofs.Common.{◌≡◌, ℕ, zero, suc, ◌≤◌, pos, negsuc, Bool, true, false, cond, List, [], ◌∷◌, ◌++◌, Option, Some, None, refl, sym, subst, arith}
use Rattle.std.specs.Prelude.{codes, is_some, nat_lt}
use Rattle.std.specs.Str.{bytes_eq}
use Rattle.std.proofs.lemmas.Grind.{common_steps}
use Rattle.dx_grammar.specs.Rule.{snoc, ◌>>◌}
use Rattle.dx_ast.specs.declared.constants.Const.{Const}
use Rattle.dx_ast.specs.declared.constants.Const.TheVariants as const
use Rattle.dx_ast.specs.declared.expressions.Expr.{Expr}
use Rattle.dx_ast.specs.declared.expressions.Expr.TheOpen.{Arg-F}
use Rattle.dx_ast.specs.declared.expressions.Call.{Call}
use Rattle.dx_ast.specs.declared.expressions.Arg.{Arg, roll-Arg, out-Arg}
use Rattle.dx_ast.specs.Classes.{Text}
use Rattle.dx_ast.specs.Values.{cache_value, with_cache, ends_named}
use Rattle.dx_ast.specs.Syntax as plain
use Rattle.dx_ast.specs.Plain.{plain_expr, plain_call, plain_args}
use Rattle.dx_ast.specs.Lawful.{IsName, IsLawfulExpr, IsLawfulCall, AreLawfulArgs, IsLawfulArgName, HasName, AllNamed, IsInOrder, IsInOrderBy}
use Rattle.dx_ast.specs.Grammar as grammar
use Rattle.dx_ast.specs.Grammar.{Rule}
use Rattle.dx_script_laws.proofs.Gives.{Gives, value, checked, followed, past, either, repeated}
use Rattle.dx_script_laws.proofs.LawfulConstants.{name, constant}
use Rattle.dx_script_laws.proofs.Plain.{plain_constant, plain_name, plain_frame, plain_called, plain_call_made, arg_made}

-- ---- attributes

abbrev IsCache : Option ℕ → Type 0
IsCache None = Unit {0}
IsCache (Some n) = n ≤ 2

below_three : (n : ℕ) (b : Bool) → nat_lt n 3 ≡ b → IsCache (cond b (Some n) None)
below_three n true e = grind (arith, common_steps)
below_three n false e = tt

cache_is : (v : Const) → IsCache (cache_value v)
cache_is (const.Int (pos n)) = below_three n (nat_lt n 3) refl
cache_is (const.Int (negsuc n)) = tt
cache_is const.Null = tt
cache_is (const.Text t) = tt
cache_is (const.Vector ns) = tt
cache_is (const.Ints ns) = tt
cache_is (const.Vectors width ns) = tt
cache_is (const.Texts ts) = tt

named_cache : (b : Bool) (v : Const) → IsCache (cond b (cache_value v) None)
named_cache true v = cache_is v
named_cache false v = tt

attribute : Gives grammar.attribute IsCache
attribute = past (λ n. past (λ _. past (λ v. checked _ _ (λ e. named_cache (bytes_eq n.1 (codes "cache")) v.1))))

kept_cache : (cache : ℕ) (a : Option ℕ) → cache ≤ 2 → IsCache a → with_cache cache a ≤ 2
kept_cache cache None le is = le
kept_cache cache (Some n) le is = is

next_attribute : Gives (grammar.sign (codes ",") >> grammar.attribute) IsCache
next_attribute = past (λ _. attribute)

attributes : Gives grammar.attributes (λ cache. cache ≤ 2)
attributes =
    either (past (λ _. followed attribute (λ a is.
    followed (repeated {add = with_cache} {Good = λ cache. cache ≤ 2} (λ found good. next_attribute) kept_cache (with_cache 1 a) (kept_cache 1 a (omega arith) is)) (λ cache good.
    past (λ _. value good)))))
    (value (omega arith))

-- ---- arguments

-- a lawful argument, which has a name where it needs one
abbrev IsGoodIn : Bool → Arg-F Expr Arg Call → Type 0
IsGoodIn named a = IsLawfulArgName a.name × IsLawfulExpr (plain_expr a.value) × (named ≡ true → HasName a.name)

abbrev IsGood : Bool → Arg → Type 0
IsGood named a = IsGoodIn named (out-Arg a)

abbrev AreGood : List Arg → Type 0
AreGood as' = AreLawfulArgs (plain_args as') × IsInOrder (plain_args as')

lawful_snoc : (xs : List Arg) (a : Arg) → AreLawfulArgs (plain_args xs) → IsLawfulArgName (out-Arg a).name → IsLawfulExpr (plain_expr (out-Arg a).value) → AreLawfulArgs (plain_args (xs ++ a ∷ []))
lawful_snoc [] a h n e = (n, e, tt)
lawful_snoc (x ∷ xs) a h n e = (h.0, h.1, lawful_snoc xs a h.2 n e)

named_snoc : (xs : List Arg) (a : Arg) → AllNamed (plain_args xs) → HasName (out-Arg a).name → AllNamed (plain_args (xs ++ a ∷ []))
named_snoc [] a h n = (n, tt)
named_snoc (x ∷ xs) a h n = (h.0, named_snoc xs a h.1 n)

has_some : (n : Option Text) → HasName n → is_some n ≡ true
has_some None h = elim h [ ]
has_some (Some n) h = refl

-- where all are named, the last is
all_end_named : (x : Arg) (xs : List Arg) → HasName (out-Arg x).name → AllNamed (plain_args xs) → ends_named (x ∷ xs) ≡ true
unfolding ends_named
all_end_named x [] h rest = has_some (out-Arg x).name h
all_end_named x (y ∷ xs) h rest = all_end_named y xs rest.0 rest.1

alone : (n : Option Text) → IsInOrderBy n plain.NoArg (Unit {0})
alone None = tt
alone (Some n) = tt

in_order_by : (n : Option Text) (rest more : plain.Args) → IsInOrderBy n rest (IsInOrder rest) → ((named : Text) → n ≡ Some named → AllNamed rest → AllNamed more) → (n ≡ None → IsInOrder rest → IsInOrder more) → IsInOrderBy n more (IsInOrder more)
in_order_by None rest more h named unnamed = unnamed refl h
in_order_by (Some n) rest more h named unnamed = named n refl h

in_order_snoc : (xs : List Arg) (a : Arg) → IsInOrder (plain_args xs) → (ends_named xs ≡ true → HasName (out-Arg a).name) → IsInOrder (plain_args (xs ++ a ∷ []))
unfolding ends_named
in_order_snoc [] a h need = alone (out-Arg a).name
in_order_snoc (x ∷ []) a h need =
    in_order_by (out-Arg x).name plain.NoArg (plain_args (a ∷ [])) h
    (λ n e all. (need (has_some (out-Arg x).name (subst HasName (sym e) tt)), tt))
    (λ e order. alone (out-Arg a).name)
in_order_snoc (x ∷ y ∷ xs) a h need =
    in_order_by (out-Arg x).name (plain_args (y ∷ xs)) (plain_args (y ∷ (xs ++ a ∷ []))) h
    (λ n e all. named_snoc (y ∷ xs) a all (need (all_end_named y xs all.0 all.1)))
    (λ e order. in_order_snoc (y ∷ xs) a order need)

good_snoc : (xs : List Arg) (a : Arg) → AreGood xs → IsGood (ends_named xs) a → AreGood (snoc xs a)
good_snoc xs a h is = (lawful_snoc xs a h.0 is.0 is.1, in_order_snoc xs a h.1 is.2)

good_first : (a : Arg) → IsGood false a → AreGood (a ∷ [])
good_first a is = ((is.0, is.1, tt), alone (out-Arg a).name)

good_named : (named : Bool) (n : Text) (e : Expr) → IsName n → IsLawfulExpr (plain_expr e) → IsGood named (roll-Arg (record { name = Some n; value = e }))
good_named named n e is lawful = subst (IsGoodIn named) (sym (arg_made (Some n) e)) (is, lawful, (λ h. tt))

good_plain : (e : Expr) → IsLawfulExpr (plain_expr e) → IsGood false (roll-Arg (record { name = None; value = e }))
good_plain e lawful = subst (IsGoodIn false) (sym (arg_made None e)) (tt, lawful, (λ h. absurd cc))

-- ---- expressions and calls

abbrev LawfulExpr : Expr → Type 0
LawfulExpr e = IsLawfulExpr (plain_expr e)

abbrev LawfulCall : Call → Type 0
LawfulCall c = IsLawfulCall (plain_call c)

module _ (whole : Rule Expr) (lawful : Gives whole LawfulExpr) where
  arg_by : (named : Bool) → Gives (grammar.arg_by whole named) (IsGood named)
  arg_by true = followed name (λ n is. past (λ _. followed lawful (λ e h. value (good_named true n.1 e is h))))
  arg_by false =
      either (followed name (λ n is. past (λ _. followed lawful (λ e h. value (good_named false n.1 e is h)))))
      (followed lawful (λ e h. value (good_plain e h)))

  next_arg : (named : Bool) → Gives (grammar.sign (codes ",") >> grammar.arg_by whole named) (IsGood named)
  next_arg named = past (λ _. arg_by named)

  some_args : Gives (grammar.some_args whole) AreGood
  some_args = followed (arg_by false) (λ a is. repeated {add = snoc} {Good = AreGood} (λ found good. next_arg (ends_named found)) good_snoc (a ∷ []) (good_first a is))

  call_of : (n : Text) → IsName n → Gives (grammar.call_of whole n) LawfulCall
  call_of n is = past (λ _. followed {Good = AreGood} (either (value (tt, tt)) some_args) (λ inside good. past (λ _.
      followed attributes (λ cache le. value (subst IsLawfulCall (sym (plain_call_made n inside cache)) (is, le, good.1, good.0))))))

expr_by : (call : Text → Rule Call) → ((n : Text) → IsName n → Gives (call n) LawfulCall) → Gives (grammar.expr_by call) LawfulExpr
expr_by call lawful =
    either (followed constant (λ c h. value (subst IsLawfulExpr (sym (plain_constant c)) h)))
    (either (followed name (λ n is. value (subst IsLawfulExpr (sym (plain_name n.1)) is)))
    (either (past (λ v. value (subst IsLawfulExpr (sym (plain_frame v.1)) tt)))
    (followed name (λ n is. followed (lawful n.1 is) (λ c h. value (subst IsLawfulExpr (sym (plain_called c)) h))))))

pub call_after : (d : ℕ) (n : Text) → IsName n → Gives (grammar.call_after d n) LawfulCall
unfolding grammar.call_after
call_after zero n is = past (λ p. record { is = λ ts c d small. elim d [ ] })
call_after (suc d) n is = call_of (grammar.expr_by (grammar.call_after d)) (expr_by (grammar.call_after d) (call_after d)) n is

pub expression : (d : ℕ) → Gives (grammar.expression d) LawfulExpr
expression d = expr_by (grammar.call_after d) (call_after d)
