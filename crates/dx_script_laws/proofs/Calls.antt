-- The laws of attributes, expressions and calls.
use Rattle.std.proofs.Common.{◌≡◌, ℕ, zero, suc, Bool, true, false, List, [], ◌∷◌, ◌⊎◌, inl, inr, Some, None, refl}
use Rattle.std.specs.Prelude.{codes}
use Rattle.std.specs.Str.{bytes_eq}
use Rattle.dx_grammar.specs.Rule.{nothing, ◌∣◌, ◌>>=◌, ◌>>◌, snoc}
use Rattle.dx_grammar.proofs.Read.{Any, Opens, Same}
use Rattle.dx_grammar.proofs.Compose as compose
use Rattle.dx_grammar.proofs.Many.{Past}
use Rattle.dx_grammar.proofs.Words.{same_refl, same_sym, same_trans, same_then, same_right, same_group}
use Rattle.dx_ast.specs.declared.expressions.Expr.{Expr}
use Rattle.dx_ast.specs.declared.expressions.Expr.TheVariants as expr
use Rattle.dx_ast.specs.declared.expressions.Arg.{Arg, roll-Arg}
use Rattle.dx_ast.specs.Classes.{Text}
use Rattle.dx_ast.specs.Values.{ends_named, with_cache}
use Rattle.dx_ast.specs.Grammar as grammar
use Rattle.dx_ast.specs.Grammar.{Rule}
use Rattle.dx_script_grammar.specs.Reading as reading
use Rattle.dx_script_grammar.specs.Reading.{Tokens, sees}
use Rattle.dx_script_laws.proofs.Tokens.{Reads, done, check, refuses, next, after, either, first, second, both, nothing_more, anything, ends, twice, commas, in_other_words, where_less, more_opens, name, int, text, frame, sign, sees_near, name_near, int_near, frame_near, sign_has, sign_lacks, name_lacks, name_name, int_int, text_int, frame_frame, frame_lacks, frame_name, sees_only}
use Rattle.dx_script_laws.proofs.Constants.{constant, constant_lacks, constant_name, constant_frame}

-- ---- attributes

attribute_value : Reads grammar.attribute_value reading.attribute_value Any
unfolding reading.attribute_value
attribute_value = either int_near (first int_int) (next int (λ n. done)) (first text_int) (next text (λ t. done))

pub attribute : Reads grammar.attribute reading.attribute Any
unfolding reading.attribute
attribute = next name (λ n. next (sign (codes ":")) (λ _. next attribute_value (λ v. check _ _)))

pub next_attribute : Reads (grammar.sign (codes ",") >> grammar.attribute) reading.next_attribute Any
unfolding reading.next_attribute
next_attribute = next (sign (codes ",")) (λ _. attribute)

some_attributes : Reads grammar.some_attributes reading.some_attributes Any
unfolding reading.some_attributes reading.next_attribute
some_attributes = next (sign (codes "[")) (λ _. next attribute (λ a. after (commas {add = with_cache} anything (λ found. attribute) (with_cache 1 a)) (λ all. first (twice (sign_lacks (codes "]") (codes ",") refl) anything)) (λ all. next (sign (codes "]")) (λ _. done))))

pub attributes : Reads grammar.attributes reading.attributes (λ u. sees (codes "[") u ≡ false)
unfolding reading.attributes
attributes = either (sees_near (codes "[")) (first (sign_has (codes "["))) (where_less (λ u h. tt) some_attributes) nothing_more done

-- ---- what follows an expression

-- no bracket opens
abbrev pub Closed : Tokens → Type 0
Closed u = (sees (codes "(") u ≡ false) × (sees (codes "[") u ≡ false)

-- nor is it a name's value
abbrev Shut : Tokens → Type 0
Shut u = Closed u × (sees (codes "=") u ≡ false)

pub sign_closes : (c : Text) → bytes_eq c (codes "(") ≡ false → bytes_eq c (codes "[") ≡ false → Opens (grammar.sign c) Any Closed
sign_closes c e h = twice (sign_lacks c (codes "(") e) (sign_lacks c (codes "[") h)

sign_shuts : (c : Text) → bytes_eq c (codes "(") ≡ false → bytes_eq c (codes "[") ≡ false → bytes_eq c (codes "=") ≡ false → Opens (grammar.sign c) Any Shut
sign_shuts c e h g = twice (sign_closes c e h) (sign_lacks c (codes "=") g)

pub call_has : (d : ℕ) (n : Text) → Opens (grammar.call_after d n) Any (λ u. sees (codes "(") u ≡ true)
unfolding grammar.call_after
call_has zero n = first (sign_has (codes "("))
call_has (suc d) n = first (sign_has (codes "("))

call_lacks : (d : ℕ) (n : Text) (c : Text) → bytes_eq (codes "(") c ≡ false → Opens (grammar.call_after d n) Any (λ u. sees c u ≡ false)
unfolding grammar.call_after
call_lacks zero n c e = first (sign_lacks (codes "(") c e)
call_lacks (suc d) n c e = first (sign_lacks (codes "(") c e)

-- ---- expressions

abbrev Plain : Rule Expr
Plain = do
  c ← grammar.constant
  nothing (expr.Constant c)

abbrev Framed : Rule Expr
Framed = do
  v ← grammar.frame
  nothing (expr.Frame v.1)

abbrev Nameless : Rule Expr
Nameless = Framed ∣ Plain

-- what may follow a name
abbrev After : ℕ → Text → Rule Expr
After d n = (do c ← grammar.call_after d n; nothing (expr.Call c)) ∣ nothing (expr.Name n)

nameless : Reads Nameless reading.nameless Any
unfolding reading.nameless
nameless = either frame_near (first frame_frame) (next frame (λ v. done)) (first constant_frame) (next constant (λ c. done))

nameless_name : Opens Nameless Any (λ u. reading.sees_name u ≡ false)
nameless_name = both (first frame_name) (first constant_name)

in_order : {A B C D : Type 0} → (A ⊎ B) ⊎ (C ⊎ D) → D ⊎ (B ⊎ (C ⊎ A))
in_order (inl (inl a)) = inr (inr (inr a))
in_order (inl (inr b)) = inr (inl b)
in_order (inr (inl c)) = inr (inr (inl c))
in_order (inr (inr d)) = inl d

as_before : {A B C D : Type 0} → D ⊎ (B ⊎ (C ⊎ A)) → (A ⊎ B) ⊎ (C ⊎ D)
as_before (inl d) = inr (inr d)
as_before (inr (inl b)) = inl (inr b)
as_before (inr (inr (inl c))) = inr (inl c)
as_before (inr (inr (inr a))) = inl (inl a)

same_order : {E : Type 0} (A B C D : Rule E) → Same ((A ∣ B) ∣ (C ∣ D)) (D ∣ (B ∣ (C ∣ A)))
same_order A B C D = record { there = λ ts a d. in_order d; back = λ ts a d. as_before d; forbids_there = λ ts f d. in_order d; forbids_back = λ ts f d. as_before d }

expression_as_read : (d : ℕ) → Same ((grammar.name >>= λ n. After d n.1) ∣ Nameless) (grammar.expression d)
expression_as_read d =
    let N : Rule Expr = (do n ← grammar.name; nothing (expr.Name n.1)) in
    let C : Rule Expr = (do n ← grammar.name; c ← grammar.call_after d n.1; nothing (expr.Call c)) in
    let A : Rule Expr = grammar.name >>= λ n. After d n.1 in
    same_trans (A ∣ Nameless) ((C ∣ N) ∣ Nameless) (Plain ∣ (N ∣ (Framed ∣ C)))
    (compose.same_either A (C ∣ N) Nameless Nameless (compose.same_left grammar.name (λ n. do c ← grammar.call_after d n.1; nothing (expr.Call c)) (λ n. nothing (expr.Name n.1))) (same_refl Nameless))
    (same_order C N Framed Plain)

module _ (d : ℕ) (call : (n : Text) → Reads (grammar.call_after d n) (reading.call_after d n) (λ u. sees (codes "[") u ≡ false)) where
  primary_by : (n : Text) → Reads (After d n) (reading.primary d n) Closed
  unfolding reading.primary_by
  primary_by n = either (sees_near (codes "(")) (first (call_has d n)) (after (call n) (λ c. ends (λ u h. h.1)) (λ c. done)) (ends (λ u h. h.0)) done

  expression_by : Reads (grammar.expression d) (reading.expression d) Closed
  unfolding reading.expr_by
  expression_by = in_other_words (expression_as_read d) (either name_near (first name_name) (next name (λ n. primary_by n.1)) (both (first frame_name) (first constant_name)) (where_less (λ u h. tt) nameless))

  -- ---- arguments

  abbrev with_name : Text → Expr → Arg
  with_name n e = roll-Arg (record { name = Some n; value = e })

  abbrev no_name : Expr → Arg
  no_name e = roll-Arg (record { name = None; value = e })

  abbrev Named : Text → Rule Arg
  Named n = do
    grammar.sign (codes "=")
    e ← grammar.expression d
    nothing (with_name n e)

  abbrev Unnamed : Text → Rule Arg
  Unnamed n = do
    e ← After d n
    nothing (no_name e)

  abbrev NamelessArg : Rule Arg
  NamelessArg = do
    e ← Nameless
    nothing (no_name e)

  named : (n : Text) → Reads (Named n) (reading.named_arg (reading.expression d) n) Shut
  named n = next (sign (codes "=")) (λ _. after expression_by (λ e. ends (λ u h. h.0)) (λ e. done))

  unnamed : (n : Text) → Reads (Unnamed n) (reading.plain_arg (reading.primary d n)) Shut
  unnamed n = after (primary_by n) (λ e. ends (λ u h. h.0)) (λ e. done)

  unnamed_lacks : (n : Text) → Opens (Unnamed n) Shut (λ u. sees (codes "=") u ≡ false)
  unnamed_lacks n = second {Mid = λ u. sees (codes "=") u ≡ false} (both (first (call_lacks d n (codes "=") refl)) nothing_more) (λ e. ends (λ u h. h.1))

  arg_as_read : Same ((grammar.name >>= λ n. Named n.1 ∣ Unnamed n.1) ∣ NamelessArg) (grammar.arg_by (grammar.expression d) false)
  arg_as_read =
      let W = grammar.expression d in
      let K : Expr → Rule Arg = λ e. nothing (no_name e) in
      let A : Rule Expr = grammar.name >>= λ n. After d n.1 in
      let named : Rule Arg = grammar.name >>= λ n. Named n.1 in
      let unnamed : Rule Arg = grammar.name >>= λ n. Unnamed n.1 in
      let both : Rule Arg = grammar.name >>= λ n. Named n.1 ∣ Unnamed n.1 in
      let names : Same unnamed (A >>= K) = compose.same_assoc grammar.name (λ n. After d n.1) K in
      let plain : Same (unnamed ∣ NamelessArg) (W >>= K) = same_trans (unnamed ∣ NamelessArg) ((A >>= K) ∣ NamelessArg) (W >>= K) (compose.same_either unnamed (A >>= K) NamelessArg NamelessArg names (same_refl NamelessArg))
      (same_trans ((A >>= K) ∣ NamelessArg) ((A ∣ Nameless) >>= K) (W >>= K) (same_sym ((A ∣ Nameless) >>= K) ((A >>= K) ∣ NamelessArg) (same_right A Nameless K)) (same_then (A ∣ Nameless) W K K (expression_as_read d) (λ e. same_refl (K e)))) in
      same_trans (both ∣ NamelessArg) ((named ∣ unnamed) ∣ NamelessArg) (named ∣ (W >>= K)) (compose.same_either both (named ∣ unnamed) NamelessArg NamelessArg (compose.same_left grammar.name (λ n. Named n.1) (λ n. Unnamed n.1)) (same_refl NamelessArg))
      (same_trans ((named ∣ unnamed) ∣ NamelessArg) (named ∣ (unnamed ∣ NamelessArg)) (named ∣ (W >>= K)) (same_group named unnamed NamelessArg) (compose.same_either named named (unnamed ∣ NamelessArg) (W >>= K) (same_refl named) plain))

  arg : (is_named : Bool) → Reads (grammar.arg_by (grammar.expression d) is_named) (reading.arg_by (reading.expression d) (reading.primary d) is_named) Shut
  unfolding reading.arg_by
  arg true = next name (λ n. named n.1)
  arg false = in_other_words arg_as_read
      (either name_near (first name_name) (next name (λ n. either (sees_near (codes "=")) (first (sign_has (codes "="))) (named n.1) (unnamed_lacks n.1) (unnamed n.1)))
      (first nameless_name) (next nameless (λ e. done)))

  arg_lacks : Opens (grammar.arg_by (grammar.expression d) false) Any (λ u. sees (codes ")") u ≡ false)
  arg_lacks = both (first (name_lacks (codes ")"))) (first (both (first (constant_lacks (codes ")") refl refl)) (both (first (name_lacks (codes ")"))) (both (first (frame_lacks (codes ")"))) (first (name_lacks (codes ")")))))))

  more_shut : (found : List Arg) → Opens (grammar.sign (codes ",") >> grammar.arg_by (grammar.expression d) (ends_named found)) Shut Shut
  more_shut found = first (sign_shuts (codes ",") refl refl refl)

  some_args : Reads (grammar.some_args (grammar.expression d)) (reading.some_args (reading.expression d) (reading.primary d)) (Past (sees (codes ",")) Shut)
  unfolding reading.some_args reading.next_arg
  some_args = after (arg false)
      (λ a. more_opens {add = snoc} more_shut (λ u h. h.1) (λ u h. h.1) more_shut (a ∷ []))
      (λ a. commas {add = snoc} (sign_shuts (codes ",") refl refl refl) (λ found. arg (ends_named found)) (a ∷ []))

  closing : (u : Tokens) → sees (codes ")") u ≡ true → Past (sees (codes ",")) Shut u
  closing u h = (sees_only (codes ")") (codes ",") refl u h, ((sees_only (codes ")") (codes "(") refl u h, sees_only (codes ")") (codes "[") refl u h), sees_only (codes ")") (codes "=") refl u h))

  args : Reads (grammar.args (grammar.expression d)) (reading.args (reading.expression d) (reading.primary d)) (λ u. sees (codes ")") u ≡ true)
  unfolding reading.args
  args = either (sees_near (codes ")")) nothing_more done (first arg_lacks) (where_less closing some_args)

  call_of : (n : Text) → Reads (grammar.call_of (grammar.expression d) n) (reading.call_of (reading.expression d) (reading.primary d) n) (λ u. sees (codes "[") u ≡ false)
  unfolding reading.call_of
  call_of n = next (sign (codes "(")) (λ _. after args (λ inside. first (sign_has (codes ")"))) (λ inside. next (sign (codes ")")) (λ _. after attributes (λ k. nothing_more) (λ k. done))))

-- ---- calls

no_call : (n : Text) → Reads (grammar.call_after zero n) (reading.call_after zero n) (λ u. sees (codes "[") u ≡ false)
unfolding grammar.call_after reading.call_after
no_call n = next (sign (codes "(")) (λ p. refuses)

one_call : (d : ℕ) → ((n : Text) → Reads (grammar.call_after d n) (reading.call_after d n) (λ u. sees (codes "[") u ≡ false)) → (n : Text) → Reads (grammar.call_after (suc d) n) (reading.call_after (suc d) n) (λ u. sees (codes "[") u ≡ false)
unfolding grammar.call_after reading.call_after
one_call d call n = call_of d call n

pub call : (d : ℕ) (n : Text) → Reads (grammar.call_after d n) (reading.call_after d n) (λ u. sees (codes "[") u ≡ false)
call zero n = no_call n
call (suc d) n = one_call d (call d) n

pub expression : (d : ℕ) → Reads (grammar.expression d) (reading.expression d) Closed
expression d = expression_by d (call d)

pub next_arg : (d : ℕ) (is_named : Bool) → Reads (grammar.sign (codes ",") >> grammar.arg_by (grammar.expression d) is_named) (reading.next_arg (reading.expression d) (reading.primary d) is_named) Shut
unfolding reading.next_arg
next_arg d is_named = next (sign (codes ",")) (λ _. arg d (call d) is_named)
