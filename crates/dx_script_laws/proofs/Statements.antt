-- The laws of statements and macros.
use Rattle.std.proofs.Common.{◌≡◌, true, false, List, [], ◌∷◌, Option, Some, refl}
use Rattle.std.specs.Prelude.{codes}
use Rattle.std.specs.Str.{bytes_eq}
use Rattle.dx_grammar.specs.Rule.{nothing, ◌∣◌, ◌>>=◌, ◌>>◌, snoc, more}
use Rattle.dx_grammar.proofs.Read.{Any, Opens, Same}
use Rattle.dx_grammar.proofs.Compose as compose
use Rattle.dx_grammar.proofs.Compose.{Fills}
use Rattle.dx_grammar.proofs.Words.{same_refl, same_trans}
use Rattle.dx_ast.specs.declared.expressions.Expr.TheVariants as expr
use Rattle.dx_ast.specs.declared.statements.Param.{Param}
use Rattle.dx_ast.specs.declared.statements.Stmt.{Stmt}
use Rattle.dx_ast.specs.declared.statements.Stmt.TheVariants as stmt
use Rattle.dx_ast.specs.Classes.{Text}
use Rattle.dx_ast.specs.Values.{call_statement, with_statement}
use Rattle.dx_ast.specs.Grammar as grammar
use Rattle.dx_ast.specs.Grammar.{Rule}
use Rattle.dx_script_grammar.specs.Reading as reading
use Rattle.dx_script_grammar.specs.Reading.{Tokens, Parser, sees}
use Rattle.dx_script_laws.proofs.Tokens.{Reads, done, check, next, after, either, first, second, both, nothing_more, anything, ends, twice, fills, fills_first, fills_both, loop, until, commas, in_other_words, where_less, more_opens, name, sign, key, sees_near, name_near, sign_has, sign_lacks, sign_name, name_lacks, name_name, sees_only, sees_no_name}
use Rattle.dx_script_laws.proofs.Constants.{constant}
use Rattle.dx_script_laws.proofs.Calls.{call, expression, call_has, sign_closes}

-- ---- statements, after their first name

pub target : Reads grammar.target reading.target Any
unfolding reading.target
target = next (sign (codes ",")) (λ _. next name (λ n. done))

abbrev pub Called : Text → Rule (Option Stmt)
Called n = do
  c ← grammar.call n
  grammar.sign (codes ";")
  nothing (call_statement n c)

abbrev pub Single : Text → Rule (Option Stmt)
Single n = do
  grammar.sign (codes "=")
  e ← grammar.expression 64
  grammar.sign (codes ";")
  nothing (Some (stmt.Assign (record { targets = n ∷ []; value = e })))

abbrev pub Several : Text → Rule (Option Stmt)
Several n = do
  second ← grammar.target
  ns ← more (λ found. grammar.target) snoc (n ∷ second ∷ [])
  grammar.sign (codes "=")
  f ← grammar.name
  c ← grammar.call f.1
  grammar.sign (codes ";")
  nothing (Some (stmt.Assign (record { targets = ns; value = expr.Call c })))

called : (n : Text) → Reads (Called n) (reading.called n) Any
unfolding reading.called
called n = after (call 64 n) (λ c. first (sign_lacks (codes ";") (codes "[") refl)) (λ c. next (sign (codes ";")) (λ _. done))

single : (n : Text) → Reads (Single n) (reading.single n) Any
unfolding reading.single
single n = next (sign (codes "=")) (λ _. after (expression 64) (λ e. first (sign_closes (codes ";") refl refl)) (λ e. next (sign (codes ";")) (λ _. done)))

pub several : (n : Text) → Reads (Several n) (reading.several n) Any
unfolding reading.several
several n = next target (λ second. after (loop {add = snoc} (sees_near (codes ",")) (λ found. target) (λ found. fills_first fills) (λ found. first (sign_has (codes ","))) (λ found. anything) (n ∷ second ∷ []))
    (λ ns. first (twice (sign_lacks (codes "=") (codes ",") refl) anything))
    (λ ns. next (sign (codes "=")) (λ _. next name (λ f. after (call 64 f.1) (λ c. first (sign_lacks (codes ";") (codes "[") refl)) (λ c. next (sign (codes ";")) (λ _. done))))))

pub several_lacks : (c : Text) → bytes_eq (codes ",") c ≡ false → (n : Text) → Opens (Several n) Any (λ u. sees c u ≡ false)
several_lacks c e n = first (first (sign_lacks (codes ",") c e))

pub several_name : (n : Text) → Opens (Several n) Any (λ u. reading.sees_name u ≡ false)
several_name n = first (first (sign_name (codes ",")))

-- a call, one assignment, or what else may follow the name
pub after_name : {Rest : Text → Rule (Option Stmt)} {rest : Text → Parser (Option Stmt)} → ((n : Text) → Reads (Rest n) (rest n) Any)
    → ((n : Text) → Opens (Rest n) Any (λ u. sees (codes "(") u ≡ false)) → ((n : Text) → Opens (Rest n) Any (λ u. sees (codes "=") u ≡ false))
    → (n : Text) → Reads (Called n ∣ (Single n ∣ Rest n)) (reading.after_name rest n) Any
unfolding reading.after_name
after_name {Rest} {rest} reads bracket equals n =
    either (sees_near (codes "(")) (first (call_has 64 n)) (called n) (both (first (sign_lacks (codes "=") (codes "(") refl)) (bracket n))
    (either (sees_near (codes "=")) (first (sign_has (codes "="))) (single n) (equals n) (reads n))

statement_as_read : Same (grammar.name >>= λ n. Called n.1 ∣ (Single n.1 ∣ Several n.1)) grammar.statement
statement_as_read =
    let A : Rule (Option Stmt) = grammar.name >>= λ n. Called n.1 in
    let B : Rule (Option Stmt) = grammar.name >>= λ n. Single n.1 in
    let C : Rule (Option Stmt) = grammar.name >>= λ n. Several n.1 in
    let BC : Rule (Option Stmt) = grammar.name >>= λ n. Single n.1 ∣ Several n.1 in
    same_trans (grammar.name >>= λ n. Called n.1 ∣ (Single n.1 ∣ Several n.1)) (A ∣ BC) (A ∣ (B ∣ C)) (compose.same_left grammar.name (λ n. Called n.1) (λ n. Single n.1 ∣ Several n.1))
    (compose.same_either A A BC (B ∣ C) (same_refl A) (compose.same_left grammar.name (λ n. Single n.1) (λ n. Several n.1)))

pub statement : Reads grammar.statement reading.statement Any
unfolding reading.statement
statement = in_other_words statement_as_read (next name (λ n. after_name several (several_lacks (codes "(") refl) (several_lacks (codes "=") refl) n.1))

pub statement_lacks : (c : Text) → Opens grammar.statement Any (λ u. sees c u ≡ false)
statement_lacks c = both (first (name_lacks c)) (both (first (name_lacks c)) (first (name_lacks c)))

pub statement_fills : Fills grammar.statement
statement_fills = fills_both (fills_first fills) (fills_both (fills_first fills) (fills_first fills))

-- ---- parameters and results

param : (found : List Param) → Reads (grammar.param found) (reading.param found) (λ u. sees (codes "=") u ≡ false)
unfolding reading.param
param found = next name (λ n. next (check _ _) (λ m. either (sees_near (codes "=")) (first (sign_has (codes "="))) (next (sign (codes "=")) (λ _. next constant (λ c. done))) nothing_more done))

param_stops : (found : List Param) → Opens (grammar.sign (codes ",") >> grammar.param found) (λ u. sees (codes "=") u ≡ false) (λ u. sees (codes "=") u ≡ false)
param_stops found = first (sign_lacks (codes ",") (codes "=") refl)

pub next_param : (found : List Param) → Reads (grammar.sign (codes ",") >> grammar.param found) (reading.next_param found) (λ u. sees (codes "=") u ≡ false)
unfolding reading.next_param
next_param found = next (sign (codes ",")) (λ _. param found)

closes : (c : Text) → bytes_eq (codes ")") c ≡ false → (u : Tokens) → sees (codes ")") u ≡ true → sees c u ≡ false
closes c e u h = sees_only (codes ")") c e u h

params : Reads grammar.params reading.params (λ u. sees (codes ")") u ≡ true)
unfolding reading.params reading.next_param
params = either name_near (first (first name_name))
    (after (param []) (λ p. more_opens {add = snoc} param_stops (closes (codes "=") refl) (closes (codes "=") refl) param_stops (p ∷ []))
    (λ p. where_less (λ u h. (closes (codes ",") refl u h, closes (codes "=") refl u h)) (commas {add = snoc} (sign_lacks (codes ",") (codes "=") refl) param (p ∷ []))))
    (ends (λ u h. sees_no_name (codes ")") u h)) done

result : (found : List Text) → Reads (grammar.result found) (reading.result found) Any
unfolding reading.result
result found = next name (λ n. check _ _)

pub next_result : (found : List Text) → Reads (grammar.sign (codes ",") >> grammar.result found) (reading.next_result found) Any
unfolding reading.next_result
next_result found = next (sign (codes ",")) (λ _. result found)

names : Reads grammar.names reading.names (λ u. sees (codes ")") u ≡ true)
unfolding reading.names reading.next_result
names = either name_near (first (first name_name))
    (next (result []) (λ n. where_less (λ u h. (closes (codes ",") refl u h, tt)) (commas {add = snoc} anything result (n ∷ []))))
    (ends (λ u h. sees_no_name (codes ")") u h)) done

some_results : Reads grammar.some_results reading.some_results Any
unfolding reading.some_results
some_results = next (sign (codes "->")) (λ _. next (sign (codes "(")) (λ _. after names (λ all. first (sign_has (codes ")"))) (λ all. next (sign (codes ")")) (λ _. done))))

results : Reads (grammar.some_results ∣ nothing []) reading.results (λ u. sees (codes "->") u ≡ false)
unfolding reading.results
results = either (sees_near (codes "->")) (first (sign_has (codes "->"))) (where_less (λ u h. tt) some_results) nothing_more done

-- ---- macros

pub body_item : Reads grammar.body_item reading.body_item Any
unfolding reading.body_item
body_item = either (sees_near (codes ";")) (first (sign_has (codes ";"))) (next (sign (codes ";")) (λ _. done)) (statement_lacks (codes ";")) statement

pub body_item_fills : Fills grammar.body_item
body_item_fills = fills_both (fills_first fills) statement_fills

body : Reads grammar.body reading.body Any
unfolding reading.body
body = next (sign (codes "{")) (λ _. after (until {add = with_statement} (codes "}") (λ found. body_item) (λ found. body_item_fills) (λ found. both (first (sign_lacks (codes ";") (codes "}") refl)) (statement_lacks (codes "}"))) [])
    (λ found. first (sign_has (codes "}"))) (λ found. next (sign (codes "}")) (λ _. done)))

pub definition : Reads grammar.definition reading.definition Any
unfolding reading.definition
definition = next (key (codes "macro")) (λ _. next name (λ n. next (sign (codes "(")) (λ _. after params (λ ps. first (sign_has (codes ")"))) (λ ps. next (sign (codes ")")) (λ _.
    after results (λ rs. first (first (sign_lacks (codes "{") (codes "->") refl))) (λ rs. next body (λ inside. done)))))))
