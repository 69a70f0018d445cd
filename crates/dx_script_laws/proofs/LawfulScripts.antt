-- The statements that a text stands for are lawful.
use Rattle.std.proofs.Common.{◌≡◌, ℕ, suc, ◌≤◌, ◌==◌, Bool, true, false, ◌||◌, cond, List, [], ◌∷◌, ◌++◌, length, map, Option, Some, None, refl, sym, ap, subst, ◌∙◌, arith, length-append}
use Rattle.std.specs.Prelude.{codes, All}
use Rattle.std.specs.Str.{bytes_eq}
use Rattle.std.proofs.lemmas.Slice.Eq.{bytes_eq-Decides}
use Rattle.std.proofs.lemmas.List.Elements.{All-nil, All-push}
use Rattle.dx_base.specs.declared.token.Place.{Place}
use Rattle.dx_base.specs.declared.token.SyntaxKind.TheVariants as kind
use Rattle.dx_grammar.specs.Rule.{snoc, nothing, ◌∣◌, ◌>>◌}
use Rattle.dx_ast.specs.declared.constants.Const.TheVariants as const
use Rattle.dx_ast.specs.declared.expressions.Expr.{Expr}
use Rattle.dx_ast.specs.declared.expressions.Expr.TheVariants as expr
use Rattle.dx_ast.specs.declared.expressions.Call.{Call}
use Rattle.dx_ast.specs.declared.statements.Param.{Param}
use Rattle.dx_ast.specs.declared.statements.Stmt.{Stmt}
use Rattle.dx_ast.specs.declared.statements.Stmt.TheVariants as stmt
use Rattle.dx_ast.specs.Classes.{Text}
use Rattle.dx_ast.specs.Values.{has_name, name_fault, param_name, with_statement}
use Rattle.dx_ast.specs.Syntax as plain
use Rattle.dx_ast.specs.Plain.{plain_expr, plain_call, plain_stmt, plain_stmts}
use Rattle.dx_ast.specs.Lawful.{IsName, IsLawfulExpr, IsLawfulCall, IsCall, IsLawfulParam, IsLawfulDefault, Differ, AreLawfulNames, IsLawfulInBody, IsLawfulBody, IsFrameValue, IsLawful, AreLawful}
use Rattle.dx_ast.specs.Script.{tokens_of, IsScript}
use Rattle.dx_script_laws.proofs.TokensStand.{script_read}
use Rattle.dx_ast.specs.Grammar as grammar
use Rattle.dx_ast.specs.Grammar.{Rule}
use Rattle.dx_script_laws.proofs.Sizes.{tokens_small}
use Rattle.dx_script_laws.proofs.Gives.{Gives, value, checked, followed, past, either, repeated, weaker}
use Rattle.dx_script_laws.proofs.LawfulConstants.{no_fault, name, constant}
use Rattle.dx_script_laws.proofs.LawfulCalls.{call_after, expression}
use Rattle.dx_script_laws.proofs.Plain.{plain_constant, plain_frame, plain_called, plain_assign, plain_calling, plain_include, plain_set, plain_word, plain_sequence, plain_macro_made}

-- ---- statements

abbrev WhenSome : (plain.Stmt → Type 0) → Option Stmt → Type 0
WhenSome Good None = Unit {0}
WhenSome Good (Some s) = Good (plain_stmt s)

call_good : (b : Bool) (c : Call) → IsLawfulCall (plain_call c) → WhenSome IsLawfulInBody (cond b None (Some (stmt.Call c)))
call_good true c h = tt
call_good false c h = subst IsLawfulInBody (sym (plain_calling c)) h

called : Gives grammar.called (WhenSome IsLawfulInBody)
called = followed name (λ n is. followed (call_after 64 n.1 is) (λ c h. past (λ _. value (call_good (bytes_eq n.1 (codes "Executive")) c h))))

single_good : (n : Text) (e : Expr) → IsName n → IsLawfulExpr (plain_expr e) → WhenSome IsLawfulInBody (Some (stmt.Assign (record { targets = n ∷ []; value = e })))
single_good n e is h = subst IsLawfulInBody (sym (plain_assign (record { targets = n ∷ []; value = e }))) (record { some = omega arith; names = All-push IsName [] n (All-nil IsName) is; several = λ more. absurd (omega arith); value = h })

single : Gives grammar.single (WhenSome IsLawfulInBody)
single = followed name (λ n is. past (λ _. followed (expression 64) (λ e h. past (λ _. value (single_good n.1 e is h)))))

target : Gives grammar.target IsName
target = past (λ _. followed name (λ n is. value is))

several_good : (ns : List Text) (c : Call) → All IsName ns → 1 ≤ length ns → IsLawfulCall (plain_call c) → WhenSome IsLawfulInBody (Some (stmt.Assign (record { targets = ns; value = expr.Call c })))
several_good ns c all some h = subst IsLawfulInBody (sym (plain_assign (record { targets = ns; value = expr.Call c })))
    (record { some = some; names = all; several = λ more. subst IsCall (sym (plain_called c)) tt; value = subst IsLawfulExpr (sym (plain_called c)) h })

abbrev AreTargets : List Text → Type 0
AreTargets ns = All IsName ns × (1 ≤ length ns)

targets_snoc : (ns : List Text) (n : Text) → AreTargets ns → IsName n → AreTargets (snoc ns n)
targets_snoc ns n h is = (All-push IsName ns n h.0 is, let l = length-append ns (n ∷ []) in omega arith)

several : Gives grammar.several (WhenSome IsLawfulInBody)
several = followed name (λ n is. followed target (λ second is_second. followed (repeated {add = snoc} {Good = AreTargets} (λ found good. target) targets_snoc (n.1 ∷ second ∷ []) (All-push IsName (n.1 ∷ []) second (All-push IsName [] n.1 (All-nil IsName) is) is_second, omega arith)) (λ ns good.
    past (λ _. followed name (λ f is_f. followed (call_after 64 f.1 is_f) (λ c h. past (λ _. value (several_good ns c good.0 good.1 h))))))))

statement : Gives grammar.statement (WhenSome IsLawfulInBody)
statement = either called (either single several)

-- ---- names that differ

or_left : (a b : Bool) → a || b ≡ false → a ≡ false
or_left true b e = e
or_left false b e = refl

or_right : (a b : Bool) → a || b ≡ false → b ≡ false
or_right true b e = absurd cc
or_right false b e = e

neither : (a b : Bool) → a ≡ false → b ≡ false → a || b ≡ false
neither true b e h = e
neither false b e h = h

-- a new name, where there is room for it
abbrev IsNew : List Text → Text → Type 0
IsNew ns n = IsName n × ((length ns == 64) ≡ false) × (has_name n ns ≡ false)

is_false : (b : Bool) → (b ≡ true → ⊥) → b ≡ false
is_false true h = absurd (h refl)
is_false false h = refl

turned : (n m : Text) → bytes_eq n m ≡ false → bytes_eq m n ≡ false
turned n m e = is_false (bytes_eq m n) (λ h. let same : bytes_eq n m ≡ true = (bytes_eq-Decides n m).1 (sym ((bytes_eq-Decides m n).0 h)) in absurd cc)

has_snoc : (m : Text) (ns : List Text) (n : Text) → has_name m ns ≡ false → bytes_eq m n ≡ false → has_name m (ns ++ n ∷ []) ≡ false
unfolding has_name
has_snoc m [] n e h = neither (bytes_eq m n) false h refl
has_snoc m (k ∷ ns) n e h = neither (bytes_eq m k) (has_name m (ns ++ n ∷ [])) (or_left (bytes_eq m k) (has_name m ns) e) (has_snoc m ns n (or_right (bytes_eq m k) (has_name m ns) e) h)

differ_snoc : (ns : List Text) (n : Text) → Differ ns → has_name n ns ≡ false → Differ (ns ++ n ∷ [])
unfolding has_name
differ_snoc [] n d e = (refl, tt)
differ_snoc (m ∷ ns) n d e =
    (has_snoc m ns n d.0 (turned n m (or_left (bytes_eq n m) (has_name n ns) e)), differ_snoc ns n d.1 (or_right (bytes_eq n m) (has_name n ns) e))

lawful_snoc : (ns : List Text) (n : Text) → AreLawfulNames ns → IsNew ns n → AreLawfulNames (ns ++ n ∷ [])
lawful_snoc ns n h new = record {
  few = let l = length-append ns (n ∷ []) in let f = h.few in let r = new.1 in grind arith;
  names = All-push IsName ns n h.names new.0;
  differ = differ_snoc ns n h.differ new.2;
}

no_names : AreLawfulNames []
no_names = record { few = omega arith; names = All-nil IsName; differ = tt }

no_name_fault : (count : ℕ) (ns : List Text) (p : Place) (n : Text) → count ≡ length ns → IsName n → name_fault count ns p n ≡ None → IsNew ns n
no_name_fault count ns p n same is e =
    let h : (count == 64) || has_name n ns ≡ false = no_fault ((count == 64) || has_name n ns) kind.Syntax p e in
    (is, ap (λ k. k == 64) (sym same) ∙ or_left (count == 64) (has_name n ns) h, or_right (count == 64) (has_name n ns) h)

-- ---- parameters and results

map-length : (ps : List Param) → length ps ≡ length (map param_name ps)
map-length [] = refl
map-length (p ∷ ps) = ap suc (map-length ps)

map-snoc : (ps : List Param) (p : Param) → map param_name (ps ++ p ∷ []) ≡ map param_name ps ++ p.name ∷ []
map-snoc [] p = refl
map-snoc (q ∷ ps) p = ap (λ l. q.name ∷ l) (map-snoc ps p)

abbrev AreParams : List Param → Type 0
AreParams ps = AreLawfulNames (map param_name ps) × All IsLawfulParam ps

abbrev IsNewParam : List Param → Param → Type 0
IsNewParam ps p = IsNew (map param_name ps) p.name × IsLawfulDefault p.default

param : (found : List Param) → Gives (grammar.param found) (IsNewParam found)
param found = followed name (λ n is. followed (checked _ _ (λ e. no_name_fault (length found) (map param_name found) n.0 n.1 (map-length found) is e)) (λ m new.
    either (past (λ _. followed constant (λ c h. value (new, h)))) (value (new, tt))))

next_param : (found : List Param) → Gives (grammar.sign (codes ",") >> grammar.param found) (IsNewParam found)
next_param found = past (λ _. param found)

params_snoc : (ps : List Param) (p : Param) → AreParams ps → IsNewParam ps p → AreParams (snoc ps p)
params_snoc ps p h new = (subst AreLawfulNames (sym (map-snoc ps p)) (lawful_snoc (map param_name ps) p.name h.0 new.0), All-push IsLawfulParam ps p h.1 (new.0.0, new.1))

params : Gives grammar.params AreParams
params = either (followed (param []) (λ p new. repeated {add = snoc} {Good = AreParams} (λ found good. next_param found) params_snoc (p ∷ []) (params_snoc [] p (no_names, All-nil IsLawfulParam) new))) (value (no_names, All-nil IsLawfulParam))

result : (found : List Text) → Gives (grammar.result found) (IsNew found)
result found = followed name (λ n is. checked _ _ (λ e. no_name_fault (length found) found n.0 n.1 refl is e))

next_result : (found : List Text) → Gives (grammar.sign (codes ",") >> grammar.result found) (IsNew found)
next_result found = past (λ _. result found)

names : Gives grammar.names AreLawfulNames
names = either (followed (result []) (λ n new. repeated {add = snoc} {Good = AreLawfulNames} (λ found good. next_result found) lawful_snoc (n ∷ []) (lawful_snoc [] n no_names new))) (value no_names)

results : Gives (grammar.some_results ∣ nothing []) AreLawfulNames
results = either (past (λ _. past (λ _. followed names (λ all good. past (λ _. value good))))) (value no_names)

-- ---- macros

body_snoc : (xs : List Stmt) (s : Stmt) → IsLawfulBody (plain_stmts xs) → IsLawfulInBody (plain_stmt s) → IsLawfulBody (plain_stmts (xs ++ s ∷ []))
body_snoc [] s h is = (is, tt)
body_snoc (x ∷ xs) s h is = (h.0, body_snoc xs s h.1 is)

body_keeps : (xs : List Stmt) (o : Option Stmt) → IsLawfulBody (plain_stmts xs) → WhenSome IsLawfulInBody o → IsLawfulBody (plain_stmts (with_statement xs o))
body_keeps xs None h is = h
body_keeps xs (Some s) h is = body_snoc xs s h is

body_item : Gives grammar.body_item (WhenSome IsLawfulInBody)
body_item = either (past (λ _. value tt)) statement

body : Gives grammar.body (λ xs. IsLawfulBody (plain_stmts xs))
body = past (λ _. followed (repeated {add = with_statement} {Good = λ xs. IsLawfulBody (plain_stmts xs)} (λ found good. body_item) body_keeps [] tt) (λ found good.
    past (λ _. value good)))

definition : Gives grammar.definition (WhenSome IsLawful)
definition = past (λ _. followed name (λ n is. past (λ _. followed params (λ ps good. past (λ _.
    followed results (λ rs good_rs. followed body (λ inside h. value (subst IsLawful (sym (plain_macro_made n.1 ps rs inside)) (is, good.0, good.1, good_rs, h)))))))))

-- ---- items

inclusion : Gives grammar.inclusion (WhenSome IsLawful)
inclusion = past (λ _. past (λ t. value (subst IsLawful (sym (plain_include t.1)) tt)))

frame_value : Gives grammar.frame_value (λ e. IsFrameValue (plain_expr e))
frame_value =
    either (past (λ n. value (subst IsFrameValue (sym (plain_constant (const.Int n.1))) tt)))
    (past (λ v. value (subst IsFrameValue (sym (plain_frame v.1)) tt)))

frame_setting : Gives grammar.frame_setting (WhenSome IsLawful)
frame_setting = past (λ v. past (λ _. followed frame_value (λ e h. past (λ _.
    value (subst IsLawful (sym (plain_set v.1 e)) h)))))

word : Gives grammar.word (WhenSome IsLawful)
word =
    either (past (λ w. past (λ _. value (subst IsLawful (sym (plain_word w.1)) tt))))
    (either (past (λ s. past (λ w. past (λ _. value (subst IsLawful (sym (plain_word w.1)) tt)))))
    (past (λ _. followed name (λ n is. followed (call_after 64 n.1 is) (λ c h. past (λ _. value (subst IsLawful (sym (plain_sequence c)) h)))))))

-- what may stand in a body may stand at the top
at_top : (s : plain.Stmt) → IsLawfulInBody s → IsLawful s
at_top (plain.Assigns targets e) h = h
at_top (plain.Calls c) h = h
at_top (plain.Defines m) h = elim h [ ]
at_top (plain.Includes n) h = elim h [ ]
at_top (plain.Sets v e) h = elim h [ ]
at_top (plain.Says w) h = elim h [ ]
at_top (plain.Sequences c) h = elim h [ ]

some_at_top : (o : Option Stmt) → WhenSome IsLawfulInBody o → WhenSome IsLawful o
some_at_top None h = tt
some_at_top (Some s) h = at_top (plain_stmt s) h

item : Gives grammar.item (WhenSome IsLawful)
item = either (past (λ _. value tt)) (either inclusion (either definition (either frame_setting (either word (weaker some_at_top statement)))))

-- ---- scripts

items_snoc : (xs : List Stmt) (s : Stmt) → AreLawful (plain_stmts xs) → IsLawful (plain_stmt s) → AreLawful (plain_stmts (xs ++ s ∷ []))
items_snoc [] s h is = (is, tt)
items_snoc (x ∷ xs) s h is = (h.0, items_snoc xs s h.1 is)

items_keep : (xs : List Stmt) (o : Option Stmt) → AreLawful (plain_stmts xs) → WhenSome IsLawful o → AreLawful (plain_stmts (with_statement xs o))
items_keep xs None h is = h
items_keep xs (Some s) h is = items_snoc xs s h is

script : Gives grammar.script (λ xs. AreLawful (plain_stmts xs))
script = repeated {add = with_statement} {Good = λ xs. AreLawful (plain_stmts xs)} (λ found good. item) items_keep [] tt

pub lawful : (text : List ℕ) (statements : List Stmt) → IsScript text statements → length text ≤ 16777216 → AreLawful (plain_stmts statements)
lawful text statements is short = script.is (tokens_of text).tokens statements (script_read text statements is).derived (tokens_small text short)
