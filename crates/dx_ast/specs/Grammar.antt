-- The grammar of scripts: which tokens stand for which trees, and which are refused by name.
use Rattle.std.specs.Prelude.{ℕ, zero, suc, ℤ, pos, Bool, true, false, List, [], ◌∷◌, length, map, Option, Some, None, ◌==◌, codes}
use Rattle.dx_base.specs.declared.token.Place.{Place}
use Rattle.dx_base.specs.declared.token.Lexeme.{Lexeme}
use Rattle.dx_base.specs.declared.token.SyntaxError.{SyntaxError}
use Rattle.dx_base.specs.declared.token.SyntaxKind.TheVariants as kind
use Rattle.dx_grammar.specs.Rule as rule
use Rattle.dx_grammar.specs.Rule.{nothing, refused, one, unless, more, snoc, ◌>>=◌, ◌>>◌, ◌∣◌}
use Rattle.dx_ast.specs.Limits.{max_numbers, max_nested_calls}
use Rattle.dx_ast.specs.declared.constants.Const.{Const}
use Rattle.dx_ast.specs.declared.constants.Const.TheVariants as const
use Rattle.dx_ast.specs.declared.expressions.Expr.{Expr}
use Rattle.dx_ast.specs.declared.expressions.Expr.TheVariants as expr
use Rattle.dx_ast.specs.declared.expressions.Call.{Call, roll-Call}
use Rattle.dx_ast.specs.declared.expressions.Arg.{Arg, roll-Arg}
use Rattle.dx_ast.specs.declared.sequencing.FrameVar.{FrameVar}
use Rattle.dx_ast.specs.declared.statements.Param.{Param}
use Rattle.dx_ast.specs.declared.statements.MacroDef.{roll-MacroDef}
use Rattle.dx_ast.specs.declared.statements.Stmt.{Stmt}
use Rattle.dx_ast.specs.declared.statements.Stmt.TheVariants as stmt
use Rattle.dx_ast.specs.Classes.{Text, fault, fault_if, sign_of, key_of, name_of, int_of, text_of, frame_of, word_of, switch_of, state_of}
use Rattle.dx_ast.specs.Values.{Found, list_of, with_element, element_fault, is_zero, range, range_fault, attribute_cache, attribute_fault, with_cache, ends_named, name_fault, param_name, call_statement, with_statement}

abbrev pub Rule : Type 0 → Type 1
Rule A = rule.Rule Lexeme SyntaxError A

-- ---- tokens; each has its place

abbrev pub name : Rule (Place × Text)
name = one name_of

abbrev pub int : Rule (Place × ℤ)
int = one int_of

abbrev pub text : Rule (Place × Text)
text = one text_of

abbrev pub frame : Rule (Place × FrameVar)
frame = one frame_of

abbrev pub sign : Text → Rule Place
sign c = one (sign_of c)

abbrev pub key : Text → Rule Place
key k = one (key_of k)

-- [ ',' ]
abbrev pub comma : Rule (Unit {0})
comma = (sign (codes ",") >> nothing tt) ∣ nothing tt

-- ---- constants

-- [ ',' ] INT; the 257th doesn't fit
abbrev pub number : List ℤ → Rule ℤ
number found = do
  comma
  n ← int
  unless (fault_if (length found == max_numbers) kind.Syntax n.0) n.1

-- '[' INT { [ ',' ] INT } ']'
abbrev pub vector : Rule (Place × List ℤ)
vector = do
  first ← sign (codes "[")
  n ← int
  ns ← more number snoc (n.1 ∷ [])
  sign (codes "]")
  nothing (first, ns)

-- INT | STRING | vector
abbrev pub element : Rule (Place × Const)
element =
    (do n ← int; nothing (n.0, const.Int n.1))
    ∣ (do t ← text; nothing (t.0, const.Text t.1))
    ∣ (do v ← vector; nothing (v.0, const.Vector v.1))

-- [ ',' ] element; a whole element that differs is MixedList at its place, and the 65,537th ListTooLong
abbrev pub next_element : Found → Rule Const
next_element found = do
  comma
  e ← element
  unless (element_fault found e.0 e.1) e.1

-- { [ ',' ] element } '}'
abbrev pub elements_after : Const → Rule Const
elements_after first = do
  found ← more next_element with_element (1, list_of first)
  sign (codes "}")
  nothing found.1

-- element { [ ',' ] element } '}'
abbrev pub elements : Rule Const
elements = do
  e ← element
  elements_after e.1

-- [ ':' INT ], not 0; with the place of the last number of the range
abbrev pub step : Place → Rule (Place × ℤ)
step last = (do sign (codes ":"); d ← int; unless (fault_if (is_zero d.1) kind.NumberRange d.0) d) ∣ nothing (last, pos 1)

-- '..' INT [ ':' INT ] '}'; a whole range that is too long is ListTooLong at its last number
abbrev pub range_after : ℤ → Rule Const
range_after a = do
  sign (codes "..")
  b ← int
  d ← step b.0
  sign (codes "}")
  unless (range_fault a b.1 d.0 d.1) (const.Ints (range a b.1 d.1))

-- INT '..' INT [ ':' INT ] '}'
abbrev pub ranging : Rule Const
ranging = do
  a ← int
  range_after a.1

abbrev pub closed : Rule Const
closed = do
  sign (codes "}")
  nothing (const.Ints [])

-- '{' '}' | '{' element { [ ',' ] element } '}' | '{' INT '..' INT [ ':' INT ] '}'
abbrev pub list : Rule Const
list = sign (codes "{") >> (closed ∣ elements ∣ ranging)

-- 'NULL' | INT | STRING | vector | list
abbrev pub constant : Rule Const
constant =
    (do key (codes "NULL"); nothing const.Null)
    ∣ (do n ← int; nothing (const.Int n.1))
    ∣ (do t ← text; nothing (const.Text t.1))
    ∣ (do v ← vector; nothing (const.Vector v.1))
    ∣ list

-- ---- attributes

-- INT | STRING
abbrev pub attribute_value : Rule (Place × Const)
attribute_value =
    (do n ← int; nothing (n.0, const.Int n.1))
    ∣ (do t ← text; nothing (t.0, const.Text t.1))

-- NAME ':' ( INT | STRING ); a cache that isn't 0, 1 or 2 is NumberRange at the value
abbrev pub attribute : Rule (Option ℕ)
attribute = do
  n ← name
  sign (codes ":")
  v ← attribute_value
  unless (attribute_fault n.1 v.0 v.1) (attribute_cache n.1 v.1)

-- '[' attribute { ',' attribute } ']'
abbrev pub some_attributes : Rule ℕ
some_attributes = do
  sign (codes "[")
  a ← attribute
  cache ← more (λ found. sign (codes ",") >> attribute) with_cache (with_cache 1 a)
  sign (codes "]")
  nothing cache

abbrev pub attributes : Rule ℕ
attributes = some_attributes ∣ nothing 1

-- ---- calls and expressions

abbrev pub named_arg : Rule Expr → Rule Arg
named_arg whole = do
  n ← name
  sign (codes "=")
  e ← whole
  nothing (roll-Arg (record { name = Some n.1; value = e }))

abbrev pub plain_arg : Rule Expr → Rule Arg
plain_arg whole = do
  e ← whole
  nothing (roll-Arg (record { name = None; value = e }))

-- [ NAME '=' ] expr; once an argument is named, the next one is
abbrev pub arg_by : Rule Expr → Bool → Rule Arg
arg_by whole true = named_arg whole
arg_by whole false = named_arg whole ∣ plain_arg whole

-- arg { ',' arg }
abbrev pub some_args : Rule Expr → Rule (List Arg)
some_args whole = do
  a ← arg_by whole false
  more (λ found. sign (codes ",") >> arg_by whole (ends_named found)) snoc (a ∷ [])

-- [ arg { ',' arg } ]
abbrev pub args : Rule Expr → Rule (List Arg)
args whole = nothing [] ∣ some_args whole

-- '(' args ')' [ attributes ]
abbrev pub call_of : Rule Expr → Text → Rule Call
call_of whole n = do
  sign (codes "(")
  inside ← args whole
  sign (codes ")")
  cache ← attributes
  nothing (roll-Call (record { name = n; args = inside; cache = cache }))

-- constant | NAME | FRAME | NAME call
abbrev pub expr_by : (Text → Rule Call) → Rule Expr
expr_by call =
    (do c ← constant; nothing (expr.Constant c))
    ∣ (do n ← name; nothing (expr.Name n.1))
    ∣ (do v ← frame; nothing (expr.Frame v.1))
    ∣ (do n ← name; c ← call n.1; nothing (expr.Call c))

-- what follows the name of a call, where this many calls may still open; the bracket of one more doesn't fit
unfoldable pub call_after : ℕ → Text → Rule Call
call_after zero n = sign (codes "(") >>= λ p. refused (fault kind.Syntax p)
call_after (suc calls) n = call_of (expr_by (call_after calls)) n

abbrev pub call : Text → Rule Call
call = call_after max_nested_calls

abbrev pub expression : ℕ → Rule Expr
expression calls = expr_by (call_after calls)

-- ---- statements

-- ',' NAME
abbrev pub target : Rule Text
target = do
  sign (codes ",")
  n ← name
  nothing n.1

-- NAME '=' expr ';'
abbrev pub single : Rule (Option Stmt)
single = do
  n ← name
  sign (codes "=")
  e ← expression max_nested_calls
  sign (codes ";")
  nothing (Some (stmt.Assign (record { targets = n.1 ∷ []; value = e })))

-- NAME ',' NAME { ',' NAME } '=' call ';'
abbrev pub several : Rule (Option Stmt)
several = do
  n ← name
  second ← target
  ns ← more (λ found. target) snoc (n.1 ∷ second ∷ [])
  sign (codes "=")
  f ← name
  c ← call f.1
  sign (codes ";")
  nothing (Some (stmt.Assign (record { targets = ns; value = expr.Call c })))

-- call ';'
abbrev pub called : Rule (Option Stmt)
called = do
  n ← name
  c ← call n.1
  sign (codes ";")
  nothing (call_statement n.1 c)

abbrev pub statement : Rule (Option Stmt)
statement = called ∣ single ∣ several

-- ---- macros

-- NAME [ '=' constant ]; the 65th doesn't fit, nor does a name that another has
abbrev pub param : List Param → Rule Param
param found = do
  n ← name
  m ← unless (name_fault (length found) (map param_name found) n.0 n.1) n.1
  (do sign (codes "="); c ← constant; nothing (record { name = m; default = Some c })) ∣ nothing (record { name = m; default = None })

-- [ param { ',' param } ]
abbrev pub params : Rule (List Param)
params = (do p ← param []; more (λ found. sign (codes ",") >> param found) snoc (p ∷ [])) ∣ nothing []

-- NAME; the 65th doesn't fit, nor does a name that another has
abbrev pub result : List Text → Rule Text
result found = do
  n ← name
  unless (name_fault (length found) found n.0 n.1) n.1

-- [ NAME { ',' NAME } ]
abbrev pub names : Rule (List Text)
names = (do n ← result []; more (λ found. sign (codes ",") >> result found) snoc (n ∷ [])) ∣ nothing []

-- '->' '(' [ NAME { ',' NAME } ] ')'
abbrev pub some_results : Rule (List Text)
some_results = do
  sign (codes "->")
  sign (codes "(")
  all ← names
  sign (codes ")")
  nothing all

-- ';' | statement
abbrev pub body_item : Rule (Option Stmt)
body_item = (do sign (codes ";"); nothing None) ∣ statement

-- '{' { ';' | statement } '}'
abbrev pub body : Rule (List Stmt)
body = do
  sign (codes "{")
  found ← more (λ found. body_item) with_statement []
  sign (codes "}")
  nothing found

-- 'macro' NAME '(' params ')' [ results ] body
abbrev pub definition : Rule (Option Stmt)
definition = do
  key (codes "macro")
  n ← name
  sign (codes "(")
  ps ← params
  sign (codes ")")
  rs ← some_results ∣ nothing []
  inside ← body
  nothing (Some (stmt.Macro (roll-MacroDef (record { name = n.1; params = ps; results = rs; body = inside }))))

-- ---- items

-- 'include' STRING
abbrev pub inclusion : Rule (Option Stmt)
inclusion = do
  key (codes "include")
  t ← text
  nothing (Some (stmt.Include t.1))

-- INT | FRAME
abbrev pub frame_value : Rule Expr
frame_value =
    (do n ← int; nothing (expr.Constant (const.Int n.1)))
    ∣ (do v ← frame; nothing (expr.Frame v.1))

-- FRAME '=' ( INT | FRAME ) ';'
abbrev pub frame_setting : Rule (Option Stmt)
frame_setting = do
  v ← frame
  sign (codes "=")
  e ← frame_value
  sign (codes ";")
  nothing (Some (stmt.SetFrame v.1 e))

-- ( 'play' | 'step' | 'stop' | 'forward' | 'backward' ) ';'
-- | ( 'loop' | 'palindrome' ) ( 'on' | 'off' ) ';'
-- | 'sequence' call ';'
abbrev pub word : Rule (Option Stmt)
word =
    (do w ← one word_of; sign (codes ";"); nothing (Some (stmt.Word w.1)))
    ∣ (do s ← one switch_of; w ← one (state_of s.1); sign (codes ";"); nothing (Some (stmt.Word w.1)))
    ∣ (do key (codes "sequence"); n ← name; c ← call n.1; sign (codes ";"); nothing (Some (stmt.Sequence c)))

-- ';' | inclusion | definition | frame setting | word | statement
abbrev pub item : Rule (Option Stmt)
item =
    (do sign (codes ";"); nothing None)
    ∣ inclusion
    ∣ definition
    ∣ frame_setting
    ∣ word
    ∣ statement

abbrev pub script : Rule (List Stmt)
script = more (λ found. item) with_statement []
