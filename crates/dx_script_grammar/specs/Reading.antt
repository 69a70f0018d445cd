-- How the parser reads, with one token in hand: a function for each rule, which looks at the next token to choose.
use Rattle.std.specs.Prelude.{ℕ, zero, suc, ℤ, pos, Bool, true, false, not, List, [], ◌∷◌, length, map, Option, Some, None, is_some, ◌==◌, codes}
use Rattle.std.specs.Str.{bytes_eq}
use Rattle.dx_base.specs.declared.token.Place.{Place}
use Rattle.dx_base.specs.declared.token.Lexeme.{Lexeme}
use Rattle.dx_base.specs.declared.token.SyntaxError.{SyntaxError}
use Rattle.dx_base.specs.declared.token.SyntaxKind.TheVariants as kind
use Rattle.dx_grammar.specs.Stream as stream
use Rattle.dx_grammar.specs.Stream.{◌>>=◌, ◌>>◌, pure, fail, passes, choose, while, looks}
use Rattle.dx_grammar.specs.Rule.{snoc}
use Rattle.dx_ast.specs.Limits.{max_numbers, max_nested_calls}
use Rattle.dx_ast.specs.declared.constants.Const.{Const}
use Rattle.dx_ast.specs.declared.constants.Const.TheVariants as const
use Rattle.dx_ast.specs.declared.expressions.Expr.{Expr}
use Rattle.dx_ast.specs.declared.expressions.Expr.TheVariants as expr
use Rattle.dx_ast.specs.declared.expressions.Call.{Call, roll-Call}
use Rattle.dx_ast.specs.declared.expressions.Arg.{Arg, roll-Arg}
use Rattle.dx_ast.specs.declared.sequencing.FrameVar.{FrameVar}
use Rattle.dx_ast.specs.declared.sequencing.Word.{Word}
use Rattle.dx_ast.specs.declared.statements.Param.{Param}
use Rattle.dx_ast.specs.declared.statements.MacroDef.{roll-MacroDef}
use Rattle.dx_ast.specs.declared.statements.Stmt.{Stmt}
use Rattle.dx_ast.specs.declared.statements.Stmt.TheVariants as stmt
use Rattle.dx_ast.specs.Classes.{Text, misfit, fault, fault_if, is_sign, is_key, name_in, int_in, text_in, frame_in, sign_of, key_of, name_of, int_of, text_of, frame_of, state_of, word_named, switch_named}
use Rattle.dx_ast.specs.Values.{Found, list_of, with_element, element_fault, is_zero, range, range_fault, attribute_cache, attribute_fault, with_cache, ends_named, name_fault, param_name, call_statement, with_statement}

abbrev pub Tokens : Type 0
Tokens = stream.Stream Lexeme SyntaxError

abbrev pub Parser : Type 0 → Type 0
Parser A = stream.Parser Lexeme SyntaxError A

abbrev pub Outcome : Type 0 → Type 0
Outcome A = stream.Outcome Lexeme SyntaxError A

-- ---- tokens

unfoldable pub name : Parser (Place × Text)
name = stream.one misfit name_of

unfoldable pub int : Parser (Place × ℤ)
int = stream.one misfit int_of

unfoldable pub text : Parser (Place × Text)
text = stream.one misfit text_of

unfoldable pub frame : Parser (Place × FrameVar)
frame = stream.one misfit frame_of

unfoldable pub sign : Text → Parser Place
sign c = stream.one misfit (sign_of c)

unfoldable pub key : Text → Parser Place
key k = stream.one misfit (key_of k)

unfoldable pub state : Word × Word → Parser (Place × Word)
state s = stream.one misfit (state_of s)

unfoldable pub sees_name : Tokens → Bool
sees_name s = looks (λ t. is_some (name_in t.kind)) s

unfoldable pub sees_int : Tokens → Bool
sees_int s = looks (λ t. is_some (int_in t.kind)) s

unfoldable pub sees_text : Tokens → Bool
sees_text s = looks (λ t. is_some (text_in t.kind)) s

unfoldable pub sees_frame : Tokens → Bool
sees_frame s = looks (λ t. is_some (frame_in t.kind)) s

unfoldable pub sees : Text → Tokens → Bool
sees c s = looks (λ t. is_sign c t.kind) s

unfoldable pub sees_key : Text → Tokens → Bool
sees_key k s = looks (λ t. is_key k t.kind) s

unfoldable pub ended : Tokens → Bool
ended s = not (looks (λ t. true) s)

abbrev pub lacks : Text → Tokens → Bool
lacks c s = not (sees c s)

abbrev pub goes_on : Tokens → Bool
goes_on s = not (ended s)

unfoldable pub comma : Parser (Unit {0})
comma = choose (sees (codes ",")) (sign (codes ",") >> pure tt) (pure tt)

-- ---- constants

unfoldable pub number : List ℤ → Parser ℤ
number found = do
  comma
  n ← int
  passes (fault_if (length found == max_numbers) kind.Syntax n.0) n.1

abbrev pub numbers : List ℤ → Parser (List ℤ)
numbers found = while (lacks (codes "]")) number snoc found

unfoldable pub vector : Parser (Place × List ℤ)
vector = do
  first ← sign (codes "[")
  n ← int
  ns ← numbers (n.1 ∷ [])
  sign (codes "]")
  pure (first, ns)

-- a string or a vector
unfoldable pub other_element : Parser (Place × Const)
other_element = choose sees_text (do t ← text; pure (t.0, const.Text t.1)) (do v ← vector; pure (v.0, const.Vector v.1))

unfoldable pub element : Parser (Place × Const)
element = choose sees_int (do n ← int; pure (n.0, const.Int n.1)) other_element

unfoldable pub next_element : Found → Parser Const
next_element found = do
  comma
  e ← element
  passes (element_fault found e.0 e.1) e.1

abbrev pub more_elements : Found → Parser Found
more_elements found = while (lacks (codes "}")) next_element with_element found

unfoldable pub elements_after : Const → Parser Const
elements_after first = do
  found ← more_elements (1, list_of first)
  sign (codes "}")
  pure found.1

unfoldable pub step : Place → Parser (Place × ℤ)
step last = choose (sees (codes ":")) (do sign (codes ":"); d ← int; passes (fault_if (is_zero d.1) kind.NumberRange d.0) d) (pure (last, pos 1))

unfoldable pub range_after : ℤ → Parser Const
range_after a = do
  sign (codes "..")
  b ← int
  d ← step b.0
  sign (codes "}")
  passes (range_fault a b.1 d.0 d.1) (const.Ints (range a b.1 d.1))

-- after a first element that is an integer
unfoldable pub after_int : ℤ → Parser Const
after_int n = choose (sees (codes "..")) (range_after n) (elements_after (const.Int n))

unfoldable pub list : Parser Const
list = sign (codes "{") >> choose (sees (codes "}")) (sign (codes "}") >> pure (const.Ints [])) (choose sees_int (do n ← int; after_int n.1) (do e ← other_element; elements_after e.1))

unfoldable pub constant : Parser Const
constant =
    choose (sees_key (codes "NULL")) (do key (codes "NULL"); pure const.Null)
    (choose sees_int (do n ← int; pure (const.Int n.1))
    (choose sees_text (do t ← text; pure (const.Text t.1))
    (choose (sees (codes "[")) (do v ← vector; pure (const.Vector v.1)) list)))

-- ---- attributes

unfoldable pub attribute_value : Parser (Place × Const)
attribute_value = choose sees_int (do n ← int; pure (n.0, const.Int n.1)) (do t ← text; pure (t.0, const.Text t.1))

unfoldable pub attribute : Parser (Option ℕ)
attribute = do
  n ← name
  sign (codes ":")
  v ← attribute_value
  passes (attribute_fault n.1 v.0 v.1) (attribute_cache n.1 v.1)

unfoldable pub next_attribute : Parser (Option ℕ)
next_attribute = sign (codes ",") >> attribute

abbrev pub more_attributes : ℕ → Parser ℕ
more_attributes found = while (sees (codes ",")) (λ found. next_attribute) with_cache found

unfoldable pub some_attributes : Parser ℕ
some_attributes = do
  sign (codes "[")
  a ← attribute
  cache ← more_attributes (with_cache 1 a)
  sign (codes "]")
  pure cache

unfoldable pub attributes : Parser ℕ
attributes = choose (sees (codes "[")) some_attributes (pure 1)

-- ---- calls and expressions. `whole` reads an expression, `primary` what may follow a name.

abbrev pub named_arg : Parser Expr → Text → Parser Arg
named_arg whole n = do
  sign (codes "=")
  e ← whole
  pure (roll-Arg (record { name = Some n; value = e }))

abbrev pub plain_arg : Parser Expr → Parser Arg
plain_arg whole = do
  e ← whole
  pure (roll-Arg (record { name = None; value = e }))

-- an expression that begins with no name
unfoldable pub nameless : Parser Expr
nameless = choose sees_frame (do v ← frame; pure (expr.Frame v.1)) (do c ← constant; pure (expr.Constant c))

unfoldable pub arg_by : Parser Expr → (Text → Parser Expr) → Bool → Parser Arg
arg_by whole primary true = do
  n ← name
  named_arg whole n.1
arg_by whole primary false = choose sees_name (do n ← name; choose (sees (codes "=")) (named_arg whole n.1) (plain_arg (primary n.1))) (plain_arg nameless)

unfoldable pub next_arg : Parser Expr → (Text → Parser Expr) → Bool → Parser Arg
next_arg whole primary named = sign (codes ",") >> arg_by whole primary named

abbrev pub more_args : Parser Expr → (Text → Parser Expr) → List Arg → Parser (List Arg)
more_args whole primary found = while (sees (codes ",")) (λ found. next_arg whole primary (ends_named found)) snoc found

unfoldable pub some_args : Parser Expr → (Text → Parser Expr) → Parser (List Arg)
some_args whole primary = do
  a ← arg_by whole primary false
  more_args whole primary (a ∷ [])

unfoldable pub args : Parser Expr → (Text → Parser Expr) → Parser (List Arg)
args whole primary = choose (sees (codes ")")) (pure []) (some_args whole primary)

unfoldable pub call_of : Parser Expr → (Text → Parser Expr) → Text → Parser Call
call_of whole primary n = do
  sign (codes "(")
  inside ← args whole primary
  sign (codes ")")
  cache ← attributes
  pure (roll-Call (record { name = n; args = inside; cache = cache }))

unfoldable pub primary_by : (Text → Parser Call) → Text → Parser Expr
primary_by call n = choose (sees (codes "(")) (do c ← call n; pure (expr.Call c)) (pure (expr.Name n))

unfoldable pub expr_by : (Text → Parser Expr) → Parser Expr
expr_by primary = choose sees_name (do n ← name; primary n.1) nameless

unfoldable pub call_after : ℕ → Text → Parser Call
call_after zero n = sign (codes "(") >>= λ p. fail (fault kind.Syntax p)
call_after (suc calls) n = call_of (expr_by (primary_by (call_after calls))) (primary_by (call_after calls)) n

abbrev pub primary : ℕ → Text → Parser Expr
primary calls = primary_by (call_after calls)

abbrev pub expression : ℕ → Parser Expr
expression calls = expr_by (primary calls)

-- ---- statements. `n` is the name that begins one.

unfoldable pub target : Parser Text
target = do
  sign (codes ",")
  n ← name
  pure n.1

abbrev pub targets : List Text → Parser (List Text)
targets found = while (sees (codes ",")) (λ found. target) snoc found

unfoldable pub called : Text → Parser (Option Stmt)
called n = do
  c ← call_after max_nested_calls n
  sign (codes ";")
  pure (call_statement n c)

unfoldable pub single : Text → Parser (Option Stmt)
single n = do
  sign (codes "=")
  e ← expression max_nested_calls
  sign (codes ";")
  pure (Some (stmt.Assign (record { targets = n ∷ []; value = e })))

unfoldable pub several : Text → Parser (Option Stmt)
several n = do
  second ← target
  ns ← targets (n ∷ second ∷ [])
  sign (codes "=")
  f ← name
  c ← call_after max_nested_calls f.1
  sign (codes ";")
  pure (Some (stmt.Assign (record { targets = ns; value = expr.Call c })))

-- after its first name, by what follows; where it is neither a call nor one assignment, the rest decides
unfoldable pub after_name : (Text → Parser (Option Stmt)) → Text → Parser (Option Stmt)
after_name rest n = choose (sees (codes "(")) (called n) (choose (sees (codes "=")) (single n) (rest n))

unfoldable pub statement : Parser (Option Stmt)
statement = do
  n ← name
  after_name several n.1

-- ---- macros

unfoldable pub param : List Param → Parser Param
param found = do
  n ← name
  m ← passes (name_fault (length found) (map param_name found) n.0 n.1) n.1
  choose (sees (codes "=")) (do sign (codes "="); c ← constant; pure (record { name = m; default = Some c })) (pure (record { name = m; default = None }))

unfoldable pub next_param : List Param → Parser Param
next_param found = sign (codes ",") >> param found

abbrev pub more_params : List Param → Parser (List Param)
more_params found = while (sees (codes ",")) next_param snoc found

unfoldable pub params : Parser (List Param)
params = choose sees_name (do p ← param []; more_params (p ∷ [])) (pure [])

unfoldable pub result : List Text → Parser Text
result found = do
  n ← name
  passes (name_fault (length found) found n.0 n.1) n.1

unfoldable pub next_result : List Text → Parser Text
next_result found = sign (codes ",") >> result found

abbrev pub more_results : List Text → Parser (List Text)
more_results found = while (sees (codes ",")) next_result snoc found

unfoldable pub names : Parser (List Text)
names = choose sees_name (do n ← result []; more_results (n ∷ [])) (pure [])

unfoldable pub some_results : Parser (List Text)
some_results = do
  sign (codes "->")
  sign (codes "(")
  all ← names
  sign (codes ")")
  pure all

unfoldable pub results : Parser (List Text)
results = choose (sees (codes "->")) some_results (pure [])

unfoldable pub body_item : Parser (Option Stmt)
body_item = choose (sees (codes ";")) (do sign (codes ";"); pure None) statement

abbrev pub body_items : List Stmt → Parser (List Stmt)
body_items found = while (lacks (codes "}")) (λ found. body_item) with_statement found

unfoldable pub body : Parser (List Stmt)
body = do
  sign (codes "{")
  found ← body_items []
  sign (codes "}")
  pure found

unfoldable pub definition : Parser (Option Stmt)
definition = do
  key (codes "macro")
  n ← name
  sign (codes "(")
  ps ← params
  sign (codes ")")
  rs ← results
  inside ← body
  pure (Some (stmt.Macro (roll-MacroDef (record { name = n.1; params = ps; results = rs; body = inside }))))

-- ---- items

unfoldable pub inclusion : Parser (Option Stmt)
inclusion = do
  key (codes "include")
  t ← text
  pure (Some (stmt.Include t.1))

unfoldable pub frame_value : Parser Expr
frame_value = choose sees_int (do n ← int; pure (expr.Constant (const.Int n.1))) (do v ← frame; pure (expr.Frame v.1))

unfoldable pub frame_setting : Parser (Option Stmt)
frame_setting = do
  v ← frame
  sign (codes "=")
  e ← frame_value
  sign (codes ";")
  pure (Some (stmt.SetFrame v.1 e))

unfoldable pub alone : Word → Parser (Option Stmt)
alone w = do
  sign (codes ";")
  pure (Some (stmt.Word w))

unfoldable pub switched : Word × Word → Parser (Option Stmt)
switched s = do
  w ← state s
  sign (codes ";")
  pure (Some (stmt.Word w.1))

unfoldable pub sequenced : Parser (Option Stmt)
sequenced = do
  n ← name
  c ← call_after max_nested_calls n.1
  sign (codes ";")
  pure (Some (stmt.Sequence c))

-- a name that is no word but maybe `sequence`
unfoldable pub sequence_or_several : Bool → Text → Parser (Option Stmt)
sequence_or_several true n = choose sees_name sequenced (several n)
sequence_or_several false n = several n

unfoldable pub switch_or_several : Option (Word × Word) → Text → Parser (Option Stmt)
switch_or_several (Some s) n = choose sees_name (switched s) (several n)
switch_or_several None n = sequence_or_several (bytes_eq n (codes "sequence")) n

unfoldable pub word_or_several : Option Word → Text → Parser (Option Stmt)
word_or_several (Some w) n = choose (sees (codes ";")) (alone w) (several n)
word_or_several None n = switch_or_several (switch_named n) n

-- a word or a statement
unfoldable pub named : Parser (Option Stmt)
named = do
  n ← name
  after_name (λ n. word_or_several (word_named n) n) n.1

unfoldable pub item : Parser (Option Stmt)
item =
    choose (sees (codes ";")) (do sign (codes ";"); pure None)
    (choose (sees_key (codes "include")) inclusion
    (choose (sees_key (codes "macro")) definition
    (choose sees_frame frame_setting named)))

abbrev pub items : List Stmt → Parser (List Stmt)
items found = while goes_on (λ found. item) with_statement found

-- the whole text
abbrev pub script : Parser (List Stmt)
script = stream.text misfit (items [])
