-- The laws of items and scripts, and the theorem: what is read of a text is its statements, or its first error.
use Rattle.std.proofs.Common.{◌≡◌, true, false, not, List, [], Ok, Err, refl, ap}
use Rattle.std.specs.Prelude.{codes}
use Rattle.dx_base.specs.declared.token.SyntaxError.{SyntaxError}
use Rattle.dx_grammar.specs.Stream.{looks_from}
use Rattle.dx_grammar.specs.FirstError.{IsText, FirstError}
use Rattle.dx_grammar.proofs.Read.{Any, Opens}
use Rattle.dx_grammar.proofs.Compose.{Fills}
use Rattle.dx_grammar.proofs.Many.{Past}
use Rattle.dx_grammar.proofs.Exact as exactly
use Rattle.dx_grammar.proofs.Exact.{emptied}
use Rattle.dx_ast.specs.declared.statements.Stmt.{Stmt}
use Rattle.dx_ast.specs.Classes.{misfit}
use Rattle.dx_ast.specs.Values.{with_statement}
use Rattle.dx_ast.specs.Grammar as grammar
use Rattle.dx_script_grammar.specs.Reading as reading
use Rattle.dx_script_grammar.specs.Reading.{Tokens, sees, sees_key, ended, goes_on}
use Rattle.dx_script_laws.proofs.Tokens.{Reads, done, next, either, first, both, anything, not_so, loop, fills, fills_first, fills_both, int, text, frame, sign, key, sees_near, key_near, int_near, frame_near, end_near, sign_has, sign_goes_on, key_has, key_key, key_lacks, key_goes_on, name_lacks, name_key, name_frame, name_goes_on, frame_lacks, frame_key, frame_frame, frame_int, frame_goes_on, int_int}
use Rattle.dx_script_laws.proofs.Statements.{definition, statement_fills}
use Rattle.dx_script_laws.proofs.Words.{named, named_opens}

-- ---- items

inclusion : Reads grammar.inclusion reading.inclusion Any
unfolding reading.inclusion
inclusion = next (key (codes "include")) (λ _. next text (λ t. done))

frame_value : Reads grammar.frame_value reading.frame_value Any
unfolding reading.frame_value
frame_value = either int_near (first int_int) (next int (λ n. done)) (first frame_int) (next frame (λ v. done))

frame_setting : Reads grammar.frame_setting reading.frame_setting Any
unfolding reading.frame_setting
frame_setting = next frame (λ v. next (sign (codes "=")) (λ _. next frame_value (λ e. next (sign (codes ";")) (λ _. done))))

pub item : Reads grammar.item reading.item Any
unfolding reading.item
item =
    either (sees_near (codes ";")) (first (sign_has (codes ";"))) (next (sign (codes ";")) (λ _. done))
    (both (first (key_lacks (codes "include") (codes ";"))) (both (first (key_lacks (codes "macro") (codes ";"))) (both (first (frame_lacks (codes ";"))) (named_opens (name_lacks (codes ";"))))))
    (either (key_near (codes "include")) (first (key_has (codes "include"))) inclusion
    (both (first (key_key (codes "macro") (codes "include") refl)) (both (first (frame_key (codes "include"))) (named_opens (name_key (codes "include") refl))))
    (either (key_near (codes "macro")) (first (key_has (codes "macro"))) definition
    (both (first (frame_key (codes "macro"))) (named_opens (name_key (codes "macro") refl)))
    (either frame_near (first frame_frame) frame_setting (named_opens name_frame) named)))

pub item_fills : Fills grammar.item
item_fills =
    fills_both (fills_first fills) (fills_both (fills_first fills) (fills_both (fills_first fills) (fills_both (fills_first fills)
    (fills_both (fills_both (fills_first fills) (fills_both (fills_first fills) (fills_first fills))) statement_fills))))

item_goes_on : Opens grammar.item Any (λ u. ended u ≡ false)
item_goes_on = both (first (sign_goes_on (codes ";"))) (both (first (key_goes_on (codes "include"))) (both (first (key_goes_on (codes "macro"))) (both (first frame_goes_on) (named_opens name_goes_on))))

-- ---- scripts

abbrev End : Tokens → Type 0
End = Past goes_on Any

script : Reads grammar.script (reading.items []) End
script = loop {add = with_statement} (λ s u same. ap not (end_near s u same)) (λ found. item) (λ found. item_fills) (λ found. not_so item_goes_on) (λ found. anything) []

-- ---- the theorem

ending : (u : Tokens) → u.tokens ≡ [] → End u
unfolding ended
ending u e = (ap (λ l. not (not (looks_from (λ t. true) l))) e, tt)

pub sound : (s : Tokens) (found : List Stmt) (s' : Tokens) → reading.script s ≡ Ok (found, s') → IsText grammar.script s found
sound s found s' h = exactly.sound misfit grammar.script (reading.items []) End script ending s found s' h

pub only : (s : Tokens) (found : List Stmt) → IsText grammar.script s found → reading.script s ≡ Ok (found, emptied s)
only s found d = exactly.only misfit grammar.script (reading.items []) End script ending s found d

pub exact : (s : Tokens) (f : SyntaxError) (s' : Tokens) → reading.script s ≡ Err (f, s') → FirstError misfit grammar.script s f
exact s f s' h = exactly.exact misfit grammar.script (reading.items []) End script ending s f s' h

pub determined : (s : Tokens) (f g : SyntaxError) → FirstError misfit grammar.script s f → FirstError misfit grammar.script s g → f ≡ g
determined s f g x y = exactly.determined misfit grammar.script s f g x y
