-- The classes of tokens: each is read, and what its tokens look like to the looks of the reading functions.
use Rattle.std.proofs.Common.{◌≡◌, pos, Bool, true, false, not, cond, List, [], ◌∷◌, Option, Some, None, refl, sym, ap, subst}
use Rattle.std.specs.Prelude.{is_some, codes}
use Rattle.std.specs.Str.{bytes_eq}
use Rattle.std.proofs.lemmas.Slice.Eq.{bytes_eq-Decides}
use Rattle.dx_base.specs.declared.token.Place.{Place}
use Rattle.dx_base.specs.declared.token.LexKind.{LexKind}
use Rattle.dx_base.specs.declared.token.LexKind.TheVariants as token
use Rattle.dx_base.specs.declared.token.Lexeme.{Lexeme}
use Rattle.dx_base.specs.declared.token.SyntaxError.{SyntaxError}
use Rattle.dx_grammar.specs.Stream.{◌>>◌, looks, looks_from, while}
use Rattle.dx_grammar.specs.Rule.{nothing, refused, one, unless, more, ◌∣◌}
use Rattle.dx_grammar.specs.Rule as rule
use Rattle.dx_grammar.proofs.Read as read
use Rattle.dx_grammar.proofs.Read.{Any, Opens, Alike, Same}
use Rattle.dx_grammar.proofs.Many.{Past}
use Rattle.dx_grammar.proofs.Compose as compose
use Rattle.dx_grammar.proofs.Compose.{Fills, opens_one, looks_near}
use Rattle.dx_grammar.proofs.Laws as laws
pub use Rattle.dx_grammar.proofs.Laws.{done, check, refuses, next, after, either, loop, in_other_words, where_less, turn, less, first, second, both, nothing_more, ends, anything, not_so, opens_in_other_words, twice, more_opens, fills, fills_first, fills_second, fills_both}
use Rattle.dx_ast.specs.declared.sequencing.FrameVar.TheVariants as frames
use Rattle.dx_ast.specs.declared.sequencing.Word.{Word}
use Rattle.dx_ast.specs.Classes.{Text, misfit, is_sign, is_key, is_reserved, place_if, at, name_text, name_in, int_in, text_in, frame_in, spelled, state_named, sign_of, key_of, name_of, int_of, text_of, frame_of, state_of}
use Rattle.dx_ast.specs.Grammar as grammar
use Rattle.dx_ast.specs.Grammar.{Rule}
use Rattle.dx_script_grammar.specs.Reading as reading
use Rattle.dx_script_grammar.specs.Reading.{Tokens, Parser, sees, sees_key, sees_name, sees_int, sees_text, sees_frame, lacks, ended}

abbrev pub Reads : {A : Type 0} → Rule A → Parser A → (Tokens → Type 0) → Type 0
Reads X P Stop = read.Reads misfit X P Stop

-- ---- a look depends on the next token alone

pub sees_near : (c : Text) (s u : Tokens) → Alike s u → sees c s ≡ sees c u
unfolding sees
sees_near c s u same = looks_near (λ t. is_sign c t.kind) s u same

pub key_near : (k : Text) (s u : Tokens) → Alike s u → sees_key k s ≡ sees_key k u
unfolding sees_key
key_near k s u same = looks_near (λ t. is_key k t.kind) s u same

pub name_near : (s u : Tokens) → Alike s u → sees_name s ≡ sees_name u
unfolding sees_name
name_near s u same = looks_near (λ t. is_some (name_in t.kind)) s u same

pub int_near : (s u : Tokens) → Alike s u → sees_int s ≡ sees_int u
unfolding sees_int
int_near s u same = looks_near (λ t. is_some (int_in t.kind)) s u same

pub text_near : (s u : Tokens) → Alike s u → sees_text s ≡ sees_text u
unfolding sees_text
text_near s u same = looks_near (λ t. is_some (text_in t.kind)) s u same

pub frame_near : (s u : Tokens) → Alike s u → sees_frame s ≡ sees_frame u
unfolding sees_frame
frame_near s u same = looks_near (λ t. is_some (frame_in t.kind)) s u same

pub end_near : (s u : Tokens) → Alike s u → ended s ≡ ended u
unfolding ended
end_near s u same = ap not (looks_near (λ t. true) s u same)

-- ---- kinds of tokens apart

-- two texts that differ: what is written as one isn't written as the other
apart : (c d x : Text) → bytes_eq c d ≡ false → bytes_eq x c ≡ true → bytes_eq x d ≡ false
apart c d x e h = subst (λ (y : Text). bytes_eq y d ≡ false) (sym ((bytes_eq-Decides x c).0 h)) e

signs_apart : (c d : Text) → bytes_eq c d ≡ false → (k : LexKind) → is_sign c k ≡ true → is_sign d k ≡ false
signs_apart c d e (token.Sign x) h = apart c d x e h
signs_apart c d e _ h = absurd cc

keys_apart : (c d : Text) → bytes_eq c d ≡ false → (k : LexKind) → is_key c k ≡ true → is_key d k ≡ false
keys_apart c d e (token.Name x) h = apart c d x e h
keys_apart c d e _ h = absurd cc

sign_is_no_name : (c : Text) (k : LexKind) → is_sign c k ≡ true → is_some (name_in k) ≡ false
sign_is_no_name c (token.Sign x) h = refl
sign_is_no_name c _ h = absurd cc

sign_is_no_int : (c : Text) (k : LexKind) → is_sign c k ≡ true → is_some (int_in k) ≡ false
sign_is_no_int c (token.Sign x) h = refl
sign_is_no_int c _ h = absurd cc

sign_is_no_text : (c : Text) (k : LexKind) → is_sign c k ≡ true → is_some (text_in k) ≡ false
sign_is_no_text c (token.Sign x) h = refl
sign_is_no_text c _ h = absurd cc

sign_is_no_frame : (c : Text) (k : LexKind) → is_sign c k ≡ true → is_some (frame_in k) ≡ false
sign_is_no_frame c (token.Sign x) h = refl
sign_is_no_frame c _ h = absurd cc

sign_is_no_key : (c d : Text) (k : LexKind) → is_sign c k ≡ true → is_key d k ≡ false
sign_is_no_key c d (token.Sign x) h = refl
sign_is_no_key c d _ h = absurd cc

key_is_no_sign : (c d : Text) (k : LexKind) → is_key c k ≡ true → is_sign d k ≡ false
key_is_no_sign c d (token.Name x) h = refl
key_is_no_sign c d _ h = absurd cc

key_is_no_int : (c : Text) (k : LexKind) → is_key c k ≡ true → is_some (int_in k) ≡ false
key_is_no_int c (token.Name x) h = refl
key_is_no_int c _ h = absurd cc

key_is_no_text : (c : Text) (k : LexKind) → is_key c k ≡ true → is_some (text_in k) ≡ false
key_is_no_text c (token.Name x) h = refl
key_is_no_text c _ h = absurd cc

key_is_no_frame : (c : Text) (k : LexKind) → is_key c k ≡ true → is_some (frame_in k) ≡ false
key_is_no_frame c (token.Name x) h = refl
key_is_no_frame c _ h = absurd cc

reserved_is_no_name : (b : Bool) (n : Text) → b ≡ true → is_some (cond b None (Some n)) ≡ false
reserved_is_no_name true n e = refl
reserved_is_no_name false n e = absurd cc

key_is_no_name : (c : Text) → is_reserved c ≡ true → (k : LexKind) → is_key c k ≡ true → is_some (name_in k) ≡ false
key_is_no_name c r (token.Name x) h = reserved_is_no_name (is_reserved x) x (subst (λ (y : Text). is_reserved y ≡ true) (sym ((bytes_eq-Decides x c).0 h)) r)
key_is_no_name c r _ h = absurd cc

name_is_no_sign : (c : Text) (k : LexKind) → is_some (name_in k) ≡ true → is_sign c k ≡ false
name_is_no_sign c (token.Name x) h = refl
name_is_no_sign c _ h = absurd cc

name_is_no_int : (k : LexKind) → is_some (name_in k) ≡ true → is_some (int_in k) ≡ false
name_is_no_int (token.Name x) h = refl
name_is_no_int _ h = absurd cc

name_is_no_frame : (k : LexKind) → is_some (name_in k) ≡ true → is_some (frame_in k) ≡ false
name_is_no_frame (token.Name x) h = refl
name_is_no_frame _ h = absurd cc

-- a name isn't reserved
pub free : (n : Text) (b : Bool) → is_some (cond b None (Some n)) ≡ true → b ≡ false
free n true h = absurd cc
free n false h = refl

is_false : (b : Bool) → (b ≡ true → ⊥) → b ≡ false
is_false true h = absurd (h refl)
is_false false h = refl

name_is_no_key : (c : Text) → is_reserved c ≡ true → (k : LexKind) → is_some (name_in k) ≡ true → is_key c k ≡ false
name_is_no_key c r (token.Name x) h = is_false (bytes_eq x c) (λ e.
    let now : is_reserved x ≡ true = subst (λ (y : Text). is_reserved y ≡ true) (sym ((bytes_eq-Decides x c).0 e)) r in
    let not : is_reserved x ≡ false = free x (is_reserved x) h in
    absurd cc)
name_is_no_key c r _ h = absurd cc

int_is_no_sign : (c : Text) (k : LexKind) → is_some (int_in k) ≡ true → is_sign c k ≡ false
int_is_no_sign c (token.Int x) h = refl
int_is_no_sign c _ h = absurd cc

int_is_no_name : (k : LexKind) → is_some (int_in k) ≡ true → is_some (name_in k) ≡ false
int_is_no_name (token.Int x) h = refl
int_is_no_name _ h = absurd cc

int_is_no_key : (c : Text) (k : LexKind) → is_some (int_in k) ≡ true → is_key c k ≡ false
int_is_no_key c (token.Int x) h = refl
int_is_no_key c _ h = absurd cc

int_is_no_frame : (k : LexKind) → is_some (int_in k) ≡ true → is_some (frame_in k) ≡ false
int_is_no_frame (token.Int x) h = refl
int_is_no_frame _ h = absurd cc

text_is_no_sign : (c : Text) (k : LexKind) → is_some (text_in k) ≡ true → is_sign c k ≡ false
text_is_no_sign c (token.Text x) h = refl
text_is_no_sign c _ h = absurd cc

text_is_no_name : (k : LexKind) → is_some (text_in k) ≡ true → is_some (name_in k) ≡ false
text_is_no_name (token.Text x) h = refl
text_is_no_name _ h = absurd cc

text_is_no_int : (k : LexKind) → is_some (text_in k) ≡ true → is_some (int_in k) ≡ false
text_is_no_int (token.Text x) h = refl
text_is_no_int _ h = absurd cc

text_is_no_key : (c : Text) (k : LexKind) → is_some (text_in k) ≡ true → is_key c k ≡ false
text_is_no_key c (token.Text x) h = refl
text_is_no_key c _ h = absurd cc

text_is_no_frame : (k : LexKind) → is_some (text_in k) ≡ true → is_some (frame_in k) ≡ false
text_is_no_frame (token.Text x) h = refl
text_is_no_frame _ h = absurd cc

frame_is_no_sign : (c : Text) (k : LexKind) → is_some (frame_in k) ≡ true → is_sign c k ≡ false
frame_is_no_sign c (token.Frame x) h = refl
frame_is_no_sign c _ h = absurd cc

frame_is_no_name : (k : LexKind) → is_some (frame_in k) ≡ true → is_some (name_in k) ≡ false
frame_is_no_name (token.Frame x) h = refl
frame_is_no_name _ h = absurd cc

frame_is_no_int : (k : LexKind) → is_some (frame_in k) ≡ true → is_some (int_in k) ≡ false
frame_is_no_int (token.Frame x) h = refl
frame_is_no_int _ h = absurd cc

frame_is_no_key : (c : Text) (k : LexKind) → is_some (frame_in k) ≡ true → is_key c k ≡ false
frame_is_no_key c (token.Frame x) h = refl
frame_is_no_key c _ h = absurd cc

-- ---- a class by what its tokens look like

abbrev pub Like : (LexKind → Bool) → Bool → Tokens → Type 0
Like like b u = looks (λ t. like t.kind) u ≡ b

placed : (b : Bool) (p q : Place) → place_if b p ≡ Some q → b ≡ true
placed true p q e = refl
placed false p q e = absurd cc

valued : {A : Type 0} (o : Option A) (p : Place) (a : Place × A) → at p o ≡ Some a → is_some o ≡ true
valued (Some v) p a e = refl
valued None p a e = absurd cc

opens_placed : (class : LexKind → Bool) (like : LexKind → Bool) (b : Bool) → ((k : LexKind) → class k ≡ true → like k ≡ b) → Opens (one {F = SyntaxError} (λ (t : Lexeme). place_if (class t.kind) t.from)) Any (Like like b)
opens_placed class like b h = opens_one (λ (t : Lexeme). place_if (class t.kind) t.from) Any (Like like b) (λ t a e u. h t.kind (placed (class t.kind) t.from a e))

opens_valued : {A : Type 0} (class : LexKind → Option A) (like : LexKind → Bool) (b : Bool) → ((k : LexKind) → is_some (class k) ≡ true → like k ≡ b) → Opens (one {F = SyntaxError} (λ (t : Lexeme). at t.from (class t.kind))) Any (Like like b)
opens_valued class like b h = opens_one (λ (t : Lexeme). at t.from (class t.kind)) Any (Like like b) (λ t a e u. h t.kind (valued (class t.kind) t.from a e))

-- ---- signs

pub sign_has : (c : Text) → Opens (grammar.sign c) Any (λ u. sees c u ≡ true)
unfolding sees
sign_has c = opens_placed (is_sign c) (is_sign c) true (λ k h. h)

pub sign_lacks : (c d : Text) → bytes_eq c d ≡ false → Opens (grammar.sign c) Any (λ u. sees d u ≡ false)
unfolding sees
sign_lacks c d e = opens_placed (is_sign c) (is_sign d) false (signs_apart c d e)

pub sign_name : (c : Text) → Opens (grammar.sign c) Any (λ u. sees_name u ≡ false)
unfolding sees_name
sign_name c = opens_placed (is_sign c) (λ k. is_some (name_in k)) false (sign_is_no_name c)

pub sign_int : (c : Text) → Opens (grammar.sign c) Any (λ u. sees_int u ≡ false)
unfolding sees_int
sign_int c = opens_placed (is_sign c) (λ k. is_some (int_in k)) false (sign_is_no_int c)

pub sign_text : (c : Text) → Opens (grammar.sign c) Any (λ u. sees_text u ≡ false)
unfolding sees_text
sign_text c = opens_placed (is_sign c) (λ k. is_some (text_in k)) false (sign_is_no_text c)

pub sign_frame : (c : Text) → Opens (grammar.sign c) Any (λ u. sees_frame u ≡ false)
unfolding sees_frame
sign_frame c = opens_placed (is_sign c) (λ k. is_some (frame_in k)) false (sign_is_no_frame c)

pub sign_key : (c k : Text) → Opens (grammar.sign c) Any (λ u. sees_key k u ≡ false)
unfolding sees_key
sign_key c d = opens_placed (is_sign c) (is_key d) false (sign_is_no_key c d)

pub sign_goes_on : (c : Text) → Opens (grammar.sign c) Any (λ u. ended u ≡ false)
unfolding ended
sign_goes_on c = compose.opens_not (grammar.sign c) Any (λ u. looks (λ t. true) u) true (opens_placed (is_sign c) (λ k. true) true (λ k h. refl))

-- ---- key words

pub key_has : (k : Text) → Opens (grammar.key k) Any (λ u. sees_key k u ≡ true)
unfolding sees_key
key_has k = opens_placed (is_key k) (is_key k) true (λ k h. h)

pub key_key : (k d : Text) → bytes_eq k d ≡ false → Opens (grammar.key k) Any (λ u. sees_key d u ≡ false)
unfolding sees_key
key_key k d e = opens_placed (is_key k) (is_key d) false (keys_apart k d e)

pub key_lacks : (k c : Text) → Opens (grammar.key k) Any (λ u. sees c u ≡ false)
unfolding sees
key_lacks k c = opens_placed (is_key k) (is_sign c) false (key_is_no_sign k c)

pub key_name : (k : Text) → is_reserved k ≡ true → Opens (grammar.key k) Any (λ u. sees_name u ≡ false)
unfolding sees_name
key_name k r = opens_placed (is_key k) (λ k. is_some (name_in k)) false (key_is_no_name k r)

pub key_int : (k : Text) → Opens (grammar.key k) Any (λ u. sees_int u ≡ false)
unfolding sees_int
key_int k = opens_placed (is_key k) (λ k. is_some (int_in k)) false (key_is_no_int k)

pub key_text : (k : Text) → Opens (grammar.key k) Any (λ u. sees_text u ≡ false)
unfolding sees_text
key_text k = opens_placed (is_key k) (λ k. is_some (text_in k)) false (key_is_no_text k)

pub key_frame : (k : Text) → Opens (grammar.key k) Any (λ u. sees_frame u ≡ false)
unfolding sees_frame
key_frame k = opens_placed (is_key k) (λ k. is_some (frame_in k)) false (key_is_no_frame k)

pub key_goes_on : (k : Text) → Opens (grammar.key k) Any (λ u. ended u ≡ false)
unfolding ended
key_goes_on k = compose.opens_not (grammar.key k) Any (λ u. looks (λ t. true) u) true (opens_placed (is_key k) (λ k. true) true (λ k h. refl))

-- ---- names

pub name_name : Opens grammar.name Any (λ u. sees_name u ≡ true)
unfolding sees_name
name_name = opens_valued name_in (λ k. is_some (name_in k)) true (λ k h. h)

pub name_lacks : (c : Text) → Opens grammar.name Any (λ u. sees c u ≡ false)
unfolding sees
name_lacks c = opens_valued name_in (is_sign c) false (name_is_no_sign c)

pub name_key : (k : Text) → is_reserved k ≡ true → Opens grammar.name Any (λ u. sees_key k u ≡ false)
unfolding sees_key
name_key k r = opens_valued name_in (is_key k) false (name_is_no_key k r)

pub name_frame : Opens grammar.name Any (λ u. sees_frame u ≡ false)
unfolding sees_frame
name_frame = opens_valued name_in (λ k. is_some (frame_in k)) false name_is_no_frame

pub name_goes_on : Opens grammar.name Any (λ u. ended u ≡ false)
unfolding ended
name_goes_on = compose.opens_not grammar.name Any (λ u. looks (λ t. true) u) true (opens_valued name_in (λ k. true) true (λ k h. refl))

-- ---- integers

pub int_int : Opens grammar.int Any (λ u. sees_int u ≡ true)
unfolding sees_int
int_int = opens_valued int_in (λ k. is_some (int_in k)) true (λ k h. h)

pub int_lacks : (c : Text) → Opens grammar.int Any (λ u. sees c u ≡ false)
unfolding sees
int_lacks c = opens_valued int_in (is_sign c) false (int_is_no_sign c)

pub int_name : Opens grammar.int Any (λ u. sees_name u ≡ false)
unfolding sees_name
int_name = opens_valued int_in (λ k. is_some (name_in k)) false int_is_no_name

pub int_key : (k : Text) → Opens grammar.int Any (λ u. sees_key k u ≡ false)
unfolding sees_key
int_key k = opens_valued int_in (is_key k) false (int_is_no_key k)

pub int_frame : Opens grammar.int Any (λ u. sees_frame u ≡ false)
unfolding sees_frame
int_frame = opens_valued int_in (λ k. is_some (frame_in k)) false int_is_no_frame

-- ---- strings

pub text_text : Opens grammar.text Any (λ u. sees_text u ≡ true)
unfolding sees_text
text_text = opens_valued text_in (λ k. is_some (text_in k)) true (λ k h. h)

pub text_lacks : (c : Text) → Opens grammar.text Any (λ u. sees c u ≡ false)
unfolding sees
text_lacks c = opens_valued text_in (is_sign c) false (text_is_no_sign c)

pub text_name : Opens grammar.text Any (λ u. sees_name u ≡ false)
unfolding sees_name
text_name = opens_valued text_in (λ k. is_some (name_in k)) false text_is_no_name

pub text_int : Opens grammar.text Any (λ u. sees_int u ≡ false)
unfolding sees_int
text_int = opens_valued text_in (λ k. is_some (int_in k)) false text_is_no_int

pub text_key : (k : Text) → Opens grammar.text Any (λ u. sees_key k u ≡ false)
unfolding sees_key
text_key k = opens_valued text_in (is_key k) false (text_is_no_key k)

pub text_frame : Opens grammar.text Any (λ u. sees_frame u ≡ false)
unfolding sees_frame
text_frame = opens_valued text_in (λ k. is_some (frame_in k)) false text_is_no_frame

-- ---- frame variables

pub frame_frame : Opens grammar.frame Any (λ u. sees_frame u ≡ true)
unfolding sees_frame
frame_frame = opens_valued frame_in (λ k. is_some (frame_in k)) true (λ k h. h)

pub frame_lacks : (c : Text) → Opens grammar.frame Any (λ u. sees c u ≡ false)
unfolding sees
frame_lacks c = opens_valued frame_in (is_sign c) false (frame_is_no_sign c)

pub frame_name : Opens grammar.frame Any (λ u. sees_name u ≡ false)
unfolding sees_name
frame_name = opens_valued frame_in (λ k. is_some (name_in k)) false frame_is_no_name

pub frame_int : Opens grammar.frame Any (λ u. sees_int u ≡ false)
unfolding sees_int
frame_int = opens_valued frame_in (λ k. is_some (int_in k)) false frame_is_no_int

pub frame_key : (k : Text) → Opens grammar.frame Any (λ u. sees_key k u ≡ false)
unfolding sees_key
frame_key k = opens_valued frame_in (is_key k) false (frame_is_no_key k)

pub frame_goes_on : Opens grammar.frame Any (λ u. ended u ≡ false)
unfolding ended
frame_goes_on = compose.opens_not grammar.frame Any (λ u. looks (λ t. true) u) true (opens_valued frame_in (λ k. true) true (λ k h. refl))

-- ---- the states of a switch, which are names

named_state : (s : Word × Word) (n : Text) (a b : Bool) → bytes_eq n (codes "on") ≡ a → bytes_eq n (codes "off") ≡ b → is_some (cond a (Some s.0) (cond b (Some s.1) None)) ≡ true → is_some (name_text n) ≡ true
named_state s n true b e g h = subst (λ (m : Text). is_some (name_text m) ≡ true) (sym ((bytes_eq-Decides n (codes "on")).0 e)) refl
named_state s n false true e g h = subst (λ (m : Text). is_some (name_text m) ≡ true) (sym ((bytes_eq-Decides n (codes "off")).0 g)) refl
named_state s n false false e g h = absurd cc

state_is_name : (s : Word × Word) (k : LexKind) → is_some (spelled (state_named s) k) ≡ true → is_some (name_in k) ≡ true
state_is_name s (token.Name n) h = named_state s n (bytes_eq n (codes "on")) (bytes_eq n (codes "off")) refl refl h
state_is_name s _ h = absurd cc

pub state_name : (s : Word × Word) → Opens (one {F = SyntaxError} (state_of s)) Any (λ u. sees_name u ≡ true)
unfolding sees_name
state_name s = opens_valued (spelled (state_named s)) (λ k. is_some (name_in k)) true (state_is_name s)

pub state_lacks : (s : Word × Word) (c : Text) → Opens (one {F = SyntaxError} (state_of s)) Any (λ u. sees c u ≡ false)
unfolding sees
state_lacks s c = opens_valued (spelled (state_named s)) (is_sign c) false (λ k h. name_is_no_sign c k (state_is_name s k h))

-- ---- looks apart

sees_by : (like other : LexKind → Bool) → ((k : LexKind) → like k ≡ true → other k ≡ false) → (l : List Lexeme) → looks_from (λ t. like t.kind) l ≡ true → looks_from (λ t. other t.kind) l ≡ false
sees_by like other h [] e = refl
sees_by like other h (t ∷ l) e = h t.kind e

-- one sign is no other
pub sees_only : (c d : Text) → bytes_eq c d ≡ false → (u : Tokens) → sees c u ≡ true → sees d u ≡ false
unfolding sees
sees_only c d e u h = sees_by (is_sign c) (is_sign d) (signs_apart c d e) u.tokens h

pub sees_no_name : (c : Text) (u : Tokens) → sees c u ≡ true → sees_name u ≡ false
unfolding sees sees_name
sees_no_name c u h = sees_by (is_sign c) (λ k. is_some (name_in k)) (sign_is_no_name c) u.tokens h

-- ---- each is read

abbrev somewhere : Place
somewhere = record { offset = 0; line = 0; column = 0 }

abbrev lexeme : LexKind → Lexeme
lexeme k = record { kind = k; from = somewhere; to = somewhere }

pub name : Reads grammar.name reading.name Any
unfolding reading.name
name = compose.reads_one misfit name_of (lexeme (token.Name [])) (somewhere, []) refl

pub int : Reads grammar.int reading.int Any
unfolding reading.int
int = compose.reads_one misfit int_of (lexeme (token.Int (pos 0))) (somewhere, pos 0) refl

pub text : Reads grammar.text reading.text Any
unfolding reading.text
text = compose.reads_one misfit text_of (lexeme (token.Text [])) (somewhere, []) refl

pub frame : Reads grammar.frame reading.frame Any
unfolding reading.frame
frame = compose.reads_one misfit frame_of (lexeme (token.Frame (codes "@frame"))) (somewhere, frames.Frame) refl

same : (c : Text) → bytes_eq c c ≡ true
same c = (bytes_eq-Decides c c).1 refl

pub sign : (c : Text) → Reads (grammar.sign c) (reading.sign c) Any
unfolding reading.sign
sign c = compose.reads_one misfit (sign_of c) (lexeme (token.Sign c)) somewhere (ap (λ b. place_if b somewhere) (same c))

pub key : (k : Text) → Reads (grammar.key k) (reading.key k) Any
unfolding reading.key
key k = compose.reads_one misfit (key_of k) (lexeme (token.Name k)) somewhere (ap (λ b. place_if b somewhere) (same k))

pub state : (s : Word × Word) → Reads (one (state_of s)) (reading.state s) Any
unfolding reading.state
state s = compose.reads_one misfit (state_of s) (lexeme (token.Name (codes "on"))) (somewhere, s.0) refl

-- ---- loops

-- items up to a sign that closes them
pub until : {A S : Type 0} {X : S → Rule A} {P : S → Parser A} {add : S → A → S} (c : Text) → ((found : S) → Reads (X found) (P found) Any) → ((found : S) → Fills (X found)) → ((found : S) → Opens (X found) Any (λ u. sees c u ≡ false))
    → (found : S) → Reads (more X add found) (while (lacks c) P add found) (λ u. sees c u ≡ true)
until {A} {S} {X} {P} {add} c each full opens found = laws.until {X = X} {add = add} (sees c) (sees_near c) each full opens found

-- a comma and an item, any number of times
pub commas : {A S : Type 0} {X : S → Rule A} {P : S → Parser A} {add : S → A → S} {Mid : Tokens → Type 0} → Opens (grammar.sign (codes ",")) Any Mid → ((found : S) → Reads (X found) (P found) Mid)
    → (found : S) → Reads (more (λ found. rule.◌>>◌ (grammar.sign (codes ",")) (X found)) add found) (while (sees (codes ",")) (λ found. reading.sign (codes ",") >> P found) add found) (Past (sees (codes ",")) Mid)
commas {A} {S} {X} {P} {add} {Mid} comma each found = laws.separated {X = X} {add = add} (sees_near (codes ",")) (sign (codes ",")) fills (sign_has (codes ",")) comma each found
