-- The laws of items that begin with a name: the words of the sequencer, which are names elsewhere, and statements.
use Rattle.std.proofs.Common.{◌≡◌, Bool, true, false, cond, List, ◌⊎◌, inl, inr, Option, Some, None, refl, sym, ap, subst, ◌∙◌}
use Rattle.std.specs.Prelude.{codes, is_some}
use Rattle.std.specs.Str.{bytes_eq}
use Rattle.std.proofs.lemmas.Slice.Eq.{bytes_eq-Decides}
use Rattle.dx_base.specs.declared.token.Place.{Place}
use Rattle.dx_base.specs.declared.token.LexKind.{LexKind}
use Rattle.dx_base.specs.declared.token.LexKind.TheVariants as token
use Rattle.dx_base.specs.declared.token.Lexeme.{Lexeme}
use Rattle.dx_base.specs.declared.token.SyntaxError.{SyntaxError}
use Rattle.dx_grammar.specs.Rule.{nothing, one, ◌∣◌, ◌>>=◌, ◌>>◌}
use Rattle.dx_grammar.proofs.Read.{Any, Opens, Same}
use Rattle.dx_grammar.proofs.Compose as compose
use Rattle.dx_grammar.proofs.Words.{same_refl, same_trans, same_then}
use Rattle.dx_ast.specs.declared.sequencing.Word.{Word}
use Rattle.dx_ast.specs.declared.statements.Stmt.{Stmt}
use Rattle.dx_ast.specs.declared.statements.Stmt.TheVariants as stmt
use Rattle.dx_ast.specs.Classes.{Text, is_reserved, is_key, name_in, name_of, key_of, place_if, at, spelled, word_named, switch_named, word_of, switch_of, state_of}
use Rattle.dx_ast.specs.Grammar as grammar
use Rattle.dx_ast.specs.Grammar.{Rule}
use Rattle.dx_script_grammar.specs.Reading as reading
use Rattle.dx_script_grammar.specs.Reading.{Tokens, sees}
use Rattle.dx_script_laws.proofs.Tokens.{Reads, done, next, after, either, first, in_other_words, opens_in_other_words, both, name, sign, state, sees_near, name_near, sign_has, sign_lacks, name_lacks, name_name, state_name, state_lacks}
use Rattle.dx_script_laws.proofs.Calls.{call}
use Rattle.dx_script_laws.proofs.Statements.{Called, Single, Several, several, several_lacks, several_name, after_name}

-- ---- a class of tokens that are names

-- nothing is so
abbrev Never : {A : Type 0} → Rule A
Never = record { is = λ ts a. ⊥; forbids = λ ts f. ⊥ }

-- the rule of the value, if there is one
abbrev When : {V A : Type 0} → Option V → (V → Rule A) → Rule A
When (Some v) Y = Y v
When None Y = Never

-- a token of the class is a name, and its value is that which the name has
record Names {V : Type 0} (class : Lexeme → Option V) (value : Place × Text → Option V) : Type 0 where
  same : (t : Lexeme) (n : Place × Text) → name_of t ≡ Some n → class t ≡ value n
  is_name : (t : Lexeme) (v : V) → class t ≡ Some v → (n : Place × Text) × (name_of t ≡ Some n)

module _ {V A : Type 0} (class : Lexeme → Option V) (value : Place × Text → Option V) (names : Names class value) (Y : V → Rule A) where
  there_by : (o : Option V) (t : Lexeme) → class t ≡ o → (y : List Lexeme) (a : A) → (When o Y).is y a → (v : V) × (class t ≡ Some v) × (Y v).is y a
  there_by (Some v) t e y a d = (v, e, d)
  there_by None t e y a d = elim d [ ]

  no_there_by : (o : Option V) (t : Lexeme) → class t ≡ o → (y : List Lexeme) (f : SyntaxError) → (When o Y).forbids y f → (v : V) × (class t ≡ Some v) × (Y v).forbids y f
  no_there_by (Some v) t e y f d = (v, e, d)
  no_there_by None t e y f d = elim d [ ]

  there : (ts : List Lexeme) (a : A) → (grammar.name >>= λ n. When (value n) Y).is ts a → (one class >>= Y).is ts a
  there ts a (x, y, n, e, (t, xe, te), d) = let h = there_by (value n) t (names.same t n te) y a d in (x, y, h.0, e, (t, xe, h.1), h.2)

  no_there : (ts : List Lexeme) (f : SyntaxError) → (grammar.name >>= λ n. When (value n) Y).forbids ts f → (one class >>= Y).forbids ts f
  no_there ts f (inl d) = inl d
  no_there ts f (inr (x, y, n, e, (t, xe, te), d)) = let h = no_there_by (value n) t (names.same t n te) y f d in inr (x, y, h.0, e, (t, xe, h.1), h.2)

  back : (ts : List Lexeme) (a : A) → (one class >>= Y).is ts a → (grammar.name >>= λ n. When (value n) Y).is ts a
  back ts a (x, y, v, e, (t, xe, te), d) =
      let n = names.is_name t v te in
      (x, y, n.0, e, (t, xe, n.1), subst (λ (o : Option V). (When o Y).is y a) (sym te ∙ names.same t n.0 n.1) d)

  no_back : (ts : List Lexeme) (f : SyntaxError) → (one class >>= Y).forbids ts f → (grammar.name >>= λ n. When (value n) Y).forbids ts f
  no_back ts f (inl d) = inl d
  no_back ts f (inr (x, y, v, e, (t, xe, te), d)) =
      let n = names.is_name t v te in
      inr (x, y, n.0, e, (t, xe, n.1), subst (λ (o : Option V). (When o Y).forbids y f) (sym te ∙ names.same t n.0 n.1) d)

  same_class : Same (grammar.name >>= λ n. When (value n) Y) (one class >>= Y)
  same_class = record { there = there; back = back; forbids_there = no_there; forbids_back = no_back }

-- ---- the words are names

name_at : (b : Bool) (p : Place) (m : Text) (n : Place × Text) → at p (cond b None (Some m)) ≡ Some n → (p, m) ≡ n
name_at true p m n e = absurd cc
name_at false p m n e = cc

name_free : (b : Bool) (p : Place) (m : Text) → b ≡ false → at p (cond b None (Some m)) ≡ Some (p, m)
name_free b p m e = ap (λ b. at p (cond b None (Some m))) e

is_at : {A : Type 0} (o : Option A) (p : Place) (v : Place × A) → at p o ≡ Some v → is_some o ≡ true
is_at (Some a) p v e = refl
is_at None p v e = absurd cc

spelled_names : {A : Type 0} (says : Text → Option A) → ((n : Text) → is_some (says n) ≡ true → is_reserved n ≡ false) → Names (λ t. at t.from (spelled says t.kind)) (λ n. at n.0 (says n.1))
spelled_names {A} says unreserved = record { same = λ t n e. same t.kind t.from n e; is_name = λ t v e. is_name t.kind t.from v e }
  where
    same : (k : LexKind) (p : Place) (n : Place × Text) → at p (name_in k) ≡ Some n → at p (spelled says k) ≡ at n.0 (says n.1)
    same (token.Name m) p n e = ap (λ (n : Place × Text). at n.0 (says n.1)) (name_at (is_reserved m) p m n e)
    same _ p n e = absurd cc

    is_name : (k : LexKind) (p : Place) (v : Place × A) → at p (spelled says k) ≡ Some v → (n : Place × Text) × (at p (name_in k) ≡ Some n)
    is_name (token.Name m) p v e = ((p, m), name_free (is_reserved m) p m (unreserved m (is_at (says m) p v e)))
    is_name _ p v e = absurd cc

is_placed : (b : Bool) (p v : Place) → place_if b p ≡ Some v → b ≡ true
is_placed true p v e = refl
is_placed false p v e = absurd cc

key_names : (word : Text) → is_reserved word ≡ false → Names (key_of word) (λ n. place_if (bytes_eq n.1 word) n.0)
key_names word unreserved = record { same = λ t n e. same t.kind t.from n e; is_name = λ t v e. is_name t.kind t.from v e }
  where
    same : (k : LexKind) (p : Place) (n : Place × Text) → at p (name_in k) ≡ Some n → place_if (is_key word k) p ≡ place_if (bytes_eq n.1 word) n.0
    same (token.Name m) p n e = ap (λ (n : Place × Text). place_if (bytes_eq n.1 word) n.0) (name_at (is_reserved m) p m n e)
    same _ p n e = absurd cc

    is_name : (k : LexKind) (p v : Place) → place_if (is_key word k) p ≡ Some v → (n : Place × Text) × (at p (name_in k) ≡ Some n)
    is_name (token.Name m) p v e =
        let is : m ≡ word = (bytes_eq-Decides m word).0 (is_placed (bytes_eq m word) p v e) in
        ((p, m), name_free (is_reserved m) p m (ap is_reserved is ∙ unreserved))
    is_name _ p v e = absurd cc

-- a text that is one of these
said : (P : Text → Type 0) (n word : Text) → bytes_eq n word ≡ true → P word → P n
said P n word e p = subst P (sym ((bytes_eq-Decides n word).0 e)) p

module _ (P : Text → Type 0) (n : Text) where
  word_cases : (a b c d e : Bool) → bytes_eq n (codes "play") ≡ a → bytes_eq n (codes "step") ≡ b → bytes_eq n (codes "stop") ≡ c → bytes_eq n (codes "forward") ≡ d → bytes_eq n (codes "backward") ≡ e
      → P (codes "play") → P (codes "step") → P (codes "stop") → P (codes "forward") → P (codes "backward")
      → (w v u x y : Word) → is_some (cond a (Some w) (cond b (Some v) (cond c (Some u) (cond d (Some x) (cond e (Some y) None))))) ≡ true → P n
  word_cases true b c d e h i j k l p q r s t w v u x y some = said P n (codes "play") h p
  word_cases false true c d e h i j k l p q r s t w v u x y some = said P n (codes "step") i q
  word_cases false false true d e h i j k l p q r s t w v u x y some = said P n (codes "stop") j r
  word_cases false false false true e h i j k l p q r s t w v u x y some = said P n (codes "forward") k s
  word_cases false false false false true h i j k l p q r s t w v u x y some = said P n (codes "backward") l t
  word_cases false false false false false h i j k l p q r s t w v u x y some = absurd cc

  switch_cases : (a b : Bool) → bytes_eq n (codes "loop") ≡ a → bytes_eq n (codes "palindrome") ≡ b → P (codes "loop") → P (codes "palindrome")
      → (w v : Word × Word) → is_some (cond a (Some w) (cond b (Some v) None)) ≡ true → P n
  switch_cases true b h i p q w v some = said P n (codes "loop") h p
  switch_cases false true h i p q w v some = said P n (codes "palindrome") i q
  switch_cases false false h i p q w v some = absurd cc

-- what holds of each word, and of each switch
each_word : (P : Text → Type 0) (n : Text) → is_some (word_named n) ≡ true → P (codes "play") → P (codes "step") → P (codes "stop") → P (codes "forward") → P (codes "backward") → P n
each_word P n some p q r s t =
    word_cases P n (bytes_eq n (codes "play")) (bytes_eq n (codes "step")) (bytes_eq n (codes "stop")) (bytes_eq n (codes "forward")) (bytes_eq n (codes "backward")) refl refl refl refl refl p q r s t _ _ _ _ _ some

each_switch : (P : Text → Type 0) (n : Text) → is_some (switch_named n) ≡ true → P (codes "loop") → P (codes "palindrome") → P n
each_switch P n some p q = switch_cases P n (bytes_eq n (codes "loop")) (bytes_eq n (codes "palindrome")) refl refl p q _ _ some

word_free : (n : Text) → is_some (word_named n) ≡ true → is_reserved n ≡ false
word_free n h = each_word (λ n. is_reserved n ≡ false) n h refl refl refl refl refl

switch_free : (n : Text) → is_some (switch_named n) ≡ true → is_reserved n ≡ false
switch_free n h = each_switch (λ n. is_reserved n ≡ false) n h refl refl

-- ---- what follows a word

abbrev Alone : Word → Rule (Option Stmt)
Alone w = do
  grammar.sign (codes ";")
  nothing (Some (stmt.Word w))

abbrev Switched : Word × Word → Rule (Option Stmt)
Switched s = do
  w ← one (state_of s)
  grammar.sign (codes ";")
  nothing (Some (stmt.Word w.1))

abbrev Sequenced : Rule (Option Stmt)
Sequenced = do
  n ← grammar.name
  c ← grammar.call n.1
  grammar.sign (codes ";")
  nothing (Some (stmt.Sequence c))

abbrev AfterWord : Place × Text → Rule (Option Stmt)
AfterWord n =
    When (at n.0 (word_named n.1)) (λ w. Alone w.1)
    ∣ (When (at n.0 (switch_named n.1)) (λ s. Switched s.1)
    ∣ When (place_if (bytes_eq n.1 (codes "sequence")) n.0) (λ _. Sequenced))

word_as_read : Same (grammar.name >>= AfterWord) grammar.word
word_as_read =
    let A : Place × Text → Rule (Option Stmt) = λ n. When (at n.0 (word_named n.1)) (λ w. Alone w.1) in
    let B : Place × Text → Rule (Option Stmt) = λ n. When (at n.0 (switch_named n.1)) (λ s. Switched s.1) in
    let C : Place × Text → Rule (Option Stmt) = λ n. When (place_if (bytes_eq n.1 (codes "sequence")) n.0) (λ _. Sequenced) in
    let NA : Rule (Option Stmt) = grammar.name >>= A in
    let NB : Rule (Option Stmt) = grammar.name >>= B in
    let NC : Rule (Option Stmt) = grammar.name >>= C in
    let NBC : Rule (Option Stmt) = grammar.name >>= λ n. B n ∣ C n in
    let WA : Rule (Option Stmt) = one word_of >>= λ w. Alone w.1 in
    let WB : Rule (Option Stmt) = one switch_of >>= λ s. Switched s.1 in
    let WC : Rule (Option Stmt) = grammar.key (codes "sequence") >>= λ _. Sequenced in
    same_trans (grammar.name >>= AfterWord) (NA ∣ NBC) (WA ∣ (WB ∣ WC)) (compose.same_left grammar.name A (λ n. B n ∣ C n))
    (compose.same_either NA WA NBC (WB ∣ WC) (same_class word_of (λ n. at n.0 (word_named n.1)) (spelled_names word_named word_free) (λ w. Alone w.1))
    (same_trans NBC (NB ∣ NC) (WB ∣ WC) (compose.same_left grammar.name B C)
    (compose.same_either NB WB NC WC (same_class switch_of (λ n. at n.0 (switch_named n.1)) (spelled_names switch_named switch_free) (λ s. Switched s.1))
    (same_class (key_of (codes "sequence")) (λ n. place_if (bytes_eq n.1 (codes "sequence")) n.0) (key_names (codes "sequence") refl) (λ _. Sequenced)))))

-- ---- a word, or a list of targets

abbrev SequenceOrSeveral : Bool → Text → Rule (Option Stmt)
SequenceOrSeveral true n = Sequenced ∣ Several n
SequenceOrSeveral false n = Several n

abbrev SwitchOrSeveral : Option (Word × Word) → Text → Rule (Option Stmt)
SwitchOrSeveral (Some s) n = Switched s ∣ Several n
SwitchOrSeveral None n = SequenceOrSeveral (bytes_eq n (codes "sequence")) n

abbrev WordOrSeveral : Option Word → Text → Rule (Option Stmt)
WordOrSeveral (Some w) n = Alone w ∣ Several n
WordOrSeveral None n = SwitchOrSeveral (switch_named n) n

alone : (w : Word) → Reads (Alone w) (reading.alone w) Any
unfolding reading.alone
alone w = next (sign (codes ";")) (λ _. done)

switched : (s : Word × Word) → Reads (Switched s) (reading.switched s) Any
unfolding reading.switched
switched s = next (state s) (λ w. next (sign (codes ";")) (λ _. done))

sequenced : Reads Sequenced reading.sequenced Any
unfolding reading.sequenced
sequenced = next name (λ n. after (call 64 n.1) (λ c. first (sign_lacks (codes ";") (codes "[") refl)) (λ c. next (sign (codes ";")) (λ _. done)))

sequence_or_several : (b : Bool) (n : Text) → Reads (SequenceOrSeveral b n) (reading.sequence_or_several b n) Any
unfolding reading.sequence_or_several
sequence_or_several true n = either name_near (first name_name) sequenced (several_name n) (several n)
sequence_or_several false n = several n

switch_or_several : (o : Option (Word × Word)) (n : Text) → Reads (SwitchOrSeveral o n) (reading.switch_or_several o n) Any
unfolding reading.switch_or_several
switch_or_several (Some s) n = either name_near (first (state_name s)) (switched s) (several_name n) (several n)
switch_or_several None n = sequence_or_several (bytes_eq n (codes "sequence")) n

word_or_several : (o : Option Word) (n : Text) → Reads (WordOrSeveral o n) (reading.word_or_several o n) Any
unfolding reading.word_or_several
word_or_several (Some w) n = either (sees_near (codes ";")) (first (sign_has (codes ";"))) (alone w) (several_lacks (codes ";") refl n) (several n)
word_or_several None n = switch_or_several (switch_named n) n

-- neither a bracket nor an equals sign begins one
module _ (c : Text) (semicolon : bytes_eq (codes ";") c ≡ false) (comma : bytes_eq (codes ",") c ≡ false) where
  sequence_lacks : (b : Bool) (n : Text) → Opens (SequenceOrSeveral b n) Any (λ u. sees c u ≡ false)
  sequence_lacks true n = both (first (name_lacks c)) (several_lacks c comma n)
  sequence_lacks false n = several_lacks c comma n

  switch_lacks : (o : Option (Word × Word)) (n : Text) → Opens (SwitchOrSeveral o n) Any (λ u. sees c u ≡ false)
  switch_lacks (Some s) n = both (first (state_lacks s c)) (several_lacks c comma n)
  switch_lacks None n = sequence_lacks (bytes_eq n (codes "sequence")) n

  word_lacks : (o : Option Word) (n : Text) → Opens (WordOrSeveral o n) Any (λ u. sees c u ≡ false)
  word_lacks (Some w) n = both (first (sign_lacks (codes ";") c semicolon)) (several_lacks c comma n)
  word_lacks None n = switch_lacks (switch_named n) n

-- ---- each is what the grammar says

from_never : {A : Type 0} → ⊥ ⊎ A → A
from_never (inl d) = elim d [ ]
from_never (inr a) = a

never_left : {A : Type 0} (X : Rule A) → Same X (Never ∣ X)
never_left X = record { there = λ ts a d. inr d; back = λ ts a d. from_never d; forbids_there = λ ts f d. inr d; forbids_back = λ ts f d. from_never d }

to_never : {A : Type 0} → A ⊎ ⊥ → A
to_never (inl a) = a
to_never (inr d) = elim d [ ]

never_right : {A : Type 0} (X : Rule A) → Same X (X ∣ Never)
never_right X = record { there = λ ts a d. inl d; back = λ ts a d. to_never d; forbids_there = λ ts f d. inl d; forbids_back = λ ts f d. to_never d }

abbrev Sequence : Place → Bool → Rule (Option Stmt)
Sequence p b = When (place_if b p) (λ _. Sequenced)

abbrev Switch : Place → Option (Word × Word) → Rule (Option Stmt)
Switch p o = When (at p o) (λ s. Switched s.1)

abbrev Lone : Place → Option Word → Rule (Option Stmt)
Lone p o = When (at p o) (λ w. Alone w.1)

same_sequence : (p : Place) (b : Bool) (n : Text) → Same (SequenceOrSeveral b n) (Sequence p b ∣ Several n)
same_sequence p true n = same_refl (Sequenced ∣ Several n)
same_sequence p false n = never_left (Several n)

same_switch : (p : Place) (o : Option (Word × Word)) (n : Text) → (is_some o ≡ true → bytes_eq n (codes "sequence") ≡ false) → Same (SwitchOrSeveral o n) ((Switch p o ∣ Sequence p (bytes_eq n (codes "sequence"))) ∣ Several n)
same_switch p (Some s) n only =
    subst (λ b. Same (Switched s ∣ Several n) ((Switched s ∣ Sequence p b) ∣ Several n)) (sym (only refl))
    (compose.same_either (Switched s) (Switched s ∣ Never) (Several n) (Several n) (never_right (Switched s)) (same_refl (Several n)))
same_switch p None n only =
    let Q : Rule (Option Stmt) = Sequence p (bytes_eq n (codes "sequence")) in
    same_trans (SequenceOrSeveral (bytes_eq n (codes "sequence")) n) (Q ∣ Several n) ((Never ∣ Q) ∣ Several n) (same_sequence p (bytes_eq n (codes "sequence")) n)
    (compose.same_either Q (Never ∣ Q) (Several n) (Several n) (never_left Q) (same_refl (Several n)))

same_word : (p : Place) (o : Option Word) (n : Text) → (is_some o ≡ true → (switch_named n ≡ None) × (bytes_eq n (codes "sequence") ≡ false)) → (is_some (switch_named n) ≡ true → bytes_eq n (codes "sequence") ≡ false)
    → Same (WordOrSeveral o n) ((Lone p o ∣ (Switch p (switch_named n) ∣ Sequence p (bytes_eq n (codes "sequence")))) ∣ Several n)
same_word p (Some w) n only other =
    let e = only refl in
    subst (λ b. Same (Alone w ∣ Several n) ((Alone w ∣ (Switch p (switch_named n) ∣ Sequence p b)) ∣ Several n)) (sym e.1)
    (subst (λ (s : Option (Word × Word)). Same (Alone w ∣ Several n) ((Alone w ∣ (Switch p s ∣ Never)) ∣ Several n)) (sym e.0)
    (compose.same_either (Alone w) (Alone w ∣ (Never ∣ Never)) (Several n) (Several n)
    (same_trans (Alone w) (Alone w ∣ Never) (Alone w ∣ (Never ∣ Never)) (never_right (Alone w)) (compose.same_either (Alone w) (Alone w) Never (Never ∣ Never) (same_refl (Alone w)) (never_left Never)))
    (same_refl (Several n))))
same_word p None n only other =
    let Q : Rule (Option Stmt) = Switch p (switch_named n) ∣ Sequence p (bytes_eq n (codes "sequence")) in
    same_trans (SwitchOrSeveral (switch_named n) n) (Q ∣ Several n) ((Never ∣ Q) ∣ Several n) (same_switch p (switch_named n) n other)
    (compose.same_either Q (Never ∣ Q) (Several n) (Several n) (never_left Q) (same_refl (Several n)))

others_as_read : (n : Place × Text) → Same (WordOrSeveral (word_named n.1) n.1) (AfterWord n ∣ Several n.1)
others_as_read n = same_word n.0 (word_named n.1) n.1
    (λ h. each_word (λ n. (switch_named n ≡ None) × (bytes_eq n (codes "sequence") ≡ false)) n.1 h (refl, refl) (refl, refl) (refl, refl) (refl, refl) (refl, refl))
    (λ h. each_switch (λ n. bytes_eq n (codes "sequence") ≡ false) n.1 h refl refl)

-- ---- an item that begins with a name

in_order : {A B C D : Type 0} → A ⊎ (B ⊎ (C ⊎ D)) → C ⊎ (A ⊎ (B ⊎ D))
in_order (inl a) = inr (inl a)
in_order (inr (inl b)) = inr (inr (inl b))
in_order (inr (inr (inl c))) = inl c
in_order (inr (inr (inr d))) = inr (inr (inr d))

as_before : {A B C D : Type 0} → C ⊎ (A ⊎ (B ⊎ D)) → A ⊎ (B ⊎ (C ⊎ D))
as_before (inl c) = inr (inr (inl c))
as_before (inr (inl a)) = inl a
as_before (inr (inr (inl b))) = inr (inl b)
as_before (inr (inr (inr d))) = inr (inr (inr d))

same_order : {E : Type 0} (A B C D : Rule E) → Same (A ∣ (B ∣ (C ∣ D))) (C ∣ (A ∣ (B ∣ D)))
same_order A B C D = record { there = λ ts a d. in_order d; back = λ ts a d. as_before d; forbids_there = λ ts f d. in_order d; forbids_back = λ ts f d. as_before d }

named_as_read : Same (grammar.name >>= λ n. Called n.1 ∣ (Single n.1 ∣ WordOrSeveral (word_named n.1) n.1)) (grammar.word ∣ grammar.statement)
named_as_read =
    let A : Place × Text → Rule (Option Stmt) = λ n. Called n.1 in
    let B : Place × Text → Rule (Option Stmt) = λ n. Single n.1 in
    let C : Place × Text → Rule (Option Stmt) = AfterWord in
    let D : Place × Text → Rule (Option Stmt) = λ n. Several n.1 in
    let O : Place × Text → Rule (Option Stmt) = λ n. WordOrSeveral (word_named n.1) n.1 in
    let NA : Rule (Option Stmt) = grammar.name >>= A in
    let NB : Rule (Option Stmt) = grammar.name >>= B in
    let NC : Rule (Option Stmt) = grammar.name >>= C in
    let ND : Rule (Option Stmt) = grammar.name >>= D in
    let NO : Rule (Option Stmt) = grammar.name >>= O in
    let NCD : Rule (Option Stmt) = grammar.name >>= λ n. C n ∣ D n in
    let NBO : Rule (Option Stmt) = grammar.name >>= λ n. B n ∣ O n in
    let others : Same NO (NC ∣ ND) = same_trans NO NCD (NC ∣ ND) (same_then grammar.name grammar.name O (λ n. C n ∣ D n) (same_refl grammar.name) others_as_read) (compose.same_left grammar.name C D) in
    same_trans (grammar.name >>= λ n. A n ∣ (B n ∣ O n)) (NA ∣ NBO) (grammar.word ∣ (NA ∣ (NB ∣ ND))) (compose.same_left grammar.name A (λ n. B n ∣ O n))
    (same_trans (NA ∣ NBO) (NA ∣ (NB ∣ (NC ∣ ND))) (grammar.word ∣ (NA ∣ (NB ∣ ND)))
    (compose.same_either NA NA NBO (NB ∣ (NC ∣ ND)) (same_refl NA) (same_trans NBO (NB ∣ NO) (NB ∣ (NC ∣ ND)) (compose.same_left grammar.name B O) (compose.same_either NB NB NO (NC ∣ ND) (same_refl NB) others)))
    (same_trans (NA ∣ (NB ∣ (NC ∣ ND))) (NC ∣ (NA ∣ (NB ∣ ND))) (grammar.word ∣ (NA ∣ (NB ∣ ND))) (same_order NA NB NC ND)
    (compose.same_either NC grammar.word (NA ∣ (NB ∣ ND)) (NA ∣ (NB ∣ ND)) word_as_read (same_refl (NA ∣ (NB ∣ ND))))))

pub named : Reads (grammar.word ∣ grammar.statement) reading.named Any
unfolding reading.named
named = in_other_words named_as_read (next name (λ n.
    after_name {Rest = λ n. WordOrSeveral (word_named n) n} (λ n. word_or_several (word_named n) n)
    (λ n. word_lacks (codes "(") refl refl (word_named n) n) (λ n. word_lacks (codes "=") refl refl (word_named n) n) n.1))

-- and what one begins with
pub named_opens : {Q : Tokens → Type 0} → Opens grammar.name Any Q → Opens (grammar.word ∣ grammar.statement) Any Q
named_opens x = opens_in_other_words named_as_read (first x)
