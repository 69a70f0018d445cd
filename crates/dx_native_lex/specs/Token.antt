-- Grammars of one token, and of raw bytes.
use Rattle.std.specs.Prelude.{◌≡◌, ℕ, ℤ, ◌+◌, ◌≤◌, Bool, false, ◌&&◌, if◌then◌else◌, List, Option, Some, None, is_none, Result, Ok, Err, refl, bytes_eq}
use Rattle.std.proofs.Common.{ap, ◌∙◌, arith}
use Rattle.dx_places.specs.Grammar.{At, left, Outcome, Grammar, IsRead, ok_is, err_is}
use Rattle.dx_native_lex.specs.Scan.{Found, lexed, number_of, meaning_of, is_float}
use Rattle.dx_native_lex.specs.Less.{IsSome_token, lexed_less}
use Rattle.dx_native_lex.specs.declared.scan.Kind.{Kind}
use Rattle.dx_native_lex.specs.declared.scan.Kind.TheVariants as kind
use Rattle.dx_base.specs.declared.code.NativeKind.{NativeKind}
use Rattle.dx_base.specs.declared.code.NativeKind.TheVariants as fault
use Rattle.dx_native_lex.specs.declared.fault.NativeError.{NativeError}
use Rattle.dx_native_lex.specs.declared.token.Named.{Named}
use Rattle.dx_native_lex.specs.declared.token.Number.{Number}
use Rattle.dx_native_lex.specs.declared.fault.NativeFail.{NativeFail}
use Rattle.dx_native_lex.specs.declared.fault.NativeFail.TheVariants as fail

abbrev pub NativeGrammar : Type 0 → Type 1
NativeGrammar A = Grammar NativeError A

abbrev pub error : NativeKind → ℕ → NativeError
error k at = record { kind = k; at = at }

-- ---- what a function that reads ensures: what the grammar reads, unless memory runs out

abbrev pub Fails : {A : Type 0} → Outcome NativeError A → NativeFail → Type 0
Fails outcome (fail.Refused e) = outcome ≡ Err e
Fails outcome fail.Memory = Unit {0}

-- the same of a value seen by view
abbrev pub Shows : {X A : Type 0} → (X → A) → Outcome NativeError A → Result X NativeFail → At → Type 0
Shows view outcome (Ok x) new = outcome ≡ Ok (view x, new)
Shows view outcome (Err e) new = Fails outcome e

abbrev pub Reads : {A : Type 0} → Outcome NativeError A → Result A NativeFail → At → Type 0
Reads outcome (Ok a) new = outcome ≡ Ok (a, new)
Reads outcome (Err e) new = Fails outcome e

-- ---- one token

abbrev pub by_kind : {A : Type 0} → (ℕ → List ℕ → Option A) → (ℕ → List ℕ → Option A) → Kind → ℕ → List ℕ → Option A
by_kind word quoted kind.End at c = None
by_kind word quoted kind.Word at c = word at c
by_kind word quoted kind.Quoted at c = quoted at c
by_kind word quoted kind.Wrong at c = None

abbrev pub class_of : {A : Type 0} → (ℕ → List ℕ → Option A) → (ℕ → List ℕ → Option A) → Found → Option A
class_of word quoted l = by_kind word quoted l.kind l.at l.content

abbrev pub taken : {A : Type 0} → Option A → NativeError → At → Outcome NativeError A
taken (Some a) f e = Ok (a, e)
taken None f e = Err f

module _ {A : Type 0} (fault_of : Found → NativeError) (word quoted : ℕ → List ℕ → Option A) where
  abbrev pub Stands : At → A → At → Type 0
  Stands s a e = (class_of word quoted (lexed s) ≡ Some a) × ((lexed s).after ≡ e)

  abbrev pub Misfits : At → NativeError → Type 0
  Misfits s f = (class_of word quoted (lexed s) ≡ None) × (fault_of (lexed s) ≡ f)

  abbrev pub read_one : At → Outcome NativeError A
  read_one s = taken (class_of word quoted (lexed s)) (fault_of (lexed s)) (lexed s).after

  one_found : (s : At) (o : Option A) → class_of word quoted (lexed s) ≡ o → (a : A) (e : At) → taken o (fault_of (lexed s)) (lexed s).after ≡ Ok (a, e) → Stands s a e
  one_found s (Some b) h a e g =
      let p = ok_is {F = NativeError} (b, (lexed s).after) (a, e) g in
      (h ∙ ap (λ (q : A × At). Some q.0) p, ap (λ (q : A × At). q.1) p)
  one_found s None h a e g = absurd cc

  one_fault : (s : At) (o : Option A) → class_of word quoted (lexed s) ≡ o → (f : NativeError) → taken o (fault_of (lexed s)) (lexed s).after ≡ Err f → Misfits s f
  one_fault s (Some b) h f g = absurd cc
  one_fault s None h f g = (h, err_is {X = A × At} (fault_of (lexed s)) f g)

  some_token : (k : Kind) (at : ℕ) (c : List ℕ) (a : A) → by_kind word quoted k at c ≡ Some a → IsSome_token k
  some_token kind.End at c a h = absurd cc
  some_token kind.Word at c a h = tt
  some_token kind.Quoted at c a h = tt
  some_token kind.Wrong at c a h = absurd cc

  one_less : (s : At) (a : A) (e : At) → Stands s a e → left e + 1 ≤ left s
  one_less s a e h =
      let p = lexed_less s (some_token (lexed s).kind (lexed s).at (lexed s).content a h.0) in
      let q = ap left h.1 in
      omega arith

  pub one_law : IsRead Stands Misfits 1 read_one
  one_law = record {
    found = λ s a e h. one_found s (class_of word quoted (lexed s)) refl a e h;
    fault = λ s f h. one_fault s (class_of word quoted (lexed s)) refl f h;
    only = λ s a e h. ap (λ o. taken o (fault_of (lexed s)) (lexed s).after) h.0 ∙ ap (λ e. Ok (a, e)) h.1;
    only_fault = λ s f h. ap (λ o. taken o (fault_of (lexed s)) (lexed s).after) h.0 ∙ ap (λ f. Err f) h.1;
    less = λ s a e h. one_less s a e (one_found s (class_of word quoted (lexed s)) refl a e h);
  }

  -- a token that the words or the strings have a value for; else its fault
  abbrev pub one : NativeGrammar A
  one = record { is = Stands; fails = Misfits; read = read_one; least = 1; law = one_law }

-- ---- faults of a token

abbrev pub misfit_by : Kind → ℕ → NativeError
misfit_by kind.End at = error fault.Truncated at
misfit_by kind.Word at = error fault.Syntax at
misfit_by kind.Quoted at = error fault.Syntax at
misfit_by kind.Wrong at = error fault.Syntax at

abbrev pub misfit : Found → NativeError
misfit l = misfit_by l.kind l.at

abbrev pub is_no_number : Kind → List ℕ → Bool
is_no_number kind.End c = false
is_no_number kind.Word c = is_none (number_of c) && is_float c
is_no_number kind.Quoted c = false
is_no_number kind.Wrong c = false

-- where a number may stand
abbrev pub number_misfit : Found → NativeError
number_misfit l = if is_no_number l.kind l.content then error fault.FloatType l.at else misfit l

-- ---- tokens

abbrev pub none_of : {A : Type 0} → ℕ → List ℕ → Option A
none_of at c = None

abbrev pub is_key : List ℕ → Kind → List ℕ → Bool
is_key w kind.End c = false
is_key w kind.Word c = bytes_eq c w
is_key w kind.Quoted c = false
is_key w kind.Wrong c = false

-- the next token is this word
abbrev pub sees : List ℕ → At → Bool
sees w s = is_key w (lexed s).kind (lexed s).content

abbrev pub key_in : List ℕ → ℕ → List ℕ → Option (Unit {0})
key_in w at c = if bytes_eq c w then Some tt else None

-- this key word
unfoldable pub key : List ℕ → NativeGrammar (Unit {0})
key w = one misfit (key_in w) none_of

abbrev pub named_in : ℕ → List ℕ → Option Named
named_in at c = Some (record { text = c; at = at })

-- what a string stands for
abbrev pub text_in : ℕ → List ℕ → Option Named
text_in at c = Some (record { text = meaning_of false c; at = at })

-- a quoted string or a word
unfoldable pub named : NativeGrammar Named
named = one misfit named_in text_in

-- a quoted string
unfoldable pub quoted : NativeGrammar Named
quoted = one misfit none_of text_in

abbrev pub number_with : ℕ → Option ℤ → Option Number
number_with at None = None
number_with at (Some z) = Some (record { value = z; at = at })

abbrev pub number_in : ℕ → List ℕ → Option Number
number_in at c = number_with at (number_of c)

unfoldable pub number : NativeGrammar Number
number = one number_misfit number_in none_of
