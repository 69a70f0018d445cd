-- What begins with a quote is in a native file what it is in a script.
use Rattle.std.proofs.Common.{◌≡◌, ℕ, ◌+◌, List, [], ◌∷◌, ◌++◌, length, drop, true, false, refl, sym, ap, subst, arith, ◌⊎◌, inl, inr, ◌∙◌, Ok, append_assoc, length-append}
use Rattle.std.proofs.Math.Seq.{drop-append_seam}
use Rattle.std.proofs.lemmas.Bool.{eqb-true, eqb-false}
use Rattle.dx_base.specs.declared.token.LexKind.TheVariants as script
use Rattle.dx_base.specs.Tokens.Classes.{begins}
use Rattle.dx_base.specs.Tokens.Reading.{front}
use Rattle.dx_base.specs.Tokens.Refusals.{IsOpen, HasBadBackslash}
use Rattle.dx_base.proofs.Tokens.StringLaw.{string_read, bad_refused, open_refused}
use Rattle.dx_places.specs.Grammar.{At}
use Rattle.dx_native_lex.specs.declared.scan.Kind.{Kind}
use Rattle.dx_native_lex.specs.declared.scan.Kind.TheVariants as kind
use Rattle.dx_native_lex.specs.Scan.{Found, is_white, meaning_of, token_at}
use Rattle.dx_native_tokens.specs.Gaps.{IsWhite, EndsGap}
use Rattle.dx_native_tokens.specs.Standing.{IsWord, IsWordHere, IsStringHere, IsWrongHere, IsHereOf}
use Rattle.dx_native_tokens.specs.Scripts.{IsSame}
use Rattle.dx_native_tokens.proofs.GapLaw.{white_yes}
use Rattle.dx_native_tokens.proofs.TokenLaw.{nothing_here, here_stands}

no_word : (s : At) (f : Found) → begins 34 s.rest ≡ true → IsWordHere s f → ⊥
no_word s f quote is = by_content f.content refl
  where
    by_content : (c : List ℕ) → f.content ≡ c → ⊥
    by_content [] e = subst IsWord e is.word
    by_content (b ∷ more) e =
        let word : IsWord (b ∷ more) = subst IsWord e is.word in
        let parts : s.rest ≡ b ∷ (more ++ f.after.rest) = is.parts ∙ ap (λ (c : List ℕ). c ++ f.after.rest) e in
        let first : begins 34 (b ∷ (more ++ f.after.rest)) ≡ true = subst (λ (t : List ℕ). begins 34 t ≡ true) parts quote in
        word.0.no_quote (eqb-true b 34 first)

same_text : (s : At) (f : Found) → f.kind ≡ kind.Quoted → IsStringHere s f → IsSame s f (front s.rest)
same_text s f k is =
    let bytes : List ℕ = 34 ∷ (f.content ++ 34 ∷ []) in
    let parts : s.rest ≡ bytes ++ f.after.rest = is.parts ∙ ap (λ (t : List ℕ). 34 ∷ t) (sym (append_assoc f.content (34 ∷ []) f.after.rest)) in
    let read : front s.rest ≡ Ok (script.Text (meaning_of false f.content), length bytes) = ap front parts ∙ string_read (meaning_of false f.content) bytes f.after.rest is.string in
    let offset : f.after.offset ≡ s.offset + length bytes = let p = is.offset in omega (arith, length-append f.content (34 ∷ [])) in
    let rest : f.after.rest ≡ drop (length bytes) s.rest = sym (ap (drop (length bytes)) parts ∙ drop-append_seam bytes f.after.rest) in
    rw read (record { kind = k; at = is.at; meaning = refl; after = λ i. record { offset = offset i; rest = rest i } })

same_fault : (s : At) (f : Found) → f.kind ≡ kind.Wrong → IsWrongHere s f → IsSame s f (front s.rest)
same_fault s f k is = by_refusal is.refusal
  where
    by_refusal : (IsOpen s.rest × (is.before ≡ [])) ⊎ HasBadBackslash s.rest is.before → IsSame s f (front s.rest)
    by_refusal (inl is_open) =
        let place : f.at ≡ s.offset + 0 = is.at ∙ ap (λ (c : List ℕ). s.offset + length c) is_open.1 in
        rw (open_refused s.rest is_open.0) (refl, nothing_here s f (s.offset + 0) k place is.content is.after)
    by_refusal (inr bad) = rw (bad_refused s.rest is.before bad) (refl, nothing_here s f (s.offset + length is.before) k is.at is.content is.after)

same_by : (s : At) (f : Found) → begins 34 s.rest ≡ true → (k : Kind) → f.kind ≡ k → IsHereOf k s f → IsSame s f (front s.rest)
same_by s f quote kind.End e is = let none : begins 34 [] ≡ true = subst (λ (t : List ℕ). begins 34 t ≡ true) is.none quote in absurd cc
same_by s f quote kind.Word e is = absurd (no_word s f quote is)
same_by s f quote kind.Quoted e is = same_text s f e is
same_by s f quote kind.Wrong e is = same_fault s f e is

no_white : (b : ℕ) → b ≡ 34 → IsWhite b → ⊥
no_white b e is = let yes = white_yes b is in let no : is_white b ≡ false = rw e refl in absurd cc

no_hash : (b : ℕ) → b ≡ 34 → b ≡ 35 → ⊥
no_hash b e = eqb-false b 35 (rw e refl)

ends_gap : (text : List ℕ) → begins 34 text ≡ true → EndsGap text
ends_gap [] quote = tt
ends_gap (b ∷ rest) quote = let e = eqb-true b 34 quote in (no_white b e, no_hash b e)

pub same : (s : At) → begins 34 s.rest ≡ true → IsSame s (token_at s.offset s.rest) (front s.rest)
same s quote = let f : Found = token_at s.offset s.rest in same_by s f quote f.kind refl (here_stands s (ends_gap s.rest quote))
