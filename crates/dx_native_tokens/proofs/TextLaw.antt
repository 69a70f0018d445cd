-- From each place on a text has exactly one list of tokens, and these are apart.
use Rattle.std.proofs.Common.{◌≡◌, ℕ, zero, suc, ◌+◌, ◌≤◌, List, [], ◌∷◌, sym, ap, subst, arith, ◌⊎◌, inl, inr, ◌∙◌}
use Rattle.dx_places.specs.Grammar.{At, left}
use Rattle.dx_native_lex.specs.declared.scan.Kind.{Kind}
use Rattle.dx_native_lex.specs.declared.scan.Kind.TheVariants as kind
use Rattle.dx_native_lex.specs.Scan.{Found, lexed}
use Rattle.dx_native_lex.specs.Less.{IsSome_token, lexed_less}
use Rattle.dx_native_tokens.specs.Standing.{IsHereOf, IsNext}
use Rattle.dx_native_tokens.specs.Tokens.{AreTokens, AreApart, HasTokens}
use Rattle.dx_native_tokens.proofs.TokenLaw.{in_order, next_only, next_stands}

token_or_last : (k : Kind) → IsSome_token k ⊎ (IsSome_token k → ⊥)
token_or_last kind.End = inr (λ t. t)
token_or_last kind.Word = inl tt
token_or_last kind.Quoted = inl tt
token_or_last kind.Wrong = inr (λ t. t)

-- ---- there is one

one_more : (s : At) (f : Found) (more : List Found) → IsNext s f → IsSome_token f.kind → AreTokens f.after more → HasTokens s
one_more s f [] next t are = absurd are
one_more s f (g ∷ more) next t are = record { tokens = f ∷ g ∷ more; are = (next, t, are) }

step : (n : ℕ) (s : At) → left s ≤ n → ((e : At) → left e + 1 ≤ n → HasTokens e) → HasTokens s
step n s l shorter = by_kind (token_or_last (lexed s).kind)
  where
    by_kind : IsSome_token (lexed s).kind ⊎ (IsSome_token (lexed s).kind → ⊥) → HasTokens s
    by_kind (inr last) = record { tokens = lexed s ∷ []; are = (next_stands s, last) }
    by_kind (inl t) =
        let less = lexed_less s t in
        let more = shorter (lexed s).after (omega arith) in
        one_more s (lexed s) more.tokens (next_stands s) t more.are

within : (n : ℕ) (s : At) → left s ≤ n → HasTokens s
within zero s l = step 0 s l (λ e h. absurd (omega arith))
within (suc n) s l = step (suc n) s l (λ e h. within n e (omega arith))

pub has_tokens : (s : At) → HasTokens s
has_tokens s = within (left s) s (omega arith)

-- ---- there is no other

same_next : (s : At) (f g : Found) → IsNext s f → IsNext s g → f ≡ g
same_next s f g p q = next_only s f p ∙ sym (next_only s g q)

pub one_list : (l m : List Found) (s : At) → AreTokens s l → AreTokens s m → l ≡ m
one_list [] m s p q = absurd p
one_list (f ∷ l) [] s p q = absurd q
one_list (f ∷ []) (g ∷ []) s p q = ap (λ (f : Found). f ∷ []) (same_next s f g p.0 q.0)
one_list (f ∷ []) (g ∷ h ∷ m) s p q = absurd (p.1 (subst (λ (f : Found). IsSome_token f.kind) (sym (same_next s f g p.0 q.0)) q.1))
one_list (f ∷ h ∷ l) (g ∷ []) s p q = absurd (q.1 (subst (λ (f : Found). IsSome_token f.kind) (same_next s f g p.0 q.0) p.1))
one_list (f ∷ h ∷ l) (g ∷ k ∷ m) s p q =
    let same = same_next s f g p.0 q.0 in
    let rest : h ∷ l ≡ k ∷ m = one_list (h ∷ l) (k ∷ m) f.after p.2 (subst (λ (f : Found). AreTokens f.after (k ∷ m)) (sym same) q.2) in
    cc

-- ---- apart

begins_by : (place : At) (f : Found) (k : Kind) → IsHereOf k place f → place.offset ≤ f.at
begins_by place f kind.End is = let p = is.at in omega arith
begins_by place f kind.Word is = let p = is.at in omega arith
begins_by place f kind.Quoted is = let p = is.at in omega arith
begins_by place f kind.Wrong is = let p = is.at in omega arith

begins : (s : At) (f : Found) → IsNext s f → s.offset ≤ f.at
begins s f is = let place = is.gap.offset in let from = begins_by is.place f f.kind is.here in omega arith

pub apart : (l : List Found) (s : At) → AreTokens s l → AreApart s.offset l
apart [] s are = tt
apart (f ∷ []) s are = begins s f are.0
apart (f ∷ g ∷ more) s are = (begins s f are.0, (in_order s f are.1 are.0).some, apart (g ∷ more) f.after are.2)

pub apart_here : (s : At) (l : List Found) → AreTokens s l → AreApart s.offset l
apart_here s l are = apart l s are

pub one_here : (s : At) (l m : List Found) → AreTokens s l → AreTokens s m → l ≡ m
one_here s l m p q = one_list l m s p q
