-- What a place of a text shows, word by word.
use Rattle.std.proofs.Common.{◌≡◌, ℕ, Bool, true, false, List, [], ◌∷◌, ◌++◌, refl, sym, ap, ◌∙◌, subst}
use Rattle.std.specs.Prelude.{bytes_eq}
use Rattle.dx_places.specs.Grammar.{At}
use Rattle.dx_native_lex.specs.Scan.{Found, lexed}
use Rattle.dx_native_lex.specs.declared.scan.Kind.TheVariants as kind
use Rattle.dx_base.specs.Words.{all_escaped}
use Rattle.dx_native_text.specs.Lines.{Word, bare, in_quotes}

abbrev pub at : ℕ → List ℕ → At
at o l = record { offset = o; rest = l }

-- the token of a word
abbrev pub found_of : Word → ℕ → At → Found
found_of (bare w) o m = record { kind = kind.Word; at = o; content = w; after = m }
found_of (in_quotes b) o m = record { kind = kind.Quoted; at = o; content = all_escaped b; after = m }

abbrev pub RunsBy : At → List Word → At → Type 0
RunsBy s [] e = s ≡ e
RunsBy s (w ∷ ws) e = (o : ℕ) × (m : At) × (lexed s ≡ found_of w o m) × RunsBy m ws e

-- from the one place to the other stand these words
pub record Runs (s : At) (ws : List Word) (e : At) : Type 0 where
  pub it : RunsBy s ws e

abbrev pub tail_of : {s e : At} {w : Word} {ws : List Word} → (h : Runs s (w ∷ ws) e) → Runs h.it.1 ws e
tail_of h = record { it = h.it.3 }

-- white space before the first word doesn't matter
pub runs_shift : (w : Word) (ws : List Word) (s t e : At) → lexed s ≡ lexed t → Runs t (w ∷ ws) e → Runs s (w ∷ ws) e
runs_shift w ws s t e h g = record { it = (g.it.0, g.it.1, h ∙ g.it.2, g.it.3) }
