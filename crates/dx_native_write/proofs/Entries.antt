-- The line of an attribute.
use Rattle.std.proofs.Common.{◌≡◌, ◌∙◌, ◌++◌, ◌∷◌, [], ℕ, List, Option, codes, sym, ap, append_assoc}
use Rattle.dx_base.specs.Words.{quoted}
use Rattle.dx_native_text.specs.Lines.{Word, line_text}
use Rattle.dx_native_text.specs.Text.{attribute_line, name_of}
use Rattle.dx_native_write.specs.Spelled.{words_behind}

pub attribute_pushed : (n : Option (List ℕ)) (ws : List Word) (old one two new : List ℕ) →
    one ≡ old ++ codes "attribute " → two ≡ one ++ quoted (name_of n) → new ≡ two ++ (words_behind ws ++ 10 ∷ []) →
    new ≡ old ++ line_text (attribute_line n ws)
attribute_pushed n ws old one two new e f g =
    let named : List ℕ = quoted (name_of n) in
    let given : List ℕ = words_behind ws ++ 10 ∷ [] in
    g ∙ ap (λ (text : List ℕ). text ++ given) (f ∙ ap (λ (text : List ℕ). text ++ named) e)
    ∙ append_assoc (old ++ codes "attribute ") named given
    ∙ append_assoc old (codes "attribute ") (named ++ given)
    ∙ ap (λ (text : List ℕ). old ++ (codes "attribute " ++ text)) (sym (append_assoc named (words_behind ws) (10 ∷ [])))
