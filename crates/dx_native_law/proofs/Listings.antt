-- References, attributes and parts stand where their words are shown.
use Rattle.std.proofs.Common.{◌≡◌, ◌==◌, ℕ, zero, suc, ◌+◌, ◌-◌, ◌<◌, ◌≤◌, ◌^◌, Bool, true, false, cond, List, [], ◌∷◌, ◌++◌, length, map, Option, Some, None, ℤ, pos, refl, sym, ap, ◌∙◌, subst, append_assoc, append-nil, arith}
use Rattle.std.specs.Prelude.{bytes_eq, codes, ◌||◌}
use Rattle.std.specs.List.{list_any}
use Rattle.std.specs.Fmt.{decimal}
use Rattle.std.proofs.lemmas.List.{map-append}
use Rattle.dx_base.specs.Object.{Tree, PartList, no_parts, part}
use Rattle.dx_places.specs.Grammar.{At, Grammar, chosen, Goes}
use Rattle.dx_base.specs.declared.code.NativeKind.TheVariants as fault
use Rattle.dx_native_lex.specs.Scan.{lexed}
use Rattle.dx_native_lex.specs.Token.{error, sees, named, quoted as quoted_token}
use Rattle.dx_native_lex.specs.declared.token.Named.{Named}
use Rattle.dx_native_grammar.specs.declared.clause.Attribute.{Attribute}
use Rattle.dx_native_grammar.specs.declared.clause.Given.{Given}
use Rattle.dx_native_grammar.specs.declared.clause.Given.TheVariants as value
use Rattle.dx_native_grammar.specs.Names.{attribute_names, has_attribute}
use Rattle.dx_native_grammar.specs.Words.{repeated, int_low, int_high}
use Rattle.dx_native_grammar.specs.Grammar.{reference, value_reference, attribute, attribute_value, text_value, number_value, object_value, attributes_from, next_attribute, sees_attribute, int as int_number}
use Rattle.dx_native_text.specs.Lines.{Word, bare, in_quotes}
use Rattle.dx_native_text.specs.Inline.{Inline, as_text, as_number, inline_of}
use Rattle.dx_native_text.specs.Text.{given_words, value_words, last_of, many, unless_inline, attribute_lines}
use Rattle.dx_native_law.proofs.LaidLines.{key, natural, number, component_word}
use Rattle.dx_native_law.proofs.Erased.{unplaced, erased_given, erased_attribute}
use Rattle.dx_native_law.proofs.Runs.{Runs}
use Rattle.dx_native_law.proofs.Tokens.{words_of}
use Rattle.dx_native_law.proofs.Stands.{first_of_two, second_of_two, is_word, sees_word, key_stands, named_stands, named_at, quoted_stands, bounded_stands, IsIn}

-- ---- references

-- the word `file` behind `value` is none
pub reference_stands : (w : List ℕ) (ws : List Word) (s e : At) → bytes_eq w (codes "file") ≡ false → Runs s (key (codes "value") ∷ bare w ∷ ws) e → (o : ℕ) × (m : At) × reference.is s (named_at w o) m × Runs m ws e
unfolding reference value_reference
reference_stands w ws s e isnt r =
    let k = key_stands (codes "value") (bare w ∷ ws) s e refl r in
    let n = named_stands w ws k.0 e k.2 in
    let fine : sees (codes "file") k.0 ≡ false = sees_word (codes "file") (bare w) ws k.0 e k.2 ∙ isnt in
    (n.0, n.1, first_of_two _ _ (sees (codes "value") s) (sees_word (codes "value") (key (codes "value")) (bare w ∷ ws) s e r) (k.0, tt, k.1, (k.0, k.0, (refl, refl), (k.0, tt, (ap (λ t. cond t (Some (error fault.OtherFile (lexed k.0).at)) None) fine, refl), n.2))), n.3)

-- ---- attributes

-- the name of object number k
abbrev pub name_of : ℕ → List ℕ
name_of k = decimal k

abbrev pub given_of : Option Inline → ℕ → Given
given_of None k = value.Object (unplaced (name_of k))
given_of (Some (as_text b)) k = value.Text b
given_of (Some (as_number z)) k = value.Number z

abbrev pub IsGiven : Option Inline → ℕ → Type 0
IsGiven None k = bytes_eq (name_of k) (codes "file") ≡ false
IsGiven (Some (as_text b)) k = Unit {0}
IsGiven (Some (as_number z)) k = IsIn int_low int_high z

given_stands : (v : Option Inline) (k : ℕ) (ws : List Word) (s e : At) → IsGiven v k → Runs s (given_words v k ++ ws) e → (g : Given) × (m : At) × attribute_value.is s g m × Runs m ws e × (erased_given g ≡ given_of v k)
unfolding attribute_value text_value number_value object_value
given_stands None k ws s e h r =
    let n = reference_stands (name_of k) ws s e h r in (
      value.Object (named_at (name_of k) n.0),
      n.1,
      second_of_two _ _ (sees (codes "string") s) (sees_word (codes "string") (key (codes "value")) _ s e r) (second_of_two _ _ (sees (codes "number") s) (sees_word (codes "number") (key (codes "value")) _ s e r) (n.1, named_at (name_of k) n.0, n.2, (refl, refl))),
      n.3,
      refl,
    )
given_stands (Some (as_text b)) k ws s e h r =
    let w = key_stands (codes "string") (in_quotes b ∷ ws) s e refl r in
    let q = quoted_stands b ws w.0 e w.2 in (
      value.Text b,
      q.1,
      first_of_two _ _ (sees (codes "string") s) (sees_word (codes "string") (key (codes "string")) _ s e r) (w.0, tt, w.1, (q.1, named_at b q.0, q.2, (refl, refl))),
      q.3,
      refl,
    )
given_stands (Some (as_number z)) k ws s e h r =
    let w = key_stands (codes "number") (number z ∷ ws) s e refl r in
    let n = bounded_stands int_low int_high z ws w.0 e h.small h.between w.2 in (
      value.Number z,
      n.0,
      second_of_two _ _ (sees (codes "string") s) (sees_word (codes "string") (key (codes "number")) _ s e r) (first_of_two _ _ (sees (codes "number") s) (sees_word (codes "number") (key (codes "number")) _ s e r) (w.0, tt, w.1, (n.0, z, n.1, (refl, refl)))),
      n.2,
      refl,
    )

attribute_stands : (found : List Attribute) (n : List ℕ) (v : Option Inline) (k : ℕ) (ws : List Word) (s e : At) → has_attribute n found ≡ false → IsGiven v k
    → Runs s (key (codes "attribute") ∷ in_quotes n ∷ (given_words v k ++ ws)) e
    → (a : Attribute) × (m : At) × (attribute found).is s a m × Runs m ws e × (erased_attribute a ≡ record { name = n; value = given_of v k })
unfolding attribute
attribute_stands found n v k ws s e fresh h r =
    let w = key_stands (codes "attribute") _ s e refl r in
    let q = quoted_stands n (given_words v k ++ ws) w.0 e w.2 in
    let g = given_stands v k ws q.1 e h q.3 in (
      record { name = n; value = g.0 },
      g.1,
      (w.0, tt, w.1, (q.1, named_at n q.0, q.2, (q.1, tt, (ap (λ t. repeated t q.0) fresh, refl), (g.1, g.0, g.2, (refl, refl))))),
      g.3,
      ap (λ (x : Given). let a : Attribute = record { name = n; value = x } in a) g.4,
    )

-- ---- all attributes of an object, whose values have the numbers from k on

abbrev pub AreGiven : List (List ℕ) → PartList → ℕ → Type 0
AreGiven names no_parts k = Unit {0}
AreGiven names (part None p t xs) k = ⊥
AreGiven names (part (Some n) p t xs) k = (list_any (bytes_eq n) names ≡ false) × IsGiven (inline_of t) (last_of k (many t)) × AreGiven (names ++ n ∷ []) xs (k + unless_inline (inline_of t) (many t))

abbrev pub attributes_of : PartList → ℕ → List Attribute
attributes_of no_parts k = []
attributes_of (part None p t xs) k = []
attributes_of (part (Some n) p t xs) k = record { name = n; value = given_of (inline_of t) (last_of k (many t)) } ∷ attributes_of xs (k + unless_inline (inline_of t) (many t))

names_push : (found : List Attribute) (a : Attribute) → attribute_names (found ++ a ∷ []) ≡ attribute_names found ++ a.name ∷ []
names_push [] a = refl
names_push (x ∷ found) a = ap (λ ns. x.name ∷ ns) (names_push found a)

pub record Attributes (found : List Attribute) (xs : PartList) (k : ℕ) (s : At) (w : Word) (ws : List Word) (e : At) : Type 0 where
  pub all : List Attribute
  pub place : At
  pub turns : ℕ
  pub stand : Goes sees_attribute next_attribute turns found s all place
  pub behind : Runs place (w ∷ ws) e
  pub same : map erased_attribute all ≡ map erased_attribute found ++ attributes_of xs k

pub attributes_stand : (xs : PartList) (k : ℕ) (found : List Attribute) (w : Word) (ws : List Word) (s e : At) → AreGiven (attribute_names found) xs k → is_word (codes "attribute") w ≡ false
    → Runs s (words_of (attribute_lines xs k) ++ w ∷ ws) e → Attributes found xs k s w ws e
unfolding next_attribute
attributes_stand no_parts k found w ws s e h last r = record {
  all = found;
  place = s;
  turns = 0;
  stand = (sees_word (codes "attribute") w ws s e r ∙ last, refl, refl);
  behind = r;
  same = sym (append-nil (map erased_attribute found));
}
attributes_stand (part None p t xs) k found w ws s e h last r = absurd h
attributes_stand (part (Some n) p t xs) k found w ws s e h last r =
    let v = inline_of t in
    let j = last_of k (many t) in
    let after = k + unless_inline v (many t) in
    let rest = words_of (attribute_lines xs after) ++ w ∷ ws in
    let split : (key (codes "attribute") ∷ in_quotes n ∷ (given_words v j ++ words_of (attribute_lines xs after))) ++ w ∷ ws ≡ key (codes "attribute") ∷ in_quotes n ∷ (given_words v j ++ rest) =
    ap (λ (l : List Word). key (codes "attribute") ∷ in_quotes n ∷ l) (append_assoc (given_words v j) (words_of (attribute_lines xs after)) (w ∷ ws)) in
    let shown : Runs s (key (codes "attribute") ∷ in_quotes n ∷ (given_words v j ++ rest)) e = subst (λ (l : List Word). Runs s l e) split r in
    let one = attribute_stands found n v j rest s e h.0 h.1 shown in
    let a = one.0 in
    let named : attribute_names (found ++ a ∷ []) ≡ attribute_names found ++ n ∷ [] = names_push found a ∙ ap (λ (b : Attribute). attribute_names found ++ b.name ∷ []) one.4 in
    let more = attributes_stand xs after (found ++ a ∷ []) w ws one.1 e (subst (λ (ns : List (List ℕ)). AreGiven ns xs after) (sym named) h.2) last one.3 in
    record {
      all = more.all;
      place = more.place;
      turns = suc more.turns;
      stand = (sees_word (codes "attribute") (key (codes "attribute")) _ s e r, one.1, found ++ a ∷ [], (one.1, a, one.2, (refl, refl)), more.stand);
      behind = more.behind;
      same = more.same ∙ ap (λ l. l ++ attributes_of xs after) (map-append erased_attribute found (a ∷ [])) ∙ append_assoc (map erased_attribute found) (erased_attribute a ∷ []) (attributes_of xs after)
          ∙ ap (λ (b : Attribute). map erased_attribute found ++ b ∷ attributes_of xs after) one.4;
    }
