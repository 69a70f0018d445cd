-- The law for every lawful object: reading what was written of it gives it again.
use Rattle.std.proofs.Common.{◌≡◌, ℕ, zero, suc, ◌+◌, ◌-◌, ◌<◌, ◌≤◌, ◌^◌, Bool, true, false, List, [], ◌∷◌, ◌++◌, length, Option, Some, None, Result, Ok, ℤ, pos, refl, sym, ap, ◌∙◌, subst, arith}
use Rattle.std.specs.Prelude.{codes}
use Rattle.dx_base.specs.Object.{Tree, PartList, array, text, field, group, composite, series, no_parts, part}
use Rattle.dx_base.specs.ObjectNumbers.{steps_by_ints}
use Rattle.dx_base.specs.ObjectLimits.{IsLawful, max_count, fits}
use Rattle.dx_native_grammar.specs.declared.clause.ListClass.{ListClass}
use Rattle.dx_native_grammar.specs.declared.clause.ListClass.TheVariants as listing
use Rattle.dx_native_grammar.specs.Names.{name_before}
use Rattle.dx_native_grammar.specs.Native.{IsNative}
use Rattle.dx_native_text.specs.Lines.{Word, bare, in_quotes}
use Rattle.dx_native_text.specs.Arrays.{class_words, class_lines}
use Rattle.dx_native_text.specs.Inline.{Inline, as_text, as_number, inline_of}
use Rattle.dx_native_text.specs.Text.{unless_inline, many, parts_many, values_many, last_of, value_words, given_words, attribute_lines, object_line, unless_inline_lines, lines_of, part_lines, value_lines, end_line, text_of}
use Rattle.dx_native_law.proofs.LaidLines.{key, natural, number, component_word, component_lines, member_lines, placed_lines}
use Rattle.dx_native_law.proofs.Tokens.{IsGood as IsWord, AreGood, IsLine, AreLines}
use Rattle.dx_native_law.proofs.Numbers.{decimal_bare, signed_bare}
use Rattle.dx_native_law.proofs.Words.{key_good, lines_append}
use Rattle.dx_native_law.proofs.Listings.{IsGiven, AreGiven}
use Rattle.dx_native_law.proofs.Parts.{part_words, IsPart, AreParts, lines_of_parts}
use Rattle.dx_native_law.proofs.Objects.{IsGood, IsGoodValue, AreGoodParts, AreGoodValues, component_same, member_same, composite_same, placed_same}
use Rattle.dx_native_law.proofs.Means.{some_many}
use Rattle.dx_native_law.proofs.Law.{IsWritten, read_again}
use Rattle.dx_native_law.proofs.Lawful.{allowed, levels_fit, few, has_arrays, is_named}
use Rattle.dx_native_law.proofs.Good.{lawful_good}
use Rattle.dx_native_law.proofs.Ints.{HasIntsAll, ints_of}

natural_word : (n : ℕ) → n < 10000000000 → IsWord (natural n)
natural_word n h = decimal_bare n (omega arith)

value_good : (k : ℕ) → k < 10000000000 → AreGood (value_words k)
value_good k h = (key_good (codes "value") refl, (natural_word k h, tt))

-- ---- attributes

given_good : (v : Option Inline) (k : ℕ) → IsGiven v k → (v ≡ None → k < 10000000000) → AreGood (given_words v k)
given_good None k h next = value_good k (next refl)
given_good (Some (as_text b)) k h next = (key_good (codes "string") refl, (tt, tt))
given_good (Some (as_number z)) k h next = (key_good (codes "number") refl, (signed_bare z h.small, tt))

below_if : (v : Option Inline) (k m r : ℕ) → v ≡ None → 1 ≤ m → k + (unless_inline v m + r) < 10000000000 → k + m - 1 < 10000000000
below_if None k m r e s h = omega arith
below_if (Some v) k m r e s h = absurd cc

attributes_good : (xs : PartList) (names : List (List ℕ)) (k : ℕ) → AreGiven names xs k → k + values_many xs < 10000000000 → AreLines (attribute_lines xs k)
attributes_good no_parts names k h b = tt
attributes_good (part None p t xs) names k h b = absurd h
attributes_good (part (Some n) p t xs) names k h b =
    let v = inline_of t in (
      (key_good (codes "attribute") refl, (tt, given_good v (last_of k (many t)) h.1 (λ none. below_if v k (many t) (values_many xs) none (some_many t) b))),
      attributes_good xs (names ++ n ∷ []) (k + unless_inline v (many t)) h.2 (omega arith),
    )

-- ---- parts

part_good : (K : ListClass) (names : List (List ℕ)) (i : ℕ) (n : Option (List ℕ)) (p : ℤ) (k : ℕ) → IsPart K names i n p → k < 10000000000 → IsLine (part_words K i n p k)
part_good listing.Field names i None p k h b = absurd h
part_good listing.Field names i (Some n) p k h b = (key_good (codes "component") refl, (tt, value_good k b))
part_good listing.Group names i None p k h b = (key_good (codes "member") refl, (natural_word i h.0, value_good k b))
part_good listing.Composite names i None p k h b = (key_good (codes "member") refl, (natural_word i h.0, value_good k b))
part_good listing.Group names i (Some n) p k h b = (key_good (codes "member") refl, (tt, value_good k b))
part_good listing.Composite names i (Some n) p k h b = (key_good (codes "member") refl, (tt, value_good k b))
part_good listing.Series names i None p k h b = (key_good (codes "member") refl, (natural_word i h.0, (key_good (codes "position") refl, (signed_bare p h.1.small, value_good k b))))
part_good listing.Series names i (Some n) p k h b = absurd h

parts_good : (K : ListClass) (ps : PartList) (names : List (List ℕ)) (i k : ℕ) → AreParts K names i ps k → k + parts_many ps < 10000000000 → AreLines (lines_of_parts K i ps k)
parts_good K no_parts names i k h b = tt
parts_good K (part n p t ps) names i k h b =
    let some = some_many t in
    (part_good K names i n p (last_of k (many t)) h.0 (omega arith), parts_good K ps (names ++ name_before n []) (suc i) (k + many t) h.2 (omega arith))

-- ---- objects

object_good : (n : ℕ) (ws : List Word) → n < 10000000000 → AreGood ws → IsLine (object_line n ws)
object_good n ws h g = (key_good (codes "object") refl, (natural_word n h, (key_good (codes "class") refl, g)))

value_lines_good : (v : Option Inline) (t : Tree) (k r : ℕ) → IsGoodValue v (IsGood t k) → k + (unless_inline v (many t) + r) < 10000000000 → (IsGood t k → k + many t < 10000000000 → AreLines (lines_of t k)) → AreLines (unless_inline_lines v (lines_of t k))
value_lines_good None t k r h b next = next h (omega arith)
value_lines_good (Some v) t k r h b next = tt

mutual
  lines_good : (t : Tree) (k : ℕ) → IsGood t k → k + many t < 10000000000 → AreLines (lines_of t k)
  lines_good (array a xs) k h b =
      lines_append (value_lines xs k) _ (values_lines_good xs k h.2 (omega arith))
      (object_good (k + values_many xs) (class_words a a.class) (omega arith) h.0.good, lines_append (class_lines a a.class) (attribute_lines xs k) h.0.lines (attributes_good xs [] k h.1 (omega arith)))
  lines_good (text c xs) k h b =
      lines_append (value_lines xs k) _ (values_lines_good xs k h.1 (omega arith))
      (object_good (k + values_many xs) (key (codes "string") ∷ in_quotes c ∷ []) (omega arith) (key_good (codes "string") refl, (tt, tt)), attributes_good xs [] k h.0 (omega arith))
  lines_good (field ps xs) k h b =
      let j = k + parts_many ps in
      lines_append (part_lines ps k) _ (parts_lines_good ps k h.2 (omega arith))
      (lines_append (value_lines xs j) _ (values_lines_good xs j h.3 (omega arith)) (
        object_good (k + (parts_many ps + values_many xs)) (key (codes "field") ∷ []) (omega arith) (key_good (codes "field") refl, tt),
        lines_append (component_lines 0 ps k) (attribute_lines xs j) (subst AreLines (component_same 0 ps k) (parts_good listing.Field ps [] 0 k h.0 (omega arith))) (attributes_good xs [] j h.1 (omega arith)),
      ))
  lines_good (group ps xs) k h b =
      let j = k + parts_many ps in
      lines_append (part_lines ps k) _ (parts_lines_good ps k h.2 (omega arith))
      (lines_append (value_lines xs j) _ (values_lines_good xs j h.3 (omega arith)) (
        object_good (k + (parts_many ps + values_many xs)) (key (codes "group") ∷ []) (omega arith) (key_good (codes "group") refl, tt),
        lines_append (member_lines 0 ps k) (attribute_lines xs j) (subst AreLines (member_same 0 ps k) (parts_good listing.Group ps [] 0 k h.0 (omega arith))) (attributes_good xs [] j h.1 (omega arith)),
      ))
  lines_good (composite ps xs) k h b =
      let j = k + parts_many ps in
      lines_append (part_lines ps k) _ (parts_lines_good ps k h.2 (omega arith))
      (lines_append (value_lines xs j) _ (values_lines_good xs j h.3 (omega arith)) (
        object_good (k + (parts_many ps + values_many xs)) (key (codes "compositefield") ∷ []) (omega arith) (key_good (codes "compositefield") refl, tt),
        lines_append (member_lines 0 ps k) (attribute_lines xs j) (subst AreLines (composite_same 0 ps k) (parts_good listing.Composite ps [] 0 k h.0 (omega arith))) (attributes_good xs [] j h.1 (omega arith)),
      ))
  lines_good (series ps xs) k h b =
      let j = k + parts_many ps in
      lines_append (part_lines ps k) _ (parts_lines_good ps k h.2 (omega arith))
      (lines_append (value_lines xs j) _ (values_lines_good xs j h.3 (omega arith)) (
        object_good (k + (parts_many ps + values_many xs)) (key (codes "series") ∷ []) (omega arith) (key_good (codes "series") refl, tt),
        lines_append (placed_lines 0 ps k) (attribute_lines xs j) (subst AreLines (placed_same 0 ps k) (parts_good listing.Series ps [] 0 k h.0 (omega arith))) (attributes_good xs [] j h.1 (omega arith)),
      ))

  parts_lines_good : (ps : PartList) (k : ℕ) → AreGoodParts ps k → k + parts_many ps < 10000000000 → AreLines (part_lines ps k)
  parts_lines_good no_parts k h b = tt
  parts_lines_good (part n p t ps) k h b = lines_append (lines_of t k) (part_lines ps (k + many t)) (lines_good t k h.0 (omega arith)) (parts_lines_good ps (k + many t) h.1 (omega arith))

  values_lines_good : (xs : PartList) (k : ℕ) → AreGoodValues xs k → k + values_many xs < 10000000000 → AreLines (value_lines xs k)
  values_lines_good no_parts k h b = tt
  values_lines_good (part n p t xs) k h b =
      let v = inline_of t in
      let after = k + unless_inline v (many t) in
      lines_append (unless_inline_lines v (lines_of t k)) (value_lines xs after) (value_lines_good v t k (values_many xs) h.0 b (λ g c. lines_good t k g c)) (values_lines_good xs after h.1 (omega arith))

-- ---- the law

pub lawful_written : (t : Tree) → IsLawful t → HasIntsAll t → IsWritten t
lawful_written t h i =
    let c = few t h in
    let below : 1 + many t < 10000000000 = omega (arith, c) in
    let g = lawful_good t 1 h i below in
    record {
      good = g;
      lines = lines_append (lines_of t 1) (end_line ∷ []) (lines_good t 1 g below) ((key_good (codes "end") refl, tt), tt);
      named = is_named t h;
      arrays = has_arrays t h;
      few = omega (arith, c);
      levels = levels_fit t h;
      fits = (allowed t h).limits;
    }

-- Where an object can be made and all its origins and deltas are ints, its written text means this same object to a reader that
-- asks for no name.
pub read_written : (t : Tree) → IsLawful t → steps_by_ints t ≡ true → IsNative (text_of t) None (Ok t)
read_written t h i = read_again t (lawful_written t h (ints_of t i))
