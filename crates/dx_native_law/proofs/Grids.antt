-- The clauses of grids stand where their words are shown.
use Rattle.std.proofs.Common.{◌≡◌, ℕ, zero, suc, ◌+◌, ◌<◌, ◌≤◌, Bool, true, false, cond, List, [], ◌∷◌, ◌++◌, length, map, Option, Some, None, ℤ, pos, refl, sym, ap, ◌∙◌, subst, append_assoc, append-nil, arith}
use Rattle.std.specs.Prelude.{bytes_eq, codes, is_some, ◌||◌}
use Rattle.std.specs.Fmt.{decimal}
use Rattle.dx_base.specs.Array.{ArrayData}
use Rattle.dx_base.specs.Number as base_number
use Rattle.dx_places.specs.Grammar.{At, Grammar, chosen}
use Rattle.dx_native_lex.specs.Scan.{Found, lexed, number_of, is_float}
use Rattle.dx_native_grammar.specs.Grammar.{natural as natural_number, int as int_number, counted, more_counts, counts, delta, deltas, made, grid_points, grid_cells}
use Rattle.dx_native_grammar.specs.Words.{sees_number, is_number_word, array_fault, room_fault, points_of, cells_of, int_low, int_high}
use Rattle.dx_native_text.specs.Lines.{Word, bare, in_quotes}
use Rattle.dx_native_law.proofs.LaidLines.{key, natural, number}
use Rattle.dx_native_law.proofs.Runs.{Runs, found_of}
use Rattle.dx_native_law.proofs.Numbers.{decimal_again}
use Rattle.dx_native_law.proofs.Stands.{first_of_two, second_of_two, key_stands, natural_stands, IsNatural, AreIn, AreNatural}
use Rattle.dx_native_law.proofs.Arrays.{ints_stand, made_stands}

-- a word that is no number and wasn't to be one
abbrev pub IsNoNumber : Word → Type 0
IsNoNumber (bare w) = (is_some (number_of w) || is_float w) ≡ false
IsNoNumber (in_quotes b) = Unit {0}

sees_none : (w : Word) (ws : List Word) (s e : At) → IsNoNumber w → Runs s (w ∷ ws) e → sees_number s ≡ false
sees_none (bare w) ws s e isnt h = ap (λ (f : Found). is_number_word f.kind f.content) h.it.2 ∙ isnt
sees_none (in_quotes b) ws s e isnt h = ap (λ (f : Found). is_number_word f.kind f.content) h.it.2

sees_one : (n : ℕ) (ws : List Word) (s e : At) → n < 10000000000 → Runs s (natural n ∷ ws) e → sees_number s ≡ true
sees_one n ws s e small h = ap (λ (f : Found). is_number_word f.kind f.content) h.it.2 ∙ ap (λ o. is_some o || is_float (decimal n)) (decimal_again n small)

pub origin_no : IsNoNumber (key (codes "origin"))
unfolding number_of base_number.number_of base_number.number_behind
origin_no = refl

pub attribute_no : IsNoNumber (key (codes "attribute"))
unfolding number_of base_number.number_of base_number.number_behind
attribute_no = refl

pub object_no : IsNoNumber (key (codes "object"))
unfolding number_of base_number.number_of base_number.number_behind
object_no = refl

pub end_no : IsNoNumber (key (codes "end"))
unfolding number_of base_number.number_of base_number.number_behind
end_no = refl

-- ---- counts

more_stand : (k : ℕ) (found cs : List ℕ) (w : Word) (ws : List Word) (s e : At) → length cs ≤ k → AreNatural 1 4294967295 cs → IsNoNumber w → Runs s (map natural cs ++ w ∷ ws) e
    → (m : At) × (more_counts k found).is s (found ++ cs) m × Runs m (w ∷ ws) e
unfolding more_counts
more_stand zero found [] w ws s e few h isnt r = (s, (sym (append-nil found), refl), r)
more_stand zero found (c ∷ cs) w ws s e few h isnt r = absurd (omega arith)
more_stand (suc k) found [] w ws s e few h isnt r = (s, second_of_two _ _ (sees_number s) (sees_none w ws s e isnt r) (sym (append-nil found), refl), r)
more_stand (suc k) found (c ∷ cs) w ws s e few h isnt r =
    let n = natural_stands 1 4294967295 c (map natural cs ++ w ∷ ws) s e h.0.small h.0.between r in
    let more = more_stand k (found ++ c ∷ []) cs w ws n.0 e (omega arith) h.1 isnt n.2 in
    let all : (more_counts k (found ++ c ∷ [])).is n.0 (found ++ c ∷ cs) more.0 = subst (λ (l : List ℕ). (more_counts k (found ++ c ∷ [])).is n.0 l more.0) (append_assoc found (c ∷ []) cs) more.1 in
    (more.0, first_of_two _ _ (sees_number s) (sees_one c (map natural cs ++ w ∷ ws) s e h.0.small r) (n.0, c, n.1, all), more.2)

counts_stand : (c : ℕ) (cs : List ℕ) (w : Word) (ws : List Word) (s e : At) → length cs ≤ 2 → AreNatural 1 4294967295 (c ∷ cs) → IsNoNumber w → Runs s (key (codes "counts") ∷ (map natural (c ∷ cs) ++ w ∷ ws)) e
    → (m : At) × counts.is s (c ∷ cs) m × Runs m (w ∷ ws) e
unfolding counts
counts_stand c cs w ws s e few h isnt r =
    let k = key_stands (codes "counts") _ s e refl r in
    let n = natural_stands 1 4294967295 c (map natural cs ++ w ∷ ws) k.0 e h.0.small h.0.between k.2 in
    let more = more_stand 2 (c ∷ []) cs w ws n.0 e few h.1 isnt n.2 in
    (more.0, (k.0, tt, k.1, (n.0, c, n.1, more.1)), more.2)

-- ---- the lines of deltas

abbrev pub delta_words : List (List ℤ) → List Word → List Word
delta_words [] ws = ws
delta_words (d ∷ ds) ws = key (codes "delta") ∷ (map number d ++ delta_words ds ws)

abbrev pub all_of : List (List ℤ) → List ℤ
all_of [] = []
all_of (d ∷ ds) = d ++ all_of ds

abbrev pub AreRows : ℕ → List (List ℤ) → Type 0
AreRows n [] = Unit {0}
AreRows n (d ∷ ds) = (length d ≡ n) × AreIn int_low int_high d × AreRows n ds

deltas_stand : (n : ℕ) (ds : List (List ℤ)) (found : List ℤ) (ws : List Word) (s e : At) → AreRows n ds → Runs s (delta_words ds ws) e
    → (m : At) × (deltas n (length ds) found).is s (found ++ all_of ds) m × Runs m ws e
unfolding deltas delta
deltas_stand n [] found ws s e h r = (s, (sym (append-nil found), refl), r)
deltas_stand n (d ∷ ds) found ws s e h r =
    let k = key_stands (codes "delta") _ s e refl r in
    let v = ints_stand d n found (delta_words ds ws) k.0 e h.0 h.1 k.2 in
    let more = deltas_stand n ds (found ++ d) ws v.0 e h.2 v.2 in
    (more.0, (v.0, found ++ d, (k.0, tt, k.1, v.1), subst (λ (l : List ℤ). (deltas n (length ds) (found ++ d)).is v.0 l more.0) (append_assoc found d (all_of ds)) more.1), more.2)

-- ---- grids

pub record IsGrid (c : ℕ) (cs : List ℕ) : Type 0 where
  pub few : length cs ≤ 2
  pub counts : AreNatural 1 4294967295 (c ∷ cs)

pub points_stand : (place c : ℕ) (cs : List ℕ) (o : List ℤ) (ds : List (List ℤ)) (ws : List Word) (s e : At) → IsGrid c cs → length o ≡ suc (length cs) → AreIn int_low int_high o
    → length ds ≡ suc (length cs) → AreRows (suc (length cs)) ds → room_fault place (points_of (c ∷ cs) [] []) ≡ None → array_fault place (points_of (c ∷ cs) o (all_of ds)) ≡ None
    → Runs s (key (codes "gridpositions") ∷ key (codes "counts") ∷ (map natural (c ∷ cs) ++ key (codes "origin") ∷ (map number o ++ delta_words ds ws))) e
    → (m : At) × (grid_points place).is s (points_of (c ∷ cs) o (all_of ds)) m × Runs m ws e
unfolding grid_points
points_stand place c cs o ds ws s e g many_o in_o many_d in_d room fine r =
    let k = key_stands (codes "gridpositions") _ s e refl r in
    let n = counts_stand c cs (key (codes "origin")) (map number o ++ delta_words ds ws) k.0 e g.few g.counts origin_no k.2 in
    let ko = key_stands (codes "origin") _ n.0 e refl n.2 in
    let vo = ints_stand o (suc (length cs)) [] (delta_words ds ws) ko.0 e many_o in_o ko.2 in
    let vd = deltas_stand (suc (length cs)) ds [] ws vo.0 e in_d vo.2 in
    let lines : (deltas (suc (length cs)) (suc (length cs)) []).is vo.0 (all_of ds) vd.0 = subst (λ (k : ℕ). (deltas (suc (length cs)) k []).is vo.0 (all_of ds) vd.0) many_d vd.1 in
    (vd.0, (k.0, tt, k.1, (n.0, c ∷ cs, n.1, (n.0, tt, (room, refl), (ko.0, tt, ko.1, (vo.0, o, vo.1, (vd.0, all_of ds, lines, made_stands place (points_of (c ∷ cs) o (all_of ds)) vd.0 fine)))))), vd.2)

pub cells_stand : (place c : ℕ) (cs : List ℕ) (w : Word) (ws : List Word) (s e : At) → IsGrid c cs → IsNoNumber w → array_fault place (cells_of (c ∷ cs)) ≡ None
    → Runs s (key (codes "gridconnections") ∷ key (codes "counts") ∷ (map natural (c ∷ cs) ++ w ∷ ws)) e
    → (m : At) × (grid_cells place).is s (cells_of (c ∷ cs)) m × Runs m (w ∷ ws) e
unfolding grid_cells
cells_stand place c cs w ws s e g isnt fine r =
    let k = key_stands (codes "gridconnections") _ s e refl r in
    let n = counts_stand c cs w ws k.0 e g.few g.counts isnt k.2 in
    (n.0, (k.0, tt, k.1, (n.0, c ∷ cs, n.1, made_stands place (cells_of (c ∷ cs)) n.0 fine)), n.2)
