-- The lines of an array by its class, and rows one by one.
use Rattle.std.proofs.Common.{◌≡◌, ◌≤◌, ◌<◌, ◌*◌, ◌+◌, ◌-◌, ◌∙◌, ◌++◌, [], ℕ, suc, ℤ, List, Some, map, take, drop, length, refl, sym, ap, append_assoc, append-nil, arith, rules, length-drop, IsTrue}
use Rattle.std.specs.Prelude.{◌==◌}
use Rattle.std.proofs.lemmas.Bool.{and_parts}
use Rattle.std.proofs.Math.Nat.{div-mul-le_self, add-mul}
use Rattle.dx_base.specs.ArrayLimits.{IsLawfulArray, has_lengths_of}
use Rattle.dx_base.specs.Array.{ArrayData, Class, plain, constant, regular, grid_positions, grid_connections, items, width, counts_of, origin_of, deltas_of}
use Rattle.dx_arrays.specs.Classes.{kind_of, plain_of}
use Rattle.dx_arrays.specs.declared.array.ArrayClass.TheVariants as kind
use Rattle.dx_native_text.specs.Lines.{Line, line_text, spelled}
use Rattle.dx_native_text.specs.Arrays.{class_lines, rows, item_line, origin_line, delta_line}
use Rattle.dx_native_write.specs.Spelled.{item_text, origin_text, delta_text}
use Rattle.dx_native_write.proofs.Spelling.{item_is, origin_is, delta_is}

plain_is : (c : Class) (vs : List ℤ) → plain_of c ≡ Some vs → c ≡ plain vs
plain_is (plain ws) vs e = cc
plain_is (constant n v) vs e = absurd (cc e)
plain_is (regular n o d) vs e = absurd (cc e)
plain_is (grid_positions cs o ds) vs e = absurd (cc e)
plain_is (grid_connections cs) vs e = absurd (cc e)

pub plain_by : (a : ArrayData) (c : Class) (vs : List ℤ) → plain_of c ≡ Some vs → class_lines a c ≡ map item_line (rows (width a) (items a) vs)
plain_by a (plain vs) ws e = cc
plain_by a _ ws e = cc

pub room_by : (a : ArrayData) (vs : List ℤ) → plain_of a.class ≡ Some vs → items a * width a ≤ length vs
room_by a vs e = rw (plain_is a.class vs e) (div-mul-le_self (length vs) (width a))

pub constant_by : (a : ArrayData) (c : Class) → kind_of c ≡ kind.Constant → spelled (class_lines a c) ≡ item_text (origin_of c)
constant_by a (constant n v) e = append-nil _ ∙ item_is v
constant_by a _ e = cc

pub regular_by : (a : ArrayData) (c : Class) → kind_of c ≡ kind.Regular → spelled (class_lines a c) ≡ origin_text (origin_of c) ++ delta_text (deltas_of c)
regular_by a (regular n o d) e =
    ap (λ (text : List ℕ). line_text (origin_line o) ++ text) (append-nil (line_text (delta_line d)) ∙ delta_is d)
    ∙ ap (λ (text : List ℕ). text ++ delta_text d) (origin_is o)
regular_by a _ e = cc

pub positions_by : (a : ArrayData) (c : Class) → kind_of c ≡ kind.GridPositions →
    spelled (class_lines a c) ≡ origin_text (origin_of c) ++ spelled (map delta_line (rows (length (counts_of c)) (length (counts_of c)) (deltas_of c)))
positions_by a (grid_positions cs o ds) e = ap (λ (text : List ℕ). text ++ spelled (map delta_line (rows (length cs) (length cs) ds))) (origin_is o)
positions_by a _ e = cc

pub connections_by : (a : ArrayData) (c : Class) → kind_of c ≡ kind.GridConnections → spelled (class_lines a c) ≡ []
connections_by a (grid_connections cs) e = refl
connections_by a _ e = cc

many_deltas : (w : ℕ) (c : Class) → IsTrue (has_lengths_of w c) → kind_of c ≡ kind.GridPositions → length (counts_of c) * length (counts_of c) ≤ length (deltas_of c)
many_deltas w (grid_positions cs o ds) h e = let hs = and_parts (length o == length cs) (length ds == length cs * length cs) h in
    let f : length ds ≡ length cs * length cs = search (rules, hs.1) in omega (arith, f)
many_deltas w (plain vs) h e = absurd (cc e)
many_deltas w (constant n v) h e = absurd (cc e)
many_deltas w (regular n o d) h e = absurd (cc e)
many_deltas w (grid_connections cs) h e = absurd (cc e)

pub deltas_by : (a : ArrayData) → IsLawfulArray a → kind_of a.class ≡ kind.GridPositions → length (counts_of a.class) * length (counts_of a.class) ≤ length (deltas_of a.class)
deltas_by a l e = many_deltas (width a) a.class l.lengths e

pub ruleset class_texts = (plain_by, room_by, deltas_by, constant_by, regular_by, positions_by, connections_by)

-- the lines of the rows behind row number i
pub rows_next : (line : List ℤ → Line) (text : List ℤ → List ℕ) → ((zs : List ℤ) → line_text (line zs) ≡ text zs) →
    (w i n : ℕ) (vs front back : List ℤ) (before out whole : List ℕ) → i < n → front ≡ take w vs → back ≡ drop w vs →
    before ++ spelled (map line (rows w (n - i) vs)) ≡ whole → out ≡ before ++ text front →
    out ++ spelled (map line (rows w (n - (i + 1)) back)) ≡ whole
rows_next line text each w i n vs front back before out whole h f b e next =
    let one : n - i ≡ suc (n - (i + 1)) = omega arith in
    let row : text front ≡ line_text (line (take w vs)) = sym (each front) ∙ ap (λ (zs : List ℤ). line_text (line zs)) f in
    let left : List ℕ = spelled (map line (rows w (n - (i + 1)) (drop w vs))) in
    ap (λ (zs : List ℤ). out ++ spelled (map line (rows w (n - (i + 1)) zs))) b
    ∙ ap (λ (bs : List ℕ). bs ++ left) (next ∙ ap (λ (bs : List ℕ). before ++ bs) row)
    ∙ append_assoc before (line_text (line (take w vs))) left
    ∙ (rw one at e)

pub rows_room : (w i n : ℕ) (vs back : List ℤ) → i < n → back ≡ drop w vs → (n - i) * w ≤ length vs → (n - (i + 1)) * w ≤ length back
rows_room w i n vs back h b e =
    let one : n - i ≡ (n - (i + 1)) + 1 = omega arith in
    let more : (n - i) * w ≡ (n - (i + 1)) * w + w = ap (λ (k : ℕ). k * w) one ∙ add-mul (n - (i + 1)) 1 w ∙ (omega arith) in
    let left : length back ≡ length vs - w = ap length b ∙ length-drop w vs in
    omega (arith, more, left)
