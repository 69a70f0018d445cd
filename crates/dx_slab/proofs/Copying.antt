-- Runs of the values that a plain array has in a list.
use Rattle.std.proofs.Common.{◌≡◌, ℕ, ◌+◌, ◌-◌, ◌*◌, ◌≤◌, ◌<◌, ℤ, List, length, take, drop, Some, ap, ◌∙◌, arith}
use Rattle.std.proofs.Math.Nat.{add-mul, mul-le-mul_right, div-mul-le_self}
use Rattle.dx_base.specs.Array.{ArrayData, Class, plain, constant, regular, grid_positions, grid_connections, items, items_of, width}
use Rattle.dx_base.specs.ArrayLimits.{IsLawfulArray}
use Rattle.dx_arrays.specs.Block.{values_from}
use Rattle.dx_arrays.specs.Classes.{plain_of}
use Rattle.dx_arrays.proofs.Blocks as blocks
use Rattle.dx_arrays.proofs.Blocks.{few_values, plain_run}
use Rattle.dx_slab.specs.Runs.{AreWithin}
use Rattle.dx_slab.specs.declared.runs.Runs.{Runs}
use Rattle.dx_slab.proofs.Keeping.{run_ends}

-- the items of a plain array are no more than its values
stored_within : (w : ℕ) (c : Class) (vs : List ℤ) → plain_of c ≡ Some vs → items_of w c * w ≤ length vs
stored_within w (plain ws) vs h = let same : ws ≡ vs = cc h in rw (← same) (div-mul-le_self (length ws) w)
stored_within w (constant n v) vs h = absurd (cc h)
stored_within w (regular n o d) vs h = absurd (cc h)
stored_within w (grid_positions cs o ds) vs h = absurd (cc h)
stored_within w (grid_connections cs) vs h = absurd (cc h)

-- run number k stands in the list from one value to another
pub record StandsIn (a : ArrayData) (vs : List ℤ) (r : Runs) (k w : ℕ) : Type 0 where
  pub order : (k * r.stride + r.start) * w ≤ (k * r.stride + r.start + r.len) * w
  pub within : (k * r.stride + r.start + r.len) * w ≤ length vs
  pub few : (k * r.stride + r.start + r.len) * w ≤ 134217728
  pub values : take ((k * r.stride + r.start + r.len) * w - (k * r.stride + r.start) * w) (drop ((k * r.stride + r.start) * w) vs) ≡ values_from a (k * r.stride + r.start) r.len
  pub len : length (take ((k * r.stride + r.start + r.len) * w - (k * r.stride + r.start) * w) (drop ((k * r.stride + r.start) * w) vs)) ≡ r.len * width a
  pub next : (k + 1) * r.len * width a ≡ k * r.len * width a + r.len * width a
  pub room : (k + 1) * r.len * width a ≤ r.count * r.len * width a

pub stands_in : (a : ArrayData) (vs : List ℤ) (r : Runs) (k w : ℕ) → IsLawfulArray a → plain_of a.class ≡ Some vs → w ≡ width a → AreWithin r (items a) → k < r.count → StandsIn a vs r k w
stands_in a vs r k w l stored e h lt =
    let from = k * r.stride + r.start in
    let to = from + r.len in
    let ends : to ≤ items a = run_ends r (items a) k h lt in
    let more : from ≤ to = omega arith in
    let rows : to * width a ≤ items a * width a = mul-le-mul_right (width a) ends in
    let all = stored_within (width a) a.class vs stored in
    let gap : to - from ≡ r.len = omega arith in
    let is : take (to * w - from * w) (drop (from * w) vs) ≡ values_from a from r.len = plain_run a vs from to w l stored e more ends ∙ ap (values_from a from) gap in
    let one : k + 1 ≤ r.count = omega arith in
    let lens : (k + 1) * r.len ≤ r.count * r.len = mul-le-mul_right r.len one in
    let parts : (k + 1) * r.len ≡ k * r.len + r.len = add-mul k 1 r.len ∙ ap (λ n. k * r.len + n) (omega arith) in
    record {
      order = mul-le-mul_right w more;
      within = rw e (omega (arith, rows, all));
      few = rw e (few_values a to l ends);
      values = is;
      len = ap length is ∙ blocks.length_values a from r.len;
      next = ap (λ n. n * width a) parts ∙ add-mul (k * r.len) r.len (width a);
      room = mul-le-mul_right (width a) lens;
    }
