-- What is answered of an array's head: how many values an item has, and the number of items.
use Rattle.std.specs.Prelude.{◌≡◌, ℕ, ◌<◌, ◌≤◌, List, Some, None, Result, Ok, Err}
use Rattle.dx_base.specs.Array.{product}
use Rattle.dx_native_lex.specs.declared.fault.NativeError.{NativeError}
use Rattle.dx_native_lex.specs.declared.token.Number.{Number}
use Rattle.dx_native_grammar.specs.Words.{items_fault, magnitude}

-- how many values an item has
pub record IsWidth (extents : List ℕ) (w : ℕ) : Type 0 where
  pub product : w ≡ product extents
  pub some : 0 < w
  pub few : w ≤ 65536

-- the number of items, or why it is none
abbrev pub Counts : ℕ → Number → Result ℕ NativeError → Type 0
Counts w n (Ok items) = (items ≡ magnitude n.value) × (items_fault w n ≡ None)
Counts w n (Err e) = items_fault w n ≡ Some e
