-- One number over all bytes of a file, and what a hash takes of them: how many they are, and that number.
use Rattle.std.specs.Prelude.{◌≡◌, ℕ, ◌+◌, ◌*◌, ◌^◌, ◌%◌, List, ◌++◌, length, true, nat_eq}
use Rattle.std.specs.List.{fold}
use Rattle.std.specs.Cmp.Lexicographic.{pointwise, bytes_decides}
use Rattle.std.specs.Hash as fed
use Rattle.std.proofs.Common.{ap}

abbrev pub with_byte : ℕ → ℕ → ℕ
with_byte d b = (d * 1099511628211 + b) % 2 ^ 64

unfoldable pub digest : List ℕ → ℕ
digest bytes = fold with_byte 14695981039346656037 bytes

abbrev pub digested : List ℕ → fed.HashWrites
digested b = fed.usize (length b) ++ fed.u64 (digest b)

-- equal bytes are fed alike
pub digested_alike : (x y : List ℕ) → pointwise nat_eq x y ≡ true → digested x ≡ digested y
digested_alike x y h = ap digested ((bytes_decides x y).0 h)
