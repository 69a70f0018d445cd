-- Terms by their numbers: those of held values, and behind them those that were formed.
use Rattle.std.specs.Prelude.{◌≡◌, ℕ, ◌+◌, ◌<◌, ◌≤◌, List, length, Some, slice_get}
use Rattle.dx_tags.specs.declared.term.Term.{Term}
use Rattle.dx_tags.specs.declared.term.Term.TheVariants.{Constant, Held as HeldBy, Call, File}
use Rattle.dx_tags.specs.declared.term.Named.{Named}
use Rattle.dx_tags.specs.declared.term.Named.TheVariants as named

-- the term that is named so
abbrev pub term_named : Named → Term
term_named (named.Held k) = HeldBy k
term_named (named.Formed t) = t.now

-- a term is none of so many held values
abbrev pub IsOther : ℕ → Term → Type 0
IsOther held (Constant c) = Unit {0}
IsOther held (HeldBy k) = held ≤ k
IsOther held (Call m ts) = Unit {0}
IsOther held (File b) = Unit {0}

-- terms that come behind those of so many held values: none is one of those, and there are numbers for all
pub record StandBehind (held : ℕ) (terms : List Term) : Type 0 where
  pub numbered : held + length terms < 18446744073709551616
  pub others : (i : ℕ) (t : Term) → slice_get terms i ≡ Some t → IsOther held t
