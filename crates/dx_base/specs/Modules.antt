-- How many inputs each module takes: its named parameters, and behind them further ones.
use Rattle.std.specs.Prelude.{ℕ, ◌+◌, ◌≤◌, Bool, nat_le, ◌&&◌}
use Rattle.dx_base.specs.declared.function.Module.{Module}
use Rattle.dx_base.specs.declared.function.Module.TheVariants.{Import, Select, Extract, Replace, Mark, Unmark, Slab, Compute, Statistics, Histogram, Collect, CollectNamed, CollectSeries, Inquire}

-- the named parameters, each of which is an input, NULL where a call omits it
abbrev pub named : Module → ℕ
named Import = 6
named Select = 3
named Extract = 2
named Replace = 4
named Mark = 2
named Unmark = 2
named Slab = 4
named Compute = 1
named Statistics = 1
named Histogram = 5
named Collect = 1
named CollectNamed = 2
named CollectSeries = 2
named Inquire = 3

-- the most further inputs that a call may give
abbrev pub more : Module → ℕ
more Import = 0
more Select = 0
more Extract = 0
more Replace = 0
more Mark = 0
more Unmark = 0
more Slab = 0
more Compute = 20
more Statistics = 0
more Histogram = 0
more Collect = 63
more CollectNamed = 62
more CollectSeries = 62
more Inquire = 0

-- so many inputs are as many as the module takes
abbrev pub Takes : Module → ℕ → Type 0
Takes m inputs = (named m ≤ inputs) × (inputs ≤ named m + more m)

-- the same as a test
abbrev pub takes : Module → ℕ → Bool
takes m inputs = nat_le (named m) inputs && nat_le inputs (named m + more m)
