-- What Slab answers: one slab of a field, or the series of all slabs along a dimension.
use Rattle.std.specs.Prelude.{ℕ, ◌-◌, List, slice_index}
use Rattle.dx_base.specs.Object.{Tree, series, no_parts}
use Rattle.dx_objects.specs.Runs.{Values, Answer}
use Rattle.dx_objects.specs.Values.{value_at}
use Rattle.dx_slab.specs.Answered.{◌>>=◌, needed, in_limits, one_result}
use Rattle.dx_slab.specs.Components.{slab, slabs}
use Rattle.dx_slab.specs.Inputs.{field_in, counts_in, asked_in}
use Rattle.dx_slab.specs.declared.inputs.Asked.{Asked}
use Rattle.dx_slab.specs.declared.inputs.Asked.TheVariants.{One, Each}

-- at p points there are `p - t` slabs of thickness t
abbrev pub series_of : List ℕ → ℕ → ℕ → Tree → Tree
series_of cs d t whole = series (slabs cs d t whole 0 (slice_index cs d - t)) no_parts

abbrev pub slab_asked : Tree → List ℕ → Asked → Tree
slab_asked whole cs (One c) = slab cs c whole
slab_asked whole cs (Each d t) = series_of cs d t whole

abbrev pub slab_answer : Values → Answer
slab_answer inputs =
    one_result (needed (field_in (value_at inputs 0)) >>= λ whole.
    counts_in whole >>= λ cs.
    needed (asked_in cs inputs) >>= λ asked.
    in_limits (slab_asked whole cs asked))
