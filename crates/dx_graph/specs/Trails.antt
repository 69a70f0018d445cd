-- The steps that lead to the texts of a script, each text by the one from which it is reached.
use Rattle.std.specs.Prelude.{ℕ, suc, ◌<◌, ◌≤◌, List, [], ◌∷◌, Option, Some, None, length, slice_index_or}
use Rattle.dx_macros.specs.Site.{Spot, Nth, Target}
use Rattle.dx_macros.specs.Expansion.{spot_of_call}
use Rattle.dx_graph.specs.Earlier.{by_earlier}
use Rattle.dx_graph.specs.declared.trail.Trail.{Trail}
use Rattle.dx_graph.specs.declared.trail.Trail.TheVariants as trail

-- no step leads to a call at the top level
abbrev pub no_steps : Spot
no_steps = record { base = []; path = [] }

-- the spot of a trail
abbrev pub spot_under : List Spot → Option ℕ → Spot
spot_under spots None = no_steps
spot_under spots (Some t) = slice_index_or spots t no_steps

abbrev pub spot_of : List Spot → Trail → Spot
spot_of spots (trail.Target name) = record { base = Target name ∷ []; path = [] }
spot_of spots (trail.Macro parent name k) = spot_of_call (spot_under spots parent) (Nth name k)

abbrev pub spots_of : List Trail → List Spot
spots_of trails = by_earlier spot_of [] trails

-- how many trails there are at least where this is the number of one, or none
abbrev pub reach : Option ℕ → ℕ
reach None = 0
reach (Some t) = suc t

-- the number of one of so many trails, or none
abbrev pub IsTrail : ℕ → Option ℕ → Type 0
IsTrail count t = reach t ≤ count

abbrev pub parent : Trail → Option ℕ
parent (trail.Target name) = None
parent (trail.Macro p name k) = p

-- a macro is called in an earlier text
abbrev pub AreOrdered : List Trail → Type 0
AreOrdered trails = (t : ℕ) (d : Trail) → t < length trails → IsTrail t (parent (slice_index_or trails t d))
