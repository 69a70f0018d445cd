-- The entries that are kept are sound, and stay so behind each execution.
use Rattle.std.specs.Prelude.{◌≤◌, List, [], ◌∷◌}
use Rattle.dx_macros.specs.Tree.{Tree, ConstantTree, ResultTree, CallTree, TreeCall, Trees, NoTree, AndTree}
use Rattle.dx_machine.specs.Sound.{IsSound}
use Rattle.dx_performing.specs.Kept.{Kept}
use Rattle.dx_performing.specs.Course.{Fixed, around_of, begins, executed}

-- the cache attributes of all calls are at most 2
abbrev mutual
  pub IsLawfulTree : Tree → Type 0
  IsLawfulTree (ConstantTree c) = Unit {0}
  IsLawfulTree (ResultTree result c) = IsLawfulCall c

  pub IsLawfulCall : CallTree → Type 0
  IsLawfulCall (TreeCall f p args) = (p.cache ≤ 2) × AreLawfulTrees args

  pub AreLawfulTrees : Trees → Type 0
  AreLawfulTrees NoTree = Unit {0}
  AreLawfulTrees (AndTree t ts) = IsLawfulTree t × AreLawfulTrees ts

abbrev pub AreLawfulCalls : List CallTree → Type 0
AreLawfulCalls [] = Unit {0}
AreLawfulCalls (c ∷ cs) = IsLawfulCall c × AreLawfulCalls cs

abbrev pub EntriesStaySound : Type 0
EntriesStaySound = (x : Fixed) (k : Kept) (effects : List CallTree) → AreLawfulCalls effects → IsSound (around_of x k) x.budget (begins k).state → let after = (executed x effects k).kept in IsSound (around_of x after) x.budget (begins after).state
