-- Trees of calls: what an expression comes to where each name is put for what it means.
use Rattle.std.specs.Prelude.{ℕ, List}
use Rattle.dx_base.specs.declared.function.Function.{Function}
use Rattle.dx_ast.specs.declared.constants.Const.{Const}
use Rattle.dx_macros.specs.Site.{Step}

-- where a call stands, and its cache attribute
pub record Place : Type 0 where
  pub site : List Step
  pub path : List Step
  pub cache : ℕ

-- a constant, or a result of a call; results are counted from 0
mutual
  pub data Tree : Type 0 where
    ConstantTree : Const → Tree
    ResultTree : (result : ℕ) → CallTree → Tree

  pub data CallTree : Type 0 where
    TreeCall : Function → Place → Trees → CallTree

  pub data Trees : Type 0 where
    NoTree : Trees
    AndTree : Tree → Trees → Trees
