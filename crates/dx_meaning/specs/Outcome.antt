-- What evaluating ends in, and what it uses.
use Rattle.std.specs.Prelude.{ℕ, List, [], ◌++◌, Option}
use Rattle.dx_base.specs.Object.{Tree}
use Rattle.dx_base.specs.declared.code.Code.{Code}
use Rattle.dx_base.specs.declared.function.Module.{Module}
use Rattle.dx_macros.specs.Site.{Step}

-- NULL or an object
abbrev pub Value : Type 0
Value = Option Tree

-- a run of a module that the meaning asks for
pub record Use : Type 0 where
  pub site : List Step
  pub called : Module
  pub inputs : List Value

-- a value, a refusal of a module, nothing, or a selector that failed
pub data Decided (A : Type 0) : Type 0 where
  Val : A → Decided A
  ErrAt : (site : List Step) → Code → Decided A
  Off : Decided A
  HaltAt : (site : List Step) → Code → Decided A

pub record Outcome (A : Type 0) : Type 0 where
  pub decided : Decided A
  pub control_uses : List Use
  pub data_uses : List Use

-- the uses of control, followed by those of data
abbrev pub demand : {A : Type 0} → Outcome A → List Use
demand o = o.control_uses ++ o.data_uses

-- what is decided with no use
abbrev pub plainly : {A : Type 0} → Decided A → Outcome A
plainly d = record { decided = d; control_uses = []; data_uses = [] }
