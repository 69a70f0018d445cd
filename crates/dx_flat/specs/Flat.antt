-- Arguments without calls, whose names mean constants that are seen at once.
use Rattle.std.specs.Prelude.{◌≡◌, List, [], ◌∷◌, length, Some}
use Rattle.dx_ast.specs.declared.constants.Const.{Const}
use Rattle.dx_ast.specs.declared.constants.Const.TheVariants as const
use Rattle.dx_ast.specs.declared.sequencing.Frames.{Frames}
use Rattle.dx_ast.specs.Syntax.{Expr, Constant, Name, Frame, CallOf, Args, NoArg, AndArg}
use Rattle.dx_definitions.specs.Constants.{constant_at}
use Rattle.dx_macros.specs.Dictionary.{Dictionary}
use Rattle.dx_macros.specs.Expansion.{Given, frame_value}
use Rattle.dx_macros.specs.Tree.{Tree, ConstantTree}

-- an expression is a constant, a variable of the sequencer, or a name that means a constant, and this is its tree
abbrev pub IsFlat : Dictionary → Frames → Expr → Tree → Type 0
IsFlat d f (Constant c) t = t ≡ ConstantTree c
IsFlat d f (Name n) t = (c : Const) × (constant_at d.definitions (length d.definitions) n ≡ Some c) × (t ≡ ConstantTree c)
IsFlat d f (Frame v) t = t ≡ ConstantTree (const.Int (frame_value f v))
IsFlat d f (CallOf c) t = ⊥

-- all arguments are so, and this is what they give
abbrev pub AreFlat : Dictionary → Frames → Args → List Given → Type 0
AreFlat d f NoArg [] = Unit {0}
AreFlat d f NoArg (g ∷ gs) = ⊥
AreFlat d f (AndArg n e rest) [] = ⊥
AreFlat d f (AndArg n e rest) (g ∷ gs) = (g.name ≡ n) × IsFlat d f e g.tree × AreFlat d f rest gs
