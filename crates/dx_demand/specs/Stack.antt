-- The frames that lead from a port to one that it waits for.
use Rattle.dx_demand.specs.Terms.{AreArguments}
use Rattle.std.specs.Prelude.{◌≡◌, ◌⊎◌, ℕ, ◌<◌, ◌≤◌, List, [], ◌∷◌, ◌++◌, None, length}
use Rattle.dx_graph.specs.Graph.{Node, node_at}
use Rattle.dx_tags.specs.declared.term.Term.{Term}
use Rattle.dx_tags.specs.declared.term.ValueTag.{ValueTag}
use Rattle.dx_tags.specs.Closed.{ValueTerm, Head, heads_of, value_term}
use Rattle.dx_meaning.specs.Scan.{Sight, Stop, Scanned, Forms, Ends}
use Rattle.dx_meaning.specs.More.{More}
use Rattle.dx_demand.specs.Memo.{Answers, IsPort, node_scans, port_scan}
use Rattle.dx_demand.specs.Halting.{port_halted}
use Rattle.dx_demand.specs.declared.settled.Port.{Port}
use Rattle.dx_demand.specs.declared.seen.Frame.{Frame}

abbrev pub fresh : Port → Frame
fresh p = record { port = p; arguments = [] }

-- the port that the frames lead from, where this is the last
abbrev pub bottom : List Frame → Frame → Port
bottom [] top = top.port
bottom (f ∷ fs) top = f.port

-- the frames that were left go on, or there are none but that of the port
abbrev pub Opens : Port → List Frame → List Frame → Frame → Type 0
Opens root old new top = ((old ≡ new ++ top ∷ []) × (bottom new top ≡ root)) ⊎ ((new ≡ []) × (top ≡ fresh root))

-- ---- what fits

pub record FrameFits (nodes : List Node) (terms : List Term) (f : Frame) : Type 0 where
  pub port : IsPort nodes f.port
  pub few : length f.arguments ≤ length (node_at nodes f.port.node).inputs
  pub earlier : AreArguments terms f.arguments

-- each stands for an earlier node
abbrev pub AllBelow : ℕ → List Frame → Type 0
AllBelow n [] = Unit {0}
AllBelow n (f ∷ fs) = (f.port.node < n) × AllBelow n fs

-- no port on the way is settled, and each waits for an earlier node
abbrev pub StackFits : List Node → List Term → Answers → List Frame → Type 0
StackFits nodes terms answers [] = Unit {0}
StackFits nodes terms answers (f ∷ fs) = (FrameFits nodes terms f × (answers f.port ≡ None) × AllBelow f.port.node fs) × StackFits nodes terms answers fs

-- ---- what is right

-- the first scans form these terms
abbrev pub Begins : List Head → List (Scanned ValueTerm) → List ValueTag → Type 0
Begins hs ss [] = Unit {0}
Begins hs [] (t ∷ ts) = ⊥
Begins hs (s ∷ ss) (t ∷ ts) = (s ≡ Forms (value_term hs t)) × Begins hs ss ts

-- where this port forms no term, the other ends alike and at the same selector, also as more is told
abbrev pub Leads : Sight → List Node → Port → Port → Type 0
Leads s nodes root p = (s' : Sight) → More s s' → (e : Stop) → port_scan s' nodes p ≡ Ends e → (port_scan s' nodes root ≡ Ends e) × (port_halted s' nodes root ≡ port_halted s' nodes p)

pub record FrameRight (s : Sight) (nodes : List Node) (terms : List Term) (root : Port) (f : Frame) : Type 0 where
  pub leads : Leads s nodes root f.port
  pub begins : Begins (heads_of terms) (node_scans s nodes f.port.node) f.arguments

abbrev pub StackRight : Sight → List Node → List Term → Port → List Frame → Type 0
StackRight s nodes terms root [] = Unit {0}
StackRight s nodes terms root (f ∷ fs) = FrameRight s nodes terms root f × StackRight s nodes terms root fs
