-- What is formed of a graph, and what of it is there.
use Rattle.std.specs.Map.{lookup}
use Rattle.std.specs.Prelude.{◌≡◌, ◌==◌, is_some, if◌then◌else◌, ℕ, zero, suc, ◌<◌, List, [], ◌∷◌, ◌++◌, Option, Some, None, option_map, length, map}
use Rattle.dx_ast.specs.declared.constants.Const.TheVariants as const
use Rattle.dx_base.specs.declared.function.Module.{Module}
use Rattle.dx_base.specs.declared.function.Module.TheVariants.{Import}
use Rattle.dx_graph.specs.Graph.{Node, node_at}
use Rattle.dx_graph.specs.Unfolding.{calls_of, tree_of, trees_of}
use Rattle.dx_graph.specs.declared.node.Input.{Input}
use Rattle.dx_tags.specs.declared.term.Term.{Term}
use Rattle.dx_tags.specs.declared.term.ValueTag.{ValueTag}
use Rattle.dx_tags.specs.Closed.{ValueTerm, ConstantTerm, FileTerm, CallTerm, CallOf, NoTerm, Head, ConstantHead, HeldHead, CallHead, FileHead, head_at, heads_of, result_of_head}
use Rattle.dx_meaning.specs.Picking.{selector_at}
use Rattle.dx_meaning.specs.Picking as plain
use Rattle.dx_meaning.specs.Picking.{PickThis, PickInput, PickOff, PickFault, Shelf}
use Rattle.dx_meaning.specs.Scan.{Sight, Stop, Scanned, Ends}
use Rattle.dx_meaning.specs.More.{More}
use Rattle.dx_meaning.specs.Met.{Called}
use Rattle.dx_meaning.specs.Forming.{Formed, FormsValue, Formings, null_forms, forms, each_forms, forms_at, with_term, called_forms, picked_forms, after, HasAll, Grows}
use Rattle.dx_links.specs.Holding.{Holding}
use Rattle.dx_links.specs.LinkMap.{LinkMap, held_at}
use Rattle.dx_demand.specs.Memo.{answers_of, selector_of, formed_of, input_at, port_scan, node_scans}
use Rattle.dx_demand.specs.declared.settled.Port.{Port}
use Rattle.dx_demand.specs.declared.settled.Answer.{Answer}
use Rattle.dx_demand.specs.declared.seen.Frame.{Frame}
use Rattle.dx_demand.specs.declared.seen.Memo.{Memo}
use Rattle.dx_demand.specs.declared.seen.Seen.{Seen}
use Rattle.dx_demand.specs.declared.pick.Pick.{Pick}
use Rattle.dx_demand.specs.declared.pick.Pick.TheVariants as code
use Rattle.dx_demand.specs.declared.step.Known.{Known}
use Rattle.dx_demand.specs.declared.step.Known.TheVariants as known
use Rattle.dx_demand.specs.declared.step.Selection.{Selection}
use Rattle.dx_demand.specs.declared.step.Selection.TheVariants as selection
use Rattle.dx_demand.specs.declared.step.Step.{Step}
use Rattle.dx_demand.specs.declared.step.Step.TheVariants as step

-- ---- what looking forms

abbrev pub node_forms : Sight → List Node → ℕ → List (List Formed)
node_forms s nodes n = each_forms s (trees_of (calls_of nodes) (node_at nodes n).inputs)

abbrev pub input_forms : Sight → List Node → Input → List Formed
input_forms s nodes i = forms s (tree_of (calls_of nodes) i)

abbrev pub port_forms : Sight → List Node → Port → List Formed
port_forms s nodes p = input_forms s nodes (input_at p)

abbrev pub selector_formed : Sight → List Node → ℕ → List Formed
selector_formed s nodes n = forms_at (node_forms s nodes n) (selector_at (node_at nodes n).what)

-- those of the first inputs
abbrev pub first_forms : ℕ → List (List Formed) → List Formed
first_forms zero each = []
first_forms (suc k) [] = []
first_forms (suc k) (fs ∷ each) = fs ++ first_forms k each

-- ---- what is there

abbrev pub call_in : Head → CallTerm
call_in (CallHead c) = c
call_in (ConstantHead c) = CallOf Import NoTerm
call_in (HeldHead n) = CallOf Import NoTerm
call_in (FileHead b) = CallOf Import NoTerm

-- a tag of a call term, with the node that formed it first
abbrev pub called_at : List Node → List Head → ℕ × ℕ → Called
called_at nodes hs e = record { place = (node_at nodes e.1).place; call = call_in (head_at hs e.0) }

abbrev pub named_terms : List Term → List ValueTerm
named_terms terms = map (λ h. result_of_head h 0) (heads_of terms)

abbrev pub Entries : Type 0
Entries = List (ℕ × ℕ)

abbrev pub found_in : Entries → ℕ → Option ℕ
found_in es t = lookup (λ u. t == u) es

-- the first node stays, and a new tag goes last
abbrev pub with_entry : Entries → ℕ → ℕ → Entries
with_entry es t n = if is_some (found_in es t) then es else es ++ (t, n) ∷ []

-- the terms that tags name, and the calls that formed theirs first in this execution
abbrev pub formings : List Node → List Term → Memo → Formings
formings nodes terms m = record { terms = named_terms terms; calls = map (called_at nodes (heads_of terms)) m.formed.entries }

-- ---- what is kept was formed

pub record IsCallTag (terms : List Term) (t : ℕ) : Type 0 where
  pub within : t < length terms
  pub call : CallTerm
  pub head : head_at (heads_of terms) t ≡ CallHead call

abbrev pub NameCalls : List Term → Memo → Type 0
NameCalls terms m = (t n : ℕ) → formed_of m t ≡ Some n → IsCallTag terms t

pub record MemoFormed (s : Sight) (nodes : List Node) (terms : List Term) (m : Memo) : Type 0 where
  pub answers : (p : Port) (a : Answer) → answers_of m p ≡ Some a → HasAll (formings nodes terms m) (port_forms s nodes p)
  pub selectors : (n : ℕ) (t : ValueTag) → selector_of m n ≡ Some t → HasAll (formings nodes terms m) (selector_formed s nodes n)
  pub calls : NameCalls terms m

-- a part of what is formed, behind what is there; nothing is formed behind what comes to no term
pub record IsPart (was : Formings) (x : Scanned ValueTerm) (whole part : List Formed) : Type 0 where
  pub front : List Formed
  pub behind : List Formed
  pub split : whole ≡ front ++ (part ++ behind)
  pub there : HasAll was front
  pub last : (e : Stop) → x ≡ Ends e → behind ≡ []

-- what one port forms is a part of what the other does, also as more is told
abbrev pub Reaches : Sight → List Node → Formings → Port → Port → Type 0
Reaches s nodes was root p = (s' : Sight) → More s s' → IsPart was (port_scan s' nodes p) (port_forms s' nodes root) (port_forms s' nodes p)

pub record FrameFormed (s : Sight) (nodes : List Node) (was : Formings) (root : Port) (f : Frame) : Type 0 where
  pub reaches : Reaches s nodes was root f.port
  pub arguments : HasAll was (first_forms (length f.arguments) (node_forms s nodes f.port.node))

abbrev pub StackFormed : Sight → List Node → Formings → Port → List Frame → Type 0
StackFormed s nodes was root [] = Unit {0}
StackFormed s nodes was root (f ∷ fs) = FrameFormed s nodes was root f × StackFormed s nodes was root fs

abbrev pub LeftFormed : Sight → List Node → Formings → List Frame → Type 0
LeftFormed s nodes was [] = Unit {0}
LeftFormed s nodes was (f ∷ fs) = StackFormed s nodes was f.port (f ∷ fs)

-- all that looking formed for what is kept is there
pub record SeenFormed (s : Sight) (nodes : List Node) (terms : List Term) (seen : Seen) : Type 0 where
  pub memo : MemoFormed s nodes terms seen.memo
  pub left : LeftFormed s nodes (formings nodes terms seen.memo) seen.stack.items

-- ---- steps

-- what is formed for what is picked: NULL and a text, and nothing for what a link holds
abbrev pub forms_with : LinkMap → Shelf (List Formed)
forms_with links = record { null = null_forms; text = λ name. FormsValue (ConstantTerm (const.Text name)) ∷ []; held = λ k. option_map (λ (h : Holding). []) (held_at k links) }

abbrev pub pick_forms : Pick → plain.Pick (List Formed)
pick_forms code.Null = PickThis null_forms
pick_forms (code.Text name) = PickThis (FormsValue (ConstantTerm (const.Text name)) ∷ [])
pick_forms (code.Held t) = PickThis []
pick_forms (code.Input n) = PickInput n
pick_forms code.Off = PickOff
pick_forms code.Fault = PickFault

abbrev pub KnownForms : List Formed → Formings → Formings → Known → Type 0
KnownForms fs was now (known.Settled a) = now ≡ after fs was
KnownForms fs was now (known.Open p) = now ≡ was

-- what is formed belongs to this list
pub record Toward (whole : List Formed) (was now : Formings) : Type 0 where
  pub grows : Grows was now
  pub same : after whole now ≡ after whole was

abbrev pub StepForms : Sight → List Node → Formings → Port → Step → Type 0
StepForms s nodes now p (step.Settles a) = HasAll now (port_forms s nodes p)
StepForms s nodes now p (step.Awaits q) = Reaches s nodes now p q
StepForms s nodes now p (step.Needs t) = HasAll now (port_forms s nodes p)

abbrev pub SelectionForms : Sight → List Node → Formings → Port → Selection → Type 0
SelectionForms s nodes now p (selection.Selects t) = HasAll now (selector_formed s nodes p.node)
SelectionForms s nodes now p (selection.Before x) = StepForms s nodes now p x

-- from these terms and this memo to those, in a step for a port with so many arguments
pub record Formation (s : Sight) (nodes : List Node) (old : List Term) (m : Memo) (new : List Term) (m' : Memo) (p : Port) (count : ℕ) : Type 0 where
  pub toward : Toward (port_forms s nodes p) (formings nodes old m) (formings nodes new m')
  pub memo : MemoFormed s nodes new m'
  pub arguments : HasAll (formings nodes new m') (first_forms count (node_forms s nodes p.node))

-- the terms that were formed on the way to a call of a module, while it takes its arguments
pub record FormedSoFar (s : Sight) (nodes : List Node) (old new : List Term) (m : Memo) (p : Port) (count : ℕ) : Type 0 where
  pub toward : Toward (port_forms s nodes p) (formings nodes old m) (formings nodes new m)
  pub there : HasAll (formings nodes new m) (first_forms count (node_forms s nodes p.node))

abbrev pub FormsStep : Sight → List Node → List Term → Memo → List Term → Memo → Port → ℕ → Step → Type 0
FormsStep s nodes old m new m' p count x = Formation s nodes old m new m' p count × StepForms s nodes (formings nodes new m') p x

abbrev pub FormsSelection : Sight → List Node → List Term → Memo → List Term → Memo → Port → Selection → Type 0
FormsSelection s nodes old m new m' p x = Formation s nodes old m new m' p 0 × SelectionForms s nodes (formings nodes new m') p x

-- what a port forms is this part, behind what is there, also as more is told
pub record HasFront (s : Sight) (nodes : List Node) (was : Formings) (p : Port) (part : Sight → List Formed) : Type 0 where
  pub front : List Formed
  pub there : HasAll was front
  pub split : (s' : Sight) → More s s' → port_forms s' nodes p ≡ front ++ part s'

-- the part that a call of a module forms, an input, and what is picked
abbrev pub calls_forms : List Node → Port → Module → Option (List ℕ) → Sight → List Formed
calls_forms nodes p m file s = called_forms (node_at nodes p.node).place m file (node_scans s nodes p.node) (node_forms s nodes p.node)

abbrev pub input_part : List Node → Port → ℕ → Sight → List Formed
input_part nodes p k s = forms_at (node_forms s nodes p.node) k

abbrev pub pick_part : List Node → Port → plain.Pick (List Formed) → Sight → List Formed
pick_part nodes p k s = picked_forms (node_forms s nodes p.node) k

-- the bytes of a file that a call has
abbrev pub with_own : Option (List ℕ) → List ValueTerm → List ValueTerm
with_own None ts = ts
with_own (Some bytes) ts = with_term (FileTerm bytes) ts
