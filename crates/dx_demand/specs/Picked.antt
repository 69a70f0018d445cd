-- What the code picks, and what is picked from.
use Rattle.dx_demand.specs.Terms.{IsValue}
use Rattle.std.specs.Prelude.{ℕ, List, Some, option_map, Bool, true, false, ◌≡◌}
use Rattle.dx_ast.specs.declared.constants.Const.TheVariants as const
use Rattle.dx_tags.specs.declared.term.ValueTag.{ValueTag}
use Rattle.dx_tags.specs.declared.term.Term.{Term}
use Rattle.dx_tags.specs.Closed.{ValueTerm, ConstantTerm}
use Rattle.dx_macros.specs.Tree.{Place}
use Rattle.dx_links.specs.declared.key.Key.{Key}
use Rattle.dx_links.specs.declared.key.Key.TheVariants as key
use Rattle.dx_links.specs.Holding.{Holding}
use Rattle.dx_links.specs.LinkMap.{LinkMap, held_at}
use Rattle.dx_meaning.specs.Picking as plain
use Rattle.dx_meaning.specs.Picking.{PickThis, PickInput, PickOff, PickFault, Shelf}
use Rattle.dx_meaning.specs.Scan.{null_term}
use Rattle.dx_demand.specs.declared.pick.Pick.{Pick}
use Rattle.dx_demand.specs.declared.pick.Pick.TheVariants as code

abbrev pub text_term : List ℕ → ValueTerm
text_term name = ConstantTerm (const.Text name)

-- the terms that links hold, and those of NULL and of texts
abbrev pub shelf_with : (ValueTag → ValueTerm) → LinkMap → Shelf ValueTerm
shelf_with term links = record { null = null_term; text = text_term; held = λ k. option_map (λ (h : Holding). term h.tag) (held_at k links) }

abbrev pub shown_pick : (ValueTag → ValueTerm) → Pick → plain.Pick ValueTerm
shown_pick term code.Null = PickThis null_term
shown_pick term (code.Text name) = PickThis (text_term name)
shown_pick term (code.Held t) = PickThis (term t)
shown_pick term (code.Input n) = PickInput n
shown_pick term code.Off = PickOff
shown_pick term code.Fault = PickFault

-- what makes a name the key of a link
abbrev pub to_key : Bool → Place → List ℕ → Key
to_key true p = plain.key_in p
to_key false p = key.Global

-- each link's term is there
abbrev pub LinksFit : List Term → LinkMap → Type 0
LinksFit terms links = (k : Key) (h : Holding) → held_at k links ≡ Some h → IsValue terms h.tag

abbrev pub PickFits : List Term → Pick → Type 0
PickFits terms (code.Held t) = IsValue terms t
PickFits terms other = Unit {0}
