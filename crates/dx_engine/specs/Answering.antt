-- What an effect does, by what its arguments come to.
use Rattle.std.specs.Prelude.{◌≡◌, ℕ, List, [], ◌∷◌, Option, Some, None}
use Rattle.std.specs.declared.rc.Rc.{Rc}
use Rattle.std.specs.declared.alloc.Global.{Global}
use Rattle.dx_base.specs.Object.{Tree as Object}
use Rattle.dx_base.specs.declared.function.Effect.{Effect}
use Rattle.dx_objects.specs.Values.{value_of}
use Rattle.dx_native_text.specs.Text.{text_of}
use Rattle.dx_tags.specs.declared.term.ValueTag.{ValueTag}
use Rattle.dx_tags.specs.Closed.{heads_of}
use Rattle.dx_links.specs.Holding.{Holding}
use Rattle.dx_getting.specs.Stands.{IsCall, call_at}
use Rattle.dx_meaning.specs.Met.{Called, all_met}
use Rattle.dx_demand.specs.Calling.{node_met}
use Rattle.dx_demand.specs.Halting.{selector_calls}
use Rattle.dx_naming.specs.Naming.{StandsWhere}
use Rattle.dx_performing.specs.Acts.{Act, Prints, Puts, Sets, Refuses, act}
use Rattle.dx_acts.specs.declared.act.Act.{Act as Acted}
use Rattle.dx_acts.specs.declared.act.Act.TheVariants as acted
use Rattle.dx_looking.specs.Setting.{nodes_in, sight_in}
use Rattle.dx_looking.specs.declared.cut.Cut.{Cut}
use Rattle.dx_looking.specs.declared.cut.Cut.TheVariants.{ReadFault, Memory}
use Rattle.dx_looking.specs.declared.looked.Refusal.{Refusal}
use Rattle.dx_looking.specs.declared.setup.Setup.{Setup}
use Rattle.dx_looking.specs.declared.progress.Progress.{Progress}
use Rattle.dx_effects.specs.declared.came.Arguments.{Arguments}
use Rattle.dx_effects.specs.declared.came.Arguments.TheVariants as arguments
use Rattle.dx_engine.specs.Doing.{place_of_node}
use Rattle.dx_engine.specs.declared.done.Done.{Done}
use Rattle.dx_engine.specs.declared.done.Done.TheVariants as done

-- a value with the first of these tags
abbrev pub held_as : Option Object → List ValueTag → Option Holding
held_as None ts = None
held_as (Some o) [] = None
held_as (Some o) (t ∷ ts) = Some (record { value = o; tag = t })

abbrev pub held_so : Option (Rc Object Global) → List ValueTag → Option Holding
held_so v ts = held_as (value_of v) ts

-- an act, by the tags of its arguments
abbrev pub done_so : Acted → List ValueTag → Done
done_so (acted.Prints text) ts = done.Prints text
done_so (acted.Puts name object) ts = done.Puts name object
done_so (acted.Sets key v) ts = done.Sets (record { key = key; held = held_so v ts })

-- node number n does this act, with the tags of its arguments, or it refuses
abbrev pub Does : Act → List ValueTag → ℕ → Done → Type 0
Does a ts n (done.Prints text) = a ≡ Prints text
Does a ts n (done.Puts name object) = a ≡ Puts name (text_of object.value)
Does a ts n (done.Sets c) = (v : Option Object) × (a ≡ Sets c.key v) × (c.held ≡ held_as v ts)
Does a ts n done.PassedOver = ⊥
Does a ts n (done.Ends m code) = (a ≡ Refuses code) × (m ≡ n)

-- it ends with the refusal, at a node that stands where the first of these calls with the refused term does
abbrev pub EndsWhere : Setup → Progress → List Called → Refusal → Done → Type 0
EndsWhere setup at calls r (done.Ends m code) = (code ≡ r.code) × (IsCall at.tags r.tag → StandsWhere (nodes_in setup) calls (call_at (heads_of at.tags) r.tag) m)
EndsWhere setup at calls r (done.Prints text) = ⊥
EndsWhere setup at calls r (done.Puts name object) = ⊥
EndsWhere setup at calls r (done.Sets c) = ⊥
EndsWhere setup at calls r done.PassedOver = ⊥

-- by what the arguments of node number n come to
abbrev pub DoneBy : Setup → Progress → ℕ → Effect → Arguments → Done → Type 0
DoneBy setup at n e (arguments.Values ts vs) d = Does (act e (place_of_node setup n) vs) ts n d
DoneBy setup at n e arguments.Off d = d ≡ done.PassedOver
DoneBy setup at n e (arguments.Halt m code) d = d ≡ done.Ends m code
DoneBy setup at n e (arguments.SelectorRefused m r) d = EndsWhere setup at (selector_calls (sight_in setup at) (nodes_in setup) m) r d
DoneBy setup at n e (arguments.Refused r) d = EndsWhere setup at (all_met (node_met (sight_in setup at) (nodes_in setup) n)) r d

-- there was no memory
abbrev pub IsShort : Cut → Type 0
IsShort Memory = Unit {0}
IsShort ReadFault = ⊥
