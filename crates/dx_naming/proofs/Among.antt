-- The first call of a term among those that some inputs meet, in order.
use Rattle.std.proofs.Common.{◌≡◌, ℕ, ◌+◌, ◌<◌, ◌≤◌, List, [], length, drop, get_or, Option, Some, None, sym, ap, ◌∙◌}
use Rattle.std.proofs.lemmas.List.{at_drop_more, at_drop_all}
use Rattle.dx_macros.specs.Tree.{Place}
use Rattle.dx_graph.specs.Graph.{Node, node_at}
use Rattle.dx_graph.specs.Unfolding.{calls_of, trees_of}
use Rattle.dx_graph.specs.declared.node.Input.{Input}
use Rattle.dx_tags.specs.declared.term.Term.{Term}
use Rattle.dx_tags.specs.Closed.{CallTerm, heads_of}
use Rattle.dx_getting.specs.Stands.{IsCall, call_at}
use Rattle.dx_meaning.specs.Met.{Called, each_met, first_place}
use Rattle.dx_demand.specs.Calling.{input_met}
use Rattle.dx_demand.specs.Forming.{IsCallTag}
use Rattle.dx_demand.specs.Searching.{place_of}
use Rattle.dx_demanded.specs.Found.{or_else, first_in}
use Rattle.dx_looking.specs.Setting.{nodes_in, sight_in}
use Rattle.dx_looking.specs.declared.setup.Setup.{Setup}
use Rattle.dx_looking.specs.declared.progress.Progress.{Progress}
use Rattle.dx_naming.specs.Naming.{StandsWhere}

abbrev pub call_tag : (terms : List Term) (t : ℕ) → IsCall terms t → IsCallTag terms t
call_tag terms t c = record { within = c.within; call = call_at (heads_of terms) t; head = c.head }

abbrev pub first_among : Setup → Progress → ℕ → List Input → Option Place
first_among setup at tag is = first_in (each_met (sight_in setup at) (trees_of (calls_of (nodes_in setup)) is)) (call_at (heads_of at.tags) tag)

abbrev pub first_under : Setup → Progress → ℕ → Input → Option Place
first_under setup at tag i = first_place (input_met (sight_in setup at) (nodes_in setup) i) (call_at (heads_of at.tags) tag)

pub next_among : (setup : Setup) (at : Progress) (tag : ℕ) (inputs : List Input) (i : ℕ) (input : Input) → input ≡ get_or inputs i input → i < length inputs →
    first_among setup at tag (drop i inputs) ≡ or_else (first_under setup at tag input) (first_among setup at tag (drop (i + 1) inputs))
next_among setup at tag inputs i input is lt =
    at_drop_more (first_among setup at tag) inputs i input lt ∙ ap (λ y. or_else (first_under setup at tag y) (first_among setup at tag (drop (i + 1) inputs))) (sym is)

pub none_among : (setup : Setup) (at : Progress) (tag : ℕ) (inputs : List Input) (i : ℕ) → length inputs ≤ i → first_among setup at tag (drop i inputs) ≡ None
none_among setup at tag inputs i le = at_drop_all (first_among setup at tag) inputs i le

-- it is found under an input, or not
pub found_here : (nodes : List Node) (m : ℕ) (o : Option ℕ) (x rest : Option Place) → o ≡ Some m → place_of nodes o ≡ x → place_of nodes (Some m) ≡ or_else x rest
found_here nodes m o x rest e h = ap (λ y. or_else y rest) (sym (ap (place_of nodes) e) ∙ h)

pub found_later : (nodes : List Node) (o : Option ℕ) (x rest : Option Place) → o ≡ None → place_of nodes o ≡ x → rest ≡ or_else x rest
found_later nodes o x rest e h = ap (λ y. or_else y rest) (sym (ap (place_of nodes) e) ∙ h)

-- the node that is found stands where the first call of the term does
pub stands_found : (nodes : List Node) (calls : List Called) (c : CallTerm) (m : ℕ) → place_of nodes (Some m) ≡ first_place calls c → StandsWhere nodes calls c m
stands_found nodes calls c m e site s =
    let both : Some (node_at nodes m).place ≡ Some s.0 = e ∙ s.1 in
    let same : (node_at nodes m).place ≡ s.0 = cc in
    ap (λ (p : Place). p.site) same ∙ s.2

-- where none is found there is none
pub none_found : (nodes : List Node) (calls : List Called) (c : CallTerm) (n : ℕ) → place_of nodes None ≡ first_place calls c → StandsWhere nodes calls c n
none_found nodes calls c n e site s =
    let both : None ≡ Some s.0 = e ∙ s.1 in
    cc

pub nothing_met : (nodes : List Node) (calls : List Called) (c : CallTerm) (n : ℕ) → calls ≡ [] → StandsWhere nodes calls c n
nothing_met nodes calls c n e = none_found nodes calls c n (sym (ap (λ cs. first_place cs c) e))
