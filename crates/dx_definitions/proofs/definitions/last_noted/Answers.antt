use Rattle.std.proofs.Common.{◌∙◌, ℕ, List, map, take, ap, sym, subst}
use Rattle.std.specs.List.{take-map}
use Rattle.dx_definitions.specs.TopTexts.{TopText, last_named}
use Rattle.dx_definitions.specs.Index.{text_of, listed, ArePositions}
use Rattle.dx_definitions.proofs.Looking.{none_before}
use Rattle.dx_definitions.proofs.Indexing.{last_take}
use Rattle.dx_definitions.proofs.definitions.last_noted.Goals as goal

pub last_named-requires : goal.last_named-requires
last_named-requires c =
    let name = c.args.name.now in
    let taken = take c.args.noted (map text_of c.args.definitions.now) in
    let same = c.deref.ensures.value ∙ ap listed c.in-Some.ensures.value in
    subst (λ (defs : List TopText). ArePositions c.deref.result.now defs name) (take-map text_of c.args.noted c.args.definitions.now)
    (subst (λ (ps : List ℕ). ArePositions ps taken name) (sym same) (c.requires.indexed.indexes name))

pub returns-in-None-clause-last : goal.returns-in-None-clause-last
returns-in-None-clause-last c =
    let name = c.args.name.now in
    let defs = map text_of c.args.definitions.now in
    none_before (take c.args.noted defs) c.args.position name (subst (λ (ps : List ℕ). ArePositions ps (take c.args.noted defs) name) (sym (ap listed c.in-None.ensures.value)) (c.requires.indexed.indexes name))
    ∙ last_take defs name c.args.noted c.args.position c.requires.within

pub returns-in-Some-clause-last : goal.returns-in-Some-clause-last
returns-in-Some-clause-last c =
    let name = c.args.name.now in
    let defs = map text_of c.args.definitions.now in
    c.last_named.ensures.last
    ∙ ap (λ (ds : List TopText). last_named ds c.args.position name) (sym (take-map text_of c.args.noted c.args.definitions.now))
    ∙ last_take defs name c.args.noted c.args.position c.requires.within
