-- Where the first call of a term stands.
use Rattle.std.proofs.Common.{◌≡◌, List, [], ◌∷◌, ◌++◌, Bool, true, false, Option, Some, None, refl, sym, ap, ◌∙◌}
use Rattle.std.specs.Prelude.{Ok, Err, if◌then◌else◌}
use Rattle.dx_base.specs.declared.code.Code.{Code}
use Rattle.dx_macros.specs.Site.{Step}
use Rattle.dx_macros.specs.Tree.{Place}
use Rattle.dx_tags.specs.Closed.{CallTerm}
use Rattle.dx_links.specs.Denotes.{Around, results_of}
use Rattle.dx_links.specs.Getting.{same_call}
use Rattle.dx_machine.specs.Sound.{HasResults}
use Rattle.dx_machine.proofs.SameTerms.{call_is, call_itself}
use Rattle.dx_meaning.specs.Met.{Called, all_met, first_place}
use Rattle.dx_demanded.specs.Found.{StandsAt, HaveAllResults, or_else, FirstIsOfAll}

pub have_append : (a : Around) (cs ds : List Called) → HaveAllResults a cs → HaveAllResults a ds → HaveAllResults a (cs ++ ds)
have_append a [] ds h i = i
have_append a (c ∷ cs) ds h i = (h.0, have_append a cs ds h.1 i)

-- calls with results are not the refused one
passes : (a : Around) (b : Bool) (d c : CallTerm) (code : Code) (p : Place) (o o' : Option Place) → same_call d c ≡ b → HasResults a d → results_of a c ≡ Err code → o ≡ o' → (if b then Some p else o) ≡ o'
passes a true d c code p o o' q h e k =
    let clash : Ok h.0 ≡ Err code = sym h.1 ∙ ap (results_of a) (call_is d c q) ∙ e in
    cc
passes a false d c code p o o' q h e k = k

pub skips : (a : Around) (cs ds : List Called) (c : CallTerm) (code : Code) → HaveAllResults a cs → results_of a c ≡ Err code → first_place (cs ++ ds) c ≡ first_place ds c
skips a [] ds c code h e = refl
skips a (d ∷ cs) ds c code h e = passes a (same_call d.call c) d.call c code d.place (first_place (cs ++ ds) c) (first_place ds c) refl h.0 e (skips a cs ds c code h.1 e)

pub stands_behind : (a : Around) (cs ds : List Called) (c : CallTerm) (code : Code) (site : List Step) → HaveAllResults a cs → results_of a c ≡ Err code → StandsAt ds c site → StandsAt (cs ++ ds) c site
stands_behind a cs ds c code site h e k = (k.0, skips a cs ds c code h e ∙ k.1, k.2)

-- what is found first stays so
keeps_by : (b : Bool) (q p : Place) (o o' : Option Place) → (if b then Some q else o) ≡ Some p → (o ≡ Some p → o' ≡ Some p) → (if b then Some q else o') ≡ Some p
keeps_by true q p o o' h f = h
keeps_by false q p o o' h f = f h

keeps : (cs ds : List Called) (c : CallTerm) (p : Place) → first_place cs c ≡ Some p → first_place (cs ++ ds) c ≡ Some p
keeps [] ds c p h = cc
keeps (d ∷ cs) ds c p h = keeps_by (same_call d.call c) d.place p (first_place cs c) (first_place (cs ++ ds) c) h (keeps cs ds c p)

pub stands_first : (cs ds : List Called) (c : CallTerm) (site : List Step) → StandsAt cs c site → StandsAt (cs ++ ds) c site
stands_first cs ds c site k = (k.0, keeps cs ds c k.0 k.1, k.2)

pub stands_itself : (p : Place) (c : CallTerm) → StandsAt (record { place = p; call = c } ∷ []) c p.site
stands_itself p c = (p, ap (λ b. if b then Some p else None) (call_itself c), refl)

-- ---- in which list

first_by : (b : Bool) (p : Place) (o o' q : Option Place) → or_else o q ≡ o' → or_else (if b then Some p else o) q ≡ (if b then Some p else o')
first_by true p o o' q e = refl
first_by false p o o' q e = e

first_append : (cs ds : List Called) (c : CallTerm) → or_else (first_place cs c) (first_place ds c) ≡ first_place (cs ++ ds) c
first_append [] ds c = refl
first_append (d ∷ cs) ds c = first_by (same_call d.call c) d.place (first_place cs c) (first_place (cs ++ ds) c) (first_place ds c) (first_append cs ds c)

pub first_is_of_all : FirstIsOfAll
first_is_of_all [] c = refl
first_is_of_all (cs ∷ each) c = ap (or_else (first_place cs c)) (first_is_of_all each c) ∙ first_append cs (all_met each) c
