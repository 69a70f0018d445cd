-- What is found by a term behind an execution is the value of a link: both are what the term denotes.
use Rattle.std.proofs.Common.{◌≡◌, List, [], ◌∷◌, inl, inr, Option, Some, sym, ap, ◌∙◌, subst}
use Rattle.std.specs.Prelude.{◌⊎◌, is_some, option_map, Result, Ok}
use Rattle.std.specs.Map.{lookup}
use Rattle.dx_base.specs.Object.{Tree as Object}
use Rattle.dx_base.specs.declared.code.Code.{Code}
use Rattle.dx_tags.specs.declared.term.ValueTag.{ValueTag}
use Rattle.dx_tags.specs.contracts.term.ValueTagPartialEq.TheImpl as tags
use Rattle.dx_tags.specs.Closed.{Head, value_term}
use Rattle.dx_links.specs.declared.held.Change.{Change}
use Rattle.dx_links.specs.Denotes.{Around, denotes}
use Rattle.dx_links.specs.Holding.{Holding}
use Rattle.dx_links.specs.LinkMap.{LinkMap}
use Rattle.dx_getting.specs.Bound.{IsBound, IsLink, AreLinks}
use Rattle.dx_getting.specs.Terms.{BoundValues, Table}
use Rattle.dx_meaning.specs.Outcome.{Value}
use Rattle.dx_performing.specs.Meant.{LinksRight}
use Rattle.dx_performing.specs.SoundLinks.{LinkRight, SetsRight}
use Rattle.dx_looking.specs.Setting.{links_of}
use Rattle.dx_looking.proofs.Bound.{tag_found}
use Rattle.dx_looking.proofs.Bridge.{link_denotes}
use Rattle.dx_ending.specs.InPlace.{IsSet, ComeFrom}
use Rattle.dx_ending.specs.Terms.{link_of, set_terms_of}

-- ---- what terms denote

linked_denotes : (a : Around) (hs : List Head) (links : LinkMap) → LinksRight a (links_of hs links) → (t : ValueTag) (o : Object) → IsLink links (t, o) → denotes a (value_term hs t) ≡ Ok (Some o)
linked_denotes a hs links r t o is =
    ap (λ (u : ValueTag). denotes a (value_term hs u)) (sym is.tag)
    ∙ link_denotes a hs links r is.place is.link is.at
    ∙ ap (λ (v : Object). let x : Result Value Code = Ok (Some v) in x) is.object

set_denotes : (a : Around) (hs : List Head) (changes : List Change) → SetsRight a (set_terms_of hs changes) → (t : ValueTag) (o : Object) → IsSet changes t o → denotes a (value_term hs t) ≡ Ok (Some o)
set_denotes a hs [] r t o is = absurd is
set_denotes a hs (c ∷ cs) r t o (inl e) = subst (λ (h : Option Holding). LinkRight a (option_map (link_of hs) h)) e r.0
set_denotes a hs (c ∷ cs) r t o (inr is) = set_denotes a hs cs r.1 t o is

-- ---- values of links before and of what was set are those of the links behind

module _ (a : Around) (hs : List Head) (old new : LinkMap) (changes : List Change) (was : BoundValues) (bound : Table)
    (values : AreLinks old was) (right : LinksRight a (links_of hs old)) (sets : SetsRight a (set_terms_of hs changes))
    (is : IsBound new bound) (from : ComeFrom changes was bound.pairs) (right_behind : LinksRight a (links_of hs new)) where
  found_denotes : (t : ValueTag) (o : Object) → lookup (tags.ghosts.eq t) bound.pairs ≡ Some o → denotes a (value_term hs t) ≡ Ok (Some o)
  found_denotes t o e = by (from t o e)
    where
      by : (lookup (tags.ghosts.eq t) was ≡ Some o) ⊎ IsSet changes t o → denotes a (value_term hs t) ≡ Ok (Some o)
      by (inl before) = linked_denotes a hs old right t o (values t o before)
      by (inr set) = set_denotes a hs changes sets t o set

  same_value : (t : ValueTag) (o v : Object) → denotes a (value_term hs t) ≡ Ok (Some o) → denotes a (value_term hs t) ≡ Ok (Some v) → v ≡ o
  same_value t o v e f = cc

  pub values_behind : AreLinks new bound.pairs
  values_behind t o e =
      let has = tag_found new bound is t (ap is_some e) in
      let there : denotes a (value_term hs t) ≡ Ok (Some has.link.1.value) =
      subst (λ (u : ValueTag). denotes a (value_term hs u) ≡ Ok (Some has.link.1.value)) has.tag (link_denotes a hs new right_behind has.place has.link has.at) in
      record { place = has.place; link = has.link; at = has.at; tag = has.tag; object = same_value t o has.link.1.value (found_denotes t o e) there }
