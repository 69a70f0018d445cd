-- What is kept behind a resolve, by what is told.
use Rattle.std.proofs.Common.{◌≡◌, List, sym, ap₂, subst}
use Rattle.dx_tags.specs.declared.term.Term.{Term}
use Rattle.dx_tags.specs.Closed.{GoesOn, heads_of}
use Rattle.dx_demand.specs.declared.seen.Seen.{Seen}
use Rattle.dx_demand.specs.Terms.{AreExact}
use Rattle.dx_demand.specs.Found.{IsClosed}
use Rattle.dx_demand.specs.Forming.{SeenFormed}
use Rattle.dx_demand.specs.Calling.{SeenMet}
use Rattle.dx_demand.specs.Steps.{Sees, SeenFits, SeenRight}
use Rattle.dx_looking.specs.ToldTags.{ToldTags}
use Rattle.dx_looking.specs.Setting.{nodes_in, links_of, told_terms, told_sight, sight_in}
use Rattle.dx_looking.specs.Looking.{IsLooking}
use Rattle.dx_looking.specs.declared.setup.Setup.{Setup}
use Rattle.dx_looking.specs.declared.progress.Progress.{Progress}
use Rattle.dx_looking.proofs.Growth.{begin_held_grows, links_same, all_fit_grows, told_same, values_grow, calls_grow, sees_so}
use Rattle.dx_looking.proofs.Ways.{with_seen}
use Rattle.std.specs.Map.{lookup}
use Rattle.dx_tags.specs.contracts.term.ValueTagPartialEq.TheImpl as tags
use Rattle.dx_tags.specs.declared.term.ValueTag.{ValueTag}

module _ (setup : Setup) (at : Progress) (new : List Term) (seen : Seen) (l : IsLooking setup at) (g : GoesOn at.tags new) where
  pub sight_same : sight_in setup (with_seen at new seen) ≡ sight_in setup at
  sight_same = ap₂ (λ ls vs. told_sight ls setup.written.now.files vs) (links_same at.tags new g setup.links.now.links l.links) (told_same at.tags new g at.told l.told)

  pub sees_new : AreExact new → Sees (λ (t : ValueTag). lookup (tags.ghosts.eq t) at.told) setup.links.now.links setup.written.now.files new (sight_in setup (with_seen at new seen))
  sees_new x = sees_so new x setup at.told (values_grow at.tags new g at.told l.told)

  -- what was right, formed and met, by what is told now
  pub right_before : SeenRight (sight_in setup (with_seen at new seen)) (nodes_in setup) at.tags at.seen
  right_before = subst (λ s. SeenRight s (nodes_in setup) at.tags at.seen) (sym sight_same) l.right

  pub formed_before : SeenFormed (sight_in setup (with_seen at new seen)) (nodes_in setup) at.tags at.seen
  formed_before = subst (λ s. SeenFormed s (nodes_in setup) at.tags at.seen) (sym sight_same) l.formed

  pub met_before : SeenMet (sight_in setup (with_seen at new seen)) (nodes_in setup) at.seen
  met_before = subst (λ s. SeenMet s (nodes_in setup) at.seen) (sym sight_same) l.met

  pub looking_so : AreExact new → SeenFits (nodes_in setup) new seen → IsClosed setup.links.now.links new seen →
      SeenRight (sight_in setup (with_seen at new seen)) (nodes_in setup) new seen → SeenFormed (sight_in setup (with_seen at new seen)) (nodes_in setup) new seen → SeenMet (sight_in setup (with_seen at new seen)) (nodes_in setup) seen → IsLooking setup (with_seen at new seen)
  looking_so x fits closed right formed met = record {
    exact = x;
    links = all_fit_grows at.tags new g setup.links.now.links l.links;
    bound = l.bound;
    below = begin_held_grows setup.bound.now.from at.tags new g l.below;
    entries = calls_grow at.tags new g at.work.cache.entries l.entries;
    told = values_grow at.tags new g at.told l.told;
    fits = fits;
    closed = closed;
    right = right;
    formed = formed;
    met = met;
  }

-- by the same terms and values one sees the same
pub sight_stays : (setup : Setup) (a b : Progress) → b.tags ≡ a.tags → b.told ≡ a.told → sight_in setup b ≡ sight_in setup a
sight_stays setup a b e f = ap₂ (λ (terms : List Term) (told : ToldTags). told_sight (links_of (heads_of terms) setup.links.now.links) setup.written.now.files (told_terms (heads_of terms) told)) e f
