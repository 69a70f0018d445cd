-- What looking has at hand, as the meaning's and the machine's.
use Rattle.std.specs.Prelude.{◌≡◌, ℕ, List, map, option_map}
use Rattle.std.specs.Map.{lookup}
use Rattle.dx_graph.specs.Graph.{Node}
use Rattle.dx_graph.specs.GraphView.{graph_of}
use Rattle.dx_io.specs.Devices.{FileMap as InputFiles}
use Rattle.dx_tags.specs.Closed.{ValueTerm, Head, heads_of, value_term}
use Rattle.dx_tags.specs.Files.{FileMap, content_of}
use Rattle.dx_links.specs.declared.key.Key.{Key}
use Rattle.dx_links.specs.Getting.{same_value}
use Rattle.dx_links.specs.Holding.{Holding}
use Rattle.dx_links.specs.LinkMap.{LinkMap}
use Rattle.dx_tags.specs.declared.term.ValueTag.{ValueTag}
use Rattle.dx_getting.specs.Bound.{AreLinks}
use Rattle.dx_getting.specs.Stands.{Answers, Setting}
use Rattle.dx_meaning.specs.Outcome.{Value}
use Rattle.dx_meaning.specs.Scan.{Sight}
use Rattle.dx_performing.specs.Kept.{Kept, Link, LinkTerms, link_in}
use Rattle.dx_performing.specs.Course.{Fixed}
use Rattle.dx_resuming.specs.Formed.{formed_in}
use Rattle.dx_looking.specs.ToldTags.{ToldTags}
use Rattle.dx_looking.specs.declared.setup.Setup.{Setup}
use Rattle.dx_looking.specs.declared.progress.Progress.{Progress}

abbrev pub nodes_in : Setup → List Node
nodes_in setup = (graph_of setup.graph.now).nodes

-- ---- links

-- the terms of links, with their objects
abbrev pub links_of : List Head → LinkMap → LinkTerms
links_of hs links = map (λ (l : Key × Holding). (l.0, record { object = l.1.value; term = value_term hs l.1.tag })) links

-- the links, what is found by their tags, held values and written files that an execution begins with
pub record IsKept (hs : List Head) (setup : Setup) (k : Kept) : Type 0 where
  pub links : k.links ≡ links_of hs setup.links.now.links
  pub values : AreLinks setup.links.now.links setup.bound.now.pairs
  pub held : k.held ≡ setup.links.now.held
  pub written : k.written ≡ setup.written.now.files

-- ---- what is told

abbrev pub TermValues : Type 0
TermValues = List (ValueTerm × Value)

abbrev pub told_terms : List Head → ToldTags → TermValues
told_terms hs told = map (λ (x : ValueTag × Value). (value_term hs x.0, x.1)) told

-- the terms of links, what was written, and these values of terms
abbrev pub told_sight : LinkTerms → FileMap → TermValues → Sight
told_sight links files values = record {
  linked = λ key. option_map (λ (l : Link). l.term) (link_in links key);
  written = λ name. content_of name files;
  told = λ t. lookup (same_value t) values;
}

abbrev pub sight_in : Setup → Progress → Sight
sight_in setup at = told_sight (links_of (heads_of at.tags) setup.links.now.links) setup.written.now.files (told_terms (heads_of at.tags) at.told)

-- ---- what getting has

abbrev pub setting_in : Setup → Progress → Setting
setting_in setup at = record { terms = at.tags; links = setup.bound.now.pairs; held = setup.links.now.held; formed = formed_in (nodes_in setup) at.seen.memo.formed.entries }

abbrev pub fixed : Answers → InputFiles → ℕ → Fixed
fixed answer file budget = record { answer = answer; file = file; budget = budget }
