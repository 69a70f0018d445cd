-- The calls that were formed, by their tags.
use Rattle.std.proofs.Common.{◌≡◌, ℕ, Bool, List, [], ◌∷◌, option_map, refl}
use Rattle.std.specs.Map.{lookup}
use Rattle.dx_cache.proofs.Places.{cases}
use Rattle.dx_graph.specs.Graph.{Node, node_at}
use Rattle.dx_resuming.specs.Formed.{called_of, formed_in}

pub formed_found : (nodes : List Node) (test : ℕ → Bool) (es : List (ℕ × ℕ)) → lookup test (formed_in nodes es) ≡ option_map (λ n. called_of (node_at nodes n)) (lookup test es)
formed_found nodes test [] = refl
formed_found nodes test (e ∷ es) = cases (test e.0) (λ q. rw q refl) (λ q. rw q (formed_found nodes test es))
