use Rattle.std.proofs.Common.{◌≡◌, ◌+◌, map, drop, option_map}
use Rattle.dx_signatures.specs.CalleeView.{place_of}
use Rattle.dx_signatures.proofs.signature.place_of.Given as goal

abbrev pub invariant-loop-n : goal.invariant-loop-n
invariant-loop-n l = record {
  counted : l.i ≡ l.n-index;
  so_far : option_map (λ k. l.n-index + k) (place_of (map (λ n. n.now) (drop l.n-index l.names)) l.name) ≡ place_of (map (λ n. n.now) l.names) l.name;
}
