use Rattle.std.proofs.Common.{◌≡◌, ◌≤◌, length, map, take, vec_capacity}
use Rattle.reflector_serve.proofs.serving.tallies_of.Given as goal

abbrev pub invariant-loop-post : goal.invariant-loop-post
invariant-loop-post g l =
    (l.tallies.items ≡ map (λ p. p.tally) (take l.post-index l.posts)) × (length l.posts ≤ vec_capacity l.tallies)
