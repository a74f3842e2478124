use Rattle.std.proofs.Common.{◌≡◌, ◌*◌}
use Rattle.std.specs.Vec.{vec_len}
use Rattle.session_world.specs.Words.{fresh_slots}
use Rattle.session_world.proofs.world.World.first.Given as goal

abbrev pub invariant-loop : goal.invariant-loop
invariant-loop l = (l.words.items ≡ fresh_slots l.counter) × (vec_len l.words ≡ 5 * l.counter)
