use Rattle.std.proofs.Common.{◌≡◌, ◌≤◌, vec_len, vec_capacity}
use Rattle.reflector_serve.proofs.whole.make_rooms.Given as goal

abbrev pub invariant-loop-made : goal.invariant-loop-made
invariant-loop-made l = (vec_len l.rooms ≡ l._made) × (l.fn.count ≤ vec_capacity l.rooms)
