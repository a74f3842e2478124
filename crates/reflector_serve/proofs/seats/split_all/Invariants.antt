use Rattle.std.proofs.Common.{◌≡◌, ◌≤◌, ◌+◌, vec_len, vec_capacity}
use Rattle.reflector_serve.proofs.SplitFacts.{Splitting}
use Rattle.reflector_serve.proofs.seats.split_all.Given as goal

abbrev pub invariant-loop-buffers : goal.invariant-loop-buffers
invariant-loop-buffers g l = record {
  splitting : Splitting l.table l.fn.book l.book l.posts.items;
  count : vec_len l.posts + vec_len l.rooms ≡ vec_len l.fn.rooms;
  room : vec_len l.fn.rooms ≤ vec_capacity l.posts;
}

abbrev pub decreases-loop-buffers : goal.decreases-loop-buffers
decreases-loop-buffers g l = vec_len l.rooms
