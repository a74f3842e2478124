use Rattle.reflector_serve.proofs.JoinFacts.{Joining}
use Rattle.reflector_serve.proofs.seats.join_all.Given as goal

abbrev pub invariant-loop-post : goal.invariant-loop-post
invariant-loop-post g l = Joining l.table l.fn.book l.fn.posts.items l.book l.posts.items

abbrev pub decreases-loop-post : goal.decreases-loop-post
decreases-loop-post g l = goal.left-loop-post g l
