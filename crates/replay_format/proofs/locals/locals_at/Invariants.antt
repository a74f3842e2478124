use Rattle.replay_format.proofs.ListReading.{AreRead}
use Rattle.replay_format.proofs.locals.locals_at.Given as goal

abbrev pub invariant-loop-i : goal.invariant-loop-i
invariant-loop-i l = AreRead l.count l.initial.rest l.rest l.list l.i
