use Rattle.std.proofs.Common.{◌≤◌, ◌+◌}
use Rattle.session_desk.specs.Book.{IsBookOf}
use Rattle.control_desk.specs.Hands.{AreSame, Works}
use Rattle.control_desk.specs.Connections.{state_of}
use Rattle.control_desk.specs.Run.{desk_plan}
use Rattle.control_desk.proofs.running.hear_all.Given as goal

abbrev pub invariant-loop-left : goal.invariant-loop-left
invariant-loop-left g l = record {
  same : AreSame l.fn.hands l.hands;
  book : IsBookOf l.hands.table.now l.hands.book.now;
  within : l.failed + l.left ≤ l.turns;
  done :
      Works g.D.Shown.seen (desk_plan l.setting l.turns 0 (state_of l.fn.places)) (desk_plan l.setting l.left l.failed (state_of l.places)) l.fn.hands l.hands;
}

abbrev pub decreases-loop-left : goal.decreases-loop-left
decreases-loop-left g l = l.left
