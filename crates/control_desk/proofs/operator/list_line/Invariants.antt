use Rattle.std.proofs.Common.{◌≤◌, ◌-◌}
use Rattle.session_desk.specs.Book.{IsBookOf}
use Rattle.control_desk.specs.State.{DeskState}
use Rattle.control_desk.specs.Plan.{live_len}
use Rattle.control_desk.specs.Hands.{AreSame, Works}
use Rattle.control_desk.specs.Operator.{Next, list_from}
use Rattle.control_desk.proofs.operator.list_line.Given as goal

abbrev pub invariant-loop-index : goal.invariant-loop-index
invariant-loop-index g l = record {
  same : AreSame l.fn.hands l.hands;
  book : IsBookOf l.hands.table.now l.hands.book.now;
  within : l.index ≤ l.all;
  done : (s : DeskState) (next : Next) →
      Works g.D.Shown.seen (live_len (λ all. list_from l.conn s next all 0 all)) (list_from l.conn s next l.all l.index (l.all - l.index)) l.fn.hands l.hands;
}

abbrev pub decreases-loop-index : goal.decreases-loop-index
decreases-loop-index g l = l.all - l.index
