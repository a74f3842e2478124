use Rattle.std.proofs.Common.{◌-◌, ◌≤◌, length, drop}
use Rattle.session_desk.specs.Book.{IsBookOf}
use Rattle.control_desk.specs.Hands.{AreSame, Works}
use Rattle.control_desk.specs.declared.sides.ControlSide.{ControlSide}
use Rattle.control_desk.specs.Plan.{Plan}
use Rattle.control_desk.specs.Control.{control_plan}
use Rattle.control_desk.proofs.talking.hear_control.Given as goal

abbrev pub invariant-loop-at : goal.invariant-loop-at
invariant-loop-at g l = record {
  same : AreSame l.fn.hands l.hands;
  book : IsBookOf l.hands.table.now l.hands.book.now;
  within : l.at ≤ length l.octets;
  done : (more : ControlSide → Plan) (gone : Plan) →
      Works g.D.Shown.seen (control_plan l.setting l.heard.conn l.heard.now more gone l.fn.side l.octets) (control_plan l.setting l.heard.conn l.heard.now more gone l.side (drop l.at l.octets)) l.fn.hands l.hands;
}

abbrev pub decreases-loop-at : goal.decreases-loop-at
decreases-loop-at g l = length l.octets - l.at
