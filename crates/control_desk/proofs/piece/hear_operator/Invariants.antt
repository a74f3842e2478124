use Rattle.std.proofs.Common.{drop}
use Rattle.session_desk.specs.Book.{IsBookOf}
use Rattle.control_desk.specs.State.{DeskState, at_names}
use Rattle.control_desk.specs.Hands.{AreSame, Works}
use Rattle.control_desk.specs.Operator.{Next, operator_plan}
use Rattle.control_desk.proofs.piece.hear_operator.Given as goal

abbrev pub invariant-loop-octet : goal.invariant-loop-octet
invariant-loop-octet g l = record {
  same : AreSame l.fn.hands l.hands;
  book : IsBookOf l.hands.table.now l.hands.book.now;
  done : (s : DeskState) (next : Next) →
      Works g.D.Shown.seen (operator_plan l.setting l.heard.conn l.heard.now (at_names s l.fn.names) next l.fn.line l.octets) (operator_plan l.setting l.heard.conn l.heard.now (at_names s l.names) next l.line (drop l.octet-index l.octets)) l.fn.hands l.hands;
}
