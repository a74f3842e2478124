use Rattle.std.proofs.Common.{◌≡◌, ◌-◌, ◌≤◌, List, [], length, take, drop}
use Rattle.session_desk.specs.Book.{IsBookOf}
use Rattle.control_desk.specs.Hands.{AreSame, Works}
use Rattle.control_desk.specs.declared.sides.OpenConnection.{OpenConnection}
use Rattle.control_desk.specs.State.{at_connections}
use Rattle.control_desk.specs.Connections.{state_of}
use Rattle.control_desk.specs.Plan.{Plan}
use Rattle.control_desk.specs.Run.{idle_plan}
use Rattle.control_desk.proofs.ticking.hang_up_idle.Given as goal

abbrev pub invariant-loop-at : goal.invariant-loop-at
invariant-loop-at g l = record {
  same : AreSame l.fn.hands l.hands;
  book : IsBookOf l.hands.table.now l.hands.book.now;
  within : l.at ≤ length l.places.connections.items;
  state : state_of l.places ≡ at_connections (state_of l.fn.places) l.places.connections.items;
  done : (next : List OpenConnection → Plan) →
      Works g.D.Shown.seen (idle_plan l.now next [] l.fn.places.connections.items) (idle_plan l.now next (take l.at l.places.connections.items) (drop l.at l.places.connections.items)) l.fn.hands l.hands;
}

abbrev pub decreases-loop-at : goal.decreases-loop-at
decreases-loop-at g l = length l.places.connections.items - l.at
