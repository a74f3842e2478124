use Rattle.std.proofs.Common.{◌+◌, ◌-◌, ◌≡◌, ◌<◌, ◌≤◌, None}
use Rattle.session_rule.specs.Seats.{worker_steps}
use Rattle.session_world.specs.Worker.{announced}
use Rattle.session_table.specs.Knowing.{AreRead}
use Rattle.session_table.specs.Steps.{HasCome}
use Rattle.session_table.specs.Holding.{HoldsNothing}
use Rattle.receive_worker.specs.Buffers.{kept_rows}
use Rattle.receive_worker.specs.Faults.{RisesBy}
use Rattle.receive_worker.specs.Tally.{AddsUp}
use Rattle.receive_worker.proofs.RoundFacts.{Going}
use Rattle.receive_worker.proofs.working.take_all.Given as goal

abbrev pub invariant-rounds : goal.invariant-rounds
invariant-rounds g l = record {
  seat : HasCome l.table l.fn.seat l.seat (worker_steps l.seat);
  nothing : HoldsNothing (worker_steps l.seat);
  retired : announced (worker_steps l.seat) ≡ None;
  read : AreRead (kept_rows l.buffers) (worker_steps l.seat);
  bound : (g.P.Port.shown l.port).bound ≡ (g.P.Port.shown l.fn.port).bound;
  made : (g.P.Port.shown l.port).made ≡ (g.P.Port.shown l.fn.port).made;
  faults : RisesBy (l.tally.recv_fault + l.tally.send_fault) (g.P.Port.shown l.fn.port).faults (g.P.Port.shown l.port).faults;
  going : Going l.table l.locals l.limit l.turns l.fn.seat l.seat (g.P.Port.shown l.fn.port) (g.P.Port.shown l.port) l.tally l.calls l.failed;
  room : AddsUp l.calls l.tally;
  range : l.calls < l.turns;
  short : l.failed ≤ l.calls;
}

abbrev pub decreases-rounds : goal.decreases-rounds
decreases-rounds g l = l.turns - l.calls
