use Rattle.std.proofs.Common.{◌-◌, ◌≡◌, ◌<◌, ◌≤◌}
use Rattle.probe_run.specs.Ends.{call_limit}
use Rattle.probe_run.proofs.TurnFacts.{Going}
use Rattle.probe_run.proofs.measuring.take_turns.Given as goal

abbrev pub invariant-turns : goal.invariant-turns
invariant-turns g l = record {
  going : Going l.peer l.fn.sender l.sender (g.P.Port.shown l.fn.port).log (g.P.Port.shown l.port).log (g.P.Port.shown l.fn.port).faults (g.P.Port.shown l.port).faults l.progress;
  bound : (g.P.Port.shown l.port).bound ≡ (g.P.Port.shown l.fn.port).bound;
  made : (g.P.Port.shown l.port).made ≡ (g.P.Port.shown l.fn.port).made;
  range : l.progress.calls < call_limit;
  failed : l.progress.failed ≤ l.progress.calls;
  foreign : l.progress.foreign ≤ l.progress.calls;
}

abbrev pub decreases-turns : goal.decreases-turns
decreases-turns g l = call_limit - l.progress.calls
