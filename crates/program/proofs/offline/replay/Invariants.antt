use Rattle.std.proofs.Common.{◌≡◌, ◌≤◌, List, length, ◌+◌, ◌-◌, ◌*◌, ◌^◌}
use Rattle.replay_format.specs.Records.{Item}
use Rattle.read_ahead.specs.Buffers.{pending}
use Rattle.program.specs.Buffers.{due}
use Rattle.program.proofs.Going.{Going}
use Rattle.program.proofs.offline.replay.Given as goal

abbrev pub invariant-records : goal.invariant-records
invariant-records g l = record {
  going : (records : List Item) × Going (g.S.Source.left l.fn.input) (g.S.Source.left l.input) (g.K.Sink.shown l.fn.out).written (g.K.Sink.shown l.out).written l.sessions (pending l.ahead) (due l.outbox) l.passed records;
  input : g.S.Source.faults l.input ≡ g.S.Source.faults l.fn.input;
  out : (g.K.Sink.shown l.out).faults ≡ (g.K.Sink.shown l.fn.out).faults;
  limit : l.passed + length (pending l.ahead) ≤ 2 ^ 30 + 524288;
  passed : l.passed ≤ 2 ^ 30;
}

abbrev pub decreases-records : goal.decreases-records
decreases-records g l = 2 * (2 ^ 30 + 524288 - (l.passed + length (pending l.ahead))) + length (pending l.ahead)
