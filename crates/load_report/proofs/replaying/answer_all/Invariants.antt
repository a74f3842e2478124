use Rattle.std.proofs.Common.{◌*◌, ◌≤◌}
use Rattle.load_report.proofs.Going.{Going}
use Rattle.load_report.proofs.replaying.answer_all.Given as goal

abbrev pub invariant-loop-index : goal.invariant-loop-index
invariant-loop-index l = record {
  going : Going l.seed l.sessions l.counts l.index;
  sent : l.counts.sent ≤ l.index;
  no_session : l.counts.no_session ≤ l.index;
  octets : l.counts.octets ≤ 65567 * l.index;
}
