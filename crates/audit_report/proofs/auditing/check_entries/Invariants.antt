use Rattle.std.proofs.Common.{◌≡◌, ◌≤◌, List, length, ◌+◌, ◌-◌, ◌*◌, ◌^◌}
use Rattle.read_ahead.specs.Buffers.{pending}
use Rattle.reply_audit.specs.Claims.{Claim}
use Rattle.audit_report.proofs.RunFacts.{Going}
use Rattle.audit_report.proofs.auditing.check_entries.Given as goal

abbrev pub invariant-entries : goal.invariant-entries
invariant-entries g l = record {
  going : (cs : List Claim) × Going (g.S.Source.left l.fn.input) (g.S.Source.left l.input) l.audit (pending l.ahead) l.passed l.count cs;
  input : g.S.Source.faults l.input ≡ g.S.Source.faults l.fn.input;
  limit : l.passed + length (pending l.ahead) ≤ 2 ^ 30 + 524288;
  passed : l.passed ≤ 2 ^ 30;
  few : l.count ≤ l.passed;
}

abbrev pub decreases-entries : goal.decreases-entries
decreases-entries g l = 2 * (2 ^ 30 + 524288 - (l.passed + length (pending l.ahead))) + length (pending l.ahead)
