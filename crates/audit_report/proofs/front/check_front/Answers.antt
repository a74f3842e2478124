use Rattle.audit_report.proofs.FrontFacts.{more_none, never_none, entry_front}
use Rattle.std.proofs.Common.{arith}
use Rattle.audit_report.proofs.front.check_front.Goals as goal

pub returns-then-octets-limit : goal.returns-then-octets-limit
returns-then-octets-limit c = (omega arith, more_none c.args.octets.now c.args.limit c.in-More.ensures.2 c.if-octets-limit.true)

pub returns-else-len-limit : goal.returns-else-len-limit
returns-else-len-limit c =
    let e = c.in-Whole.ensures in
    entry_front c.args.audit.now c.args.octets.now c.args.limit c.in-Whole.len c.check_entry.new.audit c.check_entry.result e.1 e.0 (omega arith) e.2 c.check_entry.ensures

pub returns-in-Bad : goal.returns-in-Bad
returns-in-Bad c = never_none c.args.octets.now c.args.limit c.in-Bad.ensures
