use Rattle.audit_report.proofs.RunFacts.{stopped_none}
use Rattle.audit_report.proofs.auditing.audit_run.Goals as goal

pub returns-in_default-clause-ended : goal.returns-in_default-clause-ended
returns-in_default-clause-ended g c = stopped_none (g.S.Source.left c.args.input.now)

pub returns-in_default-make-clause-ended : goal.returns-in_default-make-clause-ended
returns-in_default-make-clause-ended g c = stopped_none (g.S.Source.left c.args.input.now)
