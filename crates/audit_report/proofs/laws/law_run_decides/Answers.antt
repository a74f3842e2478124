use Rattle.audit_report.proofs.Decides.{run_decides}
use Rattle.audit_report.proofs.laws.law_run_decides.Goals as goal

pub returns : goal.returns
returns c = run_decides c.one_entry.ensures
