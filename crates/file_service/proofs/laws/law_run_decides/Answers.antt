use Rattle.file_service.proofs.Decides.{run_decides}
use Rattle.file_service.proofs.laws.law_run_decides.Goals as goal

pub returns : goal.returns
returns g c = run_decides g.P.Port.shown g.D.Desk.shown g.D.Desk.goes
