use Rattle.file_service.proofs.Causes.{served_ends}
use Rattle.file_service.proofs.service.serve_conf.Goals as goal

pub returns-in-Ok : goal.returns-in-Ok
returns-in-Ok g c = record {
  ends = served_ends g.P.Port.shown g.D.Desk.shown g.D.Desk.goes c.args.conf.now c.args.ports.now c.serve.new.ports c.args.desk.now c.serve.new.desk _ _ c.in-Ok.report c.tell_report.result
      c.in-Ok.ensures.served c.tell_report.ensures.memory c.tell_report.ensures.lost c.tell_report.ensures.told;
}
