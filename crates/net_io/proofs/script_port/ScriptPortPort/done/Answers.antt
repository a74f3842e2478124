use Rattle.std.proofs.Common.{[]}
use Rattle.net_io.specs.declared.script_port.PortDeed.TheVariants.{Done}
use Rattle.net_io.proofs.PortFacts.{log_grows}
use Rattle.net_io.proofs.script_port.ScriptPortPort.done.Goals as goal

pub returns-clause-log : goal.returns-clause-log
returns-clause-log c = rw (← c.self.view_is) (log_grows c.self.inside.log c.note.new.self Done [] c.note.ensures)
