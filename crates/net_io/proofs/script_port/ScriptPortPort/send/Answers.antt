use Rattle.net_io.specs.declared.script_port.PortDeed.TheVariants.{Sent, SendFailed}
use Rattle.net_io.proofs.PortFacts.{log_grows}
use Rattle.net_io.proofs.script_port.ScriptPortPort.send.Goals as goal

pub returns-then-next_fails-clause-log : goal.returns-then-next_fails-clause-log
returns-then-next_fails-clause-log c = rw (← c.self.view_is) (log_grows c.self.inside.log c.note.new.self (SendFailed c.args.from c.args.to.now) c.args.octets.now c.note.ensures)

pub returns-clause-log : goal.returns-clause-log
returns-clause-log c = rw (← c.self.view_is) (log_grows c.self.inside.log c.note-2.new.self (Sent c.args.from c.args.to.now) c.args.octets.now c.note-2.ensures)
