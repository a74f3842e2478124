use Rattle.net_io.specs.declared.script_desk.DeskDeed.TheVariants.{Sent, SendFailed}
use Rattle.net_io.proofs.DeskFacts.{desk_log_grows}
use Rattle.net_io.proofs.script_desk.ScriptDeskDesk.send.Goals as goal

pub returns-then-next_fails-clause-log : goal.returns-then-next_fails-clause-log
returns-then-next_fails-clause-log c = rw (← c.self.view_is) (desk_log_grows c.self.inside.log c.note.new.self (SendFailed c.args.conn) c.args.octets.now c.note.ensures)

pub returns-clause-log : goal.returns-clause-log
returns-clause-log c = rw (← c.self.view_is) (desk_log_grows c.self.inside.log c.note-2.new.self (Sent c.args.conn) c.args.octets.now c.note-2.ensures)
