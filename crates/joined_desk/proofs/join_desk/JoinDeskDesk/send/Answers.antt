use Rattle.net_io.specs.declared.script_desk.DeskDeed.TheVariants.{Sent}
use Rattle.net_io.proofs.DeskFacts.{desk_log_grows}
use Rattle.joined_desk.proofs.join_desk.JoinDeskDesk.send.Goals as goal

pub returns-clause-log : goal.returns-clause-log
returns-clause-log c = rw (← c.self.view_is) (desk_log_grows c.self.inside.log c.note.new.self (Sent c.args.conn) c.args.octets.now c.note.ensures)
