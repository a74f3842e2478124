use Rattle.std.proofs.Common.{[]}
use Rattle.net_io.specs.declared.script_desk.DeskDeed.TheVariants.{Opened, OpenFailed}
use Rattle.net_io.proofs.DeskFacts.{desk_log_grows}
use Rattle.net_io.proofs.script_desk.ScriptDeskDesk.open.Goals as goal

pub returns-then-next_fails-clause-log : goal.returns-then-next_fails-clause-log
returns-then-next_fails-clause-log c = rw (← c.self.view_is) (desk_log_grows c.self.inside.log c.note.new.self OpenFailed [] c.note.ensures)

pub returns-clause-log : goal.returns-clause-log
returns-clause-log c = rw (← c.self.view_is) (desk_log_grows c.self.inside.log c.note-2.new.self (Opened c.args.control c.args.operator) [] c.note-2.ensures)
