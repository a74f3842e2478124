use Rattle.std.proofs.Common.{[]}
use Rattle.net_io.specs.declared.script_desk.DeskDeed.TheVariants.{Finished}
use Rattle.net_io.proofs.DeskFacts.{desk_log_grows}
use Rattle.net_io.proofs.script_desk.ScriptDeskDesk.finish.Goals as goal

pub returns-clause-log : goal.returns-clause-log
returns-clause-log c = rw (← c.self.view_is) (desk_log_grows c.self.inside.log c.note.new.self Finished [] c.note.ensures)
