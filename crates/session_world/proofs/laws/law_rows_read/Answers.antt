use Rattle.session_world.proofs.Rows.{workers_read_rows}
use Rattle.session_world.proofs.laws.law_rows_read.Goals as goal

pub returns : goal.returns
returns c = workers_read_rows
