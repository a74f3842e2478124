use Rattle.session_world.proofs.RowsRead.{rows_tell}
use Rattle.session_world.proofs.laws.law_rows_tell.Goals as goal

pub returns : goal.returns
returns c = rows_tell
