use Rattle.session_world.proofs.Rows.{loads_fix_rows}
use Rattle.session_world.proofs.laws.law_rows_fixed.Goals as goal

pub returns : goal.returns
returns c = loads_fix_rows
