use Rattle.session_world.proofs.Rows.{rows_stay}
use Rattle.session_world.proofs.laws.law_rows_stay.Goals as goal

pub returns : goal.returns
returns c = rows_stay
