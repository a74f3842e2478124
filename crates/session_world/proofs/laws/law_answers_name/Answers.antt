use Rattle.session_world.proofs.RowsRead.{answers_name}
use Rattle.session_world.proofs.laws.law_answers_name.Goals as goal

pub returns : goal.returns
returns c = answers_name
