use Rattle.session_world.proofs.DeskLists.{steps_keep_rows}
use Rattle.session_world.proofs.laws.law_desk_rows.Goals as goal

pub returns : goal.returns
returns c = steps_keep_rows
