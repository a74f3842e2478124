use Rattle.session_world.proofs.DeskLists.{desk_is_allowed}
use Rattle.session_world.proofs.laws.law_desk_did.Goals as goal

pub returns : goal.returns
returns c = desk_is_allowed
