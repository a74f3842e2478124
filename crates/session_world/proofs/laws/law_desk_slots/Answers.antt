use Rattle.session_world.proofs.DeskLists.{slots_are_sound}
use Rattle.session_world.proofs.laws.law_desk_slots.Goals as goal

pub returns : goal.returns
returns c = slots_are_sound
