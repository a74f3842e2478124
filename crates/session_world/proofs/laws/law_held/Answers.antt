use Rattle.session_world.proofs.HeldSlots.{holds_in_part, held}
use Rattle.session_world.proofs.laws.law_held.Goals as goal

pub returns : goal.returns
returns c = record { stays = held; part = holds_in_part }
