use Rattle.session_world.proofs.OneThread.{turns_tell}
use Rattle.session_world.proofs.laws.law_turns_tell.Goals as goal

pub returns : goal.returns
returns c = turns_tell
