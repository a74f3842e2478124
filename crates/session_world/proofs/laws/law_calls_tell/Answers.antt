use Rattle.session_world.proofs.OneThread.{calls_tell}
use Rattle.session_world.proofs.laws.law_calls_tell.Goals as goal

pub returns : goal.returns
returns c = calls_tell
