use Rattle.session_world.proofs.OneThread.{begins}
use Rattle.session_world.proofs.laws.law_begins.Goals as goal

pub returns : goal.returns
returns c = begins
