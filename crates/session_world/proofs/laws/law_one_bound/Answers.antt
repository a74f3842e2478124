use Rattle.session_world.proofs.OneThread.{one_bound}
use Rattle.session_world.proofs.laws.law_one_bound.Goals as goal

pub returns : goal.returns
returns c = one_bound
