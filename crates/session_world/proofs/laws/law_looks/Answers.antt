use Rattle.session_world.proofs.LooksFit.{worker_looks}
use Rattle.session_world.proofs.laws.law_looks.Goals as goal

pub returns : goal.returns
returns c = worker_looks
