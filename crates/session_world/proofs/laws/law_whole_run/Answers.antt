use Rattle.session_world.proofs.WholeRuns.{whole}
use Rattle.session_world.proofs.laws.law_whole_run.Goals as goal

pub returns : goal.returns
returns c = whole
