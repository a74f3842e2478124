use Rattle.session_world.proofs.WholeRuns.{whole}
use Rattle.session_world.proofs.WholeTurns.{whole_turn}
use Rattle.session_world.proofs.laws.law_whole_turn.Goals as goal

pub returns : goal.returns
returns c = whole_turn whole
