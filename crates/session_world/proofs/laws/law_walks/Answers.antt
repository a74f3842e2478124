use Rattle.session_world.proofs.Walks.{walks_go_round}
use Rattle.session_world.proofs.laws.law_walks.Goals as goal

pub returns : goal.returns
returns c = walks_go_round
