use Rattle.session_world.proofs.Joined.{joined_history}
use Rattle.session_world.proofs.laws.law_joined_history.Goals as goal

pub returns : goal.returns
returns c = joined_history
