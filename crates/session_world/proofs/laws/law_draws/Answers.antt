use Rattle.session_world.proofs.LegalHistories.{draws_count}
use Rattle.session_world.proofs.laws.law_draws.Goals as goal

pub returns : goal.returns
returns c = draws_count
