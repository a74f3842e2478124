use Rattle.session_world.proofs.LegalHistories.{one_match}
use Rattle.session_world.proofs.laws.law_one_match.Goals as goal

pub returns : goal.returns
returns c = one_match
