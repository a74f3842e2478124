use Rattle.session_world.proofs.Visits.{visits_tell}
use Rattle.session_world.proofs.laws.law_visits.Goals as goal

pub returns : goal.returns
returns c = visits_tell
