use Rattle.session_desk.proofs.Serving.{live_stays}
use Rattle.session_desk.proofs.laws.law_live_stay.Goals as goal

pub returns : goal.returns
returns c = live_stays
