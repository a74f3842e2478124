use Rattle.session_world.proofs.RefusedSteps.{no_false_miss}
use Rattle.session_world.proofs.refusals.law_no_false_miss.Goals as goal

pub returns : goal.returns
returns c = no_false_miss
