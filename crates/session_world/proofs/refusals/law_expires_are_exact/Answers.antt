use Rattle.session_world.proofs.RefusedSteps.{expires_are_exact}
use Rattle.session_world.proofs.refusals.law_expires_are_exact.Goals as goal

pub returns : goal.returns
returns c = expires_are_exact
