use Rattle.session_world.proofs.RefusedSteps.{only_draws_change}
use Rattle.session_world.proofs.refusals.law_only_draws_change.Goals as goal

pub returns : goal.returns
returns c = only_draws_change
