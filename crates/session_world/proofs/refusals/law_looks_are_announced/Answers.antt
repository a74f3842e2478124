use Rattle.session_world.proofs.RefusedSteps.{looks_are_announced}
use Rattle.session_world.proofs.refusals.law_looks_are_announced.Goals as goal

pub returns : goal.returns
returns c = looks_are_announced
