use Rattle.session_world.proofs.RefusedSteps.{reuse_is_scanned, held_is_not_taken}
use Rattle.session_world.proofs.refusals.law_reuse.Goals as goal

pub returns : goal.returns
returns c = record { scanned = reuse_is_scanned; held = held_is_not_taken }
