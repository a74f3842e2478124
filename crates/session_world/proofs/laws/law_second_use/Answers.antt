use Rattle.session_world.proofs.SecondUses.{second_use_law}
use Rattle.session_world.proofs.laws.law_second_use.Goals as goal

pub returns : goal.returns
returns c = second_use_law
