use Rattle.session_world.proofs.Configs.{explained}
use Rattle.session_world.proofs.laws.law_explained.Goals as goal

pub returns : goal.returns
returns c = explained
