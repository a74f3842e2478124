use Rattle.session_world.proofs.OneOrder.{the_order}
use Rattle.session_world.proofs.laws.law_the_order.Goals as goal

pub returns : goal.returns
returns c = the_order
