use Rattle.session_world.proofs.LegalOrder.{one_legal_order}
use Rattle.session_world.proofs.laws.law_one_order.Goals as goal

pub returns : goal.returns
returns c = one_legal_order
