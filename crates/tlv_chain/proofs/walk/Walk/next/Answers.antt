use Rattle.std.proofs.Common.{subst, refl}
use Rattle.tlv_chain.specs.Walking.{Walking, IsAtRest}
use Rattle.tlv_chain.proofs.Steps.{stays, went_from}
use Rattle.tlv_chain.proofs.walk.Walk.next.Goals as goal

pub returns-in_default : goal.returns-in_default
returns-in_default c = subst (λ (w : Walking). IsAtRest w w) c.self.view_is (stays _ c.split_at.result.1.now c.split_at.ensures.back c.in_default.ensures)

pub returns : goal.returns
returns c = went_from _ c.self.inside.tail.now c.split_at.result.1.now _ c.from.result c.self.view_is c.self.invariant c.split_at.ensures.back c.in-Some.ensures c.from.ensures refl refl
