use Rattle.std.proofs.Common.{ap, arith}
use Rattle.tlv_chain.specs.Walking.{Walking}
use Rattle.tlv_actions.proofs.SubTlvs.{alone_is, not_alone}
use Rattle.tlv_actions.proofs.planning.sub_tlv.Goals as goal

pub returns-then-rest-value-clause-is : goal.returns-then-rest-value-clause-is
returns-then-rest-value-clause-is c = alone_is c.args.value.now c.new-walk.result c.in_ok-span.span c.next.new.self (ap (λ (w : Walking). w.tail) c.new-walk.ensures) (ap (λ (w : Walking). w.at) c.new-walk.ensures) c.in_ok-span.ensures (omega (arith, c.rest.ensures.place))

pub returns-else-rest-value-clause-is : goal.returns-else-rest-value-clause-is
returns-else-rest-value-clause-is c = not_alone c.args.value.now c.new-walk.result c.in_ok-span.span c.next.new.self (ap (λ (w : Walking). w.tail) c.new-walk.ensures) (ap (λ (w : Walking). w.at) c.new-walk.ensures) c.in_ok-span.ensures (λ i. omega (arith, c.type_inv.value i)) (λ e. omega (arith, c.rest.ensures.place, e))
