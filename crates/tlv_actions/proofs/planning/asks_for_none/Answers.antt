use Rattle.tlv_actions.proofs.SubTlvs.{none_wanted}
use Rattle.tlv_actions.proofs.planning.asks_for_none.Goals as goal

pub returns : goal.returns
returns c = none_wanted c.args.parts.now c.args.tail.now c.value_at-value.result.now c.value_at.result.now c.in-Some.span c.in-Some-sub_tlv.sub c.value_at-value.ensures c.value_at.ensures c.in-Some.ensures.is c.in-Some-sub_tlv.ensures.is c.wants_none.result (c.wants_none.ensures c.in-Some-sub_tlv.sub.flags)
