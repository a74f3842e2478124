use Rattle.std.proofs.Common.{◌≡◌, ◌∙◌, true, false, sym, ap, subst, arith}
use Rattle.tlv_chain.specs.Tlv.{Tlv}
use Rattle.tlv_actions.specs.Rows.{WritesTlv, facts_of, tlv_of, measured}
use Rattle.tlv_actions.proofs.Cases.{padding_reply, padding_done, reply_unknown, reply_bad, reply_good, acted_unknown, acted_bad, acted_good, malformed_same, valid_3, valid_5, flags_3, flags_5, value_3, value_5, value_other}
use Rattle.tlv_actions.proofs.reply.answer.Goals as goal

pub returns-then-span-eq-EXTRA_PADDING-clause-octets : goal.returns-then-span-eq-EXTRA_PADDING-clause-octets
returns-then-span-eq-EXTRA_PADDING-clause-octets c = subst (λ (t : Tlv). WritesTlv c.args.out.now c.args.span.now t c.write_flags.new.out) (padding_reply c.args.parts.now (facts_of c.args.facts.now) c.args.span.now.at (tlv_of c.args.span.now c.args.value.now) c.if-span-eq-EXTRA_PADDING.true) c.write_flags.ensures

pub returns-then-span-eq-EXTRA_PADDING-clause-acted : goal.returns-then-span-eq-EXTRA_PADDING-clause-acted
returns-then-span-eq-EXTRA_PADDING-clause-acted c = padding_done c.args.parts.now c.args.facts.now.plan.now c.args.span.now.at (tlv_of c.args.span.now c.args.value.now) c.if-span-eq-EXTRA_PADDING.true

pub returns-then-not-is_understood-clause-octets : goal.returns-then-not-is_understood-clause-octets
returns-then-not-is_understood-clause-octets c = subst (λ (t : Tlv). WritesTlv c.args.out.now c.args.span.now t c.write_flags-then-not-is_understood.new.out) (reply_unknown c.args.parts.now (facts_of c.args.facts.now) c.args.span.now.at (tlv_of c.args.span.now c.args.value.now) (sym c.is_understood.ensures ∙ c.if-not-is_understood.true)) c.write_flags-then-not-is_understood.ensures

pub returns-then-not-is_understood-clause-acted : goal.returns-then-not-is_understood-clause-acted
returns-then-not-is_understood-clause-acted c = acted_unknown c.args.parts.now c.args.facts.now.plan.now c.args.span.now.at (tlv_of c.args.span.now c.args.value.now) (sym c.is_understood.ensures ∙ c.if-not-is_understood.true)

pub returns-then-is_malformed_at-clause-octets : goal.returns-then-is_malformed_at-clause-octets
returns-then-is_malformed_at-clause-octets c = subst (λ (t : Tlv). WritesTlv c.args.out.now c.args.span.now t c.write_flags-then-is_malformed_at.new.out) (reply_bad c.args.parts.now (facts_of c.args.facts.now) c.args.span.now.at (tlv_of c.args.span.now c.args.value.now) (sym c.is_understood.ensures ∙ c.if-not-is_understood.false) (malformed_same c.args.parts.now c.args.facts.now.plan.now c.args.span.now.at (tlv_of c.args.span.now c.args.value.now) c.is_malformed_at.result true c.args.span.now.len c.requires.len (c.is_malformed_at.ensures c.args.parts.now (sym c.is_understood.ensures ∙ c.if-not-is_understood.false)) c.if-is_malformed_at.true)) c.write_flags-then-is_malformed_at.ensures

pub returns-then-is_malformed_at-clause-acted : goal.returns-then-is_malformed_at-clause-acted
returns-then-is_malformed_at-clause-acted c = acted_bad c.args.parts.now c.args.facts.now.plan.now c.args.span.now.at (tlv_of c.args.span.now c.args.value.now) (malformed_same c.args.parts.now c.args.facts.now.plan.now c.args.span.now.at (tlv_of c.args.span.now c.args.value.now) c.is_malformed_at.result true c.args.span.now.len c.requires.len (c.is_malformed_at.ensures c.args.parts.now (sym c.is_understood.ensures ∙ c.if-not-is_understood.false)) c.if-is_malformed_at.true)

pub write-requires-clause-len : goal.write-requires-clause-len
write-requires-clause-len c = let len : c.args.span.now.len ≡ 4 = valid_3 c.args.parts.now _ c.args.span.now.kind c.args.span.now.len c.in-3.is (sym c.is_understood.ensures ∙ c.if-not-is_understood.false) (sym (c.is_malformed_at.ensures c.args.parts.now (sym c.is_understood.ensures ∙ c.if-not-is_understood.false)) ∙ c.if-is_malformed_at.false) in omega arith

pub field4-requires : goal.field4-requires
field4-requires c = let len : c.args.span.now.len ≡ 12 = valid_5 c.args.parts.now _ c.args.span.now.kind c.args.span.now.len c.in-5.is (sym c.is_understood.ensures ∙ c.if-not-is_understood.false) (sym (c.is_malformed_at.ensures c.args.parts.now (sym c.is_understood.ensures ∙ c.if-not-is_understood.false)) ∙ c.if-is_malformed_at.false) in omega arith

pub write-requires-in-5-clause-len : goal.write-requires-in-5-clause-len
write-requires-in-5-clause-len c = let len : c.args.span.now.len ≡ 12 = valid_5 c.args.parts.now _ c.args.span.now.kind c.args.span.now.len c.in-5.is (sym c.is_understood.ensures ∙ c.if-not-is_understood.false) (sym (c.is_malformed_at.ensures c.args.parts.now (sym c.is_understood.ensures ∙ c.if-not-is_understood.false)) ∙ c.if-is_malformed_at.false) in omega arith

pub returns-in-3-clause-octets : goal.returns-in-3-clause-octets
returns-in-3-clause-octets c = subst (λ (t : Tlv). WritesTlv c.args.out.now c.args.span.now t c.write.new.out) (reply_good c.args.parts.now (facts_of c.args.facts.now) c.args.span.now.at (tlv_of c.args.span.now c.args.value.now) 0 c.args.parts.now.info (sym c.is_understood.ensures ∙ c.if-not-is_understood.false) (malformed_same c.args.parts.now c.args.facts.now.plan.now c.args.span.now.at (tlv_of c.args.span.now c.args.value.now) c.is_malformed_at.result false c.args.span.now.len c.requires.len (c.is_malformed_at.ensures c.args.parts.now (sym c.is_understood.ensures ∙ c.if-not-is_understood.false)) c.if-is_malformed_at.false) (flags_3 c.args.facts.now.plan.now c.args.span.now.at c.args.span.now.kind c.in-3.is) (value_3 c.args.parts.now c.args.facts.now.n (tlv_of c.args.span.now c.args.value.now) c.in-3.is)) c.write.ensures

pub returns-in-3-clause-acted : goal.returns-in-3-clause-acted
returns-in-3-clause-acted c = acted_good c.args.parts.now c.args.facts.now.plan.now c.args.span.now.at (tlv_of c.args.span.now c.args.value.now) (malformed_same c.args.parts.now c.args.facts.now.plan.now c.args.span.now.at (tlv_of c.args.span.now c.args.value.now) c.is_malformed_at.result false c.args.span.now.len c.requires.len (c.is_malformed_at.ensures c.args.parts.now (sym c.is_understood.ensures ∙ c.if-not-is_understood.false)) c.if-is_malformed_at.false)

pub returns-in-5-clause-octets : goal.returns-in-5-clause-octets
returns-in-5-clause-octets c = subst (λ (t : Tlv). WritesTlv c.args.out.now c.args.span.now t c.write-in-5.new.out) (reply_good c.args.parts.now (facts_of c.args.facts.now) c.args.span.now.at (tlv_of c.args.span.now c.args.value.now) 0 c.measured.result (sym c.is_understood.ensures ∙ c.if-not-is_understood.false) (malformed_same c.args.parts.now c.args.facts.now.plan.now c.args.span.now.at (tlv_of c.args.span.now c.args.value.now) c.is_malformed_at.result false c.args.span.now.len c.requires.len (c.is_malformed_at.ensures c.args.parts.now (sym c.is_understood.ensures ∙ c.if-not-is_understood.false)) c.if-is_malformed_at.false) (flags_5 c.args.facts.now.plan.now c.args.span.now.at c.args.span.now.kind c.in-5.is) (c.measured.ensures ∙ ap (measured c.args.facts.now.n) c.field4.ensures ∙ value_5 c.args.parts.now c.args.facts.now.n (tlv_of c.args.span.now c.args.value.now) c.in-5.is)) c.write-in-5.ensures

pub returns-in-5-clause-acted : goal.returns-in-5-clause-acted
returns-in-5-clause-acted c = acted_good c.args.parts.now c.args.facts.now.plan.now c.args.span.now.at (tlv_of c.args.span.now c.args.value.now) (malformed_same c.args.parts.now c.args.facts.now.plan.now c.args.span.now.at (tlv_of c.args.span.now c.args.value.now) c.is_malformed_at.result false c.args.span.now.len c.requires.len (c.is_malformed_at.ensures c.args.parts.now (sym c.is_understood.ensures ∙ c.if-not-is_understood.false)) c.if-is_malformed_at.false)

pub returns-in_default-clause-octets : goal.returns-in_default-clause-octets
returns-in_default-clause-octets c = subst (λ (t : Tlv). WritesTlv c.args.out.now c.args.span.now t c.write_flags-in_default.new.out) (reply_good c.args.parts.now (facts_of c.args.facts.now) c.args.span.now.at (tlv_of c.args.span.now c.args.value.now) c.flags_at.result c.args.value.now (sym c.is_understood.ensures ∙ c.if-not-is_understood.false) (malformed_same c.args.parts.now c.args.facts.now.plan.now c.args.span.now.at (tlv_of c.args.span.now c.args.value.now) c.is_malformed_at.result false c.args.span.now.len c.requires.len (c.is_malformed_at.ensures c.args.parts.now (sym c.is_understood.ensures ∙ c.if-not-is_understood.false)) c.if-is_malformed_at.false) c.flags_at.ensures (value_other c.args.parts.now c.args.facts.now.n (tlv_of c.args.span.now c.args.value.now) (λ k. omega arith) (λ k. omega arith))) c.write_flags-in_default.ensures

pub returns-in_default-clause-acted : goal.returns-in_default-clause-acted
returns-in_default-clause-acted c = acted_good c.args.parts.now c.args.facts.now.plan.now c.args.span.now.at (tlv_of c.args.span.now c.args.value.now) (malformed_same c.args.parts.now c.args.facts.now.plan.now c.args.span.now.at (tlv_of c.args.span.now c.args.value.now) c.is_malformed_at.result false c.args.span.now.len c.requires.len (c.is_malformed_at.ensures c.args.parts.now (sym c.is_understood.ensures ∙ c.if-not-is_understood.false)) c.if-is_malformed_at.false)
