use Rattle.std.proofs.Common.{◌≡◌, ◌++◌, ◌∙◌, length, drop, sym, ap, arith}
use Rattle.octet_format.proofs.Fields.{Has, has_put, length_written}
use Rattle.refl_types.specs.declared.types.Mode.TheVariants.{Plain}
use Rattle.stamp_packet.specs.declared.fields.ReplyBase.{ReplyBase}
use Rattle.stamp_packet.specs.Plain.{plain_reply, sender_of}
use Rattle.tlv_actions.specs.Rows.{Facts}
use Rattle.reflect_core.specs.Tail.{tail_after}
use Rattle.reflect_core.specs.Base.{reply_base}
use Rattle.reflect_core.specs.Reflection.{plain_octets}
use Rattle.reflect_core.proofs.Modes.{read_ok, base_is}
use Rattle.reflect_core.proofs.reflecting.reflect_plain.Goals as goal

pub write_plain_to-requires-clause-sender : goal.write_plain_to-requires-clause-sender
unfolding reply_base
write_plain_to-requires-clause-sender c =
    let d = c.args.datagram.now in
    let input = d.octets.now in
    let sender : c.unwrap-sender.result ≡ sender_of input = read_ok input c.unwrap-sender.result c.requires.judged (sym c.read_plain.ensures.value ∙ c.unwrap-sender.ensures) in
    ap (λ (b : ReplyBase). b.sender) (base_is c.as_parts.result.now c.args.config.now c.args.draw.now d.meta.now c.unwrap-sender.result (sender_of input) c.reply_base-base.result c.reply_base-base.ensures c.as_parts.ensures.value sender)

pub returns-clause-octets : goal.returns-clause-octets
returns-clause-octets c =
    let config = c.args.config.now in
    let draw = c.args.draw.now in
    let d = c.args.datagram.now in
    let facts : Facts = record { n = draw.number; plan = c.args.plan.now } in
    let input = d.octets.now in
    let old = c.args.out.now in
    let base = c.reply_base-base.result in
    let out = c.write_plain_to.new.out in
    let sender : c.unwrap-sender.result ≡ sender_of input = read_ok input c.unwrap-sender.result c.requires.judged (sym c.read_plain.ensures.value ∙ c.unwrap-sender.ensures) in
    let is : base ≡ reply_base config draw d.meta.now (sender_of input) = base_is c.as_parts.result.now config draw d.meta.now c.unwrap-sender.result (sender_of input) base c.reply_base-base.ensures c.as_parts.ensures.value sender in
    let s1 : Has (plain_reply base) old out 44 = record { parts = c.write_plain_to.ensures; len = length_written (plain_reply base) old out 44 c.write_plain_to.ensures (omega arith) (omega arith) } in
    let s2 : Has (plain_octets config facts base input) old c.write_tail_after.new.out (length input) = has_put (plain_reply base) old out (tail_after 44 Plain config facts base.sequence input) c.write_tail_after.new.out 44 (length input) s1 c.write_tail_after.ensures.octets (omega arith) (omega arith) (omega arith) in
    s2.parts ∙ ap (λ (b : ReplyBase). plain_octets config facts b input ++ drop (length input) old) is
