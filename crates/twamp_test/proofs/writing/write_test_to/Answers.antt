use Rattle.std.proofs.Common.{◌≡◌, sym, ap, ◌∙◌, arith}
use Rattle.std.specs.Int.{w32, to_be_bytes, from_be_bytes}
use Rattle.octet_format.specs.Octets.{field}
use Rattle.octet_format.proofs.Fields.{Has, has_put, length_written, field_32}
use Rattle.stamp_packet.specs.declared.fields.SenderBase.{SenderBase}
use Rattle.twamp_test.specs.Request.{test_sender_of}
use Rattle.twamp_test.specs.Reply.{reply_padding, test_fields, test_reply}
use Rattle.twamp_test.proofs.writing.write_test_to.Goals as goal

pub returns-clause-octets : goal.returns-clause-octets
returns-clause-octets c =
    let x = c.args.extra.now in
    let r = c.args.reply.now in
    let input = c.args.input.now in
    let old = c.args.out.now in
    let s1 : Has (test_fields r) old c.write_fields.new.out 41 = record { parts = c.write_fields.ensures; len = length_written (test_fields r) old c.write_fields.new.out 41 c.write_fields.ensures (omega arith) (omega arith) } in
    let s2 : Has (test_reply x r input) old c.write_padding.new.out c.write_padding.result = has_put (test_fields r) old c.write_fields.new.out (reply_padding x input) c.write_padding.new.out 41 c.write_padding.result s1 c.write_padding.ensures.octets (omega arith) (omega (arith, c.write_padding.ensures.len)) (omega (arith, c.write_padding.ensures.limit)) in
    s2.parts

pub write_fields-requires-clause-sequence : goal.write_fields-requires-clause-sequence
unfolding test_sender_of
write_fields-requires-clause-sequence c =
    let octets = c.args.input.now in
    let number : c.args.reply.now.sender.sequence ≡ from_be_bytes w32 (field 0 4 octets) = ap (λ (s : SenderBase). s.sequence) c.requires.sender in
    c.field4-sequence.ensures ∙ sym (ap (to_be_bytes w32) number ∙ field_32 0 octets (λ i. omega (arith, c.type_inv.input i)) (omega (arith, c.requires.read)))

pub write_fields-requires-clause-timestamp : goal.write_fields-requires-clause-timestamp
unfolding test_sender_of
write_fields-requires-clause-timestamp c = c.field8.ensures ∙ sym (ap (λ (s : SenderBase). s.timestamp) c.requires.sender)

pub write_fields-requires-clause-error : goal.write_fields-requires-clause-error
unfolding test_sender_of
write_fields-requires-clause-error c = c.field2.ensures ∙ sym (ap (λ (s : SenderBase). s.error) c.requires.sender)
