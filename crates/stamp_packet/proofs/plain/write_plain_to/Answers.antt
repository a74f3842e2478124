use Rattle.std.proofs.Common.{◌≡◌, sym, ap, ◌∙◌, arith}
use Rattle.std.specs.Int.{w32, to_be_bytes, from_be_bytes}
use Rattle.octet_format.proofs.Fields.{field_32}
use Rattle.octet_format.specs.Octets.{field}
use Rattle.stamp_packet.specs.Plain.{sender_of}
use Rattle.stamp_packet.specs.declared.fields.SenderBase.{SenderBase}
use Rattle.stamp_packet.proofs.plain.write_plain_to.Goals as goal

pub write_fields-requires-clause-sequence : goal.write_fields-requires-clause-sequence
unfolding sender_of
write_fields-requires-clause-sequence c =
    let octets = c.args.request.now in
    let number : c.args.reply.now.sender.sequence ≡ from_be_bytes w32 (field 0 4 octets) = ap (λ (s : SenderBase). s.sequence) c.requires.sender in
    c.field4-sequence.ensures ∙ sym (ap (to_be_bytes w32) number ∙ field_32 0 octets (λ i. omega (arith, c.type_inv.request i)) (omega (arith, c.requires.long)))

pub write_fields-requires-clause-timestamp : goal.write_fields-requires-clause-timestamp
unfolding sender_of
write_fields-requires-clause-timestamp c = c.field8.ensures ∙ sym (ap (λ (s : SenderBase). s.timestamp) c.requires.sender)

pub write_fields-requires-clause-error : goal.write_fields-requires-clause-error
unfolding sender_of
write_fields-requires-clause-error c = c.field2.ensures ∙ sym (ap (λ (s : SenderBase). s.error) c.requires.sender)
