use Rattle.std.proofs.Common.{◌≡◌, ◌∙◌, sym, ap}
use Rattle.stamp_packet.specs.declared.fields.ReplyBase.{ReplyBase}
use Rattle.twamp_test.specs.Request.{test_sender_of}
use Rattle.reflect_core.specs.Base.{reply_base}
use Rattle.reflect_core.proofs.Modes.{test_read_ok, base_is}
use Rattle.reflect_core.proofs.reflecting.reflect_test.Goals as goal

pub write_test_to-requires-clause-sender : goal.write_test_to-requires-clause-sender
unfolding reply_base
write_test_to-requires-clause-sender c =
    let d = c.args.datagram.now in
    let input = d.octets.now in
    let sender : c.unwrap-sender.result ≡ test_sender_of input = test_read_ok input c.unwrap-sender.result c.requires.judged (sym c.read_test.ensures.value ∙ c.unwrap-sender.ensures) in
    ap (λ (b : ReplyBase). b.sender) (base_is c.as_parts.result.now c.args.config.now c.args.draw.now d.meta.now c.unwrap-sender.result (test_sender_of input) c.reply_base-base.result c.reply_base-base.ensures c.as_parts.ensures.value sender)
