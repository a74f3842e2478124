use Rattle.std.proofs.Common.{◌≡◌, ◌++◌, ◌∙◌, ℕ, List, length, drop, sym, ap, arith}
use Rattle.octet_format.proofs.Fields.{Has, has_put, length_written}
use Rattle.refl_types.specs.declared.types.Mode.TheVariants.{Auth}
use Rattle.refl_types.specs.Spelling.{block_octets}
use Rattle.stamp_packet.specs.declared.fields.ReplyBase.{ReplyBase}
use Rattle.stamp_auth.specs.Request.{auth_sender_of}
use Rattle.stamp_auth.specs.Reply.{auth_reply}
use Rattle.tlv_actions.specs.Rows.{Facts}
use Rattle.reflect_core.specs.Tail.{tail_after}
use Rattle.reflect_core.specs.Base.{reply_base}
use Rattle.reflect_core.specs.Reflection.{auth_octets}
use Rattle.reflect_core.proofs.Modes.{base_is, block_is}
use Rattle.reflect_core.proofs.reflecting.reflect_auth.Goals as goal

pub returns-clause-octets : goal.returns-clause-octets
returns-clause-octets c =
    let config = c.args.config.now in
    let draw = c.args.draw.now in
    let d = c.args.datagram.now in
    let input = d.octets.now in
    let facts : Facts = record { n = draw.number; plan = c.args.plan.now } in
    let old = c.args.out.now in
    let base = c.reply_base-base.result in
    let out = c.write_auth_keyed.new.out in
    let block : c.in-Some.key ≡ block_octets config.key = block_is config.key c.in-Some.key (sym c.hmac_key.ensures ∙ c.in-Some.is) in
    let written : out ≡ auth_reply (block_octets config.key) base ++ drop 112 old = c.write_auth_keyed.ensures ∙ ap (λ (b : List ℕ). auth_reply b base ++ drop 112 old) block in
    let is : base ≡ reply_base config draw d.meta.now (auth_sender_of input) = base_is c.as_parts.result.now config draw d.meta.now c.auth_sender-sender.result (auth_sender_of input) base c.reply_base-base.ensures c.as_parts.ensures.value c.auth_sender-sender.ensures in
    let s1 : Has (auth_reply (block_octets config.key) base) old out 112 = record { parts = written; len = length_written (auth_reply (block_octets config.key) base) old out 112 written (omega arith) (omega arith) } in
    let s2 : Has (auth_octets config facts base input) old c.write_tail_after.new.out (length input) = has_put (auth_reply (block_octets config.key) base) old out (tail_after 112 Auth config facts base.sequence input) c.write_tail_after.new.out 112 (length input) s1 c.write_tail_after.ensures.octets (omega arith) (omega arith) (omega arith) in
    s2.parts ∙ ap (λ (b : ReplyBase). auth_octets config facts b input ++ drop (length input) old) is
