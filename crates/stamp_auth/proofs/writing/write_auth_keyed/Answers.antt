use Rattle.std.proofs.Common.{◌≡◌, take, drop, length, ap, ◌∙◌, sym, arith, refl}
use Rattle.std.proofs.lemmas.List.{append-nil, take_at}
use Rattle.octet_format.proofs.Fields.{Has, has_more, length_written}
use Rattle.hmac_sha256.specs.Hmac.{mac128_of}
use Rattle.stamp_auth.specs.Reply.{auth_fields, auth_reply}
use Rattle.stamp_auth.proofs.writing.write_auth_keyed.Goals as goal

pub returns : goal.returns
returns c =
    let r = c.args.reply.now in
    let old = c.args.out.now in
    let block = c.args.key.now in
    let len : length (auth_fields r) ≡ 96 = length_written (auth_fields r) old c.write_fields.new.out 96 c.write_fields.ensures (omega arith) (omega arith) in
    let mac : c.mac128-mac.result ≡ mac128_of block (auth_fields r) =
    c.mac128-mac.ensures
    ∙ ap (mac128_of block) (append-nil c.split_at.result.0.now ∙ c.split_at.ensures.front ∙ ap (take 96) c.write_fields.ensures ∙ take_at (auth_fields r) (drop 96 old) 96 len) in
    let mac_len : length c.mac128-mac.result ≡ 16 = omega arith in
    let s1 : Has (auth_fields r) old c.write_fields.new.out 96 = record { parts = c.write_fields.ensures; len = len } in
    let s2 : Has (auth_reply block r) old c.put.new.out 112 = has_more (auth_fields r) old c.write_fields.new.out (mac128_of block (auth_fields r)) c.mac128-mac.result c.put.new.out 96 16 112 s1 mac c.put.ensures (sym (ap length mac) ∙ mac_len) refl in
    s2.parts
