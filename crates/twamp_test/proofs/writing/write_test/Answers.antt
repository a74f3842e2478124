use Rattle.std.proofs.Common.{arith}
use Rattle.octet_format.proofs.Fields.{Has, has_put, length_written}
use Rattle.twamp_test.specs.Reply.{reply_padding, test_fields, test_reply}
use Rattle.twamp_test.proofs.writing.write_test.Goals as goal

pub returns-clause-octets : goal.returns-clause-octets
returns-clause-octets c =
    let x = c.args.extra.now in
    let r = c.args.reply.now in
    let input = c.args.input.now in
    let old = c.args.out.now in
    let s1 : Has (test_fields r) old c.write_fields.new.out 41 = record { parts = c.write_fields.ensures; len = length_written (test_fields r) old c.write_fields.new.out 41 c.write_fields.ensures (omega arith) (omega arith) } in
    let s2 : Has (test_reply x r input) old c.write_padding.new.out c.write_padding.result = has_put (test_fields r) old c.write_fields.new.out (reply_padding x input) c.write_padding.new.out 41 c.write_padding.result s1 c.write_padding.ensures.octets (omega arith) (omega (arith, c.write_padding.ensures.len)) (omega (arith, c.write_padding.ensures.limit)) in
    s2.parts
