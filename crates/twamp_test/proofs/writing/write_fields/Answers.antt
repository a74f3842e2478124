use Rattle.std.proofs.Common.{ℕ, List, [], ◌∷◌, ◌++◌, ◌≡◌, length, sym, ap, ◌∙◌, arith, refl}
use Rattle.std.specs.Int.{w32, to_be_bytes}
use Rattle.octet_format.proofs.Fields.{Has, has_none, has_more}
use Rattle.twamp_test.specs.Reply.{test_fields}
use Rattle.twamp_test.proofs.writing.write_fields.Goals as goal

pub returns : goal.returns
unfolding test_fields
returns c =
    let r = c.args.reply.now in
    let old = c.args.out.now in
    let lt : length r.timestamp ≡ 8 = omega arith in
    let le : length r.error ≡ 2 = omega arith in
    let lr : length r.received ≡ 8 = omega arith in
    let given : length c.args.timestamp ≡ 8 = omega arith in
    let lst : length r.sender.timestamp ≡ 8 = sym (ap length c.requires.timestamp) ∙ given in
    let given_error : length c.args.error ≡ 2 = omega arith in
    let lse : length r.sender.error ≡ 2 = sym (ap length c.requires.error) ∙ given_error in
    let f1 : List ℕ = to_be_bytes w32 r.sequence in
    let z2 : List ℕ = 0 ∷ 0 ∷ [] in
    let f6 : List ℕ = to_be_bytes w32 r.sender.sequence in
    let f9 : List ℕ = 0 ∷ 0 ∷ r.ttl ∷ [] in
    let s1 : Has (f1) old c.put_array.new.out 4 = has_more [] old old f1 c.to_be_bytes.result c.put_array.new.out 0 4 4 (has_none old) c.to_be_bytes.ensures c.put_array.ensures refl refl in
    let s2 : Has (f1 ++ r.timestamp) old c.put_array-2.new.out 12 = has_more f1 old c.put_array.new.out r.timestamp r.timestamp c.put_array-2.new.out 4 8 12 s1 refl c.put_array-2.ensures lt refl in
    let s3 : Has (f1 ++ r.timestamp ++ r.error) old c.put_array-3.new.out 14 = has_more (f1 ++ r.timestamp) old c.put_array-2.new.out r.error r.error c.put_array-3.new.out 12 2 14 s2 refl c.put_array-3.ensures le refl in
    let s4 : Has (f1 ++ r.timestamp ++ r.error ++ z2) old c.put_array-4.new.out 16 = has_more (f1 ++ r.timestamp ++ r.error) old c.put_array-3.new.out z2 z2 c.put_array-4.new.out 14 2 16 s3 refl c.put_array-4.ensures refl refl in
    let s5 : Has (f1 ++ r.timestamp ++ r.error ++ z2 ++ r.received) old c.put_array-5.new.out 24 = has_more (f1 ++ r.timestamp ++ r.error ++ z2) old c.put_array-4.new.out r.received r.received c.put_array-5.new.out 16 8 24 s4 refl c.put_array-5.ensures lr refl in
    let s6 : Has (f1 ++ r.timestamp ++ r.error ++ z2 ++ r.received ++ f6) old c.put_array-6.new.out 28 = has_more (f1 ++ r.timestamp ++ r.error ++ z2 ++ r.received) old c.put_array-5.new.out f6 c.args.sequence c.put_array-6.new.out 24 4 28 s5 c.requires.sequence c.put_array-6.ensures refl refl in
    let s7 : Has (f1 ++ r.timestamp ++ r.error ++ z2 ++ r.received ++ f6 ++ r.sender.timestamp) old c.put_array-7.new.out 36 = has_more (f1 ++ r.timestamp ++ r.error ++ z2 ++ r.received ++ f6) old c.put_array-6.new.out r.sender.timestamp c.args.timestamp c.put_array-7.new.out 28 8 36 s6 c.requires.timestamp c.put_array-7.ensures lst refl in
    let s8 : Has (f1 ++ r.timestamp ++ r.error ++ z2 ++ r.received ++ f6 ++ r.sender.timestamp ++ r.sender.error) old c.put_array-8.new.out 38 = has_more (f1 ++ r.timestamp ++ r.error ++ z2 ++ r.received ++ f6 ++ r.sender.timestamp) old c.put_array-7.new.out r.sender.error c.args.error c.put_array-8.new.out 36 2 38 s7 c.requires.error c.put_array-8.ensures lse refl in
    let s9 : Has (f1 ++ r.timestamp ++ r.error ++ z2 ++ r.received ++ f6 ++ r.sender.timestamp ++ r.sender.error ++ f9) old c.put_array-9.new.out 41 = has_more (f1 ++ r.timestamp ++ r.error ++ z2 ++ r.received ++ f6 ++ r.sender.timestamp ++ r.sender.error) old c.put_array-8.new.out f9 f9 c.put_array-9.new.out 38 3 41 s8 refl c.put_array-9.ensures refl refl in
    s9.parts
