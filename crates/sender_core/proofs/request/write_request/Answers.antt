use Rattle.std.proofs.Common.{ℕ, List, [], ◌∷◌, ◌++◌, ◌≡◌, drop, refl, ap, ◌∙◌, arith}
use Rattle.std.specs.Prelude.{replicate}
use Rattle.std.specs.Int.{w16, w32, to_be_bytes}
use Rattle.std.proofs.lemmas.List.{append-nil, nil_from_length, length-drop}
use Rattle.stamp_packet.specs.Plain.{request_fields}
use Rattle.octet_format.proofs.Fields.{Has, has_none, has_more}
use Rattle.sender_core.specs.Reply.{ntp_timestamp}
use Rattle.sender_core.specs.Sending.{request_octets}
use Rattle.sender_core.proofs.request.write_request.Goals as goal

pub returns : goal.returns
unfolding request_octets request_fields
returns c =
    let old = c.args.out.now in
    let f1 : List ℕ = to_be_bytes w32 c.args.sequence in
    let f2 : List ℕ = ntp_timestamp c.args.now in
    let f3 : List ℕ = 0 ∷ 1 ∷ [] in
    let f4 : List ℕ = to_be_bytes w16 c.args.ssid in
    let f5 : List ℕ = replicate 28 0 in
    let s1 : Has f1 old c.put_array.new.out 4 = has_more [] old old f1 c.to_be_bytes.result c.put_array.new.out 0 4 4 (has_none old) c.to_be_bytes.ensures c.put_array.ensures refl refl in
    let s2 : Has (f1 ++ f2) old c.put_array-2.new.out 12 = has_more f1 old c.put_array.new.out f2 c.stamp.result c.put_array-2.new.out 4 8 12 s1 c.stamp.ensures c.put_array-2.ensures refl refl in
    let s3 : Has (f1 ++ f2 ++ f3) old c.put_array-3.new.out 14 = has_more (f1 ++ f2) old c.put_array-2.new.out f3 f3 c.put_array-3.new.out 12 2 14 s2 refl c.put_array-3.ensures refl refl in
    let s4 : Has (f1 ++ f2 ++ f3 ++ f4) old c.put_array-4.new.out 16 = has_more (f1 ++ f2 ++ f3) old c.put_array-3.new.out f4 c.to_be_bytes-2.result c.put_array-4.new.out 14 2 16 s3 c.to_be_bytes-2.ensures c.put_array-4.ensures refl refl in
    let s5 : Has (f1 ++ f2 ++ f3 ++ f4 ++ f5) old c.put_array-5.new.out 44 = has_more (f1 ++ f2 ++ f3 ++ f4) old c.put_array-4.new.out f5 f5 c.put_array-5.new.out 16 28 44 s4 refl c.put_array-5.ensures refl refl in
    let none : drop 44 old ≡ [] = nil_from_length (drop 44 old) (omega (arith, length-drop 44 old)) in
    s5.parts ∙ ap (λ (l : List ℕ). f1 ++ f2 ++ f3 ++ f4 ++ f5 ++ l) none ∙ append-nil (f1 ++ f2 ++ f3 ++ f4 ++ f5)
