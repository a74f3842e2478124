use Rattle.std.proofs.Common.{◌≡◌, take, arith, ℕ, List, [], ◌∷◌, ◌++◌, ◌+◌, length, drop, refl, sym, ap, ◌∙◌}
use Rattle.std.specs.Int.{w16, w32, to_be_bytes}
use Rattle.refl_types.specs.Spelling.{family, address_octets}
use Rattle.std.proofs.lemmas.List.{length-take, length-drop}
use Rattle.octet_format.proofs.Fields.{Has, has_none, has_more}
use Rattle.replay_format.specs.Answers.{Sending}
use Rattle.replay_format.proofs.AnswerFacts.{sent_in_parts, sent_length, framed_rest}
use Rattle.replay_format.proofs.answer.frame_reply.Goals as goal

pub returns-clause-octets : goal.returns-clause-octets
returns-clause-octets c =
    let s : Sending = record { from = c.args.from; to = c.args.to.now; number = c.args.number; octets = take c.args.len (drop 31 c.args.out.now) } in
    let old = c.args.out.now in
    let sized : length (take c.args.len (drop 31 old)) ≡ c.args.len = omega (arith, length-take c.args.len (drop 31 old), length-drop 31 old, c.requires.room) in
    let f1 : List ℕ = 132 ∷ [] in
    let f2 : List ℕ = to_be_bytes w32 (26 + length s.octets) in
    let e2 : c.to_be_bytes.result ≡ f2 = c.to_be_bytes.ensures ∙ ap (λ (n : ℕ). to_be_bytes w32 (26 + n)) (sym sized) in
    let f3 : List ℕ = 0 ∷ [] in
    let f4 : List ℕ = to_be_bytes w16 s.from in
    let f5 : List ℕ = family s.to.address ∷ [] in
    let f6 : List ℕ = address_octets s.to.address in
    let f7 : List ℕ = to_be_bytes w16 s.to.port in
    let f8 : List ℕ = to_be_bytes w32 s.number in
    let l6 = c.octets.ensures.len in
    let s1 : Has f1 old c.put.new.out 1 = has_more [] old old f1 f1 c.put.new.out 0 1 1 (has_none old) refl c.put.ensures refl refl in
    let s2 : Has (f1 ++ f2) old c.put-2.new.out 5 = has_more f1 old c.put.new.out f2 c.to_be_bytes.result c.put-2.new.out 1 4 5 s1 e2 c.put-2.ensures refl refl in
    let s3 : Has (f1 ++ f2 ++ f3) old c.put-3.new.out 6 = has_more (f1 ++ f2) old c.put-2.new.out f3 f3 c.put-3.new.out 5 1 6 s2 refl c.put-3.ensures refl refl in
    let s4 : Has (f1 ++ f2 ++ f3 ++ f4) old c.put-4.new.out 8 = has_more (f1 ++ f2 ++ f3) old c.put-3.new.out f4 c.to_be_bytes-2.result c.put-4.new.out 6 2 8 s3 c.to_be_bytes-2.ensures c.put-4.ensures refl refl in
    let s5 : Has (f1 ++ f2 ++ f3 ++ f4 ++ f5) old c.put-5.new.out 9 = has_more (f1 ++ f2 ++ f3 ++ f4) old c.put-4.new.out f5 (c.family.result ∷ []) c.put-5.new.out 8 1 9 s4 (ap (λ (n : ℕ). n ∷ []) c.family.ensures) c.put-5.ensures refl refl in
    let s6 : Has (f1 ++ f2 ++ f3 ++ f4 ++ f5 ++ f6) old c.put-6.new.out 25 = has_more (f1 ++ f2 ++ f3 ++ f4 ++ f5) old c.put-5.new.out f6 c.octets.result c.put-6.new.out 9 16 25 s5 c.octets.ensures.value c.put-6.ensures l6 refl in
    let s7 : Has (f1 ++ f2 ++ f3 ++ f4 ++ f5 ++ f6 ++ f7) old c.put-7.new.out 27 = has_more (f1 ++ f2 ++ f3 ++ f4 ++ f5 ++ f6) old c.put-6.new.out f7 c.to_be_bytes-3.result c.put-7.new.out 25 2 27 s6 c.to_be_bytes-3.ensures c.put-7.ensures refl refl in
    let s8 : Has (f1 ++ f2 ++ f3 ++ f4 ++ f5 ++ f6 ++ f7 ++ f8) old c.put-8.new.out 31 = has_more (f1 ++ f2 ++ f3 ++ f4 ++ f5 ++ f6 ++ f7) old c.put-7.new.out f8 c.to_be_bytes-4.result c.put-8.new.out 27 4 31 s7 c.to_be_bytes-4.ensures c.put-8.ensures refl refl in
    s8.parts ∙ framed_rest (f1 ++ f2 ++ f3 ++ f4 ++ f5 ++ f6 ++ f7 ++ f8) s c.args.len old sized refl ∙ ap (λ (l : List ℕ). l ++ drop (31 + c.args.len) old) (sym (sent_in_parts s c.octets.ensures.len))

pub returns-clause-len : goal.returns-clause-len
returns-clause-len c = λ octets. sent_length (record { from = c.args.from; to = c.args.to.now; number = c.args.number; octets = octets }) c.octets.ensures.len
