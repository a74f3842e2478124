use Rattle.std.proofs.Common.{◌≡◌, ℕ, ◌+◌, List, [], ◌∷◌, ◌++◌, length, drop, refl, sym, ap, ◌∙◌, arith}
use Rattle.std.specs.Int.{w16, w32, w64, to_be_bytes}
use Rattle.std.proofs.lemmas.List.{length-append}
use Rattle.refl_types.specs.Spelling.{endpoint_octets}
use Rattle.octet_format.proofs.Fields.{Has, has_none, has_more}
use Rattle.replay_format.specs.Records.{Datagram, datagram_of, datagram_octets, ttl_octets}
use Rattle.replay_format.proofs.Formats.{ttl_octets_length}
use Rattle.replay_format.proofs.WritingFacts.{regrouped_datagram}
use Rattle.replay_format.proofs.writing.write_datagram.Goals as goal

pub returns-clause-octets : goal.returns-clause-octets
returns-clause-octets c =
    let d : Datagram = datagram_of c.args.meta.now c.args.t3 c.args.octets.now in
    let old = c.args.out.now in
    let f1 : List ℕ = 4 ∷ [] in
    let f2 : List ℕ = to_be_bytes w32 (39 + length d.octets) in
    let f3 : List ℕ = to_be_bytes w16 d.local in
    let f4 : List ℕ = endpoint_octets d.peer in
    let f5 : List ℕ = ttl_octets d.ttl in
    let f6 : List ℕ = to_be_bytes w64 d.arrival in
    let f7 : List ℕ = to_be_bytes w64 d.t3 in
    let f8 : List ℕ = d.octets in
    let l4 = c.endpoint_octets.ensures.len in
    let l5 : length f5 ≡ 2 = ttl_octets_length d.ttl in
    let s1 : Has f1 old c.put.new.out 1 = has_more [] old old f1 f1 c.put.new.out 0 1 1 (has_none old) refl c.put.ensures refl refl in
    let s2 : Has (f1 ++ f2) old c.put-2.new.out 5 = has_more f1 old c.put.new.out f2 c.to_be_bytes.result c.put-2.new.out 1 4 5 s1 c.to_be_bytes.ensures c.put-2.ensures refl refl in
    let s3 : Has (f1 ++ f2 ++ f3) old c.put-3.new.out 7 = has_more (f1 ++ f2) old c.put-2.new.out f3 c.to_be_bytes-2.result c.put-3.new.out 5 2 7 s2 c.to_be_bytes-2.ensures c.put-3.ensures refl refl in
    let s4 : Has (f1 ++ f2 ++ f3 ++ f4) old c.put-4.new.out 26 = has_more (f1 ++ f2 ++ f3) old c.put-3.new.out f4 c.endpoint_octets.result c.put-4.new.out 7 19 26 s3 c.endpoint_octets.ensures.value c.put-4.ensures l4 refl in
    let s5 : Has (f1 ++ f2 ++ f3 ++ f4 ++ f5) old c.put-5.new.out 28 = has_more (f1 ++ f2 ++ f3 ++ f4) old c.put-4.new.out f5 c.ttl_octets.result c.put-5.new.out 26 2 28 s4 c.ttl_octets.ensures c.put-5.ensures l5 refl in
    let s6 : Has (f1 ++ f2 ++ f3 ++ f4 ++ f5 ++ f6) old c.put-6.new.out 36 = has_more (f1 ++ f2 ++ f3 ++ f4 ++ f5) old c.put-5.new.out f6 c.to_be_bytes-3.result c.put-6.new.out 28 8 36 s5 c.to_be_bytes-3.ensures c.put-6.ensures refl refl in
    let s7 : Has (f1 ++ f2 ++ f3 ++ f4 ++ f5 ++ f6 ++ f7) old c.put-7.new.out 44 = has_more (f1 ++ f2 ++ f3 ++ f4 ++ f5 ++ f6) old c.put-6.new.out f7 c.to_be_bytes-4.result c.put-7.new.out 36 8 44 s6 c.to_be_bytes-4.ensures c.put-7.ensures refl refl in
    let s8 : Has (f1 ++ f2 ++ f3 ++ f4 ++ f5 ++ f6 ++ f7 ++ f8) old c.put-8.new.out (44 + length f8) = has_more (f1 ++ f2 ++ f3 ++ f4 ++ f5 ++ f6 ++ f7) old c.put-7.new.out f8 f8 c.put-8.new.out 44 (length f8) (44 + length f8) s7 refl c.put-8.ensures refl refl in
    let l3 : length f3 ≡ 2 = refl in
    let l6 : length f6 ≡ 8 = refl in
    let l7 : length f7 ≡ 8 = refl in
    let size : length (datagram_octets d) ≡ 39 + length f8 = omega (arith, l4, l5, length-append f3 f4, length-append (f3 ++ f4) f5, length-append (f3 ++ f4 ++ f5) f6, length-append (f3 ++ f4 ++ f5 ++ f6) f7, length-append (f3 ++ f4 ++ f5 ++ f6 ++ f7) f8) in
    s8.parts ∙ ap (λ (l : List ℕ). l ++ drop (44 + length f8) old) (regrouped_datagram f1 f2 f3 f4 f5 f6 f7 f8 ∙ ap (λ (n : ℕ). 4 ∷ (to_be_bytes w32 n ++ datagram_octets d)) (sym size))
