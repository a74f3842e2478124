use Rattle.std.proofs.Common.{ℕ, ◌+◌, List, [], ◌∷◌, ◌++◌, take, replicate, refl, ap, ◌∙◌, arith}
use Rattle.std.specs.Int.{w16, w32, to_be_bytes}
use Rattle.std.proofs.lemmas.List.{take-replicate}
use Rattle.octet_format.proofs.Fields.{Has, has_none, has_more, has_same}
use Rattle.load_gen.specs.Generator.{base_packet, padding}
use Rattle.load_gen.proofs.RecordFacts.{take_behind}
use Rattle.load_gen.proofs.request.padded_request.Goals as goal

pub returns : goal.returns
unfolding base_packet padding
returns c =
    let old : List ℕ = replicate 111 0 in
    let f1 : List ℕ = to_be_bytes w32 c.args.sequence in
    let f2 : List ℕ = to_be_bytes w16 1 in
    let f3 : List ℕ = to_be_bytes w16 c.args.ssid in
    let f4 : List ℕ = 128 ∷ 1 ∷ [] in
    let f5 : List ℕ = to_be_bytes w16 c.args.len in
    let z8 : List ℕ = replicate 8 0 in
    let z28 : List ℕ = replicate 28 0 in
    let s1 : Has f1 old c.put.new.out 4 = has_more [] old old f1 c.to_be_bytes.result c.put.new.out 0 4 4 (has_none old) c.to_be_bytes.ensures c.put.ensures refl refl in
    let t1 : Has (f1 ++ z8) old c.put.new.out 12 = has_same f1 old c.put.new.out 4 8 12 s1 refl (omega arith) in
    let s2 : Has (f1 ++ z8 ++ f2) old c.put-2.new.out 14 = has_more (f1 ++ z8) old c.put.new.out f2 c.to_be_bytes-2.result c.put-2.new.out 12 2 14 t1 c.to_be_bytes-2.ensures c.put-2.ensures refl refl in
    let s3 : Has (f1 ++ z8 ++ f2 ++ f3) old c.put-3.new.out 16 = has_more (f1 ++ z8 ++ f2) old c.put-2.new.out f3 c.to_be_bytes-3.result c.put-3.new.out 14 2 16 s2 c.to_be_bytes-3.ensures c.put-3.ensures refl refl in
    let t3 : Has (f1 ++ z8 ++ f2 ++ f3 ++ z28) old c.put-3.new.out 44 = has_same (f1 ++ z8 ++ f2 ++ f3) old c.put-3.new.out 16 28 44 s3 refl (omega arith) in
    let s4 : Has (f1 ++ z8 ++ f2 ++ f3 ++ z28 ++ f4) old c.put-4.new.out 46 = has_more (f1 ++ z8 ++ f2 ++ f3 ++ z28) old c.put-3.new.out f4 f4 c.put-4.new.out 44 2 46 t3 refl c.put-4.ensures refl refl in
    let front : List ℕ = f1 ++ z8 ++ f2 ++ f3 ++ z28 ++ f4 ++ f5 in
    let s5 : Has front old c.put-5.new.out 48 = has_more (f1 ++ z8 ++ f2 ++ f3 ++ z28 ++ f4) old c.put-4.new.out f5 c.to_be_bytes-4.result c.put-5.new.out 46 2 48 s4 c.to_be_bytes-4.ensures c.put-5.ensures refl refl in
    ap (take (48 + c.args.len)) s5.parts ∙ take_behind front (replicate 63 0) 48 c.args.len refl ∙ ap (λ (l : List ℕ). front ++ l) (take-replicate c.args.len 63 0 (omega (arith, c.requires)))
