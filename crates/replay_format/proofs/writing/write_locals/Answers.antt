use Rattle.std.proofs.Common.{◌≡◌, ℕ, ◌+◌, ◌*◌, List, [], ◌∷◌, ◌++◌, length, take, drop, refl, sym, ap, ◌∙◌, append_assoc, arith}
use Rattle.std.specs.Int.{w32, to_be_bytes}
use Rattle.std.specs.List.{flat_map}
use Rattle.refl_types.specs.Spelling.{endpoint_octets}
use Rattle.octet_format.proofs.Fields.{Has, has_none, has_more}
use Rattle.replay_format.specs.Records.{locals_octets}
use Rattle.replay_format.proofs.writing.write_locals.Goals as goal

pub returns-clause-octets : goal.returns-clause-octets
returns-clause-octets c =
    let ls = c.args.locals.now in
    let n = length ls in
    let old = c.args.out.now in
    let f1 : List ℕ = 5 ∷ [] in
    let f2 : List ℕ = to_be_bytes w32 (1 + 19 * n) in
    let f3 : List ℕ = n ∷ [] in
    let f4 : List ℕ = flat_map endpoint_octets ls in
    let l4 = c.put_locals.ensures.len in
    let s1 : Has f1 old c.put.new.out 1 = has_more [] old old f1 f1 c.put.new.out 0 1 1 (has_none old) refl c.put.ensures refl refl in
    let s2 : Has (f1 ++ f2) old c.put-2.new.out 5 = has_more f1 old c.put.new.out f2 c.to_be_bytes.result c.put-2.new.out 1 4 5 s1 c.to_be_bytes.ensures c.put-2.ensures refl refl in
    let s3 : Has (f1 ++ f2 ++ f3) old c.put-3.new.out 6 = has_more (f1 ++ f2) old c.put-2.new.out f3 f3 c.put-3.new.out 5 1 6 s2 refl c.put-3.ensures refl refl in
    let behind : c.put_locals.new.out ≡ take 6 c.put-3.new.out ++ f4 ++ drop (6 + length f4) c.put-3.new.out = c.put_locals.ensures.octets ∙ ap (λ (m : ℕ). take 6 c.put-3.new.out ++ f4 ++ drop (6 + m) c.put-3.new.out) (sym l4) in
    let s4 : Has (f1 ++ f2 ++ f3 ++ f4) old c.put_locals.new.out (6 + 19 * n) = has_more (f1 ++ f2 ++ f3) old c.put-3.new.out f4 f4 c.put_locals.new.out 6 (19 * n) (6 + 19 * n) s3 refl behind l4 refl in
    let size : length (locals_octets ls) ≡ 1 + 19 * n = omega (arith, l4) in
    s4.parts ∙ ap (λ (l : List ℕ). l ++ drop (6 + 19 * n) old) (append_assoc (f1 ++ f2) f3 f4 ∙ append_assoc f1 f2 (f3 ++ f4) ∙ ap (λ (m : ℕ). 5 ∷ (to_be_bytes w32 m ++ locals_octets ls)) (sym size))
