use Rattle.std.proofs.Common.{◌≡◌, ℕ, List, [], ◌∷◌, ◌++◌, length, drop, refl, sym, ap, ◌∙◌, arith}
use Rattle.std.specs.Int.{w32, to_be_bytes}
use Rattle.std.proofs.lemmas.List.{length-append}
use Rattle.refl_types.specs.Spelling.{key_octets, extra_octets, config_octets}
use Rattle.octet_format.proofs.Fields.{Has, has_none, has_more}
use Rattle.replay_format.specs.Records.{Opening, opening_octets}
use Rattle.replay_format.proofs.WritingFacts.{regrouped_open}
use Rattle.replay_format.proofs.writing.write_open.Goals as goal

pub returns-clause-octets : goal.returns-clause-octets
returns-clause-octets c =
    let o : Opening = record { key = c.args.key.now; extra = c.args.extra.now; config = c.args.config.now } in
    let old = c.args.out.now in
    let f1 : List ℕ = 1 ∷ 0 ∷ 0 ∷ 0 ∷ 103 ∷ [] in
    let f2 : List ℕ = key_octets o.key in
    let f3 : List ℕ = extra_octets o.extra in
    let f4 : List ℕ = config_octets o.config in
    let l2 = c.key_octets.ensures.len in
    let l3 = c.extra_octets.ensures.len in
    let l4 = c.config_octets.ensures.len in
    let s1 : Has f1 old c.put.new.out 5 = has_more [] old old f1 f1 c.put.new.out 0 5 5 (has_none old) refl c.put.ensures refl refl in
    let s2 : Has (f1 ++ f2) old c.put-2.new.out 29 = has_more f1 old c.put.new.out f2 c.key_octets.result c.put-2.new.out 5 24 29 s1 c.key_octets.ensures.value c.put-2.ensures l2 refl in
    let s3 : Has (f1 ++ f2 ++ f3) old c.put-3.new.out 32 = has_more (f1 ++ f2) old c.put-2.new.out f3 c.extra_octets.result c.put-3.new.out 29 3 32 s2 c.extra_octets.ensures.value c.put-3.ensures l3 refl in
    let s4 : Has (f1 ++ f2 ++ f3 ++ f4) old c.put-4.new.out 108 = has_more (f1 ++ f2 ++ f3) old c.put-3.new.out f4 c.config_octets.result c.put-4.new.out 32 76 108 s3 c.config_octets.ensures.value c.put-4.ensures l4 refl in
    let size : length (opening_octets o) ≡ 103 = omega (arith, l2, l3, l4, length-append (f2 ++ f3) f4, length-append f2 f3) in
    s4.parts ∙ ap (λ (l : List ℕ). l ++ drop 108 old) (regrouped_open (1 ∷ []) (0 ∷ 0 ∷ 0 ∷ 103 ∷ []) f2 f3 f4 ∙ ap (λ (n : ℕ). 1 ∷ (to_be_bytes w32 n ++ opening_octets o)) (sym size))
