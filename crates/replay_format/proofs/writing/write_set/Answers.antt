use Rattle.std.proofs.Common.{◌≡◌, ℕ, List, [], ◌∷◌, ◌++◌, length, drop, refl, sym, ap, ◌∙◌, append_assoc, arith}
use Rattle.std.specs.Int.{w32, to_be_bytes}
use Rattle.std.proofs.lemmas.List.{length-append}
use Rattle.refl_types.specs.Spelling.{key_octets, config_octets}
use Rattle.octet_format.proofs.Fields.{Has, has_none, has_more}
use Rattle.replay_format.specs.Records.{Setting, setting_octets}
use Rattle.replay_format.proofs.writing.write_set.Goals as goal

pub returns-clause-octets : goal.returns-clause-octets
returns-clause-octets c =
    let s : Setting = record { key = c.args.key.now; config = c.args.config.now } in
    let old = c.args.out.now in
    let f1 : List ℕ = 2 ∷ 0 ∷ 0 ∷ 0 ∷ 100 ∷ [] in
    let f2 : List ℕ = key_octets s.key in
    let f3 : List ℕ = config_octets s.config in
    let l2 = c.key_octets.ensures.len in
    let l3 = c.config_octets.ensures.len in
    let s1 : Has f1 old c.put.new.out 5 = has_more [] old old f1 f1 c.put.new.out 0 5 5 (has_none old) refl c.put.ensures refl refl in
    let s2 : Has (f1 ++ f2) old c.put-2.new.out 29 = has_more f1 old c.put.new.out f2 c.key_octets.result c.put-2.new.out 5 24 29 s1 c.key_octets.ensures.value c.put-2.ensures l2 refl in
    let s3 : Has (f1 ++ f2 ++ f3) old c.put-3.new.out 105 = has_more (f1 ++ f2) old c.put-2.new.out f3 c.config_octets.result c.put-3.new.out 29 76 105 s2 c.config_octets.ensures.value c.put-3.ensures l3 refl in
    let size : length (setting_octets s) ≡ 100 = omega (arith, l2, l3, length-append f2 f3) in
    s3.parts ∙ ap (λ (l : List ℕ). l ++ drop 105 old) (append_assoc f1 f2 f3 ∙ ap (λ (n : ℕ). 2 ∷ (to_be_bytes w32 n ++ setting_octets s)) (sym size))
