use Rattle.std.proofs.Common.{◌≡◌, ℕ, List, [], ◌∷◌, ◌++◌, length, replicate, refl, sym, ap, ◌∙◌, arith}
use Rattle.std.specs.Int.{w32, to_be_bytes}
use Rattle.std.proofs.lemmas.List.{append-nil, length-append}
use Rattle.refl_types.specs.declared.config.ConfigParts.{ConfigParts}
use Rattle.refl_types.specs.Spelling.{config_flags, block_octets, config_octets}
use Rattle.octet_format.proofs.Fields.{Has, has_none, has_more}
use Rattle.session_octets.proofs.writing.config_octets.Goals as goal

pub returns-clause-value : goal.returns-clause-value
returns-clause-value c =
    let p : ConfigParts = c.as_parts-parts.result.now in
    let old : List ℕ = replicate 76 0 in
    let f1 : List ℕ = config_flags p ∷ p.offset ∷ p.scale ∷ p.multiplier ∷ [] in
    let f2 : List ℕ = p.info in
    let f3 : List ℕ = to_be_bytes w32 p.tlvs in
    let f4 : List ℕ = block_octets p.key in
    let s1 : Has f1 old c.put.new.out 4 = has_more [] old old f1 (c.config_flags.result ∷ p.offset ∷ p.scale ∷ p.multiplier ∷ []) c.put.new.out 0 4 4 (has_none old) (ap (λ (n : ℕ). n ∷ p.offset ∷ p.scale ∷ p.multiplier ∷ []) c.config_flags.ensures) c.put.ensures refl refl in
    let s2 : Has (f1 ++ f2) old c.put_info.new.out 8 = has_more f1 old c.put.new.out f2 f2 c.put_info.new.out 4 4 8 s1 refl c.put_info.ensures.octets c.put_info.ensures.len refl in
    let s3 : Has (f1 ++ f2 ++ f3) old c.put-2.new.out 12 = has_more (f1 ++ f2) old c.put_info.new.out f3 c.to_be_bytes.result c.put-2.new.out 8 4 12 s2 c.to_be_bytes.ensures c.put-2.ensures refl refl in
    let s4 : Has (f1 ++ f2 ++ f3 ++ f4) old c.put_block.new.out 76 = has_more (f1 ++ f2 ++ f3) old c.put-2.new.out f4 f4 c.put_block.new.out 12 64 76 s3 refl c.put_block.ensures.octets c.put_block.ensures.len refl in
    s4.parts ∙ append-nil (f1 ++ f2 ++ f3 ++ f4) ∙ ap config_octets c.as_parts-parts.ensures.value

pub returns-clause-len : goal.returns-clause-len
returns-clause-len c =
    let p : ConfigParts = c.as_parts-parts.result.now in
    let f1 : List ℕ = config_flags p ∷ p.offset ∷ p.scale ∷ p.multiplier ∷ [] in
    let f3 : List ℕ = to_be_bytes w32 p.tlvs in
    let l3 : length f3 ≡ 4 = refl in
    let sized : length (config_octets p) ≡ 76 = omega (arith, c.put_info.ensures.len, c.put_block.ensures.len, length-append f1 p.info, length-append (f1 ++ p.info) f3, length-append (f1 ++ p.info ++ f3) (block_octets p.key)) in
    sym (ap (λ (x : ConfigParts). length (config_octets x)) c.as_parts-parts.ensures.value) ∙ sized
