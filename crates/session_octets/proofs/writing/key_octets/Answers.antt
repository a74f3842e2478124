use Rattle.std.proofs.Common.{ℕ, List, [], ◌∷◌, ◌++◌, replicate, refl, ap, ◌∙◌, append_assoc}
use Rattle.std.specs.Int.{w16, to_be_bytes}
use Rattle.std.proofs.lemmas.List.{append-nil}
use Rattle.refl_types.specs.declared.types.Key.{Key}
use Rattle.refl_types.specs.Spelling.{endpoint_octets, mode_code}
use Rattle.octet_format.proofs.Fields.{Has, has_none, has_more}
use Rattle.session_octets.proofs.writing.key_octets.Goals as goal

pub returns-clause-value : goal.returns-clause-value
returns-clause-value c =
    let k : Key = c.args.key.now in
    let old : List ℕ = replicate 24 0 in
    let f1 : List ℕ = to_be_bytes w16 k.local in
    let f2 : List ℕ = endpoint_octets k.peer in
    let f3 : List ℕ = mode_code k.mode ∷ [] in
    let f4 : List ℕ = to_be_bytes w16 k.ssid in
    let s1 : Has f1 old c.put.new.out 2 = has_more [] old old f1 c.to_be_bytes.result c.put.new.out 0 2 2 (has_none old) c.to_be_bytes.ensures c.put.ensures refl refl in
    let s2 : Has (f1 ++ f2) old c.put-2.new.out 21 = has_more f1 old c.put.new.out f2 c.endpoint_octets.result c.put-2.new.out 2 19 21 s1 c.endpoint_octets.ensures.value c.put-2.ensures c.endpoint_octets.ensures.len refl in
    let s3 : Has (f1 ++ f2 ++ f3) old c.put-3.new.out 22 = has_more (f1 ++ f2) old c.put-2.new.out f3 (c.mode_code.result ∷ []) c.put-3.new.out 21 1 22 s2 (ap (λ (n : ℕ). n ∷ []) c.mode_code.ensures) c.put-3.ensures refl refl in
    let s4 : Has (f1 ++ f2 ++ f3 ++ f4) old c.put-4.new.out 24 = has_more (f1 ++ f2 ++ f3) old c.put-3.new.out f4 c.to_be_bytes-2.result c.put-4.new.out 22 2 24 s3 c.to_be_bytes-2.ensures c.put-4.ensures refl refl in
    s4.parts ∙ append-nil (f1 ++ f2 ++ f3 ++ f4) ∙ append_assoc (f1 ++ f2) f3 f4
