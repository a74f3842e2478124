use Rattle.std.proofs.Common.{ℕ, List, [], ◌∷◌, ◌++◌, replicate, refl, ap, ◌∙◌}
use Rattle.std.specs.Int.{w16, to_be_bytes}
use Rattle.std.proofs.lemmas.List.{append-nil}
use Rattle.refl_types.specs.declared.types.Endpoint.{Endpoint}
use Rattle.refl_types.specs.Spelling.{family, address_octets}
use Rattle.octet_format.proofs.Fields.{Has, has_none, has_more}
use Rattle.session_octets.proofs.writing.endpoint_octets.Goals as goal

pub returns-clause-value : goal.returns-clause-value
returns-clause-value c =
    let e : Endpoint = c.args.endpoint.now in
    let old : List ℕ = replicate 19 0 in
    let f1 : List ℕ = family e.address ∷ [] in
    let f2 : List ℕ = address_octets e.address in
    let f3 : List ℕ = to_be_bytes w16 e.port in
    let s1 : Has f1 old c.put.new.out 1 = has_more [] old old f1 (c.family.result ∷ []) c.put.new.out 0 1 1 (has_none old) (ap (λ (n : ℕ). n ∷ []) c.family.ensures) c.put.ensures refl refl in
    let s2 : Has (f1 ++ f2) old c.put-2.new.out 17 = has_more f1 old c.put.new.out f2 c.octets.result c.put-2.new.out 1 16 17 s1 c.octets.ensures.value c.put-2.ensures c.octets.ensures.len refl in
    let s3 : Has (f1 ++ f2 ++ f3) old c.put-3.new.out 19 = has_more (f1 ++ f2) old c.put-2.new.out f3 c.to_be_bytes.result c.put-3.new.out 17 2 19 s2 c.to_be_bytes.ensures c.put-3.ensures refl refl in
    s3.parts ∙ append-nil (f1 ++ f2 ++ f3)
