use Rattle.std.proofs.Common.{◌∙◌, ◌∷◌, ap, sym, subst, replicate}
use Rattle.std.proofs.lemmas.Nat.{be_bytes_4}
use Rattle.refl_types.specs.declared.types.Address.{Address}
use Rattle.refl_types.specs.Spelling.{family, address_octets, FitsAddress}
use Rattle.session_key.specs.Placing.{fnv_from}
use Rattle.session_key.proofs.PlaceLaws.{fnv_three}
use Rattle.session_key.proofs.placing.fnv_address.Goals as goal

pub returns-in-V4 : goal.returns-in-V4
returns-in-V4 c =
    let four = subst FitsAddress c.in-V4.is c.address_fits.ensures in
    let octets = c.to_be_bytes.ensures ∙ be_bytes_4 c.in-V4.octets c.from_be_bytes-number.result four.0 four.1 c.from_be_bytes-number.ensures in
    fnv_three c.args.start 4 c.fnv_from-hash.result c.fnv_from-hash-in-V4.result c.fnv_from.result c.in-V4.octets (replicate 12 0) c.fnv_from-hash.ensures
    (c.fnv_from-hash-in-V4.ensures ∙ ap (fnv_from c.fnv_from-hash.result) octets) c.fnv_from.ensures
    ∙ ap (λ (a : Address). fnv_from c.args.start (family a ∷ address_octets a)) (sym c.in-V4.is)

pub returns-in-V6 : goal.returns-in-V6
returns-in-V6 c = c.fnv_ipv6.ensures ∙ ap (λ (a : Address). fnv_from c.args.start (family a ∷ address_octets a)) (sym c.in-V6.is)
