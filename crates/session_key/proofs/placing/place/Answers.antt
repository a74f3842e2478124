use Rattle.std.proofs.Common.{◌≡◌, ◌∷◌, ◌++◌, sym, ap, ◌∙◌, append_assoc, ◌%◌}
use Rattle.std.specs.Int.{w16, to_be_bytes}
use Rattle.refl_types.specs.Spelling.{family, address_octets}
use Rattle.session_key.specs.Placing.{place_of, fnv_1a, fnv_from}
use Rattle.session_key.proofs.PlaceLaws.{fnv_parts}
use Rattle.session_key.proofs.placing.place.Goals as goal

pub returns-clause-value : goal.returns-clause-value
unfolding place_of fnv_1a
returns-clause-value c =
    let a = to_be_bytes w16 c.args.local in
    let o = family c.args.peer.now.address ∷ address_octets c.args.peer.now.address in
    let p = to_be_bytes w16 c.args.peer.now.port in
    let one = c.fnv_from-hash.ensures ∙ ap (fnv_from 14695981039346656037) c.to_be_bytes.ensures in
    let two = c.fnv_address-hash.ensures ∙ ((λ i. fnv_from (one i) o) ∙ sym (fnv_parts 14695981039346656037 a o)) in
    let four = c.fnv_from-hash-2.ensures ∙ ((λ i. fnv_from (two i) (c.to_be_bytes-2.ensures i)) ∙ sym (fnv_parts 14695981039346656037 (a ++ o) p)) in
    let whole : (a ++ o) ++ p ≡ a ++ (o ++ p) = append_assoc a o p in
    λ i. (four ∙ ap (fnv_from 14695981039346656037) whole) i % c.from.ensures i
