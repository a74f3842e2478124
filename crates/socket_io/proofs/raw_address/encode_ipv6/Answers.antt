use Rattle.std.proofs.Common.{ℕ, List, [], ◌∷◌, ◌++◌, refl, arith}
use Rattle.std.specs.Int.{w16, to_be_bytes}
use Rattle.octet_format.proofs.Fields.{has_none, has_more}
use Rattle.socket_io.proofs.raw_address.encode_ipv6.Goals as goal

pub returns-clause-octets : goal.returns-clause-octets
returns-clause-octets c =
    let old = c.args.raw.now in
    let host = c.args.host.now in
    let port : List ℕ = to_be_bytes w16 c.args.port in
    let family : List ℕ = 10 ∷ 0 ∷ [] in
    let zeros : List ℕ = 0 ∷ 0 ∷ 0 ∷ 0 ∷ [] in
    let s1 = has_more [] old old family family c.put_array.new.out 0 2 2 (has_none old) refl c.put_array.ensures refl refl in
    let s2 = has_more family old c.put_array.new.out port c.to_be_bytes.result c.put_array-2.new.out 2 2 4 s1 c.to_be_bytes.ensures c.put_array-2.ensures refl refl in
    let s3 = has_more (family ++ port) old c.put_array-2.new.out zeros zeros c.put_array-3.new.out 4 4 8 s2 refl c.put_array-3.ensures refl refl in
    let s4 = has_more ((family ++ port) ++ zeros) old c.put_array-3.new.out host host c.put_array-4.new.out 8 16 24 s3 refl c.put_array-4.ensures (omega arith) refl in
    let s5 = has_more (((family ++ port) ++ zeros) ++ host) old c.put_array-4.new.out zeros zeros c.put_array-5.new.out 24 4 28 s4 refl c.put_array-5.ensures refl refl in
    s5.parts
