-- A datagram at its places in a record.
use Rattle.std.specs.Prelude.{◌≡◌, ℕ, ◌==◌, Bool, true, List, ◌∷◌}
use Rattle.std.specs.Int.{w16, w64, from_be_bytes}
use Rattle.octet_format.specs.Octets.{field}
use Rattle.refl_types.specs.declared.types.Address.{Address}
use Rattle.refl_types.specs.declared.types.Meta.{Meta}
use Rattle.refl_types.specs.Spelling.{family, address_octets, FitsAddress}
use Rattle.replay_format.specs.declared.whole.Family.{Family}
use Rattle.replay_format.specs.declared.whole.Family.TheVariants.{Any, Ipv4, Ipv6}
use Rattle.replay_format.specs.Records.{ttl_octets}

-- the octets 7 to 23 are an address: its family and 16 octets
pub record HasAddress (octets : List ℕ) (a : Address) : Type 0 where
  pub spelled : field 7 17 octets ≡ family a ∷ address_octets a
  pub fits : FitsAddress a

-- whether a number is that of the family that is asked for
abbrev pub is_asked : Family → ℕ → Bool
is_asked Any code = true
is_asked Ipv4 code = code == 4
is_asked Ipv6 code = code == 6

-- the address is of the family that is asked for
abbrev pub IsAsked : Family → Address → Type 0
IsAsked Any a = Unit {0}
IsAsked Ipv4 a = family a ≡ 4
IsAsked Ipv6 a = family a ≡ 6

-- what is told of the datagram stands in the octets 5 to 35
pub record HasHead (octets : List ℕ) (m : Meta) (n : ℕ) : Type 0 where
  pub local : m.local ≡ from_be_bytes w16 (field 5 2 octets)
  pub address : HasAddress octets m.peer.address
  pub port : m.peer.port ≡ from_be_bytes w16 (field 24 2 octets)
  pub ttl : field 26 2 octets ≡ ttl_octets m.ttl
  pub arrival : m.arrival ≡ from_be_bytes w64 (field 28 8 octets)
  pub len : m.len ≡ n
