-- Ends of datagrams in octets, as the system's calls have them: the sockaddr_in and sockaddr_in6 of C on Linux, with the family in
-- the order of x86-64, and port and address in the order of the network (RFC 3493, section 3.3).
use Rattle.std.specs.Prelude.{ℕ, ◌==◌, if◌then◌else◌, List, [], ◌∷◌, ◌++◌}
use Rattle.std.specs.Int.{w16, from_be_bytes, from_le_bytes, to_be_bytes}
use Rattle.octet_format.specs.Octets.{field}
use Rattle.refl_types.specs.declared.types.Address.{Address}
use Rattle.refl_types.specs.declared.types.Address.TheVariants.{V4, V6}
use Rattle.refl_types.specs.declared.types.Endpoint.{Endpoint}

-- ---- read

-- the family 2 is IPv4, and 10 IPv6; no other is read
abbrev pub family_in : List ℕ → ℕ
family_in raw = from_le_bytes w16 (field 0 2 raw)

-- scope and flow label are not kept
abbrev pub endpoint_in : List ℕ → Endpoint
endpoint_in raw = record {
  address = if family_in raw == 2 then V4 (field 4 4 raw) else V6 (field 8 16 raw);
  port = from_be_bytes w16 (field 2 2 raw);
}

-- ---- written

-- with no scope and no flow label
abbrev pub octets_by : Address → ℕ → List ℕ
octets_by (V4 host) port = (2 ∷ 0 ∷ []) ++ to_be_bytes w16 port ++ host
octets_by (V6 host) port = (10 ∷ 0 ∷ []) ++ to_be_bytes w16 port ++ (0 ∷ 0 ∷ 0 ∷ 0 ∷ []) ++ host ++ (0 ∷ 0 ∷ 0 ∷ 0 ∷ [])

-- how many octets these are
abbrev pub len_of : Address → ℕ
len_of (V4 host) = 8
len_of (V6 host) = 28
