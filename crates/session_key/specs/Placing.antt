-- Where the search for a session begins: FNV-1a of 64 bits over the octets of both ends (this project's own).
use Rattle.std.specs.Prelude.{ℕ, ◌*◌, ◌%◌, ◌^◌, List, [], ◌∷◌, ◌++◌, bit_xor}
use Rattle.std.specs.Int.{w16, to_be_bytes}
use Rattle.refl_types.specs.declared.types.Endpoint.{Endpoint}
use Rattle.refl_types.specs.Spelling.{endpoint_octets}

abbrev pub fnv_step : ℕ → ℕ → ℕ
fnv_step hash octet = bit_xor hash octet * 1099511628211 % 2 ^ 64

unfoldable pub fnv_from : ℕ → List ℕ → ℕ
fnv_from hash [] = hash
fnv_from hash (octet ∷ octets) = fnv_from (fnv_step hash octet) octets

unfoldable pub fnv_1a : List ℕ → ℕ
fnv_1a octets = fnv_from 14695981039346656037 octets

unfoldable pub place_of : ℕ → Endpoint → ℕ → ℕ
place_of local peer slots = fnv_1a (to_be_bytes w16 local ++ endpoint_octets peer) % slots
