-- Which datagrams are of which session (RFC 8972, section 3).
use Rattle.std.specs.Prelude.{ℕ, ◌+◌, nat_lt, ◌==◌, Bool, true, false, ◌&&◌, ◌||◌, not, if◌then◌else◌, List, length, take, drop, Option, Some, None}
use Rattle.std.specs.Int.{w16, from_be_bytes}
use Rattle.refl_types.specs.declared.types.Endpoint.{Endpoint}
use Rattle.refl_types.specs.declared.types.Mode.{Mode}
use Rattle.refl_types.specs.declared.types.Mode.TheVariants.{Plain, Auth, Twamp}
use Rattle.refl_types.specs.declared.types.Key.{Key}
use Rattle.refl_types.specs.Same.{same_endpoint, same_mode, same_key}
use Rattle.session_key.specs.declared.matching.Query.{Query}

-- the number in the two octets from a place on, where both are there
unfoldable pub ssid_at : ℕ → List ℕ → Option ℕ
ssid_at at octets = if nat_lt (length octets) (at + 2) then None else Some (from_be_bytes w16 (take 2 (drop at octets)))

-- The SSID stands in octets 14 and 15 of an unauthenticated packet, in octets 26 and 27 of an authenticated one
-- (RFC 8972, section 3, figures 1 and 3)
unfoldable pub query_of : ℕ → Endpoint → List ℕ → Query
query_of local peer octets = record { local = local; peer = peer; plain = ssid_at 14 octets; auth = ssid_at 26 octets }

abbrev pub is_told : Option ℕ → ℕ → Bool
is_told None n = false
is_told (Some m) n = m == n

-- TWAMP-Test packets have no SSID (RFC 5357, section 4.1.2)
abbrev pub agrees : Mode → Query → ℕ → Bool
agrees Plain q ssid = is_told q.plain ssid
agrees Auth q ssid = is_told q.auth ssid
agrees Twamp q ssid = true

unfoldable pub matches : Query → Key → Bool
matches q k = q.local == k.local && same_endpoint q.peer k.peer && agrees k.mode q k.ssid

-- two keys that no two sessions may have at once: one key, or one pair of ends in two modes (this project's own)
unfoldable pub excludes : Key → Key → Bool
excludes j k = same_key j k || (j.local == k.local && same_endpoint j.peer k.peer && not (same_mode j.mode k.mode))
