-- An unauthenticated reply as its session sender reads it (RFC 8762, section 4.3.1; RFC 8972, section 3).
use Rattle.std.specs.Prelude.{ℕ, ◌==◌, Bool, false, ◌&&◌, if◌then◌else◌, List, length, slice_get, slice_index, Option, Some, None, nat_le, bytes_eq, bit_and}
use Rattle.std.specs.Int.{w16, w32, w64, from_be_bytes}
use Rattle.refl_types.specs.declared.config.Clock.TheVariants.{Ntp}
use Rattle.octet_format.specs.Octets.{field}
use Rattle.ntp_time.specs.Timestamp.{timestamp}

-- ---- the fields, by their places

-- the reflector's Sequence Number
abbrev pub number_in : List ℕ → ℕ
number_in octets = from_be_bytes w32 (field 0 4 octets)

-- the Timestamp: when the reflector sent the reply
abbrev pub departure_in : List ℕ → ℕ
departure_in octets = from_be_bytes w64 (field 4 8 octets)

-- the Z bit of the reflector's Error Estimate isn't set: its timestamps are NTP's
abbrev pub has_ntp_clock : List ℕ → Bool
has_ntp_clock octets = bit_and (slice_index octets 12) 64 == 0

abbrev pub ssid_in : List ℕ → ℕ
ssid_in octets = from_be_bytes w16 (field 14 2 octets)

-- the Receive Timestamp: when the request came to the reflector
abbrev pub receipt_in : List ℕ → ℕ
receipt_in octets = from_be_bytes w64 (field 16 8 octets)

-- what it copies of the request: its Sequence Number and its Timestamp
abbrev pub sequence_in : List ℕ → ℕ
sequence_in octets = from_be_bytes w32 (field 24 4 octets)

abbrev pub timestamp_in : List ℕ → List ℕ
timestamp_in octets = field 28 8 octets

-- ---- the request that it answers

-- a moment, in nanoseconds since the start of 1970, as a sender writes it
abbrev pub ntp_timestamp : ℕ → List ℕ
ntp_timestamp moment = timestamp Ntp 0 moment

-- a request was sent at this moment, and had this timestamp
abbrev pub was_sent_with : List ℕ → Option ℕ → Bool
was_sent_with field None = false
was_sent_with field (Some moment) = bytes_eq field (ntp_timestamp moment)

-- The number of the request to which octets are a reply, if they are that: there are 44 and more, they have the SSID, and they
-- copy the number and the timestamp of a request. `sent` are the moments of all requests, each at its number
unfoldable pub request_of : ℕ → List ℕ → List ℕ → Option ℕ
request_of ssid sent octets =
    if nat_le 44 (length octets) && (ssid_in octets == ssid) && was_sent_with (timestamp_in octets) (slice_get sent (sequence_in octets))
    then Some (sequence_in octets) else None
