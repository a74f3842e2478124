-- The unauthenticated base packets (RFC 8762, sections 4.2.1 and 4.3.1) with the SSID (RFC 8972, section 3).
use Rattle.std.specs.Prelude.{◌≡◌, ℕ, List, [], ◌∷◌, ◌++◌, length, drop, Result, Ok, Err, nat_lt, if◌then◌else◌}
use Rattle.std.specs.Int.{w16, w32, to_be_bytes, from_be_bytes}
use Rattle.octet_format.specs.Octets.{field}
use Rattle.stamp_packet.specs.declared.fields.SenderBase.{SenderBase}
use Rattle.stamp_packet.specs.declared.fields.ReplyBase.{ReplyBase}
use Rattle.stamp_packet.specs.declared.fields.Short.{Short}

-- the fields of a request, by their places
unfoldable pub sender_of : List ℕ → SenderBase
sender_of octets = record {
  sequence = from_be_bytes w32 (field 0 4 octets);
  timestamp = field 4 8 octets;
  error = field 12 2 octets;
  ssid = from_be_bytes w16 (field 14 2 octets);
}

abbrev pub read_of : List ℕ → Result SenderBase Short
read_of octets = if nat_lt (length octets) 44 then Err (record {}) else Ok (sender_of octets)

-- ---- the field tables, in the order of the wire

-- a request, up to its octets that must be zero (28 of them)
unfoldable pub request_fields : SenderBase → List ℕ
request_fields s = to_be_bytes w32 s.sequence ++ s.timestamp ++ s.error ++ to_be_bytes w16 s.ssid

-- the octets are a request with these fields, whatever stands where zeros must be, and whatever follows
abbrev pub IsRequest : List ℕ → SenderBase → Type 0
IsRequest octets s = octets ≡ request_fields s ++ drop 16 octets

-- a reply: two octets, and after the TTL three, must be zero
unfoldable pub plain_reply : ReplyBase → List ℕ
plain_reply r =
    to_be_bytes w32 r.sequence ++ r.timestamp ++ r.error ++ to_be_bytes w16 r.ssid ++ r.received
    ++ to_be_bytes w32 r.sender.sequence ++ r.sender.timestamp ++ r.sender.error ++ (0 ∷ 0 ∷ r.ttl ∷ 0 ∷ 0 ∷ 0 ∷ [])
