-- The authenticated base packet of a request (RFC 8762, section 4.2.2) with the SSID (RFC 8972, section 3).
use Rattle.std.specs.Prelude.{◌≡◌, ℕ, Bool, List, ◌++◌, length, take, drop, Result, Ok, Err, nat_lt, nat_eq, not, if◌then◌else◌}
use Rattle.std.specs.Int.{w16, w32, to_be_bytes, from_be_bytes}
use Rattle.std.specs.Cmp.Lexicographic.{pointwise}
use Rattle.octet_format.specs.Octets.{field}
use Rattle.hmac_sha256.specs.Hmac.{mac128_of}
use Rattle.stamp_packet.specs.declared.fields.SenderBase.{SenderBase}
use Rattle.stamp_auth.specs.declared.reading.AuthFault.{AuthFault}
use Rattle.stamp_auth.specs.declared.reading.AuthFault.TheVariants.{Short, BadHmac}

-- the fields of a request, by their places
unfoldable pub auth_sender_of : List ℕ → SenderBase
auth_sender_of octets = record {
  sequence = from_be_bytes w32 (field 0 4 octets);
  timestamp = field 16 8 octets;
  error = field 24 2 octets;
  ssid = from_be_bytes w16 (field 26 2 octets);
}

-- octets 96 to 111 are the HMAC of octets 0 to 95 (RFC 8762, section 4.4)
abbrev pub has_base_hmac : List ℕ → List ℕ → Bool
has_base_hmac block octets = pointwise nat_eq (field 96 16 octets) (mac128_of block (take 96 octets))

abbrev pub read_of : List ℕ → List ℕ → Result SenderBase AuthFault
read_of block octets =
    if nat_lt (length octets) 112 then Err Short
    else (if not (has_base_hmac block octets) then Err BadHmac
    else Ok (auth_sender_of octets))

-- a request up to its SSID, in the order of the wire, with what stands in its first 12 octets that must be zero
unfoldable pub auth_request_fields : SenderBase → List ℕ → List ℕ
auth_request_fields s zeros = to_be_bytes w32 s.sequence ++ zeros ++ s.timestamp ++ s.error ++ to_be_bytes w16 s.ssid

-- the octets are a request with these fields, whatever stands where zeros must be, and whatever follows
abbrev pub IsAuthRequest : List ℕ → SenderBase → Type 0
IsAuthRequest octets s = octets ≡ auth_request_fields s (field 4 12 octets) ++ drop 28 octets
