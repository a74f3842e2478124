-- The packet of a TWAMP-Test sender (RFC 5357, section 4.1.2): fields of 14 octets, then padding.
use Rattle.std.specs.Prelude.{◌≡◌, List, ◌++◌, ℕ, length, drop, Result, Ok, Err, nat_lt, if◌then◌else◌}
use Rattle.std.specs.Int.{w32, to_be_bytes, from_be_bytes}
use Rattle.octet_format.specs.Octets.{field}
use Rattle.stamp_packet.specs.declared.fields.SenderBase.{SenderBase}
use Rattle.stamp_packet.specs.declared.fields.Short.{Short}

-- the fields of a request, by their places; there is no SSID
unfoldable pub test_sender_of : List ℕ → SenderBase
test_sender_of octets = record {
  sequence = from_be_bytes w32 (field 0 4 octets);
  timestamp = field 4 8 octets;
  error = field 12 2 octets;
  ssid = 0;
}

abbrev pub read_of : List ℕ → Result SenderBase Short
read_of octets = if nat_lt (length octets) 14 then Err (record {}) else Ok (test_sender_of octets)

-- a request, in the order of the wire
unfoldable pub test_request_fields : SenderBase → List ℕ
test_request_fields s = to_be_bytes w32 s.sequence ++ s.timestamp ++ s.error

-- the octets are a request with these fields, whatever follows
abbrev pub IsTestRequest : List ℕ → SenderBase → Type 0
IsTestRequest octets s = octets ≡ test_request_fields s ++ drop 14 octets
