-- A TLV and its octets (RFC 8972, section 4).
use Rattle.std.specs.Prelude.{ℕ, ◌<◌, ◌^◌, List, [], ◌∷◌, ◌++◌, length}
use Rattle.std.specs.Int.{w16, to_be_bytes}

pub record Tlv : Type 0 where
  pub flags : ℕ
  pub kind : ℕ
  pub value : List ℕ

-- ---- the types (RFC 8972, section 4: Extra Padding, Timestamp Information, Direct Measurement, HMAC; RFC 9503, sections 3
-- and 4: Destination Node Address, Return Path)

abbrev pub extra_padding : ℕ
extra_padding = 1

abbrev pub timestamp_information : ℕ
timestamp_information = 3

abbrev pub direct_measurement : ℕ
direct_measurement = 5

abbrev pub hmac : ℕ
hmac = 8

abbrev pub destination_node_address : ℕ
destination_node_address = 9

abbrev pub return_path : ℕ
return_path = 10

-- ---- the flags (RFC 8972, section 4): the type isn't understood, the TLV is malformed, the integrity check failed

abbrev pub unrecognized : ℕ
unrecognized = 0x80

abbrev pub malformed : ℕ
malformed = 0x40

abbrev pub integrity_failed : ℕ
integrity_failed = 0x20

-- ---- the octets: flags, type, length of the value, value

abbrev pub tlv_octets : Tlv → List ℕ
tlv_octets t = (t.flags ∷ t.kind ∷ to_be_bytes w16 (length t.value)) ++ t.value

abbrev pub tlvs_octets : List Tlv → List ℕ
tlvs_octets [] = []
tlvs_octets (t ∷ ts) = tlv_octets t ++ tlvs_octets ts

-- the length of the value has a spelling
abbrev pub FitsTlv : Tlv → Type 0
FitsTlv t = length t.value < 2 ^ 16

abbrev pub FitTlvs : List Tlv → Type 0
FitTlvs [] = Unit {0}
FitTlvs (t ∷ ts) = FitsTlv t × FitTlvs ts
