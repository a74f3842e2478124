-- What a server reads in a Request-TW-Session, by the places of its fields (RFC 5357, section 3.5; RFC 6038,
-- section 3.2), and for which field it refuses one. All other fields are ignored. The order of the checks is this
-- project's own.
use Rattle.std.specs.Prelude.{◌≡◌, ℕ, ◌<◌, ◌%◌, ◌==◌, Bool, true, false, not, ◌&&◌, ◌||◌, List, take, slice_index, Option, Some, None, Result, Ok, Err, if◌then◌else◌}
use Rattle.std.specs.List.{list_all}
use Rattle.std.specs.Int.{w16, w32, from_be_bytes}
use Rattle.octet_format.specs.Octets.{field}
use Rattle.refl_types.specs.declared.types.Address.{Address}
use Rattle.refl_types.specs.declared.types.Address.TheVariants.{V4, V6}
use Rattle.control_msgs.specs.declared.types.Field.{Field}
use Rattle.control_msgs.specs.declared.types.Field.TheVariants.{Command, Ipvn, Conf, Slots, TypeP, SenderPort}
use Rattle.control_msgs.specs.declared.types.MsgFault.{MsgFault}
use Rattle.control_msgs.specs.declared.types.Request.{Request}

-- ---- the fields that are tested

-- the low four bits of octet 1
abbrev pub version_of : List ℕ → ℕ
version_of o = slice_index o 1 % 16

abbrev pub is_version : ℕ → Bool
is_version v = v == 4 || v == 6

abbrev pub asks_for_more : List ℕ → Bool
asks_for_more o = not (slice_index o 2 == 0 && slice_index o 3 == 0)

abbrev pub slots_of : List ℕ → ℕ
slots_of o = from_be_bytes w32 (field 4 4 o)

abbrev pub type_p_of : List ℕ → ℕ
type_p_of o = from_be_bytes w32 (field 84 4 o)

abbrev pub sender_port_of : List ℕ → ℕ
sender_port_of o = from_be_bytes w16 (field 12 2 o)

abbrev pub fault_at : ℕ → Field → Option MsgFault
fault_at octet f = Some (record { octet = octet; field = f })

-- the first field that is refused
unfoldable pub first_fault : List ℕ → Option MsgFault
first_fault o =
    if not (slice_index o 0 == 5) then fault_at 0 Command
    else (if not (is_version (version_of o)) then fault_at 1 Ipvn
    else (if asks_for_more o then fault_at 2 Conf
    else (if not (slots_of o == 0) then fault_at 4 Slots
    else (if not (type_p_of o == 0) then fault_at 84 TypeP
    else (if sender_port_of o == 0 then fault_at 12 SenderPort
    else None)))))

-- ---- the fields that are used

abbrev pub are_zeros : List ℕ → Bool
are_zeros octets = list_all (λ b. b == 0) octets

-- An IPv4 address is the first four octets of its field, and the others are ignored. Zeros are no address.
abbrev pub address_read : Bool → List ℕ → Option Address
address_read true f = if are_zeros f then None else Some (V6 f)
address_read false f = if are_zeros (take 4 f) then None else Some (V4 (take 4 f))

unfoldable pub request_of : List ℕ → Request
request_of o =
    let v6 = version_of o == 6 in
    record {
      sender = address_read v6 (field 16 16 o);
      receiver = address_read v6 (field 32 16 o);
      v6 = v6;
      sender_port = sender_port_of o;
      receiver_port = from_be_bytes w16 (field 14 2 o);
      timeout = field 76 8 o;
      octets = field 88 2 o;
      reflect = from_be_bytes w16 (field 90 2 o);
    }

abbrev pub unless_refused : Option MsgFault → Request → Result Request MsgFault
unless_refused (Some f) r = Err f
unless_refused None r = Ok r

unfoldable pub request_read : List ℕ → Result Request MsgFault
request_read o = unless_refused (first_fault o) (request_of o)

-- ---- which requests a client can write

abbrev pub IsAddress : Bool → Option Address → Type 0
IsAddress v6 None = Unit {0}
IsAddress true (Some (V6 a)) = are_zeros a ≡ false
IsAddress false (Some (V4 a)) = are_zeros a ≡ false
IsAddress v6 (Some a) = ⊥

-- The sender port isn't 0, and each address that is given is of the family that v6 says and isn't all zeros.
pub record IsWritable (r : Request) : Type 0 where
  pub sender_port : 0 < r.sender_port
  pub sender : IsAddress r.v6 r.sender
  pub receiver : IsAddress r.v6 r.receiver
