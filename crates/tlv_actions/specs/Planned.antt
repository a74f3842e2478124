-- From where and to whom a reply is sent, and whether it is (RFC 9503, sections 3 and 4). Only the numbers of sub-types are
-- the standard's; that one TLV of a type is acted on, every length and the reading of the Control Code are this project's
-- own.
use Rattle.std.specs.Prelude.{ℕ, ◌%◌, Bool, false, ◌&&◌, ◌==◌, if◌then◌else◌, List, [], ◌∷◌, length, get_or, Option, Some, None, position, slice_get, option_map, option_and_then}
use Rattle.std.specs.Option.{option_map_or}
use Rattle.refl_types.specs.declared.types.Address.{Address}
use Rattle.refl_types.specs.declared.types.Address.TheVariants.{V4, V6}
use Rattle.refl_types.specs.declared.types.Endpoint.{Endpoint}
use Rattle.refl_types.specs.declared.types.Meta.{Meta}
use Rattle.refl_types.specs.declared.config.ConfigParts.{ConfigParts}
use Rattle.refl_types.specs.Same.{same_endpoint}
use Rattle.tlv_chain.specs.Tlv.{Tlv, destination_node_address, return_path}
use Rattle.tlv_chain.specs.Split.{split}
use Rattle.tlv_actions.specs.declared.facts.Plan.{Plan}
use Rattle.tlv_actions.specs.declared.planning.OwnAddress.{OwnAddress}
use Rattle.tlv_actions.specs.declared.planning.UsablePath.{UsablePath}
use Rattle.tlv_actions.specs.Placed.{PlacedTlv, placed, acted, first_of}

-- ---- addresses of a family

abbrev pub address_len : Address → ℕ
address_len (V4 a) = 4
address_len (V6 a) = 16

-- octets as an address of the family of another
abbrev pub address_like : Address → List ℕ → Address
address_like (V4 a) octets = V4 octets
address_like (V6 a) octets = V6 octets

-- octets are an address of the family of another, by their count
abbrev pub is_address_like : Address → List ℕ → Bool
is_address_like peer octets = length octets == address_len peer

-- ---- Destination Node Address (RFC 9503, section 3)

-- the lowest local with an address, and with the port of the local at which the datagram arrived
abbrev pub local_with : List Endpoint → ℕ → Address → Option ℕ
local_with locals arrived address =
    option_and_then (λ here. position (λ l. same_endpoint l (record { address = address; port = here.port })) locals) (slice_get locals arrived)

-- the local that a value names
abbrev pub own_local : List Endpoint → Meta → List ℕ → Option ℕ
own_local locals d value =
    if is_address_like d.peer.address value then local_with locals d.local (address_like d.peer.address value)
    else None

abbrev pub own_address_in : List Endpoint → Meta → PlacedTlv → Option OwnAddress
own_address_in locals d p = option_map (λ local. record { at = p.at; local = local }) (own_local locals d p.tlv.value)

abbrev pub own_address : ConfigParts → List Endpoint → Meta → List ℕ → Option OwnAddress
own_address c locals d tail = option_and_then (own_address_in locals d) (first_of c destination_node_address (acted c tail))

-- ---- Return Path (RFC 9503, section 4)

-- sub-types (RFC 9503, sections 4.1.1 and 4.1.2)
abbrev pub control_code : ℕ
control_code = 1

abbrev pub return_address : ℕ
return_address = 2

-- a list of TLVs without a rest that is one TLV
abbrev pub alone : List Tlv → List ℕ → Option Tlv
alone (t ∷ []) [] = Some t
alone ts rest = None

-- the one whole sub-TLV that a value is
abbrev pub sub_tlv : List ℕ → Option Tlv
sub_tlv value = alone (split value).tlvs (split value).rest

abbrev pub is_control_code : Tlv → Bool
is_control_code t = t.kind == control_code && length t.value == 4

abbrev pub is_return_address : Address → Tlv → Bool
is_return_address peer t = t.kind == return_address && is_address_like peer t.value

-- to whom a reply goes on the way that is asked for, if a peer of this family may ask for it: to a Return Address and the
-- peer's port, otherwise to the peer
abbrev pub return_to : Endpoint → Tlv → Option Endpoint
return_to peer t =
    if is_control_code t then Some peer
    else (if is_return_address peer.address t then Some (record { address = address_like peer.address t.value; port = peer.port })
    else None)

abbrev pub usable_path_in : Endpoint → PlacedTlv → Option UsablePath
usable_path_in peer p = option_map (λ to. record { at = p.at; to = to }) (option_and_then (return_to peer) (sub_tlv p.tlv.value))

abbrev pub usable_path : ConfigParts → Endpoint → List ℕ → Option UsablePath
usable_path c peer tail = option_and_then (usable_path_in peer) (first_of c return_path (acted c tail))

-- ---- the plan

unfoldable pub planned : ConfigParts → List Endpoint → Meta → List ℕ → Plan
planned c locals d tail = record {
  from = option_map_or (λ o. o.local) (own_address c locals d tail) d.local;
  to = option_map_or (λ p. p.to) (usable_path c d.peer tail) d.peer;
  nine = option_map (λ p. p.at) (first_of c destination_node_address (placed tail));
  own_at = option_map (λ o. o.at) (own_address c locals d tail);
  path_at = option_map (λ p. p.at) (usable_path c d.peer tail);
}

-- ---- no reply

-- a Control Code whose lowest bit is 0
abbrev pub wants_none : Tlv → Bool
wants_none t = is_control_code t && get_or t.value 3 0 % 2 == 0

unfoldable pub no_reply : ConfigParts → List ℕ → Bool
no_reply c tail =
    option_map_or wants_none (option_and_then (λ p. sub_tlv p.tlv.value) (first_of c return_path (acted c tail))) false
