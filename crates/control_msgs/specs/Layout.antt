-- The messages of TWAMP-Control in open mode, field by field in the order of the wire (RFC 5357, section 3; RFC 4656,
-- section 3; RFC 6038, section 3). MBZ: must be zero.
use Rattle.std.specs.Prelude.{ℕ, Bool, true, false, List, [], ◌∷◌, ◌++◌, replicate, Option, Some, None}
use Rattle.std.specs.Int.{w16, w32, to_be_bytes}
use Rattle.refl_types.specs.declared.config.Clock.TheVariants.{Ntp}
use Rattle.refl_types.specs.declared.types.Address.{Address}
use Rattle.refl_types.specs.Spelling.{address_octets}
use Rattle.ntp_time.specs.Timestamp.{timestamp}
use Rattle.control_msgs.specs.declared.types.Request.{Request}

-- Server Greeting, 64 octets (RFC 4656, section 3.1): unused, Modes, Challenge, Salt, Count, MBZ
unfoldable pub greeting : List ℕ
greeting =
    replicate 12 0
    ++ to_be_bytes w32 97
    ++ replicate 16 0
    ++ replicate 16 0
    ++ to_be_bytes w32 1024
    ++ replicate 12 0

-- Set-Up-Response, 164 octets (RFC 4656, section 3.1): Mode, KeyID, Token, Client-IV
unfoldable pub set_up : ℕ → List ℕ
set_up mode =
    to_be_bytes w32 mode
    ++ replicate 80 0
    ++ replicate 64 0
    ++ replicate 16 0

-- Server-Start, 48 octets (RFC 4656, section 3.1): MBZ, Accept, Server-IV, Start-Time, MBZ
unfoldable pub server_start : ℕ → ℕ → List ℕ
server_start accept start =
    replicate 15 0
    ++ (accept ∷ [])
    ++ replicate 16 0
    ++ timestamp Ntp 0 start
    ++ replicate 8 0

-- an address of a request; the client's or the server's own is written as zeros
abbrev pub address_field : Option Address → List ℕ
address_field None = replicate 16 0
address_field (Some a) = address_octets a

abbrev pub ip_version : Bool → ℕ
ip_version true = 6
ip_version false = 4

-- Request-TW-Session, 112 octets (RFC 5357, section 3.5; RFC 6038, section 3.2): command, MBZ and IPVN, Conf-Sender,
-- Conf-Receiver, schedule slots, packets, Sender Port, Receiver Port, Sender Address, Receiver Address, SID, Padding
-- Length, Start Time, Timeout, Type-P, Octets to be reflected, Length of padding to reflect, MBZ, HMAC
unfoldable pub request_message : Request → List ℕ
request_message r =
    (5 ∷ [])
    ++ (ip_version r.v6 ∷ [])
    ++ (0 ∷ [])
    ++ (0 ∷ [])
    ++ replicate 4 0
    ++ replicate 4 0
    ++ to_be_bytes w16 r.sender_port
    ++ to_be_bytes w16 r.receiver_port
    ++ address_field r.sender
    ++ address_field r.receiver
    ++ replicate 16 0
    ++ replicate 4 0
    ++ replicate 8 0
    ++ r.timeout
    ++ replicate 4 0
    ++ r.octets
    ++ to_be_bytes w16 r.reflect
    ++ replicate 4 0
    ++ replicate 16 0

-- Accept-Session, 48 octets (RFC 5357, section 3.5; RFC 6038, section 3.3): Accept, MBZ, Port, SID, Reflected octets,
-- Server octets, MBZ, HMAC
unfoldable pub accept_session : ℕ → ℕ → List ℕ → List ℕ → List ℕ
accept_session accept port sid reflected =
    (accept ∷ [])
    ++ (0 ∷ [])
    ++ to_be_bytes w16 port
    ++ sid
    ++ reflected
    ++ replicate 2 0
    ++ replicate 8 0
    ++ replicate 16 0

-- Start-Sessions, 32 octets (RFC 5357, section 3.7): command, MBZ, HMAC
unfoldable pub start_sessions : List ℕ
start_sessions =
    (2 ∷ [])
    ++ replicate 15 0
    ++ replicate 16 0

-- Start-Ack, 32 octets (RFC 5357, section 3.7): Accept, MBZ, HMAC
unfoldable pub start_ack : ℕ → List ℕ
start_ack accept =
    (accept ∷ [])
    ++ replicate 15 0
    ++ replicate 16 0

-- Stop-Sessions, 32 octets (RFC 5357, section 3.8): command, Accept, MBZ, Number of Sessions, MBZ, HMAC
unfoldable pub stop_sessions : ℕ → List ℕ
stop_sessions number =
    (3 ∷ [])
    ++ (0 ∷ [])
    ++ replicate 2 0
    ++ to_be_bytes w32 number
    ++ replicate 8 0
    ++ replicate 16 0
