-- The records of a generated load (this project's own).
use Rattle.std.specs.Prelude.{ℕ, zero, suc, ◌+◌, ◌-◌, ◌*◌, ◌/◌, ◌%◌, ◌^◌, true, false, List, [], ◌∷◌, ◌++◌, replicate, None, nat_lt, if◌then◌else◌}
use Rattle.std.specs.Int.{w16, w32, to_be_bytes}
use Rattle.refl_types.specs.declared.types.Address.TheVariants.{V4}
use Rattle.refl_types.specs.declared.types.Endpoint.{Endpoint}
use Rattle.refl_types.specs.declared.types.Mode.TheVariants.{Plain}
use Rattle.refl_types.specs.declared.config.Clock.TheVariants.{Ntp}
use Rattle.refl_types.specs.declared.config.ConfigParts.{ConfigParts}
use Rattle.replay_format.specs.Records.{Item, Opens, Arrives, Datagram}

-- ---- the numbers that the datagrams are made from

-- one step of a linear congruential generator modulo 2^64
abbrev pub next_state : ℕ → ℕ
next_state x = (x * 6364136223846793005 + 1442695040888963407) % 2 ^ 64

-- the number after so many steps from a seed
unfoldable pub state : ℕ → ℕ → ℕ
state seed zero = seed
state seed (suc n) = next_state (state seed n)

-- ---- the sessions

-- how many are opened
abbrev pub openings : ℕ
openings = 8

-- 10.0.0.(p + 1), port 5000
abbrev pub peer : ℕ → Endpoint
peer p = record { address = V4 (10 ∷ 0 ∷ 0 ∷ (p + 1) ∷ []); port = 5000 }

-- replies have sequence numbers of the reflector's own and NTP timestamps; nothing else is set
unfoldable pub config : ConfigParts
config = record { stateful = true; clock = Ntp; offset = 0; synced = false; scale = 0; multiplier = 1; info = replicate 4 0; tlvs = 0; key = None }

abbrev pub opening : ℕ → Item
opening i = Opens (record {
  key = record { local = 0; peer = peer i; mode = Plain; ssid = i };
  extra = record { symmetrical = false; reflect = 0 };
  config = config;
})

-- ---- the datagrams

-- the base packet of a session sender (RFC 8972, section 3): Sequence Number, Timestamp, Error Estimate, SSID, MBZ
unfoldable pub base_packet : ℕ → ℕ → List ℕ
base_packet sequence ssid = to_be_bytes w32 sequence ++ replicate 8 0 ++ to_be_bytes w16 1 ++ to_be_bytes w16 ssid ++ replicate 28 0

-- an Extra Padding TLV (RFC 8972, section 4.1): flags, type, length, zeros
unfoldable pub padding : ℕ → List ℕ
padding len = (0x80 ∷ 1 ∷ to_be_bytes w16 len) ++ replicate len 0

-- which peer sends, and with how much padding
abbrev pub sender : ℕ → ℕ
sender x = x / 2 ^ 33 % 10

abbrev pub padding_len : ℕ → ℕ
padding_len x = x / 2 ^ 40 % 64

-- a datagram of which no TTL was told, and which is answered a microsecond after it arrived
abbrev pub datagram_from : Endpoint → ℕ → List ℕ → Datagram
datagram_from peer arrival octets = record { local = 0; peer = peer; ttl = None; arrival = arrival; t3 = arrival + 1000; octets = octets }

-- datagrams arrive a millisecond apart
abbrev pub datagram_by : ℕ → ℕ → Item
datagram_by j x = Arrives (datagram_from (peer (sender x)) (j * 1000000) (base_packet j (sender x) ++ padding (padding_len x)))

abbrev pub datagram : ℕ → ℕ → Item
datagram seed j = datagram_by j (state seed (j + 1))

-- ---- the record of an index

unfoldable pub record_of : ℕ → ℕ → Item
record_of seed i = if nat_lt i openings then opening i else datagram seed (i - openings)
