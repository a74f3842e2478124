-- Endpoints, keys, extras and configurations are read from left to right: each part gives its value and the octets after it.
use Rattle.std.specs.Prelude.{ℕ, ◌+◌, ◌*◌, ◌/◌, ◌%◌, Bool, true, false, ◌||◌, ◌==◌, if◌then◌else◌, List, Option, Some, None, Result, Ok}
use Rattle.std.specs.Int.{w16}
use Rattle.octet_format.specs.declared.reading.Unread.{Unread}
use Rattle.octet_format.specs.Reading.{◌>>=◌, octet_at, octet_in, number_at, octets_at, zeros_at}
use Rattle.refl_types.specs.declared.types.Address.{Address}
use Rattle.refl_types.specs.declared.types.Address.TheVariants.{V4, V6}
use Rattle.refl_types.specs.declared.types.Endpoint.{Endpoint}
use Rattle.refl_types.specs.declared.types.Mode.{Mode}
use Rattle.refl_types.specs.declared.types.Mode.TheVariants.{Plain, Auth, Twamp}
use Rattle.refl_types.specs.declared.types.Key.{Key}
use Rattle.refl_types.specs.declared.types.Extra.{Extra}
use Rattle.refl_types.specs.declared.config.Clock.TheVariants.{Ntp, Ptp}
use Rattle.refl_types.specs.declared.config.ConfigParts.{ConfigParts}
use Rattle.refl_types.specs.Configs.{are_known_tlvs}

unfoldable pub address_at : List ℕ → Result (Address × List ℕ) Unread
address_at octets = do
  family ← octet_at (λ b. b == 4 || b == 6) octets
  if family.0 == 4 then (octets_at 4 family.1 >>= λ a. zeros_at 12 a.1 >>= λ z. Ok (V4 a.0, z.1)) else (octets_at 16 family.1 >>= λ a. Ok (V6 a.0, a.1))

unfoldable pub endpoint_at : List ℕ → Result (Endpoint × List ℕ) Unread
endpoint_at octets = do
  a ← address_at octets
  p ← number_at w16 a.1
  Ok (record { address = a.0; port = p.0 }, p.1)

abbrev pub mode_of : ℕ → Mode
mode_of n = if n == 0 then Plain else (if n == 1 then Auth else Twamp)

-- in mode Twamp the SSID is 0
unfoldable pub ssid_at : ℕ → List ℕ → Result (ℕ × List ℕ) Unread
ssid_at mode octets = if mode == 2 then (zeros_at 2 octets >>= λ z. Ok (0, z.1)) else number_at w16 octets

unfoldable pub key_at : List ℕ → Result (Key × List ℕ) Unread
key_at octets = do
  local ← number_at w16 octets
  peer ← endpoint_at local.1
  mode ← octet_in 0 2 peer.1
  ssid ← ssid_at mode.0 mode.1
  Ok (record { local = local.0; peer = peer.0; mode = mode_of mode.0; ssid = ssid.0 }, ssid.1)

-- only a session of mode Twamp has an extra
unfoldable pub extra_at : Mode → List ℕ → Result (Extra × List ℕ) Unread
extra_at Twamp octets = do
  symmetrical ← octet_in 0 1 octets
  reflect ← number_at w16 symmetrical.1
  Ok (record { symmetrical = (symmetrical.0 == 1); reflect = reflect.0 }, reflect.1)
extra_at Plain octets = zeros_at 3 octets >>= λ z. Ok (record { symmetrical = false; reflect = 0 }, z.1)
extra_at Auth octets = zeros_at 3 octets >>= λ z. Ok (record { symmetrical = false; reflect = 0 }, z.1)

unfoldable pub block_at : Bool → List ℕ → Result (Option (List ℕ) × List ℕ) Unread
block_at true octets = octets_at 64 octets >>= λ b. Ok (Some b.0, b.1)
block_at false octets = zeros_at 64 octets >>= λ z. Ok (None, z.1)

abbrev pub has_bit : ℕ → ℕ → Bool
has_bit n weight = n / weight % 2 == 1

-- four octets, of which two are zeros: each bit that is set is that of a type that may be supported
unfoldable pub tlvs_at : List ℕ → Result (ℕ × List ℕ) Unread
tlvs_at octets = do
  zeros ← zeros_at 2 octets
  high ← octet_at (λ b. are_known_tlvs (b * 256)) zeros.1
  low ← octet_at are_known_tlvs high.1
  Ok (high.0 * 256 + low.0, low.1)

unfoldable pub config_at : List ℕ → Result (ConfigParts × List ℕ) Unread
config_at octets = do
  flags ← octet_in 0 15 octets
  offset ← octet_in 0 255 flags.1
  scale ← octet_in 0 63 offset.1
  multiplier ← octet_in 1 255 scale.1
  info ← octets_at 4 multiplier.1
  tlvs ← tlvs_at info.1
  key ← block_at (has_bit flags.0 4) tlvs.1
  Ok (record { stateful = has_bit flags.0 1; clock = (if has_bit flags.0 2 then Ptp else Ntp); offset = offset.0; synced = has_bit flags.0 8; scale = scale.0; multiplier = multiplier.0; info = info.0; tlvs = tlvs.0; key = key.0 }, key.1)
