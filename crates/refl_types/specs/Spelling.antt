-- Endpoints, keys, extras and configurations in octets, and which have a spelling.
use Rattle.std.specs.Prelude.{◌≡◌, ℕ, ◌+◌, ◌*◌, ◌<◌, ◌^◌, Bool, true, false, List, ◌∷◌, ◌++◌, replicate, Option, Some, None}
use Rattle.std.specs.Int.{w16, w32, to_be_bytes}
use Rattle.octet_format.specs.Octets.{IsArray}
use Rattle.refl_types.specs.declared.types.Address.{Address}
use Rattle.refl_types.specs.declared.types.Address.TheVariants.{V4, V6}
use Rattle.refl_types.specs.declared.types.Endpoint.{Endpoint}
use Rattle.refl_types.specs.declared.types.Mode.{Mode}
use Rattle.refl_types.specs.declared.types.Mode.TheVariants.{Plain, Auth, Twamp}
use Rattle.refl_types.specs.declared.types.Key.{Key}
use Rattle.refl_types.specs.declared.types.Extra.{Extra}
use Rattle.refl_types.specs.declared.config.Clock.{Clock}
use Rattle.refl_types.specs.declared.config.Clock.TheVariants.{Ntp, Ptp}
use Rattle.refl_types.specs.declared.config.ConfigParts.{ConfigParts}
use Rattle.refl_types.specs.Keys.{is_sound}
use Rattle.refl_types.specs.Configs.{IsConfig}

abbrev pub flag : Bool → ℕ
flag true = 1
flag false = 0

-- ---- 19 octets: the family, the address, the port

abbrev pub family : Address → ℕ
family (V4 a) = 4
family (V6 a) = 6

-- 16 octets, an IPv4 address in the first four
abbrev pub address_octets : Address → List ℕ
address_octets (V4 a) = a ++ replicate 12 0
address_octets (V6 a) = a

abbrev pub endpoint_octets : Endpoint → List ℕ
endpoint_octets e = (family e.address ∷ address_octets e.address) ++ to_be_bytes w16 e.port

-- ---- 24 octets: the local number, the peer, the mode, the SSID

abbrev pub mode_code : Mode → ℕ
mode_code Plain = 0
mode_code Auth = 1
mode_code Twamp = 2

abbrev pub key_octets : Key → List ℕ
key_octets k = to_be_bytes w16 k.local ++ endpoint_octets k.peer ++ (mode_code k.mode ∷ to_be_bytes w16 k.ssid)

-- ---- 3 octets: symmetrical, and how many octets are reflected

abbrev pub extra_octets : Extra → List ℕ
extra_octets x = flag x.symmetrical ∷ to_be_bytes w16 x.reflect

-- ---- 76 octets: flags, offset, scale, multiplier, info, TLV types, key block

abbrev pub is_ptp : Clock → Bool
is_ptp Ntp = false
is_ptp Ptp = true

abbrev pub has : {A : Type 0} → Option A → Bool
has None = false
has (Some a) = true

-- without a key the block is zeros
abbrev pub block_octets : Option (List ℕ) → List ℕ
block_octets None = replicate 64 0
block_octets (Some b) = b

abbrev pub config_flags : ConfigParts → ℕ
config_flags c = flag c.stateful + 2 * flag (is_ptp c.clock) + 4 * flag (has c.key) + 8 * flag c.synced

abbrev pub config_octets : ConfigParts → List ℕ
config_octets c = (config_flags c ∷ c.offset ∷ c.scale ∷ c.multiplier ∷ c.info) ++ to_be_bytes w32 c.tlvs ++ block_octets c.key

-- ---- numbers within the ranges of their types

abbrev pub FitsAddress : Address → Type 0
FitsAddress (V4 a) = IsArray 4 a
FitsAddress (V6 a) = IsArray 16 a

pub record FitsEndpoint (e : Endpoint) : Type 0 where
  pub address : FitsAddress e.address
  pub port : e.port < 2 ^ 16

pub record FitsKey (k : Key) : Type 0 where
  pub local : k.local < 2 ^ 16
  pub peer : FitsEndpoint k.peer
  pub ssid : k.ssid < 2 ^ 16

-- a key and an extra that a session may have
pub record FitsSession (k : Key) (x : Extra) : Type 0 where
  pub key : FitsKey k
  pub reflect : x.reflect < 2 ^ 16
  pub sound : is_sound k x ≡ true

abbrev pub FitsBlock : Option (List ℕ) → Type 0
FitsBlock None = Unit {0}
FitsBlock (Some b) = IsArray 64 b

pub record FitsConfig (c : ConfigParts) : Type 0 where
  pub is_config : IsConfig c
  pub offset : c.offset < 256
  pub multiplier : c.multiplier < 256
  pub info : IsArray 4 c.info
  pub tlvs : c.tlvs < 2 ^ 32
  pub block : FitsBlock c.key
