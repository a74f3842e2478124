-- Which addresses, endpoints, keys and configurations are equal, as tests.
use Rattle.std.specs.Prelude.{◌≡◌, ℕ, Bool, true, false, ◌&&◌, ◌==◌, not, List, [], ◌∷◌, Option, Some, None}
use Rattle.refl_types.specs.declared.types.Address.{Address}
use Rattle.refl_types.specs.declared.types.Address.TheVariants.{V4, V6}
use Rattle.refl_types.specs.declared.types.Endpoint.{Endpoint}
use Rattle.refl_types.specs.declared.types.Mode.{Mode}
use Rattle.refl_types.specs.declared.types.Mode.TheVariants.{Plain, Auth, Twamp}
use Rattle.refl_types.specs.declared.types.Key.{Key}
use Rattle.refl_types.specs.declared.config.Clock.{Clock}
use Rattle.refl_types.specs.declared.config.Clock.TheVariants.{Ntp, Ptp}
use Rattle.refl_types.specs.declared.config.ConfigParts.{ConfigParts}

abbrev pub same_octets : List ℕ → List ℕ → Bool
same_octets [] [] = true
same_octets (x ∷ xs) (y ∷ ys) = x == y && same_octets xs ys
same_octets xs ys = false

abbrev pub same_address : Address → Address → Bool
same_address (V4 a) (V4 b) = same_octets a b
same_address (V6 a) (V6 b) = same_octets a b
same_address a b = false

abbrev pub same_endpoint : Endpoint → Endpoint → Bool
same_endpoint a b = same_address a.address b.address && a.port == b.port

abbrev pub same_mode : Mode → Mode → Bool
same_mode Plain Plain = true
same_mode Auth Auth = true
same_mode Twamp Twamp = true
same_mode a b = false

unfoldable pub same_key : Key → Key → Bool
same_key a b = a.local == b.local && same_endpoint a.peer b.peer && same_mode a.mode b.mode && a.ssid == b.ssid

abbrev pub same_flag : Bool → Bool → Bool
same_flag true b = b
same_flag false b = not b

abbrev pub same_clock : Clock → Clock → Bool
same_clock Ntp Ntp = true
same_clock Ptp Ptp = true
same_clock a b = false

abbrev pub same_block : Option (List ℕ) → Option (List ℕ) → Bool
same_block None None = true
same_block (Some a) (Some b) = same_octets a b
same_block a b = false

unfoldable pub same_config : ConfigParts → ConfigParts → Bool
same_config a b =
    (same_flag a.stateful b.stateful && same_clock a.clock b.clock && a.offset == b.offset && same_flag a.synced b.synced)
    && (a.scale == b.scale && a.multiplier == b.multiplier)
    && (same_octets a.info b.info && a.tlvs == b.tlvs && same_block a.key b.key)

-- the tests are those of equality
pub record SameIsEqual : Type 0 where
  pub octets : (a b : List ℕ) → same_octets a b ≡ true → a ≡ b
  pub octets_self : (a : List ℕ) → same_octets a a ≡ true
  pub endpoint : (a b : Endpoint) → same_endpoint a b ≡ true → a ≡ b
  pub endpoint_self : (a : Endpoint) → same_endpoint a a ≡ true
  pub mode : (a b : Mode) → same_mode a b ≡ true → a ≡ b
  pub mode_self : (a : Mode) → same_mode a a ≡ true
  pub key : (a b : Key) → same_key a b ≡ true → a ≡ b
  pub key_self : (a : Key) → same_key a a ≡ true
  pub config : (a b : ConfigParts) → same_config a b ≡ true → a ≡ b
  pub config_self : (a : ConfigParts) → same_config a a ≡ true
