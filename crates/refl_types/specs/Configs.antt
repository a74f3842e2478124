-- Which parts make a configuration, and the first fault otherwise.
use Rattle.std.specs.Prelude.{◌≡◌, ℕ, ◌<◌, ◌≤◌, Bool, true, ◌==◌, ◌||◌, not, nat_lt, if◌then◌else◌, Result, Ok, Err}
use Rattle.std.specs.List.{list_all, range_with_len}
use Rattle.std.specs.Int.{bit_at}
use Rattle.refl_types.specs.declared.config.ConfigParts.{ConfigParts}
use Rattle.refl_types.specs.declared.config.ConfigFault.{ConfigFault}
use Rattle.refl_types.specs.declared.config.ConfigFault.TheVariants.{ZeroMultiplier, ScaleTooLarge, UnknownTlv}

-- ---- TLV types (RFC 8972, section 4; RFC 9503, section 3), as the bits of a number

-- bit t is set
abbrev pub supports : ℕ → ℕ → Bool
supports tlvs t = bit_at tlvs t == 1

-- Timestamp Information, Direct Measurement, Destination Node Address, Return Path
abbrev pub may_be_supported : ℕ → Bool
may_be_supported t = t == 3 || t == 5 || t == 9 || t == 10

-- each of the 32 bits that is set is that of a type that may be supported
unfoldable pub are_known_tlvs : ℕ → Bool
are_known_tlvs tlvs = list_all (λ t. not (supports tlvs t) || may_be_supported t) (range_with_len 0 32)

-- ---- configurations

pub record IsConfig (p : ConfigParts) : Type 0 where
  pub multiplier : 0 < p.multiplier
  pub scale : p.scale ≤ 63
  pub tlvs : are_known_tlvs p.tlvs ≡ true

abbrev pub config_made : ConfigParts → Result ConfigParts ConfigFault
config_made p =
    if p.multiplier == 0 then Err ZeroMultiplier
    else (if nat_lt 63 p.scale then Err ScaleTooLarge
    else (if not (are_known_tlvs p.tlvs) then Err UnknownTlv
    else Ok p))
