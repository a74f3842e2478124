-- Which configurations serve a session of a mode (RFC 8762, section 4.4).
use Rattle.std.specs.Prelude.{◌≡◌, IsSome}
use Rattle.refl_types.specs.declared.types.Mode.{Mode}
use Rattle.refl_types.specs.declared.types.Mode.TheVariants.{Auth}
use Rattle.refl_types.specs.declared.config.ConfigParts.{ConfigParts}

-- a session of mode Auth has an HMAC key
abbrev pub HasHmacKey : Mode → ConfigParts → Type 0
HasHmacKey mode c = mode ≡ Auth → IsSome c.key
