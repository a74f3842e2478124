-- Whether a datagram of a session is reflected (RFC 8762, section 4.3; RFC 9503, section 4.1.1; RFC 5357, section 4.2).
use Rattle.std.specs.Prelude.{◌≡◌, ◌⊎◌, ℕ, ◌&&◌, false, List, length, drop, nat_lt, if◌then◌else◌}
use Rattle.refl_types.specs.declared.types.Mode.{Mode}
use Rattle.refl_types.specs.declared.types.Mode.TheVariants.{Plain, Auth, Twamp}
use Rattle.refl_types.specs.declared.config.ConfigParts.{ConfigParts}
use Rattle.refl_types.specs.declared.outcome.Silent.TheVariants.{Short, BadHmac, NoReply}
use Rattle.refl_types.specs.Spelling.{block_octets}
use Rattle.stamp_auth.specs.Request.{has_base_hmac}
use Rattle.tlv_actions.specs.Planned.{no_reply}
use Rattle.reflect_core.specs.declared.judging.Judged.{Judged}
use Rattle.reflect_core.specs.declared.judging.Judged.TheVariants.{Reflect, Silent}
use Rattle.reflect_core.specs.Ends.{has_intact_tail, may_redirect}

abbrev pub judged_length : ℕ → List ℕ → Judged
judged_length least octets = if nat_lt (length octets) least then Silent Short else Reflect

abbrev pub judged_auth : ConfigParts → List ℕ → Judged
judged_auth c octets =
    if nat_lt (length octets) 112 then Silent Short
    else (if has_base_hmac (block_octets c.key) octets then Reflect
    else Silent BadHmac)

-- In mode Auth the HMAC of the base packet is compared besides.
abbrev pub judged_base : Mode → ConfigParts → List ℕ → Judged
judged_base Plain c octets = judged_length 44 octets
judged_base Twamp c octets = judged_length 14 octets
judged_base Auth c octets = judged_auth c octets

-- A tail whose integrity hasn't failed may ask for no reply.
abbrev pub judged_tail : ℕ → Mode → ConfigParts → List ℕ → Judged
judged_tail len mode c octets =
    if no_reply c (drop len octets) && has_intact_tail len mode c octets then Silent NoReply else Reflect

abbrev pub judged_behind : Mode → ConfigParts → List ℕ → Judged
judged_behind Plain c octets = judged_tail 44 Plain c octets
judged_behind Twamp c octets = Reflect
judged_behind Auth c octets = judged_tail 112 Auth c octets

-- the base packet, and then the tail
abbrev pub and_then : Judged → Judged → Judged
and_then (Silent cause) tail = Silent cause
and_then Reflect tail = tail

abbrev pub judgement : Mode → ConfigParts → List ℕ → Judged
judgement mode c octets = and_then (judged_base mode c octets) (judged_behind mode c octets)

-- a session whose tails can't say from where and to whom a reply is sent, and whose base packets have no HMAC: one of mode
-- Twamp, or one of mode Plain by its configuration
abbrev pub IsUsual : Mode → ConfigParts → Type 0
IsUsual mode c = (mode ≡ Twamp) ⊎ ((mode ≡ Plain) × (may_redirect c ≡ false))
