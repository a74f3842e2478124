-- The fields of a reply (RFC 8762, section 4.3).
use Rattle.std.specs.Prelude.{ℕ, ◌+◌, ◌*◌, List, [], ◌∷◌, if◌then◌else◌, unwrap_or}
use Rattle.refl_types.specs.declared.config.ConfigParts.{ConfigParts}
use Rattle.refl_types.specs.declared.types.Meta.{Meta}
use Rattle.refl_types.specs.Spelling.{flag, is_ptp}
use Rattle.ntp_time.specs.Timestamp.{timestamp}
use Rattle.reflect_core.specs.declared.session.Draw.{Draw}
use Rattle.stamp_packet.specs.declared.fields.SenderBase.{SenderBase}
use Rattle.stamp_packet.specs.declared.fields.ReplyBase.{ReplyBase}

-- The Error Estimate: S, Z, six bits of Scale, eight of Multiplier (RFC 4656, section 4.1.2; RFC 8186, section 2.1). Z
-- tells the format of the reflector's own clock.
abbrev pub error_estimate : ConfigParts → List ℕ
error_estimate c = (flag c.synced * 0x80 + flag (is_ptp c.clock) * 0x40 + c.scale) ∷ c.multiplier ∷ []

-- A stateful reflector counts for itself, a stateless one copies (RFC 8762, section 4). A TTL that wasn't told is 255.
unfoldable pub reply_base : ConfigParts → Draw → Meta → SenderBase → ReplyBase
reply_base c draw m s = record {
  sequence = if c.stateful then draw.number else s.sequence;
  timestamp = timestamp c.clock c.offset draw.sending;
  error = error_estimate c;
  ssid = s.ssid;
  received = timestamp c.clock c.offset m.arrival;
  sender = s;
  ttl = unwrap_or m.ttl 255;
}
