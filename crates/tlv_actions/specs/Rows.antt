-- What a reply has for one TLV of its request (RFC 8972, section 4; RFC 9503, sections 3 and 4). Which types are supported
-- besides Extra Padding, that 4 is the only length of Timestamp Information, and every flag and length of the types of
-- RFC 9503 is this project's own.
use Rattle.std.specs.Prelude.{◌≡◌, ℕ, ◌+◌, ◌%◌, ◌^◌, Bool, true, false, ◌==◌, ◌&&◌, ◌||◌, not, if◌then◌else◌, List, ◌++◌, length, take, drop, Option, Some, None, is_some}
use Rattle.std.specs.Int.{w32, to_be_bytes}
use Rattle.refl_types.specs.declared.config.ConfigParts.{ConfigParts}
use Rattle.refl_types.specs.Configs.{supports, may_be_supported}
use Rattle.tlv_chain.specs.declared.span.Span.{Span}
use Rattle.tlv_chain.specs.Tlv.{Tlv, tlv_octets, extra_padding, timestamp_information, direct_measurement, hmac, destination_node_address, return_path, unrecognized, malformed}
use Rattle.tlv_actions.specs.declared.facts.Plan.{Plan}
use Rattle.tlv_actions.specs.declared.facts.ReplyFacts as told
use Rattle.tlv_actions.specs.declared.reply.Acted.{Acted}
use Rattle.tlv_actions.specs.declared.reply.Acted.TheVariants.{Done, Malformed}

-- Extra Padding always, HMAC with a key, and others by their bit of tlvs
unfoldable pub is_understood : ConfigParts → ℕ → Bool
is_understood c kind =
    kind == extra_padding || (may_be_supported kind && supports c.tlvs kind) || (kind == hmac && is_some c.key)

unfoldable pub has_valid_length : ℕ → ℕ → Bool
has_valid_length kind len =
    if kind == timestamp_information then len == 4
    else (if kind == direct_measurement then len == 12
    else (if kind == hmac then len == 16
    else (if kind == destination_node_address then len == 4 || len == 16
    else true)))

-- Whether a TLV of a type and a length is malformed. A Destination Node Address after the first one never is.
unfoldable pub is_malformed : ConfigParts → Bool → ℕ → ℕ → Bool
is_malformed c first kind len =
    is_understood c kind && not (has_valid_length kind len) && (first || not (kind == destination_node_address))

-- ---- values

-- Direct Measurement (RFC 8972, section 4.5): the sender's count as received, how many were received with this one, how
-- many were sent before. That n counts both is this project's own.
abbrev pub measured : ℕ → List ℕ → List ℕ
measured n sent = sent ++ to_be_bytes w32 ((n + 1) % 2 ^ 32) ++ to_be_bytes w32 n

abbrev pub reply_value : ConfigParts → ℕ → Tlv → List ℕ
reply_value c n t =
    if t.kind == timestamp_information then c.info
    else (if t.kind == direct_measurement then measured n (take 4 t.value)
    else t.value)

-- ---- the reply of the TLV at a place

-- what is told of a reply besides its configuration: the number that was drawn, and the plan
pub record Facts : Type 0 where
  pub n : ℕ
  pub plan : Plan

abbrev pub facts_of : told.ReplyFacts → Facts
facts_of f = record { n = f.n; plan = f.plan.now }

abbrev pub is_at : Option ℕ → ℕ → Bool
is_at None at = false
is_at (Some place) at = place == at

-- Of a type that is understood. A Destination Node Address has U where it isn't an own address that is acted on, and a
-- Return Path where it isn't followed.
abbrev pub flags_at : Plan → ℕ → ℕ → ℕ
flags_at plan at kind =
    if kind == destination_node_address then (if is_at plan.own_at at then 0 else unrecognized)
    else (if kind == return_path then (if is_at plan.path_at at then 0 else unrecognized)
    else 0)

abbrev pub is_malformed_at : ConfigParts → Plan → ℕ → Tlv → Bool
is_malformed_at c plan at t = is_malformed c (is_at plan.nine at) t.kind (length t.value)

unfoldable pub reply_tlv : ConfigParts → Facts → ℕ → Tlv → Tlv
reply_tlv c facts at t =
    if not (is_understood c t.kind) then record t { flags = unrecognized }
    else (if is_malformed_at c facts.plan at t then record t { flags = malformed }
    else record { flags = flags_at facts.plan at t.kind; kind = t.kind; value = reply_value c facts.n t })

abbrev pub acted_on : ConfigParts → Plan → ℕ → Tlv → Acted
acted_on c plan at t = if is_malformed_at c plan at t then Malformed else Done

-- ---- octets

-- the octets at a span are those of a TLV, and all others are as before
pub record WritesTlv (old : List ℕ) (span : Span) (t : Tlv) (new : List ℕ) : Type 0 where
  pub octets : new ≡ take span.at old ++ tlv_octets t ++ drop (span.at + 4 + span.len) old

-- the octets of a TLV stand at a span
pub record HoldsTlv (octets : List ℕ) (span : Span) (t : Tlv) : Type 0 where
  pub holds : drop span.at octets ≡ tlv_octets t ++ drop (span.at + 4 + span.len) octets

-- the TLV of a value at a span
abbrev pub tlv_of : Span → List ℕ → Tlv
tlv_of span value = record { flags = span.flags; kind = span.kind; value = value }
