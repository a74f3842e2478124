-- The tail of a reply (RFC 8972, section 4). What follows a malformed TLV, what becomes of a rest, and the flags after
-- a failed integrity are this project's own.
use Rattle.std.specs.Prelude.{◌≡◌, ℕ, ◌+◌, nat_lt, if◌then◌else◌, List, [], ◌∷◌, ◌++◌, length, take, drop, get_or, bit_or}
use Rattle.std.specs.Int.{w32, to_be_bytes}
use Rattle.octet_format.specs.Octets.{field}
use Rattle.refl_types.specs.declared.types.Mode.{Mode}
use Rattle.refl_types.specs.declared.config.ConfigParts.{ConfigParts}
use Rattle.refl_types.specs.Spelling.{block_octets}
use Rattle.tlv_chain.specs.Tlv.{Tlv, tlv_octets, tlvs_octets, unrecognized, malformed, integrity_failed}
use Rattle.tlv_chain.specs.Split.{Split, split}
use Rattle.tlv_actions.specs.Rows.{Facts, is_understood, is_malformed_at, reply_tlv}
use Rattle.tlv_integrity.specs.declared.integrity.Integrity.{Integrity}
use Rattle.tlv_integrity.specs.declared.integrity.Integrity.TheVariants.{Absent, Passed, Failed}
use Rattle.tlv_integrity.specs.Integrity.{integrity}
use Rattle.tlv_integrity.specs.Sealing.{sealed}

-- a rest of four octets or more begins with flags
abbrev pub with_flags : ℕ → List ℕ → List ℕ
with_flags flags rest = if nat_lt (length rest) 4 then rest else flags ∷ drop 1 rest

-- ---- where the integrity failed: as received, with the I flag everywhere

abbrev pub flagged : Tlv → Tlv
flagged t = record t { flags = bit_or t.flags integrity_failed }

abbrev pub flagged_octets : List Tlv → List ℕ
flagged_octets [] = []
flagged_octets (t ∷ ts) = tlv_octets (flagged t) ++ flagged_octets ts

abbrev pub failed_reply : Split → List ℕ
failed_reply s = flagged_octets s.tlvs ++ with_flags (bit_or (get_or s.rest 0 0) integrity_failed) s.rest

-- ---- where it didn't: each TLV by its type, until a malformed one; later octets as received

-- the flags of a header whose length passes the end
abbrev pub rest_flags : ConfigParts → List ℕ → ℕ
rest_flags c rest = if is_understood c (get_or rest 1 0) then malformed else bit_or malformed unrecognized

-- those that stand from a place on
abbrev pub processed : ConfigParts → Facts → ℕ → List Tlv → List ℕ → List ℕ
processed c facts at [] rest = with_flags (rest_flags c rest) rest
processed c facts at (t ∷ ts) rest =
    tlv_octets (reply_tlv c facts at t)
    ++ (if is_malformed_at c facts.plan at t then tlvs_octets ts ++ rest else processed c facts (at + 4 + length t.value) ts rest)

abbrev pub processed_from : ConfigParts → Facts → ℕ → Split → List ℕ
processed_from c facts at s = processed c facts at s.tlvs s.rest

abbrev pub processed_reply : ConfigParts → Facts → Split → List ℕ
processed_reply c facts s = processed_from c facts 0 s

-- ---- the tail of a reply

abbrev pub reply_by : Integrity → ConfigParts → Facts → List ℕ → Split → List ℕ
reply_by Failed c facts answered s = failed_reply s
reply_by Absent c facts answered s = processed_reply c facts s
reply_by (Passed at) c facts answered s = sealed (block_octets c.key) answered at (processed_reply c facts s)

-- asked and answered are the octets of the Sequence Numbers of the request and of the reply
unfoldable pub tail_reply : Mode → ConfigParts → Facts → List ℕ → List ℕ → List ℕ → List ℕ
tail_reply mode c facts asked answered tail = reply_by (integrity mode c asked tail) c facts answered (split tail)

-- the tail of the reply to a datagram whose base packet has as many octets, with a Sequence Number of the reply
abbrev pub tail_after : ℕ → Mode → ConfigParts → Facts → ℕ → List ℕ → List ℕ
tail_after len mode c facts sequence octets = tail_reply mode c facts (field 0 4 octets) (to_be_bytes w32 sequence) (drop len octets)

-- it stands in a buffer after as many octets, and all others are as before
abbrev pub WritesTail : Mode → ConfigParts → Facts → ℕ → ℕ → List ℕ → List ℕ → List ℕ → Type 0
WritesTail mode c facts sequence len octets old new =
    new ≡ take len old ++ tail_after len mode c facts sequence octets ++ drop (length octets) old
