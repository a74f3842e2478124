-- The integrity of a tail. Which octets the HMAC TLV covers, where it may stand and when it must be there is this
-- project's reading of RFC 8972, section 4.8.
use Rattle.std.specs.Prelude.{ℕ, ◌+◌, ◌≤◌, IsSome, Bool, true, ◌==◌, ◌&&◌, nat_eq, if◌then◌else◌, List, ◌++◌, length, take, Option, Some, None, option_to_list}
use Rattle.std.specs.Cmp.Lexicographic.{pointwise}
use Rattle.hmac_sha256.specs.Hmac.{mac128_of}
use Rattle.refl_types.specs.declared.types.Mode.{Mode}
use Rattle.refl_types.specs.declared.types.Mode.TheVariants.{Plain, Auth, Twamp}
use Rattle.refl_types.specs.declared.config.ConfigParts.{ConfigParts}
use Rattle.tlv_chain.specs.Split.{Split, split}
use Rattle.tlv_integrity.specs.declared.integrity.Integrity.{Integrity}
use Rattle.tlv_integrity.specs.declared.integrity.Integrity.TheVariants.{Absent, Passed, Failed}
use Rattle.tlv_integrity.specs.Heads.{Placed, first_from, heads, kinds, rest_head, all_padding, is_lone_padding, has_hmac}

-- whether heads without type 8 may stand alone: in mode Auth only none, or one of type 1
abbrev pub may_lack_hmac : Mode → List ℕ → Bool
may_lack_hmac Auth heads = is_lone_padding heads
may_lack_hmac Plain heads = true
may_lack_hmac Twamp heads = true

-- the first TLV of type 8 has 16 octets, which are the HMAC of the Sequence Number and the tail before it, and every
-- later head is 1
unfoldable pub fits : List ℕ → List ℕ → List ℕ → Placed → List ℕ → Bool
fits block sequence tail p rest =
    length p.value == 16 && all_padding (kinds p.after ++ option_to_list (rest_head rest))
    && pointwise nat_eq p.value (mac128_of block (sequence ++ take p.at tail))

-- some head is 8
abbrev pub covered : List ℕ → List ℕ → List ℕ → Option Placed → List ℕ → Integrity
covered block sequence tail None rest = Failed
covered block sequence tail (Some p) rest = if fits block sequence tail p rest then Passed p.at else Failed

abbrev pub integrity_of : Mode → List ℕ → List ℕ → List ℕ → Split → Integrity
integrity_of mode block sequence tail s =
    if has_hmac (heads s) then covered block sequence tail (first_from 0 s.tlvs) s.rest
    else (if may_lack_hmac mode (heads s) then Absent else Failed)

abbrev pub integrity_under : Mode → Option (List ℕ) → List ℕ → List ℕ → Integrity
integrity_under mode None sequence tail = Absent
integrity_under mode (Some block) sequence tail = integrity_of mode block sequence tail (split tail)

-- of a tail, under a configuration and the request's Sequence Number
unfoldable pub integrity : Mode → ConfigParts → List ℕ → List ℕ → Integrity
integrity mode c sequence tail = integrity_under mode c.key sequence tail

-- a place is that of a whole HMAC TLV of a tail, under a key
abbrev pub IsPlaced : Integrity → ConfigParts → ℕ → Type 0
IsPlaced Absent c len = Unit {0}
IsPlaced Failed c len = Unit {0}
IsPlaced (Passed at) c len = IsSome c.key × (at + 20 ≤ len)
