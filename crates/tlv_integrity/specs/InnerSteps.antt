-- What the steps of a check say of the tail. Only functions and proofs inside this crate cite these words; what a caller is
-- told is in Integrity.antt.
use Rattle.std.specs.Prelude.{◌≡◌, ℕ, ◌+◌, ◌≤◌, Bool, false, ◌==◌, if◌then◌else◌, List, length, drop, Option, Some, None}
use Rattle.octet_format.specs.Octets.{field}
use Rattle.refl_types.specs.declared.types.Mode.{Mode}
use Rattle.tlv_chain.specs.declared.span.Span.{Span}
use Rattle.tlv_chain.specs.Tlv.{hmac}
use Rattle.tlv_chain.specs.Split.{split}
use Rattle.tlv_integrity.specs.declared.heads.First.{First}
use Rattle.tlv_integrity.specs.declared.heads.First.TheVariants.{Hmac, Rest}
use Rattle.tlv_integrity.specs.declared.integrity.Integrity.{Integrity}
use Rattle.tlv_integrity.specs.declared.integrity.Integrity.TheVariants.{Absent, Failed}
use Rattle.tlv_integrity.specs.Heads.{Placed, first_from}
use Rattle.tlv_integrity.specs.Integrity.{may_lack_hmac}

-- ---- the first TLV of type 8

-- the TLV at a span
abbrev pub placed_at : List ℕ → Span → Placed
placed_at tail span = record { at = span.at; value = field (span.at + 4) span.len tail; after = (split (drop (span.at + 4 + span.len) tail)).tlvs }

-- the first TLV of type 8 stands at a span, which the split goes on from
pub record IsFirstHmac (tail : List ℕ) (span : Span) : Type 0 where
  pub first : first_from 0 (split tail).tlvs ≡ Some (placed_at tail span)
  pub within : span.at + 4 + span.len ≤ length tail
  pub rest : (split tail).rest ≡ (split (drop (span.at + 4 + span.len) tail)).rest

-- there is none, and the rest begins at a place
pub record HasNoHmac (tail : List ℕ) (at : ℕ) : Type 0 where
  pub none : first_from 0 (split tail).tlvs ≡ None
  pub within : at ≤ length tail
  pub rest : (split tail).rest ≡ drop at tail

abbrev pub IsFirst : List ℕ → First → Type 0
IsFirst tail (Hmac span) = IsFirstHmac tail span
IsFirst tail (Rest at) = HasNoHmac tail at

-- ---- where no whole TLV is of type 8

abbrev pub is_hmac_head : Option ℕ → Bool
is_hmac_head None = false
is_hmac_head (Some kind) = kind == hmac

abbrev pub without : Mode → Option ℕ → List ℕ → Integrity
without mode head heads =
    if is_hmac_head head then Failed
    else (if may_lack_hmac mode heads then Absent else Failed)
