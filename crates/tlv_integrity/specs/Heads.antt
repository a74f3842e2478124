-- The heads of a tail: the types of the TLVs of its split, and the type octet of a rest of four octets or more. They are
-- words of this project's reading of RFC 8972, section 4.8.
use Rattle.std.specs.Prelude.{ℕ, ◌+◌, Bool, true, false, ◌==◌, nat_lt, if◌then◌else◌, List, [], ◌∷◌, ◌++◌, length, get_or, Option, Some, None, option_to_list}
use Rattle.tlv_chain.specs.Tlv.{Tlv, extra_padding, hmac}
use Rattle.tlv_chain.specs.Split.{Split}

abbrev pub rest_head : List ℕ → Option ℕ
rest_head rest = if nat_lt (length rest) 4 then None else Some (get_or rest 1 0)

abbrev pub kinds : List Tlv → List ℕ
kinds [] = []
kinds (t ∷ ts) = t.kind ∷ kinds ts

abbrev pub heads : Split → List ℕ
heads s = kinds s.tlvs ++ option_to_list (rest_head s.rest)

abbrev pub all_padding : List ℕ → Bool
all_padding [] = true
all_padding (kind ∷ more) = if kind == extra_padding then all_padding more else false

-- no head, or one of type 1
abbrev pub is_lone_padding : List ℕ → Bool
is_lone_padding [] = true
is_lone_padding (kind ∷ []) = kind == extra_padding
is_lone_padding (kind ∷ next ∷ more) = false

abbrev pub has_hmac : List ℕ → Bool
has_hmac [] = false
has_hmac (kind ∷ more) = if kind == hmac then true else has_hmac more

-- ---- the first TLV of type 8

-- its place, its value, and the TLVs after it
pub record Placed : Type 0 where
  pub at : ℕ
  pub value : List ℕ
  pub after : List Tlv

-- of TLVs that stand from a place on
abbrev pub first_from : ℕ → List Tlv → Option Placed
first_from at [] = None
first_from at (t ∷ ts) =
    if t.kind == hmac then Some (record { at = at; value = t.value; after = ts })
    else first_from (at + 4 + length t.value) ts
