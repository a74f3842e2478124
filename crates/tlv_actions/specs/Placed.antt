-- The TLVs of a tail by their places, and which of them are acted on. That those after a malformed one aren't is this
-- project's own.
use Rattle.std.specs.Prelude.{ℕ, ◌+◌, Bool, true, ◌&&◌, ◌==◌, not, if◌then◌else◌, List, [], ◌∷◌, length, Option, None}
use Rattle.std.specs.List.{find}
use Rattle.refl_types.specs.declared.config.ConfigParts.{ConfigParts}
use Rattle.tlv_chain.specs.declared.span.Span.{Span}
use Rattle.tlv_chain.specs.Tlv.{Tlv, destination_node_address}
use Rattle.tlv_chain.specs.Split.{split}
use Rattle.tlv_chain.specs.Walking.{tlv_at}
use Rattle.tlv_actions.specs.Rows.{is_understood, is_malformed}

pub record PlacedTlv : Type 0 where
  pub at : ℕ
  pub tlv : Tlv

-- TLVs that stand one after the other, from a place on
abbrev pub placed_from : ℕ → List Tlv → List PlacedTlv
placed_from at [] = []
placed_from at (t ∷ ts) = record { at = at; tlv = t } ∷ placed_from (at + 4 + length t.value) ts

abbrev pub placed : List ℕ → List PlacedTlv
placed tail = placed_from 0 (split tail).tlvs

-- those before the first malformed one, where a Destination Node Address may be the first one or may not
abbrev pub before_malformed : ConfigParts → Bool → List PlacedTlv → List PlacedTlv
before_malformed c first [] = []
before_malformed c first (p ∷ ps) =
    if is_malformed c first p.tlv.kind (length p.tlv.value) then []
    else p ∷ before_malformed c (first && not (p.tlv.kind == destination_node_address)) ps

abbrev pub acted : ConfigParts → List ℕ → List PlacedTlv
acted c tail = before_malformed c true (placed tail)

-- the first one of a type, where that type is understood
abbrev pub first_of : ConfigParts → ℕ → List PlacedTlv → Option PlacedTlv
first_of c kind ps = if is_understood c kind then find (λ p. p.tlv.kind == kind) ps else None

-- the one at a span of a tail
abbrev pub placed_at : List ℕ → Span → PlacedTlv
placed_at tail span = record { at = span.at; tlv = tlv_at tail span }
