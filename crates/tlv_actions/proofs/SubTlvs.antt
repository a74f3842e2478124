-- The one whole sub-TLV that a value is.
use Rattle.std.proofs.Common.{◌≡◌, ℕ, ◌+◌, ◌∙◌, Bool, false, List, [], ◌∷◌, ◌++◌, length, drop, Option, Some, None, refl, sym, ap, subst, arith}
use Rattle.std.specs.Prelude.{option_map, option_and_then}
use Rattle.std.specs.Option.{option_map_or}
use Rattle.std.proofs.lemmas.List.{length-drop, drop_all}
use Rattle.octet_format.specs.Octets.{IsBytes, field}
use Rattle.octet_format.proofs.Obeys.{IsBytes-drop}
use Rattle.refl_types.specs.declared.types.Endpoint.{Endpoint}
use Rattle.refl_types.specs.declared.config.ConfigParts.{ConfigParts}
use Rattle.tlv_chain.specs.declared.span.Span.{Span}
use Rattle.tlv_chain.specs.Tlv.{Tlv, tlvs_octets}
use Rattle.tlv_chain.specs.Split.{Split, split, split_within, add_first}
use Rattle.tlv_chain.specs.Walking.{Walking, IsAtRest, WentPast, tlv_at}
use Rattle.tlv_chain.proofs.SplitFacts.{split_is}
use Rattle.tlv_chain.proofs.Walks.{step_of, rest_of, past}
use Rattle.tlv_actions.specs.declared.planning.UsablePath.{UsablePath}
use Rattle.tlv_actions.specs.Placed.{PlacedTlv, placed_at, acted, first_of}
use Rattle.tlv_actions.specs.Planned.{alone, sub_tlv, return_to, usable_path_in, usable_path, wants_none, no_reply}

at_start : (value : List ℕ) (at : ℕ) → at ≡ 0 → drop at value ≡ value
at_start value at e = subst (λ (n : ℕ). drop n value ≡ value) (sym e) refl

split_empty : split [] ≡ record { tlvs = []; rest = [] }
unfolding split split_within
split_empty = refl

module _ (value : List ℕ) (old : Walking) (s : Span) (new : Walking) (of : old.tail ≡ value) (at : old.at ≡ 0) (went : WentPast old s new) where
  first_and_rest : split value ≡ add_first (tlv_at value s) (split (drop new.at value))
  first_and_rest =
      let step = step_of value old s new of went in
      let to : past s ≡ new.at = omega (arith, went.to, went.from) in
      ap split (sym (at_start value s.at (went.from ∙ at))) ∙ step.split ∙ ap (λ (n : ℕ). add_first (tlv_at value s) (split (drop n value))) to

  -- nothing is left behind the first TLV
  pub alone_is : new.at ≡ length value → Some (tlv_at value s) ≡ sub_tlv value
  alone_is end_ =
      let none : drop new.at value ≡ [] = ap (λ (n : ℕ). drop n value) end_ ∙ drop_all (length value) value (omega arith) in
      let whole : split value ≡ add_first (tlv_at value s) (record { tlvs = []; rest = [] }) = first_and_rest ∙ ap (λ (o : List ℕ). add_first (tlv_at value s) (split o)) none ∙ ap (add_first (tlv_at value s)) split_empty in
      ap (λ (x : Split). alone x.tlvs x.rest) (sym whole)

  -- something is left behind it
  pub not_alone : IsBytes value → (new.at ≡ length value → ⊥) → None ≡ sub_tlv value
  not_alone bytes more =
      let rest = drop new.at value in
      let parts = (split_is rest (IsBytes-drop new.at value bytes)).parts in
      let some : rest ≡ [] → ⊥ = λ e. more (omega (arith, ap length e, length-drop new.at value, went.within, ap length of)) in
      no_other (tlv_at value s) (split rest).tlvs (split rest).rest (λ e. some (parts ∙ e)) ∙ ap (λ (x : Split). alone x.tlvs x.rest) (sym first_and_rest)
    where
      no_other : (t : Tlv) (ts : List Tlv) (r : List ℕ) → (tlvs_octets ts ++ r ≡ [] → ⊥) → None ≡ alone (t ∷ ts) r
      no_other t [] [] f = absurd (f refl)
      no_other t [] (x ∷ r) f = refl
      no_other t (u ∷ ts) r f = refl

-- there is no whole TLV
pub none_is : (value : List ℕ) (old new : Walking) → old.tail ≡ value → old.at ≡ 0 → IsAtRest old new → None ≡ sub_tlv value
none_is value old new of at rest =
    let same : new.at ≡ 0 = ap (λ (w : Walking). w.at) rest.same ∙ at in
    let none = rest_of value old new of rest in
    ap (λ (x : Split). alone x.tlvs x.rest) (sym none) ∙ ap (λ (o : List ℕ). alone (split o).tlvs (split o).rest) (at_start value new.at same)

-- ---- what its Return Path asks for

module _ (c : ConfigParts) (tail value octets : List ℕ) (span sub : Span) (value_is : value ≡ field (span.at + 4) span.len tail) (octets_is : octets ≡ field (sub.at + 4) sub.len value) (first : Some (placed_at tail span) ≡ first_of c 10 (acted c tail)) (only : Some (tlv_at value sub) ≡ sub_tlv value) where
  abbrev read : Tlv
  read = record { flags = sub.flags; kind = sub.kind; value = octets }

  is_sub : Some read ≡ sub_tlv (field (span.at + 4) span.len tail)
  is_sub = ap (λ (o : List ℕ). let t : Tlv = record { flags = sub.flags; kind = sub.kind; value = o } in Some t) octets_is ∙ only ∙ ap sub_tlv value_is

  pub none_wanted : (b : Bool) → b ≡ wants_none read → b ≡ no_reply c tail
  unfolding no_reply
  none_wanted b e =
      e ∙ ap (λ (o : Option Tlv). option_map_or wants_none o false) is_sub
      ∙ ap (λ (o : Option PlacedTlv). option_map_or wants_none (option_and_then (λ (p : PlacedTlv). sub_tlv p.tlv.value) o) false) first

  pub path_is : (peer : Endpoint) (to : Option Endpoint) → to ≡ return_to peer read → option_map (λ (x : Endpoint). let u : UsablePath = record { at = span.at; to = x } in u) to ≡ usable_path c peer tail
  path_is peer to e =
      ap (option_map (λ (x : Endpoint). let u : UsablePath = record { at = span.at; to = x } in u)) (e ∙ ap (option_and_then (return_to peer)) is_sub)
      ∙ ap (option_and_then (usable_path_in peer)) first
