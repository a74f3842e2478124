-- What the walks to the first HMAC TLV and over padding keep.
use Rattle.std.proofs.Common.{◌≡◌, ℕ, ◌+◌, ◌≤◌, ◌∙◌, Bool, true, false, if◌then◌else◌, eqb, List, ◌∷◌, length, drop, Some, option_to_list, refl, sym, ap, subst, arith}
use Rattle.tlv_chain.specs.declared.span.Span.{Span}
use Rattle.tlv_chain.specs.Tlv.{Tlv}
use Rattle.tlv_chain.specs.Split.{Split, split, add_first}
use Rattle.tlv_chain.specs.Walking.{Walking, IsAtRest, WentPast, tlv_at}
use Rattle.tlv_chain.proofs.Walks.{step_of, rest_of, past, length-value_at}
use Rattle.tlv_integrity.specs.Heads.{first_from, heads, rest_head, all_padding}
use Rattle.tlv_integrity.specs.InnerSteps.{IsFirstHmac, HasNoHmac}

-- ---- to the first HMAC TLV

pub record IsAhead (tail : List ℕ) (w : Walking) : Type 0 where
  pub of : w.tail ≡ tail
  pub within : w.at ≤ length tail
  pub first : first_from w.at (split (drop w.at tail)).tlvs ≡ first_from 0 (split tail).tlvs
  pub rest : (split (drop w.at tail)).rest ≡ (split tail).rest

pub ahead_start : (tail : List ℕ) → let w : Walking = record { tail = tail; at = 0 } in IsAhead tail w
ahead_start tail = record { of = refl; within = omega arith; first = refl; rest = refl }

pub first_skips : (at : ℕ) (t : Tlv) (ts : List Tlv) → eqb t.kind 8 ≡ false → first_from at (t ∷ ts) ≡ first_from (at + 4 + length t.value) ts
first_skips at t ts e = rw e refl

pub first_takes : (at : ℕ) (t : Tlv) (ts : List Tlv) → eqb t.kind 8 ≡ true → first_from at (t ∷ ts) ≡ Some (record { at = at; value = t.value; after = ts })
first_takes at t ts e = rw e refl

pub ahead_more : (tail : List ℕ) (old : Walking) (s : Span) (new : Walking) → IsAhead tail old → WentPast old s new → eqb s.kind 8 ≡ false → IsAhead tail new
ahead_more tail old s new ahead went other =
    let step = step_of tail old s new ahead.of went in
    let to : new.at ≡ past s = omega (arith, went.to, went.from) in
    let here : first_from s.at (split (drop s.at tail)).tlvs ≡ first_from 0 (split tail).tlvs = subst (λ (n : ℕ). first_from n (split (drop n tail)).tlvs ≡ first_from 0 (split tail).tlvs) (sym went.from) ahead.first in
    let rest : (split (drop s.at tail)).rest ≡ (split tail).rest = subst (λ (n : ℕ). (split (drop n tail)).rest ≡ (split tail).rest) (sym went.from) ahead.rest in
    let ts = (split (drop (past s) tail)).tlvs in
    let on : first_from (past s) ts ≡ first_from s.at (split (drop s.at tail)).tlvs =
    sym (ap (λ (x : Split). first_from s.at x.tlvs) step.split ∙ first_skips s.at (tlv_at tail s) ts other ∙ ap (λ (n : ℕ). first_from (s.at + 4 + n) ts) (length-value_at tail s step.within)) in
    record {
      of = went.tail ∙ ahead.of;
      within = omega (arith, to, step.within);
      first = subst (λ (n : ℕ). first_from n (split (drop n tail)).tlvs ≡ first_from 0 (split tail).tlvs) (sym to) (on ∙ here);
      rest = subst (λ (n : ℕ). (split (drop n tail)).rest ≡ (split tail).rest) (sym to) (sym (ap (λ (x : Split). x.rest) step.split) ∙ rest);
    }

pub ahead_found : (tail : List ℕ) (old : Walking) (s : Span) (new : Walking) → IsAhead tail old → WentPast old s new → eqb s.kind 8 ≡ true → IsFirstHmac tail s
ahead_found tail old s new ahead went is =
    let step = step_of tail old s new ahead.of went in
    let here : first_from s.at (split (drop s.at tail)).tlvs ≡ first_from 0 (split tail).tlvs = subst (λ (n : ℕ). first_from n (split (drop n tail)).tlvs ≡ first_from 0 (split tail).tlvs) (sym went.from) ahead.first in
    let rest : (split (drop s.at tail)).rest ≡ (split tail).rest = subst (λ (n : ℕ). (split (drop n tail)).rest ≡ (split tail).rest) (sym went.from) ahead.rest in
    record {
      first = sym here ∙ ap (λ (x : Split). first_from s.at x.tlvs) step.split ∙ first_takes s.at (tlv_at tail s) (split (drop (past s) tail)).tlvs is;
      within = step.within;
      rest = sym rest ∙ ap (λ (x : Split). x.rest) step.split;
    }

pub ahead_none : (tail : List ℕ) (old new : Walking) → IsAhead tail old → IsAtRest old new → HasNoHmac tail new.at
ahead_none tail old new ahead stay =
    let none = rest_of tail old new ahead.of stay in
    let at : old.at ≡ new.at = ap (λ (w : Walking). w.at) (sym stay.same) in
    record {
      none = sym (subst (λ (n : ℕ). first_from n (split (drop n tail)).tlvs ≡ first_from 0 (split tail).tlvs) at ahead.first) ∙ ap (λ (x : Split). first_from new.at x.tlvs) none;
      within = omega (arith, at, ahead.within);
      rest = sym (subst (λ (n : ℕ). (split (drop n tail)).rest ≡ (split tail).rest) at ahead.rest) ∙ ap (λ (x : Split). x.rest) none;
    }

-- ---- over padding

pub record IsPadded (octets : List ℕ) (w : Walking) : Type 0 where
  pub of : w.tail ≡ octets
  pub within : w.at ≤ length octets
  pub same : all_padding (heads (split (drop w.at octets))) ≡ all_padding (heads (split octets))

pub padded_start : (octets : List ℕ) → let w : Walking = record { tail = octets; at = 0 } in IsPadded octets w
padded_start octets = record { of = refl; within = omega arith; same = refl }

padding_first : (t : Tlv) (s : Split) (b : Bool) → eqb t.kind 1 ≡ b → all_padding (heads (add_first t s)) ≡ (if b then all_padding (heads s) else false)
padding_first t s b e = rw e refl

here_padded : (octets : List ℕ) (old : Walking) (s : Span) (new : Walking) → IsPadded octets old → WentPast old s new → (b : Bool) → eqb s.kind 1 ≡ b → (if b then all_padding (heads (split (drop (past s) octets))) else false) ≡ all_padding (heads (split octets))
here_padded octets old s new padded went b e =
    let step = step_of octets old s new padded.of went in
    let here : all_padding (heads (split (drop s.at octets))) ≡ all_padding (heads (split octets)) = subst (λ (n : ℕ). all_padding (heads (split (drop n octets))) ≡ all_padding (heads (split octets))) (sym went.from) padded.same in
    sym (ap (λ (x : Split). all_padding (heads x)) step.split ∙ padding_first (tlv_at octets s) (split (drop (past s) octets)) b e) ∙ here

pub padded_more : (octets : List ℕ) (old : Walking) (s : Span) (new : Walking) → IsPadded octets old → WentPast old s new → eqb s.kind 1 ≡ true → IsPadded octets new
padded_more octets old s new padded went is =
    let step = step_of octets old s new padded.of went in
    let to : new.at ≡ past s = omega (arith, went.to, went.from) in
    record {
      of = went.tail ∙ padded.of;
      within = omega (arith, to, step.within);
      same = subst (λ (n : ℕ). all_padding (heads (split (drop n octets))) ≡ all_padding (heads (split octets))) (sym to) (here_padded octets old s new padded went true is);
    }

pub padded_not : (octets : List ℕ) (old : Walking) (s : Span) (new : Walking) → IsPadded octets old → WentPast old s new → eqb s.kind 1 ≡ false → false ≡ all_padding (heads (split octets))
padded_not octets old s new padded went other = here_padded octets old s new padded went false other

pub padded_end : (octets : List ℕ) (old new : Walking) → IsPadded octets old → IsAtRest old new → all_padding (option_to_list (rest_head (drop new.at octets))) ≡ all_padding (heads (split octets))
padded_end octets old new padded stay =
    let none = rest_of octets old new padded.of stay in
    let at : old.at ≡ new.at = ap (λ (w : Walking). w.at) (sym stay.same) in
    sym (ap (λ (x : Split). all_padding (heads x)) none) ∙ subst (λ (n : ℕ). all_padding (heads (split (drop n octets))) ≡ all_padding (heads (split octets))) at padded.same
