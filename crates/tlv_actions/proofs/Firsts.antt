-- What a walk to the first TLV of a type keeps.
use Rattle.std.proofs.Common.{◌≡◌, ℕ, ◌+◌, ◌≤◌, ◌∙◌, Bool, true, false, ◌&&◌, not, eqb, List, [], ◌∷◌, length, drop, Option, Some, None, refl, sym, ap, arith}
use Rattle.std.specs.Prelude.{option_map}
use Rattle.std.specs.List.{find}
use Rattle.refl_types.specs.declared.config.ConfigParts.{ConfigParts}
use Rattle.tlv_chain.specs.declared.span.Span.{Span}
use Rattle.tlv_chain.specs.Split.{Split, split}
use Rattle.tlv_chain.specs.Walking.{Walking, IsAtRest, WentPast, tlv_at}
use Rattle.tlv_chain.proofs.Walks.{step_of, rest_of, past, length-value_at}
use Rattle.tlv_actions.specs.Rows.{is_understood, is_malformed}
use Rattle.tlv_actions.specs.Placed.{PlacedTlv, placed_from, placed, before_malformed, acted, placed_at, first_of}

abbrev first_in : ℕ → List PlacedTlv → Option PlacedTlv
first_in kind ps = find (λ p. eqb p.tlv.kind kind) ps

-- the TLVs of what isn't walked yet
abbrev pub placed_left : List ℕ → ℕ → List PlacedTlv
placed_left tail at = placed_from at (split (drop at tail)).tlvs

placed_step : (tail : List ℕ) (old : Walking) (s : Span) (new : Walking) → old.tail ≡ tail → WentPast old s new → placed_left tail old.at ≡ placed_at tail s ∷ placed_left tail new.at
placed_step tail old s new of went =
    let step = step_of tail old s new of went in
    let to : new.at ≡ past s = omega (arith, went.to, went.from) in
    let ts = (split (drop (past s) tail)).tlvs in
    ap (placed_left tail) (sym went.from)
    ∙ ap (λ (x : Split). placed_from s.at x.tlvs) step.split
    ∙ ap (λ (n : ℕ). placed_at tail s ∷ placed_from (s.at + 4 + n) ts) (length-value_at tail s step.within)
    ∙ ap (λ (n : ℕ). placed_at tail s ∷ placed_left tail n) (sym to)

placed_end : (tail : List ℕ) (old new : Walking) → old.tail ≡ tail → IsAtRest old new → placed_left tail old.at ≡ []
placed_end tail old new of rest =
    let at : old.at ≡ new.at = ap (λ (w : Walking). w.at) (sym rest.same) in
    ap (placed_left tail) at ∙ ap (λ (x : Split). placed_from new.at x.tlvs) (rest_of tail old new of rest)

-- ---- to the first of a type

pub record IsBefore (kind : ℕ) (tail : List ℕ) (w : Walking) : Type 0 where
  pub of : w.tail ≡ tail
  pub within : w.at ≤ length tail
  pub same : first_in kind (placed_left tail w.at) ≡ first_in kind (placed tail)

pub before_start : (kind : ℕ) (tail : List ℕ) → let w : Walking = record { tail = tail; at = 0 } in IsBefore kind tail w
before_start kind tail = record { of = refl; within = omega arith; same = refl }

find_skips : (kind : ℕ) (p : PlacedTlv) (ps : List PlacedTlv) → eqb p.tlv.kind kind ≡ false → first_in kind (p ∷ ps) ≡ first_in kind ps
find_skips kind p ps e = rw e refl

find_takes : (kind : ℕ) (p : PlacedTlv) (ps : List PlacedTlv) → eqb p.tlv.kind kind ≡ true → first_in kind (p ∷ ps) ≡ Some p
find_takes kind p ps e = rw e refl

pub before_more : (kind : ℕ) (tail : List ℕ) (old : Walking) (s : Span) (new : Walking) → IsBefore kind tail old → WentPast old s new → eqb s.kind kind ≡ false → IsBefore kind tail new
before_more kind tail old s new before went other =
    let step = step_of tail old s new before.of went in
    record {
      of = went.tail ∙ before.of;
      within = omega (arith, went.to, went.from, step.within);
      same = sym (find_skips kind (placed_at tail s) (placed_left tail new.at) other) ∙ sym (ap (first_in kind) (placed_step tail old s new before.of went)) ∙ before.same;
    }

pub before_found : (kind : ℕ) (tail : List ℕ) (old : Walking) (s : Span) (new : Walking) → IsBefore kind tail old → WentPast old s new → eqb s.kind kind ≡ true → Some (placed_at tail s) ≡ first_in kind (placed tail)
before_found kind tail old s new before went is =
    sym (find_takes kind (placed_at tail s) (placed_left tail new.at) is) ∙ sym (ap (first_in kind) (placed_step tail old s new before.of went)) ∙ before.same

pub before_none : (kind : ℕ) (tail : List ℕ) (old new : Walking) → IsBefore kind tail old → IsAtRest old new → None ≡ first_in kind (placed tail)
before_none kind tail old new before rest = sym (ap (first_in kind) (placed_end tail old new before.of rest)) ∙ before.same

-- ---- to the first of a type before a malformed one

pub record IsActing (c : ConfigParts) (kind : ℕ) (tail : List ℕ) (first : Bool) (w : Walking) : Type 0 where
  pub of : w.tail ≡ tail
  pub within : w.at ≤ length tail
  pub same : first_in kind (before_malformed c first (placed_left tail w.at)) ≡ first_in kind (acted c tail)

pub acting_start : (c : ConfigParts) (kind : ℕ) (tail : List ℕ) → let w : Walking = record { tail = tail; at = 0 } in IsActing c kind tail true w
acting_start c kind tail = record { of = refl; within = omega arith; same = refl }

acting_stops : (c : ConfigParts) (first : Bool) (p : PlacedTlv) (ps : List PlacedTlv) → is_malformed c first p.tlv.kind (length p.tlv.value) ≡ true → before_malformed c first (p ∷ ps) ≡ []
acting_stops c first p ps e = rw e refl

acting_goes : (c : ConfigParts) (first : Bool) (p : PlacedTlv) (ps : List PlacedTlv) → is_malformed c first p.tlv.kind (length p.tlv.value) ≡ false → before_malformed c first (p ∷ ps) ≡ p ∷ before_malformed c (first && not (eqb p.tlv.kind 9)) ps
acting_goes c first p ps e = rw e refl

-- what was tested of the TLV at a span
tested : (c : ConfigParts) (first b : Bool) (tail : List ℕ) (s : Span) → past s ≤ length tail → is_malformed c first s.kind s.len ≡ b → is_malformed c first s.kind (length (tlv_at tail s).value) ≡ b
tested c first b tail s le e = ap (is_malformed c first s.kind) (length-value_at tail s le) ∙ e

module _ (c : ConfigParts) (kind : ℕ) (tail : List ℕ) (first : Bool) (old : Walking) (s : Span) (new : Walking) (acting : IsActing c kind tail first old) (went : WentPast old s new) where
  here : first_in kind (before_malformed c first (placed_at tail s ∷ placed_left tail new.at)) ≡ first_in kind (acted c tail)
  here = sym (ap (λ (ps : List PlacedTlv). first_in kind (before_malformed c first ps)) (placed_step tail old s new acting.of went)) ∙ acting.same

  within_s : past s ≤ length tail
  within_s = (step_of tail old s new acting.of went).within

  pub acting_malformed : is_malformed c first s.kind s.len ≡ true → None ≡ first_in kind (acted c tail)
  acting_malformed e = sym (ap (first_in kind) (acting_stops c first (placed_at tail s) (placed_left tail new.at) (tested c first true tail s within_s e))) ∙ here

  goes : is_malformed c first s.kind s.len ≡ false → first_in kind (placed_at tail s ∷ before_malformed c (first && not (eqb s.kind 9)) (placed_left tail new.at)) ≡ first_in kind (acted c tail)
  goes e = sym (ap (first_in kind) (acting_goes c first (placed_at tail s) (placed_left tail new.at) (tested c first false tail s within_s e))) ∙ here

  pub acting_found : is_malformed c first s.kind s.len ≡ false → eqb s.kind kind ≡ true → Some (placed_at tail s) ≡ first_in kind (acted c tail)
  acting_found e is = sym (find_takes kind (placed_at tail s) (before_malformed c (first && not (eqb s.kind 9)) (placed_left tail new.at)) is) ∙ goes e

  pub acting_more : is_malformed c first s.kind s.len ≡ false → eqb s.kind kind ≡ false → IsActing c kind tail (first && not (eqb s.kind 9)) new
  acting_more e other = record {
    of = went.tail ∙ acting.of;
    within = omega (arith, went.to, went.from, within_s);
    same = sym (find_skips kind (placed_at tail s) (before_malformed c (first && not (eqb s.kind 9)) (placed_left tail new.at)) other) ∙ goes e;
  }

pub acting_none : (c : ConfigParts) (kind : ℕ) (tail : List ℕ) (first : Bool) (old new : Walking) → IsActing c kind tail first old → IsAtRest old new → None ≡ first_in kind (acted c tail)
acting_none c kind tail first old new acting rest = sym (ap (λ (ps : List PlacedTlv). first_in kind (before_malformed c first ps)) (placed_end tail old new acting.of rest)) ∙ acting.same

-- ---- where the type is understood

pub not_understood : {A : Type 0} (c : ConfigParts) (kind : ℕ) (f : PlacedTlv → A) (ps : List PlacedTlv) → is_understood c kind ≡ false → None ≡ option_map f (first_of c kind ps)
not_understood c kind f ps e = rw e refl

pub understood : (c : ConfigParts) (kind : ℕ) (ps : List PlacedTlv) → is_understood c kind ≡ true → first_in kind ps ≡ first_of c kind ps
understood c kind ps e = rw e refl
