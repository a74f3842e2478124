-- The claim at the front of octets.
use Rattle.std.proofs.Common.{◌≡◌, ◌⊎◌, ℕ, ◌<◌, ◌≤◌, inl, inr, List, [], ◌∷◌, ◌++◌, length, take, drop, Ok, refl, sym, ap, ◌∙◌, arith}
use Rattle.std.proofs.lemmas.Bool.{cases_lt}
use Rattle.std.proofs.lemmas.List.{append-nil, length-take-le, take-append-drop, take-append-le, take_at}
use Rattle.reply_audit.specs.Claims.{Claim, Ended, Changed, claim_octets, FitsClaim}
use Rattle.reply_audit.specs.Looks.{State}
use Rattle.reply_audit.specs.declared.entries.Checked.TheVariants as checked
use Rattle.reply_audit.specs.View.{IsFed}
use Rattle.audit_report.specs.declared.front.Front.{Front}
use Rattle.audit_report.specs.declared.front.Front.TheVariants as front
use Rattle.audit_report.specs.Fronts.{LacksFront, NoneWithin, FailsFront, ChecksFront, ChecksEntry}

-- a claim with which these octets begin is their front
front_is : (octets rest tail : List ℕ) (c : Claim) → length (claim_octets c) ≤ length octets → octets ++ rest ≡ claim_octets c ++ tail → claim_octets c ≡ take (length (claim_octets c)) octets
front_is octets rest tail c within e =
    let n = length (claim_octets c) in
    sym (take_at (claim_octets c) tail n refl) ∙ ap (take n) (sym e) ∙ take-append-le n octets rest within

pub more_none : (octets : List ℕ) (limit : ℕ) → LacksFront octets → limit < length octets → NoneWithin limit octets
more_none octets limit lacks long = λ c rest tail fits e. decided c rest tail fits e (cases_lt limit (length (claim_octets c)))
  where
    decided : (c : Claim) (rest tail : List ℕ) → FitsClaim c → octets ++ rest ≡ claim_octets c ++ tail → (limit < length (claim_octets c)) ⊎ (length (claim_octets c) ≤ limit) → limit < length (claim_octets c)
    decided c rest tail fits e (inl more) = more
    decided c rest tail fits e (inr few) =
        let n = length (claim_octets c) in
        let is = front_is octets rest tail c (omega (arith, few, long)) e in
        absurd (lacks c (drop n octets) fits (sym (take-append-drop n octets) ∙ ap (λ (l : List ℕ). l ++ drop n octets) (sym is)))

pub never_none : (octets : List ℕ) (limit : ℕ) → ((c : Claim) (rest tail : List ℕ) → FitsClaim c → octets ++ rest ≡ claim_octets c ++ tail → ⊥) → (0 < length octets) × NoneWithin limit octets
never_none [] limit never =
    let c = Ended 1 0 (Changed 0) in
    absurd (never c (claim_octets c) [] ((omega arith, omega arith), omega arith, omega arith) (sym (append-nil (claim_octets c))))
never_none (o ∷ os) limit never = (omega arith, λ c rest tail fits e. absurd (never c rest tail fits e))

pub fails_front : (s s' : State) (octets : List ℕ) (n : ℕ) → n ≤ length octets → IsFed s (take n octets) (Ok checked.Fails) s' → FailsFront s octets n
fails_front s s' octets n within fed =
    let c = fed.0.0 in
    let is = fed.0.1 in
    record {
      claim = c;
      rest = drop n octets;
      fits = is.fits;
      front = sym (take-append-drop n octets) ∙ ap (λ (l : List ℕ). l ++ drop n octets) is.spelled;
      within = omega (arith, ap length is.spelled, length-take-le n octets within);
      fails = fed.0.2;
    }

-- octets whose claim, if there is one, has just so many
pub entry_front : (s : State) (octets : List ℕ) (limit n : ℕ) (s' : State) (f : Front) → 5 ≤ n → n ≤ length octets → n ≤ limit
    → ((c : Claim) (rest tail : List ℕ) → FitsClaim c → octets ++ rest ≡ claim_octets c ++ tail → length (claim_octets c) ≡ n) → ChecksEntry s octets n f s' → ChecksFront s octets limit f s'
entry_front s octets limit n s' (front.Holds m) some within room is h =
    let f = h.0 in
    record { claim = f.claim; fits = f.fits; front = f.front ∙ ap (λ (k : ℕ). claim_octets f.claim ++ drop k octets) (sym h.1); len = f.len ∙ sym h.1; within = omega (arith, h.1, room); holds = f.holds; after = f.after }
entry_front s octets limit n s' front.Fails some within room is h = record { claim = h.claim; rest = h.rest; fits = h.fits; front = h.front; within = omega (arith, h.within, room); fails = h.fails }
entry_front s octets limit n s' front.Bad some within room is h = (
  omega (arith, some, within),
  λ c rest tail fits e.
      let len = is c rest tail fits e in
      absurd (h c (record { fits = fits; spelled = ap (λ (k : ℕ). take k octets) (sym len) ∙ sym (front_is octets rest tail c (omega (arith, len, within)) e) })),
)
entry_front s octets limit n s' front.More some within room is h = absurd h
entry_front s octets limit n s' front.Memory some within room is h = tt
