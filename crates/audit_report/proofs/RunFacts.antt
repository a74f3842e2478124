-- What an audit keeps from claim to claim, and what each of its ends says.
use Rattle.std.proofs.Common.{◌≡◌, ℕ, ◌+◌, ◌-◌, ◌^◌, ◌<◌, inl, inr, List, [], ◌∷◌, ◌++◌, length, drop, Option, refl, sym, ap, subst, ◌∙◌, append_assoc, arith}
use Rattle.std.proofs.lemmas.List.{append-nil, length-append, nil_from_length}
use Rattle.std.proofs.lemmas.Grind.{flat_map-append}
use Rattle.std.specs.Io.KnownBytes.{Consumes, Keeps, IsAtEnd}
use Rattle.port_io.proofs.Known.{consumes_none, consumes_then, consumes_keeps}
use Rattle.reply_audit.specs.Claims.{Claim, claim_octets, FitsClaim, AllFit}
use Rattle.reply_audit.specs.Looks.{State, first_state}
use Rattle.reply_audit.specs.Holding.{Holds, state_after, HoldFrom, state_from}
use Rattle.audit_report.specs.declared.lines.Verdict.{Verdict}
use Rattle.audit_report.specs.declared.lines.Verdict.TheVariants.{Yes, No, Bad}
use Rattle.audit_report.specs.Fronts.{FailsFront, HoldsFront, LacksFront, NoneWithin}
use Rattle.audit_report.specs.Runs.{claims_octets, room_behind, state_behind, Reads, IsRun, WasCutOff, WasStopped, TellsEnd}

-- ---- one claim more

AllFit-push : (cs : List Claim) (c : Claim) → AllFit cs → FitsClaim c → AllFit (cs ++ c ∷ [])
AllFit-push [] c all one = (one, tt)
AllFit-push (d ∷ ds) c all one = (all.0, AllFit-push ds c all.1 one)

state-push : (s : State) (cs : List Claim) (c : Claim) → state_from s (cs ++ c ∷ []) ≡ state_after (state_from s cs) c
state-push s [] c = refl
state-push s (d ∷ ds) c = state-push (state_after s d) ds c

hold-push : (s : State) (cs : List Claim) (c : Claim) → HoldFrom s cs → Holds (state_from s cs) c → HoldFrom s (cs ++ c ∷ [])
hold-push s [] c all one = (one, tt)
hold-push s (d ∷ ds) c all one = (all.0, hold-push (state_after s d) ds c all.1 one)

octets-push : (cs : List Claim) (c : Claim) → claims_octets (cs ++ c ∷ []) ≡ claims_octets cs ++ claim_octets c
octets-push cs c = flat_map-append claim_octets cs (c ∷ []) ∙ ap (λ (l : List ℕ). claims_octets cs ++ l) (append-nil (claim_octets c))

-- ---- what is kept

pub record Going (left0 left : Option (List ℕ)) (s : State) (pending : List ℕ) (passed count : ℕ) (cs : List Claim) : Type 0 where
  pub reads : Reads left0 left cs pending
  pub state : s ≡ state_behind cs
  pub consumed : passed ≡ length (claims_octets cs)
  pub counted : count ≡ length cs

pub going_none : (left : Option (List ℕ)) → Going left left first_state [] 0 0 []
going_none left = record { reads = record { fits = tt; hold = tt; limit = omega arith; taken = consumes_none left }; state = refl; consumed = refl; counted = refl }

module _ (left0 left : Option (List ℕ)) (s : State) (pending : List ℕ) (passed count : ℕ) (cs : List Claim) (h : Going left0 left s pending passed count cs) where
  pub going_more : (left' : Option (List ℕ)) (pending' octets : List ℕ) → Consumes left left' octets → pending' ≡ pending ++ octets → Going left0 left' s pending' passed count cs
  going_more left' pending' octets more e = record {
    reads = record {
      fits = h.reads.fits;
      hold = h.reads.hold;
      limit = h.reads.limit;
      taken = subst (λ (l : List ℕ). Consumes left0 left' l) (append_assoc (claims_octets cs) pending octets ∙ ap (λ (l : List ℕ). claims_octets cs ++ l) (sym e)) (consumes_then left0 left left' (claims_octets cs ++ pending) octets h.reads.taken more);
    };
    state = h.state;
    consumed = h.consumed;
    counted = h.counted;
  }

  -- nothing was taken
  pub going_same : (s' : State) → s' ≡ s → Going left0 left s' pending passed count cs
  going_same s' same = record { reads = h.reads; state = same ∙ h.state; consumed = h.consumed; counted = h.counted }

  pub going_claim : (s' : State) (pending' : List ℕ) (n : ℕ) → (f : HoldsFront s pending (2 ^ 30 - passed) n s') → pending' ≡ drop n pending → Going left0 left s' pending' (passed + n) (count + 1) (cs ++ f.claim ∷ [])
  going_claim s' pending' n f cut =
      let len : length (claims_octets (cs ++ f.claim ∷ [])) ≡ passed + n = ap length (octets-push cs f.claim) ∙ length-append (claims_octets cs) (claim_octets f.claim) ∙ omega (arith, h.consumed, f.len) in
      record {
        reads = record {
          fits = AllFit-push cs f.claim h.reads.fits f.fits;
          hold = hold-push first_state cs f.claim h.reads.hold (subst (λ (t : State). Holds t f.claim) h.state f.holds);
          limit = omega (arith, len, f.within, h.reads.limit, h.consumed);
          taken = subst (λ (l : List ℕ). Consumes left0 left l)
              (ap (λ (l : List ℕ). claims_octets cs ++ l) (f.front ∙ ap (λ (l : List ℕ). claim_octets f.claim ++ l) (sym cut)) ∙ sym (append_assoc (claims_octets cs) (claim_octets f.claim) pending') ∙ ap (λ (l : List ℕ). l ++ pending') (sym (octets-push cs f.claim)))
              h.reads.taken;
        };
        state = f.after ∙ ap (λ (t : State). state_after t f.claim) h.state ∙ sym (state-push first_state cs f.claim);
        consumed = sym len;
        counted = omega (arith, h.counted, length-append cs (f.claim ∷ []));
      }

  -- ---- the ends

  room : 2 ^ 30 - passed ≡ room_behind cs
  room = ap (λ (n : ℕ). 2 ^ 30 - n) h.consumed

  pub end_yes : pending ≡ [] → IsAtEnd left → s.looks ≡ [] → IsRun left0 left (Yes count)
  end_yes none at_end closed = (cs, subst (λ (l : List ℕ). Reads left0 left cs l) none h.reads, at_end, record { hold = h.reads.hold; closed = ap (λ (t : State). t.looks) (sym h.state) ∙ closed }, h.counted)

  pub end_open : pending ≡ [] → IsAtEnd left → (s.looks ≡ [] → ⊥) → IsRun left0 left (No passed)
  end_open none at_end open_look = (cs, pending, h.reads, inr (record { none = none; ended = at_end; open_look = λ e. open_look (ap (λ (t : State). t.looks) h.state ∙ e) }), h.consumed)

  pub end_fails : FailsFront s pending (2 ^ 30 - passed) → IsRun left0 left (No passed)
  end_fails f = (cs, pending, h.reads, inl (subst (λ (n : ℕ). FailsFront (state_behind cs) pending n) room (subst (λ (t : State). FailsFront t pending (2 ^ 30 - passed)) h.state f)), h.consumed)

  pub end_bad : 0 < length pending → NoneWithin (2 ^ 30 - passed) pending → IsRun left0 left (Bad passed)
  end_bad some none = (cs, pending, h.reads, record { some = some; none = inl (subst (λ (n : ℕ). NoneWithin n pending) room none) }, h.consumed)

  pub end_cut : 0 < length pending → LacksFront pending → IsAtEnd left → IsRun left0 left (Bad passed)
  end_cut some lacks at_end = (cs, pending, h.reads, record { some = some; none = inr (lacks, at_end) }, h.consumed)

  pub end_stopped : WasStopped left0 left
  end_stopped = (cs, pending, h.reads)

  pub end_failed : (left' : Option (List ℕ)) → Keeps left left' → LacksFront pending → WasCutOff left0 left'
  end_failed left' keeps lacks = (cs, pending, record { fits = h.reads.fits; hold = h.reads.hold; limit = h.reads.limit; taken = consumes_keeps left0 left left' (claims_octets cs ++ pending) h.reads.taken keeps }, lacks)

-- nothing was read
pub stopped_none : (left : Option (List ℕ)) → WasStopped left left
stopped_none left = end_stopped left left first_state [] 0 0 [] (going_none left)

-- the source has ended: nothing more came behind what was pending
pub ends_behind : (left0 left left' : Option (List ℕ)) (s : State) (waiting waiting' got : List ℕ) (passed count : ℕ) (cs : List Claim) (verdict : Verdict)
    → Going left0 left s waiting passed count cs → LacksFront waiting → Consumes left left' got → got ≡ [] → waiting' ≡ waiting ++ got → IsAtEnd left' → TellsEnd s.looks (length waiting) passed count verdict
    → IsRun left0 left' verdict
ends_behind left0 left left' s waiting waiting' got passed count cs verdict h lacks more none e at_end tells =
    let same : waiting' ≡ waiting = e ∙ ap (λ (l : List ℕ). waiting ++ l) none ∙ append-nil waiting in
    told verdict (subst (λ (l : List ℕ). Going left0 left' s l passed count cs) same (going_more left0 left s waiting passed count cs h left' waiting' got more e)) tells
  where
    told : (v : Verdict) → Going left0 left' s waiting passed count cs → TellsEnd s.looks (length waiting) passed count v → IsRun left0 left' v
    told (Yes n) k t = rw (t.2) (end_yes left0 left' s waiting passed count cs k (nil_from_length waiting t.0) at_end t.1)
    told (No n) k t = rw (t.2) (end_open left0 left' s waiting passed count cs k (nil_from_length waiting t.0) at_end t.1)
    told (Bad n) k t = rw (t.1) (end_cut left0 left' s waiting passed count cs k t.0 lacks at_end)
