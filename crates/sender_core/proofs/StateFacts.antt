-- What a sender holds, deed after deed.
use Rattle.std.proofs.Common.{◌≡◌, ◌≢◌, ◌⊎◌, inl, inr, ℕ, zero, suc, ◌+◌, ◌<◌, ◌≤◌, ◌==◌, eqb, Bool, true, false, cond, ◌||◌, List, [], ◌∷◌, ◌++◌, length, get_or, set, Option, Some, None, refl, sym, ap, subst, ◌∙◌, arith}
use Rattle.std.specs.Prelude.{replicate, map}
use Rattle.std.specs.List.{list_any}
use Rattle.std.proofs.lemmas.List.{get_or-set_same, get_or-set_other}
use Rattle.std.proofs.lemmas.List.Folds.{list_any-append}
use Rattle.std.proofs.lemmas.List.Sums.{sum_by-set, count_by-le-length}
use Rattle.std.proofs.lemmas.Bool.Decides.{eqb_tells}
use Rattle.sender_core.specs.Reply.{request_of}
use Rattle.sender_core.specs.declared.types.Taken.TheVariants.{Double}
use Rattle.sender_core.specs.Deeds.{Deed, sending, arrival, sendings, Reply, is_answered, new_replies, taken}
use Rattle.sender_core.specs.Counting.{range_of, forward_delay, backward_delay, timed, capped, doubles, strangers, counts_by, counts_of}
use Rattle.sender_core.specs.State.{Measurement, answered_count, no_tally, with_double, with_stranger, with_reply, tally_of, span_of, IsAfter}
use Rattle.sender_core.specs.declared.types.SendPlan.{SendPlan}
use Rattle.sender_core.specs.Kept.{Kept}
use Rattle.sender_core.proofs.TallyFacts.{replies_stranger, replies_double, replies_new, tally_stranger, tally_double, tally_new, span_width}

none_answered : (n sequence : ℕ) → get_or (replicate n false) sequence false ≡ false
none_answered zero sequence = refl
none_answered (suc n) zero = refl
none_answered (suc n) (suc sequence) = none_answered n sequence

or_true : (b : Bool) → (b || true) ≡ true
or_true true = refl
or_true false = refl

or_false : (b : Bool) → (b || false) ≡ b
or_false true = refl
or_false false = refl

set_answered : (l : List Bool) (replies : List Reply) (r : Reply) → r.sequence < length l → ((other : ℕ) → get_or l other false ≡ is_answered other replies)
    → (other : ℕ) → get_or (set l r.sequence true) other false ≡ is_answered other (replies ++ r ∷ [])
set_answered l replies r inside h other =
    either (eqb_tells r.sequence other) ∙ sym (list_any-append (λ (q : Reply). q.sequence == other) replies (r ∷ []))
  where
    either : ((eqb r.sequence other ≡ true) × (r.sequence ≡ other)) ⊎ ((eqb r.sequence other ≡ false) × (r.sequence ≢ other))
        → get_or (set l r.sequence true) other false ≡ (list_any (λ (q : Reply). q.sequence == other) replies || list_any (λ (q : Reply). q.sequence == other) (r ∷ []))
    either (inl p) =
        subst (λ (i : ℕ). get_or (set l r.sequence true) i false ≡ true) p.1 (get_or-set_same l r.sequence true false inside)
        ∙ sym (rw p.0 (or_true (list_any (λ (q : Reply). q.sequence == other) replies)))
    either (inr p) =
        get_or-set_other l r.sequence other true false (λ e. p.1 (sym e)) ∙ h other
        ∙ sym (rw p.0 (or_false (list_any (λ (q : Reply). q.sequence == other) replies)))

pub after_nothing : (m : Measurement) (n : ℕ) → m.sendings ≡ [] → m.answered ≡ replicate n false → m.tally ≡ no_tally → IsAfter [] m
unfolding tally_of
after_nothing m n sent answered tally = record {
  sendings = sent;
  answered = λ sequence. ap (λ (l : List Bool). get_or l sequence false) answered ∙ none_answered n sequence;
  tally = tally;
}

-- from facts of an SSID that is the plan's
holds : (ds : List Deed) (m : Measurement) (ssid : ℕ) → m.plan.ssid ≡ ssid → m.sendings ≡ sendings ds → ((sequence : ℕ) → get_or m.answered sequence false ≡ is_answered sequence (new_replies ssid ds))
    → m.tally ≡ tally_of ssid ds → IsAfter ds m
holds ds m ssid same sent answered tally = record {
  sendings = sent;
  answered = λ sequence. subst (λ (k : ℕ). get_or m.answered sequence false ≡ is_answered sequence (new_replies k ds)) (sym same) (answered sequence);
  tally = subst (λ (k : ℕ). m.tally ≡ tally_of k ds) (sym same) tally;
}

module _ (ds : List Deed) (m m' : Measurement) (h : IsAfter ds m) (plan : m'.plan ≡ m.plan) where
  ssid : ℕ
  ssid = m.plan.ssid

  -- the flags stay, and so do the new replies
  same_answered : (replies : List Reply) → m'.answered ≡ m.answered → replies ≡ new_replies m.plan.ssid ds → (sequence : ℕ) → get_or m'.answered sequence false ≡ is_answered sequence replies
  same_answered replies answered same sequence =
      ap (λ (l : List Bool). get_or l sequence false) answered ∙ h.answered sequence ∙ ap (is_answered sequence) (sym same)

  request_is : (octets : List ℕ) (r : Option ℕ) → request_of m.plan.ssid m.sendings octets ≡ r → request_of m.plan.ssid (sendings ds) octets ≡ r
  request_is octets r e = ap (λ (l : List ℕ). request_of m.plan.ssid l octets) (sym h.sendings) ∙ e

  pub after_sending : (now : ℕ) → m'.sendings ≡ m.sendings ++ now ∷ [] → m'.answered ≡ m.answered → m'.tally ≡ m.tally → IsAfter (sending now ∷ ds) m'
  unfolding tally_of
  after_sending now sent answered tally =
      holds (sending now ∷ ds) m' m.plan.ssid (ap (λ (p : SendPlan). p.ssid) plan) (sent ∙ ap (λ (l : List ℕ). l ++ now ∷ []) h.sendings)
      (same_answered (new_replies m.plan.ssid ds) answered refl) (tally ∙ h.tally)

  pub after_stranger : (octets : List ℕ) (moment : ℕ) → m'.sendings ≡ m.sendings → m'.answered ≡ m.answered → request_of m.plan.ssid m.sendings octets ≡ None
      → m'.tally ≡ with_stranger m.tally → IsAfter (arrival octets moment ∷ ds) m'
  after_stranger octets moment sent answered none tally =
      let e = request_is octets None none in
      holds (arrival octets moment ∷ ds) m' m.plan.ssid (ap (λ (p : SendPlan). p.ssid) plan) (sent ∙ h.sendings)
      (same_answered (new_replies m.plan.ssid (arrival octets moment ∷ ds)) answered (replies_stranger m.plan.ssid ds octets moment e))
      (tally ∙ ap with_stranger h.tally ∙ sym (tally_stranger m.plan.ssid ds octets moment e))

  was_answered : (sequence : ℕ) (b : Bool) → get_or m.answered sequence false ≡ b → is_answered sequence (new_replies m.plan.ssid ds) ≡ b
  was_answered sequence b e = sym (h.answered sequence) ∙ e

  pub after_double : (octets : List ℕ) (moment sequence : ℕ) → m'.sendings ≡ m.sendings → m'.answered ≡ m.answered → request_of m.plan.ssid m.sendings octets ≡ Some sequence
      → get_or m.answered sequence false ≡ true → m'.tally ≡ with_double m.tally → IsAfter (arrival octets moment ∷ ds) m'
  after_double octets moment sequence sent answered some was tally =
      let e = request_is octets (Some sequence) some in
      let f = was_answered sequence true was in
      holds (arrival octets moment ∷ ds) m' m.plan.ssid (ap (λ (p : SendPlan). p.ssid) plan) (sent ∙ h.sendings)
      (same_answered (new_replies m.plan.ssid (arrival octets moment ∷ ds)) answered (replies_double m.plan.ssid ds octets moment sequence e f))
      (tally ∙ ap with_double h.tally ∙ sym (tally_double m.plan.ssid ds octets moment sequence e f))

  pub after_new : (octets : List ℕ) (moment sequence : ℕ) → m'.sendings ≡ m.sendings → m'.answered ≡ set m.answered sequence true → sequence < length m.answered
      → request_of m.plan.ssid m.sendings octets ≡ Some sequence → get_or m.answered sequence false ≡ false → m'.tally ≡ with_reply m.tally octets moment → IsAfter (arrival octets moment ∷ ds) m'
  after_new octets moment sequence sent answered inside some was tally =
      let e = request_is octets (Some sequence) some in
      let f = was_answered sequence false was in
      let r : Reply = record { sequence = sequence; octets = octets; moment = moment } in
      holds (arrival octets moment ∷ ds) m' m.plan.ssid (ap (λ (p : SendPlan). p.ssid) plan) (sent ∙ h.sendings)
      (λ other. ap (λ (l : List Bool). get_or l other false) answered ∙ set_answered m.answered (new_replies m.plan.ssid ds) r inside h.answered other
      ∙ ap (is_answered other) (sym (replies_new m.plan.ssid ds octets moment sequence e f)))
      (tally ∙ ap (λ (t : Kept). with_reply t octets moment) h.tally ∙ sym (tally_new m.plan.ssid ds octets moment sequence e f))

one_if : Bool → ℕ
one_if b = cond b 1 0

-- one request more was answered
pub counted_more : (l : List Bool) (sequence : ℕ) → sequence < length l → get_or l sequence false ≡ false → answered_count (set l sequence true) ≡ answered_count l + 1
unfolding one_if
counted_more l sequence inside was =
    let e = sum_by-set one_if l sequence true false inside in
    let f = ap one_if was in
    omega (arith, e, f)

pub received_more : (t : Kept) (octets : List ℕ) (moment : ℕ) (l : List Bool) (sequence : ℕ) → sequence < length l → get_or l sequence false ≡ false → t.received ≡ answered_count l
    → (with_reply t octets moment).received ≡ answered_count (set l sequence true)
unfolding with_reply
received_more t octets moment l sequence inside was e = ap (λ (n : ℕ). n + 1) e ∙ sym (counted_more l sequence inside was)

pub counted_few : (l : List Bool) → answered_count l ≤ length l
counted_few l = count_by-le-length (λ (b : Bool). b) l

-- an item that is there is the same whatever stands for one that isn't
pub there : (l : List Bool) (i : ℕ) (d e : Bool) → i < length l → get_or l i d ≡ get_or l i e
there [] i d e inside = absurd (omega arith)
there (x ∷ l) zero d e inside = refl
there (x ∷ l) (suc i) d e inside = there l i d e (omega arith)

-- ---- what is answered

pub answer_double : (ds : List Deed) (m : Measurement) → IsAfter ds m → (octets : List ℕ) (sequence : ℕ) → request_of m.plan.ssid m.sendings octets ≡ Some sequence
    → get_or m.answered sequence false ≡ true → Double ≡ taken m.plan.ssid ds octets
answer_double ds m h octets sequence some was =
    sym (rw (ap (λ (l : List ℕ). request_of m.plan.ssid l octets) (sym h.sendings) ∙ some, sym (h.answered sequence) ∙ was) refl)

pub counts_are : (ssid : ℕ) (ds : List Deed) (t : Kept) (sent span : ℕ) → t ≡ tally_of ssid ds → sent ≡ length (sendings ds) → span ≡ span_of t.numbers
    → counts_by sent span t.received t.doubles t.strangers t.forward t.backward ≡ counts_of ssid ds
unfolding tally_of counts_of
counts_are ssid ds t sent span e s p =
    let replies = new_replies ssid ds in
    ap (λ (n : ℕ). counts_by n span t.received t.doubles t.strangers t.forward t.backward) s
    ∙ ap (λ (n : ℕ). counts_by (length (sendings ds)) n t.received t.doubles t.strangers t.forward t.backward) p
    ∙ ap (λ (u : Kept). counts_by (length (sendings ds)) (span_of u.numbers) u.received u.doubles u.strangers u.forward u.backward) e
    ∙ ap (λ (n : ℕ). counts_by (length (sendings ds)) n (length replies) (capped (doubles ssid ds)) (capped (strangers ssid ds)) (range_of (map forward_delay (timed replies))) (range_of (map backward_delay (timed replies))))
    (span_width replies)
