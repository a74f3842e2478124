-- What one deed more does to what is counted.
use Rattle.std.proofs.Common.{◌≡◌, ℕ, ◌+◌, ◌-◌, ◌^◌, min, ℤ, Bool, true, false, cond, List, [], ◌∷◌, ◌++◌, Option, Some, None, refl, ap, ◌∙◌, add-zero, arith}
use Rattle.std.specs.Prelude.{map}
use Rattle.std.specs.Int.{int_min, int_max}
use Rattle.std.proofs.lemmas.List.{append-nil, length-append, map-append}
use Rattle.std.proofs.lemmas.List.Elements.{filter-append}
use Rattle.std.proofs.lemmas.List.Sums.{fold-append}
use Rattle.sender_core.specs.declared.types.Range.{Range}
use Rattle.sender_core.specs.Kept.{Kept, KeptNumbers}
use Rattle.sender_core.specs.Reply.{number_in, has_ntp_clock, request_of}
use Rattle.sender_core.specs.Deeds.{Deed, arrival, sendings, Reply, is_answered, new_replies}
use Rattle.sender_core.specs.Counting.{distance, distances, range_of, width, forward_delay, backward_delay, timed, doubles, strangers, capped}
use Rattle.sender_core.specs.Adding.{with_delay, with_number}
use Rattle.sender_core.specs.State.{numbers_of, tally_by, tally_of, with_double, with_stranger, with_reply, span_of, forward_of, backward_of}

-- ---- a new reply

range_push : (xs : List ℤ) (d : ℤ) → range_of (xs ++ d ∷ []) ≡ with_delay (range_of xs) d
range_push [] d = refl
range_push (x ∷ xs) d = rw (fold-append int_min x xs (d ∷ []), fold-append int_max x xs (d ∷ [])) refl

numbers_push : (replies : List Reply) (r : Reply) → numbers_of (replies ++ r ∷ []) ≡ with_number (numbers_of replies) (number_in r.octets)
numbers_push [] r = refl
numbers_push (first ∷ rest) r =
    rw (
      map-append (distance first) rest (r ∷ []),
      fold-append int_min (distance first first) (map (distance first) rest) (distance first r ∷ []),
      fold-append int_max (distance first first) (map (distance first) rest) (distance first r ∷ []),
    ) refl

delays_push : (delay : Reply → ℤ) (replies : List Reply) (r : Reply)
    → range_of (map delay (timed (replies ++ r ∷ []))) ≡ cond (has_ntp_clock r.octets) (with_delay (range_of (map delay (timed replies))) (delay r)) (range_of (map delay (timed replies)))
delays_push delay replies r = ap (λ (l : List Reply). range_of (map delay l)) (filter-append (λ (q : Reply). has_ntp_clock q.octets) replies (r ∷ [])) ∙ either (has_ntp_clock r.octets)
  where
    old : List Reply
    old = timed replies

    either : (b : Bool) → range_of (map delay (timed replies ++ cond b (r ∷ []) [])) ≡ cond b (with_delay (range_of (map delay (timed replies))) (delay r)) (range_of (map delay (timed replies)))
    either true = ap range_of (map-append delay (timed replies) (r ∷ [])) ∙ range_push (map delay (timed replies)) (delay r)
    either false = ap (λ (l : List Reply). range_of (map delay l)) (append-nil (timed replies))

tally_push : (replies : List Reply) (r : Reply) (d s : ℕ) → tally_by (replies ++ r ∷ []) d s ≡ with_reply (tally_by replies d s) r.octets r.moment
unfolding with_reply
tally_push replies r d s =
    rw (length-append replies (r ∷ []), numbers_push replies r, delays_push forward_delay replies r, delays_push backward_delay replies r) refl

pub with_reply_of : (t : Kept) (octets : List ℕ) (moment : ℕ) (b : Bool) (numbers : Option KeptNumbers) (forward backward : Option Range) → has_ntp_clock octets ≡ b
    → numbers ≡ with_number t.numbers (number_in octets) → forward ≡ cond b (with_delay t.forward (forward_of octets)) t.forward
    → backward ≡ cond b (with_delay t.backward (backward_of octets moment)) t.backward
    → record { received = t.received + 1; doubles = t.doubles; strangers = t.strangers; numbers = numbers; forward = forward; backward = backward } ≡ with_reply t octets moment
unfolding with_reply
with_reply_of t octets moment b numbers forward backward e n f g = rw (e, n, f, g) refl

-- ---- what an arrival is

-- the new replies after it
pub replies_stranger : (ssid : ℕ) (ds : List Deed) (octets : List ℕ) (moment : ℕ) → request_of ssid (sendings ds) octets ≡ None
    → new_replies ssid (arrival octets moment ∷ ds) ≡ new_replies ssid ds
replies_stranger ssid ds octets moment e = rw e (append-nil (new_replies ssid ds))

pub replies_double : (ssid : ℕ) (ds : List Deed) (octets : List ℕ) (moment sequence : ℕ) → request_of ssid (sendings ds) octets ≡ Some sequence
    → is_answered sequence (new_replies ssid ds) ≡ true → new_replies ssid (arrival octets moment ∷ ds) ≡ new_replies ssid ds
replies_double ssid ds octets moment sequence e answered = rw (e, answered) (append-nil (new_replies ssid ds))

pub replies_new : (ssid : ℕ) (ds : List Deed) (octets : List ℕ) (moment sequence : ℕ) → request_of ssid (sendings ds) octets ≡ Some sequence
    → is_answered sequence (new_replies ssid ds) ≡ false
    → new_replies ssid (arrival octets moment ∷ ds) ≡ new_replies ssid ds ++ record { sequence = sequence; octets = octets; moment = moment } ∷ []
replies_new ssid ds octets moment sequence e answered = rw (e, answered) refl

cap_more : (n : ℕ) → capped (n + 1) ≡ min (capped n + 1) (2 ^ 64 - 1)
cap_more n = omega arith

-- octets that answer no request
pub tally_stranger : (ssid : ℕ) (ds : List Deed) (octets : List ℕ) (moment : ℕ) → request_of ssid (sendings ds) octets ≡ None
    → tally_of ssid (arrival octets moment ∷ ds) ≡ with_stranger (tally_of ssid ds)
unfolding tally_of
tally_stranger ssid ds octets moment e =
    rw (e, append-nil (new_replies ssid ds), add-zero (doubles ssid ds), cap_more (strangers ssid ds)) refl

-- octets that answer a request which was answered
pub tally_double : (ssid : ℕ) (ds : List Deed) (octets : List ℕ) (moment sequence : ℕ) → request_of ssid (sendings ds) octets ≡ Some sequence
    → is_answered sequence (new_replies ssid ds) ≡ true → tally_of ssid (arrival octets moment ∷ ds) ≡ with_double (tally_of ssid ds)
unfolding tally_of
tally_double ssid ds octets moment sequence e answered =
    rw (e, answered, append-nil (new_replies ssid ds), add-zero (strangers ssid ds), cap_more (doubles ssid ds)) refl

-- octets that answer a request which wasn't
pub tally_new : (ssid : ℕ) (ds : List Deed) (octets : List ℕ) (moment sequence : ℕ) → request_of ssid (sendings ds) octets ≡ Some sequence
    → is_answered sequence (new_replies ssid ds) ≡ false → tally_of ssid (arrival octets moment ∷ ds) ≡ with_reply (tally_of ssid ds) octets moment
unfolding tally_of
tally_new ssid ds octets moment sequence e answered =
    rw (e, answered, add-zero (strangers ssid ds), add-zero (doubles ssid ds))
    (tally_push (new_replies ssid ds) (record { sequence = sequence; octets = octets; moment = moment }) (doubles ssid ds) (strangers ssid ds))

pub span_width : (replies : List Reply) → span_of (numbers_of replies) ≡ width (range_of (distances replies))
span_width [] = refl
span_width (first ∷ rest) = refl
