-- What a session sender holds (this project's own).
use Rattle.std.specs.Prelude.{◌≡◌, ℕ, ◌+◌, ◌-◌, ◌^◌, min, ℤ, ◌-ℤ◌, unsigned_abs, Bool, false, if◌then◌else◌, List, [], ◌∷◌, length, map, count_by, Option, Some, None, slice_index_or}
use Rattle.std.specs.List.{fold}
use Rattle.std.specs.Int.{int_min, int_max, from_be_bytes, w64}
use Rattle.sender_core.specs.declared.types.SendPlan.{SendPlan}
use Rattle.sender_core.specs.Kept.{Kept, KeptNumbers}
use Rattle.sender_core.specs.Reply.{number_in, departure_in, has_ntp_clock, receipt_in, timestamp_in, ntp_timestamp}
use Rattle.sender_core.specs.Deeds.{Deed, sendings, Reply, is_answered, new_replies}
use Rattle.sender_core.specs.Counting.{difference_64, distance, range_of, forward_delay, backward_delay, timed, capped, doubles, strangers}
use Rattle.sender_core.specs.Adding.{with_delay, with_number}

-- the plan, the start, the moments of all requests, which of them were answered, and what was counted of the replies
pub record Measurement : Type 0 where
  pub plan : SendPlan
  pub start : ℕ
  pub sendings : List ℕ
  pub answered : List Bool
  pub tally : Kept

-- the number of the first reply, and the least and the greatest difference from it
abbrev pub numbers_of : List Reply → Option KeptNumbers
numbers_of [] = None
numbers_of (first ∷ rest) = Some (record {
  first = number_in first.octets;
  least = fold int_min (distance first first) (map (distance first) rest);
  greatest = fold int_max (distance first first) (map (distance first) rest);
})

-- what is counted of these new replies, with so many doubles and strangers
abbrev pub tally_by : List Reply → ℕ → ℕ → Kept
tally_by replies doubles strangers = record {
  received = length replies;
  doubles = capped doubles;
  strangers = capped strangers;
  numbers = numbers_of replies;
  forward = range_of (map forward_delay (timed replies));
  backward = range_of (map backward_delay (timed replies));
}

unfoldable pub tally_of : ℕ → List Deed → Kept
tally_of ssid ds = tally_by (new_replies ssid ds) (doubles ssid ds) (strangers ssid ds)

-- it is what a sender holds after these deeds
pub record IsAfter (ds : List Deed) (m : Measurement) : Type 0 where
  pub sendings : m.sendings ≡ sendings ds
  pub answered : (sequence : ℕ) → slice_index_or m.answered sequence false ≡ is_answered sequence (new_replies m.plan.ssid ds)
  pub tally : m.tally ≡ tally_of m.plan.ssid ds

-- all but what was counted stays
pub record Keeps (before after : Measurement) : Type 0 where
  pub plan : after.plan ≡ before.plan
  pub start : after.start ≡ before.start
  pub sendings : after.sendings ≡ before.sendings

-- ---- one more

abbrev pub no_tally : Kept
no_tally = record { received = 0; doubles = 0; strangers = 0; numbers = None; forward = None; backward = None }

abbrev pub with_double : Kept → Kept
with_double t = record t { doubles = min (t.doubles + 1) (2 ^ 64 - 1) }

abbrev pub with_stranger : Kept → Kept
with_stranger t = record t { strangers = min (t.strangers + 1) (2 ^ 64 - 1) }

-- the delays of a new reply
abbrev pub forward_of : List ℕ → ℤ
forward_of octets = difference_64 (receipt_in octets) (from_be_bytes w64 (timestamp_in octets))

abbrev pub backward_of : List ℕ → ℕ → ℤ
backward_of octets moment = difference_64 (from_be_bytes w64 (ntp_timestamp moment)) (departure_in octets)

unfoldable pub with_reply : Kept → List ℕ → ℕ → Kept
with_reply t octets moment = record {
  received = t.received + 1;
  doubles = t.doubles;
  strangers = t.strangers;
  numbers = with_number t.numbers (number_in octets);
  forward = (if has_ntp_clock octets then with_delay t.forward (forward_of octets) else t.forward);
  backward = (if has_ntp_clock octets then with_delay t.backward (backward_of octets moment) else t.backward);
}

abbrev pub span_of : Option KeptNumbers → ℕ
span_of None = 0
span_of (Some s) = unsigned_abs (s.greatest -ℤ s.least) + 1

-- how many requests were answered
abbrev pub answered_count : List Bool → ℕ
answered_count answered = count_by (λ b. b) answered
