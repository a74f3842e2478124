-- What is counted and measured of a session (this project's own): loss each way, and the delays.
use Rattle.std.specs.Prelude.{ℕ, ◌+◌, ◌-◌, ◌^◌, ◌%◌, min, ℤ, ◌-ℤ◌, unsigned_abs, List, [], ◌∷◌, length, map, filter, Option, Some, None}
use Rattle.std.specs.List.{fold}
use Rattle.std.specs.Int.{w32, w64, cast_signed, int_min, int_max, from_be_bytes}
use Rattle.sender_core.specs.declared.types.Taken.{Taken}
use Rattle.sender_core.specs.declared.types.Taken.TheVariants.{New, Double, Stranger}
use Rattle.sender_core.specs.declared.types.Range.{Range}
use Rattle.sender_core.specs.declared.types.Counts.{Counts}
use Rattle.sender_core.specs.Reply.{number_in, departure_in, has_ntp_clock, receipt_in, timestamp_in, ntp_timestamp}
use Rattle.sender_core.specs.Deeds.{Deed, sending, arrival, sendings, Reply, new_replies, taken}

-- ---- differences

-- a - b of numbers of 32 bits, and of 64, as a signed number of as many
abbrev pub difference_32 : ℕ → ℕ → ℤ
difference_32 a b = cast_signed w32 ((a + (2 ^ 32 - b)) % 2 ^ 32)

abbrev pub difference_64 : ℕ → ℕ → ℤ
difference_64 a b = cast_signed w64 ((a + (2 ^ 64 - b)) % 2 ^ 64)

-- the least and the greatest
abbrev pub range_of : List ℤ → Option Range
range_of [] = None
range_of (x ∷ xs) = Some (record { least = fold int_min x xs; greatest = fold int_max x xs })

-- ---- loss

-- the numbers of replies, as differences from that of the first
abbrev pub distance : Reply → Reply → ℤ
distance first r = difference_32 (number_in r.octets) (number_in first.octets)

abbrev pub distances : List Reply → List ℤ
distances [] = []
distances (first ∷ rest) = map (distance first) (first ∷ rest)

-- how many numbers there are from the least to the greatest
abbrev pub width : Option Range → ℕ
width None = 0
width (Some r) = unsigned_abs (r.greatest -ℤ r.least) + 1

-- ---- delays, in parts of 2 ^ 32 of a second

abbrev pub forward_delay : Reply → ℤ
forward_delay r = difference_64 (receipt_in r.octets) (from_be_bytes w64 (timestamp_in r.octets))

abbrev pub backward_delay : Reply → ℤ
backward_delay r = difference_64 (from_be_bytes w64 (ntp_timestamp r.moment)) (departure_in r.octets)

-- the replies whose timestamps are NTP's
abbrev pub timed : List Reply → List Reply
timed replies = filter (λ r. has_ntp_clock r.octets) replies

-- ---- the counts

abbrev pub one_if_double : Taken → ℕ
one_if_double New = 0
one_if_double Double = 1
one_if_double Stranger = 0

abbrev pub one_if_stranger : Taken → ℕ
one_if_stranger New = 0
one_if_stranger Double = 0
one_if_stranger Stranger = 1

-- how many answers were Double, and how many were Stranger
abbrev pub doubles : ℕ → List Deed → ℕ
doubles ssid [] = 0
doubles ssid (sending moment ∷ ds) = doubles ssid ds
doubles ssid (arrival octets moment ∷ ds) = doubles ssid ds + one_if_double (taken ssid ds octets)

abbrev pub strangers : ℕ → List Deed → ℕ
strangers ssid [] = 0
strangers ssid (sending moment ∷ ds) = strangers ssid ds
strangers ssid (arrival octets moment ∷ ds) = strangers ssid ds + one_if_stranger (taken ssid ds octets)

-- a count that stands still at the last value of 64 bits
abbrev pub capped : ℕ → ℕ
capped n = min n (2 ^ 64 - 1)

-- `span` is how many numbers the reflector is known to have used, each for a request that came. What was sent beyond that is lost
-- forward; numbers of the span without a new reply are lost backward
abbrev pub counts_by : ℕ → ℕ → ℕ → ℕ → ℕ → Option Range → Option Range → Counts
counts_by sent span received doubles strangers forward backward = record {
  sent = sent;
  received = received;
  doubles = doubles;
  strangers = strangers;
  forward_lost = sent - min sent span;
  backward_lost = span - min span received;
  forward = forward;
  backward = backward;
}

-- what is counted after these deeds
unfoldable pub counts_of : ℕ → List Deed → Counts
counts_of ssid ds =
    let replies = new_replies ssid ds in
    counts_by (length (sendings ds)) (width (range_of (distances replies))) (length replies) (capped (doubles ssid ds)) (capped (strangers ssid ds))
    (range_of (map forward_delay (timed replies))) (range_of (map backward_delay (timed replies)))
