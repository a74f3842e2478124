-- Each record has one answer, and each answer one spelling.
use Rattle.std.specs.Prelude.{ℕ, ◌+◌, ◌<◌, ◌≤◌, ◌^◌, List, [], ◌∷◌, ◌++◌, length, Option, Some, None}
use Rattle.std.specs.Int.{w16, w32, w64, to_be_bytes}
use Rattle.refl_types.specs.declared.types.Endpoint.{Endpoint}
use Rattle.refl_types.specs.Limits.{datagram_limit}
use Rattle.refl_types.specs.Spelling.{endpoint_octets, FitsEndpoint}
use Rattle.replay_format.specs.declared.code.OpenAnswer.{OpenAnswer}
use Rattle.replay_format.specs.declared.code.SetAnswer.{SetAnswer}
use Rattle.replay_format.specs.declared.code.UnsentCause.{UnsentCause}
use Rattle.replay_format.specs.declared.answer.Outcome.{Outcome}
use Rattle.replay_format.specs.declared.answer.Outcome.TheVariants as outcomes
use Rattle.replay_format.specs.Codes.{open_code, set_code, unsent_code}
use Rattle.replay_format.specs.Records.{framed}

-- a reply that is sent from a local number to an endpoint, under the number that was drawn
pub record Sending : Type 0 where
  pub from : ℕ
  pub to : Endpoint
  pub number : ℕ
  pub octets : List ℕ

pub data Answer : Type 0 where
  Opened : OpenAnswer → Answer
  Set : SetAnswer → Answer
  -- the count of numbers that the session had drawn, or no session has the key
  Closed : Option ℕ → Answer
  Listed : Answer
  Sent : Sending → Answer
  Unsent : UnsentCause → Answer
  Left : ℕ → Answer

abbrev pub sending_octets : Sending → List ℕ
sending_octets s = (0 ∷ to_be_bytes w16 s.from) ++ endpoint_octets s.to ++ to_be_bytes w32 s.number ++ s.octets

unfoldable pub sent_octets : Sending → List ℕ
sent_octets s = framed 132 (sending_octets s)

-- 0 and the count, or 6
abbrev pub closed_octets : Option ℕ → List ℕ
closed_octets None = 6 ∷ []
closed_octets (Some n) = 0 ∷ to_be_bytes w32 n

unfoldable pub answer_octets : Answer → List ℕ
answer_octets (Opened a) = framed 129 (open_code a ∷ [])
answer_octets (Set a) = framed 130 (set_code a ∷ [])
answer_octets (Closed count) = framed 131 (closed_octets count)
answer_octets Listed = framed 133 (0 ∷ [])
answer_octets (Sent s) = sent_octets s
answer_octets (Unsent cause) = framed 132 (unsent_code cause ∷ [])
answer_octets (Left offset) = framed 255 (to_be_bytes w64 offset)

-- how many octets an answer has
abbrev pub answer_len : Answer → ℕ
answer_len (Opened a) = 6
answer_len (Set a) = 6
answer_len (Closed None) = 6
answer_len (Closed (Some n)) = 10
answer_len Listed = 6
answer_len (Sent s) = 31 + length s.octets
answer_len (Unsent cause) = 6
answer_len (Left offset) = 13

-- the longest answer has the longest reply
abbrev pub answer_limit : ℕ
answer_limit = 31 + datagram_limit

-- what an outcome of the code stands for
abbrev pub answer_of : Outcome → Answer
answer_of (outcomes.Opened a) = Opened a
answer_of (outcomes.Set a) = Set a
answer_of (outcomes.Closed count) = Closed count
answer_of outcomes.Listed = Listed
answer_of (outcomes.Sent from to number octets) = Sent (record { from = from; to = to; number = number; octets = octets.now })
answer_of (outcomes.Unsent cause) = Unsent cause
answer_of (outcomes.Left offset) = Left offset

-- what has a spelling: no reply is longer than a datagram
abbrev pub FitsAnswer : Answer → Type 0
FitsAnswer (Sent s) = length s.octets ≤ datagram_limit
FitsAnswer (Opened a) = Unit {0}
FitsAnswer (Set a) = Unit {0}
FitsAnswer (Closed count) = Unit {0}
FitsAnswer Listed = Unit {0}
FitsAnswer (Unsent cause) = Unit {0}
FitsAnswer (Left offset) = Unit {0}

-- ---- fields in the ranges of their types

pub record FitsSending (s : Sending) : Type 0 where
  pub from : s.from < 2 ^ 16
  pub to : FitsEndpoint s.to
  pub number : s.number < 2 ^ 32
  pub len : length s.octets ≤ datagram_limit

abbrev pub IsInRange : Answer → Type 0
IsInRange (Opened a) = Unit {0}
IsInRange (Set a) = Unit {0}
IsInRange (Closed None) = Unit {0}
IsInRange (Closed (Some n)) = n < 2 ^ 32
IsInRange Listed = Unit {0}
IsInRange (Sent s) = FitsSending s
IsInRange (Unsent cause) = Unit {0}
IsInRange (Left offset) = offset < 2 ^ 64
