-- The messages that a client writes.
use Rattle.std.proofs.Common.{◌≡◌, ℕ, ◌<◌, ◌^◌, true, false, length, refl, ap, arith}
use Rattle.std.proofs.lemmas.Nat.{from_be_bytes-to_be_bytes_4}
use Rattle.control_msgs.specs.declared.types.Request.{Request as SessionRequest}
use Rattle.control_msgs.specs.Layout.{request_message, set_up, start_sessions, stop_sessions}
use Rattle.twamp_control.specs.declared.types.Message.TheVariants.{SetUp, Request, Start, Stop}
use Rattle.twamp_control.specs.Stream.{IsWhole, message_of}

pub set_up_whole : (mode : ℕ) → IsWhole true (set_up mode)
unfolding set_up
set_up_whole mode = record { some = omega arith; whole = refl }

pub set_up_read : (mode : ℕ) → mode < 2 ^ 32 → message_of true (set_up mode) ≡ SetUp mode
unfolding set_up
set_up_read mode lt = ap (λ (n : ℕ). SetUp n) (from_be_bytes-to_be_bytes_4 mode lt)

pub request_whole : (r : SessionRequest) → length (request_message r) ≡ 112 → IsWhole false (request_message r)
unfolding request_message
request_whole r len = record { some = omega arith; whole = len }

pub request_read : (r : SessionRequest) → message_of false (request_message r) ≡ Request (request_message r)
unfolding request_message
request_read r = refl

pub start_whole : IsWhole false start_sessions
unfolding start_sessions
start_whole = record { some = omega arith; whole = refl }

pub start_read : message_of false start_sessions ≡ Start
unfolding start_sessions
start_read = refl

pub stop_whole : (number : ℕ) → IsWhole false (stop_sessions number)
unfolding stop_sessions
stop_whole number = record { some = omega arith; whole = refl }

pub stop_read : (number : ℕ) → number < 2 ^ 32 → message_of false (stop_sessions number) ≡ Stop number
unfolding stop_sessions
stop_read number lt = ap (λ (n : ℕ). Stop n) (from_be_bytes-to_be_bytes_4 number lt)
