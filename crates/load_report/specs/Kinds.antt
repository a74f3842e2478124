-- The kinds of answers that are counted (this project's own).
use Rattle.std.specs.Prelude.{ℕ, Bool, true, false}
use Rattle.replay_format.specs.declared.code.UnsentCause.TheVariants as causes
use Rattle.replay_format.specs.Answers.{Answer, Opened, Set, Closed, Listed, Sent, Unsent, Left}

-- a reply was sent
abbrev pub is_sent : Answer → Bool
is_sent (Sent s) = true
is_sent (Unsent cause) = false
is_sent (Opened a) = false
is_sent (Set a) = false
is_sent (Closed count) = false
is_sent Listed = false
is_sent (Left offset) = false

-- no session matched the datagram
abbrev pub lacks_session : Answer → Bool
lacks_session (Unsent causes.NoSession) = true
lacks_session (Unsent causes.Short) = false
lacks_session (Unsent causes.BadHmac) = false
lacks_session (Unsent causes.NoReply) = false
lacks_session (Sent s) = false
lacks_session (Opened a) = false
lacks_session (Set a) = false
lacks_session (Closed count) = false
lacks_session Listed = false
lacks_session (Left offset) = false

abbrev pub one_if : Bool → ℕ
one_if true = 1
one_if false = 0
