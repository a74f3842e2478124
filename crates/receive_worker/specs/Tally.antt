-- What a worker counts (this project's own).
use Rattle.std.specs.Prelude.{◌≡◌, ℕ, ◌+◌, ◌≤◌, Ok, Err}
use Rattle.refl_types.specs.declared.outcome.Unanswered.TheVariants.{NoSession, Short, BadHmac, NoReply, Changed, SendFault}
use Rattle.receive_worker.specs.declared.tally.Tally.{Tally}
use Rattle.receive_worker.specs.declared.tally.WorkEnd.{WorkEnd}
use Rattle.receive_worker.specs.declared.tally.Begun.{Begun}
use Rattle.receive_worker.specs.declared.tally.Begun.TheVariants as begun
use Rattle.receive_worker.specs.Turn.{Outcome}

abbrev pub no_tally : WorkEnd → Tally
no_tally e = record { taken = 0; sent = 0; no_session = 0; short = 0; bad_hmac = 0; changed = 0; no_reply = 0; send_fault = 0; recv_fault = 0; end = e }

-- one outcome more
abbrev pub with_outcome : Tally → Outcome → Tally
with_outcome t (Ok u) = record t { sent = t.sent + 1 }
with_outcome t (Err NoSession) = record t { no_session = t.no_session + 1 }
with_outcome t (Err Short) = record t { short = t.short + 1 }
with_outcome t (Err BadHmac) = record t { bad_hmac = t.bad_hmac + 1 }
with_outcome t (Err NoReply) = record t { no_reply = t.no_reply + 1 }
with_outcome t (Err (Changed m n)) = record t { changed = t.changed + 1 }
with_outcome t (Err SendFault) = record t { send_fault = t.send_fault + 1 }

-- one call of `recv` more, with what it began
abbrev pub with_begun : Tally → Begun → Tally
with_begun t begun.Idle = t
with_begun t begun.Over = t
with_begun t begun.Failed = record t { recv_fault = t.recv_fault + 1 }
with_begun t (begun.Turned outcome) = with_outcome (record t { taken = t.taken + 1 }) outcome

-- The outcomes add up to the datagrams taken, and there were at most n calls of `recv`
pub record AddsUp (n : ℕ) (t : Tally) : Type 0 where
  pub outcomes : t.sent + t.no_session + t.short + t.bad_hmac + t.changed + t.no_reply + t.send_fault ≡ t.taken
  pub calls : t.taken + t.recv_fault ≤ n
