-- A turn of a worker: the answers of its seat to one datagram, what the port's log tells after its taking, and the outcome (RFC
-- 8762, section 4.3; RFC 9503, section 4.1.1). That a datagram is left unanswered where its configuration changed meanwhile is
-- this project's own. A row is named by its number; which configuration it stands for is a parameter.
use Rattle.std.specs.Prelude.{◌≡◌, ℕ, List, [], ◌∷◌, ◌++◌, Option, Some, None, Result, Ok, Err, ⊤}
use Rattle.refl_types.specs.declared.types.Meta.{Meta}
use Rattle.refl_types.specs.declared.types.Mode.{Mode}
use Rattle.refl_types.specs.declared.outcome.Silent.{Silent}
use Rattle.refl_types.specs.declared.outcome.Silent.TheVariants as silent
use Rattle.refl_types.specs.declared.outcome.Unanswered.{Unanswered}
use Rattle.refl_types.specs.declared.outcome.Unanswered.TheVariants.{NoSession, Short, BadHmac, NoReply, Changed, SendFault}
use Rattle.reflect_core.specs.declared.judging.Judged.{Judged}
use Rattle.reflect_core.specs.declared.judging.Judged.TheVariants as judged
use Rattle.reflect_core.specs.Arrived.{Arrived}
use Rattle.reflect_core.specs.Judgement.{judgement}
use Rattle.reflect_core.specs.Reflection.{Reflected, reflection}
use Rattle.session_key.specs.Matching.{query_of}
use Rattle.session_world.specs.declared.steps.Step.{Step}
use Rattle.session_world.specs.Keys.{Query, Key, Extra, ConfigParts}
use Rattle.session_world.specs.Worker.{announced}
use Rattle.session_world.specs.Answers.{worker_answers}
use Rattle.session_world.specs.Rows.{ReadsRows}
use Rattle.session_rule.specs.declared.seats.Table.{Table}
use Rattle.session_rule.specs.declared.seats.WorkerSeat.{WorkerSeat}
use Rattle.session_rule.specs.Seats.{size_of, worker_steps}
use Rattle.port_io.specs.declared.outside.Failed.{Failed}
use Rattle.net_io.specs.Log.{Grows}
use Rattle.net_io.specs.Port.{PortEntry, took, read, sent, send_failed}
use Rattle.session_table.specs.Steps.{HasCome}
use Rattle.session_table.specs.Holding.{HoldsNothing}
pub use Rattle.session_turn.specs.Turn.{Group, no_match, only_seen, seen_late, seen_drew, answers_of}

abbrev pub query : Arrived → Query
query d = query_of d.meta.local d.meta.peer d.octets

-- ---- the outcome

abbrev pub Outcome : Type 0
Outcome = Result (Unit {0}) Unanswered

-- the cause of a silent judgement
abbrev pub silence : Silent → Unanswered
silence silent.Short = Short
silence silent.BadHmac = BadHmac
silence silent.NoReply = NoReply

-- nothing is told, and the datagram is unanswered for this cause
abbrev pub IsUnanswered : Unanswered → List PortEntry → Outcome → Type 0
IsUnanswered why entries outcome = (entries ≡ []) × (outcome ≡ Err why)

-- a moment was read, and the reply was sent, or its one send failed
abbrev pub IsSent : ℕ → Reflected → List PortEntry → Outcome → Type 0
IsSent moment reply entries (Ok u) = entries ≡ read moment ∷ sent reply.from reply.to reply.octets ∷ []
IsSent moment reply entries (Err why) = (entries ≡ read moment ∷ send_failed reply.from reply.to reply.octets ∷ []) × (why ≡ SendFault)

-- what the log tells of one send of a reply
abbrev pub sent_entry : Reflected → Result (Unit {0}) Failed → PortEntry
sent_entry reply (Ok u) = sent reply.from reply.to reply.octets
sent_entry reply (Err e) = send_failed reply.from reply.to reply.octets

-- what the configuration of a row makes of the datagram
abbrev pub judged_under : (ℕ → ConfigParts) → Arrived → Key → ℕ → Judged
judged_under config d k r = judgement k.mode (config r) d.octets

-- After a draw, by the judgement under the row drawn: where it is silent, that row is another than the one seen
abbrev pub IsDrawn : (ℕ → ConfigParts) → Arrived → Key → Extra → ℕ → ℕ → ℕ → Judged → List PortEntry → Outcome → Type 0
IsDrawn config d k x r n r' (judged.Silent why) entries outcome = (¬ (r ≡ r')) × IsUnanswered (Changed r r') entries outcome
IsDrawn config d k x r n r' judged.Reflect entries outcome =
    (moment : ℕ) × IsSent moment (reflection k.mode x (config r') (record { number = n; sending = moment }) d) entries outcome

-- The turn of a datagram: the seat's answers, what the log tells after the taking, and the outcome
abbrev pub IsTurn : (ℕ → ConfigParts) → Arrived → Group → List PortEntry → Outcome → Type 0
IsTurn config d no_match entries outcome = IsUnanswered NoSession entries outcome
IsTurn config d (only_seen k x r) entries outcome =
    (why : Silent) × (judged_under config d k r ≡ judged.Silent why) × IsUnanswered (silence why) entries outcome
IsTurn config d (seen_late k x r) entries outcome =
    (judged_under config d k r ≡ judged.Reflect) × IsUnanswered NoSession entries outcome
IsTurn config d (seen_drew k x r n r') entries outcome =
    (judged_under config d k r ≡ judged.Reflect) × IsDrawn config d k x r n r' (judged_under config d k r') entries outcome

-- the log's last entry, where it is told, is the taking of this datagram
abbrev pub LastTook : Option (List PortEntry) → Meta → List ℕ → Type 0
LastTook None meta octets = ⊤
LastTook (Some log) meta octets = (before : List PortEntry) × (log ≡ before ++ took meta octets ∷ [])

-- how many failures of the port a turn's outcome tells
abbrev pub failed_sends : Outcome → ℕ
failed_sends (Ok u) = 0
failed_sends (Err NoSession) = 0
failed_sends (Err Short) = 0
failed_sends (Err BadHmac) = 0
failed_sends (Err NoReply) = 0
failed_sends (Err (Changed m n)) = 0
failed_sends (Err SendFault) = 1

-- ---- what a call does

-- A reply was sent under what was drawn, or its one send failed, and the log tells just that
pub record Replies (m : Mode) (x : Extra) (c : ConfigParts) (n : ℕ) (d : Arrived) (log log' : Option (List PortEntry)) (outcome : Outcome) : Type 0 where
  pub moment : ℕ
  pub entries : List PortEntry
  pub sent : IsSent moment (reflection m x c (record { number = n; sending = moment }) d) entries outcome
  pub written : Grows log log' entries

-- A datagram was answered: the seat gained the answers of just this group, and the port's log grew by just these entries. It is a
-- turn whatever configurations the rows stand for, as far as the seat's loads of rows tell. The seat holds nothing, and its
-- announcement names no slot
pub record Turned (t : Table) (d : Arrived) (before after : WorkerSeat) (log log' : Option (List PortEntry)) (outcome : Outcome) : Type 0 where
  pub come : HasCome t before after (worker_steps after)
  pub nothing : HoldsNothing (worker_steps after)
  pub retired : announced (worker_steps after) ≡ None
  pub gained : List Step
  pub steps : worker_steps after ≡ gained ++ worker_steps before
  pub group : Group
  pub entries : List PortEntry
  pub answers : worker_answers (size_of t).slots (worker_steps after) ≡ answers_of (query d) group ++ worker_answers (size_of t).slots (worker_steps before)
  pub written : Grows log log' entries
  pub turn : (config : ℕ → ConfigParts) → ReadsRows config (worker_steps after) → IsTurn config d group entries outcome
