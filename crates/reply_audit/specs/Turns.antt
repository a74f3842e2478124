-- A worker's turns: what it answered of one datagram, and what became of that datagram (RFC 8762, section 4.3; RFC 9503,
-- section 4.1.1). The latest comes first.
use Rattle.std.specs.Prelude.{◌≡◌, ℕ, ◌<◌, ◌%◌, ◌^◌, ◌==◌, List, [], ◌∷◌, ◌++◌, Option, Some, None, if◌then◌else◌}
use Rattle.refl_types.specs.declared.types.Endpoint.{Endpoint}
use Rattle.refl_types.specs.declared.types.Key.{Key}
use Rattle.refl_types.specs.declared.types.Extra.{Extra}
use Rattle.refl_types.specs.declared.config.ConfigParts.{ConfigParts}
use Rattle.refl_types.specs.declared.outcome.Silent.{Silent}
use Rattle.reflect_core.specs.declared.judging.Judged.TheVariants as judged
use Rattle.reflect_core.specs.Judgement.{judgement}
use Rattle.reflect_core.specs.Reflection.{reflection}
use Rattle.session_key.specs.declared.matching.Query.{Query}
use Rattle.session_world.specs.Answers.{seen, drew, missed, late}
use Rattle.session_world.specs.Keys.{has_key}
use Rattle.session_world.specs.History.{IsLegal}
use Rattle.replay_format.specs.declared.code.UnsentCause.TheVariants as causes
use Rattle.replay_table.specs.Reflection.{meta_of, sent_under}
use Rattle.replay_table.specs.Outcomes.{cause_of}
use Rattle.reply_audit.specs.Claims.{Arrival, replied_at, Told, Replied, Unanswered, Changed, SendFault, Claim, Asked, Looked, Ended, AllFit}
use Rattle.reply_audit.specs.Looks.{Look, State, first_state, query_for, look_of}
use Rattle.reply_audit.specs.Holding.{state_after, IsHistory}
use Rattle.reply_audit.specs.Events.{Event_answer, events, answers_by}

-- no session matches; or one was seen: nothing more was asked, or the draw came too late, or it gave a number, under another
-- configuration or the same
pub data Group : Type 0 where
  no_match : Group
  only_seen : Key → Extra → ConfigParts → Group
  seen_late : Key → Extra → ConfigParts → Group
  seen_drew : Key → Extra → ConfigParts → ℕ → ConfigParts → Group

abbrev pub answers_of : Query → Group → List Event_answer
answers_of q no_match = missed q ∷ []
answers_of q (only_seen k x c) = seen q k x c ∷ []
answers_of q (seen_late k x c) = late q ∷ seen q k x c ∷ []
answers_of q (seen_drew k x c n d) = drew k n d ∷ seen q k x c ∷ []

-- a datagram, the reflector's own addresses at its outcome, the moment of its reply, and what became of it
pub record Turn : Type 0 where
  pub datagram : Arrival
  pub locals : List Endpoint
  pub t3 : ℕ
  pub told : Told

-- after a draw of n under the configuration c
abbrev pub IsToldDrawn : Turn → Key → Extra → ℕ → ConfigParts → Told → Type 0
IsToldDrawn t k x n c (Replied r) =
    (judgement k.mode c t.datagram.octets ≡ judged.Reflect)
    × (r ≡ sent_under (n % 2 ^ 32) (reflection k.mode x c (record { number = n % 2 ^ 32; sending = t.t3 })
    (record { meta = meta_of (replied_at t.t3 t.datagram); octets = t.datagram.octets; locals = t.locals })))
IsToldDrawn t k x n c (Unanswered cause) = ⊥
IsToldDrawn t k x n c (Changed m) = ((why : Silent) × (judgement k.mode c t.datagram.octets ≡ judged.Silent why)) × (m ≡ n % 2 ^ 32)
IsToldDrawn t k x n c (SendFault m) = (judgement k.mode c t.datagram.octets ≡ judged.Reflect) × (m ≡ n % 2 ^ 32)

abbrev pub IsTurn : Turn → Group → Type 0
IsTurn t no_match = t.told ≡ Unanswered causes.NoSession
IsTurn t (only_seen k x c) = (why : Silent) × (judgement k.mode c t.datagram.octets ≡ judged.Silent why) × (t.told ≡ Unanswered (cause_of why))
IsTurn t (seen_late k x c) = (judgement k.mode c t.datagram.octets ≡ judged.Reflect) × (t.told ≡ Unanswered causes.NoSession)
IsTurn t (seen_drew k x c n d) = (judgement k.mode c t.datagram.octets ≡ judged.Reflect) × IsToldDrawn t k x n d t.told

-- the answers are those of these turns, each by a group
abbrev pub AreTurns : List Event_answer → List Turn → Type 0
AreTurns xs [] = xs ≡ []
AreTurns xs (t ∷ ts) = (g : Group) × (more : List Event_answer) × (xs ≡ answers_of (query_for t.datagram) g ++ more) × IsTurn t g × AreTurns more ts

-- ---- the turns that a recorded run claims of a worker

abbrev pub turn_of : State → ℕ → Told → Option Look → List Turn
turn_of s t3 o None = []
turn_of s t3 o (Some l) = record { datagram = l.datagram; locals = s.table.locals; t3 = t3; told = o } ∷ []

unfoldable pub turns_at : ℕ → State → Claim → List Turn
turns_at w s (Asked i a) = []
turns_at w s (Looked v a) = []
turns_at w s (Ended v t3 o) = if v == w then turn_of s t3 o (look_of v s.looks) else []

abbrev pub turns_from : ℕ → State → List Turn → List Claim → List Turn
turns_from w s ts [] = ts
turns_from w s ts (c ∷ cs) = turns_from w (state_after s c) (turns_at w s c ++ ts) cs

abbrev pub turns_of : ℕ → List Claim → List Turn
turns_of w cs = turns_from w first_state [] cs

-- ---- the law

-- The events are a legal history of the one-thread table, and what each worker answered are its turns
pub record IsLegalRun (cs : List Claim) : Type 0 where
  pub legal : IsLegal has_key (events cs)
  pub turns : (w : ℕ) → 0 < w → AreTurns (answers_by w (events cs)) (turns_of w cs)

abbrev pub HistoriesAreLegal : Type 0
HistoriesAreLegal = (cs : List Claim) → AllFit cs → IsHistory cs → IsLegalRun cs
