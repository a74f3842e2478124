-- The turn of the worker that is split off for one datagram (this project's own; RFC 8762, section 4.3). A row is named by its
-- number; which configuration it stands for is a parameter.
use Rattle.std.specs.Prelude.{◌≡◌, ◌⊎◌, ℕ, ◌%◌, ◌^◌, ◌≤◌, List, [], ◌∷◌, ◌++◌, length, drop, Result, Ok, Err}
use Rattle.refl_types.specs.declared.types.Endpoint.{Endpoint}
use Rattle.refl_types.specs.declared.types.Mode.{Mode}
use Rattle.refl_types.specs.declared.outcome.Silent.{Silent}
use Rattle.refl_types.specs.declared.outcome.Silent.TheVariants as silents
use Rattle.refl_types.specs.declared.outcome.Unanswered.{Unanswered}
use Rattle.refl_types.specs.declared.outcome.Unanswered.TheVariants as unanswered
use Rattle.refl_types.specs.HmacKey.{HasHmacKey}
use Rattle.reflect_core.specs.Judgement.{judgement}
use Rattle.reflect_core.specs.declared.judging.Judged.TheVariants as judged
use Rattle.session_world.specs.declared.steps.TableSize.{TableSize}
use Rattle.session_world.specs.declared.steps.Step.{Step}
use Rattle.session_world.specs.Keys.{Key, Extra, ConfigParts}
use Rattle.session_world.specs.Answers.{Answer, seen, drew, missed, late, worker_answers}
use Rattle.session_world.specs.Rows.{ReadsRows}
use Rattle.session_table.specs.Knowing.{Places, KeptAs}
use Rattle.session_turn.specs.Turn.{Reflects}
use Rattle.replay_format.specs.declared.code.UnsentCause.{UnsentCause}
use Rattle.replay_format.specs.declared.code.UnsentCause.TheVariants.{NoSession, Short, BadHmac, NoReply}
use Rattle.replay_format.specs.Records.{Datagram}
use Rattle.replay_format.specs.Answers.{Sent, answer_limit, answer_octets}
use Rattle.replay_table.specs.Table.{Entry}
use Rattle.replay_table.specs.Reflection.{sending}
use Rattle.shared_replay.specs.Following.{query_for}

-- ---- the answer to a datagram that is reflected

-- the entry is of this mode and has these, and its count is the number modulo 2^32
pub record IsEntryOf (e : Entry) (m : Mode) (x : Extra) (c : ConfigParts) (number : ℕ) : Type 0 where
  pub mode : e.key.mode ≡ m
  pub extra : e.extra ≡ x
  pub config : e.config ≡ c
  pub count : e.count % 2 ^ 32 ≡ number

-- the answer in this mode, under this extra, configuration and number was written at the front, n octets, where these are the
-- reflector's own addresses
pub record IsSent (locals : List Endpoint) (m : Mode) (x : Extra) (c : ConfigParts) (number : ℕ) (d : Datagram) (before written : List ℕ) (n : ℕ) : Type 0 where
  pub octets : (e : Entry) → IsEntryOf e m x c number → written ≡ answer_octets (Sent (sending locals e d)) ++ drop n before
  pub len : (e : Entry) → IsEntryOf e m x c number → n ≡ length (answer_octets (Sent (sending locals e d)))
  pub fits : n ≤ answer_limit

-- ---- judgements

-- what an answer tells of a cause
abbrev pub told : Unanswered → UnsentCause
told unanswered.NoSession = NoSession
told unanswered.Short = Short
told unanswered.BadHmac = BadHmac
told unanswered.NoReply = NoReply
told (unanswered.Changed m n) = NoSession
told unanswered.SendFault = NoSession

-- ---- the turn

-- a session was seen, and nothing more was asked
pub record HasSeen (xs : List (Answer ℕ)) (d : Datagram) : Type 0 where
  pub key : Key
  pub extra : Extra
  pub row : ℕ
  pub answers : xs ≡ seen (query_for d) key extra row ∷ []

-- a session was seen, and a number drawn, under a row
pub record HasDrawn (xs : List (Answer ℕ)) (d : Datagram) : Type 0 where
  pub key : Key
  pub extra : Extra
  pub row : ℕ
  pub number : ℕ
  pub drawn_row : ℕ
  pub answers : xs ≡ drew key number drawn_row ∷ seen (query_for d) key extra row ∷ []

-- the session that was seen stays silent
pub record StaysSilent (config : ℕ → ConfigParts) (xs : List (Answer ℕ)) (d : Datagram) (cause : Silent) : Type 0 where
  pub saw : HasSeen xs d
  pub silent : judgement saw.key.mode (config saw.row) d.octets ≡ judged.Silent cause

-- the datagram is reflected under the number
pub record HasReplied (config : ℕ → ConfigParts) (xs : List (Answer ℕ)) (locals : List Endpoint) (d : Datagram) (before written : List ℕ) (n : ℕ) : Type 0 where
  pub drawn : HasDrawn xs d
  pub reflects : Reflects drawn.key.mode (config drawn.row) d.octets
  pub sent : IsSent locals drawn.key.mode drawn.extra (config drawn.drawn_row) drawn.number d before written n

-- What doesn't come where one thread does all: a session of mode Auth without an HMAC key, a draw that comes too late, and a row
-- that was exchanged since the look
abbrev pub NeverComes : (ℕ → ConfigParts) → List (Answer ℕ) → Datagram → Type 0
NeverComes config xs d =
    ((saw : HasSeen xs d) × ¬ HasHmacKey saw.key.mode (config saw.row))
    ⊎ ((k : Key) × (x : Extra) × (r : ℕ) × (xs ≡ late (query_for d) ∷ seen (query_for d) k x r ∷ []))
    ⊎ ((drawn : HasDrawn xs d) × Reflects drawn.key.mode (config drawn.row) d.octets × ¬ Reflects drawn.key.mode (config drawn.drawn_row) d.octets)

-- what was found and answered, where the answer is so many octets, or nothing was written for a cause
abbrev pub IsTurn : (ℕ → ConfigParts) → List (Answer ℕ) → List Endpoint → Datagram → List ℕ → List ℕ → Result ℕ UnsentCause → Type 0
IsTurn config xs locals d before written (Ok n) = HasReplied config xs locals d before written n
IsTurn config xs locals d before written (Err NoSession) = (written ≡ before) × ((xs ≡ missed (query_for d) ∷ []) ⊎ NeverComes config xs d)
IsTurn config xs locals d before written (Err Short) = (written ≡ before) × StaysSilent config xs d silents.Short
IsTurn config xs locals d before written (Err BadHmac) = (written ≡ before) × StaysSilent config xs d silents.BadHmac
IsTurn config xs locals d before written (Err NoReply) = (written ≡ before) × StaysSilent config xs d silents.NoReply

-- The worker made the steps xs. Whatever rows stand for, as far as its loads tell and as far as rows were kept as that before:
-- rows are kept as that, and this is the turn
pub record Turned (z : TableSize) (old new : Places) (xs : List Step) (locals : List Endpoint) (d : Datagram) (before written : List ℕ) (r : Result ℕ UnsentCause) : Type 0 where
  pub kept : (config : ℕ → ConfigParts) → KeptAs config old → ReadsRows config xs → KeptAs config new
  pub turn : (config : ℕ → ConfigParts) → KeptAs config old → ReadsRows config xs → IsTurn config (worker_answers z.slots xs) locals d before written r
