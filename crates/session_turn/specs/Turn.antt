-- The turn of a datagram: what its seat answers, and what comes of it (RFC 8762, section 4.3; RFC 9503, section 4.1.1). That a
-- datagram is left unanswered where its configuration changed meanwhile is this project's own. A row is named by its number;
-- which configuration it stands for is a parameter.
use Rattle.std.specs.Prelude.{◌≡◌, ℕ, List, [], ◌∷◌, ◌++◌, None, Result, Ok, Err}
use Rattle.refl_types.specs.declared.types.Mode.{Mode}
use Rattle.refl_types.specs.declared.outcome.Silent.TheVariants as silent
use Rattle.refl_types.specs.declared.outcome.Unanswered.{Unanswered}
use Rattle.refl_types.specs.declared.outcome.Unanswered.TheVariants.{NoSession, Short, BadHmac, NoReply, Changed, SendFault}
use Rattle.refl_types.specs.HmacKey.{HasHmacKey}
use Rattle.reflect_core.specs.declared.judging.Judged.{Judged}
use Rattle.reflect_core.specs.declared.judging.Judged.TheVariants as judged
use Rattle.reflect_core.specs.Judgement.{judgement}
use Rattle.session_world.specs.declared.steps.TableSize.{TableSize}
use Rattle.session_world.specs.declared.steps.Step.{Step}
use Rattle.session_world.specs.declared.steps.Step.TheVariants.{Retire}
use Rattle.session_world.specs.Keys.{Query, Key, Extra, ConfigParts}
use Rattle.session_world.specs.Worker.{announced}
use Rattle.session_world.specs.Answers.{Answer, seen, drew, missed, late, worker_answers}
use Rattle.session_world.specs.Rows.{ReadsRows}
use Rattle.session_rule.specs.declared.seats.Table.{Table}
use Rattle.session_rule.specs.declared.seats.WorkerSeat.{WorkerSeat}
use Rattle.session_rule.specs.Seats.{size_of, worker_steps}
use Rattle.session_table.specs.declared.found.Sight.{Sight}
use Rattle.session_table.specs.Steps.{HasCome}
use Rattle.session_table.specs.Holding.{HoldsNothing}
use Rattle.session_table.specs.Knowing.{Places, Keeps, KeptAs, AreRead, StaysKnown, DrewKnown}
use Rattle.session_turn.specs.declared.turning.Drawn.{Drawn}
use Rattle.session_turn.specs.declared.judging.Verdict.{Verdict}
use Rattle.session_turn.specs.declared.judging.Verdict.TheVariants as verdict

-- ---- what a seat answers

-- no session matches; or one was seen, under a row: nothing more was asked, or the draw came too late, or it gave a number, under
-- another row or the same
pub data Group : Type 0 where
  no_match : Group
  only_seen : Key → Extra → ℕ → Group
  seen_late : Key → Extra → ℕ → Group
  seen_drew : Key → Extra → ℕ → ℕ → ℕ → Group

-- these answers in the seat's list, the latest first
abbrev pub answers_of : Query → Group → List (Answer ℕ)
answers_of q no_match = missed q ∷ []
answers_of q (only_seen k x r) = seen q k x r ∷ []
answers_of q (seen_late k x r) = late q ∷ seen q k x r ∷ []
answers_of q (seen_drew k x r n r') = drew k n r' ∷ seen q k x r ∷ []

-- ---- judgements

-- the datagram is reflected, and the configuration serves a session of the mode
abbrev pub Reflects : Mode → ConfigParts → List ℕ → Type 0
Reflects mode c octets = (judgement mode c octets ≡ judged.Reflect) × HasHmacKey mode c

-- what a verdict says
abbrev pub outcome_of : Verdict → Result (Unit {0}) Unanswered
outcome_of verdict.Reflect = Ok tt
outcome_of verdict.NoKey = Err NoSession
outcome_of verdict.Short = Err Short
outcome_of verdict.BadHmac = Err BadHmac
outcome_of verdict.NoReply = Err NoReply

-- what is told of a judgement
abbrev pub IsTold : Judged → Result (Unit {0}) Unanswered → Type 0
IsTold j (Ok u) = j ≡ judged.Reflect
IsTold j (Err NoSession) = ⊥
IsTold j (Err Short) = j ≡ judged.Silent silent.Short
IsTold j (Err BadHmac) = j ≡ judged.Silent silent.BadHmac
IsTold j (Err NoReply) = j ≡ judged.Silent silent.NoReply
IsTold j (Err (Changed m n)) = ⊥
IsTold j (Err SendFault) = ⊥

-- Whether it is, and why not. Where a session of mode Auth has no HMAC key, it is as if it weren't there
abbrev pub IsJudged : Mode → ConfigParts → List ℕ → Result (Unit {0}) Unanswered → Type 0
IsJudged mode c octets (Ok u) = Reflects mode c octets
IsJudged mode c octets (Err NoSession) = ¬ HasHmacKey mode c
IsJudged mode c octets (Err Short) = judgement mode c octets ≡ judged.Silent silent.Short
IsJudged mode c octets (Err BadHmac) = judgement mode c octets ≡ judged.Silent silent.BadHmac
IsJudged mode c octets (Err NoReply) = judgement mode c octets ≡ judged.Silent silent.NoReply
IsJudged mode c octets (Err (Changed m n)) = ⊥
IsJudged mode c octets (Err SendFault) = ⊥

-- ---- the turn

-- what was drawn, for a session with this key and extra: this number, under this row
pub record IsDrawnFor (d : Drawn) (k : Key) (x : Extra) (n r : ℕ) : Type 0 where
  pub mode : d.mode ≡ k.mode
  pub extra : d.extra ≡ x
  pub number : d.number ≡ n
  pub row : d.row ≡ r

-- After a draw the datagram is reflected under the row drawn; or it isn't, and that row is another than the one seen
abbrev pub IsDrawn : (ℕ → ConfigParts) → List ℕ → Key → Extra → ℕ → ℕ → ℕ → Result Drawn Unanswered → Type 0
IsDrawn config octets k x r n r' (Ok d) = Reflects k.mode (config r') octets × IsDrawnFor d k x n r'
IsDrawn config octets k x r n r' (Err why) = (¬ Reflects k.mode (config r') octets) × (¬ (r ≡ r')) × (why ≡ Changed r r')

-- The turn of a datagram: the seat's answers, and what comes of it
abbrev pub IsTurn : (ℕ → ConfigParts) → List ℕ → Group → Result Drawn Unanswered → Type 0
IsTurn config octets no_match result = result ≡ Err NoSession
IsTurn config octets (only_seen k x r) result = (why : Unanswered) × IsJudged k.mode (config r) octets (Err why) × (result ≡ Err why)
IsTurn config octets (seen_late k x r) result = Reflects k.mode (config r) octets × (result ≡ Err NoSession)
IsTurn config octets (seen_drew k x r n r') result = Reflects k.mode (config r) octets × IsDrawn config octets k x r n r' result

-- each session of mode Auth that was seen has an HMAC key, under the row seen and under the row drawn
abbrev pub IsKeyed : (ℕ → ConfigParts) → Group → Type 0
IsKeyed config no_match = Unit {0}
IsKeyed config (only_seen k x r) = HasHmacKey k.mode (config r)
IsKeyed config (seen_late k x r) = HasHmacKey k.mode (config r)
IsKeyed config (seen_drew k x r n r') = HasHmacKey k.mode (config r) × HasHmacKey k.mode (config r')

-- A turn was made for a datagram of this query and these octets: the seat gained the answers of just this group, holds nothing,
-- and its announcement names no slot. It is a turn whatever configurations rows stand for, as far as the seat's loads of rows
-- tell, and as far as rows were kept as that before. Where all rows were kept as the seat had read them, no key is missing
pub record TookTurn (t : Table) (old new : Places) (before after : WorkerSeat) (q : Query) (octets : List ℕ) (result : Result Drawn Unanswered) : Type 0 where
  pub come : HasCome t before after (worker_steps after)
  pub nothing : HoldsNothing (worker_steps after)
  pub retired : announced (worker_steps after) ≡ None
  pub known : StaysKnown old new (worker_steps before) (worker_steps after)
  pub gained : List Step
  pub steps : worker_steps after ≡ gained ++ worker_steps before
  pub group : Group
  pub answers : worker_answers (size_of t).slots (worker_steps after) ≡ answers_of q group ++ worker_answers (size_of t).slots (worker_steps before)
  pub turn : (config : ℕ → ConfigParts) → KeptAs config old → ReadsRows config (worker_steps after) → IsTurn config octets group result
  pub keyed : AreRead old (worker_steps before) → (config : ℕ → ConfigParts) → ReadsRows config (worker_steps after) → IsKeyed config group

-- the configuration of the row drawn is kept, and the datagram is reflected under it
pub record KeepsFor (rows : Places) (d : Drawn) (octets : List ℕ) : Type 0 where
  pub config : ConfigParts
  pub kept : Keeps rows d.row config
  pub reflects : Reflects d.mode config octets

-- ---- a draw under another row

-- the row drawn is kept, and the seat let go
pub record WentOn (z : TableSize) (old new : Places) (before after : List Step) (s : Sight) (n r : ℕ) : Type 0 where
  pub mid : List Step
  pub drew : DrewKnown z old new before mid s n r
  pub stays : StaysKnown old new before mid
  pub steps : after ≡ Retire ∷ mid
  pub answers : worker_answers z.slots after ≡ worker_answers z.slots mid
