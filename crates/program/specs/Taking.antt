-- What is done with the octets at the front of a stream: the first record is answered behind what is due, or none is.
use Rattle.std.specs.Prelude.{ℕ, ◌≡◌, ◌<◌, ◌≤◌, List}
use Rattle.replay_format.specs.Records.{Item}
use Rattle.replay_format.specs.View.{IsFront, IsBegun, IsForeign}
use Rattle.shared_replay.specs.Stands.{Kept}
use Rattle.program.specs.declared.outbox.Outbox.{Outbox}
use Rattle.program.specs.declared.outbox.Taken.{Taken}
use Rattle.program.specs.declared.outbox.Taken.TheVariants as taken
use Rattle.program.specs.Buffers.{due}
use Rattle.program.specs.Answering.{AnswersBehind}

-- the answer to a record stands behind what was due
abbrev pub AnswersItem : Item → Outbox → Outbox → Kept → Kept → Type 0
AnswersItem item box box' sessions sessions' = AnswersBehind item (due box) (due box') sessions sessions'

-- the front of octets, of which a record may have as many as the limit
abbrev pub IsTaken : Taken → List ℕ → ℕ → Outbox → Outbox → Kept → Kept → Type 0
IsTaken (taken.Answered n) octets limit box box' sessions sessions' =
    (item : Item) × IsFront octets item n × (n ≤ limit) × AnswersItem item box box' sessions sessions'
IsTaken taken.TooLong octets limit box box' sessions sessions' =
    ((item : Item) × (n : ℕ) × IsFront octets item n × (limit < n)) × (due box' ≡ due box) × (sessions' ≡ sessions)
IsTaken taken.More octets limit box box' sessions sessions' = IsBegun octets × (due box' ≡ due box) × (sessions' ≡ sessions)
IsTaken taken.Bad octets limit box box' sessions sessions' = IsForeign octets × (due box' ≡ due box) × (sessions' ≡ sessions)
