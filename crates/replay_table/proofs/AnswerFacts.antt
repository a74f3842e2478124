-- What a record is answered, and which table it leaves, case by case.
use Rattle.std.proofs.Common.{◌≡◌, List, Some, None, refl}
use Rattle.refl_types.specs.declared.outcome.Silent as silent
use Rattle.reflect_core.specs.declared.judging.Judged.TheVariants.{Reflect, Silent}
use Rattle.reflect_core.specs.Judgement.{judgement}
use Rattle.replay_format.specs.declared.code.OpenAnswer.{OpenAnswer}
use Rattle.replay_format.specs.declared.code.OpenAnswer.TheVariants as opens
use Rattle.replay_format.specs.declared.code.UnsentCause.TheVariants as causes
use Rattle.replay_format.specs.Records.{Item, Arrives, Opening, Datagram}
use Rattle.replay_format.specs.Answers.{Answer, Sent, Unsent}
use Rattle.replay_table.specs.Table.{Entry, Table, update, raised}
use Rattle.replay_table.specs.Reflection.{sending}
use Rattle.replay_table.specs.Outcomes.{answer, after, session_of, cause_of, after_opening}

-- ---- datagrams

abbrev Leaves : Table → Item → Answer → Table → Type 0
Leaves t item a next = (answer t item ≡ a) × (after t item ≡ next)

pub no_session : (t : Table) (d : Datagram) → session_of t d ≡ None → Leaves t (Arrives d) (Unsent causes.NoSession) t
unfolding answer after
no_session t d none = (rw none refl, rw none refl)

pub not_reflected : (t : Table) (d : Datagram) (e : Entry) (cause : silent.Silent) → session_of t d ≡ Some e → judgement e.key.mode e.config d.octets ≡ Silent cause → Leaves t (Arrives d) (Unsent (cause_of cause)) t
unfolding answer after
not_reflected t d e cause some judged = (rw (some, judged) refl, rw (some, judged) refl)

abbrev pub with_sessions : Table → List Entry → Table
with_sessions t es = record { sessions = es; configs = t.configs; locals = t.locals }

pub reflected : (t : Table) (d : Datagram) (e : Entry) → session_of t d ≡ Some e → judgement e.key.mode e.config d.octets ≡ Reflect
    → Leaves t (Arrives d) (Sent (sending t.locals e d)) (with_sessions t (update e.key raised t.sessions))
unfolding answer after
reflected t d e some judged = (rw (some, judged) refl, rw (some, judged) refl)

-- ---- openings

-- one that is refused leaves all
pub refused_opening : (a : OpenAnswer) (t : Table) (o : Opening) → (a ≡ opens.Opened → ⊥) → after_opening a t o ≡ t
refused_opening opens.Opened t o other = absurd (other refl)
refused_opening opens.Duplicate t o other = refl
refused_opening opens.ModeClash t o other = refl
refused_opening opens.Full t o other = refl
refused_opening opens.RowsFull t o other = refl
refused_opening opens.NoKey t o other = refl
