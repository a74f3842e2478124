-- What a turn that was made comes to for a worker: the datagram stays unanswered, or a reply was sent.
use Rattle.std.proofs.Common.{◌≡◌, ◌≢◌, ℕ, List, [], ◌∷◌, ◌++◌, Option, None, Result, Ok, Err, refl, sym, ap, subst, ◌∙◌}
use Rattle.refl_types.specs.HmacKey.{HasHmacKey}
use Rattle.refl_types.specs.declared.types.Mode.{Mode}
use Rattle.refl_types.specs.declared.outcome.Silent.TheVariants as silents
use Rattle.refl_types.specs.declared.outcome.Unanswered.{Unanswered}
use Rattle.refl_types.specs.declared.outcome.Unanswered.TheVariants.{NoSession, Short, BadHmac, NoReply, Changed, SendFault}
use Rattle.reflect_core.specs.declared.judging.Judged.{Judged}
use Rattle.reflect_core.specs.declared.judging.Judged.TheVariants as judged
use Rattle.reflect_core.specs.Arrived.{Arrived}
use Rattle.reflect_core.specs.Judgement.{judgement}
use Rattle.reflect_core.specs.Reflection.{reflection}
use Rattle.session_world.specs.declared.steps.Step.{Step}
use Rattle.session_world.specs.declared.steps.Step.TheVariants.{Retire}
use Rattle.session_world.specs.Keys.{Key, Extra, ConfigParts}
use Rattle.session_world.specs.Worker.{announced}
use Rattle.session_world.specs.Answers.{worker_answers}
use Rattle.session_world.specs.Rows.{ReadsRows}
use Rattle.session_rule.specs.declared.seats.Table.{Table}
use Rattle.session_rule.specs.declared.seats.WorkerSeat.{WorkerSeat}
use Rattle.session_rule.specs.Seats.{size_of, worker_steps}
use Rattle.net_io.specs.Port.{PortEntry}
use Rattle.session_table.specs.Steps.{HasCome}
use Rattle.session_table.specs.Holding.{HoldsNothing}
use Rattle.session_table.specs.Knowing.{Places, Keeps, KeptAs, AreRead, ReadsMore}
use Rattle.session_turn.specs.declared.turning.Drawn.{Drawn}
use Rattle.session_turn.specs.Turn as turns
use Rattle.receive_worker.specs.Turn.{Group, no_match, only_seen, seen_late, seen_drew, query, Outcome, IsSent, IsDrawn, IsTurn, Replies, Turned, failed_sends}
use Rattle.receive_worker.specs.Faults.{RisesBy}
use Rattle.receive_worker.proofs.GrowthFacts.{grows_none, rises_none}

-- the seat let go
pub record LetGo (t : Table) (seat after : WorkerSeat) : Type 0 where
  pub come : HasCome t seat after (Retire ∷ worker_steps seat)
  pub nothing : HoldsNothing (worker_steps after)
  pub retired : announced (worker_steps after) ≡ None
  pub answers : worker_answers (size_of t).slots (worker_steps after) ≡ worker_answers (size_of t).slots (worker_steps seat)

-- ---- unanswered

-- a session with its key stays silent
only_silent : (config : ℕ → ConfigParts) (d : Arrived) (k : Key) (x : Extra) (r : ℕ) (why : Unanswered) (outcome : Outcome) → turns.IsJudged k.mode (config r) d.octets (Err why) → HasHmacKey k.mode (config r) → outcome ≡ Err why
    → IsTurn config d (only_seen k x r) [] outcome
only_silent config d k x r NoSession outcome unkeyed keyed e = absurd (unkeyed keyed)
only_silent config d k x r Short outcome silent keyed e = (silents.Short, silent, (refl, e))
only_silent config d k x r BadHmac outcome silent keyed e = (silents.BadHmac, silent, (refl, e))
only_silent config d k x r NoReply outcome silent keyed e = (silents.NoReply, silent, (refl, e))
only_silent config d k x r (Changed m n) outcome none keyed e = absurd none
only_silent config d k x r SendFault outcome none keyed e = absurd none

-- a datagram isn't reflected under another row
changed_by : (config : ℕ → ConfigParts) (d : Arrived) (k : Key) (x : Extra) (r n r' : ℕ) (j : Judged) → judgement k.mode (config r') d.octets ≡ j → HasHmacKey k.mode (config r') → (¬ turns.Reflects k.mode (config r') d.octets) → (¬ (r ≡ r'))
    → (outcome : Outcome) → outcome ≡ Err (Changed r r') → IsDrawn config d k x r n r' j [] outcome
changed_by config d k x r n r' (judged.Silent why) is keyed not other outcome e = (other, (refl, e))
changed_by config d k x r n r' judged.Reflect is keyed not other outcome e = absurd (not (is, keyed))

same_cause : (a b : Unanswered) → ◌≡◌ {A = Result Drawn Unanswered} (Err a) (Err b) → a ≡ b
same_cause a b e = cc

as_outcome : (a b : Unanswered) → ◌≡◌ {A = Result Drawn Unanswered} (Err a) (Err b) → ◌≡◌ {A = Outcome} (Err a) (Err b)
as_outcome a b e = ap (λ (w : Unanswered). Err w) (same_cause a b e)

unanswered_by : (config : ℕ → ConfigParts) (d : Arrived) (g : Group) (why : Unanswered) → turns.IsTurn config d.octets g (Err why) → turns.IsKeyed config g → IsTurn config d g [] (Err why)
unanswered_by config d no_match why turn keyed = (refl, as_outcome why NoSession turn)
unanswered_by config d (only_seen k x r) why (cause, judged, e) keyed = only_silent config d k x r cause (Err why) judged keyed (as_outcome why cause e)
unanswered_by config d (seen_late k x r) why turn keyed = (turn.0.0, (refl, as_outcome why NoSession turn.1))
unanswered_by config d (seen_drew k x r n r') why turn keyed =
    (turn.0.0, changed_by config d k x r n r' (judgement k.mode (config r') d.octets) refl keyed.1 turn.1.0 turn.1.1 (Err why) (ap (λ (w : Unanswered). Err w) turn.1.2))

-- what was kept before stands for what rows stand for
stands_before : (law : ReadsMore) (old : Places) (before after gained : List Step) (config : ℕ → ConfigParts) → AreRead old before → after ≡ gained ++ before → ReadsRows config after → KeptAs config old
stands_before law old before after gained config read steps reads = read config (law.rows config gained before (subst (ReadsRows config) steps reads))

pub unanswered_turn : (law : ReadsMore) (t : Table) (d : Arrived) (old new : Places) (before after : WorkerSeat) (log : Option (List PortEntry)) (why : Unanswered) → AreRead old (worker_steps before)
    → turns.TookTurn t old new before after (query d) d.octets (Err why) → Turned t d before after log log (Err why)
unanswered_turn law t d old new before after log why read took = record {
  come = took.come;
  nothing = took.nothing;
  retired = took.retired;
  gained = took.gained;
  steps = took.steps;
  group = took.group;
  entries = [];
  answers = took.answers;
  written = grows_none log;
  turn = λ config reads.
      unanswered_by config d took.group why (took.turn config (stands_before law old (worker_steps before) (worker_steps after) took.gained config read took.steps reads) reads) (took.keyed read config reads);
}

-- such a turn has sent nothing that could fail
pub none_failed : (faults : ℕ) (why : Unanswered) → ◌≢◌ {A = Result Drawn Unanswered} (Err why) (Err SendFault) → RisesBy (failed_sends (Err why)) faults faults
none_failed faults NoSession other = rises_none faults faults refl
none_failed faults Short other = rises_none faults faults refl
none_failed faults BadHmac other = rises_none faults faults refl
none_failed faults NoReply other = rises_none faults faults refl
none_failed faults (Changed m n) other = rises_none faults faults refl
none_failed faults SendFault other = absurd (other refl)

-- ---- a reply

-- what a reply under what was drawn is, by the session that was drawn for
drawn_reply : (d : Arrived) (drawn : Drawn) (k : Key) (x : Extra) (n r : ℕ) (c e : ConfigParts) (moment : ℕ) (entries : List PortEntry) (outcome : Outcome) → turns.IsDrawnFor drawn k x n r → c ≡ e
    → IsSent moment (reflection drawn.mode drawn.extra c (record { number = drawn.number; sending = moment }) d) entries outcome → IsSent moment (reflection k.mode x e (record { number = n; sending = moment }) d) entries outcome
drawn_reply d drawn k x n r c e moment entries outcome is same sent =
    subst (λ (f : ConfigParts). IsSent moment (reflection k.mode x f (record { number = n; sending = moment }) d) entries outcome) same
    (subst (λ (i : ℕ). IsSent moment (reflection k.mode x c (record { number = i; sending = moment }) d) entries outcome) is.number
    (subst (λ (y : Extra). IsSent moment (reflection k.mode y c (record { number = drawn.number; sending = moment }) d) entries outcome) is.extra
    (subst (λ (m : Mode). IsSent moment (reflection m drawn.extra c (record { number = drawn.number; sending = moment }) d) entries outcome) is.mode sent)))

module _ (config : ℕ → ConfigParts) (d : Arrived) (drawn : Drawn) (c : ConfigParts) (moment : ℕ) (entries : List PortEntry) (outcome : Outcome) (stands : c ≡ config drawn.row)
    (sent : IsSent moment (reflection drawn.mode drawn.extra c (record { number = drawn.number; sending = moment }) d) entries outcome) where
  replied_by : (g : Group) → turns.IsTurn config d.octets g (Ok drawn) → IsTurn config d g entries outcome
  replied_by no_match turn = absurd cc
  replied_by (only_seen k x r) (why, judged, e) = absurd cc
  replied_by (seen_late k x r) (reflects, e) = absurd cc
  replied_by (seen_drew k x r n r') turn =
      let is = turn.1.1 in (
        turn.0.0,
        subst (λ (j : Judged). IsDrawn config d k x r n r' j entries outcome) (sym turn.1.0.0)
            (moment, drawn_reply d drawn k x n r' c (config r') moment entries outcome is (stands ∙ ap config is.row) sent),
      )

pub replied_turn : (law : ReadsMore) (t : Table) (d : Arrived) (old new : Places) (before after : WorkerSeat) (log log' : Option (List PortEntry)) (drawn : Drawn) (c : ConfigParts) (outcome : Outcome) → AreRead old (worker_steps before)
    → turns.TookTurn t old new before after (query d) d.octets (Ok drawn) → Keeps new drawn.row c → Replies drawn.mode drawn.extra c drawn.number d log log' outcome → Turned t d before after log log' outcome
replied_turn law t d old new before after log log' drawn c outcome read took kept replies = record {
  come = took.come;
  nothing = took.nothing;
  retired = took.retired;
  gained = took.gained;
  steps = took.steps;
  group = took.group;
  entries = replies.entries;
  answers = took.answers;
  written = replies.written;
  turn = λ config reads.
      let was = stands_before law old (worker_steps before) (worker_steps after) took.gained config read took.steps reads in
      replied_by config d drawn c replies.moment replies.entries outcome (took.known.kept config was reads drawn.row c kept) replies.sent took.group (took.turn config was reads);
}
