-- What a turn that was made comes to for a replay, whose worker had made no step before.
use Rattle.std.proofs.Common.{◌≡◌, inl, inr, ℕ, List, [], ◌++◌, Result, Ok, Err, refl, sym, ap, subst, ◌∙◌}
use Rattle.refl_types.specs.declared.types.Endpoint.{Endpoint}
use Rattle.refl_types.specs.declared.types.Mode.{Mode}
use Rattle.refl_types.specs.declared.outcome.Unanswered.{Unanswered}
use Rattle.refl_types.specs.declared.outcome.Unanswered.TheVariants.{NoSession, Short, BadHmac, NoReply, Changed, SendFault}
use Rattle.session_world.specs.declared.steps.Step.{Step}
use Rattle.session_world.specs.Keys.{Key, Extra, ConfigParts}
use Rattle.session_world.specs.Answers.{Answer, worker_answers}
use Rattle.session_rule.specs.declared.seats.Table.{Table}
use Rattle.session_rule.specs.declared.seats.WorkerSeat.{WorkerSeat}
use Rattle.session_rule.specs.Seats.{size_of, worker_steps}
use Rattle.session_table.specs.Knowing.{Places, Keeps}
use Rattle.session_turn.specs.declared.turning.Drawn.{Drawn}
use Rattle.session_turn.specs.Turn as turns
use Rattle.session_turn.specs.Turn.{Group, no_match, only_seen, seen_late, seen_drew, answers_of}
use Rattle.replay_format.specs.Records.{Datagram}
use Rattle.shared_replay.specs.Following.{query_for}
use Rattle.shared_replay.specs.Turn.{IsSent, IsTurn, Turned, told}

same_cause : (a b : Unanswered) → ◌≡◌ {A = Result Drawn Unanswered} (Err a) (Err b) → a ≡ b
same_cause a b e = cc

module _ (config : ℕ → ConfigParts) (locals : List Endpoint) (d : Datagram) (before : List ℕ) where
  -- a session that was seen stays silent
  only_told : (ys : List (Answer ℕ)) (k : Key) (x : Extra) (r : ℕ) (why : Unanswered) → ys ≡ answers_of (query_for d) (only_seen k x r) → turns.IsJudged k.mode (config r) d.octets (Err why) → IsTurn config ys locals d before before (Err (told why))
  only_told ys k x r NoSession e judged = (refl, inr (inl (record { key = k; extra = x; row = r; answers = e }, judged)))
  only_told ys k x r Short e judged = (refl, record { saw = record { key = k; extra = x; row = r; answers = e }; silent = judged })
  only_told ys k x r BadHmac e judged = (refl, record { saw = record { key = k; extra = x; row = r; answers = e }; silent = judged })
  only_told ys k x r NoReply e judged = (refl, record { saw = record { key = k; extra = x; row = r; answers = e }; silent = judged })
  only_told ys k x r (Changed m n) e judged = absurd judged
  only_told ys k x r SendFault e judged = absurd judged

  unanswered_by : (ys : List (Answer ℕ)) (g : Group) (why : Unanswered) → ys ≡ answers_of (query_for d) g → turns.IsTurn config d.octets g (Err why) → IsTurn config ys locals d before before (Err (told why))
  unanswered_by ys no_match why e turn = subst (λ (w : Unanswered). IsTurn config ys locals d before before (Err (told w))) (sym (same_cause why NoSession turn)) (refl, inl e)
  unanswered_by ys (only_seen k x r) why e (cause, judged, is) = subst (λ (w : Unanswered). IsTurn config ys locals d before before (Err (told w))) (sym (same_cause why cause is)) (only_told ys k x r cause e judged)
  unanswered_by ys (seen_late k x r) why e turn = subst (λ (w : Unanswered). IsTurn config ys locals d before before (Err (told w))) (sym (same_cause why NoSession turn.1)) (refl, inr (inr (inl (k, x, r, e))))
  unanswered_by ys (seen_drew k x r n r') why e turn =
      subst (λ (w : Unanswered). IsTurn config ys locals d before before (Err (told w))) (sym turn.1.2)
      (refl, inr (inr (inr (record { key = k; extra = x; row = r; number = n; drawn_row = r'; answers = e }, turn.0, turn.1.0))))

  module _ (written : List ℕ) (drawn : Drawn) (c : ConfigParts) (len : ℕ) (stands : c ≡ config drawn.row) (sent : IsSent locals drawn.mode drawn.extra c drawn.number d before written len) where
    sent_for : (k : Key) (x : Extra) (n r : ℕ) → turns.IsDrawnFor drawn k x n r → IsSent locals k.mode x (config r) n d before written len
    sent_for k x n r is =
        subst (λ (f : ConfigParts). IsSent locals k.mode x f n d before written len) (stands ∙ ap config is.row)
        (subst (λ (i : ℕ). IsSent locals k.mode x c i d before written len) is.number
        (subst (λ (y : Extra). IsSent locals k.mode y c drawn.number d before written len) is.extra
        (subst (λ (m : Mode). IsSent locals m drawn.extra c drawn.number d before written len) is.mode sent)))

    replied_by : (ys : List (Answer ℕ)) (g : Group) → ys ≡ answers_of (query_for d) g → turns.IsTurn config d.octets g (Ok drawn) → IsTurn config ys locals d before written (Ok len)
    replied_by ys no_match e turn = absurd cc
    replied_by ys (only_seen k x r) e (why, judged, is) = absurd cc
    replied_by ys (seen_late k x r) e (reflects, is) = absurd cc
    replied_by ys (seen_drew k x r n r') e turn = record {
      drawn = record { key = k; extra = x; row = r; number = n; drawn_row = r'; answers = e };
      reflects = turn.0;
      sent = sent_for k x n r' turn.1.1;
    }

-- the answers of a worker that had made no step
answers_alone : (slots : ℕ) (start xs : List Step) (q : _) (g : Group) → start ≡ [] → worker_answers slots xs ≡ answers_of q g ++ worker_answers slots start → worker_answers slots xs ≡ answers_of q g
answers_alone slots start xs q no_match none e = e ∙ ap (λ (l : List Step). answers_of q no_match ++ worker_answers slots l) none
answers_alone slots start xs q (only_seen k x r) none e = e ∙ ap (λ (l : List Step). answers_of q (only_seen k x r) ++ worker_answers slots l) none
answers_alone slots start xs q (seen_late k x r) none e = e ∙ ap (λ (l : List Step). answers_of q (seen_late k x r) ++ worker_answers slots l) none
answers_alone slots start xs q (seen_drew k x r n r') none e = e ∙ ap (λ (l : List Step). answers_of q (seen_drew k x r n r') ++ worker_answers slots l) none

module _ (t : Table) (old new : Places) (start after : WorkerSeat) (locals : List Endpoint) (d : Datagram) (before : List ℕ) (none : worker_steps start ≡ []) where
  pub unanswered_turn : (why : Unanswered) → turns.TookTurn t old new start after (query_for d) d.octets (Err why) → Turned (size_of t) old new (worker_steps after) locals d before before (Err (told why))
  unanswered_turn why took = record {
    kept = took.known.kept;
    turn = λ config was reads.
        unanswered_by config locals d before (worker_answers (size_of t).slots (worker_steps after)) took.group why (answers_alone (size_of t).slots (worker_steps start) (worker_steps after) (query_for d) took.group none took.answers)
        (took.turn config was reads);
  }

  pub replied_turn : (written : List ℕ) (drawn : Drawn) (c : ConfigParts) (len : ℕ) → turns.TookTurn t old new start after (query_for d) d.octets (Ok drawn) → Keeps new drawn.row c → IsSent locals drawn.mode drawn.extra c drawn.number d before written len
      → Turned (size_of t) old new (worker_steps after) locals d before written (Ok len)
  replied_turn written drawn c len took kept sent = record {
    kept = took.known.kept;
    turn = λ config was reads.
        replied_by config locals d before written drawn c len (took.known.kept config was reads drawn.row c kept) sent (worker_answers (size_of t).slots (worker_steps after)) took.group
        (answers_alone (size_of t).slots (worker_steps start) (worker_steps after) (query_for d) took.group none took.answers) (took.turn config was reads);
  }
