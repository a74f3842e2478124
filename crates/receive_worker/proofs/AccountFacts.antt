-- What the seat's answers alone say of the tally.
use Rattle.std.proofs.Common.{◌≡◌, ℕ, ◌+◌, List, [], ◌∷◌, ◌++◌, Ok, Err, refl, sym, subst, append_assoc, arith}
use Rattle.refl_types.specs.declared.types.Endpoint.{Endpoint}
use Rattle.refl_types.specs.declared.outcome.Silent.{Silent}
use Rattle.refl_types.specs.declared.outcome.Silent.TheVariants as silents
use Rattle.refl_types.specs.declared.outcome.Unanswered.{Unanswered}
use Rattle.refl_types.specs.declared.outcome.Unanswered.TheVariants.{NoSession, Changed, SendFault}
use Rattle.reflect_core.specs.declared.judging.Judged.{Judged}
use Rattle.reflect_core.specs.declared.judging.Judged.TheVariants as judged
use Rattle.reflect_core.specs.Arrived.{Arrived}
use Rattle.session_world.specs.declared.steps.Step.{Step}
use Rattle.session_world.specs.Keys.{Query, Key, Extra, ConfigParts}
use Rattle.session_world.specs.Answers.{Answer, worker_answers}
use Rattle.net_io.specs.Port.{PortEntry}
use Rattle.receive_worker.specs.declared.tally.Tally.{Tally}
use Rattle.receive_worker.specs.Turn.{Group, no_match, only_seen, seen_late, seen_drew, answers_of, query, Outcome, silence, IsDrawn, IsTurn, judged_under}
use Rattle.receive_worker.specs.Tally.{no_tally, with_outcome}
use Rattle.receive_worker.specs.Work.{Round, idle, over, failed, turned, arrived_at, answers_in, all_answers, HaveTurns, with_round, tally_after}
use Rattle.receive_worker.specs.Accounts.{draws, groups, without_session, Accounts}

drawn_in : Group → ℕ
drawn_in no_match = 0
drawn_in (only_seen k x r) = 0
drawn_in (seen_late k x r) = 0
drawn_in (seen_drew k x r n r') = 1

unmatched_in : Group → ℕ
unmatched_in no_match = 1
unmatched_in (only_seen k x r) = 0
unmatched_in (seen_late k x r) = 1
unmatched_in (seen_drew k x r n r') = 0

drawn_of : Tally → ℕ
drawn_of t = t.sent + t.changed + t.send_fault

-- what one group adds to the counts of the answers
record Gives (q : Query) (g : Group) (rest : List (Answer ℕ)) : Type 0 where
  draws : draws (answers_of q g ++ rest) ≡ drawn_in g + draws rest
  groups : groups (answers_of q g ++ rest) ≡ groups rest + 1
  unmatched : without_session (answers_of q g ++ rest) ≡ unmatched_in g + without_session rest

gives : (q : Query) (g : Group) (rest : List (Answer ℕ)) → Gives q g rest
unfolding drawn_in unmatched_in
gives q no_match rest = record { draws = omega arith; groups = omega arith; unmatched = omega arith }
gives q (only_seen k x r) rest = record { draws = omega arith; groups = omega arith; unmatched = omega arith }
gives q (seen_late k x r) rest = record { draws = omega arith; groups = omega arith; unmatched = omega arith }
gives q (seen_drew k x r n r') rest = record { draws = omega arith; groups = omega arith; unmatched = omega arith }

-- what one outcome adds to the tally
record Adds (t : Tally) (m n : ℕ) (o : Outcome) : Type 0 where
  drawn : drawn_of (with_outcome t o) ≡ m + drawn_of t
  unmatched : (with_outcome t o).no_session ≡ n + t.no_session
  taken : (with_outcome t o).taken ≡ t.taken

silent_adds : (t : Tally) (why : Silent) → Adds t 0 0 (Err (silence why))
unfolding drawn_of
silent_adds t silents.Short = record { drawn = omega arith; unmatched = omega arith; taken = refl }
silent_adds t silents.BadHmac = record { drawn = omega arith; unmatched = omega arith; taken = refl }
silent_adds t silents.NoReply = record { drawn = omega arith; unmatched = omega arith; taken = refl }

unmatched_adds : (t : Tally) → Adds t 0 1 (Err NoSession)
unfolding drawn_of
unmatched_adds t = record { drawn = omega arith; unmatched = omega arith; taken = refl }

changed_adds : (t : Tally) (m n : ℕ) → Adds t 1 0 (Err (Changed m n))
unfolding drawn_of
changed_adds t m n = record { drawn = omega arith; unmatched = omega arith; taken = refl }

lost_adds : (t : Tally) → Adds t 1 0 (Err SendFault)
unfolding drawn_of
lost_adds t = record { drawn = omega arith; unmatched = omega arith; taken = refl }

sent_adds : (t : Tally) (u : Unit {0}) → Adds t 1 0 (Ok u)
unfolding drawn_of
sent_adds t u = record { drawn = omega arith; unmatched = omega arith; taken = refl }

drawn_adds : (t : Tally) (config : ℕ → ConfigParts) (d : Arrived) (k : Key) (x : Extra) (r n r' : ℕ) (j : Judged) (es : List PortEntry) (o : Outcome) → IsDrawn config d k x r n r' j es o → Adds t 1 0 o
drawn_adds t config d k x r n r' (judged.Silent why) es o h = subst (Adds t 1 0) (sym h.1.1) (changed_adds t r r')
drawn_adds t config d k x r n r' judged.Reflect es (Ok u) h = sent_adds t u
drawn_adds t config d k x r n r' judged.Reflect es (Err why) h = subst (λ (w : Unanswered). Adds t 1 0 (Err w)) (sym h.1.1) (lost_adds t)

adds : (t : Tally) (config : ℕ → ConfigParts) (d : Arrived) (g : Group) (es : List PortEntry) (o : Outcome) → IsTurn config d g es o → Adds t (drawn_in g) (unmatched_in g) o
unfolding drawn_in unmatched_in
adds t config d no_match es o h = subst (Adds t 0 1) (sym h.1) (unmatched_adds t)
adds t config d (only_seen k x r) es o h = subst (Adds t 0 0) (sym h.2.1) (silent_adds t h.0)
adds t config d (seen_late k x r) es o h = subst (Adds t 0 1) (sym h.1.1) (unmatched_adds t)
adds t config d (seen_drew k x r n r') es o h = drawn_adds t config d k x r n r' (judged_under config d k r') es o h.1

-- the counts of a tally that began with t, and those of the answers
record Balances (new old : List (Answer ℕ)) (t t' : Tally) : Type 0 where
  draws : draws new + (t.sent + t.changed + t.send_fault) ≡ (t'.sent + t'.changed + t'.send_fault) + draws old
  groups : groups new + t.taken ≡ t'.taken + groups old
  unmatched : without_session new + t.no_session ≡ t'.no_session + without_session old

-- a round without a datagram
same_balance : (new old : List (Answer ℕ)) (s t t' : Tally) → drawn_of s ≡ drawn_of t → s.taken ≡ t.taken → s.no_session ≡ t.no_session → Balances new old s t' → Balances new old t t'
unfolding drawn_of
same_balance new old s t t' drawn taken unmatched b = record {
  draws = let e = b.draws in omega (arith, e, drawn);
  groups = let e = b.groups in omega (arith, e, taken);
  unmatched = let e = b.unmatched in omega (arith, e, unmatched);
}

-- a round with one
turned_balance : (new mid old : List (Answer ℕ)) (t s t' : Tally) (m n : ℕ) → drawn_of s ≡ m + drawn_of t → s.taken ≡ t.taken + 1 → s.no_session ≡ n + t.no_session
    → draws mid ≡ m + draws old → groups mid ≡ groups old + 1 → without_session mid ≡ n + without_session old → Balances new mid s t' → Balances new old t t'
unfolding drawn_of
turned_balance new mid old t s t' m n drawn taken unmatched d g w b = record {
  draws = let e = b.draws in omega (arith, e, drawn, d);
  groups = let e = b.groups in omega (arith, e, taken, g);
  unmatched = let e = b.unmatched in omega (arith, e, unmatched, w);
}

-- those of a round, and then the rest
then_balances : (locals : List Endpoint) (r : Round) (rs : List Round) (t : Tally) (old : List (Answer ℕ))
    → Balances (all_answers locals rs ++ (answers_in locals r ++ old)) (answers_in locals r ++ old) (with_round t r) (tally_after (with_round t r) rs)
    → Balances (all_answers locals (r ∷ rs) ++ old) (answers_in locals r ++ old) (with_round t r) (tally_after t (r ∷ rs))
then_balances locals r rs t old b =
    subst (λ (l : List (Answer ℕ)). Balances l (answers_in locals r ++ old) (with_round t r) (tally_after (with_round t r) rs)) (sym (append_assoc (all_answers locals rs) (answers_in locals r) old)) b

balances : (config : ℕ → ConfigParts) (locals : List Endpoint) (rs : List Round) (t : Tally) (old : List (Answer ℕ)) → HaveTurns config locals rs → Balances (all_answers locals rs ++ old) old t (tally_after t rs)
unfolding drawn_of
balances config locals [] t old h = record { draws = omega arith; groups = omega arith; unmatched = omega arith }
balances config locals (idle ∷ rs) t old h = then_balances locals idle rs t old (balances config locals rs t old h.1)
balances config locals (over ∷ rs) t old h = then_balances locals over rs t old (balances config locals rs t old h.1)
balances config locals (failed ∷ rs) t old h =
    same_balance (all_answers locals (failed ∷ rs) ++ old) old (with_round t failed) t (tally_after t (failed ∷ rs)) refl refl refl (then_balances locals failed rs t old (balances config locals rs (with_round t failed) old h.1))
balances config locals (turned meta octets g es o ∷ rs) t old h =
    let r = turned meta octets g es o in
    let b = then_balances locals r rs t old (balances config locals rs (with_round t r) (answers_in locals r ++ old) h.1) in
    let a = adds (record t { taken = t.taken + 1 }) config (arrived_at locals meta octets) g es o h.0 in
    let v = gives (query (arrived_at locals meta octets)) g old in
    turned_balance (all_answers locals (turned meta octets g es o ∷ rs) ++ old) (answers_of (query (arrived_at locals meta octets)) g ++ old) old t (with_round t (turned meta octets g es o)) (tally_after t (turned meta octets g es o ∷ rs)) (drawn_in g) (unmatched_in g)
    a.drawn a.taken a.unmatched v.draws v.groups v.unmatched b

pub accounts : (config : ℕ → ConfigParts) (locals : List Endpoint) (slots : ℕ) (rs : List Round) (old new : List Step) (t : Tally) → worker_answers slots new ≡ all_answers locals rs ++ worker_answers slots old → HaveTurns config locals rs
    → t ≡ tally_after (no_tally t.end) rs → Accounts slots old new t
accounts config locals slots rs old new t answers turns counted =
    let b = subst (λ (l : List (Answer ℕ)). Balances l (worker_answers slots old) (no_tally t.end) (tally_after (no_tally t.end) rs)) (sym answers) (balances config locals rs (no_tally t.end) (worker_answers slots old) turns) in
    let c = subst (λ (u : Tally). Balances (worker_answers slots new) (worker_answers slots old) (no_tally t.end) u) (sym counted) b in
    record { draws = let e = c.draws in omega (arith, e); groups = let e = c.groups in omega (arith, e); unmatched = let e = c.unmatched in omega (arith, e) }
