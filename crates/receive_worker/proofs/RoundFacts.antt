-- A worker, round after round.
use Rattle.std.proofs.Common.{◌≡◌, ℕ, zero, suc, ◌+◌, List, [], ◌∷◌, ◌++◌, Option, Some, None, Ok, Err, refl, sym, ap, subst, ◌∙◌, append_assoc, arith}
use Rattle.std.proofs.lemmas.List.{append-nil}
use Rattle.refl_types.specs.declared.types.Endpoint.{Endpoint}
use Rattle.refl_types.specs.declared.types.Meta.{Meta}
use Rattle.refl_types.specs.declared.outcome.Unanswered.TheVariants.{NoSession, Short, BadHmac, NoReply, Changed, SendFault}
use Rattle.session_world.specs.declared.steps.Step.TheVariants.{Retire}
use Rattle.session_world.specs.Sizes.{IsWithinLimits}
use Rattle.session_world.specs.Keys.{ConfigParts}
use Rattle.session_world.specs.Worker.{announced}
use Rattle.session_world.specs.Desk.{config_at}
use Rattle.session_world.specs.Answers.{Answer, worker_answers}
use Rattle.session_world.specs.Rows.{ReadsRows, WorkersReadRows}
use Rattle.session_rule.specs.declared.seats.Table.{Table}
use Rattle.session_rule.specs.declared.seats.WorkerSeat.{WorkerSeat}
use Rattle.session_rule.specs.Seats.{size_of, worker_number, worker_steps}
use Rattle.net_io.specs.Log.{Grows}
use Rattle.net_io.specs.PortShown.{PortShown}
use Rattle.net_io.specs.Port.{PortEntry, took, done}
use Rattle.receive_worker.specs.declared.tally.Tally.{Tally}
use Rattle.receive_worker.specs.declared.tally.WorkEnd.{WorkEnd}
use Rattle.receive_worker.specs.declared.tally.WorkEnd.TheVariants.{Budget}
use Rattle.receive_worker.specs.declared.tally.Begun.{Begun}
use Rattle.receive_worker.specs.declared.tally.Begun.TheVariants as begun
use Rattle.session_table.specs.Steps.{HasCome}
use Rattle.session_table.specs.Holding.{HoldsNothing}
use Rattle.session_table.specs.Knowing.{ReadsMore}
use Rattle.receive_worker.specs.Turn.{Outcome, Turned}
use Rattle.receive_worker.specs.Tally.{no_tally, with_begun, AddsUp}
use Rattle.receive_worker.specs.Work.{Round, kind_of, entries_of, given_in, answers_in, all_entries, all_given, all_answers, HaveTurns, with_round, tally_after, Progress, at_first, progress_by, progress, progress_after, due, due_by, NoneDue, EndsBy, IsEnd, GivesAway, failures_of, WorksThrough, IsRound, IsWork, Worked, HasGiven, turned, arrived_at}
use Rattle.receive_worker.specs.Accounts.{Accounts}
use Rattle.receive_worker.proofs.GrowthFacts.{grows_none, grows_then, given_none, given_then, gained_then}
use Rattle.receive_worker.proofs.TurnFacts.{LetGo}
use Rattle.receive_worker.proofs.AccountFacts.{accounts}

-- ---- one round more

entries_push : (rs : List Round) (r : Round) → all_entries (rs ++ r ∷ []) ≡ all_entries rs ++ all_entries (r ∷ [])
entries_push [] r = refl
entries_push (q ∷ rs) r = ap (λ (l : List PortEntry). entries_of q ++ l) (entries_push rs r) ∙ sym (append_assoc (entries_of q) (all_entries rs) (all_entries (r ∷ [])))

answers_push : (locals : List Endpoint) (rs : List Round) (r : Round) → all_answers locals (rs ++ r ∷ []) ≡ all_answers locals (r ∷ []) ++ all_answers locals rs
answers_push locals [] r = sym (append-nil (all_answers locals (r ∷ [])))
answers_push locals (q ∷ rs) r = ap (λ (l : List (Answer ℕ)). l ++ answers_in locals q) (answers_push locals rs r) ∙ append_assoc (all_answers locals (r ∷ [])) (all_answers locals rs) (answers_in locals q)

turns_push : (config : ℕ → ConfigParts) (locals : List Endpoint) (rs : List Round) (r : Round) → HaveTurns config locals rs → HaveTurns config locals (r ∷ []) → HaveTurns config locals (rs ++ r ∷ [])
turns_push config locals [] r h k = k
turns_push config locals (q ∷ rs) r h k = (h.0, turns_push config locals rs r h.1 k)

given_push : (rs : List Round) (r : Round) → all_given (rs ++ r ∷ []) ≡ all_given rs ++ all_given (r ∷ [])
given_push [] r = refl
given_push (q ∷ rs) r = ap (λ (l : List PortEntry). given_in q ++ l) (given_push rs r) ∙ sym (append_assoc (given_in q) (all_given rs) (all_given (r ∷ [])))

tally_push : (t : Tally) (rs : List Round) (r : Round) → tally_after t (rs ++ r ∷ []) ≡ with_round (tally_after t rs) r
tally_push t [] r = refl
tally_push t (q ∷ rs) r = tally_push (with_round t q) rs r

progress_push : (p : Progress) (rs : List Round) (r : Round) → progress_after p (rs ++ r ∷ []) ≡ progress (progress_after p rs) r
progress_push p [] r = refl
progress_push p (q ∷ rs) r = progress_push (progress p q) rs r

none_push : (limit turns : ℕ) (p : Progress) (rs : List Round) (r : Round) → NoneDue limit turns p rs → due limit turns (progress (progress_after p rs) r) r ≡ None → NoneDue limit turns p (rs ++ r ∷ [])
none_push limit turns p [] r h k = (k, tt)
none_push limit turns p (q ∷ rs) r h k = (h.0, none_push limit turns (progress p q) rs r h.1 k)

pub works_none : {S : Type 0} (t : Table) (locals : List Endpoint) (seat : WorkerSeat) (port : PortShown S) → WorksThrough t locals [] seat seat port port
works_none t locals seat port = record { gained = []; steps = refl; answers = refl; written = grows_none port.log; given = given_none port.coming; turned = λ config reads. tt }

pub works_then : {S : Type 0} (t : Table) (locals : List Endpoint) (rs : List Round) (r : Round) (a b c : WorkerSeat) (k l m : PortShown S) → ReadsMore → WorksThrough t locals rs a b k l → WorksThrough t locals (r ∷ []) b c l m
    → WorksThrough t locals (rs ++ r ∷ []) a c k m
works_then t locals rs r a b c k l m law p q = record {
  gained = q.gained ++ p.gained;
  steps = gained_then (worker_steps a) (worker_steps b) (worker_steps c) p.gained q.gained p.steps q.steps;
  answers = let z = (size_of t).slots in
      q.answers ∙ ap (λ (g : List (Answer ℕ)). all_answers locals (r ∷ []) ++ g) p.answers
      ∙ sym (append_assoc (all_answers locals (r ∷ [])) (all_answers locals rs) (worker_answers z (worker_steps a)))
      ∙ ap (λ (g : List (Answer ℕ)). g ++ worker_answers z (worker_steps a)) (sym (answers_push locals rs r));
  written = subst (Grows k.log m.log) (sym (entries_push rs r)) (grows_then k.log l.log m.log (all_entries rs) (all_entries (r ∷ [])) p.written q.written);
  given = subst (GivesAway k.coming m.coming) (sym (given_push rs r)) (given_then k.coming l.coming m.coming (all_given rs) (all_given (r ∷ [])) p.given q.given);
  turned = λ config reads.
      turns_push config locals rs r (p.turned config (law.rows config q.gained (worker_steps b) (subst (ReadsRows config) q.steps reads))) (q.turned config reads);
}

-- a round in which a datagram came
pub turned_round : {S : Type 0} (t : Table) (locals : List Endpoint) (meta : Meta) (octets : List ℕ) (before after : WorkerSeat) (k l m : PortShown S) (outcome : Outcome) → Grows k.log l.log (took meta octets ∷ [])
    → GivesAway k.coming m.coming (took meta octets ∷ []) → Turned t (arrived_at locals meta octets) before after l.log m.log outcome → IsRound t locals before after k m (begun.Turned outcome)
turned_round t locals meta octets before after k l m outcome taken given h = record {
  round = turned meta octets h.group h.entries outcome;
  kind = refl;
  works = record {
    gained = h.gained;
    steps = h.steps;
    answers = h.answers;
    written = subst (Grows k.log m.log) (sym (append-nil (took meta octets ∷ h.entries))) (grows_then k.log l.log m.log (took meta octets ∷ []) h.entries taken h.written);
    given = given;
    turned = λ config reads. (h.turn config reads, tt);
  };
}

-- ---- what each kind of round does to the tally

pub adds_up : (n : ℕ) (t : Tally) (b : Begun) → AddsUp n t → AddsUp (n + 1) (with_begun t b)
adds_up n t begun.Idle h = record { outcomes = let a = h.outcomes in omega (arith, a); calls = let a = h.calls in omega (arith, a) }
adds_up n t begun.Over h = record { outcomes = let a = h.outcomes in omega (arith, a); calls = let a = h.calls in omega (arith, a) }
adds_up n t begun.Failed h = record { outcomes = let a = h.outcomes in omega (arith, a); calls = let a = h.calls in omega (arith, a) }
adds_up n t (begun.Turned (Ok u)) h = record { outcomes = let a = h.outcomes in omega (arith, a); calls = let a = h.calls in omega (arith, a) }
adds_up n t (begun.Turned (Err NoSession)) h = record { outcomes = let a = h.outcomes in omega (arith, a); calls = let a = h.calls in omega (arith, a) }
adds_up n t (begun.Turned (Err Short)) h = record { outcomes = let a = h.outcomes in omega (arith, a); calls = let a = h.calls in omega (arith, a) }
adds_up n t (begun.Turned (Err BadHmac)) h = record { outcomes = let a = h.outcomes in omega (arith, a); calls = let a = h.calls in omega (arith, a) }
adds_up n t (begun.Turned (Err NoReply)) h = record { outcomes = let a = h.outcomes in omega (arith, a); calls = let a = h.calls in omega (arith, a) }
adds_up n t (begun.Turned (Err (Changed i j))) h = record { outcomes = let a = h.outcomes in omega (arith, a); calls = let a = h.calls in omega (arith, a) }
adds_up n t (begun.Turned (Err SendFault)) h = record { outcomes = let a = h.outcomes in omega (arith, a); calls = let a = h.calls in omega (arith, a) }

pub faults_with : (t : Tally) (b : Begun) → (with_begun t b).recv_fault + (with_begun t b).send_fault ≡ (t.recv_fault + t.send_fault) + failures_of b
faults_with t begun.Idle = omega arith
faults_with t begun.Over = omega arith
faults_with t begun.Failed = omega arith
faults_with t (begun.Turned (Ok u)) = omega arith
faults_with t (begun.Turned (Err NoSession)) = omega arith
faults_with t (begun.Turned (Err Short)) = omega arith
faults_with t (begun.Turned (Err BadHmac)) = omega arith
faults_with t (begun.Turned (Err NoReply)) = omega arith
faults_with t (begun.Turned (Err (Changed i j))) = omega arith
faults_with t (begun.Turned (Err SendFault)) = omega arith

ended : Tally → WorkEnd → Tally
ended t e = record t { end = e }

end_with : (e : WorkEnd) (t : Tally) (b : Begun) → with_begun (ended t e) b ≡ ended (with_begun t b) e
unfolding ended
end_with e t begun.Idle = refl
end_with e t begun.Over = refl
end_with e t begun.Failed = refl
end_with e t (begun.Turned (Ok u)) = refl
end_with e t (begun.Turned (Err NoSession)) = refl
end_with e t (begun.Turned (Err Short)) = refl
end_with e t (begun.Turned (Err BadHmac)) = refl
end_with e t (begun.Turned (Err NoReply)) = refl
end_with e t (begun.Turned (Err (Changed i j))) = refl
end_with e t (begun.Turned (Err SendFault)) = refl

end_after : (e : WorkEnd) (t : Tally) (rs : List Round) → tally_after (ended t e) rs ≡ ended (tally_after t rs) e
end_after e t [] = refl
end_after e t (r ∷ rs) = ap (λ (u : Tally). tally_after u rs) (end_with e t (kind_of r)) ∙ end_after e (with_round t r) rs

-- the progress that a tally tells
abbrev pub progress_of : Tally → ℕ → ℕ → Progress
progress_of t calls failed = record { calls = calls; taken = t.taken; failed = failed }

progress_with : (t : Tally) (calls failed : ℕ) (b : Begun) → progress_by (progress_of t calls failed) b ≡ progress_of (with_begun t b) (calls + 1) (progress_by (progress_of t calls failed) b).failed
progress_with t calls failed begun.Idle = refl
progress_with t calls failed begun.Over = refl
progress_with t calls failed begun.Failed = refl
progress_with t calls failed (begun.Turned (Ok u)) = refl
progress_with t calls failed (begun.Turned (Err NoSession)) = refl
progress_with t calls failed (begun.Turned (Err Short)) = refl
progress_with t calls failed (begun.Turned (Err BadHmac)) = refl
progress_with t calls failed (begun.Turned (Err NoReply)) = refl
progress_with t calls failed (begun.Turned (Err (Changed i j))) = refl
progress_with t calls failed (begun.Turned (Err SendFault)) = refl

-- ---- the loop

-- after these rounds no end was due
pub record Going {S : Type 0} (t : Table) (locals : List Endpoint) (limit turns : ℕ) (before after : WorkerSeat) (port port' : PortShown S) (tally : Tally) (calls failed : ℕ) : Type 0 where
  pub rounds : List Round
  pub works : WorksThrough t locals rounds before after port port'
  pub counted : tally ≡ tally_after (no_tally Budget) rounds
  pub none : NoneDue limit turns at_first rounds
  pub progress : progress_after at_first rounds ≡ progress_of tally calls failed

pub begins : {S : Type 0} (t : Table) (locals : List Endpoint) (limit turns : ℕ) (seat : WorkerSeat) (port : PortShown S) (tally : Tally) → tally ≡ no_tally Budget → Going t locals limit turns seat seat port port tally 0 0
begins t locals limit turns seat port tally e = record {
  rounds = [];
  works = works_none t locals seat port;
  counted = e;
  none = tt;
  progress = ap (λ (u : Tally). progress_of u 0 0) (sym e);
}

-- a round more, and the progress that it makes
record More {S : Type 0} (t : Table) (locals : List Endpoint) (limit turns : ℕ) (before after : WorkerSeat) (port port' : PortShown S) (tally : Tally) (calls failed : ℕ) (b : Begun) : Type 0 where
  rounds : List Round
  last : Round
  kind : b ≡ kind_of last
  works : WorksThrough t locals (rounds ++ last ∷ []) before after port port'
  counted : tally ≡ tally_after (no_tally Budget) (rounds ++ last ∷ [])
  none : NoneDue limit turns at_first rounds
  progress : progress_after at_first (rounds ++ last ∷ []) ≡ progress_of tally calls failed

more : {S : Type 0} (t : Table) (locals : List Endpoint) (limit turns : ℕ) (before seat after : WorkerSeat) (k l m : PortShown S) (tally : Tally) (calls failed : ℕ) (b : Begun) (failed' : ℕ)
    → ReadsMore → Going t locals limit turns before seat k l tally calls failed → IsRound t locals seat after l m b
    → failed' ≡ (progress_by (progress_of tally calls failed) b).failed → More t locals limit turns before after k m (with_begun tally b) (calls + 1) failed' b
more t locals limit turns before seat after k l m tally calls failed b failed' law g r e = record {
  rounds = g.rounds;
  last = r.round;
  kind = r.kind;
  works = works_then t locals g.rounds r.round before seat after k l m law g.works r.works;
  counted = ap (λ (u : Tally). with_begun u b) g.counted ∙ ap (with_begun (tally_after (no_tally Budget) g.rounds)) r.kind ∙ sym (tally_push (no_tally Budget) g.rounds r.round);
  none = g.none;
  progress = progress_push at_first g.rounds r.round ∙ ap (λ (p : Progress). progress p r.round) g.progress
      ∙ ap (progress_by (progress_of tally calls failed)) (sym r.kind) ∙ progress_with tally calls failed b
      ∙ ap (λ (f : ℕ). progress_of (with_begun tally b) (calls + 1) f) (sym e);
}

due_after : {S : Type 0} (t : Table) (locals : List Endpoint) (limit turns : ℕ) (before after : WorkerSeat) (port port' : PortShown S) (tally : Tally) (calls failed : ℕ) (b : Begun) (h : More t locals limit turns before after port port' tally calls failed b)
    → due limit turns (progress_after at_first (h.rounds ++ h.last ∷ [])) h.last ≡ due_by limit turns (progress_of tally calls failed) b
due_after t locals limit turns before after port port' tally calls failed b h =
    ap (λ (p : Progress). due_by limit turns p (kind_of h.last)) h.progress ∙ ap (due_by limit turns (progress_of tally calls failed)) (sym h.kind)

-- no end is due
pub goes_on : {S : Type 0} (t : Table) (locals : List Endpoint) (limit turns : ℕ) (before seat after : WorkerSeat) (k l m : PortShown S) (tally : Tally) (calls failed : ℕ) (b : Begun) (failed' : ℕ) (tally' : Tally)
    → ReadsMore → Going t locals limit turns before seat k l tally calls failed → IsRound t locals seat after l m b
    → failed' ≡ (progress_by (progress_of tally calls failed) b).failed → tally' ≡ with_begun tally b → due_by limit turns (progress_of tally' (calls + 1) failed') b ≡ None
    → Going t locals limit turns before after k m tally' (calls + 1) failed'
goes_on t locals limit turns before seat after k l m tally calls failed b failed' tally' law g r e is none =
    let h = more t locals limit turns before seat after k l m tally calls failed b failed' law g r e in
    subst (λ (u : Tally). Going t locals limit turns before after k m u (calls + 1) failed') (sym is) (record {
      rounds = h.rounds ++ h.last ∷ [];
      works = h.works;
      counted = h.counted;
      none = none_push limit turns at_first h.rounds h.last h.none
          (ap (λ (p : Progress). due limit turns p h.last) (sym (progress_push at_first h.rounds h.last))
          ∙ due_after t locals limit turns before after k m (with_begun tally b) (calls + 1) failed' b h
          ∙ ap (λ (u : Tally). due_by limit turns (progress_of u (calls + 1) failed') b) (sym is) ∙ none);
      progress = h.progress;
    })

ends_by : (limit turns : ℕ) (rs : List Round) (e : WorkEnd) → ¬ (turns ≡ 0) → EndsBy limit turns rs e → IsEnd limit turns rs e
ends_by limit zero rs e some h = absurd (some refl)
ends_by limit (suc turns) rs e some h = h

-- an end is due
pub ends : {S : Type 0} (t : Table) (locals : List Endpoint) (limit turns : ℕ) (before seat after : WorkerSeat) (k l m : PortShown S) (tally : Tally) (calls failed : ℕ) (b : Begun) (failed' : ℕ) (tally' : Tally) (e : WorkEnd)
    → ReadsMore → ¬ (turns ≡ 0) → Going t locals limit turns before seat k l tally calls failed → IsRound t locals seat after l m b
    → failed' ≡ (progress_by (progress_of tally calls failed) b).failed → tally' ≡ with_begun tally b → due_by limit turns (progress_of tally' (calls + 1) failed') b ≡ Some e
    → IsWork t locals limit turns before after k m (record tally' { end = e })
unfolding ended
ends t locals limit turns before seat after k l m tally calls failed b failed' tally' e law some g r f is due_now =
    let h = more t locals limit turns before seat after k l m tally calls failed b failed' law g r f in
    record {
      rounds = h.rounds ++ h.last ∷ [];
      works = h.works;
      counted = ap (λ (u : Tally). record u { end = e }) (is ∙ h.counted) ∙ sym (end_after e (no_tally Budget) (h.rounds ++ h.last ∷ []));
      end = ends_by limit turns (h.rounds ++ h.last ∷ []) e some (record {
        before = h.rounds;
        last = h.last;
        whole = refl;
        none = h.none;
        at_last = due_after t locals limit turns before after k m (with_begun tally b) (calls + 1) failed' b h
            ∙ ap (λ (u : Tally). due_by limit turns (progress_of u (calls + 1) failed') b) (sym is) ∙ due_now;
      });
    }

-- no round at all
pub spent : {S : Type 0} (t : Table) (locals : List Endpoint) (limit turns : ℕ) (seat : WorkerSeat) (port : PortShown S) (tally : Tally) → turns ≡ 0 → tally ≡ no_tally Budget → IsWork t locals limit turns seat seat port port tally
spent t locals limit turns seat port tally none e = subst (λ (u : Tally). IsWork t locals limit turns seat seat port port u) (sym e) (record {
  rounds = [];
  works = works_none t locals seat port;
  counted = refl;
  end = subst (λ (n : ℕ). IsEnd limit n [] Budget) (sym none) (refl, refl);
})

-- ---- the whole

pub whole_work : {S : Type 0} (t : Table) (locals : List Endpoint) (limit turns : ℕ) (before seat after : WorkerSeat) (k l m : PortShown S) (tally : Tally) → LetGo t before seat → HasCome t seat after (worker_steps after) → HoldsNothing (worker_steps after) → announced (worker_steps after) ≡ None
    → IsWork t locals limit turns seat after k l tally → Grows l.log m.log (done ∷ []) → Worked t locals limit turns before after k.log m.log tally
whole_work t locals limit turns before seat after k l m tally gone come nothing retired w told = record {
  come = record { steps = refl; number = come.number ∙ gone.come.number; seat = come.seat; schedule = come.schedule };
  nothing = nothing;
  retired = retired;
  gained = w.works.gained ++ Retire ∷ [];
  steps = gained_then (worker_steps before) (worker_steps seat) (worker_steps after) (Retire ∷ []) w.works.gained gone.come.steps w.works.steps;
  rounds = w.rounds;
  worked = λ config reads. record {
    answers = w.works.answers ∙ ap (λ (g : List (Answer ℕ)). all_answers locals w.rounds ++ g) gone.answers;
    turned = w.works.turned config reads;
    written = grows_then k.log l.log m.log (all_entries w.rounds) (done ∷ []) w.works.written told;
    counted = w.counted;
    end = w.end;
  };
}

pub whole_accounts : {S : Type 0} (t : Table) (locals : List Endpoint) (limit turns : ℕ) (before seat after : WorkerSeat) (k l : PortShown S) (tally : Tally) → WorkersReadRows → IsWithinLimits (size_of t) → LetGo t before seat
    → HasCome t seat after (worker_steps after) → IsWork t locals limit turns seat after k l tally → Accounts (size_of t).slots (worker_steps before) (worker_steps after) tally
whole_accounts t locals limit turns before seat after k l tally law within gone come w =
    let h = law (size_of t) (worker_number after) (worker_steps after) within come.schedule in
    accounts (config_at h.desk) locals (size_of t).slots w.rounds (worker_steps before) (worker_steps after) tally
    (w.works.answers ∙ ap (λ (g : List (Answer ℕ)). all_answers locals w.rounds ++ g) gone.answers) (w.works.turned (config_at h.desk) h.rows) w.counted

pub whole_given : {S : Type 0} (t : Table) (locals : List Endpoint) (limit turns : ℕ) (seat after : WorkerSeat) (k l m : PortShown S) (tally : Tally) → IsWork t locals limit turns seat after k l tally
    → Grows l.log m.log (done ∷ []) → m.coming ≡ l.coming → HasGiven limit turns k m tally
whole_given t locals limit turns seat after k l m tally w told left = record {
  rounds = w.rounds;
  written = grows_then k.log l.log m.log (all_entries w.rounds) (done ∷ []) w.works.written told;
  counted = w.counted;
  end = w.end;
  given = subst (λ (coming : Option (List PortEntry)). GivesAway k.coming coming (all_given w.rounds)) (sym left) w.works.given;
}
