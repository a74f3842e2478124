-- A worker's rounds, one for each call of `recv`, and its end (this project's own). Rounds stand in the order of time.
use Rattle.std.specs.Prelude.{◌≡◌, ℕ, zero, suc, ◌+◌, ◌==◌, Bool, true, false, ◌&&◌, not, if◌then◌else◌, List, [], ◌∷◌, ◌++◌, Option, Some, None, ⊤}
use Rattle.refl_types.specs.declared.types.Endpoint.{Endpoint}
use Rattle.refl_types.specs.declared.types.Meta.{Meta}
use Rattle.reflect_core.specs.Arrived.{Arrived}
use Rattle.session_world.specs.declared.steps.Step.{Step}
use Rattle.session_world.specs.declared.steps.TableSize.{TableSize}
use Rattle.session_world.specs.Keys.{ConfigParts}
use Rattle.session_world.specs.Worker.{announced}
use Rattle.session_world.specs.Answers.{Answer, worker_answers}
use Rattle.session_world.specs.Rows.{ReadsRows}
use Rattle.session_rule.specs.declared.seats.Table.{Table}
use Rattle.session_rule.specs.declared.seats.WorkerSeat.{WorkerSeat}
use Rattle.session_rule.specs.Seats.{size_of, worker_steps}
use Rattle.net_io.specs.Log.{Grows}
use Rattle.net_io.specs.PortShown.{PortShown}
use Rattle.net_io.specs.Port.{PortEntry, took, quiet, ended, recv_failed, done}
use Rattle.receive_worker.specs.declared.tally.Tally.{Tally}
use Rattle.receive_worker.specs.declared.tally.WorkEnd.{WorkEnd}
use Rattle.receive_worker.specs.declared.tally.WorkEnd.TheVariants.{End, Limit, Budget, PortFault}
use Rattle.receive_worker.specs.declared.tally.Begun.{Begun}
use Rattle.receive_worker.specs.declared.tally.Begun.TheVariants as begun
use Rattle.session_table.specs.Steps.{HasCome}
use Rattle.session_table.specs.Holding.{HoldsNothing}
use Rattle.receive_worker.specs.Turn.{Group, Outcome, query, answers_of, IsTurn, failed_sends}
use Rattle.receive_worker.specs.Tally.{no_tally, with_begun}

-- what a call of `recv` begins: nothing came, nothing comes any more, the call failed, or a datagram came, and was answered by the
-- seat with a group and left entries and an outcome
pub data Round : Type 0 where
  idle : Round
  over : Round
  failed : Round
  turned : Meta → List ℕ → Group → List PortEntry → Outcome → Round

-- ---- a round as the tally, the log and the seat see it

abbrev pub kind_of : Round → Begun
kind_of idle = begun.Idle
kind_of over = begun.Over
kind_of failed = begun.Failed
kind_of (turned meta octets group entries outcome) = begun.Turned outcome

abbrev pub entries_of : Round → List PortEntry
entries_of idle = quiet ∷ []
entries_of over = ended ∷ []
entries_of failed = recv_failed ∷ []
entries_of (turned meta octets group entries outcome) = took meta octets ∷ entries

-- what it took from what was to come; a receive that failed took nothing
abbrev pub given_in : Round → List PortEntry
given_in idle = quiet ∷ []
given_in over = ended ∷ []
given_in failed = []
given_in (turned meta octets group entries outcome) = took meta octets ∷ []

abbrev pub arrived_at : List Endpoint → Meta → List ℕ → Arrived
arrived_at locals meta octets = record { meta = meta; octets = octets; locals = locals }

-- the latest first
abbrev pub answers_in : List Endpoint → Round → List (Answer ℕ)
answers_in locals idle = []
answers_in locals over = []
answers_in locals failed = []
answers_in locals (turned meta octets group entries outcome) = answers_of (query (arrived_at locals meta octets)) group

-- ---- all rounds

abbrev pub all_entries : List Round → List PortEntry
all_entries [] = []
all_entries (r ∷ rs) = entries_of r ++ all_entries rs

abbrev pub all_given : List Round → List PortEntry
all_given [] = []
all_given (r ∷ rs) = given_in r ++ all_given rs

-- the latest first
abbrev pub all_answers : List Endpoint → List Round → List (Answer ℕ)
all_answers locals [] = []
all_answers locals (r ∷ rs) = all_answers locals rs ++ answers_in locals r

-- where a datagram came, there was a turn
abbrev pub HasTurn : (ℕ → ConfigParts) → List Endpoint → Round → Type 0
HasTurn config locals idle = Unit {0}
HasTurn config locals over = Unit {0}
HasTurn config locals failed = Unit {0}
HasTurn config locals (turned meta octets group entries outcome) = IsTurn config (arrived_at locals meta octets) group entries outcome

abbrev pub HaveTurns : (ℕ → ConfigParts) → List Endpoint → List Round → Type 0
HaveTurns config locals [] = Unit {0}
HaveTurns config locals (r ∷ rs) = HasTurn config locals r × HaveTurns config locals rs

abbrev pub with_round : Tally → Round → Tally
with_round t r = with_begun t (kind_of r)

abbrev pub tally_after : Tally → List Round → Tally
tally_after t [] = t
tally_after t (r ∷ rs) = tally_after (with_round t r) rs

-- ---- the end

-- how often `recv` was called, how many datagrams were taken, and how many of the last calls failed in a row
pub record Progress : Type 0 where
  pub calls : ℕ
  pub taken : ℕ
  pub failed : ℕ

abbrev pub at_first : Progress
at_first = record { calls = 0; taken = 0; failed = 0 }

abbrev pub progress_by : Progress → Begun → Progress
progress_by p begun.Idle = record { calls = p.calls + 1; taken = p.taken; failed = 0 }
progress_by p begun.Over = record { calls = p.calls + 1; taken = p.taken; failed = 0 }
progress_by p begun.Failed = record { calls = p.calls + 1; taken = p.taken; failed = p.failed + 1 }
progress_by p (begun.Turned outcome) = record { calls = p.calls + 1; taken = p.taken + 1; failed = 0 }

abbrev pub progress : Progress → Round → Progress
progress p r = progress_by p (kind_of r)

abbrev pub is_over : Begun → Bool
is_over begun.Over = true
is_over begun.Idle = false
is_over begun.Failed = false
is_over (begun.Turned outcome) = false

-- failures in a row that end a worker
abbrev pub fault_limit : ℕ
fault_limit = 64

-- the end that is due after a round: the first of these four, of which the limit 0 is none
abbrev pub due_by : ℕ → ℕ → Progress → Begun → Option WorkEnd
due_by limit turns p b =
    if is_over b then Some End
    else (if not (limit == 0) && p.taken == limit then Some Limit
    else (if p.calls == turns then Some Budget
    else (if p.failed == fault_limit then Some PortFault
    else None)))

abbrev pub due : ℕ → ℕ → Progress → Round → Option WorkEnd
due limit turns p r = due_by limit turns p (kind_of r)

abbrev pub progress_after : Progress → List Round → Progress
progress_after p [] = p
progress_after p (r ∷ rs) = progress_after (progress p r) rs

-- no end is due after any of these rounds
abbrev pub NoneDue : ℕ → ℕ → Progress → List Round → Type 0
NoneDue limit turns p [] = Unit {0}
NoneDue limit turns p (r ∷ rs) = (due limit turns (progress p r) r ≡ None) × NoneDue limit turns (progress p r) rs

-- this end is due after the last of the rounds, and none before
pub record EndsBy (limit turns : ℕ) (rounds : List Round) (e : WorkEnd) : Type 0 where
  pub before : List Round
  pub last : Round
  pub whole : rounds ≡ before ++ last ∷ []
  pub none : NoneDue limit turns at_first before
  pub at_last : due limit turns (progress_after at_first rounds) last ≡ Some e

-- without a turn the budget is spent before the first
abbrev pub IsEnd : ℕ → ℕ → List Round → WorkEnd → Type 0
IsEnd limit zero rounds e = (rounds ≡ []) × (e ≡ Budget)
IsEnd limit (suc turns) rounds e = EndsBy limit (suc turns) rounds e

-- ---- what the port gave

-- Each was the first of what was then to come, or an end where nothing was left; and this is still to come
abbrev pub Gives : List PortEntry → List PortEntry → List PortEntry → Type 0
Gives coming [] rest = rest ≡ coming
Gives [] (item ∷ given) rest = (item ≡ ended) × Gives [] given rest
Gives (first ∷ coming) (item ∷ given) rest = (item ≡ first) × Gives coming given rest

-- the same of what a port tells; of one that doesn't tell what is to come nothing is said
abbrev pub GivesAway : Option (List PortEntry) → Option (List PortEntry) → List PortEntry → Type 0
GivesAway None coming' given = ⊤
GivesAway (Some coming) None given = ⊥
GivesAway (Some coming) (Some rest) given = Gives coming given rest

-- ---- what a call does

-- how many failures of the port a round tells
abbrev pub failures_of : Begun → ℕ
failures_of begun.Idle = 0
failures_of begun.Over = 0
failures_of begun.Failed = 1
failures_of (begun.Turned outcome) = failed_sends outcome

-- A worker went through these rounds: the answers that its seat gained, the entries that its port's log did, and what the port gave
-- of what was to come. Each datagram has its turn whatever configurations the rows stand for, as far as the seat's loads of rows tell
pub record WorksThrough {S : Type 0} (t : Table) (locals : List Endpoint) (rounds : List Round) (before after : WorkerSeat) (port port' : PortShown S) : Type 0 where
  pub gained : List Step
  pub steps : worker_steps after ≡ gained ++ worker_steps before
  pub answers : worker_answers (size_of t).slots (worker_steps after) ≡ all_answers locals rounds ++ worker_answers (size_of t).slots (worker_steps before)
  pub written : Grows port.log port'.log (all_entries rounds)
  pub given : GivesAway port.coming port'.coming (all_given rounds)
  pub turned : (config : ℕ → ConfigParts) → ReadsRows config (worker_steps after) → HaveTurns config locals rounds

-- it went through one round, which began this
pub record IsRound {S : Type 0} (t : Table) (locals : List Endpoint) (before after : WorkerSeat) (port port' : PortShown S) (b : Begun) : Type 0 where
  pub round : Round
  pub kind : b ≡ kind_of round
  pub works : WorksThrough t locals (round ∷ []) before after port port'

-- it went through rounds up to the end that was due
pub record IsWork {S : Type 0} (t : Table) (locals : List Endpoint) (limit turns : ℕ) (before after : WorkerSeat) (port port' : PortShown S) (tally : Tally) : Type 0 where
  pub rounds : List Round
  pub works : WorksThrough t locals rounds before after port port'
  pub counted : tally ≡ tally_after (no_tally tally.end) rounds
  pub end : IsEnd limit turns rounds tally.end

-- What a whole work is, under the configurations for which rows stand: the seat's answers, the log, the tally and the end are those
-- of the rounds
pub record HasWorked (config : ℕ → ConfigParts) (z : TableSize) (locals : List Endpoint) (limit turns : ℕ) (rounds : List Round) (old new : List Step) (log log' : Option (List PortEntry)) (tally : Tally) : Type 0 where
  pub answers : worker_answers z.slots new ≡ all_answers locals rounds ++ worker_answers z.slots old
  pub turned : HaveTurns config locals rounds
  pub written : Grows log log' (all_entries rounds ++ done ∷ [])
  pub counted : tally ≡ tally_after (no_tally tally.end) rounds
  pub end : IsEnd limit turns rounds tally.end

-- The same whatever configurations the rows stand for, as far as the seat's loads of rows tell; and the seat holds nothing, and
-- its announcement names no slot
pub record Worked (t : Table) (locals : List Endpoint) (limit turns : ℕ) (before after : WorkerSeat) (log log' : Option (List PortEntry)) (tally : Tally) : Type 0 where
  pub come : HasCome t before after (worker_steps after)
  pub nothing : HoldsNothing (worker_steps after)
  pub retired : announced (worker_steps after) ≡ None
  pub gained : List Step
  pub steps : worker_steps after ≡ gained ++ worker_steps before
  pub rounds : List Round
  pub worked : (config : ℕ → ConfigParts) → ReadsRows config (worker_steps after) →
      HasWorked config (size_of t) locals limit turns rounds (worker_steps before) (worker_steps after) log log' tally

-- What a whole work took from its port: the log, the tally and the end are those of rounds, and what is still to come is what they
-- left of what was to come
pub record HasGiven {S : Type 0} (limit turns : ℕ) (port port' : PortShown S) (tally : Tally) : Type 0 where
  pub rounds : List Round
  pub written : Grows port.log port'.log (all_entries rounds ++ done ∷ [])
  pub counted : tally ≡ tally_after (no_tally tally.end) rounds
  pub end : IsEnd limit turns rounds tally.end
  pub given : GivesAway port.coming port'.coming (all_given rounds)
