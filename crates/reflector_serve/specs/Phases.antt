-- What the desk's book tells from the opening to the last join (this project's own). Lists have their latest entry first.
use Rattle.std.specs.Prelude.{◌≡◌, ◌⊎◌, ℕ, zero, suc, ◌+◌, ◌<◌, ◌≤◌, true, false, List, [], ◌∷◌, ◌++◌, length}
use Rattle.session_world.specs.declared.steps.Step.{Step}
use Rattle.session_world.specs.Desk.{is_split}
use Rattle.session_world.specs.Answers.{desk_answers}
use Rattle.session_world.specs.Joined.{AllEnded, AreOpenings}
use Rattle.session_world.specs.Runs.{own_parts, IsDeskOfOneSchedule}
use Rattle.session_rule.specs.declared.seats.Table.{Table}
use Rattle.session_rule.specs.declared.seats.WorkerSeat.{WorkerSeat}
use Rattle.session_rule.specs.Seats.{size_of, joined_parts, worker_number, worker_steps}
use Rattle.session_desk.specs.Book.{Book, IsBookOf, steps_of, answers_of}
use Rattle.session_desk.specs.Parting.{HasSplit, IsJoined}

-- so many workers were split off, one after the other
abbrev pub SplitsOff : Table → ℕ → Book → Book → Type 0
SplitsOff t zero b c = c ≡ b
SplitsOff t (suc n) b c = (m : Book) × (w : WorkerSeat) × SplitsOff t n b m × HasSplit t m c w

-- the workers n, n + 1 and so on, with these lists of steps, were joined, the last first
abbrev pub JoinsAll : Table → ℕ → List (List Step) → Book → Book → Type 0
JoinsAll t n [] b c = c ≡ b
JoinsAll t n (xs ∷ lists) b c = (m : Book) × (w : WorkerSeat)
    × JoinsAll t (suc n) lists b m × (worker_number w ≡ n) × (worker_steps w ≡ xs) × IsJoined t m w c

-- The desk's list goes on from the openings, and from base, after which it gave no answer. The workers 1 to n are split off, and
-- those after them, whose lists these are, were joined
pub record Phase (t : Table) (first base : List Step) (b : Book) (n : ℕ) (lists : List (List Step)) : Type 0 where
  pub book : IsBookOf t b
  pub schedule : IsDeskOfOneSchedule (size_of t) (steps_of b) (joined_parts b.seat)
  pub more : List Step
  pub grew : steps_of b ≡ more ++ first
  pub openings : AreOpenings (desk_answers first)
  pub nobody : (w : ℕ) → is_split first w ≡ false
  pub since : List Step
  pub based : steps_of b ≡ since ++ base
  pub gave : answers_of b ≡ desk_answers base
  pub some : (w : ℕ) → 0 < w → w ≤ n → is_split (steps_of b) w ≡ true
  pub none : (w : ℕ) → (w ≡ 0) ⊎ (n < w) → is_split (steps_of b) w ≡ false
  pub ended : AllEnded (joined_parts b.seat) (length (desk_answers first)) (suc n) lists
  pub others : (w : ℕ) → (w ≤ n) ⊎ (n + length lists < w) → own_parts (joined_parts b.seat) w ≡ []
