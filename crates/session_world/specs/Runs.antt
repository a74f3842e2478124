-- The state of the table and of its actors, and the schedules that run (this project's own). Every list has its latest entry first.
use Rattle.std.specs.Prelude.{◌≡◌, ℕ, zero, suc, ◌==◌, true, if◌then◌else◌, List, [], ◌∷◌, length, slice_index}
use Rattle.session_world.specs.declared.steps.TableSize.{TableSize}
use Rattle.session_world.specs.declared.steps.Step.{Step}
use Rattle.session_world.specs.declared.steps.Part.{Part}
use Rattle.session_world.specs.declared.steps.Step.TheVariants.{Split, Join}
use Rattle.session_world.specs.Keys.{put}
use Rattle.session_world.specs.Words.{first_words, word_index, HasRead, words_after}
use Rattle.session_world.specs.Desk.{is_split}
use Rattle.session_world.specs.Answers.{desk_answers, answers_at_split}
use Rattle.session_world.specs.Allowed.{IsAllowed}

-- the words, the desk's list, the last part of each worker's list, and the parts that joins have ended
pub record CoreState : Type 0 where
  pub words : List ℕ
  pub desk : List Step
  pub living_part : ℕ → List Step
  pub ended_parts : List Part

-- a split begins a new part of the worker's list
abbrev pub parts_after : (ℕ → List Step) → Step → ℕ → List Step
parts_after part (Split worker read) = put part worker []
parts_after part _ = part

-- a join ends the part
abbrev pub ended_part : ℕ → List Step → List Step → Part
ended_part w xs ds = record { worker = w; steps = xs; from = answers_at_split ds w; to = length (desk_answers ds) }

-- the ended parts of the worker w, the latest first
abbrev pub own_parts : List Part → ℕ → List Part
own_parts [] w = []
own_parts (p ∷ ps) w = if w == p.worker then p ∷ own_parts ps w else own_parts ps w

abbrev pub ended_after : List Step → (ℕ → List Step) → List Part → Step → List Part
ended_after ds part ended (Join worker read) = ended_part worker (part worker) ds ∷ ended
ended_after ds part ended _ = ended

-- a step changes its word and its actor's list
abbrev pub state_after : TableSize → CoreState → ℕ → Step → CoreState
state_after z c zero s = record {
  words = words_after z c.words 0 s;
  desk = s ∷ c.desk;
  living_part = parts_after c.living_part s;
  ended_parts = ended_after c.desk c.living_part c.ended_parts s;
}
state_after z c (suc w) s = record {
  words = words_after z c.words (suc w) s;
  desk = c.desk;
  living_part = put c.living_part (suc w) (s ∷ c.living_part (suc w));
  ended_parts = c.ended_parts;
}

abbrev pub first_state : TableSize → CoreState
first_state z = record { words = first_words z; desk = []; living_part = λ w. []; ended_parts = [] }

abbrev pub own_steps : CoreState → ℕ → List Step
own_steps c zero = c.desk
own_steps c (suc w) = c.living_part (suc w)

-- a schedule is a list of these
pub record ScheduledStep : Type 0 where
  pub actor : ℕ
  pub step : Step

-- the state after a schedule
abbrev pub run : TableSize → List ScheduledStep → CoreState
run z [] = first_state z
run z (m ∷ ms) = state_after z (run z ms) m.actor m.step

-- each step is allowed and has read what stood in its word
abbrev pub Runs : TableSize → List ScheduledStep → Type 0
Runs z [] = Unit {0}
Runs z (m ∷ ms) =
    Runs z ms
    × IsAllowed z m.actor (run z ms).desk (own_steps (run z ms) m.actor) m.step
    × HasRead m.step (slice_index (run z ms).words (word_index z m.actor m.step))

-- ---- what an actor may know of the schedule

-- one schedule that runs has these as the desk's list and the parts that joins have ended
abbrev pub IsDeskOfOneSchedule : TableSize → List Step → List Part → Type 0
IsDeskOfOneSchedule z ds ps = (schedule : List ScheduledStep) × Runs z schedule × ((run z schedule).desk ≡ ds) × ((run z schedule).ended_parts ≡ ps)

-- one schedule that runs has this as the last part of the worker's list, and the worker is split off
abbrev pub IsWorkerOfOneSchedule : TableSize → ℕ → List Step → Type 0
IsWorkerOfOneSchedule z w xs = (schedule : List ScheduledStep) × Runs z schedule × (is_split (run z schedule).desk w ≡ true) × ((run z schedule).living_part w ≡ xs)
