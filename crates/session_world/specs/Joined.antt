-- One history for the desk and all workers that it has joined (this project's own). Lists have their latest entry first.
use Rattle.std.specs.Prelude.{◌≡◌, ℕ, suc, ◌<◌, ◌≤◌, false, List, [], ◌∷◌, ◌++◌, length, map}
use Rattle.session_world.specs.declared.steps.TableSize.{TableSize}
use Rattle.session_world.specs.declared.steps.Step.{Step}
use Rattle.session_world.specs.declared.steps.Part.{Part}
use Rattle.session_world.specs.Sizes.{IsWithinLimits}
use Rattle.session_world.specs.Keys.{ConfigParts}
use Rattle.session_world.specs.Desk.{is_split, config_at}
use Rattle.session_world.specs.Answers.{Answer, opened, with_configs, desk_answers, worker_answers}
use Rattle.session_world.specs.Runs.{own_parts, ScheduledStep, run, Runs, IsDeskOfOneSchedule}
use Rattle.session_world.specs.Rows.{ReadsRows}
use Rattle.session_world.specs.History.{Event}
use Rattle.session_world.specs.Explains.{Explains, answers_in}
use Rattle.session_world.specs.OneOrder.{events_by}

-- ---- the joined workers

-- the worker w has one part, with these steps. It was split off after so many answers of the desk, or later
abbrev pub IsEnded : List Part → ℕ → ℕ → List Step → Type 0
IsEnded ps count w xs = (p : Part) × (own_parts ps w ≡ p ∷ []) × (p.steps ≡ xs) × (count ≤ p.from)

-- the workers w, w + 1 and so on have these lists
abbrev pub AllEnded : List Part → ℕ → ℕ → List (List Step) → Type 0
AllEnded ps count w [] = Unit {0}
AllEnded ps count w (xs ∷ xss) = IsEnded ps count w xs × AllEnded ps count (suc w) xss

abbrev pub IsOpening : {C : Type 0} → Answer C → Type 0
IsOpening (opened k x c) = Unit {0}
IsOpening _ = ⊥

abbrev pub AreOpenings : {C : Type 0} → List (Answer C) → Type 0
AreOpenings [] = Unit {0}
AreOpenings (d ∷ xs) = IsOpening d × AreOpenings xs

-- One schedule has the desk's list and these parts. The desk gave nothing but openings first; then the workers from 1 on, whose
-- lists these are, were split off, and by now all are joined
pub record HasJoinedAll (z : TableSize) (first ds : List Step) (ps : List Part) (lists : List (List Step)) : Type 0 where
  pub schedule : IsDeskOfOneSchedule z ds ps
  pub more : List Step
  pub grew : ds ≡ more ++ first
  pub openings : AreOpenings (desk_answers first)
  pub nobody : (w : ℕ) → is_split ds w ≡ false
  pub ended : AllEnded ps (length (desk_answers first)) 1 lists
  pub others : (w : ℕ) → length lists < w → own_parts ps w ≡ []

-- ---- one history for all

-- The events of the workers w, w + 1 and so on are the answers of these lists, each with the configuration of its row; and the
-- words that they read of a row are those of its configuration
abbrev pub AllTold : TableSize → List Step → List (Event ConfigParts) → ℕ → List (List Step) → Type 0
AllTold z ds h w [] = Unit {0}
AllTold z ds h w (xs ∷ xss) = (answers_in w h ≡ map (with_configs (config_at ds)) (worker_answers z.slots xs)) × ReadsRows (config_at ds) xs × AllTold z ds h (suc w) xss

-- One schedule that runs has the desk's list and all joined parts, and a legal history explains it. The history begins with the
-- desk's first openings; its events by each worker are the answers of that worker's list, and nobody else has any
pub record OneHistory (z : TableSize) (first ds : List Step) (ps : List Part) (lists : List (List Step)) : Type 0 where
  pub schedule : List ScheduledStep
  pub runs : Runs z schedule
  pub desk : (run z schedule).desk ≡ ds
  pub parts : (run z schedule).ended_parts ≡ ps
  pub nobody : (w : ℕ) → is_split ds w ≡ false
  pub ended : AllEnded ps (length (desk_answers first)) 1 lists
  pub history : List (Event ConfigParts)
  pub explains : Explains z schedule history
  pub later : List (Event ConfigParts)
  pub begins : history ≡ later ++ events_by 0 (config_at ds) (desk_answers first)
  pub desk_events : answers_in 0 history ≡ map (with_configs (config_at ds)) (desk_answers ds)
  pub workers : AllTold z ds history 1 lists
  pub others : (w : ℕ) → length lists < w → answers_in w history ≡ []

abbrev pub JoinedHistory : Type 0
JoinedHistory = (z : TableSize) (first ds : List Step) (ps : List Part) (lists : List (List Step)) → IsWithinLimits z → HasJoinedAll z first ds ps lists → OneHistory z first ds ps lists
