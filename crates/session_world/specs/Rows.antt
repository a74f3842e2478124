-- Which configurations rows stand for, by the desk's list and by the loads of a worker (this project's own).
use Rattle.std.specs.Prelude.{◌≡◌, ℕ, true, List, ◌++◌}
use Rattle.session_world.specs.declared.steps.TableSize.{TableSize}
use Rattle.session_world.specs.declared.steps.Step.{Step}
use Rattle.session_world.specs.declared.steps.Part.{Part}
use Rattle.session_world.specs.Sizes.{IsWithinLimits}
use Rattle.session_world.specs.Keys.{ConfigParts, config_of}
use Rattle.session_world.specs.Desk.{row_word_of, config_at, IsComplete, is_split}
use Rattle.session_world.specs.Worker.{names_row}
use Rattle.session_world.specs.Loads.{RowLoadsAre, HasLoadedRow}
use Rattle.session_world.specs.Runs.{IsDeskOfOneSchedule, IsWorkerOfOneSchedule}

-- a complete row stays as it is, whatever steps the desk adds to its list
abbrev pub RowsStay : Type 0
RowsStay = (z : TableSize) (now more ds : List Step) (ps : List Part) (r : ℕ) → IsDeskOfOneSchedule z now ps → now ≡ more ++ ds → IsComplete ds r
    → IsComplete now r × (row_word_of now r ≡ row_word_of ds r)

-- each row that a word named to the worker stands for the configuration of the words that its loads read there
abbrev pub ReadsRows : (ℕ → ConfigParts) → List Step → Type 0
ReadsRows config xs = (r : ℕ) → ¬ (r ≡ 0) → names_row xs r ≡ true → (word : ℕ → ℕ) × RowLoadsAre word r xs × (config r ≡ config_of word)

-- in some schedule that has the worker's list, the rows that it read stand for the configurations that the desk wrote
pub record HasReadRows (z : TableSize) (w : ℕ) (xs : List Step) : Type 0 where
  pub desk : List Step
  pub parts : List Part
  pub schedule : IsDeskOfOneSchedule z desk parts
  pub split : is_split desk w ≡ true
  pub rows : ReadsRows (config_at desk) xs

abbrev pub WorkersReadRows : Type 0
WorkersReadRows = (z : TableSize) (w : ℕ) (xs : List Step) → IsWithinLimits z → IsWorkerOfOneSchedule z w xs → HasReadRows z w xs

-- a row stands for the configuration of its twelve words where the worker has loaded them all
abbrev pub LoadsFixRows : Type 0
LoadsFixRows = (config : ℕ → ConfigParts) (xs : List Step) (r : ℕ) (word : ℕ → ℕ) → ReadsRows config xs → ¬ (r ≡ 0) → names_row xs r ≡ true → HasLoadedRow r word xs → config r ≡ config_of word
