-- The rows that a turn's answers name, and the configuration that the worker reads there (this project's own).
use Rattle.std.specs.Prelude.{◌≡◌, ◌⊎◌, ℕ, true, List, [], ◌∷◌}
use Rattle.session_world.specs.declared.steps.TableSize.{TableSize}
use Rattle.session_world.specs.declared.steps.Step.{Step}
use Rattle.session_world.specs.declared.steps.Part.{Part}
use Rattle.session_world.specs.Keys.{config_of}
use Rattle.session_world.specs.Desk.{config_at}
use Rattle.session_world.specs.Answers.{Answer, seen, drew, worker_answers}
use Rattle.session_world.specs.Loads.{names_open, HasLoadedRow}
use Rattle.session_world.specs.Runs.{IsDeskOfOneSchedule}
use Rattle.session_world.specs.OneThread.{IsBetween, after_turn, turn_part}

-- one of the answers names the row
abbrev pub AnswersRow : ℕ → List (Answer ℕ) → Type 0
AnswersRow r [] = ⊥
AnswersRow r (seen q k x s ∷ xs) = (r ≡ s) ⊎ AnswersRow r xs
AnswersRow r (drew k n s ∷ xs) = (r ≡ s) ⊎ AnswersRow r xs
AnswersRow r (_ ∷ xs) = AnswersRow r xs

-- each row that an answer names was named by an open word
abbrev pub AnswersName : Type 0
AnswersName = (slots : ℕ) (xs : List Step) (r : ℕ) → AnswersRow r (worker_answers slots xs) → names_open xs r ≡ true

-- the twelve words that a turn read of a row that its answers name are those of the configuration for which the row stands
abbrev pub RowsTell : Type 0
RowsTell = (z : TableSize) (ds : List Step) (ps : List Part) (w n m : ℕ) (xs : List Step) → IsBetween z ds ps → IsDeskOfOneSchedule z (after_turn ds w n m) (turn_part ds w n xs ∷ ps)
    → (r : ℕ) (word : ℕ → ℕ) → AnswersRow r (worker_answers z.slots xs) → HasLoadedRow r word xs → config_at ds r ≡ config_of word
