-- What the desk's list says of slots and rows, where each of its steps was allowed (this project's own).
use Rattle.std.specs.Prelude.{◌≡◌, ℕ, ◌<◌, ◌≤◌, true, false, List, ◌∷◌}
use Rattle.slot_word.specs.Fields.{greatest_generation}
use Rattle.session_world.specs.declared.steps.TableSize.{TableSize}
use Rattle.session_world.specs.declared.steps.Step.{Step}
use Rattle.session_world.specs.declared.steps.Part.{Part}
use Rattle.session_world.specs.Keys.{IsKey, IsConfigRow}
use Rattle.session_world.specs.Desk.{is_open, generation_of, row_of, key_word_of, is_reserved, row_word_of, IsComplete, is_split}
use Rattle.session_world.specs.Allowed.{DeskMay, DeskDid}
use Rattle.session_world.specs.Runs.{IsDeskOfOneSchedule}

-- in a schedule that runs each step of the desk was allowed
abbrev pub DeskIsAllowed : Type 0
DeskIsAllowed = (z : TableSize) (ds : List Step) (ps : List Part) → IsDeskOfOneSchedule z ds ps → DeskDid z ds

-- Slots that are reserved or open are slots of the table that were used, and none is both. The key words of a reserved slot
-- are those of a key. The row of a slot that was used is complete, and the words of a complete row are a configuration's
pub record HasSoundSlots (z : TableSize) (ds : List Step) : Type 0 where
  pub generation_low : (i : ℕ) → generation_of ds i ≤ greatest_generation
  pub open_used : (i : ℕ) → is_open ds i ≡ true → ¬ (generation_of ds i ≡ 0)
  pub open_inside : (i : ℕ) → is_open ds i ≡ true → i < z.slots
  pub reserved_used : (i : ℕ) → is_reserved ds i ≡ true → ¬ (generation_of ds i ≡ 0)
  pub reserved_inside : (i : ℕ) → is_reserved ds i ≡ true → i < z.slots
  pub reserved_closed : (i : ℕ) → is_reserved ds i ≡ true → is_open ds i ≡ false
  pub reserved_key : (i : ℕ) → is_reserved ds i ≡ true → IsKey (key_word_of ds i)
  pub open_key : (i : ℕ) → is_open ds i ≡ true → IsKey (key_word_of ds i)
  pub used_row : (i : ℕ) → ¬ (generation_of ds i ≡ 0) → IsComplete ds (row_of ds i)
  pub complete_inside : (r : ℕ) → IsComplete ds r → r ≤ z.rows
  pub complete_config : (r : ℕ) → IsComplete ds r → IsConfigRow (row_word_of ds r)
  pub split_inside : (w : ℕ) → is_split ds w ≡ true → (0 < w) × (w ≤ z.workers)

abbrev pub SlotsAreSound : Type 0
SlotsAreSound = (z : TableSize) (ds : List Step) → DeskDid z ds → HasSoundSlots z ds

-- a step of the desk leaves a complete row as it is
abbrev pub StepsKeepRows : Type 0
StepsKeepRows = (z : TableSize) (ds : List Step) (s : Step) (r : ℕ) → DeskMay z ds s → IsComplete ds r → IsComplete (s ∷ ds) r × (row_word_of (s ∷ ds) r ≡ row_word_of ds r)
