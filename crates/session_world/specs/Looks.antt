-- What is so of a worker's looks, in every schedule that runs (this project's own).
use Rattle.std.specs.Prelude.{◌≡◌, ℕ, suc, ◌<◌, true, List, [], ◌∷◌, Some}
use Rattle.slot_word.specs.Fields.{generation_in, is_open_word}
use Rattle.session_world.specs.declared.steps.TableSize.{TableSize}
use Rattle.session_world.specs.declared.steps.Step.{Step}
use Rattle.session_world.specs.declared.steps.Step.TheVariants.{Look}
use Rattle.session_world.specs.Sizes.{IsWithinLimits}
use Rattle.session_world.specs.Keys.{start_of, distance}
use Rattle.session_world.specs.Desk.{is_split}
use Rattle.session_world.specs.Worker.{LastLook, last_look}
use Rattle.session_world.specs.Runs.{ScheduledStep, run, Runs}

-- an open word that was looked at is that of a slot that was used
abbrev pub OpenAreUsed : List Step → Type 0
OpenAreUsed [] = Unit {0}
OpenAreUsed (Look slot query read ∷ xs) = (is_open_word read ≡ true → ¬ (generation_in read ≡ 0)) × OpenAreUsed xs
OpenAreUsed (_ ∷ xs) = OpenAreUsed xs

-- the look is at a slot of the table, and where it belongs to a walk, its number says how far from the walk's start it is
pub record LookFits (slots : ℕ) (s : LastLook) : Type 0 where
  pub inside : s.slot < slots
  pub numbered : ¬ (s.number ≡ 0) → s.number ≡ suc (distance slots (start_of slots s.query.local s.query.peer) s.slot)

pub record LooksFit (slots : ℕ) (xs : List Step) : Type 0 where
  pub used : OpenAreUsed xs
  pub last : (s : LastLook) → last_look slots xs ≡ Some s → LookFits slots s

abbrev pub WorkerLooks : Type 0
WorkerLooks = (z : TableSize) (ms : List ScheduledStep) (w : ℕ) → IsWithinLimits z → Runs z ms → is_split (run z ms).desk (suc w) ≡ true → LooksFit z.slots ((run z ms).living_part (suc w))
