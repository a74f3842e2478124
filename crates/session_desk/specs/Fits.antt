-- What every book says of its sessions and rows (this project's own).
use Rattle.std.specs.Prelude.{◌≡◌, ◌⊎◌, ℕ, suc, ◌*◌, ◌≤◌, Bool, true, false, ◌||◌, List, [], ◌∷◌, map, AllPairs}
use Rattle.std.specs.List.{Contains, list_any}
use Rattle.refl_types.specs.declared.types.Key.{Key}
use Rattle.slot_word.specs.Fields.{greatest_generation}
use Rattle.session_key.specs.Matching.{excludes}
use Rattle.session_world.specs.declared.steps.Step.{Step}
use Rattle.session_world.specs.declared.steps.Step.TheVariants.{ReserveNew, ReserveUsed}
use Rattle.session_world.specs.Sizes.{IsWithinLimits}
use Rattle.session_world.specs.Desk.{generation_of}
use Rattle.session_rule.specs.Seats.{desk_steps, joined_parts, IsDeskOfOneSchedule}
use Rattle.session_desk.specs.declared.session.Session.{Session}
use Rattle.session_desk.specs.Book.{Book, steps_of, answers_of, line_of, lines_left}
use Rattle.session_desk.specs.Kept.{RowsFit}
use Rattle.session_desk.specs.Refusals.{slots_that, is_retired}

-- the session is live or reserved
abbrev pub IsIn : Book → Session → Type 0
IsIn b s = Contains b.live s ⊎ Contains b.reserved s

-- how many reserves the list has
abbrev pub reserves_in : List Step → ℕ
reserves_in [] = 0
reserves_in (ReserveNew slot row ∷ ds) = suc (reserves_in ds)
reserves_in (ReserveUsed slot generation row ∷ ds) = suc (reserves_in ds)
reserves_in (_ ∷ ds) = reserves_in ds

-- The live sessions, in the order of starting, are what the desk's own answers leave. No two keys exclude each other, and the
-- keys are those of the live and of the reserved sessions. Each session has the generation of its slot. Each row stands for its
-- configuration. A slot is retired only after it was reserved as often as its word can count
pub record BookFits (b : Book) : Type 0 where
  pub limits : IsWithinLimits b.size
  pub schedule : IsDeskOfOneSchedule b.size (steps_of b) (joined_parts b.seat)
  pub lines : map line_of b.live ≡ lines_left (answers_of b)
  pub rows : RowsFit b.size (steps_of b) b.rows
  pub alone : AllPairs (λ j k. excludes j k ≡ false) b.keys
  pub keys : (test : Key → Bool) → list_any test b.keys ≡ (list_any (λ s. test s.key) b.live || list_any (λ s. test s.key) b.reserved)
  pub places : (s : Session) → IsIn b s → generation_of (steps_of b) s.place.slot ≡ s.place.generation
  pub retired : slots_that b (is_retired b) * greatest_generation ≤ reserves_in (steps_of b)
