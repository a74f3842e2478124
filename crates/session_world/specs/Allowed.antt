-- When a step is allowed, by its actor's own list (this project's own).
use Rattle.std.specs.Prelude.{◌≡◌, ◌⊎◌, ℕ, zero, suc, ◌+◌, ◌-◌, ◌*◌, ◌<◌, ◌≤◌, true, false, List, [], ◌∷◌, Option, Some, None}
use Rattle.slot_word.specs.Fields.{is_open_word}
use Rattle.session_key.specs.Matching.{excludes}
use Rattle.session_world.specs.declared.steps.TableSize.{TableSize}
use Rattle.session_world.specs.declared.steps.Step.{Step}
use Rattle.session_world.specs.declared.steps.Step.TheVariants.{WriteRow, WriteKey, ReserveNew, Start, Look, LoadKey, Draw, Split, LoadRow, Reconfigure, Close, Peek, Expire, Join, Announce, Retire, Scan, ReserveUsed}
use Rattle.session_world.specs.Keys.{put, IsKey, IsConfigRow, config_of}
use Rattle.session_world.specs.Desk.{is_open, generation_of, row_of, key_word_of, key_of_slot, is_reserved, rows_written, row_word_of, config_at, IsComplete, KeyedFor, is_split, written_since, MayReuse, HasPath, start_of_key}
use Rattle.session_world.specs.Worker.{LastLook, announced, holds, names_row, has_key_words, key_matches, last_look}

-- the twelve words are those of a configuration that no earlier row has
abbrev pub IsNewRow : List Step → ℕ → (ℕ → ℕ) → Type 0
IsNewRow ds row word = IsConfigRow word × ((r : ℕ) → 0 < r → r < row → ¬ (config_at ds r ≡ config_of word))

-- The key words of the slot were written since its use began or ended, they are those of a sound key and extra, the row is
-- complete, and each slot before it on the walk for its key was reserved at some time
pub record MayReserve (z : TableSize) (ds : List Step) (i row : ℕ) : Type 0 where
  pub inside : i < z.slots
  pub written : (k : ℕ) → 0 < k → k < 5 → written_since ds i k ≡ true
  pub sound : IsKey (key_word_of ds i)
  pub complete : IsComplete ds row
  pub path : HasPath z ds (start_of_key z (key_of_slot ds i)) i

abbrev pub DeskMay : TableSize → List Step → Step → Type 0
-- the next word, in order, of the first row that isn't complete. The twelfth completes a new configuration
DeskMay z ds (WriteRow row index word) =
    (0 < row) × (row ≤ z.rows) × (0 < index) × (index < 13)
    × (12 * (row - 1) + (index - 1) ≡ rows_written ds)
    × (index ≡ 12 → IsNewRow ds row (put (row_word_of ds row) 12 word))
-- a key word of a slot that was never reserved, or that may be used again
DeskMay z ds (WriteKey slot index word) =
    (slot < z.slots) × (0 < index) × (index < 5)
    × ((generation_of ds slot ≡ 0) ⊎ MayReuse z ds slot)
-- a slot that was never reserved
DeskMay z ds (ReserveNew slot row) = (generation_of ds slot ≡ 0) × MayReserve z ds slot row
-- a slot that may be used again, under its next generation
DeskMay z ds (ReserveUsed slot generation row) =
    (generation ≡ suc (generation_of ds slot)) × MayReuse z ds slot × MayReserve z ds slot row
-- a reserved slot, where no open slot has its key, or its ends in another mode; in mode Auth the row's configuration has a key
DeskMay z ds (Start slot read) =
    (slot < z.slots) × (is_reserved ds slot ≡ true)
    × ((j : ℕ) → is_open ds j ≡ true → excludes (key_of_slot ds j) (key_of_slot ds slot) ≡ false)
    × KeyedFor ds slot (row_of ds slot)
-- the row that the desk last gave an open slot, for another complete row or the same one; in mode Auth that has a key
DeskMay z ds (Reconfigure slot old new read) =
    (is_open ds slot ≡ true) × (old ≡ row_of ds slot) × IsComplete ds new × KeyedFor ds slot new
-- an open slot; an expire expects an open word
DeskMay z ds (Close slot read) = is_open ds slot ≡ true
DeskMay z ds (Peek slot read) = is_open ds slot ≡ true
DeskMay z ds (Expire slot expected read) = (is_open ds slot ≡ true) × (is_open_word expected ≡ true)
-- the least number that isn't split off, and a worker that is
DeskMay z ds (Split worker read) =
    (0 < worker) × (worker ≤ z.workers) × (is_split ds worker ≡ false)
    × ((j : ℕ) → 0 < j → j < worker → is_split ds j ≡ true)
DeskMay z ds (Join worker read) = is_split ds worker ≡ true
-- always
DeskMay z ds (Scan worker read) = (0 < worker) × (worker ≤ z.workers)
DeskMay z ds _ = ⊥

-- each step of the desk's list was allowed
abbrev pub DeskDid : TableSize → List Step → Type 0
DeskDid z [] = Unit {0}
DeskDid z (s ∷ ds) = DeskDid z ds × DeskMay z ds s

-- the worker's last answer is a sight by its last look, which is at slot i
abbrev pub HasSeen : Option LastLook → ℕ → Type 0
HasSeen None i = ⊥
HasSeen (Some s) i =
    (s.slot ≡ i) × (s.live ≡ true) × (is_open_word s.read ≡ true)
    × (has_key_words s ≡ true) × (key_matches s ≡ true) × (¬ (s.number ≡ 0))

abbrev pub WorkerMay : TableSize → List Step → Step → Type 0
-- always
WorkerMay z xs (Announce slot) = slot < z.slots
WorkerMay z xs Retire = Unit {0}
-- at the slot that it announced last and hasn't retired
WorkerMay z xs (Look slot query read) = (slot < z.slots) × (announced xs ≡ Some slot)
-- a key word of the slot that it holds
WorkerMay z xs (LoadKey slot index read) = (0 < index) × (index < 5) × (holds xs slot ≡ true)
-- from the slot that it holds, once on each sight
WorkerMay z xs (Draw slot read) = (holds xs slot ≡ true) × HasSeen (last_look z.slots xs) slot
-- a word of a row that a slot word named to it
WorkerMay z xs (LoadRow row index read) =
    (0 < row) × (row ≤ z.rows) × (0 < index) × (index < 13) × (names_row xs row ≡ true)
WorkerMay z xs _ = ⊥

-- a step of the actor a, where the desk's list is ds and the actor's own is xs. The desk is actor 0
abbrev pub IsAllowed : TableSize → ℕ → List Step → List Step → Step → Type 0
IsAllowed z zero ds xs s = DeskMay z ds s
IsAllowed z (suc w) ds xs s = (is_split ds (suc w) ≡ true) × WorkerMay z xs s
