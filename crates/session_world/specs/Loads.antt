-- What the words are that workers and the desk read (this project's own).
use Rattle.std.specs.Prelude.{◌≡◌, ◌⊎◌, ℕ, suc, ◌<◌, ◌≤◌, ◌==◌, Bool, true, false, ◌||◌, ◌&&◌, List, [], ◌∷◌}
use Rattle.slot_word.specs.Fields.{generation_in, row_in, is_open_word}
use Rattle.session_world.specs.declared.steps.TableSize.{TableSize}
use Rattle.session_world.specs.declared.steps.Step.{Step}
use Rattle.session_world.specs.declared.steps.Part.{Part}
use Rattle.session_world.specs.declared.steps.Step.TheVariants.{Look, LoadKey, Draw, LoadRow, Peek, Expire, Announce, Retire}
use Rattle.session_world.specs.Sizes.{IsWithinLimits}
use Rattle.session_world.specs.Keys.{IsKey, IsConfigRow}
use Rattle.session_world.specs.Desk.{generation_of, row_of, key_word_of, row_word_of, IsComplete, KeyedFor, is_split}
use Rattle.session_world.specs.Worker.{holds, names_row}
use Rattle.session_world.specs.Runs.{CoreState, ScheduledStep, run, Runs}

-- ---- loads

-- the loads of the four key words of a slot, which read these
abbrev pub key_loads : ℕ → (ℕ → ℕ) → List Step → List Step
key_loads slot word xs = LoadKey slot 4 (word 4) ∷ LoadKey slot 3 (word 3) ∷ LoadKey slot 2 (word 2) ∷ LoadKey slot 1 (word 1) ∷ xs

-- the loads of the twelve words of a row
abbrev pub row_loads : ℕ → (ℕ → ℕ) → List Step → List Step
row_loads row word xs =
    LoadRow row 12 (word 12) ∷ LoadRow row 11 (word 11) ∷ LoadRow row 10 (word 10) ∷ LoadRow row 9 (word 9)
    ∷ LoadRow row 8 (word 8) ∷ LoadRow row 7 (word 7) ∷ LoadRow row 6 (word 6) ∷ LoadRow row 5 (word 5)
    ∷ LoadRow row 4 (word 4) ∷ LoadRow row 3 (word 3) ∷ LoadRow row 2 (word 2) ∷ LoadRow row 1 (word 1) ∷ xs

-- one of the steps loaded word k of the row r, and read n
abbrev pub HasLoaded : ℕ → ℕ → ℕ → List Step → Type 0
HasLoaded r k n [] = ⊥
HasLoaded r k n (LoadRow row index read ∷ xs) = ((r ≡ row) × (k ≡ index) × (n ≡ read)) ⊎ HasLoaded r k n xs
HasLoaded r k n (_ ∷ xs) = HasLoaded r k n xs

-- the steps loaded all twelve words of the row, and read f
abbrev pub HasLoadedRow : ℕ → (ℕ → ℕ) → List Step → Type 0
HasLoadedRow r f xs = (k : ℕ) → 0 < k → k < 13 → HasLoaded r k (f k) xs

-- since it last announced or retired, the worker's loads of key words read f
abbrev pub KeyLoadsAre : (ℕ → ℕ) → List Step → Type 0
KeyLoadsAre f [] = Unit {0}
KeyLoadsAre f (Announce slot ∷ xs) = Unit {0}
KeyLoadsAre f (Retire ∷ xs) = Unit {0}
KeyLoadsAre f (LoadKey slot index read ∷ xs) = (read ≡ f index) × KeyLoadsAre f xs
KeyLoadsAre f (_ ∷ xs) = KeyLoadsAre f xs

-- its loads of words of row r read f
abbrev pub RowLoadsAre : (ℕ → ℕ) → ℕ → List Step → Type 0
RowLoadsAre f r [] = Unit {0}
RowLoadsAre f r (LoadRow row index read ∷ xs) = (r ≡ row → read ≡ f index) × RowLoadsAre f r xs
RowLoadsAre f r (_ ∷ xs) = RowLoadsAre f r xs

-- an open word that it looked at or drew from names the row
abbrev pub names_open : List Step → ℕ → Bool
names_open [] r = false
names_open (Look slot query read ∷ xs) r = (is_open_word read && (r == row_in read)) || names_open xs r
names_open (Draw slot read ∷ xs) r = (is_open_word read && (r == row_in read)) || names_open xs r
names_open (_ ∷ xs) r = names_open xs r

-- the same since it last announced or retired
abbrev pub names_open_here : List Step → ℕ → Bool
names_open_here [] r = false
names_open_here (Announce slot ∷ xs) r = false
names_open_here (Retire ∷ xs) r = false
names_open_here (Look slot query read ∷ xs) r = (is_open_word read && (r == row_in read)) || names_open_here xs r
names_open_here (Draw slot read ∷ xs) r = (is_open_word read && (r == row_in read)) || names_open_here xs r
names_open_here (_ ∷ xs) r = names_open_here xs r

-- ---- what they read

-- While the worker holds slot i: the key words that it reads are the desk's, which are those of a sound key and extra, and
-- where that key's mode is Auth the configuration of each row that it found there in an open word has an HMAC key
pub record HeldKey (ds xs : List Step) (i : ℕ) : Type 0 where
  pub sound : IsKey (key_word_of ds i)
  pub loads : KeyLoadsAre (key_word_of ds i) xs
  pub keyed : (r : ℕ) → names_open_here xs r ≡ true → KeyedFor ds i r

-- Each open word names a row of the table. Each row that a word names is complete, its words are those of a configuration,
-- and the worker's loads of them read what the desk wrote
pub record WorkerWords (z : TableSize) (ds xs : List Step) : Type 0 where
  pub held : (i : ℕ) → holds xs i ≡ true → HeldKey ds xs i
  pub named : (r : ℕ) → names_open xs r ≡ true → (0 < r) × (r ≤ z.rows)
  pub rows : (r : ℕ) → ¬ (r ≡ 0) → names_row xs r ≡ true → IsComplete ds r × IsConfigRow (row_word_of ds r) × RowLoadsAre (row_word_of ds r) r xs

-- The same of the rows of a part that a join has ended
pub record PartWords (z : TableSize) (ds xs : List Step) : Type 0 where
  pub named : (r : ℕ) → names_open xs r ≡ true → (0 < r) × (r ≤ z.rows)
  pub rows : (r : ℕ) → ¬ (r ≡ 0) → names_row xs r ≡ true → IsComplete ds r × IsConfigRow (row_word_of ds r) × RowLoadsAre (row_word_of ds r) r xs

abbrev pub AllPartWords : TableSize → List Step → List Part → Type 0
AllPartWords z ds [] = Unit {0}
AllPartWords z ds (p ∷ ps) = PartWords z ds p.steps × AllPartWords z ds ps

-- the word is open, and has the generation and the row that the desk last gave the slot
abbrev pub IsWordOf : List Step → ℕ → ℕ → Type 0
IsWordOf ds i n = (is_open_word n ≡ true) × (generation_in n ≡ generation_of ds i) × (row_in n ≡ row_of ds i)

-- so is each word that the desk read at a peek or an expire
abbrev pub DeskWords : List Step → Type 0
DeskWords [] = Unit {0}
DeskWords (Peek slot read ∷ ds) = IsWordOf ds slot read × DeskWords ds
DeskWords (Expire slot expected read ∷ ds) = IsWordOf ds slot read × DeskWords ds
DeskWords (_ ∷ ds) = DeskWords ds

-- What the desk read, what the parts that have ended read, and what each worker that is split off has read
pub record HasLoadedWords (z : TableSize) (c : CoreState) : Type 0 where
  pub desk : DeskWords c.desk
  pub parts : AllPartWords z c.desk c.ended_parts
  pub workers : (w : ℕ) → is_split c.desk (suc w) ≡ true → WorkerWords z c.desk (c.living_part (suc w))

abbrev pub LoadedWords : Type 0
LoadedWords = (z : TableSize) (ms : List ScheduledStep) → IsWithinLimits z → Runs z ms → HasLoadedWords z (run z ms)
