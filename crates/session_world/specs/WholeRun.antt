-- A run from the first row word to the first draw: that the definitions allow what they are for (this project's own).
use Rattle.std.specs.Prelude.{◌≡◌, ℕ, zero, suc, true, false, List, [], ◌∷◌}
use Rattle.slot_word.specs.Fields.{word_of}
use Rattle.session_key.specs.Matching.{matches}
use Rattle.session_world.specs.declared.steps.TableSize.{TableSize}
use Rattle.session_world.specs.declared.steps.Step.{Step}
use Rattle.session_world.specs.declared.steps.Step.TheVariants.{WriteRow, WriteKey, ReserveNew, Start, Look, LoadKey, Draw, Split, Announce}
use Rattle.session_world.specs.Sizes.{IsWithinLimits}
use Rattle.session_world.specs.Keys.{Query, IsKey, IsConfigRow, key_of, extra_of, config_of, is_auth, has_key, start_of}
use Rattle.session_world.specs.Desk.{config_at}
use Rattle.session_world.specs.Answers.{opened, seen, drew, desk_answers, worker_answers}
use Rattle.session_world.specs.Runs.{ScheduledStep, run, Runs}

abbrev pub by_desk : Step → ScheduledStep
by_desk s = record { actor = 0; step = s }

abbrev pub by_worker : Step → ScheduledStep
by_worker s = record { actor = 1; step = s }

-- the first words of row 1
abbrev pub row_steps : (ℕ → ℕ) → ℕ → List ScheduledStep
row_steps row zero = []
row_steps row (suc k) = by_desk (WriteRow 1 (suc k) (row (suc k))) ∷ row_steps row k

-- and after all twelve the first key words of a slot
abbrev pub key_steps : (ℕ → ℕ) → (ℕ → ℕ) → ℕ → ℕ → List ScheduledStep
key_steps row key slot zero = row_steps row 12
key_steps row key slot (suc k) = by_desk (WriteKey slot (suc k) (key (suc k))) ∷ key_steps row key slot k

-- the slot is reserved and started, and a worker is split off, which announces it and looks at it
abbrev pub look_steps : (ℕ → ℕ) → (ℕ → ℕ) → ℕ → Query → ℕ → List ScheduledStep
look_steps row key slot q read =
    by_worker (Look slot q (word_of 0 1 1 false))
    ∷ by_worker (Announce slot)
    ∷ by_desk (Split 1 read)
    ∷ by_desk (Start slot (word_of 0 1 1 true))
    ∷ by_desk (ReserveNew slot 1)
    ∷ key_steps row key slot 4

-- it loads the four key words and draws
abbrev pub load_steps : (ℕ → ℕ) → (ℕ → ℕ) → ℕ → Query → ℕ → ℕ → List ScheduledStep
load_steps row key slot q read zero = look_steps row key slot q read
load_steps row key slot q read (suc k) = by_worker (LoadKey slot (suc k) (key (suc k))) ∷ load_steps row key slot q read k

abbrev pub whole_run : (ℕ → ℕ) → (ℕ → ℕ) → ℕ → Query → ℕ → List ScheduledStep
whole_run row key slot q read = by_worker (Draw slot (word_of 0 1 1 false)) ∷ load_steps row key slot q read 4

-- the answers of the desk and of the worker, and the configuration of row 1, after such a run
pub record Ends (z : TableSize) (row key : ℕ → ℕ) (q : Query) (ms : List ScheduledStep) : Type 0 where
  pub runs : Runs z ms
  pub desk : desk_answers (run z ms).desk ≡ opened (key_of key) (extra_of key) 1 ∷ []
  pub worker : worker_answers z.slots ((run z ms).living_part 1) ≡ drew (key_of key) 0 1 ∷ seen q (key_of key) (extra_of key) 1 ∷ []
  pub config : config_at (run z ms).desk 1 ≡ config_of row

-- For each size, key, extra, configuration and query that matches, it runs, with what the split read in word 0. The desk answers
-- that the session is opened, and the worker that it saw it and drew 0
abbrev pub WholeRun : Type 0
WholeRun = (z : TableSize) (row key : ℕ → ℕ) (q : Query)
    → IsWithinLimits z → IsConfigRow row → IsKey key → matches q (key_of key) ≡ true
    → (is_auth (key_of key) ≡ true → has_key (config_of row) ≡ true)
    → (read : ℕ) × Ends z row key q (whole_run row key (start_of z.slots q.local q.peer) q read)
