-- What no schedule that runs has, and what no history explains (this project's own).
use Rattle.std.specs.Prelude.{◌≡◌, ◌⊎◌, ℕ, suc, ◌+◌, ◌%◌, ◌^◌, ◌<◌, ◌≤◌, true, List, [], ◌∷◌}
use Rattle.slot_word.specs.Fields.{sequence_unit}
use Rattle.session_key.specs.Matching.{matches}
use Rattle.session_world.specs.declared.steps.TableSize.{TableSize}
use Rattle.session_world.specs.declared.steps.Step.{Step}
use Rattle.session_world.specs.declared.steps.Step.TheVariants.{WriteKey, ReserveNew, Look, Draw, Expire, ReserveUsed}
use Rattle.session_world.specs.Sizes.{IsWithinLimits}
use Rattle.session_world.specs.Keys.{Query, Key, Extra, ConfigParts}
use Rattle.session_world.specs.Words.{slot_at, announced_at}
use Rattle.session_world.specs.Desk.{is_split, scanned_since}
use Rattle.session_world.specs.Answers.{opened, expired, missed, desk_gives, desk_answers, answers_at_split, worker_answers}
use Rattle.session_world.specs.Runs.{ScheduledStep, run, Runs}
use Rattle.session_world.specs.History.{Event}
use Rattle.session_world.specs.Explains.{Explains}
use Rattle.session_world.specs.Held.{word_at, IsHeldBy}

-- A worker changes a slot word by a draw alone, which adds to the very word that it read. So a draw by a load and a later store
-- runs in no schedule
abbrev pub OnlyDrawsChange : Type 0
OnlyDrawsChange = (z : TableSize) (m : ScheduledStep) (ms : List ScheduledStep) (w i : ℕ)
    → IsWithinLimits z → Runs z (m ∷ ms) → m.actor ≡ suc w → i < z.slots
    → (word_at (run z (m ∷ ms)) (slot_at i) ≡ word_at (run z ms) (slot_at i))
    ⊎ ((m.step ≡ Draw i (word_at (run z ms) (slot_at i))) × (word_at (run z (m ∷ ms)) (slot_at i) ≡ (word_at (run z ms) (slot_at i) + sequence_unit) % 2 ^ 64))

-- a used slot is reserved only where every worker was scanned since the slot was closed
abbrev pub ReuseIsScanned : Type 0
ReuseIsScanned = (z : TableSize) (ms : List ScheduledStep) (i generation row w : ℕ)
    → Runs z (record { actor = 0; step = ReserveUsed i generation row } ∷ ms)
    → 0 < w → w ≤ z.workers → scanned_since (run z ms).desk i w ≡ true

abbrev pub TakesSlot : Step → ℕ → Type 0
TakesSlot (WriteKey slot index word) i = i ≡ slot
TakesSlot (ReserveNew slot row) i = i ≡ slot
TakesSlot (ReserveUsed slot generation row) i = i ≡ slot
TakesSlot _ i = ⊥

-- and neither it nor a key word of it is written while a worker holds the slot, also after the worker was joined
abbrev pub HeldIsNotTaken : Type 0
HeldIsNotTaken = (z : TableSize) (s : Step) (ms : List ScheduledStep) (w i : ℕ)
    → IsWithinLimits z → Runs z (record { actor = 0; step = s } ∷ ms)
    → IsHeldBy (run z ms) (suc w) i → ¬ TakesSlot s i

-- a worker looks only at a slot that its announcement word names at that moment
abbrev pub LooksAreAnnounced : Type 0
LooksAreAnnounced = (z : TableSize) (ms : List ScheduledStep) (w i : ℕ) (q : Query) (read : ℕ)
    → IsWithinLimits z → Runs z (record { actor = suc w; step = Look i q read } ∷ ms)
    → word_at (run z ms) (announced_at z (suc w)) ≡ suc i

-- only an expire that found the word that it expects gives an expiry. So a close after a peek is none
abbrev pub ExpiresAreExact : Type 0
ExpiresAreExact = (ds : List Step) (s : Step) (k : Key) (n row : ℕ)
    → desk_gives ds s ≡ expired k n row ∷ [] → (slot expected : ℕ) × (s ≡ Expire slot expected expected)

-- A worker that was split off after a session was opened, and whose one answer is a miss for a query that matches the session:
-- where the desk's one answer is the opening, no history explains the schedule
abbrev pub NoFalseMiss : Type 0
NoFalseMiss = (z : TableSize) (ms : List ScheduledStep) (w row : ℕ) (q : Query) (k : Key) (x : Extra)
    → desk_answers (run z ms).desk ≡ opened k x row ∷ [] → is_split (run z ms).desk (suc w) ≡ true → answers_at_split (run z ms).desk (suc w) ≡ 1
    → worker_answers z.slots ((run z ms).living_part (suc w)) ≡ missed q ∷ [] → matches q k ≡ true
    → (h : List (Event ConfigParts)) → ¬ Explains z ms h
