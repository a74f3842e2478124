-- What stays while a worker holds a slot, also after it was joined (this project's own). The latest step comes first.
use Rattle.std.specs.Prelude.{◌≡◌, ℕ, suc, ◌<◌, true, if◌then◌else◌, List, [], ◌∷◌, ◌++◌, slice_index}
use Rattle.slot_word.specs.Fields.{generation_in}
use Rattle.session_world.specs.declared.steps.TableSize.{TableSize}
use Rattle.session_world.specs.declared.steps.Step.{Step}
use Rattle.session_world.specs.declared.steps.Part.{Part}
use Rattle.session_world.specs.Sizes.{IsWithinLimits}
use Rattle.session_world.specs.Words.{slot_at, key_at}
use Rattle.session_world.specs.Desk.{is_split}
use Rattle.session_world.specs.Worker.{holds}
use Rattle.session_world.specs.Runs.{CoreState, own_parts, ScheduledStep, run, Runs}

abbrev pub word_at : CoreState → ℕ → ℕ
word_at c p = slice_index c.words p

abbrev pub steps_of : List Part → List Step
steps_of [] = []
steps_of (p ∷ ps) = p.steps ++ steps_of ps

-- the steps of the worker w in all its parts, the living one and those that have ended
abbrev pub all_steps : CoreState → ℕ → List Step
all_steps c w =
    let ended = steps_of (own_parts c.ended_parts w) in
    if is_split c.desk w then c.living_part w ++ ended else ended

-- The worker holds slot i: since it last announced or retired, be it in an earlier part, a look at i found it open
abbrev pub IsHeldBy : CoreState → ℕ → ℕ → Type 0
IsHeldBy c w i = holds (all_steps c w) i ≡ true

-- so it does by the part of its list that it is in
abbrev pub HoldsInPart : Type 0
HoldsInPart = (c : CoreState) (w i : ℕ) → is_split c.desk w ≡ true → holds (c.living_part w) i ≡ true → IsHeldBy c w i

-- no step of a schedule that runs changes the generation or a key word of a slot that a worker holds
abbrev pub Held : Type 0
Held = (z : TableSize) (m : ScheduledStep) (ms : List ScheduledStep) (w i : ℕ)
    → IsWithinLimits z → Runs z (m ∷ ms) → IsHeldBy (run z ms) (suc w) i
    → (generation_in (word_at (run z (m ∷ ms)) (slot_at i)) ≡ generation_in (word_at (run z ms) (slot_at i)))
    × ((k : ℕ) → 0 < k → k < 5 → word_at (run z (m ∷ ms)) (key_at i k) ≡ word_at (run z ms) (key_at i k))
