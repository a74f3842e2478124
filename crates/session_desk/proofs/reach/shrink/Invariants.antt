use Rattle.std.proofs.Common.{◌≡◌, ℕ, ◌<◌, ◌≤◌, true, length}
use Rattle.session_world.specs.Keys.{distance}
use Rattle.session_world.specs.declared.steps.TableSize.{TableSize}
use Rattle.session_world.specs.Desk.{start_of_key}
use Rattle.session_desk.specs.Slots.{key_in, taken_in, is_taken, Reaches}
use Rattle.session_desk.proofs.reach.shrink.Given as goal

abbrev pub invariant-loop-far : goal.invariant-loop-far
invariant-loop-far l = (l.far ≤ length l.slots) × ((z : TableSize) → z.slots ≡ length l.slots → Reaches z l.slots l.reach.items
    → (j : ℕ) → j < z.slots → is_taken (taken_in l.slots j) ≡ true → start_of_key z (key_in l.slots j) ≡ l.start → distance z.slots l.start j < l.far)

abbrev pub decreases-loop-far : goal.decreases-loop-far
decreases-loop-far l = l.far
