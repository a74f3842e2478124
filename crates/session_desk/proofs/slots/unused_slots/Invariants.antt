use Rattle.session_desk.specs.Slots.{AreUnused}
use Rattle.session_desk.proofs.slots.unused_slots.Given as goal

abbrev pub invariant-loop-slot : goal.invariant-loop-slot
invariant-loop-slot l = AreUnused l.slots.items l.slot
