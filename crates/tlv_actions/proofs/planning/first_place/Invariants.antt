use Rattle.std.proofs.Common.{◌-◌, length}
use Rattle.tlv_actions.proofs.Firsts.{IsBefore}
use Rattle.tlv_actions.proofs.planning.first_place.Given as goal

abbrev pub invariant-loop-span : goal.invariant-loop-span
invariant-loop-span l = IsBefore l.kind l.tail l.walk

abbrev pub decreases-loop-span : goal.decreases-loop-span
decreases-loop-span l = length l.tail - l.walk.at
