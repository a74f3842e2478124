use Rattle.std.proofs.Common.{◌-◌, length}
use Rattle.tlv_integrity.proofs.Loops.{IsAhead}
use Rattle.tlv_integrity.proofs.heads.first_hmac.Given as goal

abbrev pub invariant-loop-span : goal.invariant-loop-span
invariant-loop-span l = IsAhead l.tail l.walk

abbrev pub decreases-loop-span : goal.decreases-loop-span
decreases-loop-span l = length l.tail - l.walk.at
