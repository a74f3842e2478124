use Rattle.std.proofs.Common.{◌-◌, length}
use Rattle.tlv_integrity.proofs.Loops.{IsPadded}
use Rattle.tlv_integrity.proofs.heads.all_padding.Given as goal

abbrev pub invariant-loop-span : goal.invariant-loop-span
invariant-loop-span l = IsPadded l.octets l.walk

abbrev pub decreases-loop-span : goal.decreases-loop-span
decreases-loop-span l = length l.octets - l.walk.at
