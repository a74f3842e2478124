use Rattle.std.proofs.Common.{◌-◌, length}
use Rattle.reflect_core.proofs.Passes.{IsUnderWay, failed_from}
use Rattle.reflect_core.proofs.tails.flag_all.Given as goal

abbrev pub invariant-loop-span : goal.invariant-loop-span
invariant-loop-span l = IsUnderWay failed_from l.tail l.walk l.out

abbrev pub decreases-loop-span : goal.decreases-loop-span
decreases-loop-span l = length l.tail - l.walk.at
