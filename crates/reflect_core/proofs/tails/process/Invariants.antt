use Rattle.std.proofs.Common.{◌-◌, length}
use Rattle.reflect_core.specs.Tail.{processed_from}
use Rattle.reflect_core.proofs.Passes.{IsOver}
use Rattle.reflect_core.proofs.tails.process.Given as goal

abbrev pub invariant-loop-span : goal.invariant-loop-span
invariant-loop-span l = IsOver (processed_from l.config (record { n = l.fn.number; plan = l.fn.plan })) l.tail l.walk l.out

abbrev pub decreases-loop-span : goal.decreases-loop-span
decreases-loop-span l = length l.tail - l.walk.at
