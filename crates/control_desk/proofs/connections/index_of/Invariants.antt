use Rattle.std.proofs.Common.{◌≡◌, drop}
use Rattle.control_desk.specs.Connections.{index_from}
use Rattle.control_desk.proofs.connections.index_of.Given as goal

abbrev pub invariant-loop-i : goal.invariant-loop-i
invariant-loop-i l = index_from l.i (drop l.i l.connections) l.number ≡ index_from 0 l.connections l.number
