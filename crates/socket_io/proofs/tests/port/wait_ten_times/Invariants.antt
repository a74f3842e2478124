use Rattle.std.proofs.Common.{◌≡◌}
use Rattle.socket_io.proofs.tests.port.wait_ten_times.Given as goal

abbrev pub invariant-loop : goal.invariant-loop
invariant-loop g l = (g.P.Port.shown l.port).bound ≡ (g.P.Port.shown l.fn.port).bound
