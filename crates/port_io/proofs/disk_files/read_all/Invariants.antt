use Rattle.std.proofs.Common.{◌≤◌, length}
use Rattle.port_io.proofs.disk_files.read_all.Given as goal

abbrev pub invariant-loop : goal.invariant-loop
invariant-loop g l = length l.all.items ≤ l.limit
