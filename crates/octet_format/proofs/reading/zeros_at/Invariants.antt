use Rattle.std.proofs.Common.{◌≡◌, ◌-◌}
use Rattle.octet_format.specs.Reading.{zeros_at}
use Rattle.octet_format.proofs.reading.zeros_at.Given as goal

abbrev pub invariant-loop : goal.invariant-loop
invariant-loop l = zeros_at (l.count - l.counter) l.rest ≡ zeros_at l.count l.octets
