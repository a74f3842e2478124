use Rattle.std.proofs.Common.{◌≡◌, take}
use Rattle.session_key.specs.Placing.{fnv_from}
use Rattle.session_key.proofs.placing.fnv_from.Given as goal

abbrev pub invariant-loop-octet : goal.invariant-loop-octet
invariant-loop-octet l = l.hash ≡ fnv_from l.start (take l.octet-index l.octets)
