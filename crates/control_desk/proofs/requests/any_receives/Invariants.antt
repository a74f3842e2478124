use Rattle.std.proofs.Common.{◌≡◌, drop}
use Rattle.std.specs.List.{list_any}
use Rattle.control_desk.specs.Control.{receives}
use Rattle.control_desk.proofs.requests.any_receives.Given as goal

abbrev pub invariant-loop-local : goal.invariant-loop-local
invariant-loop-local l = list_any (receives l.v6 l.to) (drop l.local-index l.locals) ≡ list_any (receives l.v6 l.to) l.locals
