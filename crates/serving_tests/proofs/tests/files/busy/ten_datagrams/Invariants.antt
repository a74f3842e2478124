use Rattle.std.proofs.Common.{All}
use Rattle.net_io.specs.ScriptPort.{IsWhole}
use Rattle.serving_tests.proofs.tests.files.busy.ten_datagrams.Given as goal

-- all that the script has so far is whole
abbrev pub invariant-loop-place : goal.invariant-loop-place
invariant-loop-place g l = All IsWhole l.items.items
