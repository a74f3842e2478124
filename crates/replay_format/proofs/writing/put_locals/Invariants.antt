use Rattle.std.proofs.Common.{◌+◌, ◌*◌, ◌++◌, take}
use Rattle.std.specs.List.{flat_map}
use Rattle.refl_types.specs.Spelling.{endpoint_octets}
use Rattle.octet_format.proofs.Fields.{Has}
use Rattle.replay_format.proofs.writing.put_locals.Given as goal

abbrev pub invariant-loop-i : goal.invariant-loop-i
invariant-loop-i l = Has (take l.at l.initial.out ++ flat_map endpoint_octets (take l.i l.locals)) l.initial.out l.out (l.at + 19 * l.i)
