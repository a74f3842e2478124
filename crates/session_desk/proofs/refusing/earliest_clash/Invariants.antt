use Rattle.std.proofs.Common.{◌≡◌, map, drop}
use Rattle.std.specs.List.{find}
use Rattle.session_desk.specs.Sessions.{has_mode_clash}
use Rattle.session_desk.specs.Slots.{key_in}
use Rattle.session_desk.proofs.refusing.earliest_clash.Given as goal

abbrev pub invariant-loop-at : goal.invariant-loop-at
invariant-loop-at l = find (λ j. has_mode_clash j l.key) (map (key_in l.slots) l.order) ≡ find (λ j. has_mode_clash j l.key) (map (key_in l.slots) (drop l.at-index l.order))
