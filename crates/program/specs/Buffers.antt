-- What is due of a replay.
use Rattle.std.specs.Prelude.{ℕ, List, take}
use Rattle.program.specs.declared.outbox.Outbox.{Outbox}

-- octets that are not written yet
abbrev pub due : Outbox → List ℕ
due o = take o.used o.octets.items
