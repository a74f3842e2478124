-- What a worker's buffers hold.
use Rattle.std.specs.Prelude.{ℕ, List}
use Rattle.session_table.specs.Knowing.{Places}
use Rattle.receive_worker.specs.declared.buffers.Buffers.{Buffers}

-- the octets at whose front a datagram stands that was received
abbrev pub received : Buffers → List ℕ
received b = b.input.items

-- the rows that are kept
abbrev pub kept_rows : Buffers → Places
kept_rows b = b.known
