-- What is known of a receive.
use Rattle.std.specs.Prelude.{ℕ}
use Rattle.socket_io.specs.declared.sockets.Received.{Received}
use Rattle.socket_io.specs.declared.sockets.Received.TheVariants.{Datagram, Nothing, Failed}

-- where a datagram came, this holds of its length
abbrev pub IfReceived : Received → (ℕ → Type 0) → Type 0
IfReceived (Datagram local len) P = P len
IfReceived Nothing P = Unit {0}
IfReceived Failed P = Unit {0}
