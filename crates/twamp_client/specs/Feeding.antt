-- What one call of feed does with a piece of the server's octets.
use Rattle.std.specs.Prelude.{ℕ, ◌-◌, min, ◌==◌, List, [], ◌++◌, length, take, drop, if◌then◌else◌}
use Rattle.twamp_client.specs.Client.{ControlClient, Said, awaited, told}

-- how many octets the message that is awaited still lacks
abbrev pub wanted : ControlClient → ℕ
wanted c = awaited c.state - length c.held

-- octets are taken up to the end of one message
abbrev pub taken : ControlClient → List ℕ → ℕ
taken c piece = min (length piece) (wanted c)

abbrev pub holding : ControlClient → List ℕ → Said
holding c octets = record { client = record c { held = octets }; message = [] }

-- with these octets of a message, which may be all of them
abbrev pub with_octets : ControlClient → List ℕ → Said
with_octets c octets = if length octets == awaited c.state then told c octets else holding c octets

abbrev pub fed : ControlClient → List ℕ → Said
fed c piece = with_octets c (c.held ++ take (taken c piece) piece)

-- a message at the front, and then what was there
abbrev pub written_over : List ℕ → List ℕ → List ℕ
written_over old message = message ++ drop (length message) old
