-- What a port gives, does and tells.
use Rattle.std.specs.Prelude.{◌≡◌, ℕ, List, take, Option, Result, Ok, Err}
use Rattle.refl_types.specs.declared.types.Endpoint.{Endpoint}
use Rattle.refl_types.specs.declared.types.Meta.{Meta}
use Rattle.port_io.specs.declared.outside.Failed.{Failed}
use Rattle.net_io.specs.declared.port.Got.{Got}
use Rattle.net_io.specs.declared.port.Got.TheVariants.{Datagram, Nothing, End}
use Rattle.net_io.specs.Log.{TakesNext}

-- what a port did: it gave a datagram with its octets, nothing, or its end; a receive failed; a moment was read; octets were
-- sent from a local address to an endpoint, or their sending failed; its worker has ended
pub data PortEntry : Type 0 where
  took : Meta → List ℕ → PortEntry
  quiet : PortEntry
  ended : PortEntry
  recv_failed : PortEntry
  read : ℕ → PortEntry
  sent : ℕ → Endpoint → List ℕ → PortEntry
  send_failed : ℕ → Endpoint → List ℕ → PortEntry
  done : PortEntry

-- how many octets a datagram has
abbrev pub datagram_len : Got → ℕ
datagram_len (Datagram meta) = meta.len
datagram_len Nothing = 0
datagram_len End = 0

-- what a receive gave, with a datagram's octets at the front of a buffer
abbrev pub got_entry : List ℕ → Got → PortEntry
got_entry buf (Datagram meta) = took meta (take meta.len buf)
got_entry buf Nothing = quiet
got_entry buf End = ended

abbrev pub recv_entry : List ℕ → Result Got Failed → PortEntry
recv_entry buf (Ok got) = got_entry buf got
recv_entry buf (Err f) = recv_failed

abbrev pub send_entry : ℕ → Endpoint → List ℕ → Result (Unit {0}) Failed → PortEntry
send_entry from to octets (Ok u) = sent from to octets
send_entry from to octets (Err f) = send_failed from to octets

-- a receive gave the first of what is still to come, and its end where nothing is left; one that failed took nothing
abbrev pub Receives : Option (List PortEntry) → Option (List PortEntry) → List ℕ → Result Got Failed → Type 0
Receives coming coming' buf (Ok got) = TakesNext (λ entry. entry ≡ ended) coming coming' (got_entry buf got)
Receives coming coming' buf (Err f) = coming' ≡ coming
