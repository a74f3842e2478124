-- What a desk gives, does and tells.
use Rattle.std.specs.Prelude.{◌≡◌, ℕ, List, [], take, Option, Result, Ok, Err}
use Rattle.refl_types.specs.declared.types.Endpoint.{Endpoint}
use Rattle.port_io.specs.declared.outside.Failed.{Failed}
use Rattle.net_io.specs.declared.desk.Timed.{Timed}
use Rattle.net_io.specs.declared.desk.DeskEvent.{DeskEvent}
use Rattle.net_io.specs.declared.desk.DeskEvent.TheVariants.{Opened, Bytes, Closed, Tick, End}
use Rattle.net_io.specs.Log.{TakesNext}

-- what a desk did: it was opened for control connections and operators, or that failed; it gave an event with its moment and
-- the octets that came with it, or that failed; octets were sent on a connection, or their sending failed; a connection was
-- hung up; the desk has ended
pub data DeskEntry : Type 0 where
  opened : Option Endpoint → Option Endpoint → DeskEntry
  open_failed : DeskEntry
  gave : Timed → List ℕ → DeskEntry
  next_failed : DeskEntry
  sent : ℕ → List ℕ → DeskEntry
  send_failed : ℕ → List ℕ → DeskEntry
  hung_up : ℕ → DeskEntry
  finished : DeskEntry

-- how many octets come with an event at the most
abbrev pub piece_limit : ℕ
piece_limit = 4096

-- how many octets come with an event
abbrev pub octet_count : DeskEvent → ℕ
octet_count (Opened conn kind peer local) = 0
octet_count (Bytes conn len) = len
octet_count (Closed conn) = 0
octet_count Tick = 0
octet_count End = 0

abbrev pub open_entry : Option Endpoint → Option Endpoint → Result (Unit {0}) Failed → DeskEntry
open_entry control operator (Ok u) = opened control operator
open_entry control operator (Err f) = open_failed

abbrev pub next_entry : List ℕ → Result Timed Failed → DeskEntry
next_entry buf (Ok t) = gave t (take (octet_count t.event) buf)
next_entry buf (Err f) = next_failed

abbrev pub send_entry : ℕ → List ℕ → Result (Unit {0}) Failed → DeskEntry
send_entry conn octets (Ok u) = sent conn octets
send_entry conn octets (Err f) = send_failed conn octets

-- the end, at some moment
abbrev pub IsEnd : DeskEntry → Type 0
IsEnd entry = (moment : ℕ) × (entry ≡ gave (record { moment = moment; event = End }) [])

-- the first of what is still to come was given, and an end where nothing is left; a call that failed took nothing
abbrev pub Gives : Option (List DeskEntry) → Option (List DeskEntry) → List ℕ → Result Timed Failed → Type 0
Gives coming coming' buf (Ok t) = TakesNext IsEnd coming coming' (next_entry buf (Ok t))
Gives coming coming' buf (Err f) = coming' ≡ coming
