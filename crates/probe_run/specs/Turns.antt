-- A session sender at a port, turn by turn (this project's own). Turns stand in the order of time.
use Rattle.std.specs.Prelude.{◌≡◌, ◌≢◌, ℕ, List, [], ◌∷◌, ◌++◌, length}
use Rattle.refl_types.specs.declared.types.Endpoint.{Endpoint}
use Rattle.refl_types.specs.declared.types.Meta.{Meta}
use Rattle.net_io.specs.Port as log
use Rattle.net_io.specs.Port.{PortEntry, took, quiet, ended, recv_failed, read, send_failed}
use Rattle.sender_core.specs.declared.types.SendPlan.{SendPlan}
use Rattle.sender_core.specs.declared.types.Due.{Due}
use Rattle.sender_core.specs.declared.types.Due.TheVariants.{Send, Later, Finished}
use Rattle.sender_core.specs.Deeds.{Deed, sending, arrival, sendings}
use Rattle.sender_core.specs.Sending.{due_at, request_octets}

-- what became of the request of a turn: none was due, it was sent, or its sending failed
pub data Outgoing : Type 0 where
  none : Outgoing
  sent : Outgoing
  lost : Outgoing

-- what the call of `recv` gave: nothing for now, the end, a failure, a datagram of the peer, or one of another
pub data Incoming : Type 0 where
  idle : Incoming
  over : Incoming
  failed : Incoming
  reply : Meta → List ℕ → Incoming
  foreign : Meta → List ℕ → Incoming

-- the moment that was read, and what was sent and received then
pub record Turn : Type 0 where
  pub moment : ℕ
  pub outgoing : Outgoing
  pub incoming : Incoming

-- ---- turns as the port's log has them

abbrev pub outgoing_entries : Endpoint → List ℕ → Outgoing → List PortEntry
outgoing_entries peer octets none = []
outgoing_entries peer octets sent = log.sent 0 peer octets ∷ []
outgoing_entries peer octets lost = send_failed 0 peer octets ∷ []

abbrev pub incoming_entry : Incoming → PortEntry
incoming_entry idle = quiet
incoming_entry over = ended
incoming_entry failed = recv_failed
incoming_entry (reply meta octets) = took meta octets
incoming_entry (foreign meta octets) = took meta octets

-- after these deeds of the sender
abbrev pub exchange : ℕ → Endpoint → List Deed → ℕ → Outgoing → Incoming → List PortEntry
exchange ssid peer ds moment outgoing incoming = outgoing_entries peer (request_octets ssid (length (sendings ds)) moment) outgoing ++ incoming_entry incoming ∷ []

abbrev pub entries_of : ℕ → Endpoint → List Deed → Turn → List PortEntry
entries_of ssid peer ds t = read t.moment ∷ [] ++ exchange ssid peer ds t.moment t.outgoing t.incoming

-- ---- turns as the sender has them: a request whose sending failed is sent all the same

abbrev pub sent_then : Outgoing → ℕ → List Deed → List Deed
sent_then none moment ds = ds
sent_then sent moment ds = sending moment ∷ ds
sent_then lost moment ds = sending moment ∷ ds

abbrev pub got_then : Incoming → List Deed → List Deed
got_then idle ds = ds
got_then over ds = ds
got_then failed ds = ds
got_then (reply meta octets) ds = arrival octets meta.arrival ∷ ds
got_then (foreign meta octets) ds = ds

abbrev pub deeds_after : List Deed → Turn → List Deed
deeds_after ds t = got_then t.incoming (sent_then t.outgoing t.moment ds)

-- ---- what a turn is

-- a request is sent exactly where one is due, and nothing is finished
abbrev pub Fits : Due → Outgoing → Type 0
Fits (Send sequence) none = ⊥
Fits (Send sequence) sent = Unit {0}
Fits (Send sequence) lost = Unit {0}
Fits Later none = Unit {0}
Fits Later sent = ⊥
Fits Later lost = ⊥
Fits Finished outgoing = ⊥

-- a datagram is of the peer exactly where its endpoint is the peer's
abbrev pub IsFrom : Endpoint → Incoming → Type 0
IsFrom peer idle = Unit {0}
IsFrom peer over = Unit {0}
IsFrom peer failed = Unit {0}
IsFrom peer (reply meta octets) = meta.peer ≡ peer
IsFrom peer (foreign meta octets) = meta.peer ≢ peer

pub record IsTurn (plan : SendPlan) (start : ℕ) (peer : Endpoint) (ds : List Deed) (t : Turn) : Type 0 where
  pub fits : Fits (due_at plan start (sendings ds) t.moment) t.outgoing
  pub from : IsFrom peer t.incoming

-- ---- all turns, after these deeds

abbrev pub AreTurns : SendPlan → ℕ → Endpoint → List Deed → List Turn → Type 0
AreTurns plan start peer ds [] = Unit {0}
AreTurns plan start peer ds (t ∷ ts) = IsTurn plan start peer ds t × AreTurns plan start peer (deeds_after ds t) ts

abbrev pub all_deeds : List Deed → List Turn → List Deed
all_deeds ds [] = ds
all_deeds ds (t ∷ ts) = all_deeds (deeds_after ds t) ts

abbrev pub all_entries : ℕ → Endpoint → List Deed → List Turn → List PortEntry
all_entries ssid peer ds [] = []
all_entries ssid peer ds (t ∷ ts) = entries_of ssid peer ds t ++ all_entries ssid peer (deeds_after ds t) ts
