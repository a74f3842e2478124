-- A desk in memory that joins one client to a server (this project's own): what it holds, what it gives next, and what each call
-- leaves.
use Rattle.std.specs.Prelude.{◌≡◌, ℕ, ◌^◌, min, Bool, true, false, ◌==◌, if◌then◌else◌, List, [], ◌∷◌, ◌++◌, length, take, drop, map, Option, option_map}
use Rattle.refl_types.specs.declared.types.Address.{Address}
use Rattle.refl_types.specs.declared.types.Address.TheVariants.{V4}
use Rattle.control_msgs.specs.Layout.{stop_sessions}
use Rattle.net_io.specs.declared.desk.ConnKind.TheVariants as kinds
use Rattle.net_io.specs.declared.desk.DeskEvent.{DeskEvent}
use Rattle.net_io.specs.declared.desk.DeskEvent.TheVariants.{Opened, Bytes, Tick, End}
use Rattle.net_io.specs.declared.desk.Timed.{Timed}
use Rattle.net_io.specs.declared.script_desk.DeskDeed.{DeskDeed}
use Rattle.net_io.specs.declared.script_desk.DeskDeed.TheVariants as deed
use Rattle.net_io.specs.Log.{LogState, noted}
use Rattle.net_io.specs.Desk.{DeskEntry, opened, gave, sent, hung_up, finished}
use Rattle.net_io.specs.ScriptDesk.{desk_entry}
use Rattle.twamp_client.specs.declared.types.ClientState.{ClientState}
use Rattle.twamp_client.specs.declared.types.ClientState.TheVariants as state
use Rattle.twamp_client.specs.Client.{ControlClient, at_state, granted}
use Rattle.twamp_client.specs.Hearing.{client_after, written_by}
use Rattle.joined_desk.specs.declared.setup.JoinSetup.{JoinSetup}
use Rattle.joined_desk.specs.declared.setup.JoinStage.{JoinStage}
use Rattle.joined_desk.specs.declared.setup.JoinStage.TheVariants.{Unopened, Carrying, HungUp, Over}

pub record JoinState : Type 0 where
  -- what it was made with
  pub setup : JoinSetup
  -- the client as it stands now
  pub client : ControlClient
  -- the octets that the client has written, and that weren't given yet
  pub pending : List ℕ
  pub stage : JoinStage
  pub log : LogState DeskDeed

-- its log, where it is told
abbrev pub told_log : JoinState → Option (List DeskEntry)
told_log s = option_map (map desk_entry) s.log.told

-- the number of its connection
abbrev pub connection : ℕ
connection = 0

-- from where it comes
abbrev pub peer : Address
peer = V4 (192 ∷ 0 ∷ 2 ∷ 1 ∷ [])

-- ---- what it gives next

abbrev pub tick_moment : ℕ
tick_moment = 2 ^ 63

abbrev pub at_moment : ℕ → DeskEvent → Timed
at_moment moment event = record { moment = moment; event = event }

-- a piece of what the client has written, and a Tick where it has written nothing more
abbrev pub carried : ℕ → List ℕ → Timed
carried piece [] = at_moment tick_moment Tick
carried piece (b ∷ octets) = at_moment 0 (Bytes connection (min piece (length (b ∷ octets))))

abbrev pub given_in : JoinStage → JoinSetup → (pending : List ℕ) → Timed
given_in Unopened setup pending = at_moment 0 (Opened connection kinds.Control peer setup.local)
given_in Carrying setup pending = carried setup.piece pending
given_in HungUp setup pending = at_moment tick_moment Tick
given_in Over setup pending = at_moment 0 End

-- the octets that come with it
abbrev pub octets_in : JoinStage → JoinSetup → (pending : List ℕ) → List ℕ
octets_in Carrying setup pending = take setup.piece pending
octets_in Unopened setup pending = []
octets_in HungUp setup pending = []
octets_in Over setup pending = []

abbrev pub given : JoinState → Timed
given s = given_in s.stage s.setup s.pending

abbrev pub octets_given : JoinState → List ℕ
octets_given s = octets_in s.stage s.setup s.pending

-- ---- what each call leaves

abbrev pub stage_behind : JoinStage → List ℕ → JoinStage
stage_behind Unopened pending = Carrying
stage_behind Carrying [] = Over
stage_behind Carrying (b ∷ pending) = Carrying
stage_behind HungUp pending = Over
stage_behind Over pending = Over

-- what is still pending behind an event
abbrev pub pending_behind : JoinStage → JoinSetup → List ℕ → List ℕ
pending_behind Carrying setup pending = drop setup.piece pending
pending_behind Unopened setup pending = pending
pending_behind HungUp setup pending = pending
pending_behind Over setup pending = pending

abbrev pub after_next : JoinState → JoinState
after_next s = record s {
  stage = stage_behind s.stage s.pending;
  pending = pending_behind s.stage s.setup s.pending;
  log = noted s.log (deed.Gave (given s)) (octets_given s);
}

-- a client that was started is stopped at once
abbrev pub stopped_in : ClientState → ControlClient → ControlClient
stopped_in state.Started c = at_state c state.Stopped
stopped_in _ c = c

abbrev pub stop_in : ClientState → ControlClient → List ℕ
stop_in state.Started c = stop_sessions (length (granted c))
stop_in _ c = []

abbrev pub client_told : ControlClient → List ℕ → ControlClient
client_told c octets = let d = client_after c octets in stopped_in d.state d

abbrev pub written_then : ControlClient → List ℕ → List ℕ
written_then c octets = let d = client_after c octets in written_by c octets ++ stop_in d.state d

-- the connection is open, and a call names it
abbrev pub reaches : ℕ → JoinStage → Bool
reaches n Carrying = n == connection
reaches n Unopened = false
reaches n HungUp = false
reaches n Over = false

-- what octets do to the client, and what it has written then, where they reach it or don't
abbrev pub client_then : Bool → ControlClient → List ℕ → ControlClient
client_then true c octets = client_told c octets
client_then false c octets = c

abbrev pub written_if : Bool → ControlClient → List ℕ → List ℕ
written_if true c octets = written_then c octets
written_if false c octets = []

abbrev pub with_deed : JoinState → DeskDeed → List ℕ → JoinState
with_deed s d octets = record s { log = noted s.log d octets }

abbrev pub after_send : JoinState → ℕ → List ℕ → JoinState
after_send s n octets = record s {
  client = client_then (reaches n s.stage) s.client octets;
  pending = s.pending ++ written_if (reaches n s.stage) s.client octets;
  log = noted s.log (deed.Sent n) octets;
}

abbrev pub stage_hung_up : ℕ → JoinStage → JoinStage
stage_hung_up n stage = if reaches n stage then HungUp else stage

abbrev pub after_hang_up : JoinState → ℕ → JoinState
after_hang_up s n = record s { stage = stage_hung_up n s.stage; log = noted s.log (deed.HungUp n) [] }

-- how it goes on by an entry; it never fails
abbrev pub JoinGoes : JoinState → DeskEntry → JoinState → Type 0
JoinGoes s (opened control operator) s' = s' ≡ with_deed s (deed.Opened control operator) []
JoinGoes s (gave t octets) s' = (t ≡ given s) × (octets ≡ octets_given s) × (s' ≡ after_next s)
JoinGoes s (sent n octets) s' = s' ≡ after_send s n octets
JoinGoes s (hung_up n) s' = s' ≡ after_hang_up s n
JoinGoes s finished s' = s' ≡ with_deed s deed.Finished []
JoinGoes s _ s' = ⊥

-- ---- at first

abbrev pub entry_room : ℕ
entry_room = 4096

abbrev pub octet_room : ℕ
octet_room = 1048576
