-- The sessions that a desk's run has started, and what a joined client holds of them.
use Rattle.std.specs.Prelude.{◌≡◌, ◌⊎◌, ℕ, ◌<◌, true, false, if◌then◌else◌, List, [], ◌∷◌, length, map, slice_get, Option, Some, None, Ok}
use Rattle.refl_types.specs.declared.types.Endpoint.{Endpoint}
use Rattle.refl_types.specs.declared.types.Key.{Key}
use Rattle.refl_types.specs.declared.outcome.Place.{Place}
use Rattle.session_desk.specs.Makes.{reserves, starts}
use Rattle.twamp_control.specs.Table.{session_id}
use Rattle.twamp_client.specs.declared.types.Grant.{Grant}
use Rattle.twamp_client.specs.declared.types.Grant.TheVariants.{Granted, Waiting}
use Rattle.twamp_client.specs.declared.types.ClientState.TheVariants.{Stopped, NoSession}
use Rattle.twamp_client.specs.Client.{ControlClient, grant_at, granted, is_answer}
use Rattle.control_desk.specs.Control.{same_place}
use Rattle.control_desk.specs.Plan.{Act, called}
use Rattle.control_desk.specs.State.{Setting, DeskState, side_in}
use Rattle.control_desk.specs.Run.{is_refused}
use Rattle.net_io.specs.declared.desk.ConnKind.TheVariants as kinds

-- a session that was reserved
pub record ReservedSession : Type 0 where
  pub place : Place
  pub key : Key

-- a session that was started, with its key, where these acts have reserved it
pub record StartedSession : Type 0 where
  pub place : Place
  pub key : Option Key
  pub moment : ℕ

-- the key of the session that was reserved last at a place
abbrev pub key_at : List ReservedSession → Place → Option Key
key_at [] p = None
key_at (r ∷ rs) p = if same_place r.place p then Some r.key else key_at rs p

-- the sessions that these acts have started, in their order, where these were reserved before, the latest first
abbrev pub started_from : List ReservedSession → List Act → List StartedSession
started_from rs [] = []
started_from rs (called (reserves k x c wait (Ok p)) ∷ acts) = started_from (record { place = p; key = k } ∷ rs) acts
started_from rs (called (starts p now (Ok u)) ∷ acts) = record { place = p; key = key_at rs p; moment = now } ∷ started_from rs acts
started_from rs (a ∷ acts) = started_from rs acts

abbrev pub started_in : List Act → List StartedSession
started_in acts = started_from [] acts

-- the port of a local
abbrev pub port_of : Option Endpoint → ℕ
port_of None = 0
port_of (Some l) = l.port

-- what a client is told of a session that was started: its port, and its slot, generation and moment; of one that these acts
-- haven't reserved it is told nothing
abbrev pub grant_of_key : List Endpoint → List ℕ → Option Key → Grant
grant_of_key locals sid None = Waiting
grant_of_key locals sid (Some k) = Granted (port_of (slice_get locals k.local)) sid

abbrev pub grant_for : Setting → StartedSession → Grant
grant_for f s = grant_of_key f.locals (session_id s.place s.moment) s.key

-- The wishes that were granted are, in order, just the sessions that these acts have started
abbrev pub AreStarted : Setting → List Act → ControlClient → Type 0
AreStarted f acts c = granted c ≡ map (grant_for f) (started_in acts)

-- a client that has come to its end: each wish has its answer
pub record IsDone (c : ControlClient) : Type 0 where
  pub state : (c.state ≡ Stopped) ⊎ (c.state ≡ NoSession)
  pub answered : (i : ℕ) → i < length c.wishes → (g : Grant) × (grant_at c i ≡ Some g) × (is_answer g ≡ true)

-- the desk has a configuration for negotiated sessions, and room for a connection of this number
pub record IsReady (f : Setting) (s : DeskState) : Type 0 where
  pub refused : is_refused f s kinds.Control ≡ false
  pub new : side_in s.connections 0 ≡ None

-- A client was joined to a desk: its wishes are what they were, those that were granted are the sessions that these acts have
-- started, and where the desk was ready, each wish has its answer
pub record HasJoined (f : Setting) (s : DeskState) (acts : List Act) (before after : ControlClient) : Type 0 where
  pub started : AreStarted f acts after
  pub wishes : after.wishes ≡ before.wishes
  pub done : IsReady f s → IsDone after
