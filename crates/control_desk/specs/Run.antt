-- The desk's events (this project's own), and a whole run of the desk.
use Rattle.std.specs.Prelude.{◌≡◌, ℕ, zero, suc, ◌+◌, ◌*◌, ◌^◌, Bool, true, false, ◌==◌, ◌&&◌, ◌||◌, not, nat_le, if◌then◌else◌, List, [], ◌∷◌, ◌++◌, length, Option, Some, None}
use Rattle.refl_types.specs.declared.types.Address.{Address}
use Rattle.control_msgs.specs.Layout.{greeting}
use Rattle.twamp_control.specs.declared.types.Stage.{Stage}
use Rattle.twamp_control.specs.declared.types.Stage.TheVariants.{SettingUp, Idle, Started, HungUp}
use Rattle.twamp_control.specs.Connection.{opened}
use Rattle.net_io.specs.declared.desk.ConnKind.{ConnKind}
use Rattle.net_io.specs.declared.desk.ConnKind.TheVariants as kinds
use Rattle.net_io.specs.declared.desk.DeskEvent.{DeskEvent}
use Rattle.net_io.specs.declared.desk.DeskEvent.TheVariants.{Opened, Bytes, Closed, Tick, End}
use Rattle.control_desk.specs.declared.counts.Counts.{Counts}
use Rattle.control_desk.specs.declared.counts.DeskTally.{DeskTally}
use Rattle.control_desk.specs.declared.counts.DeskEnd.TheVariants as ends
use Rattle.net_io.specs.Log.{Grows}
use Rattle.net_io.specs.Desk.{DeskEntry, finished}
use Rattle.session_rule.specs.declared.seats.Table.{Table}
use Rattle.session_desk.specs.Book.{Book}
use Rattle.control_desk.specs.declared.counts.Verdict.TheVariants.{GoesOn, Over, Quits}
use Rattle.control_desk.specs.declared.sides.ControlSide.{ControlSide}
use Rattle.control_desk.specs.declared.sides.OpenConnection.{OpenConnection}
use Rattle.control_desk.specs.declared.sides.Side.{Side}
use Rattle.control_desk.specs.declared.sides.Side.TheVariants.{Control, Operator}
use Rattle.control_desk.specs.Plan.{Plan, Act, hear, send, hang_up, tick, stop, Leads, entries_in, MakesAll, counts_after}
use Rattle.control_desk.specs.State.{Setting, DeskState, side_in, with_side, without, with_connection, at_connections}
use Rattle.control_desk.specs.Operator.{Next, operator_plan}
use Rattle.control_desk.specs.Control.{control_plan, hang_up_plan, end_all}

-- ---- connections that are opened

abbrev pub connection_limit : ℕ
connection_limit = 32

abbrev pub has : {A : Type 0} → Option A → Bool
has None = false
has (Some a) = true

abbrev pub is_refused : Setting → DeskState → ConnKind → Bool
is_refused f s kinds.Control = nat_le connection_limit (length s.connections) || not (has f.twamp)
is_refused f s kinds.Operator = nat_le connection_limit (length s.connections)

-- the moment of the desk's first event
abbrev pub start_of : Option ℕ → ℕ → ℕ
start_of None now = now
start_of (Some first) now = first

abbrev pub begun : DeskState → ℕ → DeskState
begun s now = record s { started = Some (start_of s.started now) }

abbrev pub control_side : DeskState → ℕ → Address → Address → ControlSide
control_side s now peer local = record { machine = opened (start_of s.started now); peer = peer; local = local; heard = now; sessions = [] }

-- the greeting is sent on a control connection; nothing is sent to an operator
abbrev pub greet : DeskState → ℕ → ℕ → Address → Address → (DeskState → Plan) → ConnKind → Plan
greet s n now peer local next kinds.Control = send n greeting (next (with_connection s n (Control (control_side s now peer local)))) (hang_up n (next s))
greet s n now peer local next kinds.Operator = next (with_connection s n (Operator []))

-- a number that is in use is ignored
abbrev pub opened_plan : Setting → DeskState → ℕ → ℕ → ConnKind → Address → Address → (DeskState → Plan) → Option Side → Plan
opened_plan f s n now kind peer local next (Some side) = next s
opened_plan f s n now kind peer local next None = if is_refused f s kind then hang_up n (next s) else greet s n now peer local next kind

-- ---- what connections say; an unknown number is ignored

abbrev pub bytes_plan : Setting → DeskState → ℕ → ℕ → List ℕ → Next → Option Side → Plan
bytes_plan f s n now octets next None = next GoesOn s
bytes_plan f s n now octets next (Some (Operator held)) = operator_plan f n now s next held octets
bytes_plan f s n now octets next (Some (Control c)) =
    control_plan f n now (λ d. next GoesOn (with_side s n (Control d))) (next Over (without s n)) c octets

abbrev pub closed_plan : DeskState → ℕ → (DeskState → Plan) → Option Side → Plan
closed_plan s n next None = next s
closed_plan s n next (Some (Operator held)) = next (without s n)
closed_plan s n next (Some (Control c)) = end_all c.machine.stage c.sessions (next (without s n))

-- ---- ticks

abbrev pub idle_limit : ℕ
idle_limit = 900 * 10 ^ 9

abbrev pub is_started : Stage → Bool
is_started Started = true
is_started SettingUp = false
is_started Idle = false
is_started HungUp = false

abbrev pub is_idle : ℕ → ControlSide → Bool
is_idle now c = not (is_started c.machine.stage) && nat_le (c.heard + idle_limit) now

abbrev pub is_idle_side : ℕ → Side → Bool
is_idle_side now (Operator held) = false
is_idle_side now (Control c) = is_idle now c

abbrev pub hang_up_side : ℕ → Side → Plan → Plan
hang_up_side n (Operator held) gone = hang_up n gone
hang_up_side n (Control c) gone = hang_up_plan n c.machine.stage c.sessions gone

-- Each control connection that has given no octet for so long, and isn't started, is hung up, in the order in which they were
-- opened. The others stay
unfoldable pub idle_plan : ℕ → (List OpenConnection → Plan) → List OpenConnection → List OpenConnection → Plan
idle_plan now next kept [] = next kept
idle_plan now next kept (c ∷ cs) =
    if is_idle_side now c.side then hang_up_side c.number c.side (idle_plan now next kept cs) else idle_plan now next (kept ++ c ∷ []) cs

-- ---- events

abbrev pub tick_plan : ℕ → (DeskState → Plan) → DeskState → Plan
tick_plan now next s = tick now (λ t. next s)

abbrev pub ticked_plan : ℕ → (DeskState → Plan) → DeskState → Plan
ticked_plan now next s = idle_plan now (λ cs. tick_plan now next (at_connections s cs)) [] s.connections

abbrev pub event_plan : Setting → DeskState → ℕ → List ℕ → Next → DeskEvent → Plan
event_plan f s now octets next (Opened n kind peer local) = opened_plan f s n now kind peer local (next GoesOn) (side_in s.connections n)
event_plan f s now octets next (Bytes n len) = bytes_plan f s n now octets next (side_in s.connections n)
event_plan f s now octets next (Closed n) = closed_plan s n (next GoesOn) (side_in s.connections n)
event_plan f s now octets next Tick = ticked_plan now (next GoesOn) s
event_plan f s now octets next End = stop ends.End

-- ---- a run

-- calls of `next` that fail in a row and end the desk
abbrev pub fault_limit : ℕ
fault_limit = 64

abbrev pub behind_event : (DeskState → Plan) → Next
behind_event more GoesOn s = more s
behind_event more Over s = more s
behind_event more Quits s = stop ends.Quit

-- no end but this one is due: a last call ends the desk by its budget
abbrev pub is_over : ℕ → ℕ → Bool
is_over left failed = not (left == 0) && nat_le fault_limit failed

-- With so many calls of `next` left, and so many that failed in a row
unfoldable pub desk_plan : Setting → ℕ → ℕ → DeskState → Plan
desk_plan f zero failed s = stop ends.Budget
desk_plan f (suc left) failed s = hear
    (λ t octets. event_plan f (begun s t.moment) t.moment octets (behind_event (desk_plan f left 0)) t.event)
    (if is_over left (failed + 1) then stop ends.Fault else desk_plan f left (failed + 1) s)

abbrev pub no_counts : Counts
no_counts = record { events = 0; faults = 0; closed = 0; expired = 0 }

abbrev pub counts_of : DeskTally → Counts
counts_of y = record { events = y.events; faults = y.faults; closed = y.closed; expired = y.expired }

-- The desk ran: there are acts for which its plan asks, one after the other, until it ends as the tally says. The log grew by
-- just their entries, and then tells that the desk has finished; the book went on by just their calls; the tally counts them
pub record HasRun (t : Table) (f : Setting) (turns : ℕ) (s : DeskState) (log log' : Option (List DeskEntry)) (book book' : Book) (tally : DeskTally) : Type 0 where
  pub acts : List Act
  pub leads : Leads (desk_plan f turns 0 s) acts (stop tally.end)
  pub written : Grows log log' (entries_in acts ++ finished ∷ [])
  pub made : MakesAll t acts book book'
  pub counted : counts_of tally ≡ counts_after no_counts acts

-- a desk goes on by these entries, one after the other
abbrev pub GoesAll : {D : Type 0} → (D → DeskEntry → D → Type 0) → List DeskEntry → D → D → Type 0
GoesAll goes [] d d' = d' ≡ d
GoesAll {D} goes (e ∷ entries) d d' = (m : D) × goes d e m × GoesAll goes entries m d'

-- The same of a desk that tells how it goes on, also where it tells no log: it went on by just the entries of these acts
pub record HasGone {D : Type 0} (goes : D → DeskEntry → D → Type 0) (t : Table) (f : Setting) (turns : ℕ) (s : DeskState) (d d' : D) (book book' : Book) (tally : DeskTally) : Type 0 where
  pub acts : List Act
  pub leads : Leads (desk_plan f turns 0 s) acts (stop tally.end)
  pub gone : GoesAll goes (entries_in acts ++ finished ∷ []) d d'
  pub made : MakesAll t acts book book'
  pub counted : counts_of tally ≡ counts_after no_counts acts
