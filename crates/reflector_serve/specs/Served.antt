-- One run of the reflector, from the opening to the last join (this project's own).
use Rattle.std.specs.Prelude.{◌≡◌, ℕ, ◌+◌, List, [], ◌∷◌, ◌++◌, length, map, reverse, None}
use Rattle.refl_types.specs.declared.config.ConfigParts.{ConfigParts}
use Rattle.net_io.specs.Log.{Grows}
use Rattle.net_io.specs.Port.{PortEntry, read}
use Rattle.net_io.specs.Desk.{DeskEntry, opened, open_failed}
use Rattle.net_io.specs.DeskShown.{DeskShown}
use Rattle.port_io.specs.Outside.{Rises}
use Rattle.session_world.specs.declared.steps.Step.{Step}
use Rattle.session_world.specs.Desk.{config_at}
use Rattle.session_world.specs.Worker.{announced}
use Rattle.session_world.specs.Answers.{opened as opened_by}
use Rattle.session_world.specs.History.{Event}
use Rattle.session_world.specs.Joined.{OneHistory}
use Rattle.session_rule.specs.declared.seats.Table.{Table}
use Rattle.session_rule.specs.Seats.{size_of, joined_parts}
use Rattle.session_desk.specs.Book.{Book, steps_of}
use Rattle.session_desk.specs.Fits.{BookFits}
use Rattle.conf_text.specs.declared.sessions.Provided.{Provided}
use Rattle.conf_text.specs.File.{File}
use Rattle.file_opening.specs.Opening.{size_in, IsNewBook, OpensFile}
use Rattle.receive_worker.specs.declared.tally.Tally.{Tally}
use Rattle.receive_worker.specs.Faults.{RisesBy}
use Rattle.receive_worker.specs.Accounts.{Accounts}
use Rattle.receive_worker.specs.Work.{Round, HasWorked}
use Rattle.control_desk.specs.State.{setting_of, first_state}
use Rattle.control_desk.specs.Faults.{AreFaultsTold}
use Rattle.control_desk.specs.Run.{HasRun, HasGone}
use Rattle.reflector_serve.specs.Ports.{PortView}
use Rattle.reflector_serve.specs.Phases.{SplitsOff, JoinsAll}
use Rattle.reflector_serve.specs.Live.{AreBound}
use Rattle.control_desk.specs.declared.counts.DeskTally.{DeskTally}
use Rattle.reflector_serve.specs.declared.report.Report.{Report}

-- the opening of a session of the file
abbrev pub opening_event : Provided → Event ConfigParts
opening_event s = record { by = 0; answer = opened_by s.key s.extra s.config }

-- ---- ports

-- nothing was received or sent, and the log has just these entries more
pub record IsQuiet {P S : Type 0} (v : PortView P S) (told : List PortEntry) (p q : P) : Type 0 where
  pub log : Grows (v p).log (v q).log told
  pub coming : (v q).coming ≡ (v p).coming
  pub made : (v q).made ≡ (v p).made

-- the first port as one relation says, and all others as another
abbrev pub AllPorts : {P : Type 0} → (P → P → Type 0) → (P → P → Type 0) → List P → List P → Type 0
AllPorts First Rest [] qs = qs ≡ []
AllPorts First Rest (p ∷ ps) (q ∷ qs) = First p q × AllPorts Rest Rest ps qs
AllPorts First Rest (p ∷ ps) [] = ⊥

-- the first port told a moment, and nothing was received or sent at any
pub record AreQuiet {P S : Type 0} (v : PortView P S) (ps qs : List P) : Type 0 where
  pub moment : ℕ
  pub quiet : AllPorts (IsQuiet v (read moment ∷ [])) (IsQuiet v []) ps qs

-- A worker served at the port. At the opening the port told these entries and was bound to the file's local addresses. Then the
-- worker went through its rounds: its list of steps gave their answers, under these configurations, and the port's log tells them.
-- At the end its announcement names no slot
pub record IsServed {P S : Type 0} (v : PortView P S) (t : Table) (f : File) (config : ℕ → ConfigParts) (told : List PortEntry) (p q : P) (xs : List Step) (tally : Tally) : Type 0 where
  pub opened : P
  pub opening : IsQuiet v told p opened
  pub rounds : List Round
  pub worked : HasWorked config (size_of t) f.locals f.limit f.turns rounds [] xs (v opened).log (v q).log tally
  pub accounts : Accounts (size_of t).slots [] xs tally
  pub retired : announced xs ≡ None
  pub bound : (v q).bound ≡ f.locals
  pub made : (v q).made ≡ (v p).made
  pub faults : RisesBy (tally.recv_fault + tally.send_fault) (v p).faults (v q).faults

-- the workers served at the first ports, each in its place, with these lists of steps and these tallies; all other ports are as
-- they were
abbrev pub AllServed : {P S : Type 0} → PortView P S → Table → File → (ℕ → ConfigParts) → List PortEntry → List P → List P → List (List Step) → List Tally → Type 0
AllServed v t f config told ps qs [] [] = qs ≡ ps
AllServed v t f config told (p ∷ ps) (q ∷ qs) (xs ∷ lists) (y ∷ ys) = IsServed v t f config told p q xs y × AllServed v t f config [] ps qs lists ys
AllServed v t f config told ps qs lists ys = ⊥

-- ---- the desk

-- how desks of the type D show themselves
abbrev pub DeskView : Type 0 → Type 0 → Type 0
DeskView D S = D → DeskShown S

-- the desk failed to open, and nothing else happened at it
pub record HasNotOpened {D S : Type 0} (v : DeskView D S) (d e : D) : Type 0 where
  pub log : Grows (v d).log (v e).log (open_failed ∷ [])
  pub coming : (v e).coming ≡ (v d).coming
  pub made : (v e).made ≡ (v d).made
  pub faults : Rises (v d).faults (v e).faults

-- The desk was opened at the file's addresses for control connections and operators. Then it ran over the book, and its log tells it;
-- and by each call, whether its log tells it or not, it went on as a desk of its type goes on
pub record IsRun {D S : Type 0} (v : DeskView D S) (goes : D → DeskEntry → D → Type 0) (t : Table) (f : File) (d e : D) (b c : Book) (tally : DeskTally) : Type 0 where
  pub ready : D
  pub opening : Grows (v d).log (v ready).log (opened f.control f.operator ∷ [])
  pub opens : goes d (opened f.control f.operator) ready
  pub ran : HasRun t (setting_of f) f.turns (first_state f) (v ready).log (v e).log b c tally
  pub gone : HasGone goes t (setting_of f) f.turns (first_state f) ready e b c tally
  pub made : (v e).made ≡ (v d).made
  pub faults : AreFaultsTold (v d).faults (v e).faults tally.faults

-- ---- the whole

-- One legal history explains the schedule of all steps on one table, and has the answers of the desk and of all workers.
-- `new` to `joins`: all that the desk's seat did, from the first step to the last. The calls of the opening opened the file's
--   sessions at the moment that the first port told, and gave `twamp` its row; then the workers were split off, the desk ran,
--   and the workers were joined. Each call has the steps that it added, and they are those of the one schedule (`one`).
-- `fits`: each row stands for the configuration that a call of the book gave it, also in the history.
-- `begins`: the history begins with the openings of these sessions, in their order.
-- `ports`: each worker served at its port, and its answers are its events (`one`); there are as many workers as the file says.
-- `live`: as many keys are left bound as the report tells
pub record Served {P S D T : Type 0} (v : PortView P S) (w : DeskView D T) (goes : D → DeskEntry → D → Type 0) (f : File) (ps qs : List P) (d e : D) (report : Report) : Type 0 where
  pub table : Table
  pub size : size_of table ≡ size_in f
  pub moment : ℕ
  pub before : Book
  pub new : IsNewBook table f before
  pub at_first : Book
  pub opening : OpensFile table f moment before at_first
  pub at_split : Book
  pub splits : SplitsOff table f.workers at_first at_split
  pub at_end : Book
  pub desk : IsRun w goes table f d e at_split at_end report.desk
  pub joined : Book
  pub lists : List (List Step)
  pub workers : length lists ≡ f.workers
  pub joins : JoinsAll table 1 lists at_end joined
  pub fits : BookFits joined
  pub one : OneHistory (size_of table) (steps_of at_first) (steps_of joined) (joined_parts joined.seat) lists
  pub begins : (later : List (Event ConfigParts)) × (one.history ≡ later ++ map opening_event (reverse f.sessions))
  pub ports : AllServed v table f (config_at (steps_of joined)) (read moment ∷ []) ps qs lists report.workers.items
  pub live : AreBound one.history (map (λ s. s.key) joined.live)
  pub live_count : report.live ≡ length joined.live
