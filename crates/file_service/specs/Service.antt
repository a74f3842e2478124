-- What serving by a file comes to: what was served, and what was written (this project's own).
use Rattle.std.specs.Prelude.{◌≡◌, ◌⊎◌, ℕ, ◌<◌, ◌≤◌, List, length, slice_index_or, Option, codes}
use Rattle.std.specs.Io.KnownBytes.{Appends}
use Rattle.port_io.specs.Outside.{counted, Rises, AppendsPart}
use Rattle.port_io.specs.SinkShown.{SinkShown}
use Rattle.port_io.specs.Files as port
use Rattle.net_io.specs.Desk.{DeskEntry}
use Rattle.conf_text.specs.Faults.{Limit}
use Rattle.conf_text.specs.File.{File}
use Rattle.conf_check.specs.Lines.{fault_line}
use Rattle.conf_check.specs.Loading.{IsAccepted}
use Rattle.conf_check.specs.Writing.{WritesLine, WritesNothing}
use Rattle.conf_check.specs.Checking.{WasFaulty, WasNotLoaded}
use Rattle.reflector_serve.specs.Ports.{PortView, OneFails}
use Rattle.reflector_serve.specs.Served.{DeskView, AreQuiet, HasNotOpened, Served}
use Rattle.reflector_serve.specs.declared.report.Report.{Report}
use Rattle.file_service.specs.Ends.{run_end, report_text, port_line, desk_line, TellsEnd}

-- a count of failures has risen, or stands at its last value or behind it
abbrev pub HasRisen : ℕ → ℕ → Type 0
HasRisen old new = counted old ≤ new

-- a port's count of failures has risen
pub record OneHasFailed {P S : Type 0} (v : PortView P S) (ps qs : List P) : Type 0 where
  pub place : ℕ
  pub inside : place < length ps
  pub risen : (d : P) → HasRisen (v (slice_index_or ps place d)).faults (v (slice_index_or qs place d)).faults

-- the report was written whole, and then its end was told, with this status
pub record WritesReport (report : Report) (status : ℕ) (old new : SinkShown) : Type 0 where
  pub reported : SinkShown
  pub whole : Appends old.written reported.written (report_text report)
  pub still : reported.faults ≡ old.faults
  pub end : TellsEnd (run_end report) status reported new

-- 0, 9, 10, 11: the reflector served by a file, and the report was written, with the status and the line of its end
abbrev pub HasServed : {P S D T : Type 0} → PortView P S → DeskView D T → (D → DeskEntry → D → Type 0) → File → List P → List P → D → D → ℕ → SinkShown → SinkShown → Type 0
HasServed v w goes f ps qs d e status old new =
    (report : Report) × Served v w goes f ps qs d e report × WritesReport report status old new

-- 8: the reflector served by a file, and a part of the report was written, from its front on, since a write failed
abbrev pub HasLostReport : {P S D T : Type 0} → PortView P S → DeskView D T → (D → DeskEntry → D → Type 0) → File → List P → List P → D → D → SinkShown → SinkShown → Type 0
HasLostReport v w goes f ps qs d e old new =
    (report : Report) × Served v w goes f ps qs d e report × AppendsPart old.written new.written (report_text report) × Rises old.faults new.faults

-- 4: the reflector served by a file, and there was no memory for the report
abbrev pub HasNoReport : {P S D T : Type 0} → PortView P S → DeskView D T → (D → DeskEntry → D → Type 0) → File → List P → List P → D → D → Type 0
HasNoReport v w goes f ps qs d e = (report : Report) × Served v w goes f ps qs d e report

-- 9: a port failed to open, which was told; nothing was received or sent
pub record HasClosedPort {P S D : Type 0} (v : PortView P S) (ps qs : List P) (d e : D) (old new : SinkShown) : Type 0 where
  pub quiet : AreQuiet v ps qs
  pub fails : OneFails v ps qs
  pub desk : e ≡ d
  pub told : WritesLine port_line old new

-- 10: the desk failed to open, which was told; nothing was received or sent
pub record HasClosedDesk {P S D T : Type 0} (v : PortView P S) (w : DeskView D T) (ps qs : List P) (d e : D) (old new : SinkShown) : Type 0 where
  pub quiet : AreQuiet v ps qs
  pub desk : HasNotOpened w d e
  pub told : WritesLine desk_line old new

-- the file of the name wasn't taken, with this status: its text has a fault, there was no memory, or it wasn't loaded
abbrev pub WasNotTaken : Option (List port.File) → List ℕ → ℕ → ℕ → SinkShown → SinkShown → ℕ → Type 0
WasNotTaken files name failed failed' old new status =
    ((status ≡ 3) × WasFaulty files name old new × (failed' ≡ failed))
    ⊎ ((status ≡ 4) × WritesNothing old new × (failed' ≡ failed))
    ⊎ ((status ≡ 5) × WasNotLoaded files name failed failed' old new)

-- there are fewer ports than the file has workers, which is told, unless there is no memory for it
abbrev pub HasTooFewPorts : File → ℕ → SinkShown → SinkShown → ℕ → Type 0
HasTooFewPorts f count old new status = (count < f.workers)
    × (((status ≡ 3) × WritesLine (fault_line (Limit (codes "workers"))) old new) ⊎ ((status ≡ 4) × WritesNothing old new))

-- serving by a file that was taken ended with this status
abbrev pub ServeEnds : {P S D T : Type 0} → PortView P S → DeskView D T → (D → DeskEntry → D → Type 0)
    → File → List P → List P → D → D → SinkShown → SinkShown → ℕ → Type 0
ServeEnds v w goes f ps qs d e old new status =
    ((status ≡ 0) × HasServed v w goes f ps qs d e status old new)
    ⊎ ((status ≡ 4) × WritesNothing old new × (((qs ≡ ps) × (e ≡ d)) ⊎ HasNoReport v w goes f ps qs d e))
    ⊎ ((status ≡ 8) × HasLostReport v w goes f ps qs d e old new)
    ⊎ ((status ≡ 9) × (HasClosedPort v ps qs d e old new ⊎ HasServed v w goes f ps qs d e status old new) × OneHasFailed v ps qs)
    ⊎ ((status ≡ 10) × (HasClosedDesk v w ps qs d e old new ⊎ HasServed v w goes f ps qs d e status old new) × HasRisen (w d).faults (w e).faults)
    ⊎ ((status ≡ 11) × HasServed v w goes f ps qs d e status old new)

-- the file of the name wasn't taken; or it was, and has more workers than there are ports, or was served by
abbrev pub RunEnds : {P S D T : Type 0} → PortView P S → DeskView D T → (D → DeskEntry → D → Type 0)
    → Option (List port.File) → List ℕ → ℕ → ℕ → List P → List P → D → D → SinkShown → SinkShown → ℕ → Type 0
RunEnds v w goes files name failed failed' ps qs d e old new status =
    (WasNotTaken files name failed failed' old new status × (qs ≡ ps) × (e ≡ d))
    ⊎ ((f : File) × IsAccepted files name f × (failed' ≡ failed)
    × ((HasTooFewPorts f (length ps) old new status × (qs ≡ ps) × (e ≡ d))
    ⊎ ((f.workers ≤ length ps) × ServeEnds v w goes f ps qs d e old new status)))

-- the file of the name was to be served by, which ended with this status, and no file changed
pub record Ran {P S D T : Type 0} (v : PortView P S) (w : DeskView D T) (goes : D → DeskEntry → D → Type 0)
    (files files' : Option (List port.File)) (failed failed' : ℕ) (name : List ℕ) (ps qs : List P) (d e : D) (old new : SinkShown) (status : ℕ) : Type 0 where
  pub ends : RunEnds v w goes files name failed failed' ps qs d e old new status
  pub kept : files' ≡ files

-- no write, no port and no call of the desk failed
pub record NothingFails {P S D T : Type 0} (v : PortView P S) (w : DeskView D T) (ps qs : List P) (d e : D) (old new : SinkShown) : Type 0 where
  pub writes : Rises old.faults new.faults → ⊥
  pub ports : OneHasFailed v ps qs → ⊥
  pub desk_calls : HasRisen (w d).faults (w e).faults → ⊥
