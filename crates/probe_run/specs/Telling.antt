-- What a measurement comes to: what was measured, and what was written (this project's own).
use Rattle.std.specs.Prelude.{◌≡◌, ◌⊎◌, ℕ, ◌≤◌, List, [], ◌∷◌, Some}
use Rattle.std.specs.Io.KnownBytes.{Appends}
use Rattle.port_io.specs.Outside.{counted, Rises, AppendsPart}
use Rattle.port_io.specs.SinkShown.{SinkShown}
use Rattle.net_io.specs.Port.{PortEntry}
use Rattle.net_io.specs.PortShown.{PortShown}
use Rattle.conf_check.specs.Writing.{WritesLine, WritesNothing}
use Rattle.probe_run.specs.declared.probe.Probe.{Probe}
use Rattle.probe_run.specs.declared.probe.Measured.{Measured}
use Rattle.probe_run.specs.declared.progress.ProbeEnd.{ProbeEnd}
use Rattle.probe_run.specs.declared.progress.ProbeEnd.TheVariants.{Finished, End, PortFault, Budget}
use Rattle.probe_run.specs.Plan.{plan_of}
use Rattle.probe_run.specs.Runs.{Measures, HasNotBegun}
use Rattle.probe_run.specs.Lines.{lines_of, port_line, budget_line}

-- how ports of the type P show themselves
abbrev pub PortView : Type 0 → Type 0 → Type 0
PortView P S = P → PortShown S

-- this is so of the first port, and the others are as they were
pub record OfFirst {P : Type 0} (R : P → P → Type 0) (ps qs : List P) : Type 0 where
  pub before : P
  pub after : P
  pub others : List P
  pub old : ps ≡ before ∷ others
  pub new : qs ≡ after ∷ others
  pub first : R before after

-- a port was measured with, as the probe says
pub record HasMeasured {P S : Type 0} (v : PortView P S) (probe : Probe) (m : Measured) (p q : P) : Type 0 where
  pub measured : Measures (plan_of probe) probe.peer (v p).log (v q).log (v p).faults (v q).faults m.counts m.end
  pub bound : (v q).bound ≡ probe.local ∷ []
  pub made : (v q).made ≡ (v p).made

-- the status of an end, and its line
abbrev pub TellsEnd : ProbeEnd → ℕ → SinkShown → SinkShown → Type 0
TellsEnd Finished status old new = (status ≡ 0) × WritesNothing old new
TellsEnd End status old new = (status ≡ 0) × WritesNothing old new
TellsEnd PortFault status old new = (status ≡ 9) × WritesLine port_line old new
TellsEnd Budget status old new = (status ≡ 11) × WritesLine budget_line old new

-- the lines were written whole, and then the end was told, with this status
pub record WritesMeasured (m : Measured) (status : ℕ) (old new : SinkShown) : Type 0 where
  pub reported : SinkShown
  pub whole : Appends old.written reported.written (lines_of m.counts)
  pub still : reported.faults ≡ old.faults
  pub end : TellsEnd m.end status reported new

-- 0, 9, 11: it was measured, and told
abbrev pub HasTold : {P S : Type 0} → PortView P S → Probe → ℕ → SinkShown → SinkShown → P → P → Type 0
HasTold v probe status old new p q = (m : Measured) × HasMeasured v probe m p q × WritesMeasured m status old new

-- 8: it was measured, and a part of the lines was written, from their front on, since a write failed
abbrev pub HasLostLines : {P S : Type 0} → PortView P S → Probe → SinkShown → SinkShown → P → P → Type 0
HasLostLines v probe old new p q =
    (m : Measured) × HasMeasured v probe m p q × AppendsPart old.written new.written (lines_of m.counts) × Rises old.faults new.faults

-- 4: there was no memory for the measurement, or for its lines
abbrev pub HasNoLines : {P S : Type 0} → PortView P S → Probe → P → P → Type 0
HasNoLines v probe p q = (HasNotBegun probe.local (v p) (v q) × ((v q).faults ≡ (v p).faults)) ⊎ ((m : Measured) × HasMeasured v probe m p q)

-- 9: the port failed to open, which was told
pub record HasClosed {P S : Type 0} (v : PortView P S) (old new : SinkShown) (p q : P) : Type 0 where
  pub quiet : (v q).log ≡ (v p).log
  pub bound : (v q).bound ≡ (v p).bound
  pub rises : Rises (v p).faults (v q).faults
  pub told : WritesLine port_line old new

-- no write and no call of the port failed, and whatever measurement fits what the port tells, it didn't end by its budget
pub record NothingFails {P S : Type 0} (v : PortView P S) (probe : Probe) (old new : SinkShown) (p q : P) : Type 0 where
  pub writes : Rises old.faults new.faults → ⊥
  pub calls : counted (v p).faults ≤ (v q).faults → ⊥
  pub budget : (m : Measured) → HasMeasured v probe m p q → m.end ≡ Budget → ⊥

-- The port tells a measurement, each that it tells ended by itself, and no write failed
pub record EndedByItself {P S : Type 0} (v : PortView P S) (probe : Probe) (old new : SinkShown) (p q : P) : Type 0 where
  pub writes : Rises old.faults new.faults → ⊥
  pub log : List PortEntry
  pub told : (v q).log ≡ Some log
  pub some : (m : Measured) × HasMeasured v probe m p q
  pub each : (m : Measured) → HasMeasured v probe m p q → (m.end ≡ Finished) ⊎ (m.end ≡ End)
