-- Where no write fails, a load is told (this project's own).
use Rattle.std.specs.Prelude.{◌≡◌, ◌⊎◌, ℕ}
use Rattle.port_io.specs.Outside.{Rises}
use Rattle.port_io.specs.SinkShown.{SinkShown}
use Rattle.load_report.specs.Report.{Generated}

-- where no write is counted as failing, its lines were written, or there was no memory
abbrev pub LoadDecides : Type 0
LoadDecides = (seed count : ℕ) (old new : SinkShown) (status : ℕ)
    → Generated seed count old new status → (Rises old.faults new.faults → ⊥) → (status ≡ 0) ⊎ (status ≡ 4)
