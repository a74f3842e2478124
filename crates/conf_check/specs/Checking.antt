-- What a check of a configuration file writes, by the status with which it ends (this project's own).
use Rattle.std.specs.Prelude.{◌≡◌, ◌⊎◌, ℕ, List, length, Option, Result, Ok, Err, if◌then◌else◌, nat_lt}
use Rattle.std.specs.Io.KnownBytes.{Appends}
use Rattle.port_io.specs.Outside.{Rises, AppendsPart}
use Rattle.port_io.specs.SinkShown.{SinkShown}
use Rattle.port_io.specs.Files as port
use Rattle.conf_text.specs.Faults.{Fault}
use Rattle.conf_text.specs.File.{File, file_in}
use Rattle.conf_check.specs.Lines.{accepted_line, fault_line, failed_line, too_long_line}
use Rattle.conf_check.specs.Loading.{file_limit, IsTooLong, IsAccepted, IsFaulty}
use Rattle.conf_check.specs.Writing.{WritesLine, WritesNothing}

-- 0: the file is accepted, and its line was written
abbrev pub WasAccepted : Option (List port.File) → List ℕ → SinkShown → SinkShown → Type 0
WasAccepted files name old new = (f : File) × IsAccepted files name f × Appends old.written new.written (accepted_line f)

-- 8: the file is accepted, and a front of its line was written, and not all
abbrev pub WasCutShort : Option (List port.File) → List ℕ → SinkShown → SinkShown → Type 0
WasCutShort files name old new = (f : File) × IsAccepted files name f × AppendsPart old.written new.written (accepted_line f)

-- 3: the file has a fault, and the first is told
abbrev pub WasFaulty : Option (List port.File) → List ℕ → SinkShown → SinkShown → Type 0
WasFaulty files name old new = (fault : Fault) × IsFaulty files name fault × WritesLine (fault_line fault) old new

-- 5: the load failed, and the files counted it, or the file is too long; which of the two is told
abbrev pub WasNotLoaded : Option (List port.File) → List ℕ → ℕ → ℕ → SinkShown → SinkShown → Type 0
WasNotLoaded files name failed failed' old new =
    (Rises failed failed' × WritesLine failed_line old new)
    ⊎ (IsTooLong files name × (failed' ≡ failed) × WritesLine too_long_line old new)

-- the status for a text that was read, and for a content, which may be too long to be read
abbrev pub read_status : Result File Fault → ℕ
read_status (Ok f) = 0
read_status (Err fault) = 3

abbrev pub content_status : List ℕ → ℕ
content_status text = if nat_lt file_limit (length text) then 5 else read_status (file_in text)

-- how a check ends, with its status
abbrev pub CheckEnds : Option (List port.File) → List ℕ → ℕ → ℕ → SinkShown → SinkShown → ℕ → Type 0
CheckEnds files name failed failed' old new status =
    ((status ≡ 0) × WasAccepted files name old new × (new.faults ≡ old.faults) × (failed' ≡ failed))
    ⊎ ((status ≡ 3) × WasFaulty files name old new × (failed' ≡ failed))
    ⊎ ((status ≡ 4) × WritesNothing old new × (failed' ≡ failed))
    ⊎ ((status ≡ 5) × WasNotLoaded files name failed failed' old new)
    ⊎ ((status ≡ 8) × WasCutShort files name old new × Rises old.faults new.faults × (failed' ≡ failed))

-- a file was checked, with this status, and no file changed
pub record Checked (files files' : Option (List port.File)) (failed failed' : ℕ) (name : List ℕ) (old new : SinkShown) (status : ℕ) : Type 0 where
  pub ends : CheckEnds files name failed failed' old new status
  pub kept : files' ≡ files
