-- Where nothing fails, the content alone decides how a check ends (this project's own).
use Rattle.std.specs.Prelude.{◌≡◌, ◌⊎◌, ℕ, List, Option, Some}
use Rattle.port_io.specs.Outside.{Rises}
use Rattle.port_io.specs.SinkShown.{SinkShown}
use Rattle.port_io.specs.Files as port
use Rattle.port_io.specs.Files.{content}
use Rattle.conf_check.specs.Checking.{CheckEnds, content_status}

-- no load and no write is counted as failing, the files are told, and the name has this content
pub record NothingFails (files : Option (List port.File)) (name text : List ℕ) (failed failed' : ℕ) (old new : SinkShown) : Type 0 where
  pub fs : List port.File
  pub told : files ≡ Some fs
  pub content : content name fs ≡ Some text
  pub loads : Rises failed failed' → ⊥
  pub writes : Rises old.faults new.faults → ⊥

abbrev pub ContentDecides : Type 0
ContentDecides = (files : Option (List port.File)) (name text : List ℕ) (failed failed' : ℕ) (old new : SinkShown) (status : ℕ)
    → CheckEnds files name failed failed' old new status → NothingFails files name text failed failed' old new → (status ≡ content_status text) ⊎ (status ≡ 4)
