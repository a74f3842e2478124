-- Where nothing fails, the content of the file decides how a run ends (this project's own).
use Rattle.std.specs.Prelude.{◌≡◌, ◌⊎◌, ◌<◌, ◌≤◌, ℕ, List, length, Option, Some, Ok}
use Rattle.port_io.specs.Outside.{Rises}
use Rattle.port_io.specs.SinkShown.{SinkShown}
use Rattle.port_io.specs.Files as port
use Rattle.port_io.specs.Files.{content}
use Rattle.net_io.specs.Desk.{DeskEntry}
use Rattle.conf_text.specs.File.{File, file_in}
use Rattle.conf_check.specs.Loading.{file_limit}
use Rattle.conf_check.specs.Checking.{content_status}
use Rattle.reflector_serve.specs.Ports.{PortView}
use Rattle.reflector_serve.specs.Served.{DeskView}
use Rattle.file_service.specs.Service.{RunEnds, NothingFails}

-- no load is counted as failing, the files are told, and the name has this content
pub record Loads (fs : List port.File) (files : Option (List port.File)) (name text : List ℕ) (failed failed' : ℕ) : Type 0 where
  pub told : files ≡ Some fs
  pub content : content name fs ≡ Some text
  pub loads : Rises failed failed' → ⊥

-- it is turned away; or it has more workers than there are ports; or it is served
pub record ContentDecides {P S D T : Type 0} (v : PortView P S) (w : DeskView D T) (text : List ℕ) (ps qs : List P) (d e : D) (old new : SinkShown) (status : ℕ) : Type 0 where
  pub turned_away : (content_status text ≡ 0 → ⊥) → (status ≡ content_status text) ⊎ (status ≡ 4)
  pub crowded : (f : File) → length text ≤ file_limit → file_in text ≡ Ok f → length ps < f.workers → (status ≡ 3) ⊎ (status ≡ 4)
  pub served : (f : File) → length text ≤ file_limit → file_in text ≡ Ok f → f.workers ≤ length ps
      → NothingFails v w ps qs d e old new → (status ≡ 0) ⊎ (status ≡ 4) ⊎ (status ≡ 11)

abbrev pub RunDecides : {P S D T : Type 0} → PortView P S → DeskView D T → (D → DeskEntry → D → Type 0) → Type 0
RunDecides {P} {S} {D} {T} v w goes = (files : Option (List port.File)) (fs : List port.File) (name text : List ℕ) (failed failed' : ℕ) (ps qs : List P) (d e : D) (old new : SinkShown) (status : ℕ)
    → RunEnds v w goes files name failed failed' ps qs d e old new status → Loads fs files name text failed failed' → ContentDecides v w text ps qs d e old new status
