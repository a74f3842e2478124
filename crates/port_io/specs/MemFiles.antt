-- What files in memory hold, which of their loads fail, and what a load leaves.
use Rattle.std.specs.Prelude.{ℕ, List, [], ◌∷◌, String, string_bytes, Vec}
use Rattle.std.specs.declared.alloc.Global.{Global}
use Rattle.port_io.specs.Outside.{counted}
use Rattle.port_io.specs.Memory.{PlannedFailures, one_call_on}
use Rattle.port_io.specs.Files.{File}

-- the files, and which loads fail
pub record FilesState : Type 0 where
  pub files : List File
  pub plan : PlannedFailures
  pub faults : ℕ

-- each name with the content at its place
abbrev pub files_of : List (String Global) → List (Vec ℕ Global) → List File
files_of [] contents = []
files_of (name ∷ names) [] = []
files_of (name ∷ names) (content ∷ contents) = (string_bytes name, content.items) ∷ files_of names contents

-- files after a load that didn't fail
abbrev pub files_loaded : FilesState → FilesState
files_loaded s = record s { plan = one_call_on s.plan }

-- files after a load that failed
abbrev pub files_failed : FilesState → FilesState
files_failed s = record s { plan = one_call_on s.plan; faults = counted s.faults }
