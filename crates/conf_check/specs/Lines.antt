-- The lines that are told of a configuration file (this project's own).
use Rattle.std.specs.Prelude.{ℕ, List, [], ◌∷◌, ◌++◌, length, codes, decimal}
use Rattle.conf_text.specs.Faults.{Fault, NotToml, Unknown, Missing, BadValue, Limit}
use Rattle.conf_text.specs.File.{File}

abbrev pub line_end : List ℕ
line_end = 10 ∷ []

-- behind what a line has: a word and how many there are
abbrev pub with_count : List ℕ → List ℕ → ℕ → List ℕ
with_count line word count = line ++ word ++ decimal count

-- how many of each a file has that is accepted
unfoldable pub accepted_line : File → List ℕ
accepted_line f =
    let locals = with_count (codes "ok") (codes " locals ") (length f.locals) in
    let configs = with_count locals (codes " configs ") (length f.configs) in
    with_count configs (codes " sessions ") (length f.sessions) ++ line_end

-- a fault in words; its path stands there as it is, whatever its characters
abbrev pub fault_text : Fault → List ℕ
fault_text NotToml = codes "not toml"
fault_text (Unknown path) = codes "unknown " ++ path
fault_text (Missing path) = codes "missing " ++ path
fault_text (BadValue path) = codes "bad " ++ path
fault_text (Limit path) = codes "limit " ++ path

-- the line of a fault
unfoldable pub fault_line : Fault → List ℕ
fault_line fault = codes "stampd: configuration: " ++ fault_text fault ++ line_end

-- the lines of a file that isn't loaded
abbrev pub failed_line : List ℕ
failed_line = codes "stampd: file failed" ++ line_end

abbrev pub too_long_line : List ℕ
too_long_line = codes "stampd: file too long" ++ line_end
