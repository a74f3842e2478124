-- The line and the status of what a recorded run is (this project's own).
use Rattle.std.specs.Prelude.{ℕ, List, [], ◌∷◌, ◌++◌, codes, decimal}
use Rattle.audit_report.specs.declared.lines.Verdict.{Verdict}
use Rattle.audit_report.specs.declared.lines.Verdict.TheVariants.{Yes, No, Bad}

-- a word and a number
abbrev pub line_of : Verdict → List ℕ
line_of (Yes count) = codes "yes " ++ decimal count ++ 10 ∷ []
line_of (No offset) = codes "no " ++ decimal offset ++ 10 ∷ []
line_of (Bad offset) = codes "bad " ++ decimal offset ++ 10 ∷ []

abbrev pub status_of : Verdict → ℕ
status_of (Yes count) = 0
status_of (No offset) = 12
status_of (Bad offset) = 6
