-- Whole lines that have one answer each.
use Rattle.std.specs.Prelude.{◌≡◌, ℕ, ◌≤◌, Bool, true, false, ◌==◌, List, [], ◌∷◌, ◌++◌, length, Option, Some, None}
use Rattle.operator_lines.specs.declared.line.Line.{Line}
use Rattle.operator_lines.specs.declared.line.Line.TheVariants as lines
use Rattle.operator_lines.specs.Lines.{line_limit}
use Rattle.operator_lines.specs.Reading.{line_end, line_from}

-- `list` has an answer for each session besides, and behind `quit` no more is read
abbrev pub has_one_answer : Option Line → Bool
has_one_answer (Some lines.List) = false
has_one_answer (Some lines.Quit) = false
has_one_answer _ = true

-- no octet ends a line
abbrev pub HasNoEnd : List ℕ → Type 0
HasNoEnd [] = Unit {0}
HasNoEnd (c ∷ cs) = ((c == line_end) ≡ false) × HasNoEnd cs

-- a whole line, whether or not it can be read, that has one answer
pub record IsOneLine (octets : List ℕ) : Type 0 where
  pub words : List ℕ
  pub is : octets ≡ words ++ line_end ∷ []
  pub whole : HasNoEnd words
  pub short : length octets ≤ line_limit
  pub asks : has_one_answer (line_from octets) ≡ true
