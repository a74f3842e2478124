-- The desk's book as contracts see it (this project's own).
use Rattle.std.specs.Prelude.{◌≡◌, ℕ, List, [], ◌∷◌, ◌++◌, if◌then◌else◌, not, map}
use Rattle.std.specs.List.{filter}
use Rattle.refl_types.specs.Same.{same_key}
use Rattle.config_rows.specs.Rows.{Rows}
use Rattle.session_world.specs.declared.steps.TableSize.{TableSize}
use Rattle.session_world.specs.declared.steps.Step.{Step}
use Rattle.session_world.specs.Keys.{Key, Extra}
use Rattle.session_world.specs.Answers.{Answer, opened, configured, closed, expired, desk_answers}
use Rattle.session_rule.specs.declared.seats.Table.{Table}
use Rattle.session_rule.specs.declared.seats.Seat.{Seat}
use Rattle.session_rule.specs.Seats.{size_of, IsDeskOf, desk_steps}
use Rattle.session_desk.specs.declared.session.Session.{Session}

-- the live sessions stand in the order of starting, the reserved ones in that of reserving; the keys are those of both, in the
-- order in which they were reserved
pub record Book : Type 0 where
  pub seat : Seat
  pub size : TableSize
  pub rows : Rows
  pub live : List Session
  pub reserved : List Session
  pub keys : List Key

abbrev pub steps_of : Book → List Step
steps_of b = desk_steps b.seat

abbrev pub answers_of : Book → List (Answer ℕ)
answers_of b = desk_answers (steps_of b)

-- the book was made for the table
abbrev pub IsBookOf : Table → Book → Type 0
IsBookOf t b = IsDeskOf t b.seat × (size_of t ≡ b.size)

-- ---- what the desk's own answers leave

-- a session by its key, its extra and its row
pub record Line : Type 0 where
  pub key : Key
  pub extra : Extra
  pub row : ℕ

abbrev pub line_of : Session → Line
line_of s = record { key = s.key; extra = s.extra; row = s.row }

abbrev pub with_line_row : Key → ℕ → Line → Line
with_line_row k row l = if same_key l.key k then record l { row = row } else l

abbrev pub without_line : Key → List Line → List Line
without_line k = filter (λ l. not (same_key l.key k))

-- the latest answer comes first, the line that was opened last stands last
abbrev pub lines_left : List (Answer ℕ) → List Line
lines_left [] = []
lines_left (opened k x row ∷ rest) = lines_left rest ++ (record { key = k; extra = x; row = row }) ∷ []
lines_left (configured k row ∷ rest) = map (with_line_row k row) (lines_left rest)
lines_left (closed k n ∷ rest) = without_line k (lines_left rest)
lines_left (expired k n row ∷ rest) = without_line k (lines_left rest)
lines_left (_ ∷ rest) = lines_left rest
