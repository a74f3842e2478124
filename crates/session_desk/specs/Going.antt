-- What any call of the book leaves as it is (this project's own).
use Rattle.std.specs.Prelude.{◌≡◌, ◌≢◌, ℕ, List, ◌++◌, map}
use Rattle.std.specs.List.{Contains}
use Rattle.refl_types.specs.declared.config.ConfigParts.{ConfigParts}
use Rattle.session_world.specs.declared.steps.Step.{Step}
use Rattle.session_world.specs.Answers.{Answer}
use Rattle.session_world.specs.Desk.{is_split}
use Rattle.session_rule.specs.declared.seats.Table.{Table}
use Rattle.session_rule.specs.Seats.{size_of, joined_parts, IsDeskOfOneSchedule}
use Rattle.session_desk.specs.Book.{Book, IsBookOf, steps_of, answers_of}
use Rattle.session_desk.specs.Makes.{Makes, BookCall}

-- the book is that of the table, and one schedule that runs has its desk's list and the parts that its joins have ended
pub record StandsAt (t : Table) (b : Book) : Type 0 where
  pub book : IsBookOf t b
  pub schedule : IsDeskOfOneSchedule (size_of t) (steps_of b) (joined_parts b.seat)

-- The book went on by some calls: steps and answers were added, no worker was split off or joined, and rows were added
pub record DeskWent (t : Table) (before after : Book) : Type 0 where
  pub steps : (made : List Step) × (steps_of after ≡ made ++ steps_of before)
  pub answers : (given : List (Answer ℕ)) × (answers_of after ≡ given ++ answers_of before)
  pub split : (w : ℕ) → is_split (steps_of after) w ≡ is_split (steps_of before) w
  pub joined : joined_parts after.seat ≡ joined_parts before.seat
  pub rows : (added : List ConfigParts) × (after.rows.configs ≡ before.rows.configs ++ added)
  pub row_limit : after.rows.limit ≡ before.rows.limit
  pub size : after.size ≡ before.size
  pub stands : StandsAt t after

-- each call gives it, and it composes
pub record CallsGoOn : Type 0 where
  pub call : (t : Table) (call : BookCall) (b c : Book) → StandsAt t b → Makes t call b c → DeskWent t b c
  pub none : (t : Table) (b : Book) → StandsAt t b → DeskWent t b b
  pub both : (t : Table) (b c d : Book) → DeskWent t b c → DeskWent t c d → DeskWent t b d
