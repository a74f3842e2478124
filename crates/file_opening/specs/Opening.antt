-- The file's sessions are opened by calls of the desk's book (this project's own).
use Rattle.std.specs.Prelude.{◌≡◌, ℕ, List, [], ◌∷◌, Option, Some, None, Ok}
use Rattle.refl_types.specs.declared.config.ConfigParts.{ConfigParts}
use Rattle.refl_types.specs.declared.outcome.Place.{Place}
use Rattle.session_world.specs.declared.steps.TableSize.{TableSize}
use Rattle.session_rule.specs.declared.seats.Table.{Table}
use Rattle.session_rule.specs.Seats.{size_of, joined_parts, IsDeskOfOneSchedule}
use Rattle.session_desk.specs.Book.{Book, IsBookOf, steps_of}
use Rattle.session_desk.specs.Makes.{Makes, reserves, starts, keeps_row}
use Rattle.conf_text.specs.declared.sessions.Provided.{Provided}
use Rattle.conf_text.specs.File.{File}

-- the size of the file's table
abbrev pub size_in : File → TableSize
size_in f = record { slots = f.slots; rows = f.rows; workers = f.workers }

-- the book of a table with as many slots and rows as the file says, of which no call was made
pub record IsNewBook (t : Table) (f : File) (b : Book) : Type 0 where
  pub book : IsBookOf t b
  pub schedule : IsDeskOfOneSchedule (size_of t) (steps_of b) (joined_parts b.seat)
  pub steps : steps_of b ≡ []
  pub joined : joined_parts b.seat ≡ []
  pub rows : b.rows ≡ record { configs = []; limit = f.rows }
  pub live : b.live ≡ []
  pub reserved : b.reserved ≡ []
  pub keys : b.keys ≡ []
  pub slots : b.size.slots ≡ f.slots

-- the sessions were opened one after the other: each was reserved with its wait, and then started at the moment
abbrev pub OpensAll : Table → (moment : ℕ) → List Provided → Book → Book → Type 0
OpensAll t moment [] b c = c ≡ b
OpensAll t moment (s ∷ ss) b c = (p : Place) × (r : Book) × (o : Book)
    × Makes t (reserves s.key s.extra s.config s.wait (Ok p)) b r × Makes t (starts p moment (Ok tt)) r o × OpensAll t moment ss o c

-- the configuration was given a row, where there is one
abbrev pub KeepsRow : Table → Option ConfigParts → Book → Book → Type 0
KeepsRow t None b c = c ≡ b
KeepsRow t (Some config) b c = Makes t (keeps_row config (Ok tt)) b c

-- The book went on by just these calls: the sessions of the file were opened in their order, and then `twamp` was given a row,
-- where the file has it
pub record OpensFile (t : Table) (f : File) (moment : ℕ) (before after : Book) : Type 0 where
  pub opened : Book
  pub sessions : OpensAll t moment f.sessions before opened
  pub twamp : KeepsRow t f.twamp opened after
