-- The sessions of the file in the desk's book (this project's own).
use Rattle.std.specs.Prelude.{◌≡◌, ℕ, [], map, reverse, Option, Some, None}
use Rattle.std.specs.List.{AllZip}
use Rattle.refl_types.specs.declared.config.ConfigParts.{ConfigParts}
use Rattle.config_rows.specs.Rows.{Rows, IsRow}
use Rattle.session_world.specs.Answers.{Answer, opened}
use Rattle.session_rule.specs.declared.seats.Table.{Table}
use Rattle.session_desk.specs.declared.session.Session.{Session}
use Rattle.session_desk.specs.Book.{Book, answers_of}
use Rattle.session_desk.specs.Going.{DeskWent}
use Rattle.conf_text.specs.declared.sessions.Provided.{Provided}
use Rattle.conf_text.specs.File.{File}

-- The session of the file is this one of the book, in the row of its configuration. It was noted at that moment, and no
-- closing moment is set
pub record IsOpened (rows : Rows) (moment : ℕ) (s : Provided) (o : Session) : Type 0 where
  pub key : o.key ≡ s.key
  pub extra : o.extra ≡ s.extra
  pub row : IsRow rows s.config o.row
  pub wait : o.wait ≡ s.wait
  pub since : o.note.moment ≡ moment
  pub closing : o.closing ≡ None

-- the answer at the start of a session
abbrev pub opening_of : Session → Answer ℕ
opening_of o = opened o.key o.extra o.row

-- the configuration has a row, where there is one
abbrev pub HasItsRow : Rows → Option ConfigParts → Type 0
HasItsRow rows None = Unit {0}
HasItsRow rows (Some c) = (row : ℕ) × IsRow rows c row

-- The book went on by some calls. Its live sessions are those of the file, in their order, and all that the desk has answered is
-- their openings; no other session is live or reserved. The configuration `twamp` has a row
pub record HasOpened (t : Table) (f : File) (moment : ℕ) (before after : Book) : Type 0 where
  pub went : DeskWent t before after
  pub live : AllZip (IsOpened after.rows moment) f.sessions after.live
  pub answers : answers_of after ≡ reverse (map opening_of after.live)
  pub reserved : after.reserved ≡ []
  pub keys : after.keys ≡ map (λ s. s.key) f.sessions
  pub twamp : HasItsRow after.rows f.twamp
