-- The rows that the opening leaves (this project's own).
use Rattle.std.specs.Prelude.{◌≡◌, ℕ, true, List}
use Rattle.std.specs.List.{list_any}
use Rattle.refl_types.specs.declared.config.ConfigParts.{ConfigParts}
use Rattle.refl_types.specs.Same.{same_config}
use Rattle.session_rule.specs.declared.seats.Table.{Table}
use Rattle.session_desk.specs.Book.{Book}
use Rattle.conf_text.specs.File.{File}
use Rattle.conf_text.specs.Rows.{in_use}
use Rattle.file_opening.specs.Opening.{IsNewBook, OpensFile}

-- each of these stands among those
abbrev pub Among : List ConfigParts → List ConfigParts → Type 0
Among cs uses = (d : ConfigParts) → list_any (same_config d) cs ≡ true → list_any (same_config d) uses ≡ true

-- the rows after the opening are those of configurations that the file uses, and no others
abbrev pub OnlyUsed : Type 0
OnlyUsed = (t : Table) (f : File) (moment : ℕ) (before after : Book) → IsNewBook t f before → OpensFile t f moment before after → Among after.rows.configs (in_use f.twamp f.sessions)
