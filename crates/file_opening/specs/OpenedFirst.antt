-- The first sessions of the file in the desk's book (this project's own).
use Rattle.std.specs.Prelude.{◌≡◌, ◌⊎◌, ℕ, true, false, List, [], ◌∷◌, take, map, reverse}
use Rattle.std.specs.List.{AllZip, list_any}
use Rattle.refl_types.specs.declared.config.ConfigParts.{ConfigParts}
use Rattle.refl_types.specs.Same.{same_config}
use Rattle.session_world.specs.Desk.{generation_of}
use Rattle.session_rule.specs.declared.seats.Table.{Table}
use Rattle.session_desk.specs.Book.{Book, steps_of, answers_of}
use Rattle.session_desk.specs.Calls.{has_session}
use Rattle.session_desk.specs.Going.{StandsAt}
use Rattle.conf_text.specs.File.{File}
use Rattle.conf_text.specs.Rows.{in_use}
use Rattle.file_opening.specs.Opened.{IsOpened, opening_of}

-- each configuration stands in the list once
abbrev pub AreOnce : List ConfigParts → Type 0
AreOnce [] = Unit {0}
AreOnce (c ∷ cs) = (list_any (same_config c) cs ≡ false) × AreOnce cs

-- The first n sessions are open, and no other is. The rows are those of configurations that the file uses, and each slot that
-- was used has a session
pub record HasOpenedFirst (t : Table) (f : File) (moment n : ℕ) (b : Book) : Type 0 where
  pub stands : StandsAt t b
  pub slots : b.size.slots ≡ f.slots
  pub row_limit : b.rows.limit ≡ f.rows
  pub live : AllZip (IsOpened b.rows moment) (take n f.sessions) b.live
  pub answers : answers_of b ≡ reverse (map opening_of b.live)
  pub reserved : b.reserved ≡ []
  pub keys : b.keys ≡ map (λ s. s.key) (take n f.sessions)
  pub once : AreOnce b.rows.configs
  pub used : (c : ConfigParts) → list_any (same_config c) b.rows.configs ≡ true → list_any (same_config c) (in_use f.twamp f.sessions) ≡ true
  pub taken : (i : ℕ) → (generation_of (steps_of b) i ≡ 0) ⊎ (has_session b i ≡ true)
