-- The configurations that have rows: a list without repeats, and how many it may hold. Rows are numbered from 1.
use Rattle.std.specs.Prelude.{◌≡◌, ℕ, suc, ◌-◌, ◌<◌, ◌≤◌, ◌^◌, List, length, slice_get, Some}
use Rattle.refl_types.specs.declared.config.ConfigParts.{ConfigParts}
use Rattle.config_rows.specs.declared.book.Sought.{Sought}
use Rattle.config_rows.specs.declared.book.Sought.TheVariants.{Known, Next, RowsFull}

pub record Rows : Type 0 where
  pub configs : List ConfigParts
  pub limit : ℕ

-- a configuration has the row
abbrev pub IsRow : Rows → ConfigParts → ℕ → Type 0
IsRow rows c row = (0 < row) × (slice_get rows.configs (row - 1) ≡ Some c)

abbrev pub HasNoRow : Rows → ConfigParts → Type 0
HasNoRow rows c = (row : ℕ) → ¬ IsRow rows c row

-- no configuration has two rows, and there are no more than may be
pub record AreRows (rows : Rows) : Type 0 where
  pub distinct : (c : ConfigParts) (i j : ℕ) → IsRow rows c i → IsRow rows c j → i ≡ j
  pub limit : length rows.configs ≤ rows.limit
  pub range : rows.limit < 2 ^ 32

abbrev pub IsNext : Rows → ConfigParts → ℕ → Type 0
IsNext rows c row = HasNoRow rows c × (length rows.configs < rows.limit) × (row ≡ suc (length rows.configs))

-- what a search finds
abbrev pub IsSought : Rows → ConfigParts → Sought → Type 0
IsSought rows c (Known row) = IsRow rows c row
IsSought rows c (Next row) = IsNext rows c row
IsSought rows c RowsFull = HasNoRow rows c × (length rows.configs ≡ rows.limit)
