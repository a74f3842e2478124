-- How large a table may be (this project's own).
use Rattle.std.specs.Prelude.{ℕ, ◌<◌, ◌≤◌}
use Rattle.slot_word.specs.Fields.{greatest_row}
use Rattle.session_world.specs.declared.steps.TableSize.{TableSize}

abbrev pub slot_limit : ℕ
slot_limit = 16384

-- as many as a slot's word can name
abbrev pub row_limit : ℕ
row_limit = greatest_row

abbrev pub worker_limit : ℕ
worker_limit = 64

pub record IsWithinLimits (z : TableSize) : Type 0 where
  pub some_slot : 0 < z.slots
  pub slots : z.slots ≤ slot_limit
  pub some_row : 0 < z.rows
  pub rows : z.rows ≤ row_limit
  pub some_worker : 0 < z.workers
  pub workers : z.workers ≤ worker_limit
