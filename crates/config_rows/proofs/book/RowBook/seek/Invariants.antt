use Rattle.std.proofs.Common.{length}
use Rattle.config_rows.proofs.IndexLaws.{rows_of, IsAt}
use Rattle.config_rows.proofs.book.RowBook.seek.Given as goal

abbrev pub invariant-loop-row : goal.invariant-loop-row
invariant-loop-row l = IsAt (rows_of l.self-inside.configs.items l.self-inside.limit) (length l.self-inside.latest.items) l.config l.row

abbrev pub decreases-loop-row : goal.decreases-loop-row
decreases-loop-row l = l.row
