use Rattle.std.proofs.Common.{◌∙◌, sym}
use Rattle.file_opening.proofs.Ends.{row_kept}
use Rattle.file_opening.proofs.keep_twamp.Goals as goal

pub unreachable-requires : goal.unreachable-requires
unreachable-requires c = let first = c.requires.first in
    row_kept c.args.table.now c.args.conf.now first.0 first.1 c.args.book.now c.keep_row.new.self c.in-Some.config c.in_default-keep_row.field-0 first.2 (sym c.twamp.ensures ∙ c.in-Some.is)
    c.requires.rows c.in_default-keep_row.ensures.made
