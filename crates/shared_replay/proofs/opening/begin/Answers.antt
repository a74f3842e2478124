use Rattle.std.proofs.Common.{refl}
use Rattle.shared_replay.proofs.DeskFacts.{Begun, begun_desk, begun_holds, full_only, full_desk, never_full}
use Rattle.shared_replay.proofs.opening.begin.Goals as goal
use Rattle.shared_replay.proofs.opening.begin.Goals.{After-law_fits-3}

pub returns-in_default-clause-after : goal.returns-in_default-clause-after
returns-in_default-clause-after c =
    let f = full_only c.args.table.now c.args.book.now c.reserve.new.self c.args.key.now c.args.config.now c.in_default.field-0 c.requires.cause c.in_default.ensures.made in
    (full_desk c.args.table.now c.args.book.now c.reserve.new.self f.0 f.1 f.2 f.3 f.4 c.law_calls_tell.ensures c.law_rows_stay.ensures c.requires.desk c.law_fits-in_default.ensures c.in_default.ensures.same).0

pub returns-in_default-clause-began : goal.returns-in_default-clause-began
returns-in_default-clause-began c = λ t h free few.
    let f = full_only c.args.table.now c.args.book.now c.reserve.new.self c.args.key.now c.args.config.now c.in_default.field-0 c.requires.cause c.in_default.ensures.made in
    absurd (never_full c.args.table.now c.args.book.now c.reserve.new.self f.0 f.1 f.2 f.3 f.4 c.requires.desk c.law_fits.ensures c.requires.room few)

begun : (c : After-law_fits-3) → Begun c.args.table.now c.args.book.now c.reserve.new.self c.start.new.self c.args.key.now c.args.extra.now c.args.config.now c.in-Ok.place
begun c = record { reserved = c.in-Ok.ensures.made; started = c.in-Ok-start.ensures.made; fits = c.law_fits.ensures; fits_between = c.law_fits-2.ensures; fits_after = c.law_fits-3.ensures }

pub returns-clause-after : goal.returns-clause-after
returns-clause-after c = begun_desk (begun c) c.requires.desk c.law_calls_tell.ensures c.law_rows_stay.ensures c.in-Ok-start.ensures.same c.requires.room

pub returns-clause-began : goal.returns-clause-began
returns-clause-began c = λ t h free few. (refl, begun_holds (begun c) c.requires.desk t _ refl refl refl c.law_calls_tell.ensures h free)
