use Rattle.std.proofs.Common.{rules, ap, sym, ◌∙◌, ◌≡◌, true}
use Rattle.slot_word.specs.Fields.{is_open_word}
use Rattle.session_world.specs.Loads.{names_open}
use Rattle.session_rule.specs.Seats.{size_of, worker_steps}
use Rattle.session_table.proofs.BoolFacts.{no_not}
use Rattle.session_table.proofs.Words.{words_of, row_some}
use Rattle.session_table.proofs.Sessions.{draw_names, drew_row}
use Rattle.session_table.proofs.drawing.draw_row.Goals as goal

pub returns-clause-draws : goal.returns-clause-draws
returns-clause-draws c q hold =
    let f = c.unpack-fields.ensures in let read = c.draw_slot-word.result in
    let o = no_not (is_open_word read) (sym f.closed ∙ c.if-fields.false) in
    let named : names_open (worker_steps c.draw_slot-word.new.seat) c.unpack-fields.result.row ≡ true =
    ap (λ xs. names_open xs c.unpack-fields.result.row) c.draw_slot-word.ensures.step
    ∙ draw_names c.args.look.now.slot read c.unpack-fields.result.row (worker_steps c.args.seat.now) o f.row in
    drew_row (size_of c.args.table.now) (worker_steps c.args.seat.now) (worker_steps c.draw_slot-word.new.seat) q c.args.look.now read c.unpack-fields.result.sequence c.unpack-fields.result.row c.law_visits.ensures hold
    c.draw_slot-word.ensures.step o f.sequence f.row
    (row_some _ _ c.unpack-fields.result.row (words_of _ _ _ c.law_words.ensures (search rules) (search rules) c.draw_slot-word.ensures.schedule) named)
