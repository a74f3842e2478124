use Rattle.table_turns.proofs.tests.book.a_session_is_closed_at_its_closing_moment.Goals as goal

pub tick-requires : goal.tick-requires
tick-requires g c = record { same = c.close_at.ensures.same c.open-table.result.0 c.open_session.ensures }
