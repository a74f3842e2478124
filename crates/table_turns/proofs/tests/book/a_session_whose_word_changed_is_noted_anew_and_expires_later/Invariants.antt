use Rattle.session_desk.specs.Book.{IsBookOf}
use Rattle.table_turns.proofs.tests.book.a_session_whose_word_changed_is_noted_anew_and_expires_later.Given as goal

abbrev pub invariant-loop-now : goal.invariant-loop-now
invariant-loop-now g l = IsBookOf l.table l.book
