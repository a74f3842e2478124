use Rattle.session_desk.specs.Book.{IsBookOf}
use Rattle.table_turns.proofs.tests.book.a_full_table_is_opened_passed_and_closed.Given as goal

abbrev pub invariant-loop-port : goal.invariant-loop-port
invariant-loop-port g l = IsBookOf l.table l.book

abbrev pub invariant-loop-port-2 : goal.invariant-loop-port-2
invariant-loop-port-2 g l = IsBookOf l.table l.book
