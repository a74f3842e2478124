use Rattle.session_desk.specs.Book.{IsBookOf}
use Rattle.table_turns.proofs.tests.book.a_refusal_names_its_cause.Given as goal

abbrev pub invariant-loop-key : goal.invariant-loop-key
invariant-loop-key g l = IsBookOf l.table l.book
