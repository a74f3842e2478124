use Rattle.session_desk.specs.Book.{IsBookOf}
use Rattle.table_turns.proofs.tests.book.a_slot_is_retired_after_all_its_generations.Given as goal

abbrev pub invariant-loop-generation : goal.invariant-loop-generation
invariant-loop-generation g l = IsBookOf l.table l.book
