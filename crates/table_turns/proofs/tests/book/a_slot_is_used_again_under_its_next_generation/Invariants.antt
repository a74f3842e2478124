use Rattle.session_desk.specs.Book.{IsBookOf}
use Rattle.table_turns.proofs.tests.book.a_slot_is_used_again_under_its_next_generation.Given as goal

abbrev pub invariant-loop-generation : goal.invariant-loop-generation
invariant-loop-generation g l = IsBookOf l.table l.book
