use Rattle.std.proofs.Common.{arith}
use Rattle.session_desk.proofs.Keeping.{is_small}
use Rattle.session_desk.proofs.Orders.{both_fit}
use Rattle.session_desk.proofs.book.DeskBook.live_len.Goals as goal

pub overflow_cast-result : goal.overflow_cast-result
overflow_cast-result c = let k = c.self.invariant.0 in let n = is_small _ _ _ _ _ _ _ _ k in let l = k.live.count in let f = both_fit c.self.inside.slots.items in omega (arith, n, l, f, c.len.ensures)
