use Rattle.std.proofs.Common.{◌≡◌, ◌∙◌, List, ap, arith}
use Rattle.session_world.specs.declared.steps.Step.{Step}
use Rattle.session_world.specs.declared.steps.TableSize.{TableSize}
use Rattle.session_world.specs.Desk.{is_split}
use Rattle.session_rule.specs.Seats.{size_of}
use Rattle.session_desk.specs.Book.{Book, steps_of}
use Rattle.learn_service.proofs.tests.learned.Goals as goal

pub split-requires-clause-room : goal.split-requires-clause-room
split-requires-clause-room g c =
    let e = c.open_table.ensures.opened in
    let m = c.make.ensures.made in
    let table = rw c.expect-table.ensures at e in
    let book = rw c.expect-book.ensures at m in
    let workers : (size_of c.expect-table.result.0).workers ≡ 1 = ap (λ (z : TableSize). z.workers) table.size in
    (1, omega arith, omega (arith, workers), ap (λ (ds : List Step). is_split ds 1) (ap (λ (b : Book). steps_of b) book ∙ table.steps))
