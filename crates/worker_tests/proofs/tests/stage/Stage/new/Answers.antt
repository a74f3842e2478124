use Rattle.std.proofs.Common.{◌≡◌, inl, inr, ℕ, false, ◌∷◌, [], List, ap, subst, ◌∙◌, arith}
use Rattle.std.proofs.lemmas.Bool.{cases_lt, false≢true}
use Rattle.session_world.specs.declared.steps.Step.{Step}
use Rattle.session_world.specs.declared.steps.Step.TheVariants.{Split}
use Rattle.session_world.specs.declared.steps.TableSize.{TableSize}
use Rattle.session_world.specs.Desk.{is_split}
use Rattle.session_rule.specs.Splitting.{IsLeastFree}
use Rattle.session_rule.specs.Seats.{size_of}
use Rattle.session_desk.specs.Book.{Book, steps_of}
use Rattle.worker_tests.proofs.tests.stage.Stage.new.Goals as goal

first_is_one : (w : ℕ) → IsLeastFree [] w → w ≡ 1
first_is_one w least = elim (cases_lt 1 w) [
  | inl more ↦ absurd (false≢true (least.2 1 (omega arith) more))
  | inr few ↦ omega (arith, least.0)
]

second_is_free : (before after : List Step) (w n : ℕ) → before ≡ [] → IsLeastFree before w → after ≡ Split w n ∷ before → is_split after 2 ≡ false
second_is_free before after w n e least made =
    let one = first_is_one w (subst (λ (ds : List Step). IsLeastFree ds w) e least) in
    ap (λ (ds : List Step). is_split ds 2) (made ∙ (λ i. Split (one i) n ∷ e i))

pub split-requires-clause-room : goal.split-requires-clause-room
split-requires-clause-room g c =
    let e = c.open_table.ensures.opened in
    let m = c.make.ensures.made in
    let table = rw c.expect-table.ensures at e in
    let book = rw c.expect-book.ensures at m in
    let workers : (size_of c.expect-table.result.0).workers ≡ 2 = ap (λ (z : TableSize). z.workers) table.size in
    (1, omega arith, omega (arith, workers), ap (λ (ds : List Step). is_split ds 1) (ap (λ (b : Book). steps_of b) book ∙ table.steps))

pub split-requires-2-clause-room : goal.split-requires-2-clause-room
split-requires-2-clause-room g c =
    let e = c.open_table.ensures.opened in
    let m = c.make.ensures.made in
    let a = c.split.ensures.split_off in
    let table = rw c.expect-table.ensures at e in
    let book = rw c.expect-book.ensures at m in
    let split = rw c.expect-first.ensures at a in
    let workers : (size_of c.expect-table.result.0).workers ≡ 2 = ap (λ (z : TableSize). z.workers) table.size in
    (2, omega arith, omega (arith, workers), second_is_free _ _ _ split.seat.step.0 (ap (λ (b : Book). steps_of b) book ∙ table.steps) split.seat.least split.seat.step.1)
