use Rattle.std.proofs.Common.{refl, Some, None, Ok, Err}
use Rattle.control_desk.specs.declared.counts.Verdict.TheVariants.{Over}
use Rattle.control_desk.specs.State.{without}
use Rattle.session_desk.specs.Makes.{tells_key, counts}
use Rattle.control_desk.specs.Plan.{hang_up, live_at, count}
use Rattle.control_desk.specs.Operator.{list_key, listed_plan}
use Rattle.control_desk.proofs.Following.{follows_called, follows_then}
use Rattle.control_desk.proofs.operator.list_one.Goals as goal

pub returns-in_default-clause-done : goal.returns-in_default-clause-done
returns-in_default-clause-done g c = λ s next more.
    let plan = list_key c.args.conn s next more in
    follows_called (live_at c.args.index plan) more (tells_key c.args.index None) _ (refl, refl) (c.in_default.ensures c.args.hands.now.table.now) refl

pub returns-in_default-count-clause-done : goal.returns-in_default-count-clause-done
returns-in_default-count-clause-done g c = λ s next more.
    let k = c.in-Some.key in
    let plan = list_key c.args.conn s next more in
    let counted = listed_plan c.args.conn s next k more in
    let e = Err c.in_default-count.field-0 in
    follows_then (follows_called (live_at c.args.index plan) (count k counted) (tells_key c.args.index (Some k)) _ (refl, refl) (c.in-Some.ensures c.args.hands.now.table.now) refl)
    (follows_called (count k counted) more (counts k e) _ (refl, refl) c.in_default-count.ensures.made refl)

pub returns-then-send_line-clause-done : goal.returns-then-send_line-clause-done
returns-then-send_line-clause-done g c = λ s next more.
    let k = c.in-Some.key in
    let n = c.args.conn in
    let plan = list_key n s next more in
    let counted = listed_plan n s next k more in
    let m = c.in-Ok.number in
    let failed = hang_up n (next Over (without s n)) in
    follows_then (follows_called (live_at c.args.index plan) (count k counted) (tells_key c.args.index (Some k)) _ (refl, refl) (c.in-Some.ensures c.args.hands.now.table.now) refl)
    (follows_then (follows_called (count k counted) (counted (Ok m)) (counts k (Ok m)) _ (refl, refl) c.in-Ok.ensures.made refl)
    (c.if-send_line.ensures c.args.hands.now.table.now more failed _))

pub returns-clause-done : goal.returns-clause-done
returns-clause-done g c = λ s next more.
    let k = c.in-Some.key in
    let n = c.args.conn in
    let plan = list_key n s next more in
    let counted = listed_plan n s next k more in
    let m = c.in-Ok.number in
    let gone = next Over (without s n) in
    let failed = hang_up n gone in
    follows_then (follows_called (live_at c.args.index plan) (count k counted) (tells_key c.args.index (Some k)) _ (refl, refl) (c.in-Some.ensures c.args.hands.now.table.now) refl)
    (follows_then (follows_called (count k counted) (counted (Ok m)) (counts k (Ok m)) _ (refl, refl) c.in-Ok.ensures.made refl)
    (follows_then (c.if-send_line.ensures c.args.hands.now.table.now more failed _)
    (c.drop_line.ensures c.args.hands.now.table.now gone _ _)))
