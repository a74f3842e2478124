use Rattle.std.proofs.Common.{refl}
use Rattle.std.proofs.lemmas.Result.{err_from_is_err_and}
use Rattle.replay_format.proofs.ListReading.{none_read, next_read, read_refused, all_read, whole_list, no_list}
use Rattle.replay_format.proofs.locals.locals_at.Goals as goal

pub loop-i-init : goal.loop-i-init
loop-i-init c = none_read _ _ _ c.in_ok-count.ensures.limit refl

pub loop-i-preserved : goal.loop-i-preserved
loop-i-preserved c = next_read c.in_ok-count.count c.in_ok-count.rest.now c.loop-i.rest.now c.in_ok-local.after.now c.loop-i.list c.loop-i.i c.in_ok-local.local c.loop-i.invariant c.loop-i-test.true c.in_ok-local.ensures

pub returns-in_err-local-clause-value : goal.returns-in_err-local-clause-value
returns-in_err-local-clause-value c =
    let p = err_from_is_err_and c.from_residual-in_err-local.result c.from_residual-in_err-local.ensures.1 in
    let refused = read_refused c.in_ok-count.count c.in_ok-count.rest.now c.loop-i.rest.now c.loop-i.list c.loop-i.i c.in_err-local.field-0.0 c.loop-i.invariant c.loop-i-test.true c.in_err-local.ensures in
    rw (p.1, p.2) (no_list c.args.octets.now c.in_ok-count.count c.in_ok-count.rest.now c.in_err-local.field-0.0 c.in_ok-count.ensures.value refused)

pub returns-clause-value : goal.returns-clause-value
returns-clause-value c = whole_list c.args.octets.now c.in_ok-count.count c.in_ok-count.rest.now _ c.in_ok-count.ensures.value (all_read c.in_ok-count.count c.in_ok-count.rest.now c.loop-i.rest.now c.loop-i.list c.loop-i.i c.loop-i.invariant c.loop-i-test.false).0

pub returns-clause-padded : goal.returns-clause-padded
returns-clause-padded c = (all_read c.in_ok-count.count c.in_ok-count.rest.now c.loop-i.rest.now c.loop-i.list c.loop-i.i c.loop-i.invariant c.loop-i-test.false).1
