use Rattle.std.proofs.lemmas.Result.{err_from_is_err_and}
use Rattle.octet_format.specs.Reading.{zeros_at}
use Rattle.octet_format.proofs.Zeros.{zeros_on, zeros_end, zeros_done}
use Rattle.octet_format.proofs.reading.zeros_at.Goals as goal

pub loop-preserved : goal.loop-preserved
loop-preserved c = zeros_on c.args.count c.loop.counter c.loop.rest.now _ (zeros_at c.args.count c.args.octets.now) c.loop-test.true c.in_ok-rest.ensures c.loop.invariant

pub returns-in_err-rest : goal.returns-in_err-rest
returns-in_err-rest c =
    let p = err_from_is_err_and c.from_residual.result c.from_residual.ensures.1 in
    rw (p.1, p.2) (zeros_end c.args.count c.loop.counter c.loop.rest.now c.in_err-rest.field-0.0 (zeros_at c.args.count c.args.octets.now) c.loop-test.true c.in_err-rest.ensures c.loop.invariant)

pub returns : goal.returns
returns c = zeros_done c.args.count c.loop.counter c.loop.rest.now (zeros_at c.args.count c.args.octets.now) c.loop-test.false c.loop.invariant
