use Rattle.session_rule.specs.Seats.{worker_steps}
use Rattle.session_key.specs.Matching.{query_of}
use Rattle.session_turn.proofs.tests.Stage.turn_while_set.Goals as goal

pub judge_again-verdict-requires-clause-drew : goal.judge_again-verdict-requires-clause-drew
judge_again-verdict-requires-clause-drew g c =
    let q = query_of c.meta_of-meta.result.local c.meta_of-meta.result.peer c.args.octets.now in
    let hold = c.in-Held.ensures.sees.saw.held in
    (worker_steps c.find_by.new.seat, q, c.in-Held.sight, c.in-Number.n, hold, c.in-Number.ensures.draws q hold)
