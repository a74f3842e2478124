use Rattle.session_rule.specs.Seats.{size_of, worker_steps}
use Rattle.session_turn.proofs.TurnFacts.{drawn_stays}
use Rattle.session_turn.proofs.turning.judge_again.Goals as goal

pub config-requires : goal.config-requires
config-requires c =
    let r = c.requires.drew in
    let k = (c.keep_drawn.ensures.drew r.0 r.1 r.2 r.3 r.4 r.5).knows in
    (k.config, k.kept)

pub returns-clause-went_on : goal.returns-clause-went_on
returns-clause-went_on c = λ before q s n hold took. record {
  mid = worker_steps c.keep_drawn.new.seat;
  drew = c.keep_drawn.ensures.drew before q s n hold took;
  stays = drawn_stays c.law_reads.ensures c.args.known.now c.keep_drawn.new.known before (worker_steps c.args.seat.now) (worker_steps c.keep_drawn.new.seat) s n c.args.row (size_of c.args.table.now) took c.keep_drawn.ensures.known;
  steps = c.retire.ensures.seat.steps;
  answers = c.retire.ensures.answers;
}

pub returns-clause-kept : goal.returns-clause-kept
returns-clause-kept c = (c.config.result.now, c.config.ensures, c.judge.ensures)
