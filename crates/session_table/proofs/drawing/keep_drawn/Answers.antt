use Rattle.std.proofs.Common.{rules, List, sym, subst}
use Rattle.session_world.specs.declared.steps.Step.{Step}
use Rattle.session_rule.specs.Seats.{size_of, worker_steps}
use Rattle.session_table.specs.Knowing.{MaybeLoads, KnowsRow}
use Rattle.session_table.proofs.Words.{words_of}
use Rattle.session_table.proofs.Sessions.{drew_known}
use Rattle.session_table.proofs.drawing.keep_drawn.Goals as goal

pub know-requires-clause-named : goal.know-requires-clause-named
know-requires-clause-named c = c.requires.drew.3.took.named

pub returns-clause-drew : goal.returns-clause-drew
returns-clause-drew c = λ before q s n hold drew.
    let after : List Step = worker_steps c.know.new.seat in
    let took = drew.took in
    drew_known (size_of c.args.table.now) before after q s drew.read n c.args.row c.law_visits.ensures hold
    (subst (λ (l : List Step). MaybeLoads c.args.row l after) drew.steps c.know.ensures.steps)
    took.is_open (sym took.number) (sym took.row_read) took.row
    c.args.known.now c.know.new.known
    (words_of _ _ _ c.law_words.ensures (search rules) (search rules) c.know.ensures.seat.schedule)
    (subst (λ (l : List Step). KnowsRow c.args.known.now c.know.new.known l after c.args.row) drew.steps c.know.ensures.knows)
