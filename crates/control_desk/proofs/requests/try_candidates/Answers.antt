use Rattle.std.proofs.Common.{false, [], sym, ap, ◌∙◌}
use Rattle.std.proofs.lemmas.List.{append-nil}
use Rattle.control_msgs.specs.declared.codes.Accept.TheVariants.{TemporaryLimit}
use Rattle.twamp_control.specs.declared.types.DeskAnswer.TheVariants.{Refused}
use Rattle.control_desk.specs.Control.{chosen, is_candidate, try_all, after_tried}
use Rattle.control_desk.proofs.Following.{follows_to, follows_then}
use Rattle.control_desk.proofs.RequestFacts.{done_with, goes_on, try_none}
use Rattle.control_desk.proofs.requests.try_candidates.Goals as goal

pub returns-then-not-tries_next-clause-done : goal.returns-then-not-tries_next-clause-done
returns-then-not-tries_next-clause-done g c = λ d n next.
    let a = c.args in
    let r = a.wish.now.request.now in
    let others = chosen (is_candidate r.v6 a.wish.now.to.now r.receiver_port false) 0 a.locals.now in
    follows_to (done_with c.try_locals-tried.result next (try_all a.wish.now.config.now a.wish.now.extra.now a.wish.now.from.now r next others) (next (Refused TemporaryLimit) []) (sym c.tries_next.ensures ∙ c.if-not-tries_next.true))
    (c.try_locals-tried.ensures.done d n next others)

pub returns-clause-done : goal.returns-clause-done
returns-clause-done g c = λ d n next.
    let a = c.args in
    let r = a.wish.now.request.now in
    let plan = try_all a.wish.now.config.now a.wish.now.extra.now a.wish.now.from.now r next in
    let others = chosen (is_candidate r.v6 a.wish.now.to.now r.receiver_port false) 0 a.locals.now in
    follows_then
    (follows_to (goes_on c.try_locals-tried.result next (plan others) (sym c.tries_next.ensures ∙ c.if-not-tries_next.false) ∙ ap plan (sym (append-nil others)))
    (c.try_locals-tried.ensures.done d n next others))
    (follows_to (ap (after_tried c.try_locals.result next) (try_none _ _ _ _ _)) (c.try_locals.ensures.done d n next []))
