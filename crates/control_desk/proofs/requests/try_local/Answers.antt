use Rattle.std.proofs.Common.{◌++◌, List, [], ◌∷◌, sym, ap, ◌∙◌}
use Rattle.control_desk.specs.Control.{Candidate, try_all}
use Rattle.control_desk.proofs.Choices.{if_true, if_false}
use Rattle.control_desk.proofs.Following.{follows_as, follows_none}
use Rattle.control_desk.proofs.RequestFacts.{try_more}
use Rattle.control_desk.proofs.requests.try_local.Goals as goal

pub returns-then-not-is_candidate-clause-done : goal.returns-then-not-is_candidate-clause-done
returns-then-not-is_candidate-clause-done g c = λ d n next rest.
    let a = c.args in
    let here : Candidate = record { local = a.number; port = a.local.now.port } in
    follows_as (ap (λ (cs : List Candidate). try_all a.wish.now.config.now a.wish.now.extra.now a.wish.now.from.now a.wish.now.request.now next (cs ++ rest)) (if_false _ (here ∷ []) [] (sym c.is_candidate.ensures ∙ c.if-not-is_candidate.true)))
    (follows_none _ _ _ _)

pub returns-clause-done : goal.returns-clause-done
returns-clause-done g c = λ d n next rest.
    let a = c.args in
    let here : Candidate = record { local = a.number; port = a.local.now.port } in
    let plan = try_all a.wish.now.config.now a.wish.now.extra.now a.wish.now.from.now a.wish.now.request.now next in
    follows_as (ap (λ (cs : List Candidate). plan (cs ++ rest)) (if_true _ (here ∷ []) [] (sym c.is_candidate.ensures ∙ c.if-not-is_candidate.false)) ∙ try_more _ _ _ _ _ here rest)
    (c.try_one.ensures.done d n next (plan rest))
