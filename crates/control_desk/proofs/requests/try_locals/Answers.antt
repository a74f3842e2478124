use Rattle.std.proofs.Common.{◌≡◌, ◌+◌, ◌<◌, ◌++◌, List, [], length, drop, sym, ap, ◌∙◌, arith}
use Rattle.std.proofs.lemmas.List.{drop_all}
use Rattle.refl_types.specs.declared.types.Endpoint.{Endpoint}
use Rattle.control_desk.specs.Control.{chosen, is_candidate, try_all}
use Rattle.control_desk.proofs.Following.{follows_as, follows_to, follows_then}
use Rattle.control_desk.proofs.RequestFacts.{done_with, goes_on, next_chosen}
use Rattle.control_desk.proofs.requests.try_locals.Goals as goal

pub returns-then-not-tries_next-clause-done : goal.returns-then-not-tries_next-clause-done
returns-then-not-tries_next-clause-done g c = λ d n next rest.
    let a = c.args in
    let r = a.wish.now.request.now in
    let i = c.loop-i.i in
    let test = is_candidate r.v6 a.wish.now.to.now r.receiver_port a.wanted in
    let lt : i < length a.locals.now = omega (arith, c.loop-i-test.true) in
    let left = chosen test (i + 1) (drop (i + 1) a.locals.now) ++ rest in
    let plan = try_all a.wish.now.config.now a.wish.now.extra.now a.wish.now.from.now r next in
    follows_then (c.loop-i.invariant.done d n next rest)
    (follows_as (ap plan (next_chosen test a.locals.now i _ rest lt))
    (follows_to (done_with c.try_local-tried.result next (plan left) (plan rest) (sym c.tries_next.ensures ∙ c.if-not-tries_next.true))
    (c.try_local-tried.ensures.done d n next left)))

pub loop-i-preserved : goal.loop-i-preserved
loop-i-preserved g c = record {
  book = c.try_local-tried.ensures.book;
  done = λ d n next rest.
      let a = c.args in
      let r = a.wish.now.request.now in
      let i = c.loop-i.i in
      let test = is_candidate r.v6 a.wish.now.to.now r.receiver_port a.wanted in
      let lt : i < length a.locals.now = omega (arith, c.loop-i-test.true) in
      let left = chosen test (i + 1) (drop (i + 1) a.locals.now) ++ rest in
      let plan = try_all a.wish.now.config.now a.wish.now.extra.now a.wish.now.from.now r next in
      follows_then (c.loop-i.invariant.done d n next rest)
      (follows_as (ap plan (next_chosen test a.locals.now i _ rest lt))
      (follows_to (goes_on c.try_local-tried.result next (plan left) (sym c.tries_next.ensures ∙ c.if-not-tries_next.false))
      (c.try_local-tried.ensures.done d n next left)));
}

pub returns-clause-done : goal.returns-clause-done
returns-clause-done g c = λ d n next rest.
    let a = c.args in
    let r = a.wish.now.request.now in
    let i = c.loop-i.i in
    let test = is_candidate r.v6 a.wish.now.to.now r.receiver_port a.wanted in
    let none : drop i a.locals.now ≡ [] = drop_all i a.locals.now (omega (arith, c.loop-i-test.false)) in
    follows_to (ap (λ (ls : List Endpoint). try_all a.wish.now.config.now a.wish.now.extra.now a.wish.now.from.now r next (chosen test i ls ++ rest)) none) (c.loop-i.invariant.done d n next rest)
