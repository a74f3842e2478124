use Rattle.std.proofs.Common.{◌≡◌, false, List, [], sym, ap, ◌∙◌}
use Rattle.refl_types.specs.declared.types.Address.{Address}
use Rattle.refl_types.specs.declared.types.Endpoint.{Endpoint}
use Rattle.control_msgs.specs.declared.codes.Accept.TheVariants.{NotSupported, PermanentLimit, TemporaryLimit}
use Rattle.twamp_control.specs.declared.types.DeskAnswer.TheVariants.{Reserved, Refused}
use Rattle.control_desk.specs.declared.requests.Tried.{Tried}
use Rattle.control_desk.specs.declared.own.OwnSession.{OwnSession}
use Rattle.control_desk.specs.Control.{NextAnswer, under_twamp, is_served, or_else, with_own, after_tried}
use Rattle.control_desk.proofs.Choices.{if_true, if_false}
use Rattle.control_desk.proofs.Following.{follows_as, follows_to, follows_none}
use Rattle.control_desk.proofs.RequestFacts.{served}
use Rattle.control_desk.proofs.requests.reserve_session.Goals as goal

pub returns-then-is_full-clause-done : goal.returns-then-is_full-clause-done
returns-then-is_full-clause-done g c = λ f d n next locals twamp.
    let N : NextAnswer = λ answer own. next answer (with_own c.args.side.now own) in
    follows_as (if_true _ (N (Refused PermanentLimit) []) (under_twamp f c.args.side.now c.args.request.now N f.twamp) (sym c.is_full.ensures ∙ c.if-is_full.true)) (follows_none _ _ _ _)

pub returns-in_default-clause-done : goal.returns-in_default-clause-done
returns-in_default-clause-done g c = λ f d n next locals twamp.
    let N : NextAnswer = λ answer own. next answer (with_own c.args.side.now own) in
    let under = under_twamp f c.args.side.now c.args.request.now N in
    follows_as (if_false _ (N (Refused PermanentLimit) []) (under f.twamp) (sym c.is_full.ensures ∙ c.if-is_full.false) ∙ ap under (twamp ∙ c.in_default.is)) (follows_none _ _ _ _)

pub returns-then-not-is_served-clause-done : goal.returns-then-not-is_served-clause-done
returns-then-not-is_served-clause-done g c = λ f d n next locals twamp.
    let a = c.args in
    let r = a.request.now in
    let N : NextAnswer = λ answer own. next answer (with_own a.side.now own) in
    let under = under_twamp f a.side.now r N in
    let from = or_else r.sender a.side.now.peer in
    let to = or_else r.receiver a.side.now.local in
    let no : is_served f.locals r from to ≡ false =
    ap (λ (ls : List Endpoint). is_served ls r from to) locals ∙ ap (λ (b : Address). is_served a.locals.now r b to) (sym c.or_else-from.ensures)
    ∙ ap (is_served a.locals.now r c.or_else-from.result) (sym c.or_else-to.ensures) ∙ sym c.is_served.ensures ∙ c.if-not-is_served.true in
    follows_as (if_false _ (N (Refused PermanentLimit) []) (under f.twamp) (sym c.is_full.ensures ∙ c.if-is_full.false) ∙ ap under (twamp ∙ c.in-Some.is) ∙ if_false _ _ (N (Refused NotSupported) []) no) (follows_none _ _ _ _)

pub returns-in-Taken-clause-done : goal.returns-in-Taken-clause-done
returns-in-Taken-clause-done g c = λ f d n next locals twamp.
    let a = c.args in
    let r = a.request.now in
    let N : NextAnswer = λ answer own. next answer (with_own a.side.now own) in
    let own = c.in-Taken.own in
    let port = c.in-Taken.port in
    let gained = ap (λ (o : Tried). after_tried o N (N (Refused TemporaryLimit) [])) c.in-Taken.is
    ∙ ap (λ (os : List OwnSession). next (Reserved own.place port) (record a.side.now { sessions = os })) (sym c.push.ensures) in
    follows_as (served f a.side.now r N c.in-Some.config a.locals.now c.or_else-from.result c.or_else-to.result c.extra_of-extra.result c.mode.result
    (sym c.is_full.ensures ∙ c.if-is_full.false) (twamp ∙ c.in-Some.is) locals c.or_else-from.ensures c.or_else-to.ensures c.mode.ensures c.extra_of-extra.ensures (sym c.is_served.ensures ∙ c.if-not-is_served.false))
    (follows_to gained (c.try_candidates.ensures.done d n N))

pub returns-in-RefusedAll-clause-done : goal.returns-in-RefusedAll-clause-done
returns-in-RefusedAll-clause-done g c = λ f d n next locals twamp.
    let a = c.args in
    let r = a.request.now in
    let N : NextAnswer = λ answer own. next answer (with_own a.side.now own) in
    follows_as (served f a.side.now r N c.in-Some.config a.locals.now c.or_else-from.result c.or_else-to.result c.extra_of-extra.result c.mode.result
    (sym c.is_full.ensures ∙ c.if-is_full.false) (twamp ∙ c.in-Some.is) locals c.or_else-from.ensures c.or_else-to.ensures c.mode.ensures c.extra_of-extra.ensures (sym c.is_served.ensures ∙ c.if-not-is_served.false))
    (follows_to (ap (λ (o : Tried). after_tried o N (N (Refused TemporaryLimit) [])) c.in-RefusedAll.is) (c.try_candidates.ensures.done d n N))

pub returns-in-TriesNext-clause-done : goal.returns-in-TriesNext-clause-done
returns-in-TriesNext-clause-done g c = λ f d n next locals twamp.
    let a = c.args in
    let r = a.request.now in
    let N : NextAnswer = λ answer own. next answer (with_own a.side.now own) in
    follows_as (served f a.side.now r N c.in-Some.config a.locals.now c.or_else-from.result c.or_else-to.result c.extra_of-extra.result c.mode.result
    (sym c.is_full.ensures ∙ c.if-is_full.false) (twamp ∙ c.in-Some.is) locals c.or_else-from.ensures c.or_else-to.ensures c.mode.ensures c.extra_of-extra.ensures (sym c.is_served.ensures ∙ c.if-not-is_served.false))
    (follows_to (ap (λ (o : Tried). after_tried o N (N (Refused TemporaryLimit) [])) c.in-TriesNext.is) (c.try_candidates.ensures.done d n N))
