use Rattle.std.proofs.Common.{◌≡◌, List, sym, ap, ◌∙◌, subst, length, leb, true, false, arith}
use Rattle.refl_types.specs.declared.types.Endpoint.{Endpoint}
use Rattle.operator_lines.specs.declared.answer.Refusal.TheVariants as refusals
use Rattle.control_desk.specs.State.{at_names, config_in}
use Rattle.control_desk.specs.Operator.{open_under, refuse}
use Rattle.control_desk.proofs.Following.{follows_as}
use Rattle.control_desk.proofs.Choices.{reaches, stays_below, if_true, if_false}
use Rattle.control_desk.proofs.operator.open_line.Goals as goal

pub returns-then-opening-locals-clause-done : goal.returns-then-opening-locals-clause-done
returns-then-opening-locals-clause-done g c = λ s next. let f = c.args.setting.now in
    let u = at_names s c.args.names.now in
    let k = c.args.opening.now.key.now in
    follows_as (if_true _ (refuse c.args.heard.conn refusals.Local u next) (open_under c.args.heard.conn c.args.heard.now u k c.args.opening.now.wait next (config_in c.args.names.now c.args.opening.now.name.now))
    (subst (λ (l : List Endpoint). leb (length l) k.local ≡ true) c.locals.ensures.value (reaches _ _ c.if-opening-locals.true)))
    (c.answer.ensures c.args.hands.now.table.now u next _)

pub returns-in-None-clause-done : goal.returns-in-None-clause-done
returns-in-None-clause-done g c = λ s next. let f = c.args.setting.now in
    let u = at_names s c.args.names.now in
    let k = c.args.opening.now.key.now in
    let below = subst (λ (l : List Endpoint). leb (length l) k.local ≡ false) c.locals.ensures.value (stays_below (length c.locals.result.now) k.local (omega (arith, c.if-opening-locals.false))) in
    let none = ap (open_under c.args.heard.conn c.args.heard.now u k c.args.opening.now.wait next) (sym c.find.ensures ∙ c.in-None.is) in
    follows_as (if_false _ (refuse c.args.heard.conn refusals.Local u next) (open_under c.args.heard.conn c.args.heard.now u k c.args.opening.now.wait next (config_in c.args.names.now c.args.opening.now.name.now)) below ∙ none)
    (c.answer-in-None.ensures c.args.hands.now.table.now u next _)

pub returns-in-Some-clause-done : goal.returns-in-Some-clause-done
returns-in-Some-clause-done g c = λ s next. let f = c.args.setting.now in
    let u = at_names s c.args.names.now in
    let k = c.args.opening.now.key.now in
    let below = subst (λ (l : List Endpoint). leb (length l) k.local ≡ false) c.locals.ensures.value (stays_below (length c.locals.result.now) k.local (omega (arith, c.if-opening-locals.false))) in
    let some = ap (open_under c.args.heard.conn c.args.heard.now u k c.args.opening.now.wait next) (sym c.find.ensures ∙ c.in-Some.is) in
    follows_as (if_false _ (refuse c.args.heard.conn refusals.Local u next) (open_under c.args.heard.conn c.args.heard.now u k c.args.opening.now.wait next (config_in c.args.names.now c.args.opening.now.name.now)) below ∙ some)
    (c.open_under.ensures.done u next)
