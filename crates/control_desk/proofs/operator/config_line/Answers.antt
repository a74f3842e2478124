use Rattle.std.proofs.Common.{List, Option, sym, ap, ◌∙◌}
use Rattle.refl_types.specs.declared.config.ConfigParts.{ConfigParts}
use Rattle.operator_lines.specs.declared.answer.Refusal.TheVariants as refusals
use Rattle.operator_lines.specs.declared.answer.Answer.TheVariants.{Done}
use Rattle.control_desk.specs.State.{at_names, with_name}
use Rattle.control_desk.specs.Operator.{name_config, new_name, say, refuse}
use Rattle.control_desk.proofs.Following.{follows_as}
use Rattle.control_desk.proofs.Choices.{reaches, stays_below, unless_full, if_true, if_false}
use Rattle.control_desk.proofs.OperatorFacts.{known_name, other_name}
use Rattle.control_desk.proofs.operator.config_line.Goals as goal

pub returns-in_default : goal.returns-in_default
returns-in_default g c = λ s next t b.
    let u = at_names s c.args.names.now in
    follows_as (ap (λ (o : Option ConfigParts). name_config c.args.conn u c.args.name.now o next) (sym c.read_config.ensures ∙ c.in_default.is))
    (c.answer.ensures t u next b)

pub returns-then-is_some : goal.returns-then-is_some
returns-then-is_some g c = λ s next t b.
    let u = at_names s c.args.names.now in
    let name = c.args.name.now in
    let some = ap (λ (o : Option ConfigParts). name_config c.args.conn u name o next) (sym c.read_config.ensures ∙ c.in-Some.is) in
    let known = ap (new_name c.args.conn u name c.in-Some.config next) (sym c.find.ensures)
    ∙ known_name c.args.conn u name c.in-Some.config next c.find.result (sym c.is_some.ensures ∙ c.if-is_some.true) in
    follows_as (some ∙ known) (c.answer-then-is_some.ensures t u next b)

pub returns-then-is_full : goal.returns-then-is_full
returns-then-is_full g c = λ s next t b.
    let u = at_names s c.args.names.now in
    let name = c.args.name.now in
    let some = ap (λ (o : Option ConfigParts). name_config c.args.conn u name o next) (sym c.read_config.ensures ∙ c.in-Some.is) in
    let other = ap (new_name c.args.conn u name c.in-Some.config next) (sym c.find.ensures ∙ other_name c.find.result (sym c.is_some.ensures ∙ c.if-is_some.false)) in
    follows_as (some ∙ other ∙ if_true _ (refuse c.args.conn refusals.NamesFull u next) (say c.args.conn Done (with_name u name c.in-Some.config) next) (reaches _ _ (c.is_full.ensures.0 c.if-is_full.true)))
    (c.answer-then-is_full.ensures t u next b)

pub returns : goal.returns
returns g c = λ s next t b.
    let u = at_names s c.args.names.now in
    let name = c.args.name.now in
    let some = ap (λ (o : Option ConfigParts). name_config c.args.conn u name o next) (sym c.read_config.ensures ∙ c.in-Some.is) in
    let other = ap (new_name c.args.conn u name c.in-Some.config next) (sym c.find.ensures ∙ other_name c.find.result (sym c.is_some.ensures ∙ c.if-is_some.false)) in
    let added = ap (λ (l : List _). say c.args.conn Done (at_names s l) next) (sym c.add.ensures) in
    follows_as (some ∙ other ∙ if_false _ (refuse c.args.conn refusals.NamesFull u next) (say c.args.conn Done (with_name u name c.in-Some.config) next) (stays_below _ _ (unless_full c.is_full.result _ _ c.is_full.ensures.1 c.if-is_full.false)) ∙ added)
    (c.answer-2.ensures t (at_names s c.add.new.self) next b)
