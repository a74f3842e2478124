use Rattle.std.proofs.Common.{ℕ, List, [], sym, ap, ◌∙◌}
use Rattle.control_desk.specs.declared.counts.Verdict.TheVariants.{Over}
use Rattle.operator_lines.specs.Reading.{line_from}
use Rattle.control_desk.specs.State.{at_names, without}
use Rattle.control_desk.specs.Plan.{hang_up}
use Rattle.control_desk.specs.Operator.{operator_plan, read_plan, behind_line, behind_octet}
use Rattle.control_desk.proofs.Following.{follows_none, follows_as, follows_to, follows_then}
use Rattle.control_desk.proofs.Choices.{reaches, stays_below, unless_full, if_same, differs, equals}
use Rattle.control_desk.proofs.OperatorFacts.{full_octet, plain_octet, last_octet, behind_last}
use Rattle.control_desk.proofs.piece.hear_octet.Goals as goal

pub returns-then-is_full-clause-done : goal.returns-then-is_full-clause-done
returns-then-is_full-clause-done g c = λ s next rest. let f = c.args.setting.now in
    let u = at_names s c.args.names.now in
    let n = c.args.heard.conn in
    let t = c.args.hands.now.table.now in
    let gone = next Over (without u n) in
    let hang = hang_up n gone in
    follows_as (full_octet f n c.args.heard.now u next c.args.line.now c.args.octet rest (reaches _ _ (c.is_full.ensures.0 c.if-is_full.true)))
    (follows_then
    (follows_to (if_same c.send_line-sent.result hang) (c.send_line-sent.ensures t hang hang _))
    (c.drop_line.ensures t gone _ _))

pub returns-then-octet-ne-LINE_FEED-clause-done : goal.returns-then-octet-ne-LINE_FEED-clause-done
returns-then-octet-ne-LINE_FEED-clause-done g c = λ s next rest. let f = c.args.setting.now in
    let u = at_names s c.args.names.now in
    let n = c.args.heard.conn in
    let below = stays_below _ _ (unless_full c.is_full.result _ _ c.is_full.ensures.1 c.if-is_full.false) in
    follows_as (plain_octet f n c.args.heard.now u next c.args.line.now c.args.octet rest below (differs _ _ c.if-octet-ne-LINE_FEED.true)
    ∙ ap (λ (held : List ℕ). operator_plan f n c.args.heard.now u next held rest) (sym c.push.ensures))
    (follows_none _ _ _ _)

pub returns-clause-done : goal.returns-clause-done
returns-clause-done g c = λ s next rest. let f = c.args.setting.now in
    let u = at_names s c.args.names.now in
    let n = c.args.heard.conn in
    let now = c.args.heard.now in
    let below = stays_below _ _ (unless_full c.is_full.result _ _ c.is_full.ensures.1 c.if-is_full.false) in
    let more = behind_line (λ v. operator_plan f n now v next [] rest) next in
    let v = c.hear_line-verdict.result in
    let u' = at_names s c.hear_line-verdict.new.names in
    follows_as (last_octet f n now u next c.args.line.now c.args.octet rest below (equals _ _ c.if-octet-ne-LINE_FEED.false)
    ∙ ap (λ (o : List ℕ). read_plan f n now u more (line_from o)) (sym (c.octets.ensures ∙ c.push.ensures)))
    (follows_to (behind_last f n now next rest v u' ∙ ap (λ (held : List ℕ). behind_octet f n now next held rest v u') (sym c.clear.ensures))
    (c.hear_line-verdict.ensures.done s more))
