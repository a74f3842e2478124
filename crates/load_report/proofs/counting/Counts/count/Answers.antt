use Rattle.std.proofs.Common.{ℕ, ◌+◌, List, refl, ap, ◌∙◌}
use Rattle.load_report.specs.Kinds.{one_if}
use Rattle.load_report.proofs.AnswerCodes.{has_code, counted_by_codes}
use Rattle.load_report.proofs.counting.Counts.count.Goals as goal

pub returns-clause-counted : goal.returns-clause-counted
returns-clause-counted c = λ a same.
    let octets : List ℕ = c.args.answer.now in
    let c0 = c.args.self.now in
    counted_by_codes c0 _ a octets same
    (ap (λ (n : ℕ). c0.sent + n) (c.one_if.ensures.value ∙ ap one_if c.has_code.ensures))
    (ap (λ (n : ℕ). c0.no_session + n) (c.one_if-2.ensures.value ∙ ap one_if (c.has_code-2.ensures ∙ ap (λ (k : ℕ). has_code k octets) c.code.ensures)))
    refl
