use Rattle.std.proofs.Common.{ℕ, ◌+◌, ◌-◌, ◌^◌, min, ap, ◌∙◌}
use Rattle.probe_run.proofs.TurnFacts.{counts_more}
use Rattle.probe_run.proofs.measuring.counts_with.Goals as goal

pub returns : goal.returns
returns c = λ ds h.
    let n = c.counts-counts.result in
    ap (λ (k : ℕ). record n { strangers = k }) (c.saturating_add.ensures ∙ ap (λ (k : ℕ). min (n.strangers + k) (2 ^ 64 - 1)) c.from.ensures)
    ∙ counts_more c.args.sender.now.plan.ssid ds c.args.others n (c.counts-counts.ensures ds h)
