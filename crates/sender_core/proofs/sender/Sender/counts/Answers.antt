use Rattle.std.proofs.Common.{length, refl, ap, ◌∙◌}
use Rattle.sender_core.specs.State.{Measurement, span_of}
use Rattle.sender_core.proofs.StateFacts.{counts_are}
use Rattle.sender_core.proofs.sender.Sender.counts.Goals as goal

pub returns : goal.returns
returns c = λ ds h.
    c.counts.ensures
    ∙ counts_are c.args.self.now.plan.ssid ds c.self.inside.tally c.len.result (span_of c.self.inside.tally.numbers) (ap (λ (m : Measurement). m.tally) c.self.view_is ∙ h.tally)
    (c.len.ensures ∙ c.self.inside.moments.ok.0 ∙ ap (λ (m : Measurement). length m.sendings) c.self.view_is ∙ ap length h.sendings) refl
