use Rattle.std.proofs.Common.{[], ◌∷◌, ◌++◌, ap, ◌∙◌}
use Rattle.sender_core.specs.State.{Measurement}
use Rattle.sender_core.proofs.StateFacts.{after_sending}
use Rattle.sender_core.proofs.sender.Sender.request.Goals as goal

pub returns-clause-after : goal.returns-clause-after
returns-clause-after c = λ ds h.
    after_sending ds c.args.self.now _ h (ap (λ (m : Measurement). m.plan) c.self.view_is) c.args.now
    (c.push_within.ensures.items ∙ ap (λ (m : Measurement). m.sendings ++ c.args.now ∷ []) c.self.view_is)
    (ap (λ (m : Measurement). m.answered) c.self.view_is) (ap (λ (m : Measurement). m.tally) c.self.view_is)
