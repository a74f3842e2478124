use Rattle.std.proofs.Common.{◌≡◌, ℕ, Some, None, sym, ap, ◌∙◌}
use Rattle.session_world.specs.Worker.{announced}
use Rattle.receive_worker.proofs.laws.law_retires.Goals as goal

pub returns : goal.returns
returns c = λ t locals limit turns before after log log' tally slot steps h e. none slot (sym (ap announced e) ∙ h.retired)
  where
    none : (i : ℕ) → Some i ≡ None → ⊥
    none i q = absurd cc
