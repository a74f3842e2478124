use Rattle.std.proofs.Common.{◌≡◌, Err, ◌∙◌, sym, ◌++◌, ◌∷◌, []}
use Rattle.toml.specs.View.{view}
use Rattle.conf_text.specs.Faults.{fault_of}
use Rattle.conf_text.proofs.FaultFacts.{handed, told}
use Rattle.conf_text.proofs.SessionFacts.{session-read, session-refused, session-stopped, not-refused}
use Rattle.conf_text.proofs.sessions.session_of.Goals as goal

pub returns-in_err-session-clause-value : goal.returns-in_err-session-clause-value
returns-in_err-session-clause-value c = λ earlier by.
    handed (λ s. earlier ++ s ∷ []) c.from_residual.result c.in_err-session.field-0.0 _ c.from_residual.ensures.1
    (session-stopped c.args.locals c.args.configs.now earlier c.args.path.now (view c.args.value.now) (fault_of c.in_err-session.field-0.0) c.in_err-session.ensures)

pub returns-then-is_refused-clause-value : goal.returns-then-is_refused-clause-value
returns-then-is_refused-clause-value c = λ earlier by.
    told c.bad_value.result _ _ (session-refused c.args.locals c.args.configs.now earlier c.args.path.now (view c.args.value.now) c.in_ok-session.session c.in_ok-session.ensures (sym (c.is_refused.ensures earlier by) ∙ c.if-is_refused.true)) c.bad_value.ensures

pub returns-clause-value : goal.returns-clause-value
returns-clause-value c = λ earlier by.
    session-read c.args.locals c.args.configs.now earlier c.args.path.now (view c.args.value.now) c.in_ok-session.session c.in_ok-session.ensures (sym (c.is_refused.ensures earlier by) ∙ c.if-is_refused.false)

pub returns-clause-apart : goal.returns-clause-apart
returns-clause-apart c = λ earlier by. not-refused c.in_ok-session.session earlier (sym (c.is_refused.ensures earlier by) ∙ c.if-is_refused.false)
