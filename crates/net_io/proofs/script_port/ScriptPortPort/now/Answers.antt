use Rattle.std.proofs.Common.{◌≡◌, ◌+◌, ◌∙◌, ℕ, List, [], length, drop, refl, ap, arith}
use Rattle.std.specs.Prelude.{min}
use Rattle.net_io.specs.Log.{first_or}
use Rattle.net_io.specs.declared.script_port.PortDeed.TheVariants.{Read}
use Rattle.net_io.proofs.LogFacts.{drop_next}
use Rattle.net_io.proofs.PortFacts.{log_grows}
use Rattle.net_io.proofs.script_port.ScriptPortPort.now.Goals as goal

pub returns-clause-log : goal.returns-clause-log
returns-clause-log c = rw (← c.self.view_is) (log_grows c.self.inside.log c.note.new.self (Read c.moment_at-moment.result) [] c.note.ensures)

pub returns-clause-moment : goal.returns-clause-moment
returns-clause-moment c = rw (← c.self.view_is) (c.moment_at-moment.ensures ∙ ap (λ (l : List ℕ). first_or c.self.inside.last (drop c.self.inside.read l)) c.deref.ensures.value)

pub returns-clause-after : goal.returns-clause-after
returns-clause-after c =
    let moments = c.self.inside.moments.items in
    let read = c.self.inside.read in
    let moment : c.moment_at-moment.result ≡ first_or c.self.inside.last (drop read moments) = c.moment_at-moment.ensures ∙ ap (λ (l : List ℕ). first_or c.self.inside.last (drop read l)) c.deref.ensures.value in
    let place : c.min-self-inside.result ≡ min (length moments) (read + 1) = omega arith in
    let rest : drop c.min-self-inside.result moments ≡ drop 1 (drop read moments) = ap (λ (n : ℕ). drop n moments) place ∙ drop_next moments read (omega arith) in
    rw (← c.self.view_is, rest, c.note.ensures, moment) refl
