use Rattle.joined_run.proofs.running.run_joined.Goals as goal

pub returns-clause-end : goal.returns-clause-end
returns-clause-end c = λ mode wishes new. c.law_joined.ensures.ends _ _ _ _ _ _ _ _ _ mode wishes c.law_ports.ensures new c.run_desk.ensures.gone c.requires.turns

pub returns-clause-joined : goal.returns-clause-joined
returns-clause-joined c = λ mode wishes new.
    let end = c.law_joined.ensures.ends _ _ _ _ _ _ _ _ _ mode wishes c.law_ports.ensures new c.run_desk.ensures.gone c.requires.turns in
    record { run = c.run_desk.ensures.gone; joined = c.law_joined.ensures.joins _ _ _ _ _ _ _ _ _ mode wishes c.law_ports.ensures new c.run_desk.ensures.gone end }
