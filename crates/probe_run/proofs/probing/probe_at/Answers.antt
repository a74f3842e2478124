use Rattle.std.proofs.Common.{inl, inr, Result, Err, ap, arith}
use Rattle.probe_run.specs.declared.probe.Measured.{Measured}
use Rattle.probe_run.specs.declared.probe.MeasureFault.{MeasureFault}
use Rattle.probe_run.specs.Telling.{HasMeasured}
use Rattle.probe_run.proofs.TellFacts.{not_measured, told_cause, told_itself, told_whole}
use Rattle.probe_run.proofs.probing.probe_at.Goals as goal

pub returns-in-Ok-clause-port_cause : goal.returns-in-Ok-clause-port_cause
returns-in-Ok-clause-port_cause g c = λ nine.
    let v = g.P.Port.shown in
    let h : HasMeasured v c.args.probe.now c.in-Ok.measured c.args.port.now c.measure.new.port = record { measured = c.in-Ok.ensures.measured; bound = c.in-Ok.ensures.bound; made = c.measure.ensures.made } in
    elim c.tell_measured.ensures.told [
      | inl four ↦ absurd (omega (arith, four, nine))
      | inr (inl eight) ↦ absurd (omega (arith, eight, nine))
      | inr (inr w) ↦ told_cause v c.args.probe.now c.in-Ok.measured c.args.port.now c.measure.new.port h c.tell_measured.result (g.K.Sink.shown c.args.out.now) (g.K.Sink.shown c.tell_measured.new.out) w nine
    ]

pub returns-in-Ok-clause-complete : goal.returns-in-Ok-clause-complete
returns-in-Ok-clause-complete g c = λ n.
    let v = g.P.Port.shown in
    let h : HasMeasured v c.args.probe.now c.in-Ok.measured c.args.port.now c.measure.new.port = record { measured = c.in-Ok.ensures.measured; bound = c.in-Ok.ensures.bound; made = c.measure.ensures.made } in
    elim c.tell_measured.ensures.told [
      | inl four ↦ inr four
      | inr (inl eight) ↦ absurd (n.writes (c.tell_measured.ensures.lost eight).1)
      | inr (inr w) ↦ inl (told_whole v c.args.probe.now c.in-Ok.measured c.args.port.now c.measure.new.port h c.tell_measured.result (g.K.Sink.shown c.args.out.now) (g.K.Sink.shown c.tell_measured.new.out) n w)
    ]

pub returns-in-Ok-clause-ended : goal.returns-in-Ok-clause-ended
returns-in-Ok-clause-ended g c = λ n.
    let v = g.P.Port.shown in
    let h : HasMeasured v c.args.probe.now c.in-Ok.measured c.args.port.now c.measure.new.port = record { measured = c.in-Ok.ensures.measured; bound = c.in-Ok.ensures.bound; made = c.measure.ensures.made } in
    elim c.tell_measured.ensures.told [
      | inl four ↦ inr four
      | inr (inl eight) ↦ absurd (n.writes (c.tell_measured.ensures.lost eight).1)
      | inr (inr w) ↦ inl (told_itself v c.args.probe.now c.in-Ok.measured c.args.port.now c.measure.new.port h c.tell_measured.result (g.K.Sink.shown c.args.out.now) (g.K.Sink.shown c.tell_measured.new.out) n w)
    ]

pub returns-in-Err-PortOpen-clause-ended : goal.returns-in-Err-PortOpen-clause-ended
returns-in-Err-PortOpen-clause-ended g c = λ n.
    absurd (not_measured g.P.Port.shown c.args.probe.now (g.K.Sink.shown c.args.out.now) (g.K.Sink.shown c.tell_end.new.out) c.args.port.now c.measure.new.port n (c.in-Err-PortOpen.ensures.port_open (ap (λ (f : MeasureFault). let r : Result Measured MeasureFault = Err f in r) c.in-Err-PortOpen.field-0-is)).0)
