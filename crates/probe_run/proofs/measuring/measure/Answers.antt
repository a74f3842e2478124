use Rattle.std.proofs.Common.{◌∙◌}
use Rattle.probe_run.specs.Plan.{plan_of}
use Rattle.probe_run.proofs.TurnFacts.{not_begun, whole}
use Rattle.probe_run.proofs.measuring.measure.Goals as goal

pub returns-in_default-make-clause-memory : goal.returns-in_default-make-clause-memory
returns-in_default-make-clause-memory g c = λ e. (
  not_begun c.args.probe.now.local (g.P.Port.shown c.args.port.now) (g.P.Port.shown c.open.new.self) (g.P.Port.shown c.now-start.new.self) (g.P.Port.shown c.done.new.self) c.now-start.result
      c.in-Ok-open.ensures.log c.now-start.ensures.log c.done.ensures.log
      (c.done.ensures.bound ∙ c.now-start.ensures.bound ∙ c.in-Ok-open.ensures.bound),
  c.done.ensures.still ∙ c.now-start.ensures.still ∙ c.in-Ok-open.ensures.still,
)

pub returns-clause-measured : goal.returns-clause-measured
returns-clause-measured g c =
    whole (plan_of c.args.probe.now) c.args.probe.now.peer c.in-Ok-make.sender c.take_turns-end.new.sender
    (g.P.Port.shown c.args.port.now).log (g.P.Port.shown c.open.new.self).log (g.P.Port.shown c.now-start.new.self).log (g.P.Port.shown c.take_turns-end.new.port).log (g.P.Port.shown c.done-2.new.self).log
    (g.P.Port.shown c.args.port.now).faults (g.P.Port.shown c.now-start.new.self).faults (g.P.Port.shown c.take_turns-end.new.port).faults (g.P.Port.shown c.done-2.new.self).faults
    c.now-start.result c.take_turns-end.result.1 c.counts_with-counts.result c.take_turns-end.result.0
    c.in-Ok-open.ensures.log c.now-start.ensures.log c.take_turns-end.ensures.taken c.done-2.ensures.log
    (c.now-start.ensures.still ∙ c.in-Ok-open.ensures.still) c.done-2.ensures.still c.in-Ok-make.ensures.made.0 c.in-Ok-make.ensures.made.1
    c.counts_with-counts.ensures
