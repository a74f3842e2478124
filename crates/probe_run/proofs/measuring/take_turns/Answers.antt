use Rattle.std.proofs.Common.{sym, ap, ◌∙◌, arith}
use Rattle.probe_run.specs.declared.progress.Progress.{Progress}
use Rattle.probe_run.proofs.TurnFacts.{finishes, goes_on, ends, calls_more, failed_more, foreign_more}
use Rattle.probe_run.proofs.measuring.take_turns.Goals as goal

pub returns-in-Finished-clause-taken : goal.returns-in-Finished-clause-taken
returns-in-Finished-clause-taken g c =
    finishes c.args.peer.now c.args.sender.now c.turns.sender (g.P.Port.shown c.args.port.now).log (g.P.Port.shown c.turns.port).log (g.P.Port.shown c.now-now.new.self).log
    (g.P.Port.shown c.args.port.now).faults (g.P.Port.shown c.turns.port).faults (g.P.Port.shown c.now-now.new.self).faults c.turns.progress c.now-now.result
    c.turns.invariant.going c.now-now.ensures.log c.now-now.ensures.still (sym c.due.ensures ∙ c.in-Finished.is)

pub returns-in-Some-clause-taken : goal.returns-in-Some-clause-taken
returns-in-Some-clause-taken g c =
    ends c.args.peer.now c.args.sender.now c.turns.sender c.send_due.new.sender c.receive-came.new.sender
    (g.P.Port.shown c.args.port.now).log (g.P.Port.shown c.turns.port).log (g.P.Port.shown c.now-now.new.self).log (g.P.Port.shown c.send_due.new.port).log (g.P.Port.shown c.receive-came.new.port).log
    (g.P.Port.shown c.args.port.now).faults (g.P.Port.shown c.turns.port).faults (g.P.Port.shown c.now-now.new.self).faults (g.P.Port.shown c.send_due.new.port).faults (g.P.Port.shown c.receive-came.new.port).faults
    c.turns.progress c.add.new.self c.now-now.result c.receive-came.result
    c.turns.invariant.going c.now-now.ensures.log c.now-now.ensures.still c.send_due.ensures.sent c.receive-came.ensures.received c.add.ensures
    c.in-Some.end c.in-Some.ensures.unfinished (sym c.end.ensures.value ∙ c.in-Some.is)

pub turns-preserved : goal.turns-preserved
turns-preserved g c =
    let p = c.turns.progress in
    let cm = c.receive-came.result in
    let more = ap (λ (q : Progress). q.calls) c.add.ensures ∙ calls_more p cm in
    let range = c.turns.invariant.range in
    let further = c.end.ensures.going c.in_default-end.is in
    record {
      going = goes_on c.args.peer.now c.args.sender.now c.turns.sender c.send_due.new.sender c.receive-came.new.sender
          (g.P.Port.shown c.args.port.now).log (g.P.Port.shown c.turns.port).log (g.P.Port.shown c.now-now.new.self).log (g.P.Port.shown c.send_due.new.port).log (g.P.Port.shown c.receive-came.new.port).log
          (g.P.Port.shown c.args.port.now).faults (g.P.Port.shown c.turns.port).faults (g.P.Port.shown c.now-now.new.self).faults (g.P.Port.shown c.send_due.new.port).faults (g.P.Port.shown c.receive-came.new.port).faults
          p c.add.new.self c.now-now.result cm
          c.turns.invariant.going c.now-now.ensures.log c.now-now.ensures.still c.send_due.ensures.sent c.receive-came.ensures.received c.add.ensures
          (sym c.end.ensures.value ∙ c.in_default-end.is);
      bound = c.receive-came.ensures.bound ∙ c.send_due.ensures.bound ∙ c.now-now.ensures.bound ∙ c.turns.invariant.bound;
      made = c.receive-came.ensures.made ∙ c.send_due.ensures.made ∙ c.now-now.ensures.made ∙ c.turns.invariant.made;
      range = omega (arith, more, range, further);
      failed = let h = failed_more p cm c.turns.invariant.failed in let e = ap (λ (q : Progress). q.failed) c.add.ensures in omega (arith, more, h, e);
      foreign = let h = foreign_more p cm c.turns.invariant.foreign in let e = ap (λ (q : Progress). q.foreign) c.add.ensures in omega (arith, more, h, e);
    }
