use Rattle.std.proofs.Common.{◌≡◌, ℕ, ◌+◌, refl, sym, ap, subst, ◌∙◌, arith}
use Rattle.receive_worker.specs.declared.tally.Tally.{Tally}
use Rattle.receive_worker.specs.Faults.{RisesBy}
use Rattle.receive_worker.specs.Tally.{AddsUp}
use Rattle.receive_worker.specs.Work.{failures_of}
use Rattle.receive_worker.proofs.GrowthFacts.{rises_none, rises_then}
use Rattle.receive_worker.proofs.RoundFacts.{adds_up, faults_with, progress_of, begins, goes_on, ends, spent}
use Rattle.receive_worker.proofs.working.take_all.Goals as goal

pub returns-then-turns-eq0-clause-works : goal.returns-then-turns-eq0-clause-works
returns-then-turns-eq0-clause-works g c =
    spent c.args.table.now c.args.locals.now c.args.limit c.args.turns c.args.seat.now (g.P.Port.shown c.args.port.now) c.new-tally.result c.if-turns-eq0.true c.new-tally.ensures

pub rounds-init : goal.rounds-init
rounds-init g c =
    let faults = (g.P.Port.shown c.args.port.now).faults in
    let some = c.if-turns-eq0.false in
    record {
      seat = record { steps = refl; number = refl; seat = c.requires.same; schedule = c.requires.schedule };
      nothing = c.requires.nothing;
      retired = c.requires.retired;
      read = c.requires.read;
      bound = refl;
      made = refl;
      faults = subst (λ (t : Tally). RisesBy (t.recv_fault + t.send_fault) faults faults) (sym c.new-tally.ensures) (rises_none faults faults refl);
      going = begins c.args.table.now c.args.locals.now c.args.limit c.args.turns c.args.seat.now (g.P.Port.shown c.args.port.now) c.new-tally.result c.new-tally.ensures;
      room = subst (AddsUp 0) (sym c.new-tally.ensures) (record { outcomes = refl; calls = omega arith });
      range = omega (arith, some);
      short = omega arith;
    }

pub returns-in-Some-clause-works : goal.returns-in-Some-clause-works
returns-in-Some-clause-works g c =
    let l = c.rounds in
    let range = l.invariant.range in
    ends c.args.table.now c.args.locals.now c.args.limit c.args.turns c.args.seat.now l.seat c.round-begun.new.seat (g.P.Port.shown c.args.port.now) (g.P.Port.shown l.port) (g.P.Port.shown c.round-begun.new.port) l.tally l.calls l.failed
    c.round-begun.result c.failed_in_a_row-failed.result c.add.new.self c.in-Some.end c.law_reads.ensures (λ (e : c.args.turns ≡ 0). omega (arith, range, e)) l.invariant.going c.round-begun.ensures.round
    (c.failed_in_a_row-failed.ensures.row (progress_of l.tally l.calls l.failed) refl) c.add.ensures (sym c.due.ensures.value ∙ c.in-Some.is)

pub rounds-preserved : goal.rounds-preserved
rounds-preserved g c =
    let l = c.rounds in
    let b = c.round-begun.result in
    let range = l.invariant.range in
    let short = l.invariant.short in
    let grown = c.failed_in_a_row-failed.ensures.more in
    let further = c.due.ensures.going c.in_default.is in
    record {
      seat = record { steps = refl; number = c.round-begun.ensures.seat.number ∙ l.invariant.seat.number; seat = c.round-begun.ensures.seat.seat; schedule = c.round-begun.ensures.seat.schedule };
      nothing = c.round-begun.ensures.nothing;
      retired = c.round-begun.ensures.retired;
      read = c.round-begun.ensures.read;
      bound = c.round-begun.ensures.bound ∙ l.invariant.bound;
      made = c.round-begun.ensures.made ∙ l.invariant.made;
      faults = subst (λ (n : ℕ). RisesBy n (g.P.Port.shown c.args.port.now).faults (g.P.Port.shown c.round-begun.new.port).faults)
          (sym (faults_with l.tally b) ∙ ap (λ (t : Tally). t.recv_fault + t.send_fault) (sym c.add.ensures))
          (rises_then (l.tally.recv_fault + l.tally.send_fault) (failures_of b) (g.P.Port.shown c.args.port.now).faults (g.P.Port.shown l.port).faults (g.P.Port.shown c.round-begun.new.port).faults l.invariant.faults c.round-begun.ensures.faults);
      going = goes_on c.args.table.now c.args.locals.now c.args.limit c.args.turns c.args.seat.now l.seat c.round-begun.new.seat (g.P.Port.shown c.args.port.now) (g.P.Port.shown l.port) (g.P.Port.shown c.round-begun.new.port) l.tally l.calls l.failed
          b c.failed_in_a_row-failed.result c.add.new.self c.law_reads.ensures l.invariant.going c.round-begun.ensures.round
          (c.failed_in_a_row-failed.ensures.row (progress_of l.tally l.calls l.failed) refl) c.add.ensures (sym c.due.ensures.value ∙ c.in_default.is);
      room = subst (AddsUp (l.calls + 1)) (sym c.add.ensures) (adds_up l.calls l.tally b l.invariant.room);
      range = omega (arith, range, further);
      short = omega (arith, short, grown);
    }
