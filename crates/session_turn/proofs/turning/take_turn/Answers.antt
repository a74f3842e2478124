use Rattle.std.proofs.Common.{refl, sym, subst}
use Rattle.session_rule.specs.Seats.{size_of, worker_steps}
use Rattle.session_key.specs.Matching.{query_of}
use Rattle.session_turn.specs.Turn.{IsJudged, Reflects, outcome_of}
use Rattle.session_turn.specs.declared.judging.Verdict.{Verdict}
use Rattle.session_turn.proofs.TurnFacts.{come_then, missed_turn, sighted, silent_turn, late_turn, numbered_same, numbered, drawn_turn, same_drawn, again_drawn}
use Rattle.session_turn.proofs.turning.take_turn.Goals as goal

pub returns-in_default-clause-turned : goal.returns-in_default-clause-turned
returns-in_default-clause-turned c =
    let q = query_of c.args.meta.now.local c.args.meta.now.peer c.args.octets.now in
    let none = c.in_default.ensures.sees.0 in
    missed_turn c.law_reads.ensures c.args.table.now q c.args.octets.now c.args.known.now c.args.seat.now c.find_by.new.seat c.in_default.ensures.seat none.nothing none.retired
    c.find_by.new.known c.in_default.field-0 none c.in_default.ensures.known

pub returns-in_default-verdict-clause-turned : goal.returns-in_default-verdict-clause-turned
returns-in_default-verdict-clause-turned c =
    let t = c.args.table.now in
    let q = query_of c.args.meta.now.local c.args.meta.now.peer c.args.octets.now in
    let s = c.in-Held.sight in
    let at = worker_steps c.find_by.new.seat in
    let saw = sighted (size_of t) q c.args.known.now c.find_by.new.known (worker_steps c.args.seat.now) at s c.config.result.now c.in-Held.ensures.sees c.in-Held.ensures.known c.config.ensures in
    silent_turn c.law_reads.ensures t q c.args.octets.now c.args.known.now c.args.seat.now c.retire.new.seat (come_then c.in-Held.ensures.seat c.retire.ensures.seat) c.retire.ensures.nothing c.retire.ensures.retired
    c.find_by.new.known at s c.config.result.now saw c.cause_of.result c.retire.ensures.seat.steps c.retire.ensures.answers (subst (IsJudged s.key.mode c.config.result.now c.args.octets.now) c.cause_of.ensures c.judge-verdict.ensures)

pub returns-in_default-draw_row-clause-turned : goal.returns-in_default-draw_row-clause-turned
returns-in_default-draw_row-clause-turned c =
    let t = c.args.table.now in
    let q = query_of c.args.meta.now.local c.args.meta.now.peer c.args.octets.now in
    let s = c.in-Held.sight in
    let at = worker_steps c.find_by.new.seat in
    let saw = sighted (size_of t) q c.args.known.now c.find_by.new.known (worker_steps c.args.seat.now) at s c.config.result.now c.in-Held.ensures.sees c.in-Held.ensures.known c.config.ensures in
    let after = c.retire-in_default-draw_row in
    late_turn c.law_reads.ensures t q c.args.octets.now c.args.known.now c.args.seat.now after.new.seat (come_then (come_then c.in-Held.ensures.seat c.in_default-draw_row.ensures.seat) after.ensures.seat) after.ensures.nothing after.ensures.retired
    c.find_by.new.known at s c.config.result.now saw (worker_steps c.draw_row.new.seat) (c.in_default-draw_row.ensures.draws q c.in-Held.ensures.sees.saw.held) after.ensures.seat.steps after.ensures.answers c.in-Reflect.ensures

pub judge_again-requires-clause-drew : goal.judge_again-requires-clause-drew
judge_again-requires-clause-drew c =
    let q = query_of c.args.meta.now.local c.args.meta.now.peer c.args.octets.now in
    let hold = c.in-Held.ensures.sees.saw.held in
    (worker_steps c.find_by.new.seat, q, c.in-Held.sight, c.in-Number.n, hold, c.in-Number.ensures.draws q hold)

pub returns-then-row-sight-clause-turned : goal.returns-then-row-sight-clause-turned
returns-then-row-sight-clause-turned c =
    let t = c.args.table.now in
    let q = query_of c.args.meta.now.local c.args.meta.now.peer c.args.octets.now in
    let s = c.in-Held.sight in
    let n = c.in-Number.n in
    let r = c.in-Number.row in
    let at = worker_steps c.find_by.new.seat in
    let on = worker_steps c.draw_row.new.seat in
    let hold = c.in-Held.ensures.sees.saw.held in
    let reflects : Reflects s.key.mode c.config.result.now c.args.octets.now = c.in-Reflect.ensures in
    let saw = sighted (size_of t) q c.args.known.now c.find_by.new.known (worker_steps c.args.seat.now) at s c.config.result.now c.in-Held.ensures.sees c.in-Held.ensures.known c.config.ensures in
    let number = numbered_same c.law_reads.ensures (size_of t) c.find_by.new.known at on s n r c.config.result.now (c.in-Number.ensures.draws q hold) c.config.ensures reflects.1 c.if-row-sight.true in
    let after = c.retire-then-row-sight in
    drawn_turn c.law_reads.ensures t q c.args.octets.now c.args.known.now c.args.seat.now after.new.seat (come_then (come_then c.in-Held.ensures.seat c.in-Number.ensures.seat) after.ensures.seat) after.ensures.nothing after.ensures.retired
    c.find_by.new.known at s c.config.result.now saw c.find_by.new.known on n r c.config.result.now _ number after.ensures.seat.steps after.ensures.answers reflects
    (λ config. same_drawn s c.args.octets.now n r c.config.result.now _ config reflects (record { mode = refl; extra = refl; number = refl; row = refl }))

pub returns-in_default-judge_again-clause-turned : goal.returns-in_default-judge_again-clause-turned
returns-in_default-judge_again-clause-turned c =
    let t = c.args.table.now in
    let q = query_of c.args.meta.now.local c.args.meta.now.peer c.args.octets.now in
    let s = c.in-Held.sight in
    let n = c.in-Number.n in
    let r = c.in-Number.row in
    let at = worker_steps c.find_by.new.seat in
    let hold = c.in-Held.ensures.sees.saw.held in
    let saw = sighted (size_of t) q c.args.known.now c.find_by.new.known (worker_steps c.args.seat.now) at s c.config.result.now c.in-Held.ensures.sees c.in-Held.ensures.known c.config.ensures in
    let call = c.judge_again in
    let on = call.ensures.went_on at q s n hold (c.in-Number.ensures.draws q hold) in
    let again = call.ensures.kept in
    let number = numbered (size_of t) c.find_by.new.known call.new.known at on.mid s n r again.0 on.drew on.stays again.1 in
    drawn_turn c.law_reads.ensures t q c.args.octets.now c.args.known.now c.args.seat.now call.new.seat (come_then (come_then c.in-Held.ensures.seat c.in-Number.ensures.seat) call.ensures.seat) call.ensures.nothing call.ensures.retired
    c.find_by.new.known at s c.config.result.now saw call.new.known on.mid n r again.0 _ number on.steps on.answers c.in-Reflect.ensures
    (λ config. again_drawn s c.args.octets.now n r again.0 call.result config again.2 c.in_default-judge_again.not-Reflect (λ e. c.if-row-sight.false (sym e)))

pub returns-clause-turned : goal.returns-clause-turned
returns-clause-turned c =
    let t = c.args.table.now in
    let q = query_of c.args.meta.now.local c.args.meta.now.peer c.args.octets.now in
    let s = c.in-Held.sight in
    let n = c.in-Number.n in
    let r = c.in-Number.row in
    let at = worker_steps c.find_by.new.seat in
    let hold = c.in-Held.ensures.sees.saw.held in
    let saw = sighted (size_of t) q c.args.known.now c.find_by.new.known (worker_steps c.args.seat.now) at s c.config.result.now c.in-Held.ensures.sees c.in-Held.ensures.known c.config.ensures in
    let call = c.judge_again in
    let on = call.ensures.went_on at q s n hold (c.in-Number.ensures.draws q hold) in
    let again = call.ensures.kept in
    let reflects : Reflects s.key.mode again.0 c.args.octets.now = subst (λ (v : Verdict). IsJudged s.key.mode again.0 c.args.octets.now (outcome_of v)) c.in-Reflect-judge_again.is again.2 in
    let number = numbered (size_of t) c.find_by.new.known call.new.known at on.mid s n r again.0 on.drew on.stays again.1 in
    drawn_turn c.law_reads.ensures t q c.args.octets.now c.args.known.now c.args.seat.now call.new.seat (come_then (come_then c.in-Held.ensures.seat c.in-Number.ensures.seat) call.ensures.seat) call.ensures.nothing call.ensures.retired
    c.find_by.new.known at s c.config.result.now saw call.new.known on.mid n r again.0 _ number on.steps on.answers c.in-Reflect.ensures
    (λ config. same_drawn s c.args.octets.now n r again.0 _ config reflects (record { mode = refl; extra = refl; number = refl; row = refl }))

pub returns-clause-keeps : goal.returns-clause-keeps
returns-clause-keeps c =
    let again = c.judge_again.ensures.kept in
    record {
      config = again.0;
      kept = again.1;
      reflects = subst (λ (v : Verdict). IsJudged c.in-Held.sight.key.mode again.0 c.args.octets.now (outcome_of v)) c.in-Reflect-judge_again.is again.2;
    }
