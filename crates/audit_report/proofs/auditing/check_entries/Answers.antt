use Rattle.std.proofs.Common.{ℕ, ◌-◌, ◌^◌, List, [], ◌∷◌, ◌++◌, length, drop, subst, ap, ◌∙◌, arith}
use Rattle.std.proofs.lemmas.List.{length-append, length-drop, nil_from_length}
use Rattle.read_ahead.specs.Buffers.{pending}
use Rattle.reply_audit.specs.Claims.{claim_octets}
use Rattle.reply_audit.proofs.FrontFacts.{claim_length}
use Rattle.audit_report.specs.Fronts.{HoldsFront, LacksFront}
use Rattle.audit_report.specs.Runs.{TellsEnd}
use Rattle.audit_report.proofs.RunFacts.{going_more, going_same, going_claim, end_failed, ends_behind}
use Rattle.audit_report.proofs.auditing.check_entries.Goals as goal

pub entries-smaller-in-Holds : goal.entries-smaller-in-Holds
entries-smaller-in-Holds g c =
    let f = c.in-Holds.ensures in
    let waiting = pending c.entries.ahead in
    let n = length-append (claim_octets f.claim) (drop c.in-Holds.len c.pending.result.now) in
    omega (arith, c.entries.invariant.limit, ap length c.advance.ensures, length-drop c.in-Holds.len waiting, ap length c.pending.ensures, ap length f.front, n, f.len, claim_length f.claim)

pub entries-preserved-in-Holds : goal.entries-preserved-in-Holds
entries-preserved-in-Holds g c =
    let inv = c.entries.invariant in
    let f = c.in-Holds.ensures in
    let waiting = pending c.entries.ahead in
    let n = length-append (claim_octets f.claim) (drop c.in-Holds.len c.pending.result.now) in
    let h = subst (λ (l : List ℕ). HoldsFront c.entries.audit l (2 ^ 30 - c.entries.passed) c.in-Holds.len c.check_front.new.audit) c.pending.ensures f in
    record {
      going = (inv.going.0 ++ h.claim ∷ [], going_claim _ _ _ _ _ _ _ inv.going.1 c.check_front.new.audit (pending c.advance.new.self) c.in-Holds.len h c.advance.ensures);
      input = inv.input;
      limit = omega (arith, inv.limit, ap length c.advance.ensures, length-drop c.in-Holds.len waiting, ap length c.pending.ensures, ap length f.front, n, f.len);
      passed = omega (arith, inv.passed, f.within);
      few = omega (arith, inv.few, f.len, claim_length f.claim);
    }

pub returns-in_default-clause-ended : goal.returns-in_default-clause-ended
returns-in_default-clause-ended g c =
    let inv = c.entries.invariant in
    let m = c.in-More.ensures in
    let s = going_same _ _ _ _ _ _ _ inv.going.1 c.check_front.new.audit m.3 in
    end_failed _ _ _ _ _ _ _ s (g.S.Source.left c.fill.new.input) c.in_default.ensures.err.1 (subst LacksFront c.pending.ensures m.0)

pub returns-then-got-eq0-clause-ended : goal.returns-then-got-eq0-clause-ended
returns-then-got-eq0-clause-ended g c =
    let inv = c.entries.invariant in
    let m = c.in-More.ensures in
    let got = c.in-Ok.ensures.ok in
    let s = going_same _ _ _ _ _ _ _ inv.going.1 c.check_front.new.audit m.3 in
    ends_behind _ _ (g.S.Source.left c.fill.new.input) c.check_front.new.audit (pending c.entries.ahead) (pending c.fill.new.self) got.0 c.entries.passed c.entries.count inv.going.0 c.at_end.result
    s (subst LacksFront c.pending.ensures m.0) got.3 (nil_from_length got.0 (got.1 ∙ c.if-got-eq0.true)) got.2 (got.4 c.if-got-eq0.true)
    (subst (λ (l : List ℕ). TellsEnd c.check_front.new.audit.looks (length l) c.entries.passed c.entries.count c.at_end.result) c.pending-held.ensures c.at_end.ensures)

pub entries-preserved : goal.entries-preserved
entries-preserved g c =
    let inv = c.entries.invariant in
    let m = c.in-More.ensures in
    let got = c.in-Ok.ensures.ok in
    let s = going_same _ _ _ _ _ _ _ inv.going.1 c.check_front.new.audit m.3 in
    record {
      going = (inv.going.0, going_more _ _ _ _ _ _ _ s (g.S.Source.left c.fill.new.input) (pending c.fill.new.self) got.0 got.3 got.2);
      input = c.in-Ok.ensures.still ∙ inv.input;
      limit = omega (arith, inv.passed, m.2, ap length c.pending.ensures, ap length got.2, length-append (pending c.entries.ahead) got.0, got.1, got.5);
      passed = inv.passed;
      few = inv.few;
    }
