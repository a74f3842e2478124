use Rattle.std.proofs.Common.{arith}
use Rattle.load_report.proofs.Going.{begins, answered, load_within, goes_on, ends}
use Rattle.load_report.proofs.replaying.answer_all.Goals as goal

pub loop-index-init : goal.loop-index-init
loop-index-init c = record {
  going = begins c.args.seed c.args.sessions.now c.requires.empty;
  sent = omega arith;
  no_session = omega arith;
  octets = omega arith;
}

pub loop-index-preserved : goal.loop-index-preserved
loop-index-preserved c =
    let inv = c.loop-index.invariant in
    let i = c.loop-index.index in
    let did = c.answer_record.ensures in
    let within = load_within c.args.seed _ _ i inv.going (omega (arith, c.loop-index-test.true, c.requires.limit)) in
    let one = did.answered (answered c.args.seed i) inv.going.stands within in
    record {
      going = goes_on c.args.seed _ _ _ _ i inv.going did.short one.0 one.1;
      sent = omega (arith, inv.sent, did.sent);
      no_session = omega (arith, inv.no_session, did.no_session);
      octets = omega (arith, inv.octets, did.octets);
    }

pub returns : goal.returns
returns c = ends c.args.seed c.args.count _ _ c.loop-index.index c.loop-index.invariant.going (omega (arith, c.loop-index-test.false, c.loop-index.auto.index-end))
