use Rattle.std.proofs.Common.{◌≡◌, ◌<◌, ◌∙◌, List, length, get_or, ap, sym, subst, refl, arith}
use Rattle.std.proofs.lemmas.List.{length-set}
use Rattle.session_rule.specs.Seats.{size_of}
use Rattle.session_desk.specs.declared.session.Slot.{Slot}
use Rattle.session_desk.specs.Slots.{is_live, Reaches}
use Rattle.session_desk.proofs.Orders.{is_inside, both_fit}
use Rattle.session_desk.proofs.Keeping.{reach_kept}
use Rattle.session_desk.proofs.Fates.{pass_more, few_passed, next_live, next_open, next_noted, stays_passed}
use Rattle.session_desk.proofs.ticking.pass_all.Goals as goal

pub pass_slot-passed-requires-clause-inside : goal.pass_slot-passed-requires-clause-inside
pass_slot-passed-requires-clause-inside c = let i = is_inside is_live c.args.slots.now.items (get_or c.args.live.now c.loop-at.at-index 0) refl (next_live c.args.slots.now.items c.args.live.now c.loop-at.at-index c.requires.order c.loop-at-test.true) in let n = c.loop-at.invariant.count in let m = c.requires.slots.count in
    (omega (arith, i, n), omega (arith, i, m))

pub pass_slot-passed-requires-clause-live : goal.pass_slot-passed-requires-clause-live
pass_slot-passed-requires-clause-live c = next_open c.args.table.now (size_of c.args.table.now) c.args.seat.now c.loop-at.seat c.args.slots.now.items c.loop-at.slots.items c.args.live.now c.loop-at.at-index c.args.now c.loop-at.ticked c.requires.slots c.requires.order c.loop-at-test.true c.loop-at.invariant.passed

pub pass_slot-passed-requires-clause-noted : goal.pass_slot-passed-requires-clause-noted
pass_slot-passed-requires-clause-noted c = next_noted c.args.table.now (size_of c.args.table.now) c.args.seat.now c.loop-at.seat c.args.slots.now.items c.loop-at.slots.items c.args.live.now c.loop-at.at-index c.args.now c.loop-at.ticked c.requires.slots c.requires.order c.loop-at-test.true c.loop-at.invariant.passed

pub settle-requires-clause-inside : goal.settle-requires-clause-inside
settle-requires-clause-inside c = let i = is_inside is_live c.args.slots.now.items (get_or c.args.live.now c.loop-at.at-index 0) refl (next_live c.args.slots.now.items c.args.live.now c.loop-at.at-index c.requires.order c.loop-at-test.true) in
    let n : length c.deref.result.now ≡ length c.loop-at.slots.items = ap (λ (ss : List Slot). length ss) (c.deref.ensures.value ∙ c.pass_slot-passed.ensures.slots_new) ∙ length-set _ _ _ in let m = c.loop-at.invariant.count in omega (arith, i, n, m)

pub with-ticked-requires : goal.with-ticked-requires
with-ticked-requires c = let f = few_passed _ _ _ _ _ c.args.live.now c.loop-at.at-index _ _ c.loop-at.invariant.passed in let a = f.0 in let b = f.1 in let o = c.requires.order.count in let fit = both_fit c.args.slots.now.items in let n = c.requires.slots.count in let z = c.requires.size in record { room = (omega (arith, a, o, fit, n, z), omega (arith, b, o, fit, n, z)) }

pub loop-at-preserved : goal.loop-at-preserved
loop-at-preserved c = let i = get_or c.args.live.now c.loop-at.at-index 0 in
    let n : length c.deref.result.now ≡ length c.loop-at.slots.items = ap (λ (ss : List Slot). length ss) (c.deref.ensures.value ∙ c.pass_slot-passed.ensures.slots_new) ∙ length-set _ _ _ in
    let m = c.loop-at.invariant.count in let p = c.pass_slot-passed.ensures in let w = c.settle.ensures.width in
    let inside : i < length c.loop-at.slots.items = (let h = is_inside is_live c.args.slots.now.items (get_or c.args.live.now c.loop-at.at-index 0) refl (next_live c.args.slots.now.items c.args.live.now c.loop-at.at-index c.requires.order c.loop-at-test.true) in omega (arith, h, m)) in
    let k = c.requires.slots.count in record {
      passed = pass_more c.args.table.now (size_of c.args.table.now) c.args.seat.now c.loop-at.seat c.pass_slot-passed.new.seat c.args.slots.now.items c.loop-at.slots.items c.pass_slot-passed.new.slots.items c.args.live.now c.loop-at.at-index c.args.now c.loop-at.ticked c.with-ticked.result c.pass_slot-passed.result
          c.requires.slots c.requires.order c.loop-at-test.true c.loop-at.invariant.passed p c.with-ticked.ensures.closed c.with-ticked.ensures.expired;
      count = ap (λ (ss : List Slot). length ss) p.slots_new ∙ length-set _ _ _ ∙ m;
      width = omega (arith, w, n, m);
      range = λ j. let r = c.settle.ensures.range j in omega (arith, r, n, m);
      reaches = λ r. subst (λ (ss : List Slot). Reaches (size_of c.args.table.now) ss c.settle.new.reach.items) c.deref.ensures.value
          (c.settle.ensures.reaches (size_of c.args.table.now) (omega (arith, k, n, m))
          (subst (λ (ss : List Slot). Reaches (size_of c.args.table.now) ss c.loop-at.reach.items) (sym (c.deref.ensures.value ∙ p.slots_new))
          (reach_kept (size_of c.args.table.now) c.loop-at.slots.items i _ c.loop-at.reach.items inside (stays_passed c.loop-at.slots.items i c.args.now p.fate) (c.loop-at.invariant.reaches r))));
    }
