use Rattle.std.proofs.Common.{◌≡◌, ◌+◌, ◌-◌, take, sym, ap, ◌∙◌, arith}
use Rattle.net_io.specs.Desk.{octet_count}
use Rattle.control_desk.proofs.HandsFacts.{at_table}
use Rattle.control_desk.specs.declared.counts.DeskEnd.TheVariants as ends
use Rattle.control_desk.specs.State.{DeskState}
use Rattle.control_desk.specs.Plan.{stop}
use Rattle.control_desk.specs.Connections.{state_of}
use Rattle.control_desk.specs.Run.{desk_plan, event_plan, behind_event, begun}
use Rattle.control_desk.proofs.Choices.{if_true, if_false}
use Rattle.control_desk.proofs.Following.{follows_as, follows_to, follows_then}
use Rattle.control_desk.proofs.RunFacts.{heard, unheard, desk_turn, desk_out, behind_quits, behind_others, open_after}
use Rattle.control_desk.proofs.running.hear_all.Goals as goal

pub take_event-requires : goal.take_event-requires
take_event-requires g c =
    open_after c.loop-left.invariant.done c.requires.open

pub returns-then-is_over-clause-done : goal.returns-then-is_over-clause-done
returns-then-is_over-clause-done g c = let f = c.args.setting.now in
    let l = c.loop-left in
    let s = state_of l.places in
    follows_then (l.invariant.done)
    (follows_as (desk_turn f l.left l.failed s (omega (arith, c.loop-left-test.true)))
    (follows_to (if_true _ (stop ends.Fault) (desk_plan f (l.left - 1) (l.failed + 1) s) (sym c.is_over.ensures ∙ c.if-is_over.true))
    (c.in-None.ensures.done c.args.hands.now.table.now (heard f (l.left - 1) s) (unheard f (l.left - 1) l.failed s) _)))

pub loop-left-preserved-else-is_over : goal.loop-left-preserved-else-is_over
loop-left-preserved-else-is_over g c = record {
  same = let i = c.loop-left.invariant.same in record { table = i.table; book = i.book; desk = i.desk; counts = i.counts };
  book = c.loop-left.invariant.book;
  within = omega (arith, c.loop-left.invariant.within, c.loop-left-test.true);
  done = let f = c.args.setting.now in
      let l = c.loop-left in
      let s = state_of l.places in
      follows_then (l.invariant.done)
      (follows_as (desk_turn f l.left l.failed s (omega (arith, c.loop-left-test.true)))
      (follows_to (if_false _ (stop ends.Fault) (desk_plan f (l.left - 1) (l.failed + 1) s) (sym c.is_over.ensures ∙ c.if-is_over.false))
      (c.in-None.ensures.done c.args.hands.now.table.now (heard f (l.left - 1) s) (unheard f (l.left - 1) l.failed s) _)));
}

pub returns-then-is_end-clause-done : goal.returns-then-is_end-clause-done
returns-then-is_end-clause-done g c = let f = c.args.setting.now in
    let l = c.loop-left in
    let s = state_of l.places in
    let t = c.in-Some.timed in
    let octets = take (octet_count t.event) c.take_event.new.buf in
    let ended : heard f (l.left - 1) s t octets ≡ stop ends.End = ap (event_plan f (begun s t.moment) t.moment octets (behind_event (desk_plan f (l.left - 1) 0))) (c.is_end.ensures.end c.if-is_end.true) in
    follows_then (l.invariant.done)
    (follows_as (desk_turn f l.left l.failed s (omega (arith, c.loop-left-test.true)))
    (follows_to ended
    (c.in-Some.ensures.done c.args.hands.now.table.now (heard f (l.left - 1) s) (unheard f (l.left - 1) l.failed s) _)))

pub returns-then-is_quits-clause-done : goal.returns-then-is_quits-clause-done
returns-then-is_quits-clause-done g c = let f = c.args.setting.now in
    let l = c.loop-left in
    let s = state_of l.places in
    let t = c.in-Some.timed in
    let octets = take (octet_count t.event) c.take_event.new.buf in
    let more = desk_plan f (l.left - 1) 0 in
    let begins : heard f (l.left - 1) s t octets ≡ event_plan f (state_of c.begin.new.self) t.moment octets (behind_event more) t.event
    = ap (λ (u : DeskState). event_plan f u t.moment octets (behind_event more) t.event) (sym c.begin.ensures) in
    follows_then (l.invariant.done)
    (follows_as (desk_turn f l.left l.failed s (omega (arith, c.loop-left-test.true)))
    (follows_then
    (c.in-Some.ensures.done c.args.hands.now.table.now (heard f (l.left - 1) s) (unheard f (l.left - 1) l.failed s) _)
    (follows_as begins
    (follows_to (behind_quits more c.hear_event-verdict.result (state_of c.hear_event-verdict.new.places) (sym c.is_quits.ensures ∙ c.if-is_quits.true))
    (at_table l.invariant.same.table (c.hear_event-verdict.ensures.done more))))))

pub loop-left-preserved : goal.loop-left-preserved
loop-left-preserved g c = record {
  same = let i = c.loop-left.invariant.same in let j = c.hear_event-verdict.ensures.same in record { table = j.table ∙ i.table; book = j.book ∙ i.book; desk = j.desk ∙ i.desk; counts = j.counts ∙ i.counts };
  book = c.hear_event-verdict.ensures.book;
  within = omega (arith, c.loop-left.invariant.within, c.loop-left-test.true);
  done = let f = c.args.setting.now in
      let l = c.loop-left in
      let s = state_of l.places in
      let t = c.in-Some.timed in
      let octets = take (octet_count t.event) c.take_event.new.buf in
      let more = desk_plan f (l.left - 1) 0 in
      let begins : heard f (l.left - 1) s t octets ≡ event_plan f (state_of c.begin.new.self) t.moment octets (behind_event more) t.event
      = ap (λ (u : DeskState). event_plan f u t.moment octets (behind_event more) t.event) (sym c.begin.ensures) in
      follows_then (l.invariant.done)
      (follows_as (desk_turn f l.left l.failed s (omega (arith, c.loop-left-test.true)))
      (follows_then
      (c.in-Some.ensures.done c.args.hands.now.table.now (heard f (l.left - 1) s) (unheard f (l.left - 1) l.failed s) _)
      (follows_as begins
      (follows_to (behind_others more c.hear_event-verdict.result (state_of c.hear_event-verdict.new.places) (sym c.is_quits.ensures ∙ c.if-is_quits.false))
      (at_table l.invariant.same.table (c.hear_event-verdict.ensures.done more))))));
}

pub returns-clause-done : goal.returns-clause-done
returns-clause-done g c = let f = c.args.setting.now in
    let l = c.loop-left in
    follows_to (desk_out f l.left l.failed (state_of l.places) (omega (arith, c.loop-left-test.false))) (l.invariant.done)
