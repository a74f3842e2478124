use Rattle.std.proofs.Common.{◌≡◌, ◌<◌, ◌≤◌, true, false, List, length, take, drop, get_or, sym, ap, ◌∙◌, arith}
use Rattle.std.proofs.lemmas.List.{get_or_read, drop_all, take_all}
use Rattle.std.specs.List.{remove}
use Rattle.control_desk.proofs.HandsFacts.{are_same_then, at_table}
use Rattle.control_desk.specs.declared.sides.OpenConnection.{OpenConnection}
use Rattle.control_desk.specs.Run.{is_idle_side, hang_up_side, idle_plan}
use Rattle.control_desk.proofs.Following.{follows_as, follows_to, follows_then}
use Rattle.control_desk.specs.State.{DeskState}
use Rattle.control_desk.proofs.IndexFacts.{length_remove}
use Rattle.control_desk.proofs.IdleFacts.{idle_end, idle_step, kept_step}
use Rattle.control_desk.proofs.ticking.hang_up_idle.Goals as goal

pub loop-at-preserved-then-not-is_idle_side : goal.loop-at-preserved-then-not-is_idle_side
loop-at-preserved-then-not-is_idle_side g c =
    let l = c.loop-at in
    let items = l.places.connections.items in
    let lt : l.at < length items = omega (arith, c.loop-at-test.true) in
    let d = c.index.result.now in
    let idle : is_idle_side c.args.now (get_or items l.at d).side ≡ false
    = ap (λ (x : OpenConnection). is_idle_side c.args.now x.side) (sym c.index.ensures) ∙ sym c.is_idle_side.ensures ∙ c.if-not-is_idle_side.true in
    record {
      same = l.invariant.same;
      book = l.invariant.book;
      within = omega (arith, lt);
      state = l.invariant.state;
      done = λ next. follows_to (kept_step c.args.now next items l.at d lt idle) (l.invariant.done next);
    }

pub loop-at-smaller : goal.loop-at-smaller
loop-at-smaller g c =
    let items = c.loop-at.places.connections.items in
    let lt : c.loop-at.at < length items = omega (arith, c.loop-at-test.true) in
    omega (arith, ap length c.remove-gone.ensures.items, length_remove items c.loop-at.at lt, lt)

pub loop-at-preserved : goal.loop-at-preserved
loop-at-preserved g c =
    let l = c.loop-at in
    let items = l.places.connections.items in
    let lt : l.at < length items = omega (arith, c.loop-at-test.true) in
    let d = c.index.result.now in
    let gone = c.remove-gone.result in
    let same : gone ≡ get_or items l.at d = get_or_read items l.at gone lt c.remove-gone.ensures.value d in
    let idle : is_idle_side c.args.now (get_or items l.at d).side ≡ true
    = ap (λ (x : OpenConnection). is_idle_side c.args.now x.side) (sym c.index.ensures) ∙ sym c.is_idle_side.ensures ∙ c.if-not-is_idle_side.false in
    record {
      same = are_same_then l.invariant.same c.hang_up_side.ensures.same;
      book = c.hang_up_side.ensures.book;
      within = omega (arith, ap length c.remove-gone.ensures.items, length_remove items l.at lt, lt);
      state = ap (λ (s : DeskState). record s { connections = c.remove-gone.new.self.items }) l.invariant.state;
      done = λ next.
          let left = idle_plan c.args.now next (take l.at (remove items l.at)) (drop l.at (remove items l.at)) in
          follows_then (l.invariant.done next)
          (follows_as (idle_step c.args.now next items l.at d lt idle ∙ ap (λ (x : OpenConnection). hang_up_side x.number x.side left) (sym same))
          (follows_to (ap (λ (cs : List OpenConnection). idle_plan c.args.now next (take l.at cs) (drop l.at cs)) (sym c.remove-gone.ensures.items))
          (at_table l.invariant.same.table (c.hang_up_side.ensures.done left))));
    }

pub returns-clause-done : goal.returns-clause-done
returns-clause-done g c = λ next.
    let l = c.loop-at in
    let items = l.places.connections.items in
    let le : length items ≤ l.at = omega (arith, c.loop-at-test.false) in
    follows_to (ap (λ (k : List OpenConnection). idle_plan c.args.now next k (drop l.at items)) (take_all l.at items le)
    ∙ ap (idle_plan c.args.now next items) (drop_all l.at items le) ∙ idle_end c.args.now next items)
    (l.invariant.done next)
