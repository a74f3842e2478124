use Rattle.std.proofs.Common.{List, refl, sym, ap}
use Rattle.session_desk.specs.Makes.{ticks}
use Rattle.control_desk.proofs.HandsFacts.{at_table}
use Rattle.control_desk.specs.declared.sides.OpenConnection.{OpenConnection}
use Rattle.control_desk.specs.State.{at_connections}
use Rattle.control_desk.specs.Connections.{state_of}
use Rattle.control_desk.specs.Run.{tick_plan}
use Rattle.control_desk.proofs.Following.{follows_to, follows_called, follows_then}
use Rattle.control_desk.proofs.ticking.hear_tick.Goals as goal

pub returns-clause-done : goal.returns-clause-done
returns-clause-done g c = λ next.
    let now = c.args.now in
    let s = state_of c.args.places.now in
    let s' = state_of c.hang_up_idle.new.places in
    follows_then
    (follows_to (ap (tick_plan now next) (sym c.hang_up_idle.ensures.state)) (c.hang_up_idle.ensures.done (λ (cs : List OpenConnection). tick_plan now next (at_connections s cs))))
    (at_table c.hang_up_idle.ensures.same.table (follows_called (tick_plan now next s') (next s') (ticks now c.tick-ticked.result) _ (refl, refl) c.tick-ticked.ensures.made c.add_ticked.ensures))
