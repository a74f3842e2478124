use Rattle.std.proofs.Common.{List, ℕ, sym, ap}
use Rattle.control_desk.specs.declared.sides.Side.TheVariants.{Control}
use Rattle.control_desk.specs.State.{with_connection}
use Rattle.control_desk.specs.Connections.{state_of}
use Rattle.control_desk.specs.Plan.{send, hang_up}
use Rattle.control_desk.specs.Run.{control_side}
use Rattle.control_desk.proofs.Following.{follows_as, follows_then}
use Rattle.control_desk.proofs.hearing.greet_client.Goals as goal

pub returns-then-not-tell : goal.returns-then-not-tell
returns-then-not-tell g c = λ t next b.
    let a = c.args in
    let s = state_of a.places.now in
    let kept = next (with_connection s a.heard.conn (Control (control_side s a.heard.now a.caller.now.peer a.caller.now.local))) in
    let gone = hang_up a.heard.conn (next s) in
    follows_as (ap (λ (o : List ℕ). send a.heard.conn o kept gone) (sym c.write_greeting.ensures))
    (follows_then (c.if-not-tell.ensures t kept gone b) (c.drop_line.ensures t (next s) b _))
