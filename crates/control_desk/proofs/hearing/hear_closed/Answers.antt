use Rattle.std.proofs.Common.{◌≡◌, List, Some, sym, ap, ◌∙◌}
use Rattle.control_desk.specs.declared.sides.OpenConnection.{OpenConnection}
use Rattle.control_desk.specs.State.{side_in}
use Rattle.control_desk.specs.Connections.{index_from, state_of}
use Rattle.control_desk.specs.Run.{closed_plan}
use Rattle.control_desk.proofs.Following.{follows_none, follows_as, follows_to}
use Rattle.control_desk.proofs.IndexFacts.{found_at, none_at}
use Rattle.control_desk.proofs.hearing.hear_closed.Goals as goal

pub returns-in_default-clause-done : goal.returns-in_default-clause-done
returns-in_default-clause-done g c = λ d next.
    let s = state_of c.args.places.now in
    let l = c.args.places.now.connections.items in
    let value = ap (λ (x : List OpenConnection). index_from 0 x c.args.conn) (sym c.deref.ensures.value) ∙ sym c.index_of.ensures.value ∙ c.in_default.is in
    follows_as (ap (closed_plan s c.args.conn next) (none_at 0 l c.args.conn value)) (follows_none _ _ _ _)

pub returns-clause-done : goal.returns-clause-done
returns-clause-done g c = λ d next.
    let s = state_of c.args.places.now in
    let l = c.args.places.now.connections.items in
    let n = c.args.conn in
    let gone = c.remove-gone.result in
    let value = ap (λ (x : List OpenConnection). index_from 0 x n) (sym c.deref.ensures.value) ∙ sym c.index_of.ensures.value ∙ c.in-Some.is in
    let found = found_at l n c.in-Some.at value in
    let there : side_in s.connections n ≡ Some gone.side = found.side gone ∙ ap (λ (x : OpenConnection). Some x.side) (sym c.remove-gone.ensures.value) in
    follows_as (ap (closed_plan s n next) there)
    (follows_to (ap (λ (cs : List OpenConnection). next (record s { connections = cs })) (found.gone ∙ sym c.remove-gone.ensures.items))
    (c.end_side.ensures.done d s n next))
