use Rattle.std.proofs.Common.{◌≡◌, List, Some, ℕ, set, sym, ap, ◌∙◌}
use Rattle.control_desk.specs.declared.sides.OpenConnection.{OpenConnection}
use Rattle.control_desk.specs.State.{at_names, side_in, put_side, without}
use Rattle.control_desk.specs.Connections.{index_from, state_of}
use Rattle.control_desk.specs.Run.{bytes_plan, behind_event}
use Rattle.control_desk.proofs.Following.{follows_none, follows_as, follows_to}
use Rattle.control_desk.proofs.IndexFacts.{found_at, none_at, remove_set, behind_going, behind_over}
use Rattle.control_desk.proofs.hearing.hear_bytes.Goals as goal

pub returns-in_default-clause-done : goal.returns-in_default-clause-done
returns-in_default-clause-done g c = λ more. let f = c.args.setting.now in
    let s = state_of c.args.places.now in
    let l = c.args.places.now.connections.items in
    let value = ap (λ (x : List OpenConnection). index_from 0 x c.args.heard.conn) (sym c.deref.ensures.value) ∙ sym c.index_of.ensures.value ∙ c.in_default.is in
    follows_as (ap (bytes_plan f s c.args.heard.conn c.args.heard.now c.args.octets.now (behind_event more)) (none_at 0 l c.args.heard.conn value)) (follows_none _ _ _ _)

pub returns-then-is_over-clause-done : goal.returns-then-is_over-clause-done
returns-then-is_over-clause-done g c = λ more. let f = c.args.setting.now in
    let s = state_of c.args.places.now in
    let l = c.args.places.now.connections.items in
    let n = c.args.heard.conn in
    let at = c.in-Some.at in
    let old = c.index_mut.result.now in
    let value = ap (λ (x : List OpenConnection). index_from 0 x n) (sym c.deref.ensures.value) ∙ sym c.index_of.ensures.value ∙ c.in-Some.is in
    let found = found_at l n at value in
    let there : side_in s.connections n ≡ Some old.side = found.side old ∙ ap (λ (x : OpenConnection). Some x.side) (sym c.index_mut.ensures.value) in
    let side = c.hear_side-verdict.new.side in
    let t = at_names s c.hear_side-verdict.new.names in
    let gone : without t n ≡ record t { connections = c.remove-gone.new.self.items }
    = ap (λ (cs : List OpenConnection). record t { connections = cs }) (found.gone ∙ sym (remove_set l at (record { number = old.number; side = side })) ∙ sym c.remove-gone.ensures.items) in
    follows_as (ap (bytes_plan f s n c.args.heard.now c.args.octets.now (behind_event more)) there)
    (follows_to (behind_over more c.hear_side-verdict.result n side t _ (sym c.is_over.ensures ∙ c.if-is_over.true) gone)
    (c.hear_side-verdict.ensures.done s (behind_event more)))

pub returns-else-is_over-clause-done : goal.returns-else-is_over-clause-done
returns-else-is_over-clause-done g c = λ more. let f = c.args.setting.now in
    let s = state_of c.args.places.now in
    let l = c.args.places.now.connections.items in
    let n = c.args.heard.conn in
    let at = c.in-Some.at in
    let old = c.index_mut.result.now in
    let value = ap (λ (x : List OpenConnection). index_from 0 x n) (sym c.deref.ensures.value) ∙ sym c.index_of.ensures.value ∙ c.in-Some.is in
    let found = found_at l n at value in
    let there : side_in s.connections n ≡ Some old.side = found.side old ∙ ap (λ (x : OpenConnection). Some x.side) (sym c.index_mut.ensures.value) in
    let side = c.hear_side-verdict.new.side in
    let t = at_names s c.hear_side-verdict.new.names in
    let same_number : old.number ≡ n = ap (λ (x : OpenConnection). x.number) c.index_mut.ensures.value ∙ found.number old in
    let kept : put_side s.connections n side ≡ set l at (record { number = old.number; side = side })
    = found.put side ∙ ap (λ (k : ℕ). set l at (record { number = k; side = side })) (sym same_number) in
    follows_as (ap (bytes_plan f s n c.args.heard.now c.args.octets.now (behind_event more)) there)
    (follows_to (behind_going more c.hear_side-verdict.result n side t _ (sym c.is_over.ensures ∙ c.if-is_over.false) (ap (λ (cs : List OpenConnection). record t { connections = cs }) kept))
    (c.hear_side-verdict.ensures.done s (behind_event more)))
