-- Idle connections, one more.
use Rattle.std.proofs.Common.{◌≡◌, ℕ, ◌+◌, ◌<◌, true, false, List, [], ◌∷◌, ◌++◌, length, take, drop, get_or, refl, sym, ap, ◌∙◌}
use Rattle.std.specs.List.{remove}
use Rattle.control_desk.specs.declared.sides.OpenConnection.{OpenConnection}
use Rattle.control_desk.specs.Plan.{Plan}
use Rattle.control_desk.specs.Run.{is_idle_side, hang_up_side, idle_plan}
use Rattle.control_desk.proofs.Choices.{if_true, if_false, next_item}
use Rattle.control_desk.proofs.IndexFacts.{take_remove, drop_remove, take_more}

idle_more : (now : ℕ) (next : List OpenConnection → Plan) (kept : List OpenConnection) (c : OpenConnection) (cs : List OpenConnection) → is_idle_side now c.side ≡ true
    → idle_plan now next kept (c ∷ cs) ≡ hang_up_side c.number c.side (idle_plan now next kept cs)
unfolding idle_plan
idle_more now next kept c cs h = if_true _ _ _ h

kept_more : (now : ℕ) (next : List OpenConnection → Plan) (kept : List OpenConnection) (c : OpenConnection) (cs : List OpenConnection) → is_idle_side now c.side ≡ false
    → idle_plan now next kept (c ∷ cs) ≡ idle_plan now next (kept ++ c ∷ []) cs
unfolding idle_plan
kept_more now next kept c cs h = if_false _ _ _ h

pub idle_end : (now : ℕ) (next : List OpenConnection → Plan) (kept : List OpenConnection) → idle_plan now next kept [] ≡ next kept
unfolding idle_plan
idle_end now next kept = refl

pub idle_step : (now : ℕ) (next : List OpenConnection → Plan) (l : List OpenConnection) (i : ℕ) (d : OpenConnection) → i < length l → is_idle_side now (get_or l i d).side ≡ true
    → idle_plan now next (take i l) (drop i l) ≡ hang_up_side (get_or l i d).number (get_or l i d).side (idle_plan now next (take i (remove l i)) (drop i (remove l i)))
idle_step now next l i d h e =
    ap (idle_plan now next (take i l)) (next_item l i d h)
    ∙ idle_more now next (take i l) (get_or l i d) (drop (i + 1) l) e
    ∙ ap (λ (k : List OpenConnection). hang_up_side (get_or l i d).number (get_or l i d).side (idle_plan now next k (drop (i + 1) l))) (sym (take_remove l i h))
    ∙ ap (λ (r : List OpenConnection). hang_up_side (get_or l i d).number (get_or l i d).side (idle_plan now next (take i (remove l i)) r)) (sym (drop_remove l i h))

pub kept_step : (now : ℕ) (next : List OpenConnection → Plan) (l : List OpenConnection) (i : ℕ) (d : OpenConnection) → i < length l → is_idle_side now (get_or l i d).side ≡ false
    → idle_plan now next (take i l) (drop i l) ≡ idle_plan now next (take (i + 1) l) (drop (i + 1) l)
kept_step now next l i d h e =
    ap (idle_plan now next (take i l)) (next_item l i d h)
    ∙ kept_more now next (take i l) (get_or l i d) (drop (i + 1) l) e
    ∙ ap (λ (k : List OpenConnection). idle_plan now next k (drop (i + 1) l)) (take_more l i d h)
