use Rattle.std.proofs.Common.{ℕ, ◌≤◌, ◌∙◌, List, [], length, get_or, ap, sym, subst, refl, arith}
use Rattle.std.proofs.lemmas.List.{length-replicate}
use Rattle.config_rows.specs.Rows.{Rows}
use Rattle.session_rule.specs.Seats.{IsDeskOfOneSchedule, desk_steps, joined_parts}
use Rattle.session_world.specs.declared.steps.Step.{Step}
use Rattle.session_world.specs.declared.steps.Part.{Part}
use Rattle.session_desk.specs.Kept.{IsKept}
use Rattle.session_desk.proofs.Keeping.{kept_by}
use Rattle.session_desk.proofs.Making.{first_kept, no_far}
use Rattle.session_desk.proofs.book.DeskBook.make.Goals as goal

pub invariant_of-result : goal.invariant_of-result
invariant_of-result c = let n = c.requires.new in let reach = c.in-Ok-no_reach.ensures in
    let live = c.in-Ok-with_capacity.ensures in let reserved = c.in-Ok-with_capacity-2.ensures in let taken = c.in-Ok-with_capacity-3.ensures in (
      subst (λ (rb : Rows). IsKept c.args.size (desk_steps c.args.seat) rb c.in-Ok-unused_slots.slots.items c.in-Ok-with_capacity.live.items c.in-Ok-with_capacity-2.reserved.items c.in-Ok-with_capacity-3.taken.items c.in-Ok-no_reach.reach.items) (sym c.in-Ok.ensures.empty)
          (kept_by _ _ _ _ _ _ _ _ _ _ _ _ _ n.1 refl live.items reserved.items taken.items
          (first_kept c.args.size c.in-Ok-unused_slots.slots.items c.in-Ok-no_reach.reach.items n.0 c.in-Ok-unused_slots.ensures (ap (λ (xs : List ℕ). length xs) reach ∙ length-replicate c.args.size.slots 0)
          (λ i. subst (λ (xs : List ℕ). get_or xs i 0 ≤ c.args.size.slots) (sym reach) (subst (λ (m : ℕ). m ≤ c.args.size.slots) (sym (no_far c.args.size.slots i)) (omega arith))))),
      subst (λ (xs : List Step). IsDeskOfOneSchedule c.args.size xs (joined_parts c.args.seat)) (sym n.1) (subst (λ (ps : List Part). IsDeskOfOneSchedule c.args.size [] ps) (sym n.2) n.3),
      live.capacity,
      reserved.capacity,
      taken.capacity,
    )
