use Rattle.std.proofs.Common.{◌∙◌, ap, sym, subst, refl}
use Rattle.session_rule.specs.Seats.{IsDeskOfOneSchedule, joined_parts, desk_steps}
use Rattle.session_desk.proofs.Keeping.{kept_by}
use Rattle.session_desk.proofs.Making.{split_kept}
use Rattle.session_desk.proofs.book.DeskBook.split.Goals as goal

pub invariant_of-self : goal.invariant_of-self
invariant_of-self c = let k = c.self.invariant.0 in let h = c.in-Ok.ensures.split_off in (
  kept_by _ _ _ _ _ _ _ _ _ _ _ _ _ h.step.1 refl refl refl refl (split_kept _ _ _ _ _ _ _ _ _ h.step.0 k),
  (let same = c.requires.same in subst (λ z. IsDeskOfOneSchedule z (desk_steps c.split_worker.new.seat) (joined_parts c.split_worker.new.seat)) (same.1 ∙ ap (λ b. b.size) (sym c.self.view_is)) h.schedule),
  c.self.invariant.2,
  c.self.invariant.3,
  c.self.invariant.4,
)
