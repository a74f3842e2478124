use Rattle.std.proofs.Common.{◌≡◌, ◌∙◌, ap, sym, subst, refl, arith, true}
use Rattle.session_desk.proofs.BoolFacts.{both}
use Rattle.session_world.specs.Allowed.{DeskMay}
use Rattle.session_world.specs.declared.steps.Step.TheVariants.{Start}
use Rattle.session_rule.specs.Seats.{IsDeskOfOneSchedule, joined_parts, desk_steps}
use Rattle.session_desk.specs.Slots.{is_reserving}
use Rattle.session_desk.specs.Kept.{book_of}
use Rattle.session_desk.specs.Calls.{HasNoPlace, HasStarted}
use Rattle.session_desk.proofs.Orders.{has_room, is_inside}
use Rattle.session_desk.proofs.Keeping.{kept_by, seen_by, start_kept, start_does, may_start, no_place, reserved_at}
use Rattle.session_desk.proofs.book.DeskBook.start.Goals as goal

pub returns-then-not-is_reserved_at-clause-made : goal.returns-then-not-is_reserved_at-clause-made
returns-then-not-is_reserved_at-clause-made c = let k = c.self.invariant.0 in
    (subst (λ b. HasNoPlace b c.args.place.now) c.self.view_is (no_place _ _ _ _ c.args.place.now k.slots k.reserved (ap (λ ss. reserved_at ss c.args.place.now) (sym c.deref.ensures.value) ∙ sym c.is_reserved_at.ensures ∙ c.if-not-is_reserved_at.true)), refl)

pub start_slot-word-requires-clause-may : goal.start_slot-word-requires-clause-may
start_slot-word-requires-clause-may c n lt = let k = c.self.invariant.0 in
    let there : reserved_at c.self.inside.slots.items c.args.place.now ≡ true = ap (λ ss. reserved_at ss c.args.place.now) (sym c.deref.ensures.value) ∙ sym c.is_reserved_at.ensures ∙ c.if-not-is_reserved_at.false in
    let same = c.requires.same in
    let size = ap (λ b. b.size) (sym c.self.view_is) in
    subst (λ z. DeskMay z (desk_steps c.self.inside.seat) (Start c.args.place.now.slot n)) (sym (same.1 ∙ size))
    (may_start _ _ _ _ n (c.law_desk_slots.ensures _ _ (c.law_desk_did.ensures _ _ _ c.self.invariant.1)) k.slots (both _ _ there).0)

pub start_at-requires : goal.start_at-requires
start_at-requires c = let there : reserved_at c.self.inside.slots.items c.args.place.now ≡ true = ap (λ ss. reserved_at ss c.args.place.now) (sym c.deref.ensures.value) ∙ sym c.is_reserved_at.ensures ∙ c.if-not-is_reserved_at.false in
    is_inside is_reserving _ _ refl (both _ _ there).0

pub push_slot-requires : goal.push_slot-requires
push_slot-requires c = let k = c.self.invariant.0 in let cap = c.self.invariant.2 in
    let there : reserved_at c.self.inside.slots.items c.args.place.now ≡ true = ap (λ ss. reserved_at ss c.args.place.now) (sym c.deref.ensures.value) ∙ sym c.is_reserved_at.ensures ∙ c.if-not-is_reserved_at.false in
    let room = has_room _ _ _ c.args.place.now.slot k.live k.reserved (both _ _ there).0 in let n = k.slots.count in record { room = omega (arith, cap, room, n) }

there : (c : goal.After-push_slot) → reserved_at c.self.inside.slots.items c.args.place.now ≡ true
there c = ap (λ ss. reserved_at ss c.args.place.now) (sym c.deref.ensures.value) ∙ sym c.is_reserved_at.ensures ∙ c.if-not-is_reserved_at.false

pub invariant_of-self : goal.invariant_of-self
invariant_of-self c = let k = c.self.invariant.0 in let i = c.args.place.now.slot in (
  kept_by _ _ _ _ _ _ _ _ _ _ _ _ _ c.start_slot-word.ensures.step c.start_at.ensures c.push_slot.ensures.items c.drop_slot.ensures.items refl
      (start_kept _ _ _ _ _ _ _ _ i c.start_slot-word.result c.args.now k (both _ _ (there c)).0 (c.law_closed.ensures.opened c.start_slot-word.result c.start_slot-word.type_inv)),
  (let same = c.requires.same in subst (λ z. IsDeskOfOneSchedule z (desk_steps c.start_slot-word.new.seat) (joined_parts c.start_slot-word.new.seat)) (same.1 ∙ ap (λ b. b.size) (sym c.self.view_is)) c.start_slot-word.ensures.schedule),
  (let a = c.self.invariant.2 in let r = c.push_slot.ensures.room in omega (arith, a, r)),
  (let a = c.self.invariant.3 in let r = c.drop_slot.ensures.room in omega (arith, a, r)),
  c.self.invariant.4,
)

pub returns-clause-made : goal.returns-clause-made
returns-clause-made c = let k = c.self.invariant.0 in
    subst (λ b. HasStarted c.args.table.now b c.args.place.now c.args.now (book_of c.start_slot-word.new.seat c.self.inside.size c.self.inside.rows c.start_at.new.slots.items c.push_slot.new.order.items c.drop_slot.new.order.items c.self.inside.taken.items)) c.self.view_is
    (seen_by (HasStarted c.args.table.now (book_of c.self.inside.seat c.self.inside.size c.self.inside.rows c.self.inside.slots.items c.self.inside.live.items c.self.inside.reserved.items c.self.inside.taken.items) c.args.place.now c.args.now) _ _ _ _ _ _ _ _ _ _ _ c.start_at.ensures c.push_slot.ensures.items c.drop_slot.ensures.items refl
    (start_does c.args.table.now _ _ _ _ _ _ _ _ _ c.args.place.now c.start_slot-word.result c.args.now k (there c) c.start_slot-word.ensures))
