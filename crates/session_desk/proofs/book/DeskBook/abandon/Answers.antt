use Rattle.std.proofs.Common.{◌≡◌, ◌<◌, ◌∙◌, List, ap, sym, subst, refl, arith, true, length}
use Rattle.std.proofs.lemmas.List.{length-set}
use Rattle.session_desk.proofs.BoolFacts.{both}
use Rattle.session_desk.specs.declared.session.Slot.{Slot}
use Rattle.session_desk.specs.Slots.{is_reserving}
use Rattle.session_desk.specs.Kept.{book_of}
use Rattle.session_desk.specs.Calls.{HasNoPlace, HasAbandoned}
use Rattle.session_desk.proofs.Orders.{is_inside}
use Rattle.session_desk.proofs.Keeping.{kept_by, seen_by, shrunk_by, is_small, no_place, reserved_at}
use Rattle.session_desk.proofs.Setting.{abandon_kept, abandon_does}
use Rattle.session_desk.proofs.book.DeskBook.abandon.Goals as goal

pub returns-then-not-is_reserved_at-clause-made : goal.returns-then-not-is_reserved_at-clause-made
returns-then-not-is_reserved_at-clause-made c = λ t. let k = c.self.invariant.0 in
    (subst (λ b. HasNoPlace b c.args.place.now) c.self.view_is (no_place _ _ _ _ c.args.place.now k.slots k.reserved (ap (λ ss. reserved_at ss c.args.place.now) (sym c.deref.ensures.value) ∙ sym c.is_reserved_at.ensures ∙ c.if-not-is_reserved_at.true)), refl)

pub free_at-requires : goal.free_at-requires
free_at-requires c = let there : reserved_at c.self.inside.slots.items c.args.place.now ≡ true = ap (λ ss. reserved_at ss c.args.place.now) (sym c.deref.ensures.value) ∙ sym c.is_reserved_at.ensures ∙ c.if-not-is_reserved_at.false in
    is_inside is_reserving _ _ refl (both _ _ there).0

pub start_of-start-requires : goal.start_of-start-requires
start_of-start-requires c = let there : reserved_at c.self.inside.slots.items c.args.place.now ≡ true = ap (λ ss. reserved_at ss c.args.place.now) (sym c.deref.ensures.value) ∙ sym c.is_reserved_at.ensures ∙ c.if-not-is_reserved_at.false in
    let e : length c.deref-2.result.now ≡ length c.self.inside.slots.items = ap (λ (ss : List Slot). length ss) (c.deref-2.ensures.value ∙ c.free_at.ensures) ∙ length-set _ _ _ in
    let i : c.args.place.now.slot < length c.self.inside.slots.items = is_inside is_reserving _ _ refl (both _ _ there).0 in
    let n = is_small _ _ _ _ _ _ _ _ c.self.invariant.0 in record { inside = omega (arith, e, i); count = omega (arith, e, n) }

pub shrink-requires : goal.shrink-requires
shrink-requires c = let k = c.self.invariant.0 in let s = c.start_of-start.ensures.range in
    let e : length c.deref-3.result.now ≡ length c.self.inside.slots.items = ap (λ (ss : List Slot). length ss) (c.deref-3.ensures.value ∙ c.free_at.ensures) ∙ length-set _ _ _ in
    let d : length c.deref-2.result.now ≡ length c.self.inside.slots.items = ap (λ (ss : List Slot). length ss) (c.deref-2.ensures.value ∙ c.free_at.ensures) ∙ length-set _ _ _ in
    let n = is_small _ _ _ _ _ _ _ _ k in let w = k.width in let m = k.slots.count in record {
      count = omega (arith, e, n);
      inside = omega (arith, s, d, e);
      width = omega (arith, w, e, m);
      range = λ i. let r = k.range i in omega (arith, r, e, m);
    }

there : (c : goal.After-shrink) → reserved_at c.self.inside.slots.items c.args.place.now ≡ true
there c = ap (λ ss. reserved_at ss c.args.place.now) (sym c.deref.ensures.value) ∙ sym c.is_reserved_at.ensures ∙ c.if-not-is_reserved_at.false

pub invariant_of-self : goal.invariant_of-self
invariant_of-self c = let k = c.self.invariant.0 in let s = c.shrink.ensures in (
  shrunk_by _ _ _ _ c.deref-3.result.now _ _ _ _ _ c.deref-3.ensures.value s.width s.range s.reaches
      (kept_by _ _ _ _ _ _ _ _ _ _ _ _ _ refl c.free_at.ensures refl c.drop_slot.ensures.items c.drop_slot-2.ensures.items (abandon_kept _ _ _ _ _ _ _ _ c.args.place.now.slot k (both _ _ (there c)).0)),
  c.self.invariant.1,
  c.self.invariant.2,
  (let a = c.self.invariant.3 in let r = c.drop_slot.ensures.room in omega (arith, a, r)),
  (let a = c.self.invariant.4 in let r = c.drop_slot-2.ensures.room in omega (arith, a, r)),
)

pub returns-clause-made : goal.returns-clause-made
returns-clause-made c = λ t. let k = c.self.invariant.0 in
    subst (λ b. HasAbandoned b c.args.place.now (book_of c.self.inside.seat c.self.inside.size c.self.inside.rows c.free_at.new.slots.items c.self.inside.live.items c.drop_slot.new.order.items c.drop_slot-2.new.order.items)) c.self.view_is
    (seen_by (HasAbandoned (book_of c.self.inside.seat c.self.inside.size c.self.inside.rows c.self.inside.slots.items c.self.inside.live.items c.self.inside.reserved.items c.self.inside.taken.items) c.args.place.now) _ _ _ _ _ _ _ _ _ _ _ c.free_at.ensures refl c.drop_slot.ensures.items c.drop_slot-2.ensures.items
    (abandon_does _ _ _ _ _ _ _ _ c.args.place.now k (there c)))
