use Rattle.std.proofs.Common.{◌≡◌, ◌<◌, ◌∙◌, List, ap, sym, subst, refl, arith, true, length}
use Rattle.std.proofs.lemmas.List.{length-set}
use Rattle.slot_word.specs.Fields.{sequence_in}
use Rattle.session_rule.specs.Seats.{IsDeskOfOneSchedule, joined_parts, desk_steps}
use Rattle.session_desk.specs.declared.session.Slot.{Slot}
use Rattle.session_desk.specs.Sessions.{is_of}
use Rattle.session_desk.specs.Slots.{session_in, taken_in, is_live}
use Rattle.session_desk.specs.Kept.{book_of}
use Rattle.session_desk.specs.Calls.{IsNotLive, HasClosed}
use Rattle.session_desk.proofs.Keeping.{kept_by, seen_by, shrunk_by, is_small, not_live_by}
use Rattle.session_desk.proofs.Closing.{close_kept, close_does}
use Rattle.session_desk.proofs.book.DeskBook.close.Goals as goal

pub returns-in_default-clause-made : goal.returns-in_default-clause-made
returns-in_default-clause-made c = (subst (λ b. IsNotLive b c.args.key.now) c.self.view_is (not_live_by _ _ _ _ _ _ _ _ _ _ c.args.key.now c.self.invariant.0 c.deref.ensures.value c.deref-2.ensures.value c.in_default.ensures.none), refl)

pub free_at-requires : goal.free_at-requires
free_at-requires c = let f = c.in-Some.ensures.found in subst (λ (ss : List Slot). c.in-Some.at < length ss) c.deref.ensures.value f.0

pub start_of-start-requires : goal.start_of-start-requires
start_of-start-requires c = let f = c.in-Some.ensures.found in
    let e : length c.deref-3.result.now ≡ length c.self.inside.slots.items = ap (λ (ss : List Slot). length ss) (c.deref-3.ensures.value ∙ c.free_at.ensures) ∙ length-set _ _ _ in
    let i : c.in-Some.at < length c.self.inside.slots.items = subst (λ (ss : List Slot). c.in-Some.at < length ss) c.deref.ensures.value f.0 in
    let n = is_small _ _ _ _ _ _ _ _ c.self.invariant.0 in record { inside = omega (arith, e, i); count = omega (arith, e, n) }

pub shrink-requires : goal.shrink-requires
shrink-requires c = let k = c.self.invariant.0 in let s = c.start_of-start.ensures.range in
    let e : length c.deref-4.result.now ≡ length c.self.inside.slots.items = ap (λ (ss : List Slot). length ss) (c.deref-4.ensures.value ∙ c.free_at.ensures) ∙ length-set _ _ _ in
    let d : length c.deref-3.result.now ≡ length c.self.inside.slots.items = ap (λ (ss : List Slot). length ss) (c.deref-3.ensures.value ∙ c.free_at.ensures) ∙ length-set _ _ _ in
    let n = is_small _ _ _ _ _ _ _ _ k in let w = k.width in let m = k.slots.count in record {
      count = omega (arith, e, n);
      inside = omega (arith, s, d, e);
      width = omega (arith, w, e, m);
      range = λ i. let r = k.range i in omega (arith, r, e, m);
    }

live : (c : goal.After-unpack) → is_live (taken_in c.self.inside.slots.items c.in-Some.at) ≡ true
live c = let f = c.in-Some.ensures.found in ap (λ (ss : List Slot). is_live (taken_in ss c.in-Some.at)) (sym c.deref.ensures.value) ∙ f.1

at_key : (c : goal.After-unpack) → is_of c.args.key.now (session_in c.self.inside.slots.items c.in-Some.at) ≡ true
at_key c = let f = c.in-Some.ensures.found in ap (λ (ss : List Slot). is_of c.args.key.now (session_in ss c.in-Some.at)) (sym c.deref.ensures.value) ∙ f.2

pub invariant_of-self : goal.invariant_of-self
invariant_of-self c = let k = c.self.invariant.0 in let s = c.shrink.ensures in (
  shrunk_by _ _ _ _ c.deref-4.result.now _ _ _ _ _ c.deref-4.ensures.value s.width s.range s.reaches
      (kept_by _ _ _ _ _ _ _ _ _ _ _ _ _ c.close_slot-word.ensures.step c.free_at.ensures c.drop_slot.ensures.items refl c.drop_slot-2.ensures.items (close_kept _ _ _ _ _ _ _ _ c.in-Some.at c.close_slot-word.result k (live c))),
  (let same = c.requires.same in subst (λ z. IsDeskOfOneSchedule z (desk_steps c.close_slot-word.new.seat) (joined_parts c.close_slot-word.new.seat)) (same.1 ∙ ap (λ b. b.size) (sym c.self.view_is)) c.close_slot-word.ensures.schedule),
  (let a = c.self.invariant.2 in let r = c.drop_slot.ensures.room in omega (arith, a, r)),
  c.self.invariant.3,
  (let a = c.self.invariant.4 in let r = c.drop_slot-2.ensures.room in omega (arith, a, r)),
)

pub returns-clause-made : goal.returns-clause-made
returns-clause-made c = let k = c.self.invariant.0 in let i = c.in-Some.at in
    subst (λ n. HasClosed c.args.table.now c.args.self.now c.args.key.now (book_of c.close_slot-word.new.seat c.self.inside.size c.self.inside.rows c.free_at.new.slots.items c.drop_slot.new.order.items c.self.inside.reserved.items c.drop_slot-2.new.order.items) n) (sym c.unpack.ensures.sequence)
    (subst (λ b. HasClosed c.args.table.now b c.args.key.now (book_of c.close_slot-word.new.seat c.self.inside.size c.self.inside.rows c.free_at.new.slots.items c.drop_slot.new.order.items c.self.inside.reserved.items c.drop_slot-2.new.order.items) (sequence_in c.close_slot-word.result)) c.self.view_is
    (seen_by (λ b. HasClosed c.args.table.now (book_of c.self.inside.seat c.self.inside.size c.self.inside.rows c.self.inside.slots.items c.self.inside.live.items c.self.inside.reserved.items c.self.inside.taken.items) c.args.key.now b (sequence_in c.close_slot-word.result)) _ _ _ _ _ _ _ _ _ _ _ c.free_at.ensures c.drop_slot.ensures.items refl c.drop_slot-2.ensures.items
    (close_does c.args.table.now _ _ _ _ _ _ _ _ _ c.args.key.now i c.close_slot-word.result k (live c) (at_key c) c.close_slot-word.ensures)))
