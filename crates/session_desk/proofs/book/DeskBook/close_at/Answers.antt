use Rattle.std.proofs.Common.{◌≡◌, ◌<◌, ◌∙◌, List, ap, sym, subst, refl, true, length}
use Rattle.session_desk.specs.declared.session.Slot.{Slot}
use Rattle.session_desk.specs.Sessions.{is_of}
use Rattle.session_desk.specs.Slots.{session_in, taken_in, is_live}
use Rattle.session_desk.specs.Kept.{book_of}
use Rattle.session_desk.specs.Calls.{IsNotLive, ClosesLater}
use Rattle.session_desk.proofs.Keeping.{kept_by, seen_by, not_live_by}
use Rattle.session_desk.proofs.Changing.{closing_kept, closing_does}
use Rattle.session_desk.proofs.book.DeskBook.close_at.Goals as goal

pub returns-in_default-clause-made : goal.returns-in_default-clause-made
returns-in_default-clause-made c = λ t. (subst (λ b. IsNotLive b c.args.key.now) c.self.view_is (not_live_by _ _ _ _ _ _ _ _ _ _ c.args.key.now c.self.invariant.0 c.deref.ensures.value c.deref-2.ensures.value c.in_default.ensures.none), refl)

pub set_closing_at-requires : goal.set_closing_at-requires
set_closing_at-requires c = let f = c.in-Some.ensures.found in subst (λ (ss : List Slot). c.in-Some.at < length ss) c.deref.ensures.value f.0

live : (c : goal.After-set_closing_at) → is_live (taken_in c.self.inside.slots.items c.in-Some.at) ≡ true
live c = let f = c.in-Some.ensures.found in ap (λ (ss : List Slot). is_live (taken_in ss c.in-Some.at)) (sym c.deref.ensures.value) ∙ f.1

at_key : (c : goal.After-set_closing_at) → is_of c.args.key.now (session_in c.self.inside.slots.items c.in-Some.at) ≡ true
at_key c = let f = c.in-Some.ensures.found in ap (λ (ss : List Slot). is_of c.args.key.now (session_in ss c.in-Some.at)) (sym c.deref.ensures.value) ∙ f.2

pub invariant_of-self : goal.invariant_of-self
invariant_of-self c = let k = c.self.invariant.0 in (
  kept_by _ _ _ _ _ _ _ _ _ _ _ _ _ refl c.set_closing_at.ensures refl refl refl (closing_kept _ _ _ _ _ _ _ _ c.in-Some.at c.args.moment k (live c)),
  c.self.invariant.1,
  c.self.invariant.2,
  c.self.invariant.3,
  c.self.invariant.4,
)

pub returns-clause-made : goal.returns-clause-made
returns-clause-made c = λ t. let k = c.self.invariant.0 in
    subst (λ b. ClosesLater b c.args.key.now c.args.moment (book_of c.self.inside.seat c.self.inside.size c.self.inside.rows c.set_closing_at.new.slots.items c.self.inside.live.items c.self.inside.reserved.items c.self.inside.taken.items)) c.self.view_is
    (seen_by (ClosesLater (book_of c.self.inside.seat c.self.inside.size c.self.inside.rows c.self.inside.slots.items c.self.inside.live.items c.self.inside.reserved.items c.self.inside.taken.items) c.args.key.now c.args.moment) _ _ _ _ _ _ _ _ _ _ _ c.set_closing_at.ensures refl refl refl
    (closing_does _ _ _ _ _ _ _ _ c.args.key.now c.in-Some.at c.args.moment k (live c) (at_key c)))
