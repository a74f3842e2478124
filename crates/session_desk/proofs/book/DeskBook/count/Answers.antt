use Rattle.std.proofs.Common.{◌≡◌, ◌∙◌, List, ap, sym, subst, refl, true}
use Rattle.slot_word.specs.Fields.{sequence_in}
use Rattle.session_world.specs.Loads.{IsWordOf}
use Rattle.session_rule.specs.Seats.{IsDeskOfOneSchedule, joined_parts, desk_steps}
use Rattle.session_desk.specs.declared.session.Slot.{Slot}
use Rattle.session_desk.specs.Sessions.{is_of}
use Rattle.session_desk.specs.Slots.{session_in, taken_in, is_live}
use Rattle.session_desk.specs.Kept.{book_of}
use Rattle.session_desk.specs.Calls.{IsNotLive, HasCounted}
use Rattle.session_desk.proofs.Keeping.{kept_by, not_live_by}
use Rattle.session_desk.proofs.Closing.{peek_kept, count_does}
use Rattle.session_desk.proofs.Scheduled.{word_peeked}
use Rattle.session_desk.proofs.book.DeskBook.count.Goals as goal

pub returns-in_default-clause-made : goal.returns-in_default-clause-made
returns-in_default-clause-made c = (subst (λ b. IsNotLive b c.args.key.now) c.self.view_is (not_live_by _ _ _ _ _ _ _ _ _ _ c.args.key.now c.self.invariant.0 c.deref.ensures.value c.deref-2.ensures.value c.in_default.ensures.none), refl)

live : (c : goal.After-unpack) → is_live (taken_in c.self.inside.slots.items c.in-Some.at) ≡ true
live c = let f = c.in-Some.ensures.found in ap (λ (ss : List Slot). is_live (taken_in ss c.in-Some.at)) (sym c.deref.ensures.value) ∙ f.1

at_key : (c : goal.After-unpack) → is_of c.args.key.now (session_in c.self.inside.slots.items c.in-Some.at) ≡ true
at_key c = let f = c.in-Some.ensures.found in ap (λ (ss : List Slot). is_of c.args.key.now (session_in ss c.in-Some.at)) (sym c.deref.ensures.value) ∙ f.2

schedule : (c : goal.After-unpack) → IsDeskOfOneSchedule c.self.inside.size (desk_steps c.peek_slot-word.new.seat) (joined_parts c.peek_slot-word.new.seat)
schedule c = let same = c.requires.same in subst (λ z. IsDeskOfOneSchedule z (desk_steps c.peek_slot-word.new.seat) (joined_parts c.peek_slot-word.new.seat)) (same.1 ∙ ap (λ b. b.size) (sym c.self.view_is)) c.peek_slot-word.ensures.schedule

pub invariant_of-self : goal.invariant_of-self
invariant_of-self c = let k = c.self.invariant.0 in (
  kept_by _ _ _ _ _ _ _ _ _ _ _ _ _ c.peek_slot-word.ensures.step refl refl refl refl (peek_kept _ _ _ _ _ _ _ _ c.in-Some.at c.peek_slot-word.result k),
  schedule c,
  c.self.invariant.2,
  c.self.invariant.3,
  c.self.invariant.4,
)

pub returns-clause-made : goal.returns-clause-made
returns-clause-made c = let k = c.self.invariant.0 in let i = c.in-Some.at in
    let word : IsWordOf (desk_steps c.self.inside.seat) i c.peek_slot-word.result = word_peeked c.law_words.ensures _ _ _ _ i c.peek_slot-word.result k.limits c.peek_slot-word.ensures.step (schedule c) in
    subst (λ n. HasCounted c.args.table.now c.args.self.now c.args.key.now (book_of c.peek_slot-word.new.seat c.self.inside.size c.self.inside.rows c.self.inside.slots.items c.self.inside.live.items c.self.inside.reserved.items c.self.inside.taken.items) n) (sym c.unpack.ensures.sequence)
    (subst (λ b. HasCounted c.args.table.now b c.args.key.now (book_of c.peek_slot-word.new.seat c.self.inside.size c.self.inside.rows c.self.inside.slots.items c.self.inside.live.items c.self.inside.reserved.items c.self.inside.taken.items) (sequence_in c.peek_slot-word.result)) c.self.view_is
    (count_does c.args.table.now _ _ _ _ _ _ _ _ _ c.args.key.now i c.peek_slot-word.result k (live c) (at_key c) c.peek_slot-word.ensures word))
