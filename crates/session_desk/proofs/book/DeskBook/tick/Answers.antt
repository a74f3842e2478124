use Rattle.std.proofs.Common.{◌≡◌, ◌∙◌, List, map, ap, sym, subst, refl, arith}
use Rattle.std.specs.List.{filter}
use Rattle.session_world.specs.declared.steps.TableSize.{TableSize}
use Rattle.session_world.specs.Answers.{desk_answers}
use Rattle.session_world.specs.Loads.{DeskWords}
use Rattle.session_rule.specs.Seats.{size_of, IsDeskOfOneSchedule, joined_parts, desk_steps}
use Rattle.session_desk.specs.declared.session.Slot.{Slot}
use Rattle.session_desk.specs.Slots.{session_in, Reaches}
use Rattle.session_desk.specs.Kept.{book_of}
use Rattle.session_desk.specs.Ticking.{HasTicked}
use Rattle.session_desk.specs.Passing.{slots_passed}
use Rattle.session_desk.proofs.Keeping.{kept_by, seen_by, reached_by}
use Rattle.session_desk.proofs.Scheduled.{words_read}
use Rattle.session_desk.proofs.Remaining.{Remains, remains, are_live, live_now, taken_now}
use Rattle.session_desk.proofs.book.DeskBook.tick.Goals as goal

size : (c : goal.After-keep_taken) → size_of c.args.table.now ≡ c.self.inside.size
size c = let same = c.requires.same in same.1 ∙ ap (λ b. b.size) (sym c.self.view_is)

schedule : (c : goal.After-keep_taken) → IsDeskOfOneSchedule c.self.inside.size (desk_steps c.pass_all-ticked.new.seat) (joined_parts c.pass_all-ticked.new.seat)
schedule c = subst (λ (z : TableSize). IsDeskOfOneSchedule z (desk_steps c.pass_all-ticked.new.seat) (joined_parts c.pass_all-ticked.new.seat)) (size c) c.pass_all-ticked.ensures.passed.added.schedule

left : (c : goal.After-keep_taken) → Remains c.self.inside.size c.args.now c.pass_all-ticked.ensures.passed.fates (desk_steps c.self.inside.seat) c.self.inside.rows c.self.inside.slots.items (slots_passed c.args.now c.pass_all-ticked.ensures.passed.fates c.self.inside.slots.items) c.self.inside.live.items c.self.inside.reserved.items c.self.inside.taken.items c.self.inside.reach.items c.self.inside.live.items
left c = let k = c.self.invariant.0 in let h = c.pass_all-ticked.ensures.passed in
    remains c.self.inside.size c.args.now h.fates c.self.inside.live.items (desk_steps c.self.inside.seat) c.self.inside.rows c.self.inside.slots.items c.self.inside.live.items c.self.inside.reserved.items c.self.inside.taken.items c.self.inside.reach.items k
    (are_live c.self.inside.slots.items c.self.inside.live.items k.live)
    (h.sessions ∙ ap (map (session_in c.self.inside.slots.items)) c.deref.ensures.value) h.each
    (subst DeskWords h.added.steps (words_read c.law_words.ensures c.self.inside.size (desk_steps c.pass_all-ticked.new.seat) (joined_parts c.pass_all-ticked.new.seat) k.limits (schedule c)))

live_is : (c : goal.After-keep_taken) → c.keep_live.new.order.items ≡ filter (live_now (slots_passed c.args.now c.pass_all-ticked.ensures.passed.fates c.self.inside.slots.items)) c.self.inside.live.items
live_is c = c.keep_live.ensures.items ∙ ap (λ (ss : List Slot). filter (live_now ss) c.self.inside.live.items) (c.deref-2.ensures.value ∙ c.pass_all-ticked.ensures.passed.slots_new)

taken_is : (c : goal.After-keep_taken) → c.keep_taken.new.order.items ≡ filter (taken_now (slots_passed c.args.now c.pass_all-ticked.ensures.passed.fates c.self.inside.slots.items)) c.self.inside.taken.items
taken_is c = c.keep_taken.ensures.items ∙ ap (λ (ss : List Slot). filter (taken_now ss) c.self.inside.taken.items) (c.deref-3.ensures.value ∙ c.pass_all-ticked.ensures.passed.slots_new)

pub invariant_of-self : goal.invariant_of-self
invariant_of-self c = let k = c.self.invariant.0 in let h = c.pass_all-ticked.ensures.passed in let e = c.pass_all-ticked.ensures in let n = k.slots.count in (
  reached_by c.self.inside.size (desk_steps c.pass_all-ticked.new.seat) c.self.inside.rows c.pass_all-ticked.new.slots.items c.keep_live.new.order.items c.self.inside.reserved.items c.keep_taken.new.order.items c.self.inside.reach.items c.pass_all-ticked.new.reach.items
      (subst (λ (z : TableSize). Reaches z c.pass_all-ticked.new.slots.items c.pass_all-ticked.new.reach.items) (size c) (e.reaches (subst (λ (z : TableSize). Reaches z c.self.inside.slots.items c.self.inside.reach.items) (sym (size c)) k.reach)))
      (e.width ∙ n)
      (λ i. let r = e.range i in omega (arith, r, n))
      (kept_by _ _ _ _ _ _ _ _ _ _ _ _ _ h.added.steps h.slots_new (live_is c) refl (taken_is c) (left c).kept),
  schedule c,
  (let a = c.self.invariant.2 in let r = c.keep_live.ensures.room in omega (arith, a, r)),
  c.self.invariant.3,
  (let a = c.self.invariant.4 in let r = c.keep_taken.ensures.room in omega (arith, a, r)),
)

pub returns-clause-made : goal.returns-clause-made
returns-clause-made c = let h = c.pass_all-ticked.ensures.passed in
    subst (λ b. HasTicked c.args.table.now b c.args.now c.pass_all-ticked.result (book_of c.pass_all-ticked.new.seat c.self.inside.size c.self.inside.rows c.pass_all-ticked.new.slots.items c.keep_live.new.order.items c.self.inside.reserved.items c.keep_taken.new.order.items)) c.self.view_is
    (seen_by (HasTicked c.args.table.now (book_of c.self.inside.seat c.self.inside.size c.self.inside.rows c.self.inside.slots.items c.self.inside.live.items c.self.inside.reserved.items c.self.inside.taken.items) c.args.now c.pass_all-ticked.result) _ _ _ _ _ _ _ _ _ _ _ h.slots_new (live_is c) refl (taken_is c)
    (record {
      fates = h.fates;
      sessions = h.sessions ∙ ap (map (session_in c.self.inside.slots.items)) c.deref.ensures.value;
      each = h.each;
      added = h.added;
      answers = ap desk_answers h.added.steps ∙ (left c).answers;
      live = (left c).left;
      keys = (left c).keys;
      closed_number = h.closed_number;
      expired_number = h.expired_number;
      reserved = (left c).reserved;
      rows = refl;
      size = refl;
    }))
