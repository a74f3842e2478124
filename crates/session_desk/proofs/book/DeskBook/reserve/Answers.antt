use Rattle.std.proofs.Common.{◌≡◌, ℕ, ◌+◌, ◌<◌, ◌∙◌, ◌++◌, ◌∷◌, false, List, length, set, ap, sym, subst, refl, arith, append_assoc}
use Rattle.std.specs.List.{count_by}
use Rattle.refl_types.specs.declared.outcome.Place.{Place}
use Rattle.session_key.specs.Words.{key_words}
use Rattle.session_world.specs.declared.steps.TableSize.{TableSize}
use Rattle.session_world.specs.declared.steps.Step.{Step}
use Rattle.session_world.specs.Desk.{start_of_key}
use Rattle.session_world.specs.Answers.{desk_answers}
use Rattle.session_desk.proofs.BoolFacts.{both, not_true}
use Rattle.session_world.specs.Allowed.{DeskDid}
use Rattle.session_rule.specs.Seats.{size_of, IsDeskOfOneSchedule, joined_parts, desk_steps}
use Rattle.session_desk.specs.declared.session.Use.TheVariants.{Reserved}
use Rattle.session_desk.specs.declared.session.Session.{Session}
use Rattle.session_desk.specs.declared.session.Slot.{Slot}
use Rattle.session_desk.specs.Slots.{slot_in, session_in, is_spent, is_left_over, may_take, IsFirst, IsAlone}
use Rattle.session_desk.specs.Kept.{RowsFit, IsKept, book_of}
use Rattle.config_rows.specs.Rows.{IsSought}
use Rattle.session_desk.specs.Book.{Book}
use Rattle.session_desk.specs.Refusals.{IsRefused, IsUnmoved, IsFull}
use Rattle.session_desk.specs.declared.session.ReserveFault.TheVariants.{Full}
use Rattle.config_rows.specs.declared.book.Sought.TheVariants.{RowsFull}
use Rattle.session_desk.specs.Calls.{NoCause, HasReserved}
use Rattle.session_desk.proofs.Refused.{refused_by, unmoved_by, alone_of}
use Rattle.session_desk.proofs.Counting.{full}
use Rattle.session_desk.specs.Writes.{scans_of, key_writes, reserve_step, IsReady, HasAdded}
use Rattle.session_desk.proofs.Walking.{start_is}
use Rattle.session_desk.proofs.Keeping.{kept_by, seen_by, is_small}
use Rattle.session_desk.proofs.Orders.{both_fit}
use Rattle.session_desk.proofs.Written.{scans_quiet}
use Rattle.session_desk.proofs.Reserving.{same_answers}
use Rattle.session_desk.proofs.Reserved.{scans_kept, is_ready, has_room_free, has_room_taken}
use Rattle.session_desk.proofs.Seated.{reserved_slot, steps_after, answers_of_all}
use Rattle.session_desk.proofs.Whole.{reserve_keeps, reserve_does}
use Rattle.session_desk.proofs.book.DeskBook.reserve.Goals as goal

pub invariant_of-self : goal.invariant_of-self
invariant_of-self c = let k = c.self.invariant.0 in let same = c.requires.same in (
  kept_by _ _ _ _ _ _ _ _ _ _ _ _ _ c.scan_all-words.ensures.steps refl refl refl refl (scans_kept _ _ _ _ _ _ _ _ c.self.inside.size.workers c.scan_all-words.result k),
  subst (λ z. IsDeskOfOneSchedule z (desk_steps c.scan_all-words.new.seat) (joined_parts c.scan_all-words.new.seat)) (same.1 ∙ ap (λ b. b.size) (sym c.self.view_is)) c.scan_all-words.ensures.schedule,
  c.self.invariant.2,
  c.self.invariant.3,
  c.self.invariant.4,
)

pub write_session-requires-clause-fits : goal.write_session-requires-clause-fits
write_session-requires-clause-fits c = let k = c.self.invariant.0 in let same = c.requires.same in
    subst (λ (z : TableSize). RowsFit z (desk_steps c.scan_all-words.new.seat) c.self.inside.rows) (sym (same.1 ∙ ap (λ b. b.size) (sym c.self.view_is)))
    (subst (λ (ds : List Step). RowsFit c.self.inside.size ds c.self.inside.rows) (sym c.scan_all-words.ensures.steps)
    (scans_kept _ _ _ _ _ _ _ _ c.self.inside.size.workers c.scan_all-words.result k).rows)

first_a : (c : goal.After-place-1) → IsFirst c.self.inside.slots.items c.self.inside.size.workers c.scan_all-words.result c.place-start.result c.next_place-place.result.slot
first_a c = subst (IsFirst c.self.inside.slots.items c.self.inside.size.workers c.scan_all-words.result c.place-start.result) (sym (ap (λ (p : Place). p.slot) c.next_place-place.ensures))
    (subst (λ (ss : List Slot). IsFirst ss c.self.inside.size.workers c.scan_all-words.result c.place-start.result c.in-Some.at) c.deref.ensures.value c.in-Some.ensures.found)

next_a : (c : goal.After-place-1) → c.next_place-place.result.generation ≡ (session_in c.self.inside.slots.items c.next_place-place.result.slot).place.generation + 1
next_a c = ap (λ (p : Place). p.generation) c.next_place-place.ensures ∙ ap (λ (s : Slot). s.session.place.generation + 1) (c.slot_at.ensures ∙ ap (λ (ss : List Slot). slot_in ss c.in-Some.at) c.deref-2.ensures.value)
    ∙ ap (λ (j : ℕ). (session_in c.self.inside.slots.items j).place.generation + 1) (sym (ap (λ (p : Place). p.slot) c.next_place-place.ensures))

start_a : (c : goal.After-place-1) → c.place-start.result ≡ start_of_key c.self.inside.size c.args.key.now
start_a c = c.place-start.ensures.value ∙ sym (start_is c.self.inside.size.slots c.args.key.now.local c.args.key.now.peer)

pub write_session-requires-clause-free : goal.write_session-requires-clause-free
write_session-requires-clause-free c = let k = c.self.invariant.0 in let same = c.requires.same in
    subst (λ (z : TableSize). IsReady z (desk_steps c.scan_all-words.new.seat) c.next_place-place.result c.args.key.now) (sym (same.1 ∙ ap (λ b. b.size) (sym c.self.view_is)))
    (subst (λ (ds : List Step). IsReady c.self.inside.size ds c.next_place-place.result c.args.key.now) (sym c.scan_all-words.ensures.steps)
    (is_ready c.self.inside.size _ _ c.scan_all-words.result c.place-start.result c.next_place-place.result c.args.key.now (c.law_desk_slots.ensures _ _ (c.law_desk_did.ensures _ _ _ c.self.invariant.1)) k.slots (first_a c) (start_a c) (next_a c)))

first_b : (c : goal.After-push_slot-arg-1) → IsFirst c.self.inside.slots.items c.self.inside.size.workers c.scan_all-words.result c.place-start.result c.next_place-place.result.slot
first_b c = subst (IsFirst c.self.inside.slots.items c.self.inside.size.workers c.scan_all-words.result c.place-start.result) (sym (ap (λ (p : Place). p.slot) c.next_place-place.ensures))
    (subst (λ (ss : List Slot). IsFirst ss c.self.inside.size.workers c.scan_all-words.result c.place-start.result c.in-Some.at) c.deref.ensures.value c.in-Some.ensures.found)

next_b : (c : goal.After-push_slot-arg-1) → c.next_place-place.result.generation ≡ (session_in c.self.inside.slots.items c.next_place-place.result.slot).place.generation + 1
next_b c = ap (λ (p : Place). p.generation) c.next_place-place.ensures ∙ ap (λ (s : Slot). s.session.place.generation + 1) (c.slot_at.ensures ∙ ap (λ (ss : List Slot). slot_in ss c.in-Some.at) c.deref-2.ensures.value)
    ∙ ap (λ (j : ℕ). (session_in c.self.inside.slots.items j).place.generation + 1) (sym (ap (λ (p : Place). p.slot) c.next_place-place.ensures))

start_b : (c : goal.After-push_slot-arg-1) → c.place-start.result ≡ start_of_key c.self.inside.size c.args.key.now
start_b c = c.place-start.ensures.value ∙ sym (start_is c.self.inside.size.slots c.args.key.now.local c.args.key.now.peer)

first_c : (c : goal.After-widen) → IsFirst c.self.inside.slots.items c.self.inside.size.workers c.scan_all-words.result c.place-start.result c.next_place-place.result.slot
first_c c = subst (IsFirst c.self.inside.slots.items c.self.inside.size.workers c.scan_all-words.result c.place-start.result) (sym (ap (λ (p : Place). p.slot) c.next_place-place.ensures))
    (subst (λ (ss : List Slot). IsFirst ss c.self.inside.size.workers c.scan_all-words.result c.place-start.result c.in-Some.at) c.deref.ensures.value c.in-Some.ensures.found)

next_c : (c : goal.After-widen) → c.next_place-place.result.generation ≡ (session_in c.self.inside.slots.items c.next_place-place.result.slot).place.generation + 1
next_c c = ap (λ (p : Place). p.generation) c.next_place-place.ensures ∙ ap (λ (s : Slot). s.session.place.generation + 1) (c.slot_at.ensures ∙ ap (λ (ss : List Slot). slot_in ss c.in-Some.at) c.deref-2.ensures.value)
    ∙ ap (λ (j : ℕ). (session_in c.self.inside.slots.items j).place.generation + 1) (sym (ap (λ (p : Place). p.slot) c.next_place-place.ensures))

start_c : (c : goal.After-widen) → c.place-start.result ≡ start_of_key c.self.inside.size c.args.key.now
start_c c = c.place-start.ensures.value ∙ sym (start_is c.self.inside.size.slots c.args.key.now.local c.args.key.now.peer)

pub push_slot-requires : goal.push_slot-requires
push_slot-requires c = let k = c.self.invariant.0 in let f = first_b c in
    let r = has_room_free c.self.inside.slots.items _ _ c.next_place-place.result.slot k.live k.reserved f.inside (not_true _ (both _ _ f.free).0) in let cap = c.self.invariant.3 in let n = k.slots.count in record { room = omega (arith, r, cap, n) }

pub push_slot-requires-2 : goal.push_slot-requires-2
push_slot-requires-2 c = let k = c.self.invariant.0 in
    let f : IsFirst c.self.inside.slots.items c.self.inside.size.workers c.scan_all-words.result c.place-start.result c.in-Some.at = subst (λ (ss : List Slot). IsFirst ss c.self.inside.size.workers c.scan_all-words.result c.place-start.result c.in-Some.at) c.deref.ensures.value c.in-Some.ensures.found in
    let r = has_room_taken c.self.inside.slots.items _ c.in-Some.at k.taken f.inside (not_true _ (both _ _ f.free).0) in let cap = c.self.invariant.4 in let n = k.slots.count in record { room = omega (arith, r, cap, n) }

size : (c : goal.After-widen) → size_of c.args.table.now ≡ c.self.inside.size
size c = let same = c.requires.same in same.1 ∙ ap (λ b. b.size) (sym c.self.view_is)

steps : (c : goal.After-widen) → desk_steps c.write_session.new.seat ≡ steps_after c.next_place-place.result c.in-Ok.row c.args.key.now c.args.extra.now c.in-Ok.ensures.written.made (scans_of c.self.inside.size.workers c.scan_all-words.result ++ desk_steps c.self.inside.seat)
steps c = let w = c.in-Ok.ensures.written in let p = c.next_place-place.result in w.added.steps ∙ ap (λ (xs : List Step). (reserve_step p c.in-Ok.row ∷ (key_writes p.slot (key_words c.args.key.now c.args.extra.now) 4 ++ w.made)) ++ xs) c.scan_all-words.ensures.steps

schedule : (c : goal.After-widen) → IsDeskOfOneSchedule c.self.inside.size (desk_steps c.write_session.new.seat) (joined_parts c.write_session.new.seat)
schedule c = subst (λ (z : TableSize). IsDeskOfOneSchedule z (desk_steps c.write_session.new.seat) (joined_parts c.write_session.new.seat)) (size c) c.in-Ok.ensures.written.added.schedule

slot_of : (c : goal.After-widen) → c.new_session-session.result.place.slot ≡ c.next_place-place.result.slot
slot_of c = ap (λ (x : Session). x.place.slot) c.new_session-session.ensures

put : (c : goal.After-widen) → c.reserve_at.new.slots.items ≡ set c.self.inside.slots.items c.next_place-place.result.slot (reserved_slot c.args.key.now c.args.extra.now c.in-Ok.row c.next_place-place.result c.args.wait)
put c = c.reserve_at.ensures ∙ (λ p. set c.self.inside.slots.items (slot_of c p) (record { taken = Reserved; session = c.new_session-session.ensures p }))

no_cause : (c : goal.After-widen) → NoCause (book_of c.self.inside.seat c.self.inside.size c.self.inside.rows c.self.inside.slots.items c.self.inside.live.items c.self.inside.reserved.items c.self.inside.taken.items) c.args.key.now c.args.config.now
no_cause c = let n = c.in_default.ensures c.args.table.now in subst (λ b. NoCause b c.args.key.now c.args.config.now) (sym c.self.view_is) n.0

alone : (c : goal.After-widen) → IsAlone c.self.inside.size c.self.inside.slots.items c.args.key.now
alone c = alone_of c.self.inside.size c.self.inside.seat c.self.inside.rows _ _ _ _ _ c.args.key.now c.self.invariant.0 (no_cause c).alone

pub invariant_of-self-2 : goal.invariant_of-self-2
invariant_of-self-2 c = let k = c.self.invariant.0 in let w = c.in-Ok.ensures.written in let p = c.next_place-place.result in (
  subst (λ (far : List ℕ). IsKept c.self.inside.size (desk_steps c.write_session.new.seat) c.write_session.new.rows c.reserve_at.new.slots.items c.self.inside.live.items c.push_slot.new.order.items c.push_slot-2.new.order.items far) (sym c.widen.ensures)
      (kept_by _ _ _ _ _ _ _ _ _ _ _ _ _ (steps c) (put c) refl c.push_slot.ensures.items c.push_slot-2.ensures.items
      (reserve_keeps c.law_walks.ensures c.self.inside.size (desk_steps c.self.inside.seat) w.made c.self.inside.rows c.write_session.new.rows c.self.inside.slots.items c.self.inside.live.items c.self.inside.reserved.items c.self.inside.taken.items c.self.inside.reach.items c.scan_all-words.result
      c.args.key.now c.args.extra.now c.args.config.now c.in-Ok.row c.args.wait c.place-start.result p k (first_c c) (start_c c) c.place-start.ensures.range (alone c) (no_cause c).keyed w.kept w.key_back w.extra_back (c.law_words.ensures.back c.args.config.now)
      (subst (DeskDid c.self.inside.size) (steps c) (c.law_desk_did.ensures _ _ _ (schedule c))))),
  schedule c,
  c.self.invariant.2,
  (let a = c.self.invariant.3 in let r = c.push_slot.ensures.room in omega (arith, a, r)),
  (let a = c.self.invariant.4 in let r = c.push_slot-2.ensures.room in omega (arith, a, r)),
)

added : (c : goal.After-widen) → HasAdded c.args.table.now c.self.inside.seat c.write_session.new.seat (reserve_step c.next_place-place.result c.in-Ok.row ∷ (key_writes c.next_place-place.result.slot (key_words c.args.key.now c.args.extra.now) 4 ++ (c.in-Ok.ensures.written.made ++ scans_of c.self.inside.size.workers c.scan_all-words.result)))
added c = let w = c.in-Ok.ensures.written in let p = c.next_place-place.result in let scans = scans_of c.self.inside.size.workers c.scan_all-words.result in record {
  steps = steps c ∙ ap (λ (xs : List Step). reserve_step p c.in-Ok.row ∷ (key_writes p.slot (key_words c.args.key.now c.args.extra.now) 4 ++ xs)) (sym (append_assoc w.made scans (desk_steps c.self.inside.seat)));
  joined = w.added.joined ∙ c.scan_all-words.ensures.joined;
  seat = w.added.seat;
  schedule = w.added.schedule;
}

pub returns-clause-made : goal.returns-clause-made
returns-clause-made c = let k = c.self.invariant.0 in let w = c.in-Ok.ensures.written in let p = c.next_place-place.result in let scans = scans_of c.self.inside.size.workers c.scan_all-words.result in
    subst (λ b. HasReserved c.args.table.now b c.args.key.now c.args.extra.now c.args.config.now c.args.wait p (book_of c.write_session.new.seat c.self.inside.size c.write_session.new.rows c.reserve_at.new.slots.items c.self.inside.live.items c.push_slot.new.order.items c.push_slot-2.new.order.items)) c.self.view_is
    (seen_by (HasReserved c.args.table.now (book_of c.self.inside.seat c.self.inside.size c.self.inside.rows c.self.inside.slots.items c.self.inside.live.items c.self.inside.reserved.items c.self.inside.taken.items) c.args.key.now c.args.extra.now c.args.config.now c.args.wait p) _ _ _ _ _ _ _ _ _ _ _ (put c) refl c.push_slot.ensures.items c.push_slot-2.ensures.items
    (reserve_does c.args.table.now c.self.inside.size c.self.inside.seat c.write_session.new.seat w.made c.self.inside.rows c.write_session.new.rows c.self.inside.slots.items c.self.inside.live.items c.self.inside.reserved.items c.self.inside.taken.items c.self.inside.reach.items c.scan_all-words.result
    c.args.key.now c.args.extra.now c.args.config.now c.in-Ok.row c.args.wait c.place-start.result p k (first_c c) (start_c c) (next_c c) w.kept (added c)
    (ap desk_answers (steps c) ∙ answers_of_all (scans ++ desk_steps c.self.inside.seat) w.made c.self.inside.rows c.write_session.new.rows c.args.key.now c.args.extra.now c.args.config.now c.in-Ok.row p w.kept ∙ same_answers {i = p.slot} scans (desk_steps c.self.inside.seat) (scans_quiet c.self.inside.size.workers c.scan_all-words.result)) (no_cause c)))

pub returns-in-Err-clause-made : goal.returns-in-Err-clause-made
returns-in-Err-clause-made c = let h = c.in-Err.ensures c.args.table.now in (refused_by c.args.self.now c.args.key.now c.args.config.now c.in-Err.fault h.0, unmoved_by c.args.table.now c.args.self.now c.args.key.now c.args.config.now c.in-Err.fault h.0)

pub want_of_slots-requires-clause-live : goal.want_of_slots-requires-clause-live
want_of_slots-requires-clause-live c = let k = c.self.invariant.0 in let n = is_small _ _ _ _ _ _ _ _ k in let l = k.live.count in let f = both_fit c.self.inside.slots.items in omega (arith, n, l, f, c.len.ensures)

pub want_of_slots-requires-clause-reserved : goal.want_of_slots-requires-clause-reserved
want_of_slots-requires-clause-reserved c = let k = c.self.invariant.0 in let n = is_small _ _ _ _ _ _ _ _ k in let l = k.reserved.count in let f = both_fit c.self.inside.slots.items in omega (arith, n, l, f, c.len-in_default-free_slot.ensures)

pub unreachable-requires : goal.unreachable-requires
unreachable-requires c = let n = c.in_default.ensures c.args.table.now in n.0.room (subst (λ b. IsSought b.rows c.args.config.now RowsFull) c.self.view_is c.in_default-write_session.ensures.full.0)

pub returns-in_default-free_slot-clause-made : goal.returns-in_default-free_slot-clause-made
returns-in_default-free_slot-clause-made c = let k = c.self.invariant.0 in let ss = c.self.inside.slots.items in
    let b : Book = book_of c.self.inside.seat c.self.inside.size c.self.inside.rows ss c.self.inside.live.items c.self.inside.reserved.items c.self.inside.taken.items in
    let after : Book = book_of c.scan_all-words.new.seat c.self.inside.size c.self.inside.rows ss c.self.inside.live.items c.self.inside.reserved.items c.self.inside.taken.items in
    let live_len : c.len.result ≡ length c.self.inside.live.items = omega (arith, c.len.ensures) in
    let reserved_len : c.len-in_default-free_slot.result ≡ length c.self.inside.reserved.items = omega (arith, c.len-in_default-free_slot.ensures) in
    let is : c.want_of_slots.result ≡ Full (length c.self.inside.live.items) (length c.self.inside.reserved.items) (count_by is_spent ss) (count_by is_left_over ss)
    = c.want_of_slots.ensures ∙ (λ p. Full (live_len p) (reserved_len p) (count_by is_spent (c.deref-in_default-free_slot.ensures.value p)) (count_by is_left_over (c.deref-in_default-free_slot.ensures.value p))) in
    let n = c.in_default.ensures c.args.table.now in
    let none = subst (λ (xs : List Slot). (j : ℕ) → j < length xs → may_take xs c.self.inside.size.workers c.scan_all-words.result j ≡ false) c.deref.ensures.value c.in_default-free_slot.ensures.none in (
      subst (IsRefused c.args.self.now c.args.key.now c.args.config.now) (sym is) n.0,
      subst (λ f. IsUnmoved c.args.table.now c.args.self.now f after) (sym is)
          (subst (λ x. IsFull c.args.table.now x (length c.self.inside.live.items) (length c.self.inside.reserved.items) (count_by is_spent ss) (count_by is_left_over ss) after) c.self.view_is
          (full c.args.table.now c.self.inside.size c.self.inside.seat c.scan_all-words.new.seat c.self.inside.rows ss c.self.inside.live.items c.self.inside.reserved.items c.self.inside.taken.items c.self.inside.reach.items c.scan_all-words.result k none c.scan_all-words.ensures)),
    )
