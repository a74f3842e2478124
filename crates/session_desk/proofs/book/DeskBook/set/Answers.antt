use Rattle.std.proofs.Common.{◌≡◌, ℕ, ◌∙◌, ◌++◌, ◌∷◌, List, ap, sym, subst, refl, true}
use Rattle.std.specs.List.{list_any}
use Rattle.config_rows.specs.Rows.{IsSought}
use Rattle.config_rows.specs.declared.book.Sought.TheVariants.{RowsFull}
use Rattle.session_world.specs.declared.steps.TableSize.{TableSize}
use Rattle.session_world.specs.declared.steps.Step.{Step}
use Rattle.session_world.specs.declared.steps.Step.TheVariants.{Reconfigure}
use Rattle.session_world.specs.Keys.{is_auth}
use Rattle.session_world.specs.Allowed.{DeskMay}
use Rattle.session_desk.proofs.BoolFacts.{both, not_true, no_not}
use Rattle.session_world.specs.Allowed.{DeskDid}
use Rattle.session_rule.specs.Seats.{size_of, IsDeskOfOneSchedule, joined_parts, desk_steps}
use Rattle.session_desk.specs.declared.session.Slot.{Slot}
use Rattle.session_desk.specs.Sessions.{is_of}
use Rattle.session_desk.specs.Slots.{slot_in, session_in, taken_in, is_live}
use Rattle.session_desk.specs.Kept.{book_of}
use Rattle.session_desk.specs.Calls.{IsNotLive, HasSet}
use Rattle.session_desk.specs.Writes.{HasAdded}
use Rattle.session_desk.proofs.Walking.{second_fails}
use Rattle.session_desk.proofs.Keeping.{kept_by, seen_by, not_live_by, is_live_by}
use Rattle.session_desk.proofs.Setting.{may_set, set_kept, set_does}
use Rattle.session_desk.proofs.Written.{has_row_left}
use Rattle.session_desk.proofs.book.DeskBook.set.Goals as goal

pub reconfigure-requires-clause-may : goal.reconfigure-requires-clause-may
reconfigure-requires-clause-may c n lt = let k = c.self.invariant.0 in let same = c.requires.same in let m = c.in-Ok.ensures.row in let i = c.in-Some.at in
    let size : size_of c.args.table.now ≡ c.self.inside.size = same.1 ∙ ap (λ b. b.size) (sym c.self.view_is) in
    let live : is_live (taken_in c.self.inside.slots.items i) ≡ true = ap (λ (ss : List Slot). is_live (taken_in ss i)) (sym c.deref.ensures.value) ∙ c.in-Some.ensures.found.1 in
    let at : is_of c.args.key.now (session_in c.self.inside.slots.items i) ≡ true = ap (λ (ss : List Slot). is_of c.args.key.now (session_in ss i)) (sym c.deref.ensures.value) ∙ c.in-Some.ensures.found.2 in
    let old : c.slot_at.result.now.session.row ≡ (session_in c.self.inside.slots.items i).row = ap (λ (s : Slot). s.session.row) (c.slot_at.ensures ∙ ap (λ (ss : List Slot). slot_in ss i) c.deref-3.ensures.value) in
    let did : DeskDid c.self.inside.size (m.0 ++ desk_steps c.self.inside.seat) = subst (DeskDid c.self.inside.size) m.1.steps (c.law_desk_did.ensures _ _ _ (subst (λ (z : TableSize). IsDeskOfOneSchedule z (desk_steps c.use_row.new.seat) (joined_parts c.use_row.new.seat)) size m.1.schedule)) in
    subst (λ (z : TableSize). DeskMay z (desk_steps c.use_row.new.seat) (Reconfigure i c.slot_at.result.now.session.row c.in-Ok.row n)) (sym size)
    (subst (λ (ds : List Step). DeskMay c.self.inside.size ds (Reconfigure i c.slot_at.result.now.session.row c.in-Ok.row n)) (sym m.1.steps)
    (subst (λ (r : ℕ). DeskMay c.self.inside.size (m.0 ++ desk_steps c.self.inside.seat) (Reconfigure i r c.in-Ok.row n)) (sym old)
    (may_set c.self.inside.size (desk_steps c.self.inside.seat) m.0 c.self.inside.rows c.use_row.new.rows _ _ _ _ _ c.args.key.now c.args.config.now i c.in-Ok.row n k live at m.2 did (c.law_words.ensures.back c.args.config.now)
    (λ (a : is_auth c.args.key.now ≡ true). no_not _ (second_fails _ _ (sym c.lacks_key.ensures ∙ c.if-lacks_key.false) a)))))

size : (c : goal.After-set_row_at) → size_of c.args.table.now ≡ c.self.inside.size
size c = let same = c.requires.same in same.1 ∙ ap (λ b. b.size) (sym c.self.view_is)

live : (c : goal.After-set_row_at) → is_live (taken_in c.self.inside.slots.items c.in-Some.at) ≡ true
live c = let f = c.in-Some.ensures.found in ap (λ (ss : List Slot). is_live (taken_in ss c.in-Some.at)) (sym c.deref.ensures.value) ∙ f.1

at_key : (c : goal.After-set_row_at) → is_of c.args.key.now (session_in c.self.inside.slots.items c.in-Some.at) ≡ true
at_key c = let f = c.in-Some.ensures.found in ap (λ (ss : List Slot). is_of c.args.key.now (session_in ss c.in-Some.at)) (sym c.deref.ensures.value) ∙ f.2

slot : (c : goal.After-set_row_at) → c.slot_at.result.now ≡ slot_in c.self.inside.slots.items c.in-Some.at
slot c = c.slot_at.ensures ∙ ap (λ (ss : List Slot). slot_in ss c.in-Some.at) c.deref-3.ensures.value

did : (c : goal.After-set_row_at) → DeskDid c.self.inside.size (c.in-Ok.ensures.row.0 ++ desk_steps c.self.inside.seat)
did c = let k = c.self.invariant.0 in let m = c.in-Ok.ensures.row in subst (DeskDid c.self.inside.size) m.1.steps (c.law_desk_did.ensures _ _ _ (subst (λ (z : TableSize). IsDeskOfOneSchedule z (desk_steps c.use_row.new.seat) (joined_parts c.use_row.new.seat)) (size c) m.1.schedule))

steps : (c : goal.After-set_row_at) → desk_steps c.reconfigure.new.seat ≡ Reconfigure c.in-Some.at (session_in c.self.inside.slots.items c.in-Some.at).row c.in-Ok.row c.reconfigure.result ∷ (c.in-Ok.ensures.row.0 ++ desk_steps c.self.inside.seat)
steps c = let m = c.in-Ok.ensures.row in c.reconfigure.ensures.step ∙ (λ p. Reconfigure c.in-Some.at (slot c p).session.row c.in-Ok.row c.reconfigure.result ∷ m.1.steps p)

pub invariant_of-self-2 : goal.invariant_of-self-2
invariant_of-self-2 c = let k = c.self.invariant.0 in let m = c.in-Ok.ensures.row in (
  kept_by _ _ _ _ _ _ _ _ _ _ _ _ _ (steps c) c.set_row_at.ensures refl refl refl
      (set_kept c.self.inside.size (desk_steps c.self.inside.seat) m.0 c.self.inside.rows c.use_row.new.rows _ _ _ _ _ c.args.key.now c.args.config.now c.in-Some.at c.in-Ok.row c.reconfigure.result k (live c) (at_key c) m.2 (did c) (c.law_words.ensures.back c.args.config.now)
      (λ (a : is_auth c.args.key.now ≡ true). no_not _ (second_fails _ _ (sym c.lacks_key.ensures ∙ c.if-lacks_key.false) a))),
  subst (λ (z : TableSize). IsDeskOfOneSchedule z (desk_steps c.reconfigure.new.seat) (joined_parts c.reconfigure.new.seat)) (size c) c.reconfigure.ensures.schedule,
  c.self.invariant.2,
  c.self.invariant.3,
  c.self.invariant.4,
)

added : (c : goal.After-set_row_at) → HasAdded c.args.table.now c.self.inside.seat c.reconfigure.new.seat (Reconfigure c.in-Some.at (session_in c.self.inside.slots.items c.in-Some.at).row c.in-Ok.row c.reconfigure.result ∷ c.in-Ok.ensures.row.0)
added c = let m = c.in-Ok.ensures.row in record { steps = steps c; joined = c.reconfigure.ensures.joined ∙ m.1.joined; seat = c.reconfigure.ensures.seat; schedule = c.reconfigure.ensures.schedule }

pub returns-clause-made : goal.returns-clause-made
returns-clause-made c = let k = c.self.invariant.0 in let m = c.in-Ok.ensures.row in
    subst (λ b. HasSet c.args.table.now b c.args.key.now c.args.config.now (book_of c.reconfigure.new.seat c.self.inside.size c.use_row.new.rows c.set_row_at.new.slots.items c.self.inside.live.items c.self.inside.reserved.items c.self.inside.taken.items)) c.self.view_is
    (seen_by (HasSet c.args.table.now (book_of c.self.inside.seat c.self.inside.size c.self.inside.rows c.self.inside.slots.items c.self.inside.live.items c.self.inside.reserved.items c.self.inside.taken.items) c.args.key.now c.args.config.now) _ _ _ _ _ _ _ _ _ _ _ c.set_row_at.ensures refl refl refl
    (set_does c.args.table.now c.self.inside.size c.self.inside.seat c.reconfigure.new.seat m.0 c.self.inside.rows c.use_row.new.rows _ _ _ _ _ c.args.key.now c.args.config.now c.in-Some.at c.in-Ok.row c.reconfigure.result k (live c) (at_key c) m.2 (did c) (added c) (record { keyed = λ a. no_not _ (second_fails _ _ (sym c.lacks_key.ensures ∙ c.if-lacks_key.false) a); room = has_row_left _ _ _ _ _ m.2 })))

pub returns-in_default-clause-made : goal.returns-in_default-clause-made
returns-in_default-clause-made c = (subst (λ b. IsNotLive b c.args.key.now) c.self.view_is (not_live_by _ _ _ _ _ _ _ _ _ _ c.args.key.now c.self.invariant.0 c.deref.ensures.value c.deref-2.ensures.value c.in_default.ensures.none), refl)

some_live : (c : goal.Then-lacks_key) → list_any (is_of c.args.key.now) c.args.self.now.live ≡ true
some_live c = let k = c.self.invariant.0 in let f = c.in-Some.ensures.found in subst (λ b. list_any (is_of c.args.key.now) b.live ≡ true) c.self.view_is
    (is_live_by _ _ _ _ _ _ _ _ c.args.key.now c.in-Some.at k (ap (λ (ss : List Slot). is_live (taken_in ss c.in-Some.at)) (sym c.deref.ensures.value) ∙ f.1) (ap (λ (ss : List Slot). is_of c.args.key.now (session_in ss c.in-Some.at)) (sym c.deref.ensures.value) ∙ f.2))

pub returns-then-lacks_key-clause-made : goal.returns-then-lacks_key-clause-made
returns-then-lacks_key-clause-made c = let b = both _ _ (sym c.lacks_key.ensures ∙ c.if-lacks_key.true) in ((some_live c, (b.0, not_true _ b.1)), refl)

pub returns-in_default-use_row-clause-made : goal.returns-in_default-use_row-clause-made
returns-in_default-use_row-clause-made c = let f = c.in_default-use_row.ensures.full in let k = c.self.invariant.0 in let g = c.in-Some.ensures.found in (
  (
    subst (λ b. list_any (is_of c.args.key.now) b.live ≡ true) c.self.view_is
        (is_live_by _ _ _ _ _ _ _ _ c.args.key.now c.in-Some.at k (ap (λ (ss : List Slot). is_live (taken_in ss c.in-Some.at)) (sym c.deref.ensures.value) ∙ g.1) (ap (λ (ss : List Slot). is_of c.args.key.now (session_in ss c.in-Some.at)) (sym c.deref.ensures.value) ∙ g.2)),
    (λ (a : is_auth c.args.key.now ≡ true). no_not _ (second_fails _ _ (sym c.lacks_key.ensures ∙ c.if-lacks_key.false) a)),
    subst (λ b. IsSought b.rows c.args.config.now RowsFull) c.self.view_is f.0,
  ),
  (λ p. book_of (f.1 p) c.self.inside.size (f.2 p) c.self.inside.slots.items c.self.inside.live.items c.self.inside.reserved.items c.self.inside.taken.items) ∙ c.self.view_is,
)
