use Rattle.std.proofs.Common.{◌≡◌, ◌∙◌, ◌&&◌, List, ap, sym, subst, refl, true, false, map, Some}
use Rattle.std.specs.List.{list_any, find}
use Rattle.refl_types.specs.Same.{same_key}
use Rattle.config_rows.specs.Rows.{IsSought}
use Rattle.config_rows.specs.declared.book.Sought.TheVariants.{RowsFull}
use Rattle.session_key.specs.Matching.{excludes}
use Rattle.session_world.specs.Keys.{is_auth}
use Rattle.session_desk.proofs.BoolFacts.{both, not_true, no_not, true_ne_false}
use Rattle.session_desk.specs.declared.session.ReserveFault.TheVariants.{Duplicate}
use Rattle.session_desk.specs.declared.session.Slot.{Slot}
use Rattle.session_desk.specs.Sessions.{has_mode_clash}
use Rattle.session_desk.specs.Slots.{slot_in, session_in, key_in, taken_in, is_taken}
use Rattle.session_desk.specs.Calls.{IsAloneIn}
use Rattle.session_desk.specs.Refusals.{IsNotAdmitted}
use Rattle.session_desk.proofs.Walking.{second_fails}
use Rattle.session_desk.proofs.Telling.{order_inside_by}
use Rattle.session_desk.proofs.Refused.{refused_duplicate, none_same, some_clash, found_some, alone_by}
use Rattle.session_desk.proofs.book.DeskBook.admits.Goals as goal

pub returns-then-same_key : goal.returns-then-same_key
returns-then-same_key c = λ t. let k = c.self.invariant.0 in let i = c.in-Some.at in
    let there = ap (λ (ss : List Slot). is_taken (taken_in ss i) && excludes (session_in ss i).key c.args.key.now) (sym c.deref.ensures.value) ∙ c.in-Some.ensures.found.1 in
    let slot = c.slot_at.ensures ∙ ap (λ (ss : List Slot). slot_in ss i) c.deref-in-Some.ensures.value in
    let same = ap (λ (s : Slot). same_key s.session.key c.args.key.now) (sym slot) ∙ sym c.same_key.ensures ∙ c.if-same_key.true in (
      subst (λ b. IsNotAdmitted b c.args.key.now c.args.config.now (Duplicate c.args.key.now)) c.self.view_is
          (refused_duplicate c.self.inside.size c.self.inside.seat c.self.inside.rows _ _ _ _ _ i c.args.key.now c.args.config.now k (both _ _ there).0 same),
      refl,
    )

pub earliest_clash-requires : goal.earliest_clash-requires
earliest_clash-requires c = record { inside = order_inside_by is_taken _ _ _ _ c.self.invariant.0.taken refl c.deref-in-Some-2.ensures.value c.deref-in-Some-3.ensures.value }

pub unreachable-requires : goal.unreachable-requires
unreachable-requires c = let k = c.self.invariant.0 in let i = c.in-Some.at in
    let there = ap (λ (ss : List Slot). is_taken (taken_in ss i) && excludes (session_in ss i).key c.args.key.now) (sym c.deref.ensures.value) ∙ c.in-Some.ensures.found.1 in
    let slot = c.slot_at.ensures ∙ ap (λ (ss : List Slot). slot_in ss i) c.deref-in-Some.ensures.value in
    let other = ap (λ (s : Slot). same_key s.session.key c.args.key.now) (sym slot) ∙ sym c.same_key.ensures ∙ c.if-same_key.false in
    found_some (λ j. has_mode_clash j c.args.key.now) (map (key_in c.self.inside.slots.items) c.self.inside.taken.items)
    (some_clash _ _ _ _ _ _ _ _ i c.args.key.now k (both _ _ there).0 (both _ _ there).1 other)
    ((λ p. find (λ j. has_mode_clash j c.args.key.now) (map (key_in (sym c.deref-in-Some-2.ensures.value p)) (sym c.deref-in-Some-3.ensures.value p))) ∙ sym c.earliest_clash.ensures ∙ c.in_default-earliest_clash.is)

pub returns-in-Some : goal.returns-in-Some
returns-in-Some c = λ t. let k = c.self.invariant.0 in let i = c.in-Some.at in
    let there = ap (λ (ss : List Slot). is_taken (taken_in ss i) && excludes (session_in ss i).key c.args.key.now) (sym c.deref.ensures.value) ∙ c.in-Some.ensures.found.1 in
    let slot = c.slot_at.ensures ∙ ap (λ (ss : List Slot). slot_in ss i) c.deref-in-Some.ensures.value in
    let other = ap (λ (s : Slot). same_key s.session.key c.args.key.now) (sym slot) ∙ sym c.same_key.ensures ∙ c.if-same_key.false in (
      (
        subst (λ b. list_any (λ j. same_key j c.args.key.now) b.keys ≡ false) c.self.view_is (none_same _ _ _ _ _ _ _ _ i c.args.key.now k (both _ _ there).0 (both _ _ there).1 other),
        subst (λ b. find (λ j. has_mode_clash j c.args.key.now) b.keys ≡ Some c.in-Some-earliest_clash.other) c.self.view_is
            ((λ p. find (λ j. has_mode_clash j c.args.key.now) (map (key_in (sym c.deref-in-Some-2.ensures.value p)) (sym c.deref-in-Some-3.ensures.value p))) ∙ sym c.earliest_clash.ensures ∙ c.in-Some-earliest_clash.is),
      ),
      refl,
    )

pub returns-then-lacks_key : goal.returns-then-lacks_key
returns-then-lacks_key c = λ t. let b = both _ _ (sym c.lacks_key.ensures ∙ c.if-lacks_key.true) in (
  (
    subst (λ b. IsAloneIn b c.args.key.now) c.self.view_is (alone_by c.self.inside.size c.self.inside.seat c.self.inside.rows _ _ _ _ _ _ _ c.args.key.now c.self.invariant.0 c.deref.ensures.value c.deref-2.ensures.value c.in_default.ensures.none),
    (b.0, not_true _ b.1),
  ),
  refl,
)

pub returns-then-is_full : goal.returns-then-is_full
returns-then-is_full c = λ t. (
  (
    subst (λ b. IsAloneIn b c.args.key.now) c.self.view_is (alone_by c.self.inside.size c.self.inside.seat c.self.inside.rows _ _ _ _ _ _ _ c.args.key.now c.self.invariant.0 c.deref.ensures.value c.deref-2.ensures.value c.in_default.ensures.none),
    (λ (a : is_auth c.args.key.now ≡ true). no_not _ (second_fails _ _ (sym c.lacks_key.ensures ∙ c.if-lacks_key.false) a)),
    subst (λ b. IsSought b.rows c.args.config.now RowsFull) c.self.view_is (c.is_full.ensures.0 c.if-is_full.true),
  ),
  refl,
)

pub returns : goal.returns
returns c = λ t. (
  record {
    alone = subst (λ b. IsAloneIn b c.args.key.now) c.self.view_is (alone_by c.self.inside.size c.self.inside.seat c.self.inside.rows _ _ _ _ _ _ _ c.args.key.now c.self.invariant.0 c.deref.ensures.value c.deref-2.ensures.value c.in_default.ensures.none);
    keyed = λ (a : is_auth c.args.key.now ≡ true). no_not _ (second_fails _ _ (sym c.lacks_key.ensures ∙ c.if-lacks_key.false) a);
    room = λ x. true_ne_false (sym (c.is_full.ensures.1 (subst (λ b. IsSought b.rows c.args.config.now RowsFull) (sym c.self.view_is) x)) ∙ c.if-is_full.false);
  },
  refl,
)
