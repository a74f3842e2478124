use Rattle.std.proofs.Common.{◌≡◌, ◌∙◌, List, ap, sym, subst, refl, Some, None}
use Rattle.std.specs.Prelude.{option_map}
use Rattle.session_desk.specs.declared.session.Slot.{Slot}
use Rattle.session_desk.specs.Sessions.{is_of}
use Rattle.session_desk.specs.Slots.{slot_in, session_in, taken_in, is_live}
use Rattle.session_desk.specs.Makes.{place_of_key}
use Rattle.session_desk.proofs.Keeping.{not_live_by}
use Rattle.session_desk.proofs.Telling.{found_none, found_live}
use Rattle.session_desk.proofs.book.DeskBook.live_place.Goals as goal

pub returns-in_default : goal.returns-in_default
returns-in_default c = λ t. (
  subst (λ b. None ≡ place_of_key b.live c.args.key.now) c.self.view_is (sym (ap (option_map (λ s. s.place)) (found_none (is_of c.args.key.now) _ (not_live_by _ _ _ _ _ _ _ _ _ _ c.args.key.now c.self.invariant.0 c.deref.ensures.value c.deref-2.ensures.value c.in_default.ensures.none)))),
  refl,
)

pub returns : goal.returns
returns c = λ t. let f = c.in-Some.ensures.found in let i = c.in-Some.at in
    let slot = c.slot_at.ensures ∙ ap (λ (ss : List Slot). slot_in ss i) c.deref-3.ensures.value in (
      subst (λ b. Some c.slot_at.result.now.session.place ≡ place_of_key b.live c.args.key.now) c.self.view_is
          (ap (λ (s : Slot). Some s.session.place) slot ∙ sym (ap (option_map (λ s. s.place)) (found_live _ _ _ _ _ _ _ _ c.args.key.now i c.self.invariant.0 (ap (λ (ss : List Slot). is_live (taken_in ss i)) (sym c.deref.ensures.value) ∙ f.1) (ap (λ (ss : List Slot). is_of c.args.key.now (session_in ss i)) (sym c.deref.ensures.value) ∙ f.2)))),
      refl,
    )
