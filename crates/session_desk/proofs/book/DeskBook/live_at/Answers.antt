use Rattle.std.proofs.Common.{◌≡◌, ℕ, ◌<◌, ◌∙◌, List, length, ap, sym, subst, refl, Some, None}
use Rattle.std.specs.Prelude.{option_map}
use Rattle.std.specs.List.{slice_get}
use Rattle.std.proofs.lemmas.Option.{slice_get_past, slice_get-get_or, slice_get-map}
use Rattle.session_desk.specs.declared.session.Slot.{Slot}
use Rattle.session_desk.specs.Slots.{slot_in, session_in}
use Rattle.session_desk.specs.Makes.{key_at}
use Rattle.session_desk.proofs.Telling.{got_inside}
use Rattle.session_desk.proofs.book.DeskBook.live_at.Goals as goal

pub slot_at-requires : goal.slot_at-requires
slot_at-requires c = let h = c.in-Some.ensures.lookup in
    let got : slice_get c.deref.result.now c.args.index ≡ Some c.in-Some.at.now = slice_get-get_or c.deref.result.now c.args.index 0 h.3.0 ∙ ap (λ (i : ℕ). Some i) (sym (h.3.1 0)) in
    let inside = got_inside _ _ _ _ _ _ _ _ c.args.index c.in-Some.at.now c.self.invariant.0 (ap (λ (xs : List ℕ). slice_get xs c.args.index) (sym c.deref.ensures.value) ∙ got) in
    subst (λ (ss : List Slot). c.in-Some.at.now < length ss) (sym c.deref-2.ensures.value) inside

pub returns-in_default : goal.returns-in_default
returns-in_default c = λ t. let h = c.in_default.ensures.lookup in
    let past : slice_get c.self.inside.live.items c.args.index ≡ None = ap (λ (xs : List ℕ). slice_get xs c.args.index) (sym c.deref.ensures.value) ∙ slice_get_past c.deref.result.now c.args.index h.3 in (
      subst (λ b. None ≡ key_at b.live c.args.index) c.self.view_is (sym (ap (option_map (λ s. s.key)) (slice_get-map (session_in c.self.inside.slots.items) c.self.inside.live.items c.args.index ∙ ap (option_map (session_in c.self.inside.slots.items)) past))),
      refl,
    )

pub returns : goal.returns
returns c = λ t. let h = c.in-Some.ensures.lookup in
    let got : slice_get c.self.inside.live.items c.args.index ≡ Some c.in-Some.at.now = ap (λ (xs : List ℕ). slice_get xs c.args.index) (sym c.deref.ensures.value) ∙ slice_get-get_or c.deref.result.now c.args.index 0 h.3.0 ∙ ap (λ (i : ℕ). Some i) (sym (h.3.1 0)) in (
      subst (λ b. Some c.slot_at.result.now.session.key ≡ key_at b.live c.args.index) c.self.view_is
          (ap (λ (s : Slot). Some s.session.key) (c.slot_at.ensures ∙ ap (λ (ss : List Slot). slot_in ss c.in-Some.at.now) c.deref-2.ensures.value)
          ∙ sym (ap (option_map (λ s. s.key)) (slice_get-map (session_in c.self.inside.slots.items) c.self.inside.live.items c.args.index ∙ ap (option_map (session_in c.self.inside.slots.items)) got))),
      refl,
    )
