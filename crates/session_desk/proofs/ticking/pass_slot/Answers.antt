use Rattle.std.proofs.Common.{◌≡◌, ◌∙◌, ap, sym, subst, refl, true, ℕ, List, [], ◌∷◌}
use Rattle.slot_word.specs.Fields.{is_open_word}
use Rattle.session_world.specs.declared.steps.Step.{Step}
use Rattle.session_world.specs.declared.steps.Step.TheVariants as steps
use Rattle.session_world.specs.Desk.{is_open}
use Rattle.expiry.specs.Verdicts.{verdict}
use Rattle.session_desk.specs.declared.session.Slot.{Slot}
use Rattle.session_desk.specs.Slots.{slot_in}
use Rattle.session_desk.specs.Ticking.{is_due, is_closed, keeps, renews, expires, escapes}
use Rattle.session_desk.specs.Writes.{HasAdded}
use Rattle.session_desk.proofs.Orders.{set_itself}
use Rattle.session_desk.proofs.Added.{added_one, added_two}
use Rattle.session_desk.proofs.Fates.{expires_as_noted}
use Rattle.session_desk.proofs.ticking.pass_slot.Goals as goal

pub returns-then-is_due : goal.returns-then-is_due
returns-then-is_due c = let slot = c.slot_at.ensures ∙ ap (λ (ss : List Slot). slot_in ss c.args.at) c.deref.ensures.value in record {
  fate = is_closed c.close_slot.result;
  due = ap (λ (s : Slot). is_due c.args.now s.session.closing) (sym slot) ∙ sym c.is_due.ensures ∙ c.if-is_due.true;
  added = added_one _ _ _ _ c.close_slot.ensures;
  slots_new = c.free_at.ensures;
  answer = refl;
}

pub expire_slot-found-requires-clause-may : goal.expire_slot-found-requires-clause-may
expire_slot-found-requires-clause-may c = λ n lt. let slot = c.slot_at.ensures ∙ ap (λ (ss : List Slot). slot_in ss c.args.at) c.deref.ensures.value in
    let note = c.slot_at.result.now.session.note in
    let same : c.peek_slot-word.result ≡ note.word = expires_as_noted note c.peek_slot-word.result c.args.now c.slot_at.result.now.session.wait (sym c.judge_note.ensures ∙ c.in-Expire.is) in (
      subst (λ (ds : List Step). is_open ds c.args.at ≡ true) (sym c.peek_slot-word.ensures.step) c.requires.live,
      ap is_open_word (same ∙ ap (λ (s : Slot). s.session.note.word) slot) ∙ c.requires.noted,
    )

pub returns-in-Keep : goal.returns-in-Keep
returns-in-Keep c = let slot = c.slot_at.ensures ∙ ap (λ (ss : List Slot). slot_in ss c.args.at) c.deref.ensures.value in record {
  fate = keeps c.peek_slot-word.result;
  due = (
    ap (λ (s : Slot). is_due c.args.now s.session.closing) (sym slot) ∙ sym c.is_due.ensures ∙ c.if-is_due.false,
    ap (λ (s : Slot). verdict s.session.note c.peek_slot-word.result c.args.now s.session.wait) (sym slot) ∙ sym c.judge_note.ensures ∙ c.in-Keep.is,
  );
  added = added_one _ _ _ _ c.peek_slot-word.ensures;
  slots_new = set_itself c.args.slots.now.items c.args.at;
  answer = refl;
}

pub returns-in-Renew : goal.returns-in-Renew
returns-in-Renew c = let slot = c.slot_at.ensures ∙ ap (λ (ss : List Slot). slot_in ss c.args.at) c.deref.ensures.value in record {
  fate = renews c.peek_slot-word.result;
  due = (
    ap (λ (s : Slot). is_due c.args.now s.session.closing) (sym slot) ∙ sym c.is_due.ensures ∙ c.if-is_due.false,
    ap (λ (s : Slot). verdict s.session.note c.peek_slot-word.result c.args.now s.session.wait) (sym slot) ∙ sym c.judge_note.ensures ∙ c.in-Renew.is,
  );
  added = added_one _ _ _ _ c.peek_slot-word.ensures;
  slots_new = c.note_at.ensures;
  answer = refl;
}

pub returns-then-found-word : goal.returns-then-found-word
returns-then-found-word c = let slot = c.slot_at.ensures ∙ ap (λ (ss : List Slot). slot_in ss c.args.at) c.deref.ensures.value in record {
  fate = expires c.peek_slot-word.result;
  due = (
    ap (λ (s : Slot). is_due c.args.now s.session.closing) (sym slot) ∙ sym c.is_due.ensures ∙ c.if-is_due.false,
    ap (λ (s : Slot). verdict s.session.note c.peek_slot-word.result c.args.now s.session.wait) (sym slot) ∙ sym c.judge_note.ensures ∙ c.in-Expire.is,
  );
  added = subst (λ (n : ℕ). HasAdded c.args.table.now c.args.seat.now c.expire_slot-found.new.seat (steps.Expire c.args.at c.peek_slot-word.result n ∷ steps.Peek c.args.at c.peek_slot-word.result ∷ [])) c.if-found-word.true (added_two _ _ _ _ _ _ c.peek_slot-word.ensures c.expire_slot-found.ensures);
  slots_new = c.free_at-then-found-word.ensures;
  answer = refl;
}

pub returns-else-found-word : goal.returns-else-found-word
returns-else-found-word c = let slot = c.slot_at.ensures ∙ ap (λ (ss : List Slot). slot_in ss c.args.at) c.deref.ensures.value in record {
  fate = escapes c.peek_slot-word.result c.expire_slot-found.result;
  due = (
    ap (λ (s : Slot). is_due c.args.now s.session.closing) (sym slot) ∙ sym c.is_due.ensures ∙ c.if-is_due.false,
    ap (λ (s : Slot). verdict s.session.note c.peek_slot-word.result c.args.now s.session.wait) (sym slot) ∙ sym c.judge_note.ensures ∙ c.in-Expire.is,
    c.if-found-word.false,
  );
  added = added_two _ _ _ _ _ _ c.peek_slot-word.ensures c.expire_slot-found.ensures;
  slots_new = c.note_at-else-found-word.ensures;
  answer = refl;
}
