-- A draw keeps what ties the state to a history.
use Rattle.std.proofs.Common.{◌≡◌, ◌≢◌, inr, ⊎_elim, ℕ, suc, ◌+◌, ◌%◌, ◌^◌, ◌==◌, true, false, List, [], ◌∷◌, ◌++◌, get_or, get_or-set_other, get_or-set_same, sym, refl, ap, ◌∙◌, subst, arith, eq-eqb, ne_eqb, Option, Some}
use Rattle.slot_word.specs.Fields.{sequence_unit, sequence_in, row_in, is_open_word}
use Rattle.slot_word.proofs.Laws.{drawn}
use Rattle.refl_types.specs.Same.{same_key}
use Rattle.session_key.specs.Matching.{excludes, matches}
use Rattle.session_world.specs.declared.steps.TableSize.{TableSize}
use Rattle.session_world.specs.declared.steps.Step.{Step}
use Rattle.session_world.specs.declared.steps.Step.TheVariants.{Draw}
use Rattle.session_world.specs.Keys.{Key, key_of, extra_of}
use Rattle.session_world.specs.Words.{slot_at, words_after}
use Rattle.session_world.specs.Desk.{is_open, key_of_slot, is_split}
use Rattle.session_world.specs.Worker.{LastLook, last_look}
use Rattle.session_world.specs.Answers.{Answer, drew, late, draw_answer, draw_gives, step_gives}
use Rattle.session_world.specs.Runs.{CoreState, state_after}
use Rattle.session_world.specs.History.{Event, drawn as drawn_session, map_after}
use Rattle.session_world.specs.Explains.{answers_in, desk_count}
use Rattle.session_world.proofs.BoolFacts.{true_ne_false, bool, some_none, number_case, if_yes, if_no}
use Rattle.session_world.proofs.KeyFacts.{same_key_eq, same_key_refl, excludes_self}
use Rattle.session_world.proofs.LegalHistories.{was_drawn}
use Rattle.session_world.proofs.SlotFacts.{open_alone}
use Rattle.session_world.proofs.Sound.{IsSound}
use Rattle.session_world.proofs.Histories.{Any, map_ins, Who, Put, put_in, keeps_drawn}
use Rattle.session_world.proofs.Tied.{Clear, who, from_low, IsHolding, HasSight, LookFits, IsBoundSlot, Tied, look_ins, look_cons, full_key, matches_is}
use Rattle.session_world.proofs.Spans.{own_after, order_after}
use Rattle.session_world.proofs.Workers.{looks_after}

drawn_count : (n m c : ℕ) → sequence_in m ≡ suc (sequence_in n) % 2 ^ 32 → c % 2 ^ 32 ≡ sequence_in n → suc c % 2 ^ 32 ≡ sequence_in m
drawn_count n m c e f = omega (arith, e, f)

module _ (z : TableSize) (c : CoreState) (h : List (Event ℕ)) (sound : IsSound z c) (t : Tied z c h) (w : ℕ) (split : is_split c.desk (suc w) ≡ true) (s : LastLook) (is : last_look z.slots (c.living_part (suc w)) ≡ Some s)
    (a : IsHolding s) (b : HasSight s) (n : ℕ) (reads : n ≡ get_or c.words (slot_at s.slot) 0) where
  abbrev ds : List Step
  ds = c.desk

  abbrev me : Who
  me = who c.desk (suc w)

  abbrev fit : LookFits z.slots ds h me s
  fit = t.looks w split s is

  abbrev new_words : List ℕ
  new_words = words_after z c.words (suc w) (Draw s.slot n)

  abbrev added : ℕ
  added = (get_or c.words (slot_at s.slot) 0 + sequence_unit) % 2 ^ 64

  key_is : key_of s.word ≡ key_of_slot ds s.slot
  key_is = full_key ds s (fit.keys a) b.full

  word_now : get_or new_words (slot_at s.slot) 0 ≡ (n + sequence_unit) % 2 ^ 64
  word_now = get_or-set_same c.words (slot_at s.slot) added 0 (let x = sound.words.wide in let y = fit.inside in omega (arith, x, y)) ∙ ap (λ (m : ℕ). (m + sequence_unit) % 2 ^ 64) (sym reads)

  word_else : (i : ℕ) → i ≢ s.slot → get_or new_words (slot_at i) 0 ≡ get_or c.words (slot_at i) 0
  word_else i x = get_or-set_other c.words (slot_at s.slot) (slot_at i) added 0 (λ e. omega (arith, e, x))

  opened_here : is_open_word n ≡ is_open ds s.slot
  opened_here = ap is_open_word reads ∙ (sound.words.slots s.slot fit.inside).opened

  gives_draw : step_gives z.slots (last_look z.slots (c.living_part (suc w))) (Draw s.slot n) ≡ draw_answer s n ∷ []
  gives_draw = ap (λ (o : Option LastLook). draw_gives o n) is

  draw_late : is_open_word n ≡ false → (g : List (Event ℕ)) × Tied z (state_after z c (suc w) (Draw s.slot n)) g
  draw_late shut =
      let closed_here : is_open ds s.slot ≡ false = sym opened_here ∙ shut in
      let match : matches s.query (key_of_slot ds s.slot) ≡ true = sym (matches_is ds s (fit.keys a) b.full) ∙ b.fits in
      let ev : Event ℕ = record { by = suc w; answer = late s.query } in
      let p : Put me Any (late s.query) h = put_in me Any (Clear ds s) (late s.query) h (λ x. omega (arith, x)) tt (λ u x. x s.query match) t.legal t.kept (fit.left a b closed_here) in
      let same : (k : Key) → map_after h k ≡ map_after p.more k = λ k. sym (map_ins ev h p.more tt p.ins k) in
      let gives : step_gives z.slots (last_look z.slots (c.living_part (suc w))) (Draw s.slot n) ≡ late s.query ∷ [] = gives_draw ∙ ap (λ (x : Answer ℕ). x ∷ []) (if_no (is_open_word n) (drew (key_of s.word) (sequence_in n) (row_in n)) (late s.query) shut) in (
        p.more,
        record {
          legal = p.legal;
          kept = p.kept;
          own = own_after z c h t w split (Draw s.slot n) p.more (p.mine ∙ ap (λ (xs : List (Answer ℕ)). xs ++ answers_in (suc w) h) (sym gives)) p.others;
          order = order_after z c h t w split (Draw s.slot n) p.more (inr (late s.query, p.spot, gives, p.spotted, p.low)) p.unspotted;
          bound = λ i o. number_case i s.slot
              (λ (x : i ≡ s.slot). absurd (true_ne_false (sym o ∙ (ap (is_open ds) x ∙ closed_here))))
              (λ (x : i ≢ s.slot). let y = t.bound i o in (y.0, sym (same (key_of_slot ds i)) ∙ y.1, (y.2.0, y.2.1, y.2.2 ∙ ap sequence_in (sym (word_else i x)))));
          slot = λ k x at. t.slot k x (same k ∙ at);
          looks = looks_after z c h sound t w split (Draw s.slot n) p.more (λ x at. absurd (some_none x at)) (λ u ne y f. look_ins z.slots ds h p.more (who ds u) y ev ne (λ x. omega (arith, x)) tt p.ins f);
        },
      )

  draw_open : is_open_word n ≡ true → (g : List (Event ℕ)) × Tied z (state_after z c (suc w) (Draw s.slot n)) g
  draw_open opened =
      let o : is_open ds s.slot ≡ true = sym opened_here ∙ opened in
      let v = t.bound s.slot o in
      let K : Key = key_of_slot ds s.slot in
      let d : Answer ℕ = drew (key_of s.word) v.0.count (row_in n) in
      let ev : Event ℕ = record { by = suc w; answer = d } in
      let g : List (Event ℕ) = ev ∷ h in
      let seq : v.0.count % 2 ^ 32 ≡ sequence_in n = v.2.2 ∙ ap sequence_in (sym reads) in
      let gives : step_gives z.slots (last_look z.slots (c.living_part (suc w))) (Draw s.slot n) ≡ drew (key_of s.word) (sequence_in n) (row_in n) ∷ [] = gives_draw ∙ ap (λ (x : Answer ℕ). x ∷ []) (if_yes (is_open_word n) (drew (key_of s.word) (sequence_in n) (row_in n)) (late s.query) opened) in
      let at_key : same_key (key_of s.word) K ≡ true = ap (λ (k : Key). same_key k K) key_is ∙ same_key_refl K in
      let elsewhere : (j : ℕ) → is_open ds j ≡ true → j ≢ s.slot → map_after h (key_of_slot ds j) ≡ map_after g (key_of_slot ds j) = λ j oj ne. ⊎_elim
      (λ (x : same_key (key_of s.word) (key_of_slot ds j) ≡ true). absurd (ne (open_alone z ds sound.desk j s.slot oj o (ap (excludes (key_of_slot ds j)) (sym key_is ∙ same_key_eq (key_of s.word) (key_of_slot ds j) x) ∙ excludes_self (key_of_slot ds j)))))
      (λ (x : same_key (key_of s.word) (key_of_slot ds j) ≡ false). rw x refl)
      (bool (same_key (key_of s.word) (key_of_slot ds j))) in (
        g,
        record {
          legal = (t.legal, (v.0, ap (map_after h) key_is ∙ v.1, (refl, v.2.1 ∙ sym (ap row_in reads ∙ (sound.words.slots s.slot fit.inside).row))), omega arith);
          kept = (t.kept, keeps_drawn (suc w) s.query (key_of s.word) (extra_of s.word) (row_in s.read) (key_of s.word) v.0.count (row_in n) h (fit.drawable a b o));
          own = own_after z c h t w split (Draw s.slot n) g (if_yes (suc w == suc w) (drew (key_of s.word) (v.0.count % 2 ^ 32) (row_in n) ∷ answers_in (suc w) h) (answers_in (suc w) h) (eq-eqb (suc w) (suc w) refl)
              ∙ (ap (λ (m : ℕ). drew (key_of s.word) m (row_in n) ∷ answers_in (suc w) h) seq ∙ ap (λ (xs : List (Answer ℕ)). xs ++ answers_in (suc w) h) (sym gives)))
              (λ u ne. rw (ne_eqb u (suc w) ne) refl);
          order = order_after z c h t w split (Draw s.slot n) g (inr (drew (key_of s.word) (sequence_in n) (row_in n), desk_count h, gives, rw (eq-eqb (suc w) (suc w) refl) refl, from_low z c h t (suc w))) (λ u ne. rw (ne_eqb u (suc w) ne) refl);
          bound = λ i oi. number_case i s.slot
              (λ (x : i ≡ s.slot). subst (λ (j : ℕ). IsBoundSlot ds (map_after g) j (get_or new_words (slot_at j) 0)) (sym x)
              (λ _. (record v.0 { count = suc v.0.count }, rw at_key (ap drawn_session v.1), (v.2.0, v.2.1, drawn_count n (get_or new_words (slot_at s.slot) 0) v.0.count (ap sequence_in word_now ∙ (drawn n).sequence) seq))) oi)
              (λ (x : i ≢ s.slot). let y = t.bound i oi in (y.0, sym (elsewhere i oi x) ∙ y.1, (y.2.0, y.2.1, y.2.2 ∙ ap sequence_in (sym (word_else i x)))));
          slot = λ k x at. let y = was_drawn (same_key (key_of s.word) k) (map_after h k) x at in t.slot k y.0 y.1;
          looks = looks_after z c h sound t w split (Draw s.slot n) g (λ x at. absurd (some_none x at)) (λ u ne y f. look_cons z.slots ds h (who ds u) y ev ne (λ i oi. refl) f);
        },
      )

  pub draw_keeps : (g : List (Event ℕ)) × Tied z (state_after z c (suc w) (Draw s.slot n)) g
  draw_keeps = ⊎_elim (λ (x : is_open_word n ≡ true). draw_open x) (λ (x : is_open_word n ≡ false). draw_late x) (bool (is_open_word n))
