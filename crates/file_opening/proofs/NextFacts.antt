-- One session more is open.
use Rattle.std.proofs.Common.{◌≡◌, ◌≢◌, inl, inr, ⊎_elim, ℕ, suc, ◌+◌, ◌<◌, true, List, [], ◌∷◌, ◌++◌, length, map, take, reverse, get_or, Ok, sym, refl, ap, ◌∙◌, subst, eq-eqb, arith}
use Rattle.std.specs.List.{AllZip, Contains, list_any}
use Rattle.std.proofs.lemmas.List.{take_more, map_push, reverse-append}
use Rattle.std.proofs.lemmas.List.Elements.{Contains-push_cases}
use Rattle.std.proofs.lemmas.List.Folds.{list_any-append}
use Rattle.refl_types.specs.declared.config.ConfigParts.{ConfigParts}
use Rattle.refl_types.specs.declared.outcome.Place.{Place}
use Rattle.refl_types.specs.Same.{same_config}
use Rattle.config_rows.specs.Rows.{Rows, IsRow}
use Rattle.refl_types.specs.declared.types.Key.{Key}
use Rattle.session_world.specs.declared.steps.TableSize.{TableSize}
use Rattle.session_world.specs.Answers.{Answer}
use Rattle.session_world.specs.Desk.{generation_of}
use Rattle.session_rule.specs.declared.seats.Table.{Table}
use Rattle.session_desk.specs.declared.session.Session.{Session}
use Rattle.session_desk.specs.Sessions.{is_in_slot, without, new_session, started}
use Rattle.session_desk.specs.Book.{Book, steps_of, answers_of}
use Rattle.session_desk.specs.Calls.{HasReserved, HasStarted, has_session}
use Rattle.session_desk.specs.Going.{DeskWent}
use Rattle.session_desk.specs.Makes.{reserves, starts}
use Rattle.session_desk.proofs.BoolFacts.{number_case, or_l, or_r, either_of, true_ne_false}
use Rattle.session_desk.proofs.Goes.{went, went_both}
use Rattle.session_desk.proofs.Serving.{row_stays, row_given}
use Rattle.conf_text.specs.declared.sessions.Provided.{Provided}
use Rattle.conf_text.specs.File.{File}
use Rattle.conf_text.specs.Rows.{in_use}
use Rattle.file_opening.specs.Opened.{IsOpened, opening_of}
use Rattle.file_opening.specs.OpenedFirst.{AreOnce, HasOpenedFirst}
use Rattle.file_opening.proofs.RoomFacts.{once_after, used_after}
use Rattle.file_opening.proofs.UsedFacts.{of_other}

pub all_kept : (rows rows' : Rows) (moment : ℕ) (ss : List Provided) (os : List Session) → ((c : ConfigParts) (row : ℕ) → IsRow rows c row → IsRow rows' c row) → AllZip (IsOpened rows moment) ss os → AllZip (IsOpened rows' moment) ss os
all_kept rows rows' moment [] [] stays all = tt
all_kept rows rows' moment [] (o ∷ os) stays all = all
all_kept rows rows' moment (s ∷ ss) [] stays all = all
all_kept rows rows' moment (s ∷ ss) (o ∷ os) stays all = let h = all.0 in
    (record { key = h.key; extra = h.extra; row = stays s.config o.row h.row; wait = h.wait; since = h.since; closing = h.closing }, all_kept rows rows' moment ss os stays all.1)

all_push : {A B : Type 0} (R : A → B → Type 0) (xs : List A) (ys : List B) (x : A) (y : B) → AllZip R xs ys → R x y → AllZip R (xs ++ x ∷ []) (ys ++ y ∷ [])
all_push R [] [] x y all r = (r, tt)
all_push R [] (z ∷ ys) x y all r = absurd all
all_push R (z ∷ xs) [] x y all r = absurd all
all_push R (z ∷ xs) (w ∷ ys) x y all r = (all.0, all_push R xs ys x y all.1 r)

pub as_long : {A B : Type 0} (R : A → B → Type 0) (xs : List A) (ys : List B) → AllZip R xs ys → length ys ≡ length xs
as_long R [] [] all = refl
as_long R [] (y ∷ ys) all = absurd all
as_long R (x ∷ xs) [] all = absurd all
as_long R (x ∷ xs) (y ∷ ys) all = ap (λ (n : ℕ). suc n) (as_long R xs ys all.1)

module _ (t : Table) (f : File) (moment n : ℕ) (b r e : Book) (s : Provided) (p : Place) (inside : n < length f.sessions) (is : s ≡ get_or f.sessions n s)
    (first : HasOpenedFirst t f moment n b) (m : HasReserved t b s.key s.extra s.config s.wait p r) (st : HasStarted t r p moment e) where
  pub both_calls : DeskWent t b e
  both_calls = let w = went t (reserves s.key s.extra s.config s.wait (Ok p)) b r first.stands m in went_both t b r e w (went t (starts p moment (Ok tt)) r e w.stands st)

  last : Session
  last = new_session s.key s.extra m.row p s.wait

  one_reserved : r.reserved ≡ [] ++ last ∷ []
  unfolding last
  one_reserved = m.reserved ∙ ap (λ (xs : List Session). xs ++ new_session s.key s.extra m.row p s.wait ∷ []) first.reserved

  session_is : last ≡ st.session
  unfolding last
  session_is = ⊎_elim
      (λ (none : Contains {X = Session} [] st.session). absurd (omega (arith, none.1)))
      (λ (same : new_session s.key s.extra m.row p s.wait ≡ st.session). same)
      (Contains-push_cases [] (new_session s.key s.extra m.row p s.wait) st.session (subst (λ (xs : List Session). Contains xs st.session) one_reserved st.found))

  now_live : e.live ≡ b.live ++ started st.word moment last ∷ []
  unfolding last
  now_live = st.live ∙ (λ i. m.live i ++ started st.word moment (sym session_is i) ∷ [])

  one_more : take (n + 1) f.sessions ≡ take n f.sessions ++ s ∷ []
  one_more = take_more f.sessions n s inside ∙ ap (λ (x : Provided). take n f.sessions ++ x ∷ []) (sym is)

  row_is : IsRow e.rows s.config m.row
  row_is = subst (λ (rows : Rows). IsRow rows s.config m.row) (sym st.rows) (row_given b.rows r.rows s.config m.row m.made m.kept)

  all_live : AllZip (IsOpened e.rows moment) (take (n + 1) f.sessions) e.live
  unfolding last
  all_live = subst (λ (xs : List Provided). AllZip (IsOpened e.rows moment) xs e.live) (sym one_more)
      (subst (λ (xs : List Session). AllZip (IsOpened e.rows moment) (take n f.sessions ++ s ∷ []) xs) (sym now_live)
      (all_push (IsOpened e.rows moment) (take n f.sessions) b.live s (started st.word moment last)
      (all_kept b.rows e.rows moment (take n f.sessions) b.live (λ c row. row_stays t c row b e both_calls) first.live)
      (record { key = refl; extra = refl; row = row_is; wait = refl; since = refl; closing = refl })))

  all_answers : answers_of e ≡ reverse (map opening_of e.live)
  unfolding last
  all_answers = st.answers ∙ ap (λ (o : Session). opening_of o ∷ answers_of r) (sym session_is) ∙ ap (λ (xs : List (Answer ℕ)). opening_of last ∷ xs) (m.answers ∙ first.answers)
      ∙ sym (reverse-append (map opening_of b.live) (opening_of last ∷ []))
      ∙ ap (λ (xs : List (Answer ℕ)). reverse xs) (sym (map_push opening_of b.live (started st.word moment last)))
      ∙ ap (λ (xs : List Session). reverse (map opening_of xs)) (sym now_live)

  none_reserved : e.reserved ≡ []
  unfolding last
  none_reserved = st.reserved ∙ ap (without p.slot) one_reserved ∙ rw (eq-eqb p.slot p.slot refl) refl

  slot_taken : (i : ℕ) → i ≡ p.slot → has_session e i ≡ true
  unfolding last
  slot_taken i at = or_l _ _ (ap (list_any (is_in_slot i)) now_live ∙ list_any-append (is_in_slot i) b.live (started st.word moment last ∷ []) ∙ or_r _ _ (or_l _ _ (eq-eqb p.slot i (sym at))))

  slot_stays : (i : ℕ) → has_session b i ≡ true → has_session e i ≡ true
  unfolding last
  slot_stays i has = or_l _ _ (ap (list_any (is_in_slot i)) now_live ∙ list_any-append (is_in_slot i) b.live (started st.word moment last ∷ []) ∙ or_l _ _ (⊎_elim
      (λ (live : list_any (is_in_slot i) b.live ≡ true). live)
      (λ (reserved : list_any (is_in_slot i) b.reserved ≡ true). absurd (true_ne_false (sym reserved ∙ ap (list_any (is_in_slot i)) first.reserved)))
      (either_of (list_any (is_in_slot i) b.live) _ has)))

  pub one_opened : list_any (same_config s.config) (in_use f.twamp f.sessions) ≡ true → HasOpenedFirst t f moment (n + 1) e
  one_opened used = record {
    stands = both_calls.stands;
    slots = ap (λ (z : TableSize). z.slots) both_calls.size ∙ first.slots;
    row_limit = both_calls.row_limit ∙ first.row_limit;
    live = all_live;
    answers = all_answers;
    reserved = none_reserved;
    keys = st.keys ∙ m.keys ∙ ap (λ (ks : List Key). ks ++ s.key ∷ []) first.keys ∙ sym (map_push (λ (x : Provided). x.key) (take n f.sessions) s) ∙ ap (map (λ (x : Provided). x.key)) (sym one_more);
    once = subst (λ (rows : Rows). AreOnce rows.configs) (sym st.rows) (once_after b.rows r.rows s.config m.row m.made m.kept first.once);
    used = λ c some. used_after b.rows r.rows s.config m.row m.made (in_use f.twamp f.sessions) m.kept first.used used c (ap (λ (rows : Rows). list_any (same_config c) rows.configs) (sym st.rows) ∙ some);
    taken = λ i. number_case i p.slot
        (λ (at : i ≡ p.slot). inr (slot_taken i at))
        (λ (other : i ≢ p.slot). ⊎_elim
        (λ (none : generation_of (steps_of b) i ≡ 0). inl (of_other t b r e s.key s.extra s.config s.wait p moment i m st other ∙ none))
        (λ (has : has_session b i ≡ true). inr (slot_stays i has))
        (first.taken i));
  }
