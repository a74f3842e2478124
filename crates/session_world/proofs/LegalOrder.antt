-- The one order is legal, each answer with the configuration that its row named when it was given.
use Rattle.std.proofs.Common.{◌≡◌, ℕ, zero, suc, ◌%◌, ◌^◌, ◌==◌, Bool, true, false, if◌then◌else◌, List, [], ◌∷◌, ◌++◌, sym, refl, ap, ◌∙◌, subst, eq-eqb, Option, Some, None}
use Rattle.slot_word.specs.Fields.{sequence_in, row_in, is_open_word}
use Rattle.refl_types.specs.Same.{same_key}
use Rattle.session_world.specs.declared.steps.TableSize.{TableSize}
use Rattle.session_world.specs.declared.steps.Step.{Step}
use Rattle.session_world.specs.declared.steps.Part.{Part}
use Rattle.session_world.specs.declared.steps.Step.TheVariants.{Start, Look, LoadKey, Draw, Reconfigure, Close, Peek, Expire, Join}
use Rattle.session_world.specs.Sizes.{IsWithinLimits}
use Rattle.session_world.specs.Keys.{Key, key_of, ConfigParts, has_key}
use Rattle.session_world.specs.Desk.{row_of, config_at, IsComplete, is_split}
use Rattle.session_world.specs.Worker.{LastLook, key_matches, last_look, after_look, with_key_word}
use Rattle.session_world.specs.Allowed.{DeskDid, DeskMay, IsAllowed}
use Rattle.session_world.specs.Answers.{Answer, opened, configured, counted, closed, expired, seen, drew, missed, late, with_configs, expire_gives, desk_gives, is_miss, look_gives, words_give, completes_key, draw_answer, step_gives, worker_answers}
use Rattle.session_world.specs.Runs.{state_after, own_steps, run, ScheduledStep, Runs}
use Rattle.session_world.specs.History.{Session, SessionMap, Event, reconfigured, entry_after, map_after, IsLegalAt, IsBy, IsLegal}
use Rattle.session_world.specs.Explains.{with_wrapped_counts}
use Rattle.session_world.specs.OneOrder.{InTurns, events_by, in_order, one_order, IsLegalModulo, AreLegal, with_wrapped_events, OneOrder}
use Rattle.session_world.specs.OneThread.{SetsSame}
use Rattle.session_world.proofs.DeskFacts.{reserved_used, row_complete, still_complete, config_kept}
use Rattle.session_world.proofs.Sound.{run_sound}
use Rattle.session_world.proofs.LegalHistories.{one_match}
use Rattle.session_world.proofs.Configs.{explained}
use Rattle.session_world.proofs.OneOrder.{the_order, only_one, turns_before}

-- ---- counts modulo 2 ^ 32

wrapped_entry : {C : Type 0} (d : Answer C) (k : Key) (o : Option (Session C)) → entry_after (with_wrapped_counts d) k o ≡ entry_after d k o
wrapped_entry (opened j x c) k o = refl
wrapped_entry (configured j c) k o = refl
wrapped_entry (counted j n c) k o = refl
wrapped_entry (closed j n) k o = refl
wrapped_entry (expired j n c) k o = refl
wrapped_entry (seen q j x c) k o = refl
wrapped_entry (drew j n c) k o = refl
wrapped_entry (missed q) k o = refl
wrapped_entry (late q) k o = refl

pub wrapped_map : {C : Type 0} (h : List (Event C)) (k : Key) → map_after (with_wrapped_events h) k ≡ map_after h k
wrapped_map [] k = refl
wrapped_map (e ∷ h) k = ap (entry_after (with_wrapped_counts e.answer) k) (wrapped_map h k) ∙ wrapped_entry e.answer k (map_after h k)

modulo_of : {C : Type 0} (keyed : C → Bool) (t u : SessionMap C) (d : Answer C) → ((k : Key) → t k ≡ u k) → IsLegalAt keyed t d → IsLegalModulo keyed u (with_wrapped_counts d)
modulo_of keyed t u (opened k x c) same h = (h.0, (λ j b at. h.1 j b (same j ∙ at)), h.2)
modulo_of keyed t u (configured k c) same h = ((h.0.0, sym (same k) ∙ h.0.1, h.0.2), h.1)
modulo_of keyed t u (counted k n c) same h = (h.0, sym (same k) ∙ h.1, (ap (λ (m : ℕ). m % 2 ^ 32) h.2.0, h.2.1))
modulo_of keyed t u (closed k n) same h = (h.0, sym (same k) ∙ h.1, ap (λ (m : ℕ). m % 2 ^ 32) h.2)
modulo_of keyed t u (expired k n c) same h = (h.0, sym (same k) ∙ h.1, h.2)
modulo_of keyed t u (seen q k x c) same h = ((h.0.0, sym (same k) ∙ h.0.1, h.0.2), h.1)
modulo_of keyed t u (drew k n c) same h = (h.0, sym (same k) ∙ h.1, (ap (λ (m : ℕ). m % 2 ^ 32) h.2.0, h.2.1))
modulo_of keyed t u (missed q) same h = λ j b at. h j b (same j ∙ at)
modulo_of keyed t u (late q) same h = λ j b at. h j b (same j ∙ at)

modulo_agree : {C : Type 0} (keyed : C → Bool) (t u : SessionMap C) (d : Answer C) → ((k : Key) → t k ≡ u k) → IsLegalModulo keyed t d → IsLegalModulo keyed u d
modulo_agree keyed t u (opened k x c) same h = (h.0, (λ j b at. h.1 j b (same j ∙ at)), h.2)
modulo_agree keyed t u (configured k c) same h = ((h.0.0, sym (same k) ∙ h.0.1, h.0.2), h.1)
modulo_agree keyed t u (counted k n c) same h = (h.0, sym (same k) ∙ h.1, h.2)
modulo_agree keyed t u (closed k n) same h = (h.0, sym (same k) ∙ h.1, h.2)
modulo_agree keyed t u (expired k n c) same h = (h.0, sym (same k) ∙ h.1, h.2)
modulo_agree keyed t u (seen q k x c) same h = ((h.0.0, sym (same k) ∙ h.0.1, h.0.2), h.1)
modulo_agree keyed t u (drew k n c) same h = (h.0, sym (same k) ∙ h.1, h.2)
modulo_agree keyed t u (missed q) same h = λ j b at. h j b (same j ∙ at)
modulo_agree keyed t u (late q) same h = λ j b at. h j b (same j ∙ at)

wrapped_by : {C : Type 0} (w : ℕ) (d : Answer C) → IsBy w d → IsBy w (with_wrapped_counts d)
wrapped_by w (opened k x c) h = h
wrapped_by w (configured k c) h = h
wrapped_by w (counted k n c) h = h
wrapped_by w (closed k n) h = h
wrapped_by w (expired k n c) h = h
wrapped_by w (seen q k x c) h = h
wrapped_by w (drew k n c) h = h
wrapped_by w (missed q) h = h
wrapped_by w (late q) h = h

wrapped_legal : {C : Type 0} (keyed : C → Bool) (h : List (Event C)) → IsLegal keyed h → AreLegal keyed (with_wrapped_events h)
wrapped_legal keyed [] l = tt
wrapped_legal keyed (e ∷ h) l = (wrapped_legal keyed h l.0, modulo_of keyed (map_after h) (map_after (with_wrapped_events h)) e.answer (λ k. sym (wrapped_map h k)) l.1, wrapped_by e.by e.answer l.2)

-- and back: the count that stands in the table is the one that is meant
record Meant {C : Type 0} (keyed : C → Bool) (w : ℕ) (t : SessionMap C) (d : Answer C) : Type 0 where
  answer : Answer C
  legal : IsLegalAt keyed t answer
  by : IsBy w answer
  same : with_wrapped_counts answer ≡ d

meant : {C : Type 0} (keyed : C → Bool) (w : ℕ) (t u : SessionMap C) (d : Answer C) → ((k : Key) → t k ≡ u k) → IsLegalModulo keyed t d → IsBy w d → Meant keyed w u d
meant keyed w t u (opened k x c) same h by = record { answer = opened k x c; legal = (h.0, (λ j b at. h.1 j b (same j ∙ at)), h.2); by = by; same = refl }
meant keyed w t u (configured k c) same h by = record { answer = configured k c; legal = ((h.0.0, sym (same k) ∙ h.0.1, h.0.2), h.1); by = by; same = refl }
meant keyed w t u (counted k n c) same h by = record { answer = counted k h.0.count c; legal = (h.0, sym (same k) ∙ h.1, (refl, h.2.1)); by = by; same = λ i. counted k (h.2.0 i) c }
meant keyed w t u (closed k n) same h by = record { answer = closed k h.0.count; legal = (h.0, sym (same k) ∙ h.1, refl); by = by; same = λ i. closed k (h.2 i) }
meant keyed w t u (expired k n c) same h by = record { answer = expired k n c; legal = (h.0, sym (same k) ∙ h.1, h.2); by = by; same = refl }
meant keyed w t u (seen q k x c) same h by = record { answer = seen q k x c; legal = ((h.0.0, sym (same k) ∙ h.0.1, h.0.2), h.1); by = by; same = refl }
meant keyed w t u (drew k n c) same h by = record { answer = drew k h.0.count c; legal = (h.0, sym (same k) ∙ h.1, (refl, h.2.1)); by = by; same = λ i. drew k (h.2.0 i) c }
meant keyed w t u (missed q) same h by = record { answer = missed q; legal = λ j b at. h j b (same j ∙ at); by = by; same = refl }
meant keyed w t u (late q) same h by = record { answer = late q; legal = λ j b at. h j b (same j ∙ at); by = by; same = refl }

history_of : {C : Type 0} (keyed : C → Bool) (g : List (Event C)) → AreLegal keyed g → (h : List (Event C)) × IsLegal keyed h × (with_wrapped_events h ≡ g)
history_of keyed [] l = ([], tt, refl)
history_of keyed (e ∷ g) l =
    let x = history_of keyed g l.0 in
    let m = meant keyed e.by (map_after g) (map_after x.0) e.answer (λ k. ap (λ y. map_after y k) (sym x.2) ∙ wrapped_map x.0 k) l.1 l.2 in
    (record { by = e.by; answer = m.answer } ∷ x.0, (x.1, m.legal, m.by), λ i. record { by = e.by; answer = m.same i } ∷ x.2 i)

-- ---- lists of events with the same table

front_map : {C : Type 0} (xs g h : List (Event C)) → ((k : Key) → map_after g k ≡ map_after h k) → (k : Key) → map_after (xs ++ g) k ≡ map_after (xs ++ h) k
front_map [] g h same k = same k
front_map (x ∷ xs) g h same k = ap (entry_after x.answer k) (front_map xs g h same k)

front_legal : {C : Type 0} (keyed : C → Bool) (xs g h : List (Event C)) → ((k : Key) → map_after g k ≡ map_after h k) → AreLegal keyed (xs ++ g) → AreLegal keyed h → AreLegal keyed (xs ++ h)
front_legal keyed [] g h same l r = r
front_legal keyed (x ∷ xs) g h same l r = (front_legal keyed xs g h same l.0 r, modulo_agree keyed (map_after (xs ++ g)) (map_after (xs ++ h)) x.answer (front_map xs g h same) l.1, l.2)

-- the configurations that the answers put into the table are the same by f and by g
abbrev pub AllSame : {C : Type 0} → (ℕ → C) → (ℕ → C) → List (Answer ℕ) → Type 0
AllSame f g [] = Unit {0}
AllSame f g (d ∷ xs) = SetsSame f g d × AllSame f g xs

pub entry_same : {C : Type 0} (f g : ℕ → C) (d : Answer ℕ) (k : Key) (o : Option (Session C)) → SetsSame f g d → entry_after (with_configs f d) k o ≡ entry_after (with_configs g d) k o
entry_same f g (opened j x r) k o e = λ i. if same_key j k then Some (record { extra = x; config = e i; count = 0 }) else o
entry_same f g (configured j r) k o e = λ i. if same_key j k then reconfigured (e i) o else o
entry_same f g (counted j n r) k o e = refl
entry_same f g (closed j n) k o e = refl
entry_same f g (expired j n r) k o e = refl
entry_same f g (seen q j x r) k o e = refl
entry_same f g (drew j n r) k o e = refl
entry_same f g (missed q) k o e = refl
entry_same f g (late q) k o e = refl

events_same : {C : Type 0} (w : ℕ) (f g : ℕ → C) (xs : List (Answer ℕ)) (h l : List (Event C)) → AllSame f g xs → ((k : Key) → map_after h k ≡ map_after l k) → (k : Key) → map_after (events_by w f xs ++ h) k ≡ map_after (events_by w g xs ++ l) k
events_same w f g [] h l a same k = same k
events_same w f g (d ∷ xs) h l a same k = ap (entry_after (with_configs f d) k) (events_same w f g xs h l a.1 same k) ∙ entry_same f g d k (map_after (events_by w g xs ++ l) k) a.0

-- ---- a worker's answers put no configuration into the table

module _ {C : Type 0} (f g : ℕ → C) where
  either_all : (b : Bool) (xs ys : List (Answer ℕ)) → AllSame f g xs → AllSame f g ys → AllSame f g (if b then xs else ys)
  either_all true xs ys h k = h
  either_all false xs ys h k = k

  both_all : (xs ys : List (Answer ℕ)) → AllSame f g xs → AllSame f g ys → AllSame f g (xs ++ ys)
  both_all [] ys h k = k
  both_all (x ∷ xs) ys h k = (h.0, both_all xs ys h.1 k)

  look_all : (slots : ℕ) (s : LastLook) → AllSame f g (look_gives slots s)
  look_all slots s = either_all (is_miss slots s) (missed s.query ∷ []) [] (tt, tt) tt

  words_all : (slots : ℕ) (s : LastLook) → AllSame f g (words_give slots s)
  words_all slots s = either_all (key_matches s) _ _ (tt, tt) (either_all (s.number == slots) (missed s.query ∷ []) [] (tt, tt) tt)

  draw_all : (s : LastLook) (n : ℕ) → SetsSame f g (draw_answer s n)
  draw_all s n = at (is_open_word n) where
    at : (b : Bool) → SetsSame f g (if b then drew (key_of s.word) (sequence_in n) (row_in n) else late s.query)
    at true = tt
    at false = tt

  step_all : (slots : ℕ) (o : Option LastLook) (s : Step) → AllSame f g (step_gives slots o s)
  step_all slots o (Look slot query read) = look_all slots (after_look slots o slot query read)
  step_all slots None (LoadKey slot index read) = tt
  step_all slots (Some s) (LoadKey slot index read) = either_all (completes_key s slot index read) (words_give slots (with_key_word s index read)) [] (words_all slots (with_key_word s index read)) tt
  step_all slots None (Draw slot read) = tt
  step_all slots (Some s) (Draw slot read) = (draw_all s read, tt)
  step_all slots o _ = tt

  worker_all : (slots : ℕ) (xs : List Step) → AllSame f g (worker_answers slots xs)
  worker_all slots [] = tt
  worker_all slots (s ∷ xs) = both_all (step_gives slots (last_look slots xs) s) (worker_answers slots xs) (step_all slots (last_look slots xs) s) (worker_all slots xs)

-- ---- the rows of the desk's answers are complete, and complete rows stay

abbrev pub Agrees : (ℕ → ConfigParts) → List Step → Type 0
Agrees f ds = (r : ℕ) → IsComplete ds r → f r ≡ config_at ds r

pub agrees_before : (z : TableSize) (f : ℕ → ConfigParts) (ds : List Step) (s : Step) → DeskMay z ds s → Agrees f (s ∷ ds) → Agrees f ds
agrees_before z f ds s may a r c = a r (still_complete ds s r c) ∙ config_kept z ds s may r c

expired_all : (f g : ℕ → ConfigParts) (b : Bool) (k : Key) (n : ℕ) → SetsSame f g (expire_gives b k n)
expired_all f g true k n = tt
expired_all f g false k n = tt

pub desk_all : (z : TableSize) (f : ℕ → ConfigParts) (ds : List Step) (s : Step) → DeskDid z ds → DeskMay z ds s → Agrees f ds → AllSame f (config_at ds) (desk_gives ds s)
desk_all z f ds (Start slot read) did may a = (a (row_of ds slot) (row_complete z ds did slot (reserved_used z ds did slot may.1)), tt)
desk_all z f ds (Reconfigure slot old new read) did may a = (a new may.2, tt)
desk_all z f ds (Close slot read) did may a = (tt, tt)
desk_all z f ds (Peek slot read) did may a = (tt, tt)
desk_all z f ds (Expire slot expected read) did may a = (expired_all f (config_at ds) (read == expected) _ read, tt)
desk_all z f ds _ did may a = tt

pub same_table : (z : TableSize) (f : ℕ → ConfigParts) (slots : ℕ) (ds : List Step) (ps : List Part) → DeskDid z ds → Agrees f ds → (k : Key) → map_after (in_order (λ es. f) slots ds ps) k ≡ map_after (in_order config_at slots ds ps) k
same_table z f slots [] ps did a k = refl
same_table z f slots (Join w r ∷ ds) (p ∷ ps) did a k = events_same 1 f (config_at ds) (worker_answers slots p.steps) (in_order (λ es. f) slots ds ps) (in_order config_at slots ds ps) (worker_all f (config_at ds) slots p.steps) (same_table z f slots ds ps did.0 (agrees_before z f ds (Join w r) did.1 a)) k
same_table z f slots (Join w r ∷ ds) [] did a k = same_table z f slots ds [] did.0 (agrees_before z f ds (Join w r) did.1 a) k
same_table z f slots (s ∷ ds) ps did a k = let b = agrees_before z f ds s did.1 a in events_same 0 f (config_at ds) (desk_gives ds s) (in_order (λ es. f) slots ds ps) (in_order config_at slots ds ps) (desk_all z f ds s did.0 did.1 b) (same_table z f slots ds ps did.0 b) k

-- ---- step by step

explained_legal : (z : TableSize) (ms : List ScheduledStep) → IsWithinLimits z → z.workers ≡ 1 → Runs z ms → InTurns (run z ms).desk → is_split (run z ms).desk 1 ≡ false
    → AreLegal has_key (in_order (λ es. config_at (run z ms).desk) z.slots (run z ms).desk (run z ms).ended_parts)
explained_legal z ms within one r turns free = let x = explained z ms within r in subst (AreLegal has_key) (the_order z ms x.0 within one r turns free x.1) (wrapped_legal has_key x.0 x.1.legal)

desk_front_legal : (z : TableSize) (slots w : ℕ) (ds : List Step) (ps : List Part) (xs : List (Answer ℕ)) → DeskDid z ds → AreLegal has_key (events_by w (config_at ds) xs ++ in_order (λ es. config_at ds) slots ds ps) → AreLegal has_key (one_order slots ds ps) → AreLegal has_key (events_by w (config_at ds) xs ++ one_order slots ds ps)
desk_front_legal z slots w ds ps xs did l r = front_legal has_key (events_by w (config_at ds) xs) (in_order (λ es. config_at ds) slots ds ps) (one_order slots ds ps) (same_table z (config_at ds) slots ds ps did (λ n c. refl)) l r

pub order_legal : (z : TableSize) (ms : List ScheduledStep) → IsWithinLimits z → z.workers ≡ 1 → Runs z ms → InTurns (run z ms).desk → AreLegal has_key (one_order z.slots (run z ms).desk (run z ms).ended_parts)
order_legal z [] within one r turns = tt
order_legal z (m ∷ ms) within one r turns = at m.actor m.step r.1 turns (explained_legal z (m ∷ ms) within one r turns) (order_legal z ms within one r.0) where
  at : (a : ℕ) (s : Step) → IsAllowed z a (run z ms).desk (own_steps (run z ms) a) s → InTurns (state_after z (run z ms) a s).desk
      → (is_split (state_after z (run z ms) a s).desk 1 ≡ false → AreLegal has_key (in_order (λ es. config_at (state_after z (run z ms) a s).desk) z.slots (state_after z (run z ms) a s).desk (state_after z (run z ms) a s).ended_parts))
      → (InTurns (run z ms).desk → AreLegal has_key (one_order z.slots (run z ms).desk (run z ms).ended_parts))
      → AreLegal has_key (one_order z.slots (state_after z (run z ms) a s).desk (state_after z (run z ms) a s).ended_parts)
  at (suc w) s may t full ih = ih t
  at zero (Join w x) may t full ih = let ds = (run z ms).desk in let did = (run_sound z ms within r.0).desk in let e = only_one z ds one did w may in
      desk_front_legal z z.slots 1 ds (run z ms).ended_parts (worker_answers z.slots ((run z ms).living_part w)) did (full (rw (eq-eqb 1 w (sym e)) refl)) (ih (turns_before ds (Join w x) t))
  at zero (Start slot read) may t full ih = let ds = (run z ms).desk in desk_front_legal z z.slots 0 ds (run z ms).ended_parts (desk_gives ds (Start slot read)) (run_sound z ms within r.0).desk (full t.1) (ih t.0)
  at zero (Reconfigure slot old new read) may t full ih = let ds = (run z ms).desk in desk_front_legal z z.slots 0 ds (run z ms).ended_parts (desk_gives ds (Reconfigure slot old new read)) (run_sound z ms within r.0).desk (full t.1) (ih t.0)
  at zero (Close slot read) may t full ih = let ds = (run z ms).desk in desk_front_legal z z.slots 0 ds (run z ms).ended_parts (desk_gives ds (Close slot read)) (run_sound z ms within r.0).desk (full t.1) (ih t.0)
  at zero (Peek slot read) may t full ih = let ds = (run z ms).desk in desk_front_legal z z.slots 0 ds (run z ms).ended_parts (desk_gives ds (Peek slot read)) (run_sound z ms within r.0).desk (full t.1) (ih t.0)
  at zero (Expire slot expected read) may t full ih = let ds = (run z ms).desk in desk_front_legal z z.slots 0 ds (run z ms).ended_parts (desk_gives ds (Expire slot expected read)) (run_sound z ms within r.0).desk (full t.1) (ih t.0)
  at zero s may t full ih = ih (turns_before (run z ms).desk s t)

pub one_legal_order : OneOrder
one_legal_order z ms within one r turns = let l = order_legal z ms within one r turns in let x = history_of has_key (one_order z.slots (run z ms).desk (run z ms).ended_parts) l in record {
  legal = l;
  history = x;
  one = λ q j k b d ej ek mj mk. let move = λ (i : Key). sym (wrapped_map x.0 i) ∙ ap (λ y. map_after y i) x.2 in one_match x.0 x.1 q j k b d (move j ∙ ej) (move k ∙ ek) mj mk;
}
