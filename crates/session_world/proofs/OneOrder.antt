-- One worker that is split off and joined around each of its turns: what explains the schedule is one order of all answers.
use Rattle.std.proofs.Common.{◌≡◌, ◌≢◌, ℕ, zero, suc, ◌+◌, ◌==◌, true, false, not, List, [], ◌∷◌, ◌++◌, length, map, take, drop, sym, refl, ap, ◌∙◌, subst, arith, eq-eqb, ne_eqb, Some}
use Rattle.std.proofs.lemmas.List.{length-append}
use Rattle.session_world.specs.declared.steps.TableSize.{TableSize}
use Rattle.session_world.specs.declared.steps.Step.{Step}
use Rattle.session_world.specs.declared.steps.Part.{Part}
use Rattle.session_world.specs.declared.steps.Step.TheVariants.{Start, Split, Reconfigure, Close, Peek, Expire, Join}
use Rattle.session_world.specs.Sizes.{IsWithinLimits}
use Rattle.session_world.specs.Keys.{ConfigParts}
use Rattle.session_world.specs.Desk.{config_at, is_split}
use Rattle.session_world.specs.Allowed.{DeskDid, DeskMay, IsAllowed}
use Rattle.session_world.specs.Answers.{Answer, with_configs, desk_gives, desk_answers, answers_at_split, worker_answers}
use Rattle.session_world.specs.Runs.{CoreState, ended_after, state_after, own_steps, ScheduledStep, run, Runs}
use Rattle.session_world.specs.History.{Event}
use Rattle.session_world.specs.Explains.{ended_span, ended_spans, spans_of, answers_of_spans, answers_in, desk_count, desk_events_before, AllWithin, IsInSpans}
use Rattle.session_world.specs.OneOrder.{InTurns, in_order, IsTheOrder}
use Rattle.session_world.proofs.BoolFacts.{true_ne_false, both, is_false}
use Rattle.session_world.proofs.DeskFacts.{split_inside}
use Rattle.session_world.proofs.Sound.{run_sound}
use Rattle.session_world.proofs.Merging.{answers_of, AllTwo, before_length, one_merge, own_front, other_front, two_front, desk_front, worker_front, desk_before, worker_before, only_two}

-- ---- each join of the list has its part, which began and ended with the same count of the desk's answers

abbrev pub IsTurnOf : List Step → Part → Type 0
IsTurnOf ds p = (p.worker ≡ 1) × (p.from ≡ length (desk_answers ds)) × (p.to ≡ length (desk_answers ds))

abbrev pub Aligned : List Step → List Part → Type 0
Aligned [] [] = Unit {0}
Aligned [] (p ∷ ps) = ⊥
Aligned (Join worker read ∷ ds) (p ∷ ps) = IsTurnOf ds p × Aligned ds ps
Aligned (Join worker read ∷ ds) [] = ⊥
Aligned (s ∷ ds) ps = Aligned ds ps

-- while the worker is split off the desk answers nothing
same_count : (z : TableSize) (ds : List Step) → z.workers ≡ 1 → DeskDid z ds → InTurns ds → is_split ds 1 ≡ true → answers_at_split ds 1 ≡ length (desk_answers ds)
same_count z [] one did turns h = absurd (true_ne_false (sym h))
same_count z (Split w r ∷ ds) one did turns h = let lo = did.1.0 in let hi = did.1.1 in let e : 1 ≡ w = omega (arith, lo, hi, one) in rw (eq-eqb 1 w e) refl
same_count z (Join w r ∷ ds) one did turns h = same_count z ds one did.0 turns.0 (both (not (1 == w)) (is_split ds 1) h).1
same_count z (Start slot read ∷ ds) one did turns h = absurd (true_ne_false (sym h ∙ turns.1))
same_count z (Reconfigure slot old new read ∷ ds) one did turns h = absurd (true_ne_false (sym h ∙ turns.1))
same_count z (Close slot read ∷ ds) one did turns h = absurd (true_ne_false (sym h ∙ turns.1))
same_count z (Peek slot read ∷ ds) one did turns h = absurd (true_ne_false (sym h ∙ turns.1))
same_count z (Expire slot expected read ∷ ds) one did turns h = absurd (true_ne_false (sym h ∙ turns.1))
same_count z (s ∷ ds) one did turns h = same_count z ds one did.0 turns.0 h

pub only_one : (z : TableSize) (ds : List Step) → z.workers ≡ 1 → DeskDid z ds → (w : ℕ) → is_split ds w ≡ true → w ≡ 1
only_one z ds one did w h = let x = split_inside z ds did w h in let lo = x.0 in let hi = x.1 in omega (arith, lo, hi, one)

step_aligned : (z : TableSize) (c : CoreState) (s : Step) → z.workers ≡ 1 → DeskDid z c.desk → DeskMay z c.desk s → InTurns c.desk → Aligned c.desk c.ended_parts → Aligned (s ∷ c.desk) (ended_after c.desk c.living_part c.ended_parts s)
step_aligned z c (Join w r) one did may turns a = let e = only_one z c.desk one did w may in
    let f : answers_at_split c.desk w ≡ length (desk_answers c.desk) = ap (answers_at_split c.desk) e ∙ same_count z c.desk one did turns (ap (is_split c.desk) (sym e) ∙ may) in
    ((e, f, refl), a)
step_aligned z c s one did may turns a = a

pub turns_before : (ds : List Step) (s : Step) → InTurns (s ∷ ds) → InTurns ds
turns_before ds s t = t.0

pub run_aligned : (z : TableSize) (ms : List ScheduledStep) → IsWithinLimits z → z.workers ≡ 1 → Runs z ms → InTurns (run z ms).desk → Aligned (run z ms).desk (run z ms).ended_parts
run_aligned z [] within one r turns = tt
run_aligned z (m ∷ ms) within one r turns = at m.actor m.step r.1 turns (run_aligned z ms within one r.0) where
  at : (a : ℕ) (s : Step) → IsAllowed z a (run z ms).desk (own_steps (run z ms) a) s → InTurns (state_after z (run z ms) a s).desk
      → (InTurns (run z ms).desk → Aligned (run z ms).desk (run z ms).ended_parts) → Aligned (state_after z (run z ms) a s).desk (state_after z (run z ms) a s).ended_parts
  at zero s may t ih = step_aligned z (run z ms) s one (run_sound z ms within r.0).desk may (turns_before (run z ms).desk s t) (ih (turns_before (run z ms).desk s t))
  at (suc w) s may t ih = ih t

-- ---- the order has each actor's answers

map_length : (f : ℕ → ConfigParts) (xs : List (Answer ℕ)) → length (map (with_configs f) xs) ≡ length xs
map_length f [] = refl
map_length f (x ∷ xs) = ap suc (map_length f xs)

module _ (f : ℕ → ConfigParts) (slots : ℕ) where
  abbrev order : List Step → List Part → List (Event ConfigParts)
  order ds ps = in_order (λ es. f) slots ds ps

  abbrev naming : List (Answer ℕ) → List (Answer ConfigParts)
  naming xs = map (with_configs f) xs

  -- what a desk's step other than a join adds
  map_both : (xs ys : List (Answer ℕ)) → naming (xs ++ ys) ≡ naming xs ++ naming ys
  map_both [] ys = refl
  map_both (x ∷ xs) ys = ap (λ (l : List (Answer ConfigParts)). with_configs f x ∷ l) (map_both xs ys)

  desk_own : (ds : List Step) (ps : List Part) → Aligned ds ps → answers_of 0 (order ds ps) ≡ naming (desk_answers ds)
  desk_own [] ps a = refl
  desk_own (Join w r ∷ ds) (p ∷ ps) a = other_front f (order ds ps) 0 1 (worker_answers slots p.steps) (λ e. omega (arith, e)) ∙ desk_own ds ps a.1
  desk_own (Join w r ∷ ds) [] a = absurd a
  desk_own (s ∷ ds) ps a = own_front f (order ds ps) 0 (desk_gives ds s) ∙ (ap (λ (l : List (Answer ConfigParts)). naming (desk_gives ds s) ++ l) (desk_own ds ps a) ∙ sym (map_both (desk_gives ds s) (desk_answers ds)))

  spans_one : (p : Part) (ps : List Part) → p.worker ≡ 1 → ended_spans slots (p ∷ ps) 1 ≡ ended_span slots p ∷ ended_spans slots ps 1
  spans_one p ps e = rw (eq-eqb 1 p.worker (sym e)) refl

  worker_own : (ds : List Step) (ps : List Part) → Aligned ds ps → answers_of 1 (order ds ps) ≡ naming (answers_of_spans (ended_spans slots ps 1))
  worker_own [] [] a = refl
  worker_own [] (p ∷ ps) a = absurd a
  worker_own (Join w r ∷ ds) (p ∷ ps) a = own_front f (order ds ps) 1 (worker_answers slots p.steps)
      ∙ (ap (λ (l : List (Answer ConfigParts)). naming (worker_answers slots p.steps) ++ l) (worker_own ds ps a.1)
      ∙ (sym (map_both (worker_answers slots p.steps) (answers_of_spans (ended_spans slots ps 1))) ∙ ap (λ l. naming (answers_of_spans l)) (sym (spans_one p ps a.0.0))))
  worker_own (Join w r ∷ ds) [] a = absurd a
  worker_own (s ∷ ds) ps a = other_front f (order ds ps) 1 0 (desk_gives ds s) (λ e. omega (arith, e)) ∙ worker_own ds ps a

  order_two : (ds : List Step) (ps : List Part) → AllTwo (order ds ps)
  order_two [] ps = tt
  order_two (Join w r ∷ ds) (p ∷ ps) = two_front f (order ds ps) 1 (worker_answers slots p.steps) tt (order_two ds ps)
  order_two (Join w r ∷ ds) [] = order_two ds []
  order_two (s ∷ ds) ps = two_front f (order ds ps) 0 (desk_gives ds s) tt (order_two ds ps)

  order_count : (ds : List Step) (ps : List Part) → desk_count (order ds ps) ≡ length (desk_answers ds)
  order_count [] ps = refl
  order_count (Join w r ∷ ds) (p ∷ ps) = worker_front f (order ds ps) (worker_answers slots p.steps) ∙ order_count ds ps
  order_count (Join w r ∷ ds) [] = order_count ds []
  order_count (s ∷ ds) ps = desk_front f (order ds ps) (desk_gives ds s) ∙ (ap (λ (n : ℕ). length (desk_gives ds s) + n) (order_count ds ps) ∙ sym (length-append (desk_gives ds s) (desk_answers ds)))

  drop_length : (xs : List (Answer ℕ)) (ns : List ℕ) (n : ℕ) → length ns ≡ length xs + n → length (drop (length xs) ns) ≡ n
  drop_length [] ns n e = e ∙ omega arith
  drop_length (x ∷ xs) [] n e = absurd (omega (arith, e))
  drop_length (x ∷ xs) (m ∷ ns) n e = drop_length xs ns n (omega (arith, e))

  order_before : (ds : List Step) (ps : List Part) (ns : List ℕ) → Aligned ds ps → length ns ≡ length (answers_of_spans (ended_spans slots ps 1)) → IsInSpans (ended_spans slots ps 1) ns → ns ≡ desk_events_before 1 (order ds ps)
  order_before [] [] [] a l i = refl
  order_before [] [] (n ∷ ns) a l i = absurd (omega (arith, l))
  order_before [] (p ∷ ps) ns a l i = absurd a
  order_before (Join w r ∷ ds) [] ns a l i = absurd a
  order_before (Join w r ∷ ds) (p ∷ ps) ns a l i =
      let xs : List (Answer ℕ) = worker_answers slots p.steps in let older = ended_spans slots ps 1 in let g = order ds ps in
      let e = spans_one p ps a.0.0 in
      let l' : length ns ≡ length xs + length (answers_of_spans older) = l ∙ (ap (λ ss. length (answers_of_spans ss)) e ∙ length-append xs (answers_of_spans older)) in
      let i' = subst (λ ss. IsInSpans ss ns) e i in
      let c = order_count ds ps in
      let within = subst (λ (b : ℕ × ℕ). AllWithin b.0 (Some b.1) (take (length xs) ns)) (λ k. ((a.0.1 ∙ sym c) k, (a.0.2 ∙ sym c) k)) i'.0 in
      let rest = order_before ds ps (drop (length xs) ns) a.1 (drop_length xs ns (length (answers_of_spans older)) l') i'.1 in
      worker_before f g xs ns within (l' ∙ ap (λ (n : ℕ). length xs + n) (sym (drop_length xs ns (length (answers_of_spans older)) l') ∙ ap length rest)) rest
  order_before (s ∷ ds) ps ns a l i = order_before ds ps ns a l i ∙ sym (desk_before f (order ds ps) (desk_gives ds s))

-- ---- no part is another worker's

no_spans : (slots : ℕ) (ds : List Step) (ps : List Part) (a : ℕ) → Aligned ds ps → ended_spans slots ps (suc (suc a)) ≡ []
no_spans slots [] [] a h = refl
no_spans slots [] (p ∷ ps) a h = absurd h
no_spans slots (Join w r ∷ ds) [] a h = absurd h
no_spans slots (Join w r ∷ ds) (p ∷ ps) a h = let e = h.0.0 in let n : suc (suc a) ≢ p.worker = λ x. omega (arith, x, e) in rw (ne_eqb (suc (suc a)) p.worker n) (no_spans slots ds ps a h.1)
no_spans slots (s ∷ ds) ps a h = no_spans slots ds ps a h

spans_when : (z : TableSize) (c : CoreState) (w : ℕ) → is_split c.desk w ≡ false → spans_of z c w ≡ ended_spans z.slots c.ended_parts w
spans_when z c w h = rw h refl

pub the_order : IsTheOrder
the_order z ms h within one r turns free x =
    let c : CoreState = run z ms in let f : ℕ → ConfigParts = config_at c.desk in let a = run_aligned z ms within one r turns in let did = (run_sound z ms within r).desk in
    let older = ended_spans z.slots c.ended_parts 1 in
    let spans : spans_of z c 1 ≡ older = spans_when z c 1 free in
    let mine : answers_in 1 h ≡ map (with_configs f) (answers_of_spans older) = x.own 1 ∙ ap (λ ss. map (with_configs f) (answers_of_spans ss)) spans in
    let none : (k : ℕ) → answers_in (suc (suc k)) h ≡ [] = λ k. x.own (suc (suc k)) ∙ ap (λ ss. map (with_configs f) (answers_of_spans ss))
    (spans_when z c (suc (suc k)) (is_false (is_split c.desk (suc (suc k))) (λ s. let e = only_one z c.desk one did (suc (suc k)) s in omega (arith, e))) ∙ no_spans z.slots c.desk c.ended_parts k a) in
    let counted : length (desk_events_before 1 h) ≡ length (answers_of_spans older) = before_length 1 h ∙ (ap length mine ∙ map_length f (answers_of_spans older)) in
    one_merge h (in_order (λ ds. f) z.slots c.desk c.ended_parts) (only_two h none) (order_two f z.slots c.desk c.ended_parts)
    (x.own 0 ∙ sym (desk_own f z.slots c.desk c.ended_parts a))
    (mine ∙ sym (worker_own f z.slots c.desk c.ended_parts a))
    (order_before f z.slots c.desk c.ended_parts (desk_events_before 1 h) a counted (subst (λ ss. IsInSpans ss (desk_events_before 1 h)) spans (x.order 0)))
