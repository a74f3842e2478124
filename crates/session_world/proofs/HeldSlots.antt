-- What a worker holds stays, also after it was joined: its announcement word stays.
use Rattle.std.proofs.Common.{◌≡◌, ◌≢◌, ⊎_elim, ℕ, zero, suc, ◌<◌, ◌≤◌, ◌==◌, Bool, true, false, ◌||◌, ◌&&◌, not, if◌then◌else◌, List, [], ◌∷◌, ◌++◌, get_or, sym, refl, ap, ◌∙◌, subst, arith, eq-eqb, ne_eqb, Some}
use Rattle.std.proofs.lemmas.Bool.{cases_lt}
use Rattle.slot_word.specs.Fields.{is_open_word}
use Rattle.session_world.specs.declared.steps.TableSize.{TableSize}
use Rattle.session_world.specs.declared.steps.Step.{Step}
use Rattle.session_world.specs.declared.steps.Part.{Part}
use Rattle.session_world.specs.declared.steps.Step.TheVariants.{Look, LoadKey, Draw, Split, LoadRow, Join, Announce, Retire}
use Rattle.session_world.specs.Sizes.{IsWithinLimits}
use Rattle.session_world.specs.Words.{word_index, HasRead}
use Rattle.session_world.specs.Desk.{generation_of, key_word_of, is_split}
use Rattle.session_world.specs.Worker.{announced, holds}
use Rattle.session_world.specs.Allowed.{DeskMay, IsAllowed}
use Rattle.session_world.specs.Runs.{CoreState, own_parts, ended_part, state_after, first_state, own_steps, ScheduledStep, run, Runs}
use Rattle.session_world.specs.Held.{steps_of, all_steps, IsHeldBy, HoldsInPart, Held}
use Rattle.session_world.proofs.BoolFacts.{true_ne_false, either_of, number_case, some_none, put_same, put_other, or_l, or_r, if_yes, if_no}
use Rattle.session_world.proofs.DeskFacts.{split_inside}
use Rattle.session_world.proofs.Holding.{Guard, MayHold, may_hold, spares, spared, desk_guard, new_guard, own_guard, other_guard}
use Rattle.session_world.proofs.Sound.{IsSound, run_sound}

-- ---- a list after an earlier one

holds_on : (xs ys : List Step) (i : ℕ) → holds xs i ≡ true → holds (xs ++ ys) i ≡ true
holds_on [] ys i h = absurd (true_ne_false (sym h))
holds_on (Announce slot ∷ xs) ys i h = h
holds_on (Retire ∷ xs) ys i h = h
holds_on (Look slot query read ∷ xs) ys i h = ⊎_elim
    (λ (x : ((i == slot) && is_open_word read) ≡ true). or_l ((i == slot) && is_open_word read) (holds (xs ++ ys) i) x)
    (λ (x : holds xs i ≡ true). or_r ((i == slot) && is_open_word read) (holds (xs ++ ys) i) (holds_on xs ys i x))
    (either_of ((i == slot) && is_open_word read) (holds xs i) h)
holds_on (_ ∷ xs) ys i h = holds_on xs ys i h

announced_on : (xs ys : List Step) (i : ℕ) → announced xs ≡ Some i → announced (xs ++ ys) ≡ Some i
announced_on [] ys i h = absurd (some_none i h)
announced_on (Announce slot ∷ xs) ys i h = h
announced_on (Retire ∷ xs) ys i h = h
announced_on (_ ∷ xs) ys i h = announced_on xs ys i h

may_on : (z : TableSize) (xs ys : List Step) (s : Step) → MayHold z xs s → MayHold z (xs ++ ys) s
may_on z xs ys (Announce slot) may = tt
may_on z xs ys Retire may = tt
may_on z xs ys (Look slot query n) may = (may.0, announced_on xs ys slot may.1)
may_on z xs ys (LoadKey slot index n) may = tt
may_on z xs ys (LoadRow row index n) may = tt
may_on z xs ys (Draw slot n) may = holds_on xs ys slot may
may_on z xs ys _ may = absurd may

-- a worker that is split off has its living part before the others
split_list : (c : CoreState) (w : ℕ) → is_split c.desk w ≡ true → all_steps c w ≡ c.living_part w ++ steps_of (own_parts c.ended_parts w)
split_list c w h = if_yes (is_split c.desk w) (c.living_part w ++ steps_of (own_parts c.ended_parts w)) (steps_of (own_parts c.ended_parts w)) h

pub holds_in_part : HoldsInPart
holds_in_part c w i split h = ap (λ (xs : List Step). holds xs i) (split_list c w split) ∙ holds_on (c.living_part w) (steps_of (own_parts c.ended_parts w)) i h

-- ---- steps of the desk leave what all parts of a worker have

-- a worker's list, where it is split off or not
abbrev list_if : Bool → List Step → List Step → List Step
list_if b xs ys = if b then xs ++ ys else ys

split_same : (z : TableSize) (c : CoreState) (k r w : ℕ) → is_split c.desk k ≡ false → all_steps (state_after z c 0 (Split k r)) w ≡ all_steps c w
split_same z c k r w none = let ys : List Step = steps_of (own_parts c.ended_parts w) in let part : List Step = (state_after z c 0 (Split k r)).living_part w in number_case w k
    (λ (x : w ≡ k).
    let now : ((w == k) || is_split c.desk w) ≡ true = or_l (w == k) (is_split c.desk w) (eq-eqb w k x) in
    let empty : part ≡ [] = rw (eq-eqb w k x) refl in
    ap (λ (b : Bool). list_if b part ys) now ∙ ap (λ (p : List Step). p ++ ys) empty ∙ sym (if_no (is_split c.desk w) (c.living_part w ++ ys) ys (ap (is_split c.desk) x ∙ none)))
    (λ (x : w ≢ k).
    let now : ((w == k) || is_split c.desk w) ≡ is_split c.desk w = rw (ne_eqb w k x) refl in
    let same : part ≡ c.living_part w = rw (ne_eqb w k x) refl in
    ap (λ (b : Bool). list_if b part ys) now ∙ ap (λ (p : List Step). list_if (is_split c.desk w) p ys) same)

join_same : (z : TableSize) (c : CoreState) (k r w : ℕ) → is_split c.desk k ≡ true → all_steps (state_after z c 0 (Join k r)) w ≡ all_steps c w
join_same z c k r w split = let own : List Part = own_parts c.ended_parts w in let p : Part = ended_part k (c.living_part k) c.desk in number_case w k
    (λ (x : w ≡ k).
    let now : (not (w == k) && is_split c.desk w) ≡ false = rw (eq-eqb w k x) refl in
    ap (λ (b : Bool). list_if b (c.living_part w) (steps_of (own_parts (p ∷ c.ended_parts) w))) now
    ∙ (ap steps_of (if_yes (w == k) (p ∷ own) own (eq-eqb w k x)) ∙ ap (λ (j : ℕ). c.living_part j ++ steps_of own) (sym x))
    ∙ sym (split_list c w (ap (is_split c.desk) x ∙ split)))
    (λ (x : w ≢ k).
    let now : (not (w == k) && is_split c.desk w) ≡ is_split c.desk w = rw (ne_eqb w k x) refl in
    ap (λ (b : Bool). list_if b (c.living_part w) (steps_of (own_parts (p ∷ c.ended_parts) w))) now
    ∙ ap (λ (zs : List Step). list_if (is_split c.desk w) (c.living_part w) zs) (ap steps_of (if_no (w == k) (p ∷ own) own (ne_eqb w k x))))

desk_same : (z : TableSize) (c : CoreState) (s : Step) (w : ℕ) → DeskMay z c.desk s → all_steps (state_after z c 0 s) w ≡ all_steps c w
desk_same z c (Split k r) w may = split_same z c k r w may.2
desk_same z c (Join k r) w may = join_same z c k r w may
desk_same z c s w may = refl

-- ---- a worker's step

own_list : (z : TableSize) (c : CoreState) (v : ℕ) (s : Step) → is_split c.desk (suc v) ≡ true → all_steps (state_after z c (suc v) s) (suc v) ≡ s ∷ all_steps c (suc v)
own_list z c v s split =
    let ys : List Step = steps_of (own_parts c.ended_parts (suc v)) in
    split_list (state_after z c (suc v) s) (suc v) split
    ∙ ap (λ (xs : List Step). xs ++ ys) (put_same c.living_part (suc v) (s ∷ c.living_part (suc v)))
    ∙ ap (λ (xs : List Step). s ∷ xs) (sym (split_list c (suc v) split))

other_list : (z : TableSize) (c : CoreState) (v w : ℕ) (s : Step) → w ≢ suc v → all_steps (state_after z c (suc v) s) w ≡ all_steps c w
other_list z c v w s n = ap (λ (p : List Step). list_if (is_split c.desk w) p (steps_of (own_parts c.ended_parts w))) (put_other c.living_part (suc v) (s ∷ c.living_part (suc v)) w n)

-- ---- after every schedule that runs

-- what each worker of the table holds, by all its parts, is guarded; and nobody else has a step
record AreGuarded (z : TableSize) (c : CoreState) : Type 0 where
  guards : (w : ℕ) → w < z.workers → Guard z c.words c.desk (suc w) (all_steps c (suc w))
  nobody : (w : ℕ) → z.workers ≤ w → all_steps c (suc w) ≡ []

desk_guarded : (z : TableSize) (c : CoreState) (s : Step) → IsSound z c → DeskMay z c.desk s → HasRead s (get_or c.words (word_index z 0 s) 0) → AreGuarded z c → AreGuarded z (state_after z c 0 s)
desk_guarded z c s t may has_read a = let d : CoreState = state_after z c 0 s in record {
  guards = λ w lt. subst (Guard z d.words d.desk (suc w)) (sym (desk_same z c s (suc w) may)) (desk_guard z c.words c.desk s (suc w) (all_steps c (suc w)) t.desk may has_read (a.guards w lt));
  nobody = λ w le. desk_same z c s (suc w) may ∙ a.nobody w le;
}

worker_guarded : (z : TableSize) (c : CoreState) (v : ℕ) (s : Step) → IsSound z c → IsAllowed z (suc v) c.desk (c.living_part (suc v)) s → HasRead s (get_or c.words (word_index z (suc v) s) 0) → AreGuarded z c → AreGuarded z (state_after z c (suc v) s)
worker_guarded z c v s t may has_read a =
    let d : CoreState = state_after z c (suc v) s in
    let inside : v < z.workers = let x = (split_inside z c.desk t.desk (suc v) may.0).1 in omega (arith, x) in
    let mine = a.guards v inside in
    let holds_so : MayHold z (all_steps c (suc v)) s = subst (λ (xs : List Step). MayHold z xs s) (sym (split_list c (suc v) may.0)) (may_on z (c.living_part (suc v)) (steps_of (own_parts c.ended_parts (suc v))) s (may_hold z (c.living_part (suc v)) s may.1)) in
    record {
      guards = λ w lt. number_case (suc w) (suc v)
          (λ (x : suc w ≡ suc v). subst (λ (j : ℕ). Guard z d.words d.desk j (all_steps d j)) (sym x)
          (subst (Guard z d.words d.desk (suc v)) (sym (own_list z c v s may.0)) (own_guard z c.words c.desk (suc v) (all_steps c (suc v)) s t.desk t.words mine holds_so has_read)))
          (λ (x : suc w ≢ suc v). subst (Guard z d.words d.desk (suc w)) (sym (other_list z c v (suc w) s x))
          (other_guard z c.words c.desk (suc v) (suc w) s (all_steps c (suc v)) (all_steps c (suc w)) mine holds_so x (a.guards w lt)));
      nobody = λ w le. other_list z c v (suc w) s (λ e. omega (arith, e, le, inside)) ∙ a.nobody w le;
    }

step_guarded : (z : TableSize) (c : CoreState) (a : ℕ) (s : Step) → IsSound z c → IsAllowed z a c.desk (own_steps c a) s → HasRead s (get_or c.words (word_index z a s) 0) → AreGuarded z c → AreGuarded z (state_after z c a s)
step_guarded z c zero s t may has_read g = desk_guarded z c s t may has_read g
step_guarded z c (suc v) s t may has_read g = worker_guarded z c v s t may has_read g

first_guarded : (z : TableSize) → AreGuarded z (first_state z)
first_guarded z = record {
  guards = λ w lt. new_guard z (first_state z).words [] (suc w) (omega arith) (omega (arith, lt));
  nobody = λ w le. refl;
}

run_guarded : (z : TableSize) (ms : List ScheduledStep) → IsWithinLimits z → Runs z ms → AreGuarded z (run z ms)
run_guarded z [] within r = first_guarded z
run_guarded z (m ∷ ms) within r = step_guarded z (run z ms) m.actor m.step (run_sound z ms within r.0) r.1 r.2 (run_guarded z ms within r.0)

-- who holds a slot is one of the table's workers
pub held_guard : (z : TableSize) (ms : List ScheduledStep) (w i : ℕ) → IsWithinLimits z → Runs z ms → IsHeldBy (run z ms) (suc w) i → Guard z (run z ms).words (run z ms).desk (suc w) (all_steps (run z ms) (suc w))
held_guard z ms w i within r h = let g = run_guarded z ms within r in ⊎_elim
    (λ (x : w < z.workers). g.guards w x)
    (λ (x : z.workers ≤ w). absurd (true_ne_false (sym h ∙ ap (λ (xs : List Step). holds xs i) (g.nobody w x))))
    (cases_lt w z.workers)

-- ---- a held slot stays

list_held : (z : TableSize) (c : CoreState) (a : ℕ) (s : Step) (w i : ℕ) → Guard z c.words c.desk (suc w) (all_steps c (suc w)) → IsAllowed z a c.desk (own_steps c a) s → IsHeldBy c (suc w) i
    → (generation_of (state_after z c a s).desk i ≡ generation_of c.desk i) × ((k : ℕ) → key_word_of (state_after z c a s).desk i k ≡ key_word_of c.desk i k)
list_held z c zero s w i g may h = let x = spared s c.desk i (spares z c.words c.desk (suc w) (all_steps c (suc w)) i s g h may) in (x.generation, x.key)
list_held z c (suc u) s w i g may h = (refl, λ k. refl)

pub held : Held
held z m ms w i within r h =
    let t = run_sound z ms within r.0 in let t' = run_sound z (m ∷ ms) within r in
    let g = held_guard z ms w i within r.0 h in
    let inside = (g.held i h).inside in let x = list_held z (run z ms) m.actor m.step w i g r.1 h in
    let f = t.words.slots i inside in let f' = t'.words.slots i inside in
    (f'.generation ∙ (x.0 ∙ sym f.generation), λ k lo hi. t'.words.keys i k inside lo hi ∙ (x.1 k ∙ sym (t.words.keys i k inside lo hi)))
