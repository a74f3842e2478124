-- Two lists of events of the desk and of worker 1 are one where each actor's events, and their places, are the same.
use Rattle.std.proofs.Common.{◌≡◌, ◌≢◌, ℕ, zero, suc, ◌+◌, ◌≤◌, ◌==◌, Bool, true, false, if◌then◌else◌, List, [], ◌∷◌, ◌++◌, length, map, take, drop, sym, refl, ap, ◌∙◌, subst, arith, eq-eqb, ne_eqb, Some}
use Rattle.session_world.specs.Answers.{Answer, with_configs}
use Rattle.session_world.specs.History.{Event}
use Rattle.session_world.specs.Explains.{with_wrapped_counts, answers_in, desk_count, desk_events_before, AllWithin}
use Rattle.session_world.specs.OneOrder.{events_by, with_wrapped_events}

-- the events of an actor, as they are
abbrev pub answers_of : {C : Type 0} → ℕ → List (Event C) → List (Answer C)
answers_of a [] = []
answers_of a (e ∷ h) = if a == e.by then e.answer ∷ answers_of a h else answers_of a h

abbrev pub IsTwo : ℕ → Type 0
IsTwo zero = Unit {0}
IsTwo (suc zero) = Unit {0}
IsTwo (suc (suc n)) = ⊥

-- all are the desk's or worker 1's
abbrev pub AllTwo : {C : Type 0} → List (Event C) → Type 0
AllTwo [] = Unit {0}
AllTwo (e ∷ h) = IsTwo e.by × AllTwo h

count_is : {C : Type 0} (h : List (Event C)) → desk_count h ≡ length (answers_in 0 h)
count_is [] = refl
count_is (e ∷ h) = at (0 == e.by) (count_is h) where
  at : (b : Bool) → desk_count h ≡ length (answers_in 0 h) → (if b then suc (desk_count h) else desk_count h) ≡ length (if b then with_wrapped_counts e.answer ∷ answers_in 0 h else answers_in 0 h)
  at true x = ap suc x
  at false x = x

count_of : {C : Type 0} (h : List (Event C)) → desk_count h ≡ length (answers_of 0 h)
count_of [] = refl
count_of (e ∷ h) = at (0 == e.by) (count_of h) where
  at : (b : Bool) → desk_count h ≡ length (answers_of 0 h) → (if b then suc (desk_count h) else desk_count h) ≡ length (if b then e.answer ∷ answers_of 0 h else answers_of 0 h)
  at true x = ap suc x
  at false x = x

pub before_length : {C : Type 0} (a : ℕ) (h : List (Event C)) → length (desk_events_before a h) ≡ length (answers_in a h)
before_length a [] = refl
before_length a (e ∷ h) = at (a == e.by) (before_length a h) where
  at : (b : Bool) → length (desk_events_before a h) ≡ length (answers_in a h) → length (if b then desk_count h ∷ desk_events_before a h else desk_events_before a h) ≡ length (if b then with_wrapped_counts e.answer ∷ answers_in a h else answers_in a h)
  at true x = ap suc x
  at false x = x

-- the latest event of the worker stands after no more of the desk's events than there are
abbrev HeadLow : ℕ → List ℕ → Type 0
HeadLow n [] = Unit {0}
HeadLow n (m ∷ ms) = m ≤ n

head_more : (n : ℕ) (ms : List ℕ) → HeadLow n ms → HeadLow (suc n) ms
head_more n [] h = tt
head_more n (m ∷ ms) h = omega (arith, h)

head_low : {C : Type 0} (h : List (Event C)) → AllTwo h → HeadLow (desk_count h) (desk_events_before 1 h)
head_low [] two = tt
head_low (e ∷ h) two = at e.by two.0 (head_low h two.1) where
  at : (b : ℕ) → IsTwo b → HeadLow (desk_count h) (desk_events_before 1 h) → HeadLow (if 0 == b then suc (desk_count h) else desk_count h) (if 1 == b then desk_count h ∷ desk_events_before 1 h else desk_events_before 1 h)
  at zero t low = head_more (desk_count h) (desk_events_before 1 h) low
  at (suc zero) t low = omega arith
  at (suc (suc b)) t low = absurd t

pub one_merge : {C : Type 0} (h g : List (Event C)) → AllTwo h → AllTwo g → answers_in 0 h ≡ answers_of 0 g → answers_in 1 h ≡ answers_of 1 g → desk_events_before 1 h ≡ desk_events_before 1 g → with_wrapped_events h ≡ g
one_merge [] [] th tg d w b = refl
one_merge {C} [] (e ∷ g) th tg d w b = at e.by tg.0 d w where
  at : (n : ℕ) → IsTwo n → [] ≡ (if 0 == n then e.answer ∷ answers_of 0 g else answers_of 0 g) → [] ≡ (if 1 == n then e.answer ∷ answers_of 1 g else answers_of 1 g) → with_wrapped_events [] ≡ e ∷ g
  at zero t d w = absurd cc
  at (suc zero) t d w = absurd cc
  at (suc (suc n)) t d w = absurd t
one_merge {C} (e ∷ h) [] th tg d w b = at e.by th.0 d w where
  at : (n : ℕ) → IsTwo n → (if 0 == n then with_wrapped_counts e.answer ∷ answers_in 0 h else answers_in 0 h) ≡ [] → (if 1 == n then with_wrapped_counts e.answer ∷ answers_in 1 h else answers_in 1 h) ≡ [] → with_wrapped_events (e ∷ h) ≡ []
  at zero t d w = absurd cc
  at (suc zero) t d w = absurd cc
  at (suc (suc n)) t d w = absurd t
one_merge {C} (e ∷ h) (x ∷ g) th tg d w b = at e.by x.by e.answer x.answer th.0 tg.0 (one_merge h g th.1 tg.1) d w b where
  at : (m n : ℕ) (p q : Answer C) → IsTwo m → IsTwo n
      → (answers_in 0 h ≡ answers_of 0 g → answers_in 1 h ≡ answers_of 1 g → desk_events_before 1 h ≡ desk_events_before 1 g → with_wrapped_events h ≡ g)
      → (if 0 == m then with_wrapped_counts p ∷ answers_in 0 h else answers_in 0 h) ≡ (if 0 == n then q ∷ answers_of 0 g else answers_of 0 g)
      → (if 1 == m then with_wrapped_counts p ∷ answers_in 1 h else answers_in 1 h) ≡ (if 1 == n then q ∷ answers_of 1 g else answers_of 1 g)
      → (if 1 == m then desk_count h ∷ desk_events_before 1 h else desk_events_before 1 h) ≡ (if 1 == n then desk_count g ∷ desk_events_before 1 g else desk_events_before 1 g)
      → record { by = m; answer = with_wrapped_counts p } ∷ with_wrapped_events h ≡ record { by = n; answer = q } ∷ g
  at zero zero p q tm tn more d w b = let a : with_wrapped_counts p ≡ q = cc in let r : answers_in 0 h ≡ answers_of 0 g = cc in
      λ i. record { by = 0; answer = a i } ∷ more r w b i
  at (suc zero) (suc zero) p q tm tn more d w b = let a : with_wrapped_counts p ≡ q = cc in let r : answers_in 1 h ≡ answers_of 1 g = cc in let s : desk_events_before 1 h ≡ desk_events_before 1 g = cc in
      λ i. record { by = 1; answer = a i } ∷ more d r s i
  at zero (suc zero) p q tm tn more d w b =
      let low : desk_count g ≤ desk_count h = subst (HeadLow (desk_count h)) b (head_low h th.1) in
      let up : suc (desk_count h) ≡ desk_count g = ap suc (count_is h) ∙ (ap length d ∙ sym (count_of g)) in
      absurd (omega (arith, low, up))
  at (suc zero) zero p q tm tn more d w b =
      let low : desk_count h ≤ desk_count g = subst (HeadLow (desk_count g)) (sym b) (head_low g tg.1) in
      let up : desk_count h ≡ suc (desk_count g) = count_is h ∙ (ap length d ∙ ap suc (sym (count_of g))) in
      absurd (omega (arith, low, up))
  at (suc (suc m)) n p q tm tn more d w b = absurd tm
  at zero (suc (suc n)) p q tm tn more d w b = absurd tn
  at (suc zero) (suc (suc n)) p q tm tn more d w b = absurd tn

-- ---- answers in front of a list of events

module _ {C : Type 0} (f : ℕ → C) (g : List (Event C)) where
  pub own_front : (a : ℕ) (xs : List (Answer ℕ)) → answers_of a (events_by a f xs ++ g) ≡ map (with_configs f) xs ++ answers_of a g
  own_front a [] = refl
  own_front a (x ∷ xs) = rw (eq-eqb a a refl) (ap (λ (ys : List (Answer C)). with_configs f x ∷ ys) (own_front a xs))

  pub other_front : (a b : ℕ) (xs : List (Answer ℕ)) → a ≢ b → answers_of a (events_by b f xs ++ g) ≡ answers_of a g
  other_front a b [] n = refl
  other_front a b (x ∷ xs) n = rw (ne_eqb a b n) (other_front a b xs n)

  pub two_front : (a : ℕ) (xs : List (Answer ℕ)) → IsTwo a → AllTwo g → AllTwo (events_by a f xs ++ g)
  two_front a [] t h = h
  two_front a (x ∷ xs) t h = (t, two_front a xs t h)

  pub desk_front : (xs : List (Answer ℕ)) → desk_count (events_by 0 f xs ++ g) ≡ length xs + desk_count g
  desk_front [] = omega arith
  desk_front (x ∷ xs) = let e = desk_front xs in omega (arith, e)

  pub worker_front : (xs : List (Answer ℕ)) → desk_count (events_by 1 f xs ++ g) ≡ desk_count g
  worker_front [] = refl
  worker_front (x ∷ xs) = worker_front xs

  pub desk_before : (xs : List (Answer ℕ)) → desk_events_before 1 (events_by 0 f xs ++ g) ≡ desk_events_before 1 g
  desk_before [] = refl
  desk_before (x ∷ xs) = desk_before xs

  -- the places of a part that was split off and joined with the same count of the desk's answers
  pub worker_before : (xs : List (Answer ℕ)) (ns : List ℕ) → AllWithin (desk_count g) (Some (desk_count g)) (take (length xs) ns) → length ns ≡ length xs + length (desk_events_before 1 g)
      → drop (length xs) ns ≡ desk_events_before 1 g → ns ≡ desk_events_before 1 (events_by 1 f xs ++ g)
  worker_before [] ns w l d = d
  worker_before (x ∷ xs) [] w l d = absurd (omega (arith, l))
  worker_before (x ∷ xs) (n ∷ ns) w l d = let lo = w.0 in let hi = w.1 in
      let here : n ≡ desk_count (events_by 1 f xs ++ g) = (let e : n ≡ desk_count g = omega (arith, lo, hi) in e ∙ sym (worker_front xs)) in
      let rest : ns ≡ desk_events_before 1 (events_by 1 f xs ++ g) = worker_before xs ns w.2 (omega (arith, l)) d in
      λ i. here i ∷ rest i

-- ---- no other actor has an event

pub only_two : {C : Type 0} (h : List (Event C)) → ((a : ℕ) → answers_in (suc (suc a)) h ≡ []) → AllTwo h
only_two [] none = tt
only_two (e ∷ h) none = (here e.by none, only_two h (λ a. tail a (suc (suc a) == e.by) (none a))) where
  tail : (a : ℕ) (b : Bool) → (if b then with_wrapped_counts e.answer ∷ answers_in (suc (suc a)) h else answers_in (suc (suc a)) h) ≡ [] → answers_in (suc (suc a)) h ≡ []
  tail a true e = absurd cc
  tail a false e = e

  here : (b : ℕ) → ((a : ℕ) → (if suc (suc a) == b then with_wrapped_counts e.answer ∷ answers_in (suc (suc a)) h else answers_in (suc (suc a)) h) ≡ []) → IsTwo b
  here zero f = tt
  here (suc zero) f = tt
  here (suc (suc a)) f = let x : with_wrapped_counts e.answer ∷ answers_in (suc (suc a)) h ≡ [] = subst (λ (b : Bool). (if b then with_wrapped_counts e.answer ∷ answers_in (suc (suc a)) h else answers_in (suc (suc a)) h) ≡ []) (eq-eqb (suc (suc a)) (suc (suc a)) refl) (f a) in absurd cc
