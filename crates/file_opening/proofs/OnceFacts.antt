-- Configurations that stand once each among others are at most as many as those that differ.
use Rattle.std.proofs.Common.{◌≡◌, ⊎_elim, suc, ◌≤◌, Bool, true, false, not, if◌then◌else◌, List, [], ◌∷◌, ◌++◌, length, sym, refl, ap, ◌∙◌, arith}
use Rattle.std.specs.List.{filter, list_any}
use Rattle.refl_types.specs.declared.config.ConfigParts.{ConfigParts}
use Rattle.refl_types.specs.Same.{same_config}
use Rattle.refl_types.proofs.SameFacts.{config_same, same_config-refl}
use Rattle.conf_text.specs.Rows.{distinct}
use Rattle.session_desk.proofs.BoolFacts.{bool, true_ne_false, either_of, or_l, or_r, no_or}
use Rattle.file_opening.specs.OpenedFirst.{AreOnce}

-- ---- the list of configurations that differ

choose : Bool → ConfigParts → List ConfigParts → List ConfigParts
choose b c cs = if b then distinct cs else c ∷ distinct cs

distinct-among : (c : ConfigParts) (cs : List ConfigParts) → list_any (same_config c) cs ≡ true → distinct (c ∷ cs) ≡ distinct cs
unfolding distinct choose
distinct-among c cs among = ap (λ b. choose b c cs) among

distinct-new : (c : ConfigParts) (cs : List ConfigParts) → list_any (same_config c) cs ≡ false → distinct (c ∷ cs) ≡ c ∷ distinct cs
unfolding distinct choose
distinct-new c cs new = ap (λ b. choose b c cs) new

-- ---- all but one configuration

without : ConfigParts → List ConfigParts → List ConfigParts
without b = filter (λ x. not (same_config b x))

without_this : (b x : ConfigParts) (xs : List ConfigParts) → same_config b x ≡ true → without b (x ∷ xs) ≡ without b xs
unfolding without
without_this b x xs e = rw e refl

without_other : (b x : ConfigParts) (xs : List ConfigParts) → same_config b x ≡ false → without b (x ∷ xs) ≡ x ∷ without b xs
unfolding without
without_other b x xs e = rw e refl

without_none : (b : ConfigParts) (xs : List ConfigParts) → list_any (same_config b) xs ≡ false → without b xs ≡ xs
unfolding without
without_none b [] none = refl
without_none b (x ∷ xs) none = let p = no_or (same_config b x) (list_any (same_config b) xs) none in rw p.0 (ap (λ (ys : List ConfigParts). x ∷ ys) (without_none b xs p.1))

-- what is left stands in the list, and is another
without_tells : (b c : ConfigParts) (xs : List ConfigParts) → list_any (same_config c) (without b xs) ≡ true → (list_any (same_config c) xs ≡ true) × (same_config c b ≡ false)
unfolding without
without_tells b c [] h = absurd (true_ne_false (sym h))
without_tells b c (x ∷ xs) h = ⊎_elim
    (λ (e : same_config b x ≡ true). let r = without_tells b c xs (ap (list_any (same_config c)) (sym (without_this b x xs e)) ∙ h) in (or_r (same_config c x) _ r.0, r.1))
    (λ (e : same_config b x ≡ false). ⊎_elim
    (λ (here : same_config c x ≡ true). (or_l _ _ here, other e (config_same c x here)))
    (λ (later : list_any (same_config c) (without b xs) ≡ true). let r = without_tells b c xs later in (or_r (same_config c x) _ r.0, r.1))
    (either_of (same_config c x) (list_any (same_config c) (without b xs)) (ap (list_any (same_config c)) (sym (without_other b x xs e)) ∙ h)))
    (bool (same_config b x))
  where
    other : same_config b x ≡ false → c ≡ x → same_config c b ≡ false
    other e is = ⊎_elim
        (λ (same : same_config c b ≡ true). absurd (true_ne_false (sym (same_config-refl b) ∙ ap (same_config b) (sym (config_same c b same) ∙ is) ∙ e)))
        (λ (differs : same_config c b ≡ false). differs)
        (bool (same_config c b))

none_left : (b c : ConfigParts) (xs : List ConfigParts) → list_any (same_config c) xs ≡ false → list_any (same_config c) (without b xs) ≡ false
none_left b c xs none = ⊎_elim
    (λ (some : list_any (same_config c) (without b xs) ≡ true). absurd (true_ne_false (sym (without_tells b c xs some).0 ∙ none)))
    (λ (e : list_any (same_config c) (without b xs) ≡ false). e)
    (bool (list_any (same_config c) (without b xs)))

once_left : (b : ConfigParts) (xs : List ConfigParts) → AreOnce xs → AreOnce (without b xs)
unfolding without
once_left b [] once = tt
once_left b (x ∷ xs) once = ⊎_elim
    (λ (e : same_config b x ≡ true). rw (without_this b x xs e) (once_left b xs once.1))
    (λ (e : same_config b x ≡ false). rw (without_other b x xs e) (none_left b x xs once.0, once_left b xs once.1))
    (bool (same_config b x))

one_less : (b : ConfigParts) (xs : List ConfigParts) → AreOnce xs → length xs ≤ suc (length (without b xs))
one_less b [] once = omega arith
one_less b (x ∷ xs) once = ⊎_elim
    (λ (e : same_config b x ≡ true). let none : list_any (same_config b) xs ≡ false = ap (λ (c : ConfigParts). list_any (same_config c) xs) (config_same b x e) ∙ once.0 in
    let n : length (without b (x ∷ xs)) ≡ length xs = ap length (without_this b x xs e ∙ without_none b xs none) in omega (arith, n))
    (λ (e : same_config b x ≡ false). let n : length (without b (x ∷ xs)) ≡ suc (length (without b xs)) = ap length (without_other b x xs e) in let h = one_less b xs once.1 in omega (arith, n, h))
    (bool (same_config b x))

-- ---- counting

pub no_more : (ys xs : List ConfigParts) → AreOnce xs → ((c : ConfigParts) → list_any (same_config c) xs ≡ true → list_any (same_config c) ys ≡ true) → length xs ≤ length (distinct ys)
no_more [] [] once inside = omega arith
no_more [] (x ∷ xs) once inside = absurd (true_ne_false (sym (inside x (or_l _ _ (same_config-refl x)))))
no_more (b ∷ bs) xs once inside = ⊎_elim
    (λ (e : list_any (same_config b) bs ≡ true). rw (distinct-among b bs e) (no_more bs xs once (λ c some. ⊎_elim
    (λ (same : same_config c b ≡ true). ap (λ (x : ConfigParts). list_any (same_config x) bs) (config_same c b same) ∙ e)
    (λ (later : list_any (same_config c) bs ≡ true). later)
    (either_of (same_config c b) _ (inside c some)))))
    (λ (e : list_any (same_config b) bs ≡ false).
    let less : length (without b xs) ≤ length (distinct bs) = no_more bs (without b xs) (once_left b xs once) (λ c some. let r = without_tells b c xs some in ⊎_elim
    (λ (same : same_config c b ≡ true). absurd (true_ne_false (sym same ∙ r.1)))
    (λ (later : list_any (same_config c) bs ≡ true). later)
    (either_of (same_config c b) _ (inside c r.0))) in
    let n : length (distinct (b ∷ bs)) ≡ suc (length (distinct bs)) = ap length (distinct-new b bs e) in let m = one_less b xs once in omega (arith, less, n, m))
    (bool (list_any (same_config b) bs))

-- ---- one more at the end

pub once_more : (xs : List ConfigParts) (c : ConfigParts) → AreOnce xs → list_any (same_config c) xs ≡ false → AreOnce (xs ++ c ∷ [])
once_more [] c once new = (refl, tt)
once_more (x ∷ xs) c once new = let p = no_or (same_config c x) (list_any (same_config c) xs) new in (none_at_end xs once.0 p.0, once_more xs c once.1 p.1)
  where
    none_at_end : (ys : List ConfigParts) → list_any (same_config x) ys ≡ false → same_config c x ≡ false → list_any (same_config x) (ys ++ c ∷ []) ≡ false
    none_at_end [] none other = ⊎_elim
        (λ (e : same_config x c ≡ true). absurd (true_ne_false (sym (same_config-refl c) ∙ ap (same_config c) (sym (config_same x c e)) ∙ other)))
        (λ (e : same_config x c ≡ false). rw e refl)
        (bool (same_config x c))
    none_at_end (y ∷ ys) none other = let q = no_or (same_config x y) (list_any (same_config x) ys) none in rw (q.0, none_at_end ys q.1 other) refl
