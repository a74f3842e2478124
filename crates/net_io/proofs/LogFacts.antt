-- A log whose octets stand in a row.
use Rattle.std.proofs.Common.{◌≡◌, ℕ, zero, suc, ◌+◌, ◌-◌, ◌<◌, ◌≤◌, ◌⊎◌, inl, inr, List, [], ◌∷◌, ◌++◌, length, take, drop, get_or, Option, Some, None, Bool, true, false, refl, sym, ap, subst, ◌∙◌, arith}
use Rattle.std.specs.Prelude.{sum_by, map, option_map, slice_get, cond, min, nat_lt, nat_le, ◌&&◌}
use Rattle.std.proofs.lemmas.List.{length-take-le, length-drop, take-append-le, drop-append-le, nil_from_length, drop-drop, map-append}
use Rattle.std.proofs.Math.ListN.{drop_of_length-le}
use Rattle.std.proofs.Math.Nat.{eq-or-lt_of_le}
use Rattle.std.proofs.lemmas.List.Sums.{sum_by-cons}
use Rattle.std.proofs.lemmas.Bool.Decides.{nat_tests}
use Rattle.net_io.specs.Log.{LogState, Grows, TakesNext, first_or, octets_in, told_after, noted, entries_of}

take_whole : (octets : List ℕ) → take (length octets) octets ≡ octets
take_whole [] = refl
take_whole (x ∷ octets) = ap (λ (l : List ℕ). x ∷ l) (take_whole octets)

module _ {E : Type 0} where
  abbrev pub count_of : E × ℕ → ℕ
  count_of e = e.1

  pub length-entries_of : (entries : List (E × ℕ)) (octets : List ℕ) → length (entries_of entries octets) ≡ length entries
  length-entries_of [] octets = refl
  length-entries_of (e ∷ entries) octets = grind (arith, length-entries_of entries (drop e.1 octets))

  pub octets_in-entries_of : (entries : List (E × ℕ)) (octets : List ℕ) → sum_by count_of entries ≡ length octets → octets_in (entries_of entries octets) ≡ length octets
  octets_in-entries_of [] octets whole = whole
  octets_in-entries_of (e ∷ entries) octets whole =
      let sum : e.1 + sum_by count_of entries ≡ length octets = sym (sum_by-cons count_of e entries) ∙ whole in
      let rest : sum_by count_of entries ≡ length (drop e.1 octets) = omega (arith, length-drop e.1 octets) in
      omega (arith, octets_in-entries_of entries (drop e.1 octets) rest, length-drop e.1 octets, length-take-le e.1 octets (omega arith))

  pub entries_of-append : (entries : List (E × ℕ)) (octets : List ℕ) (entry : E) (more : List ℕ) → sum_by count_of entries ≡ length octets
      → entries_of (entries ++ (entry, length more) ∷ []) (octets ++ more) ≡ entries_of entries octets ++ (entry, more) ∷ []
  entries_of-append [] octets entry more whole =
      let none : octets ≡ [] = nil_from_length octets (sym whole) in
      rw none (ap (λ (l : List ℕ). (entry, l) ∷ []) (take_whole more))
  entries_of-append (e ∷ entries) octets entry more whole =
      let sum : e.1 + sum_by count_of entries ≡ length octets = sym (sum_by-cons count_of e entries) ∙ whole in
      let fits : e.1 ≤ length octets = omega arith in
      let rest : sum_by count_of entries ≡ length (drop e.1 octets) = omega (arith, length-drop e.1 octets) in
      let front : take e.1 (octets ++ more) ≡ take e.1 octets = take-append-le e.1 octets more fits in
      let back : drop e.1 (octets ++ more) ≡ drop e.1 octets ++ more = drop-append-le e.1 octets more fits in
      rw (front, back) (ap (λ (l : List (E × List ℕ)). (e.0, take e.1 octets) ∷ l) (entries_of-append entries (drop e.1 octets) entry more rest))

  after_room : (n m : ℕ) (log : List (E × List ℕ)) (entry : E × List ℕ) → length log < n → octets_in log + length entry.1 ≤ m → told_after n m (Some log) entry ≡ Some (log ++ entry ∷ [])
  after_room n m log entry some enough = grind (arith, nat_tests)

  after_full : (n m : ℕ) (log : List (E × List ℕ)) (entry : E × List ℕ) → (n ≤ length log) ⊎ (m < octets_in log + length entry.1) → told_after n m (Some log) entry ≡ None
  after_full n m log entry full = grind (arith, nat_tests)

  module _ (entries : List (E × ℕ)) (octets : List ℕ) (n m : ℕ) (entry : E) (more : List ℕ) (whole : sum_by count_of entries ≡ length octets) where
    -- there is room for one entry more
    pub told_more : length entries < n → length octets + length more ≤ m
        → Some (entries_of (entries ++ (entry, length more) ∷ []) (octets ++ more)) ≡ told_after n m (Some (entries_of entries octets)) (entry, more)
    told_more some enough =
        ap (λ (l : List (E × List ℕ)). Some l) (entries_of-append entries octets entry more whole)
        ∙ sym (after_room n m (entries_of entries octets) (entry, more) (omega (arith, length-entries_of entries octets)) (omega (arith, octets_in-entries_of entries octets whole)))

    -- there is none
    pub told_full : (length entries ≡ n) ⊎ (m - length octets < length more) → None ≡ told_after n m (Some (entries_of entries octets)) (entry, more)
    told_full full = sym (after_full n m (entries_of entries octets) (entry, more) (grind (arith, length-entries_of entries octets, octets_in-entries_of entries octets whole)))

-- the entry at a place
pub slice_get-entries_of : {E : Type 0} (entries : List (E × ℕ)) (octets : List ℕ) (at : ℕ) (d : E × ℕ) → at < length entries
    → slice_get (entries_of entries octets) at ≡ Some ((get_or entries at d).0, take (get_or entries at d).1 (drop (sum_by count_of (take at entries)) octets))
slice_get-entries_of [] octets at d within = absurd (omega arith)
slice_get-entries_of (x ∷ entries) octets zero d within = refl
slice_get-entries_of {E} (x ∷ entries) octets (suc at) d within =
    let e = get_or entries at d in
    let sum = sum_by count_of (take at entries) in
    let back : drop sum (drop x.1 octets) ≡ drop (sum_by count_of (x ∷ take at entries)) octets =
    drop-drop sum x.1 octets ∙ ap (λ (n : ℕ). drop n octets) (sym (sum_by-cons count_of x (take at entries))) in
    slice_get-entries_of entries (drop x.1 octets) at d (omega arith) ∙ ap (λ (l : List ℕ). Some (e.0, take e.1 l)) back

-- ---- what a log tells, and what is still to come

told_grows : {E F : Type 0} (f : E × List ℕ → F) (n m : ℕ) (told : Option (List (E × List ℕ))) (entry : E × List ℕ)
    → Grows (option_map (map f) told) (option_map (map f) (told_after n m told entry)) (f entry ∷ [])
told_grows f n m None entry = tt
told_grows {E} {F} f n m (Some log) entry = either (nat_lt (length log) n && nat_le (octets_in log + length entry.1) m)
  where
    either : (b : Bool) → Grows (Some (map f log)) (option_map (map f) (cond b (Some (log ++ entry ∷ [])) None)) (f entry ∷ [])
    either true = map-append f log (entry ∷ [])
    either false = tt

-- a log in memory tells one entry more, or nothing any longer
pub noted_grows : {E F : Type 0} (f : E × List ℕ → F) (old new : LogState E) (entry : E) (octets : List ℕ) → new ≡ noted old entry octets
    → Grows (option_map (map f) old.told) (option_map (map f) new.told) (f (entry, octets) ∷ [])
noted_grows f old new entry octets e = rw e (told_grows f old.entries old.octets old.told (entry, octets))

pub takes_first : {E : Type 0} (IsEnd : E → Type 0) (end : E) (coming coming' : List E) (item : E)
    → IsEnd end → item ≡ first_or end coming → coming' ≡ drop 1 coming → TakesNext IsEnd (Some coming) (Some coming') item
takes_first IsEnd end [] coming' item is first rest = (subst IsEnd (sym first) is, rest)
takes_first IsEnd end (x ∷ coming) coming' item is first rest = (first, rest)

-- one item further on in a script, and at its end no further
pub drop_next : {A : Type 0} (items : List A) (at : ℕ) → at ≤ length items → drop (min (length items) (at + 1)) items ≡ drop 1 (drop at items)
drop_next {A} items at within = elim (eq-or-lt_of_le within) [
  | inl all ↦ drop_of_length-le items (omega arith) ∙ sym (ap (λ (l : List A). drop 1 l) (drop_of_length-le items (omega arith)))
  | inr more ↦ let one : min (length items) (at + 1) ≡ at + 1 = omega arith in ap (λ (n : ℕ). drop n items) one ∙ sym (drop-drop 1 at items)
]

pub map-drop_next : {A B : Type 0} (f : A → B) (items : List A) (at : ℕ) → at ≤ length items → map f (drop (min (length items) (at + 1)) items) ≡ drop 1 (map f (drop at items))
map-drop_next {A} {B} f items at within = ap (map f) (drop_next items at within) ∙ map-drop_one (drop at items)
  where
    map-drop_one : (xs : List A) → map f (drop 1 xs) ≡ drop 1 (map f xs)
    map-drop_one [] = refl
    map-drop_one (x ∷ xs) = refl
