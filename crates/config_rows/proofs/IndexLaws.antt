-- The index still holds once a configuration was added, and a search that follows its chains passes no row of its own.
use Rattle.std.proofs.Common.{◌≡◌, ◌≢◌, ℕ, zero, suc, ◌-◌, ◌<◌, ◌≤◌, ◌⊎◌, inl, inr, List, [], ◌∷◌, ◌++◌, length, slice_index, get_or, set, Some, sym, ap, subst, refl, ◌∙◌, arith, length-append, length-set, get_or-set_same, get_or-set_other}
use Rattle.std.specs.List.{slice_get}
use Rattle.std.proofs.lemmas.Option.{slice_get_read, slice_get_within}
use Rattle.std.proofs.lemmas.Bool.Decides.{eqb_tells}
use Rattle.std.proofs.lemmas.List.{get_or_append_left, get_or_read}
use Rattle.std.proofs.Math.Seq.{get_or-append_seam}
use Rattle.refl_types.specs.declared.config.ConfigParts.{ConfigParts}
use Rattle.config_rows.specs.Rows.{Rows, IsRow, HasNoRow, AreRows}
use Rattle.config_rows.specs.Index.{bucket_of, IsInBucket, IsLatest, IsIndex}

-- ---- elements of a list that grows at its end

slice_get-grown : {X : Type 0} (xs : List X) (y x : X) (i : ℕ) → slice_get xs i ≡ Some x → slice_get (xs ++ y ∷ []) i ≡ Some x
slice_get-grown [] y x i at = cc at
slice_get-grown (z ∷ xs) y x zero at = at
slice_get-grown (z ∷ xs) y x (suc i) at = slice_get-grown xs y x i at

slice_get-last : {X : Type 0} (xs : List X) (y : X) → slice_get (xs ++ y ∷ []) (length xs) ≡ Some y
slice_get-last [] y = refl
slice_get-last (z ∷ xs) y = slice_get-last xs y

slice_get-cases : {X : Type 0} (xs : List X) (y x : X) (i : ℕ) → slice_get (xs ++ y ∷ []) i ≡ Some x → (slice_get xs i ≡ Some x) ⊎ ((i ≡ length xs) × (y ≡ x))
slice_get-cases [] y x zero at = inr (refl, cc)
slice_get-cases [] y x (suc i) at = absurd (cc at)
slice_get-cases (z ∷ xs) y x zero at = inl at
slice_get-cases (z ∷ xs) y x (suc i) at =
    elim (slice_get-cases xs y x i at) [ inl old ↦ inl old | inr last ↦ inr (ap suc last.0, last.1) ]

-- ---- rows of a book that grows

abbrev pub rows_of : List ConfigParts → ℕ → Rows
rows_of configs limit = record { configs = configs; limit = limit }

pub IsRow-within : (rows : Rows) (c : ConfigParts) (row : ℕ) → IsRow rows c row → row ≤ length rows.configs
IsRow-within rows c row at = omega (arith, slice_get_within rows.configs (row - 1) c at.1, at.0)

pub IsRow-one : (rows : Rows) (c d : ConfigParts) (row : ℕ) → IsRow rows c row → IsRow rows d row → c ≡ d
IsRow-one rows c d row a b = let same : Some c ≡ Some d = sym a.1 ∙ b.1 in cc

IsRow-grown : (configs : List ConfigParts) (limit : ℕ) (d c : ConfigParts) (row : ℕ) → IsRow (rows_of configs limit) c row → IsRow (rows_of (configs ++ d ∷ []) limit) c row
IsRow-grown configs limit d c row at = (at.0, slice_get-grown configs d c (row - 1) at.1)

IsRow-new : (configs : List ConfigParts) (limit : ℕ) (d : ConfigParts) → IsRow (rows_of (configs ++ d ∷ []) limit) d (suc (length configs))
IsRow-new configs limit d =
    let place : length configs ≡ suc (length configs) - 1 = omega arith in
    (omega arith, subst (λ i. slice_get (configs ++ d ∷ []) i ≡ Some d) place (slice_get-last configs d))

IsRow-cases : (configs : List ConfigParts) (limit : ℕ) (d c : ConfigParts) (row : ℕ) → IsRow (rows_of (configs ++ d ∷ []) limit) c row → IsRow (rows_of configs limit) c row ⊎ ((row ≡ suc (length configs)) × (d ≡ c))
IsRow-cases configs limit d c row at =
    elim (slice_get-cases configs d c (row - 1) at.1) [
      | inl old ↦ inl (at.0, old)
      | inr last ↦ let place : row ≡ suc (length configs) = omega (arith, at.0, last.0) in inr (place, last.1)
    ]

pub AreRows-added : (configs : List ConfigParts) (limit : ℕ) (d : ConfigParts) → AreRows (rows_of configs limit) → HasNoRow (rows_of configs limit) d → length configs < limit → AreRows (rows_of (configs ++ d ∷ []) limit)
AreRows-added configs limit d was none room = record {
  distinct = λ c i j a b. elim (IsRow-cases configs limit d c i a) [
    | inl old ↦ elim (IsRow-cases configs limit d c j b) [
      | inl also ↦ was.distinct c i j old also
      | inr last ↦ absurd (none i (subst (λ e. IsRow (rows_of configs limit) e i) (sym last.1) old))
    ]
    | inr new ↦ elim (IsRow-cases configs limit d c j b) [
      | inl old ↦ absurd (none j (subst (λ e. IsRow (rows_of configs limit) e j) (sym new.1) old))
      | inr last ↦ new.0 ∙ sym last.0
    ]
  ];
  limit = simp length-append (omega (arith, room));
  range = was.range;
}

-- ---- the latest rows of a book that grows

IsInBucket-grown : (configs : List ConfigParts) (limit : ℕ) (d : ConfigParts) (n l row : ℕ) → IsInBucket (rows_of configs limit) n l row → IsInBucket (rows_of (configs ++ d ∷ []) limit) n l row
IsInBucket-grown configs limit d n l row o = (o.0, IsRow-grown configs limit d o.0 row o.1, o.2)

-- below a row that was there before, nothing has changed
IsLatest-below : (configs : List ConfigParts) (limit : ℕ) (d : ConfigParts) (n l bound row : ℕ) → bound ≤ suc (length configs) → IsLatest (rows_of configs limit) n l bound row → IsLatest (rows_of (configs ++ d ∷ []) limit) n l bound row
IsLatest-below configs limit d n l bound row old was = record {
  below = was.below;
  member = λ some. IsInBucket-grown configs limit d n l row (was.member some);
  latest = λ other o lt. elim (IsRow-cases configs limit d o.0 other o.1) [
    | inl own ↦ was.latest other (o.0, own, o.2) lt
    | inr last ↦ absurd (omega (arith, last.0, lt, old))
  ];
}

-- in another bucket the latest row stays
IsLatest-other : (configs : List ConfigParts) (limit : ℕ) (d : ConfigParts) (n l row : ℕ) → l ≢ bucket_of n d → IsLatest (rows_of configs limit) n l (suc (length configs)) row → IsLatest (rows_of (configs ++ d ∷ []) limit) n l (suc (suc (length configs))) row
IsLatest-other configs limit d n l row apart was = record {
  below = omega (arith, was.below);
  member = λ some. IsInBucket-grown configs limit d n l row (was.member some);
  latest = λ other o lt. elim (IsRow-cases configs limit d o.0 other o.1) [
    | inl own ↦ was.latest other (o.0, own, o.2) (omega (arith, IsRow-within (rows_of configs limit) o.0 other own))
    | inr last ↦ absurd (apart (sym o.2 ∙ ap (bucket_of n) (sym last.1)))
  ];
}

-- in its own bucket the new row is the latest
IsLatest-new : (configs : List ConfigParts) (limit : ℕ) (d : ConfigParts) (n : ℕ) → IsLatest (rows_of (configs ++ d ∷ []) limit) n (bucket_of n d) (suc (suc (length configs))) (suc (length configs))
IsLatest-new configs limit d n = record {
  below = omega arith;
  member = λ some. (d, IsRow-new configs limit d, refl);
  latest = λ other o lt. omega (arith, lt);
}

-- ---- the index

abbrev latest_of : List ℕ → ℕ → List ConfigParts → ConfigParts → List ℕ
latest_of latest n configs d = set latest (bucket_of n d) (suc (length configs))

buckets-added : (configs : List ConfigParts) (limit : ℕ) (d : ConfigParts) (latest : List ℕ) (n l : ℕ) → n ≡ length latest → l < n → IsLatest (rows_of configs limit) n l (suc (length configs)) (slice_index latest l) → IsLatest (rows_of (configs ++ d ∷ []) limit) n l (suc (suc (length configs))) (slice_index (latest_of latest n configs d) l)
buckets-added configs limit d latest n l len inside was =
    let in_latest : bucket_of n d < length latest = omega arith in
    elim (eqb_tells l (bucket_of n d)) [
      | inl own ↦ rw (own.1, get_or-set_same latest (bucket_of n d) (suc (length configs)) 0 in_latest) (IsLatest-new configs limit d n)
      | inr other ↦ rw (get_or-set_other latest (bucket_of n d) l (suc (length configs)) 0 other.1) (IsLatest-other configs limit d n l (slice_index latest l) other.1 was)
    ]

chains-added : (configs : List ConfigParts) (limit : ℕ) (d : ConfigParts) (latest previous : List ℕ) (row : ℕ) (c : ConfigParts) → IsIndex (rows_of configs limit) latest previous → IsRow (rows_of (configs ++ d ∷ []) limit) c row → IsLatest (rows_of (configs ++ d ∷ []) limit) (length latest) (bucket_of (length latest) c) row (slice_index (previous ++ slice_index latest (bucket_of (length latest) d) ∷ []) (row - 1))
chains-added configs limit d latest previous row c was at =
    elim (IsRow-cases configs limit d c row at) [
      | inl old ↦
          let within = IsRow-within (rows_of configs limit) c row old in
          let links = was.links in
          let place : row - 1 < length previous = omega (arith, old.0) in
          rw (get_or_append_left previous (slice_index latest (bucket_of (length latest) d) ∷ []) 0 (row - 1) place) (IsLatest-below configs limit d (length latest) (bucket_of (length latest) c) row (slice_index previous (row - 1)) (omega arith) (was.chains row c old))
      | inr last ↦
          let links = was.links in
          let some = was.some in
          let place : row - 1 ≡ length previous = omega (arith, last.0) in
          rw (place, get_or-append_seam previous (slice_index latest (bucket_of (length latest) d)) [] 0, last.0, ← last.1) (IsLatest-below configs limit d (length latest) (bucket_of (length latest) d) (suc (length configs)) (slice_index latest (bucket_of (length latest) d)) (omega arith) (was.buckets (bucket_of (length latest) d) (omega arith)))
    ]

pub IsIndex-added : (configs : List ConfigParts) (limit : ℕ) (d : ConfigParts) (latest previous : List ℕ) → IsIndex (rows_of configs limit) latest previous → IsIndex (rows_of (configs ++ d ∷ []) limit) (set latest (bucket_of (length latest) d) (suc (length configs))) (previous ++ slice_index latest (bucket_of (length latest) d) ∷ [])
IsIndex-added configs limit d latest previous was =
    let len : length (set latest (bucket_of (length latest) d) (suc (length configs))) ≡ length latest = simp length-set in
    let more : length (configs ++ d ∷ []) ≡ suc (length configs) = simp length-append (omega arith) in
    record {
      some = rw len was.some;
      links = simp length-append (omega (arith, was.links));
      buckets = λ l. rw (len, more) (λ inside. buckets-added configs limit d latest (length latest) l refl inside (was.buckets l inside));
      chains = λ row c at. rw len (chains-added configs limit d latest previous row c was at);
    }

-- ---- a search

-- A search for the configuration has come to the row: its own row, if it has one, is that row or one before it
pub record IsAt (rows : Rows) (n : ℕ) (c : ConfigParts) (row : ℕ) : Type 0 where
  pub within : row ≤ length rows.configs
  pub member : 0 < row → IsInBucket rows n (bucket_of n c) row
  pub latest : (other : ℕ) → IsRow rows c other → other ≤ row

-- what stands at a row
IsRow-read : (configs : List ConfigParts) (limit : ℕ) (d : ConfigParts) (row : ℕ) → 0 < row → row ≤ length configs → d ≡ get_or configs (row - 1) d → IsRow (rows_of configs limit) d row
IsRow-read configs limit d row some within read = (some, slice_get_read configs (length configs) (row - 1) d refl (omega (arith, some, within)) read)

pub IsAt-first : (configs : List ConfigParts) (limit : ℕ) (latest previous : List ℕ) (c : ConfigParts) (row : ℕ) → IsIndex (rows_of configs limit) latest previous → row ≡ get_or latest (bucket_of (length latest) c) row → IsAt (rows_of configs limit) (length latest) c row
IsAt-first configs limit latest previous c row index read =
    let some = index.some in
    let inside : bucket_of (length latest) c < length latest = omega arith in
    let value = get_or_read latest (bucket_of (length latest) c) row inside read 0 in
    let first = subst (IsLatest (rows_of configs limit) (length latest) (bucket_of (length latest) c) (suc (length configs))) (sym value) (index.buckets (bucket_of (length latest) c) inside) in
    record {
      within = omega (arith, first.below);
      member = first.member;
      latest = λ other own. first.latest other (c, own, refl) (omega (arith, IsRow-within (rows_of configs limit) c other own));
    }

pub IsAt-found : (configs : List ConfigParts) (limit n : ℕ) (c d : ConfigParts) (row : ℕ) → IsAt (rows_of configs limit) n c row → 0 < row → d ≡ get_or configs (row - 1) d → d ≡ c → IsRow (rows_of configs limit) c row
IsAt-found configs limit n c d row here some read same =
    subst (λ e. IsRow (rows_of configs limit) e row) same (IsRow-read configs limit d row some here.within read)

pub IsAt-next : (configs : List ConfigParts) (limit : ℕ) (latest previous : List ℕ) (c d : ConfigParts) (row next : ℕ) → IsIndex (rows_of configs limit) latest previous → IsAt (rows_of configs limit) (length latest) c row → 0 < row → d ≡ get_or configs (row - 1) d → (d ≡ c → ⊥) → next ≡ get_or previous (row - 1) next → (next < row) × IsAt (rows_of configs limit) (length latest) c next
IsAt-next configs limit latest previous c d row next index here some read differs link =
    let at = IsRow-read configs limit d row some here.within read in
    let o = here.member some in
    let in_bucket : bucket_of (length latest) d ≡ bucket_of (length latest) c = ap (bucket_of (length latest)) (IsRow-one (rows_of configs limit) d o.0 row at o.1) ∙ o.2 in
    let value = get_or_read previous (row - 1) next (omega (arith, some, here.within, index.links)) link 0 in
    let start = subst (λ l. IsLatest (rows_of configs limit) (length latest) l row (slice_index previous (row - 1))) in_bucket (index.chains row d at) in
    let chain = subst (IsLatest (rows_of configs limit) (length latest) (bucket_of (length latest) c) row) (sym value) start in (
      chain.below,
      record {
        within = omega (arith, chain.below, here.within);
        member = chain.member;
        latest = λ other own.
            let apart : other ≢ row = λ e. differs (IsRow-one (rows_of configs limit) d c row at (subst (IsRow (rows_of configs limit) c) e own)) in
            chain.latest other (c, own, refl) (omega (arith, apart, here.latest other own));
      },
    )

pub IsAt-end : (rows : Rows) (n : ℕ) (c : ConfigParts) → IsAt rows n c 0 → HasNoRow rows c
IsAt-end rows n c here = λ row own. omega (arith, here.latest row own, own.0)
