-- What a match tells, and which keys exclude each other.
use Rattle.std.proofs.Common.{◌≡◌, ℕ, Bool, true, false, ◌&&◌, ◌||◌, not, Option, Some, None, refl, sym, ap, ◌∙◌, eqb, ◌⊎◌, inl, inr}
use Rattle.std.proofs.lemmas.Bool.{eqb-true}
use Rattle.refl_types.specs.declared.types.Endpoint.{Endpoint}
use Rattle.refl_types.specs.declared.types.Mode.{Mode}
use Rattle.refl_types.specs.declared.types.Mode.TheVariants.{Plain, Auth, Twamp}
use Rattle.refl_types.specs.declared.types.Key.{Key}
use Rattle.refl_types.specs.declared.types.Extra.{Extra}
use Rattle.refl_types.specs.Keys.{is_sound, is_sound_in}
use Rattle.refl_types.specs.Same.{same_endpoint, same_mode, same_key}
use Rattle.refl_types.proofs.SameFacts.{both_true, eqb-same, endpoint_same, same_endpoint-refl, mode_same, same_mode-refl, key_same, same_key-refl}
use Rattle.session_key.specs.declared.matching.Query.{Query}
use Rattle.session_key.specs.Matching.{matches, agrees, is_told, excludes}

pub record Matched (q : Query) (k : Key) : Type 0 where
  pub local : q.local ≡ k.local
  pub peer : q.peer ≡ k.peer
  pub agrees : agrees k.mode q k.ssid ≡ true

pub matched : (q : Query) (k : Key) → matches q k ≡ true → Matched q k
unfolding matches
matched q k e =
    let p = both_true (eqb q.local k.local && same_endpoint q.peer k.peer) (agrees k.mode q k.ssid) e in
    let r = both_true (eqb q.local k.local) (same_endpoint q.peer k.peer) p.0 in
    record { local = eqb-true q.local k.local r.0; peer = endpoint_same q.peer k.peer r.1; agrees = p.1 }

told_one : (o : Option ℕ) (m n : ℕ) → is_told o m ≡ true → is_told o n ≡ true → m ≡ n
told_one None m n e f = absurd cc
told_one (Some p) m n e f = sym (eqb-true p m e) ∙ eqb-true p n f

-- one query, one mode, one SSID
agrees_one : (mode : Mode) (q : Query) (m n : ℕ) (x y : Extra) → agrees mode q m ≡ true → agrees mode q n ≡ true → is_sound_in mode m x ≡ true → is_sound_in mode n y ≡ true → m ≡ n
agrees_one Plain q m n x y e f s t = told_one q.plain m n e f
agrees_one Auth q m n x y e f s t = told_one q.auth m n e f
agrees_one Twamp q m n x y e f s t = eqb-true m 0 s ∙ sym (eqb-true n 0 t)

or_not : (a b : Bool) → (b ≡ true → a ≡ true) → (a || not b) ≡ true
or_not true b h = refl
or_not false true h = absurd (let e = h refl in cc)
or_not false false h = refl

key_of_parts : (j k : Key) → j.local ≡ k.local → j.peer ≡ k.peer → j.mode ≡ k.mode → j.ssid ≡ k.ssid → j ≡ k
key_of_parts j k a b c d =
    ap (λ (n : ℕ). let x : Key = record { local = n; peer = j.peer; mode = j.mode; ssid = j.ssid } in x) a
    ∙ ap (λ (n : Endpoint). let x : Key = record { local = k.local; peer = n; mode = j.mode; ssid = j.ssid } in x) b
    ∙ ap (λ (n : Mode). let x : Key = record { local = k.local; peer = k.peer; mode = n; ssid = j.ssid } in x) c
    ∙ ap (λ (n : ℕ). let x : Key = record { local = k.local; peer = k.peer; mode = k.mode; ssid = n } in x) d

equal_ends : (a c : ℕ) (b d : Endpoint) → a ≡ c → b ≡ d → (eqb a c && same_endpoint b d) ≡ true
equal_ends a c b d e f = ap (λ (n : ℕ). eqb a n && same_endpoint b d) (sym e) ∙ (ap (λ (n : Endpoint). eqb a a && same_endpoint b n) (sym f) ∙ rw (eqb-same a, same_endpoint-refl b) refl)

-- keys of one pair of ends exclude each other, unless they are of one mode and have two SSIDs
pub excludes_ends : (j k : Key) → j.local ≡ k.local → j.peer ≡ k.peer → (j.mode ≡ k.mode → j.ssid ≡ k.ssid) → excludes j k ≡ true
unfolding excludes
excludes_ends j k a b h =
    let one : same_mode j.mode k.mode ≡ true → same_key j k ≡ true = λ m.
    let mode = mode_same j.mode k.mode m in
    ap (λ (x : Key). same_key j x) (sym (key_of_parts j k a b mode (h mode))) ∙ same_key-refl j in
    rw (equal_ends j.local k.local j.peer k.peer a b) (or_not (same_key j k) (same_mode j.mode k.mode) one)

-- two sound keys that one query matches exclude each other
pub matched_excludes : (q : Query) (j k : Key) (x y : Extra) → matches q j ≡ true → matches q k ≡ true → is_sound j x ≡ true → is_sound k y ≡ true → excludes j k ≡ true
matched_excludes q j k x y e f s t =
    let m = matched q j e in
    let n = matched q k f in
    excludes_ends j k (sym m.local ∙ n.local) (sym m.peer ∙ n.peer)
    (λ mode. agrees_one k.mode q j.ssid k.ssid x y
    (ap (λ (o : Mode). agrees o q j.ssid) (sym mode) ∙ m.agrees)
    n.agrees
    (ap (λ (o : Mode). is_sound_in o j.ssid x) (sym mode) ∙ s)
    t)

pub excludes-refl : (k : Key) → excludes k k ≡ true
excludes-refl k = excludes_ends k k refl refl (λ m. refl)

or_true : (a b : Bool) → (a || b) ≡ true → (a ≡ true) ⊎ (b ≡ true)
or_true true b e = inl refl
or_true false b e = inr e

not_true : (a : Bool) → not a ≡ true → a ≡ true → ⊥
not_true true e f = absurd cc
not_true false e f = absurd cc

-- what excludes a key has its ends, and is that key or of another mode
pub record Excluded (j k : Key) : Type 0 where
  pub local : j.local ≡ k.local
  pub peer : j.peer ≡ k.peer
  pub modes : (j ≡ k) ⊎ (¬ (j.mode ≡ k.mode))

pub excluded : (j k : Key) → excludes j k ≡ true → Excluded j k
unfolding excludes
excluded j k e =
    elim (or_true (same_key j k) (eqb j.local k.local && same_endpoint j.peer k.peer && not (same_mode j.mode k.mode)) e) [
      | inl one ↦
          let s = key_same j k one in
          record { local = ap (λ (x : Key). x.local) s; peer = ap (λ (x : Key). x.peer) s; modes = inl s }
      | inr two ↦
          let p = both_true (eqb j.local k.local && same_endpoint j.peer k.peer) (not (same_mode j.mode k.mode)) two in
          let r = both_true (eqb j.local k.local) (same_endpoint j.peer k.peer) p.0 in
          record {
            local = eqb-true j.local k.local r.0;
            peer = endpoint_same j.peer k.peer r.1;
            modes = inr (λ m. not_true (same_mode j.mode k.mode) p.1 (ap (λ (o : Mode). same_mode j.mode o) (sym m) ∙ same_mode-refl j.mode));
          }
    ]

iff_equal : (a b : Bool) → (a ≡ true → b ≡ true) → (b ≡ true → a ≡ true) → a ≡ b
iff_equal true b f g = sym (f refl)
iff_equal false true f g = g refl
iff_equal false false f g = refl

turned : (j k : Key) → excludes j k ≡ true → excludes k j ≡ true
turned j k e =
    let x = excluded j k e in
    excludes_ends k j (sym x.local) (sym x.peer) (λ m.
    elim x.modes [
      | inl s ↦ sym (ap (λ (o : Key). o.ssid) s)
      | inr d ↦ absurd (d (sym m))
    ])

pub excludes-sym : (j k : Key) → excludes j k ≡ excludes k j
excludes-sym j k = iff_equal (excludes j k) (excludes k j) (turned j k) (turned k j)
