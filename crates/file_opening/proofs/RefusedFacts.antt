-- Nothing stands against the next session of the file, and no slot is wanting.
use Rattle.std.proofs.Common.{◌≡◌, ◌⊎◌, ⊎_elim, ℕ, ◌+◌, ◌<◌, ◌≤◌, Bool, true, false, ◌&&◌, not, if◌then◌else◌, List, [], ◌∷◌, length, map, take, get_or, Some, None, Ok, Err, sym, refl, ap, ◌∙◌, arith, length-take-le, get_or-take}
use Rattle.std.specs.List.{list_any, find, count_by, range_with_len}
use Rattle.std.proofs.lemmas.List.{get_or-map, length-map}
use Rattle.std.proofs.lemmas.List.Folds.{list_any_none, list_any_at}
use Rattle.std.proofs.lemmas.List.Sums.{sum_by-cons}
use Rattle.std.proofs.lemmas.Bool.Decides.{nat_tests}
use Rattle.refl_types.specs.declared.types.Mode.{Mode}
use Rattle.refl_types.specs.declared.types.Mode.TheVariants.{Plain, Auth, Twamp}
use Rattle.refl_types.specs.declared.types.Key.{Key}
use Rattle.refl_types.specs.Same.{same_config}
use Rattle.session_key.specs.Matching.{excludes}
use Rattle.session_world.specs.Keys.{is_auth, has_key}
use Rattle.session_world.specs.Desk.{generation_of}
use Rattle.session_rule.specs.declared.seats.Table.{Table}
use Rattle.refl_types.specs.declared.outcome.Place.{Place}
use Rattle.session_desk.specs.declared.session.NoSuch.{NoSuch}
use Rattle.session_desk.specs.declared.session.ReserveFault.{ReserveFault}
use Rattle.session_desk.specs.declared.session.ReserveFault.TheVariants.{Duplicate, ModeClash, NoKey, RowsFull, Full}
use Rattle.session_desk.specs.Sessions.{has_mode_clash, is_at}
use Rattle.session_desk.specs.Book.{Book, steps_of}
use Rattle.session_desk.specs.Calls.{has_session, IsAloneIn}
use Rattle.session_desk.specs.Refusals.{is_retired, is_held_in, IsFull}
use Rattle.session_desk.specs.Makes.{Makes, reserves, starts}
use Rattle.session_desk.proofs.BoolFacts.{bool, true_ne_false, is_false, or_r, no_or}
use Rattle.session_desk.proofs.KeyFacts.{excludes_self, excludes_turn}
use Rattle.session_desk.proofs.Serving.{place_reserved}
use Rattle.conf_text.specs.declared.sessions.Provided.{Provided}
use Rattle.conf_text.specs.File.{File}
use Rattle.conf_text.specs.Rows.{distinct, in_use}
use Rattle.conf_text.specs.Sessions.{lacks_key}
use Rattle.conf_text.specs.Sound.{AreApart}
use Rattle.file_opening.specs.OpenedFirst.{HasOpenedFirst}
use Rattle.file_opening.proofs.RoomFacts.{has_room}
use Rattle.file_opening.proofs.NextFacts.{as_long}
use Rattle.file_opening.specs.Opened.{IsOpened}

-- ---- keys

excludes_clash : (j k : Key) → has_mode_clash j k ≡ true → excludes j k ≡ true
unfolding excludes has_mode_clash
excludes_clash j k e = or_r _ _ e

find_none : (p q : Key → Bool) (ks : List Key) (j : Key) → ((k : Key) → p k ≡ true → q k ≡ true) → list_any q ks ≡ false → find p ks ≡ Some j → ⊥
find_none p q [] j stronger none found = absurd cc
find_none p q (k ∷ ks) j stronger none found = let o = no_or (q k) (list_any q ks) none in ⊎_elim
    (λ (e : p k ≡ true). true_ne_false (sym (stronger k e) ∙ o.0))
    (λ (e : p k ≡ false). find_none p q ks j stronger o.1 (sym (rw e refl) ∙ found))
    (bool (p k))

alone : (f : File) (n : ℕ) (b : Book) (s : Provided) → n < length f.sessions → s ≡ get_or f.sessions n s → AreApart f.sessions → b.keys ≡ map (λ x. x.key) (take n f.sessions) → IsAloneIn b s.key
alone f n b s inside is apart keys = ap (list_any (λ j. excludes j s.key)) keys
    ∙ list_any_none (λ j. excludes j s.key) (map (λ (x : Provided). x.key) (take n f.sessions)) (λ i d below.
    let count : length (take n f.sessions) ≡ n = length-take-le n f.sessions (omega (arith, inside)) in
    let i_below : i < n = let l = length-map (take n f.sessions) (λ (x : Provided). x.key) in omega (arith, below, l, count) in
    let e : get_or (map (λ (x : Provided). x.key) (take n f.sessions)) i d ≡ (get_or f.sessions i s).key
    = get_or-map (λ (x : Provided). x.key) (take n f.sessions) i s d (omega (arith, i_below, count)) ∙ ap (λ (x : Provided). x.key) (get_or-take n f.sessions i s i_below) in
    ap (λ (j : Key). excludes j s.key) e ∙ is_false _ (λ (x : excludes (get_or f.sessions i s).key s.key ≡ true).
    true_ne_false (sym (excludes_turn (get_or f.sessions i s).key s.key x) ∙ ap (λ (y : Provided). excludes y.key (get_or f.sessions i s).key) is ∙ apart i n s i_below inside)))

-- ---- HMAC keys

keyed : (s : Provided) → lacks_key s ≡ false → is_auth s.key ≡ true → has_key s.config ≡ false → ⊥
keyed s has auth none = mode s.key.mode auth has
  where
    mode : (m : Mode) → is_auth (record s.key { mode = m }) ≡ true → lacks_key (record s { key = record s.key { mode = m } }) ≡ false → ⊥
    mode Plain a h = absurd cc
    mode Twamp a h = absurd cc
    mode Auth a h = of s.config.key none h
      where
        of : (o : _) → has_key (record s.config { key = o }) ≡ false → lacks_key (record s { key = record s.key { mode = Auth }; config = record s.config { key = o } }) ≡ false → ⊥
        of None a h = absurd cc
        of (Some k) a h = absurd cc

-- ---- slots

none_pass : (p : ℕ → Bool) (xs : List ℕ) → ((i : ℕ) → p i ≡ false) → count_by p xs ≡ 0
none_pass p [] fails = refl
none_pass p (x ∷ xs) fails = let h = none_pass p xs fails in sum_by-cons (λ (i : ℕ). if p i then 1 else 0) x xs ∙ ap (λ (b : Bool). (if b then 1 else 0) + count_by p xs) (fails x) ∙ omega (arith, h)

not_retired : (b : Book) (i : ℕ) → (generation_of (steps_of b) i ≡ 0) ⊎ (has_session b i ≡ true) → is_retired b i ≡ false
not_retired b i taken = ⊎_elim
    (λ (e : generation_of (steps_of b) i ≡ 0). rw e (and_no (not (has_session b i))))
    (λ (e : has_session b i ≡ true). rw e refl)
    taken
  where
    and_no : (x : Bool) → (x && false) ≡ false
    and_no true = refl
    and_no false = refl

not_held : (b : Book) (words : List ℕ) (i : ℕ) → (generation_of (steps_of b) i ≡ 0) ⊎ (has_session b i ≡ true) → is_held_in b words i ≡ false
not_held b words i taken = ⊎_elim
    (λ (e : generation_of (steps_of b) i ≡ 0). grind (arith, nat_tests, e))
    (λ (e : has_session b i ≡ true). rw e refl)
    taken

-- all slots have sessions, and there are fewer sessions than slots
not_full : (t : Table) (f : File) (moment n : ℕ) (b d : Book) (live reserved retired held : ℕ) → HasOpenedFirst t f moment n b → n < length f.sessions → length f.sessions ≤ f.slots → IsFull t b live reserved retired held d → ⊥
not_full t f moment n b d live reserved retired held first inside few full =
    let count : length b.live ≡ n = as_long (IsOpened b.rows moment) (take n f.sessions) b.live first.live ∙ length-take-le n f.sessions (omega (arith, inside)) in
    let none : length b.reserved ≡ 0 = ap (λ (xs : List _). length xs) first.reserved in
    let no_retired : retired ≡ 0 = full.retired_number ∙ none_pass (is_retired b) (range_with_len 0 b.size.slots) (λ i. not_retired b i (first.taken i)) in
    let no_held : held ≡ 0 = full.held_number ∙ none_pass (is_held_in b full.words) (range_with_len 0 b.size.slots) (λ i. not_held b full.words i (first.taken i)) in
    let l = full.live_number in let r = full.reserved_number in let all = full.all in let slots = first.slots in
    omega (arith, count, none, no_retired, no_held, l, r, all, slots, inside, few)

-- ---- the session is reserved

pub not_refused : (t : Table) (f : File) (moment n : ℕ) (b d : Book) (s : Provided) (fault : ReserveFault) → HasOpenedFirst t f moment n b → n < length f.sessions → s ≡ get_or f.sessions n s
    → length f.sessions ≤ f.slots → AreApart f.sessions → lacks_key s ≡ false → list_any (same_config s.config) (in_use f.twamp f.sessions) ≡ true → length (distinct (in_use f.twamp f.sessions)) ≤ f.rows
    → Makes t (reserves s.key s.extra s.config s.wait (Err fault)) b d → ⊥
not_refused t f moment n b d s (Duplicate j) first inside is few apart has_its_key used fits m =
    let c = m.0.1 in true_ne_false (sym (list_any_at (λ i. excludes i s.key) b.keys c.0 s.key c.1 (ap (λ (i : Key). excludes i s.key) c.2 ∙ excludes_self s.key)) ∙ alone f n b s inside is apart first.keys)
not_refused t f moment n b d s (ModeClash j) first inside is few apart has_its_key used fits m =
    find_none (λ i. has_mode_clash i s.key) (λ i. excludes i s.key) b.keys j (λ k. excludes_clash k s.key) (alone f n b s inside is apart first.keys) m.0.1
not_refused t f moment n b d s NoKey first inside is few apart has_its_key used fits m = let u = m.0.1 in keyed s has_its_key u.0 u.1
not_refused t f moment n b d s RowsFull first inside is few apart has_its_key used fits m =
    has_room b.rows s.config (in_use f.twamp f.sessions) first.once first.used used (let l = first.row_limit in omega (arith, fits, l)) m.0.2
not_refused t f moment n b d s (Full live reserved retired held) first inside is few apart has_its_key used fits m = not_full t f moment n b d live reserved retired held first inside few m.1

-- what was reserved is started
pub not_unstarted : (t : Table) (b r d : Book) (s : Provided) (p : Place) (now : ℕ) (fault : NoSuch) → Makes t (reserves s.key s.extra s.config s.wait (Ok p)) b r → Makes t (starts p now (Err fault)) r d → ⊥
not_unstarted t b r d s p now fault m none = true_ne_false (sym (place_reserved p s.key s.extra m.row s.wait b.reserved) ∙ ap (list_any (is_at p)) (sym m.reserved) ∙ none.0)
