-- The tables of keys with one key more.
use Rattle.std.proofs.Common.{◌≡◌, ℕ, ◌<◌, ◌^◌, Bool, true, false, cond, ◌||◌, ◌&&◌, not, List, [], ◌∷◌, ◌++◌, Option, Some, None, Ordering, refl, ap, sym, subst, ◌∙◌, arith, eqb, bytes_eq, is_eq, nat_cmp}
use Rattle.std.specs.Cmp.Lexicographic.{slice_cmp}
use Rattle.std.specs.List.{list_any}
use Rattle.std.specs.BTreeMap as tree
use Rattle.std.specs.BTreeSet as set
use Rattle.std.proofs.lemmas.Bool.{eqb-true}
use Rattle.std.proofs.lemmas.List.Folds.{list_any-append}
use Rattle.std.proofs.lemmas.Map.Text.{is_eq-slice_cmp}
use Rattle.std.proofs.lemmas.Slice.Eq.{bytes_eq-Decides}
use Rattle.refl_types.specs.declared.types.Mode.{Mode}
use Rattle.refl_types.specs.declared.types.Mode.TheVariants.{Plain}
use Rattle.refl_types.specs.declared.types.Key.{Key}
use Rattle.refl_types.specs.declared.types.Endpoint.{Endpoint}
use Rattle.refl_types.specs.Same.{same_endpoint, same_mode, same_key}
use Rattle.refl_types.specs.Spelling.{FitsKey, FitsSession}
use Rattle.refl_types.proofs.SameFacts.{both_true, eqb-same, endpoint_same, same_endpoint-refl, mode_same}
use Rattle.session_key.specs.Words.{key_words}
use Rattle.session_key.specs.Matching.{excludes}
use Rattle.session_key.proofs.WordLaws.{key_words_one}
use Rattle.conf_text.specs.declared.sessions.Provided.{Provided}
use Rattle.conf_text.specs.declared.taken.Taken.{Taken}
use Rattle.conf_text.specs.Taken.{no_extra, plain_words, ends_words, is_other, is_taken, TakenBy}

-- ---- tests of words

same_by : (a b : Bool) → (a ≡ true → b ≡ true) → (b ≡ true → a ≡ true) → a ≡ b
same_by true b f g = sym (f refl)
same_by false true f g = g refl
same_by false false f g = refl

-- the two keys have the same ends
abbrev same_ends : Key → Key → Bool
same_ends j k = eqb j.local k.local && same_endpoint j.peer k.peer

abbrev with_ssid : ℕ → Endpoint → ℕ → Key
with_ssid local peer ssid = record { local = local; peer = peer; mode = Plain; ssid = ssid }

plain_fits : (k : Key) → FitsKey k → FitsSession (with_ssid k.local k.peer k.ssid) no_extra
plain_fits k fits = record { key = record { local = fits.local; peer = fits.peer; ssid = fits.ssid }; reflect = omega arith; sound = refl }

ends_fit : (k : Key) → FitsKey k → FitsSession (with_ssid k.local k.peer 0) no_extra
ends_fit k fits = record { key = record { local = fits.local; peer = fits.peer; ssid = omega arith }; reflect = omega arith; sound = refl }

abbrev equal_words : List ℕ → List ℕ → Bool
equal_words a b = is_eq (slice_cmp nat_cmp a b)

equal-is : (a b : List ℕ) → equal_words a b ≡ true → a ≡ b
equal-is a b e = (bytes_eq-Decides a b).0 (sym (is_eq-slice_cmp a b) ∙ e)

is-equal : (a b : List ℕ) → a ≡ b → equal_words a b ≡ true
is-equal a b e = is_eq-slice_cmp a b ∙ (bytes_eq-Decides a b).1 e

ends-same : (j k : Key) → FitsKey j → FitsKey k → equal_words (ends_words k) (ends_words j) ≡ same_ends j k
ends-same j k j-fits k-fits = same_by _ _ there back
  where
    there : equal_words (ends_words k) (ends_words j) ≡ true → same_ends j k ≡ true
    there e =
        let keys : with_ssid k.local k.peer 0 ≡ with_ssid j.local j.peer 0 = (key_words_one _ _ no_extra no_extra (ends_fit k k-fits) (ends_fit j j-fits) (equal-is _ _ e)).0 in
        let locals : k.local ≡ j.local = ap (λ (x : Key). x.local) keys in
        let peers : k.peer ≡ j.peer = ap (λ (x : Key). x.peer) keys in
        rw (locals, peers, eqb-same j.local, same_endpoint-refl j.peer) refl

    back : same_ends j k ≡ true → equal_words (ends_words k) (ends_words j) ≡ true
    back e =
        let (locals, peers) = both_true (eqb j.local k.local) (same_endpoint j.peer k.peer) e in
        let local : j.local ≡ k.local = eqb-true j.local k.local locals in
        let peer : j.peer ≡ k.peer = endpoint_same j.peer k.peer peers in
        is-equal _ _ (ap (λ (l : ℕ). key_words (with_ssid l k.peer 0) no_extra) (sym local) ∙ ap (λ (p : Endpoint). key_words (with_ssid j.local p 0) no_extra) (sym peer))

plain-same : (j k : Key) → FitsKey j → FitsKey k → equal_words (plain_words k) (plain_words j) ≡ (same_ends j k && eqb j.ssid k.ssid)
plain-same j k j-fits k-fits = same_by _ _ there back
  where
    there : equal_words (plain_words k) (plain_words j) ≡ true → (same_ends j k && eqb j.ssid k.ssid) ≡ true
    there e =
        let keys : with_ssid k.local k.peer k.ssid ≡ with_ssid j.local j.peer j.ssid = (key_words_one _ _ no_extra no_extra (plain_fits k k-fits) (plain_fits j j-fits) (equal-is _ _ e)).0 in
        let locals : k.local ≡ j.local = ap (λ (x : Key). x.local) keys in
        let peers : k.peer ≡ j.peer = ap (λ (x : Key). x.peer) keys in
        let ssids : k.ssid ≡ j.ssid = ap (λ (x : Key). x.ssid) keys in
        rw (locals, peers, ssids, eqb-same j.local, same_endpoint-refl j.peer, eqb-same j.ssid) refl

    back : (same_ends j k && eqb j.ssid k.ssid) ≡ true → equal_words (plain_words k) (plain_words j) ≡ true
    back e =
        let (ends, ssids) = both_true (same_ends j k) (eqb j.ssid k.ssid) e in
        let (locals, peers) = both_true (eqb j.local k.local) (same_endpoint j.peer k.peer) ends in
        let local : j.local ≡ k.local = eqb-true j.local k.local locals in
        let peer : j.peer ≡ k.peer = endpoint_same j.peer k.peer peers in
        let ssid : j.ssid ≡ k.ssid = eqb-true j.ssid k.ssid ssids in
        is-equal _ _ (ap (λ (l : ℕ). key_words (with_ssid l k.peer k.ssid) no_extra) (sym local) ∙ ap (λ (p : Endpoint). key_words (with_ssid j.local p k.ssid) no_extra) (sym peer) ∙ ap (λ (s : ℕ). key_words (with_ssid j.local j.peer s) no_extra) (sym ssid))

-- ---- one key more

-- a is that the ends are the same, b that the SSIDs are, m that the modes are; c and o are what the tables said before
one_more : (a b m c o : Bool) → (a ≡ true → m ≡ true → o ≡ false) → (cond (a && b) true c || cond a (not m) o) ≡ ((c || o) || (((a && m) && b) || (a && not m)))
one_more false b m true o none = refl
one_more false b m false true none = refl
one_more false b m false false none = refl
one_more true true m true o none = refl
one_more true true true false true none = refl
one_more true true true false false none = refl
one_more true true false false true none = refl
one_more true true false false false none = refl
one_more true false m true o none = refl
one_more true false true false o none = rw (none refl refl) refl
one_more true false false false true none = refl
one_more true false false false false none = refl

other-cond : (e : Bool) (m n : Mode) (g : Option Mode) → is_other m (cond e (Some n) g) ≡ cond e (not (same_mode m n)) (is_other m g)
other-cond true m n g = refl
other-cond false m n g = refl

or_false : (a b : Bool) → (a || b) ≡ false → b ≡ false
or_false true b e = absurd cc
or_false false b e = e

-- what the tables say after a key was added
pub record Adds (old new : Taken) (j : Key) : Type 0 where
  pub keys : (q : List ℕ) → set.contains (slice_cmp nat_cmp) new.keys q ≡ cond (equal_words (plain_words j) q) true (set.contains (slice_cmp nat_cmp) old.keys q)
  pub modes : (q : List ℕ) → tree.get (slice_cmp nat_cmp) new.modes q ≡ cond (equal_words (ends_words j) q) (Some j.mode) (tree.get (slice_cmp nat_cmp) old.modes q)

abbrev modes_before : Taken → Key → Option Mode
modes_before old k = tree.get (slice_cmp nat_cmp) old.modes (ends_words k)

-- between the same ends and in the same mode the tables told of no other mode
none_before : (old : Taken) (j k : Key) → FitsKey j → FitsKey k → is_taken old j ≡ false → same_ends k j ≡ true → same_mode k.mode j.mode ≡ true → is_other k.mode (modes_before old k) ≡ false
unfolding is_taken
none_before old j k j-fits k-fits apart ends modes =
    let words : ends_words j ≡ ends_words k = equal-is _ _ (ends-same k j k-fits j-fits ∙ ends) in
    let mode : k.mode ≡ j.mode = mode_same k.mode j.mode modes in
    let told : is_other j.mode (modes_before old j) ≡ false = or_false _ _ apart in
    ap (λ (m : Mode). is_other m (modes_before old k)) mode ∙ ap (λ (w : List ℕ). is_other j.mode (tree.get (slice_cmp nat_cmp) old.modes w)) (sym words) ∙ told

taken_more : (old new : Taken) (j k : Key) → Adds old new j → FitsKey j → FitsKey k → is_taken old j ≡ false → is_taken new k ≡ (is_taken old k || excludes k j)
unfolding is_taken excludes same_key
taken_more old new j k adds j-fits k-fits apart =
    let plain : equal_words (plain_words j) (plain_words k) ≡ (same_ends k j && eqb k.ssid j.ssid) = plain-same k j k-fits j-fits in
    let ends : equal_words (ends_words j) (ends_words k) ≡ same_ends k j = ends-same k j k-fits j-fits in
    let keys-told : set.contains (slice_cmp nat_cmp) new.keys (plain_words k) ≡ cond (same_ends k j && eqb k.ssid j.ssid) true (set.contains (slice_cmp nat_cmp) old.keys (plain_words k)) =
    adds.keys (plain_words k) ∙ ap (λ (t : Bool). cond t true (set.contains (slice_cmp nat_cmp) old.keys (plain_words k))) plain in
    let modes-told : is_other k.mode (tree.get (slice_cmp nat_cmp) new.modes (ends_words k)) ≡ cond (same_ends k j) (not (same_mode k.mode j.mode)) (is_other k.mode (modes_before old k)) =
    ap (is_other k.mode) (adds.modes (ends_words k)) ∙ other-cond (equal_words (ends_words j) (ends_words k)) k.mode j.mode (modes_before old k)
    ∙ ap (λ (t : Bool). cond t (not (same_mode k.mode j.mode)) (is_other k.mode (modes_before old k))) ends in
    ap (λ (t : Bool). t || is_other k.mode (tree.get (slice_cmp nat_cmp) new.modes (ends_words k))) keys-told
    ∙ ap (λ (t : Bool). cond (same_ends k j && eqb k.ssid j.ssid) true (set.contains (slice_cmp nat_cmp) old.keys (plain_words k)) || t) modes-told
    ∙ one_more (same_ends k j) (eqb k.ssid j.ssid) (same_mode k.mode j.mode) (set.contains (slice_cmp nat_cmp) old.keys (plain_words k)) (is_other k.mode (modes_before old k)) (none_before old j k j-fits k-fits apart)

or-none : (a : Bool) → (a || false) ≡ a
or-none true = refl
or-none false = refl

pub added : (old new : Taken) (j : Key) (sessions : List Provided) (s : Provided) → Adds old new j → FitsKey j → s.key ≡ j → TakenBy old sessions → list_any (λ e. excludes j e.key) sessions ≡ false → TakenBy new (sessions ++ s ∷ [])
unfolding TakenBy
added old new j sessions s adds j-fits same by apart k k-fits =
    taken_more old new j k adds j-fits k-fits (by j j-fits ∙ apart)
    ∙ ap (λ (t : Bool). t || excludes k j) (by k k-fits)
    ∙ sym (list_any-append (λ e. excludes k e.key) sessions (s ∷ []) ∙ ap (λ (t : Bool). list_any (λ e. excludes k e.key) sessions || t) (or-none (excludes k s.key) ∙ ap (excludes k) same))

pub taken_is : (t : Taken) (k : Key) (sessions : List Provided) → TakenBy t sessions → FitsKey k → is_taken t k ≡ list_any (λ s. excludes k s.key) sessions
unfolding TakenBy
taken_is t k sessions by fits = by k fits

pub none_taken : (t : Taken) → t.modes.entries ≡ [] → t.keys.keys ≡ [] → TakenBy t []
unfolding TakenBy is_taken
none_taken t no-modes no-keys k fits = rw (no-modes, no-keys) refl
