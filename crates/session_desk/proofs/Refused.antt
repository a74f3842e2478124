-- Why a reserve is refused, and why not.
use Rattle.std.proofs.Common.{◌≡◌, ⊎_elim, ℕ, ◌<◌, ◌==◌, Bool, true, false, ◌&&◌, not, List, [], ◌∷◌, length, map, sym, refl, ap, ◌∙◌, subst, Some, None}
use Rattle.std.specs.List.{list_any, find, Contains}
use Rattle.refl_types.specs.declared.types.Key.{Key}
use Rattle.refl_types.specs.declared.config.ConfigParts.{ConfigParts}
use Rattle.refl_types.specs.Same.{same_key, same_endpoint, same_mode}
use Rattle.session_key.specs.Matching.{excludes}
use Rattle.config_rows.specs.Rows.{Rows}
use Rattle.session_world.specs.declared.steps.TableSize.{TableSize}
use Rattle.session_world.specs.declared.steps.Step.{Step}
use Rattle.session_desk.proofs.BoolFacts.{bool, either_of, is_false, true_ne_false}
use Rattle.session_desk.proofs.KeyFacts.{same_key_eq}
use Rattle.session_rule.specs.declared.seats.Seat.{Seat}
use Rattle.session_rule.specs.Seats.{desk_steps}
use Rattle.session_desk.specs.declared.session.Slot.{Slot}
use Rattle.session_desk.specs.declared.session.ReserveFault.{ReserveFault}
use Rattle.session_desk.specs.declared.session.ReserveFault.TheVariants.{Duplicate, ModeClash, NoKey, RowsFull, Full}
use Rattle.session_desk.specs.Sessions.{has_mode_clash}
use Rattle.session_desk.specs.Book.{Book}
use Rattle.session_desk.specs.Slots.{is_taken, key_in, taken_in, IsAlone, Reaches, may_take}
use Rattle.session_desk.specs.Kept.{IsKept, book_of}
use Rattle.session_desk.specs.Calls.{IsAloneIn, is_free_in}
use Rattle.session_desk.specs.Refusals.{IsRefused, IsNotAdmitted, IsUnmoved}
use Rattle.session_rule.specs.declared.seats.Table.{Table}
use Rattle.session_desk.proofs.Lists.{any_none, any_some, contains_map}
use Rattle.session_desk.proofs.Orders.{member, is_member}
use Rattle.session_desk.proofs.Keeping.{inside_of}
use Rattle.session_desk.proofs.Whole.{free_same}

excludes_cases : (j k : Key) → excludes j k ≡ true → same_key j k ≡ false → has_mode_clash j k ≡ true
unfolding excludes has_mode_clash
excludes_cases j k h n = ⊎_elim (λ (x : same_key j k ≡ true). absurd (true_ne_false (sym x ∙ n))) (λ (x : (((j.local == k.local) && same_endpoint j.peer k.peer) && not (same_mode j.mode k.mode)) ≡ true). x) (either_of _ _ h)

pub refused_duplicate : (z : TableSize) (seat : Seat) (rb : Rows) (ss : List Slot) (ls rs ks far : List ℕ) (i : ℕ) (k : Key) (c : ConfigParts) → IsKept z (desk_steps seat) rb ss ls rs ks far → is_taken (taken_in ss i) ≡ true → same_key (key_in ss i) k ≡ true
    → IsNotAdmitted (book_of seat z rb ss ls rs ks) k c (Duplicate k)
refused_duplicate z seat rb ss ls rs ks far i k c kept t same = (refl, subst (λ (y : Key). Contains (map (key_in ss) ks) y) (same_key_eq (key_in ss i) k same) (contains_map (key_in ss) i ks (is_member is_taken ss ks i kept.taken t)))

-- a session in another mode excludes the key, so none has the key itself
pub none_same : (z : TableSize) (ds : List Step) (rb : Rows) (ss : List Slot) (ls rs ks far : List ℕ) (i : ℕ) (k : Key) → IsKept z ds rb ss ls rs ks far → is_taken (taken_in ss i) ≡ true → excludes (key_in ss i) k ≡ true → same_key (key_in ss i) k ≡ false
    → list_any (λ j. same_key j k) (map (key_in ss) ks) ≡ false
none_same z ds rb ss ls rs ks far i k kept t x n = any_none (key_in ss) (λ j. same_key j k) ks (λ j some. is_false _ (λ (same : same_key (key_in ss j) k ≡ true).
    let tj = member is_taken ss ks j kept.taken some in
    let e = kept.slots.alone i j (inside_of z ds ss is_taken i kept.slots refl t) (inside_of z ds ss is_taken j kept.slots refl tj) t tj (ap (excludes (key_in ss i)) (same_key_eq (key_in ss j) k same) ∙ x) in
    true_ne_false (sym (ap (λ (m : ℕ). same_key (key_in ss m) k) e ∙ same) ∙ n)))

pub some_clash : (z : TableSize) (ds : List Step) (rb : Rows) (ss : List Slot) (ls rs ks far : List ℕ) (i : ℕ) (k : Key) → IsKept z ds rb ss ls rs ks far → is_taken (taken_in ss i) ≡ true → excludes (key_in ss i) k ≡ true → same_key (key_in ss i) k ≡ false
    → list_any (λ j. has_mode_clash j k) (map (key_in ss) ks) ≡ true
some_clash z ds rb ss ls rs ks far i k kept t x n = any_some (key_in ss) (λ j. has_mode_clash j k) i ks (is_member is_taken ss ks i kept.taken t) (excludes_cases (key_in ss i) k x n)

pub found_some : {A : Type 0} (p : A → Bool) (xs : List A) → list_any p xs ≡ true → find p xs ≡ None → ⊥
found_some p [] some none = true_ne_false (sym some)
found_some p (x ∷ xs) some none = ⊎_elim
    (λ (e : p x ≡ true). let h : Some x ≡ None = sym (rw e refl) ∙ none in cc)
    (λ (e : p x ≡ false). found_some p xs (sym (rw e refl) ∙ some) (sym (rw e refl) ∙ none))
    (bool (p x))

pub alone_in : (z : TableSize) (seat : Seat) (rb : Rows) (ss : List Slot) (ls rs ks far : List ℕ) (k : Key) → IsKept z (desk_steps seat) rb ss ls rs ks far → IsAlone z ss k → IsAloneIn (book_of seat z rb ss ls rs ks) k
alone_in z seat rb ss ls rs ks far k kept alone = any_none (key_in ss) (λ j. excludes j k) ks (λ j some. let t = member is_taken ss ks j kept.taken some in is_false _ (alone j (inside_of z (desk_steps seat) ss is_taken j kept.slots refl t) t))

pub alone_of : (z : TableSize) (seat : Seat) (rb : Rows) (ss : List Slot) (ls rs ks far : List ℕ) (k : Key) → IsKept z (desk_steps seat) rb ss ls rs ks far → IsAloneIn (book_of seat z rb ss ls rs ks) k → IsAlone z ss k
alone_of z seat rb ss ls rs ks far k kept none j lt t x = true_ne_false (sym (any_some (key_in ss) (λ y. excludes y k) j ks (is_member is_taken ss ks j kept.taken t) x) ∙ none)

abbrev pub NoneExcluding : List Slot → List ℕ → Key → Type 0
NoneExcluding ss far k = (z : TableSize) → z.slots ≡ length ss → Reaches z ss far → IsAlone z ss k

-- what a search in the code's parts has found not to be there
pub alone_by : (z : TableSize) (seat : Seat) (rb : Rows) (ss ts : List Slot) (ls rs ks far gar : List ℕ) (k : Key) → IsKept z (desk_steps seat) rb ts ls rs ks gar → ss ≡ ts → far ≡ gar → NoneExcluding ss far k → IsAloneIn (book_of seat z rb ts ls rs ks) k
alone_by z seat rb ss ts ls rs ks far gar k kept a b none = alone_in z seat rb ts ls rs ks gar k kept (subst (λ (x : List Slot). NoneExcluding x gar k) a (subst (λ (x : List ℕ). NoneExcluding ss x k) b none) z (sym kept.slots.count) kept.reach)

pub none_free : (z : TableSize) (seat : Seat) (rb : Rows) (ss : List Slot) (ls rs ks far words : List ℕ) → IsKept z (desk_steps seat) rb ss ls rs ks far → ((j : ℕ) → j < length ss → may_take ss z.workers words j ≡ false) → (j : ℕ) → j < z.slots → is_free_in (book_of seat z rb ss ls rs ks) words j ≡ false
none_free z seat rb ss ls rs ks far words kept none j lt = free_same z seat rb ss ls rs ks far words j kept lt ∙ none j (subst (λ (n : ℕ). j < n) (sym kept.slots.count) lt)

-- ---- what isn't admitted is refused, and nothing has moved

pub refused_by : (b : Book) (k : Key) (c : ConfigParts) (f : ReserveFault) → IsNotAdmitted b k c f → IsRefused b k c f
refused_by b k c (Duplicate j) h = h
refused_by b k c (ModeClash j) h = h
refused_by b k c NoKey h = h
refused_by b k c RowsFull h = h
refused_by b k c (Full live reserved retired held) h = absurd h

pub unmoved_by : (t : Table) (b : Book) (k : Key) (c : ConfigParts) (f : ReserveFault) → IsNotAdmitted b k c f → IsUnmoved t b f b
unmoved_by t b k c (Duplicate j) h = refl
unmoved_by t b k c (ModeClash j) h = refl
unmoved_by t b k c NoKey h = refl
unmoved_by t b k c RowsFull h = refl
unmoved_by t b k c (Full live reserved retired held) h = absurd h
