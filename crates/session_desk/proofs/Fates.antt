-- The fates of live sessions, and what they leave, session by session.
use Rattle.std.proofs.Common.{◌≡◌, ◌≢◌, ⊎_elim, ℕ, zero, suc, ◌+◌, ◌<◌, ◌≤◌, ◌==◌, Bool, true, false, List, [], ◌∷◌, ◌++◌, length, get_or, set, take, map, cond, sym, refl, ap, ◌∙◌, subst, arith, eq-eqb, ne_eqb, append_assoc}
use Rattle.std.specs.List.{list_any, count_by}
use Rattle.std.proofs.lemmas.Bool.{eqb-true}
use Rattle.std.proofs.lemmas.List.{length-set, length-map, length-take, map-append, append-nil, take_more}
use Rattle.std.proofs.lemmas.List.Sums.{sum_by-append, count_by-le-length}
use Rattle.slot_word.specs.Fields.{is_open_word}
use Rattle.session_world.specs.declared.steps.TableSize.{TableSize}
use Rattle.session_world.specs.declared.steps.Step.{Step}
use Rattle.session_world.specs.Desk.{is_open}
use Rattle.session_desk.proofs.BoolFacts.{number_case, bool, true_ne_false, is_false, no_or}
use Rattle.session_rule.specs.declared.seats.Table.{Table}
use Rattle.session_rule.specs.declared.seats.Seat.{Seat}
use Rattle.session_rule.specs.Seats.{desk_steps}
use Rattle.expiry.specs.declared.Note.{Note}
use Rattle.expiry.specs.declared.Verdict.TheVariants.{Renew, Expire}
use Rattle.expiry.specs.Verdicts.{verdict}
use Rattle.session_desk.specs.declared.session.Ticked.{Ticked}
use Rattle.session_desk.specs.declared.session.Session.{Session}
use Rattle.session_desk.specs.declared.session.Slot.{Slot}
use Rattle.session_desk.specs.declared.ticking.Passed.{Passed}
use Rattle.session_desk.specs.Sessions.{is_in_slot}
use Rattle.session_desk.specs.Slots.{is_live, slot_in, session_in, taken_in, times, once, AreSlots, IsOrder}
use Rattle.session_desk.specs.Ticking.{Fate, is_closed, keeps, renews, expires, escapes, IsFate, fate_steps, goes_by_moment, goes_by_wait, Fated, AreFates, all_steps}
use Rattle.session_desk.specs.Passing.{passed_by, slot_passed, slots_passed, once_closed, once_expired, HasPassed, HavePassed}
use Rattle.session_desk.specs.Writes.{HasAdded}
use Rattle.session_desk.proofs.Lists.{any_none}
use Rattle.session_desk.proofs.Orders.{else_where, member}
use Rattle.session_desk.proofs.Keeping.{StaysOrGoes, inside_of, place_in}
use Rattle.session_desk.proofs.Added.{added_then}

-- only a word that is as noted expires
pub expires_as_noted : (note : Note) (word now wait : ℕ) → verdict note word now wait ≡ Expire → word ≡ note.word
unfolding verdict
expires_as_noted note word now wait e = ⊎_elim
    (λ (same : (word == note.word) ≡ true). eqb-true word note.word same)
    (λ (other : (word == note.word) ≡ false). let h : Renew ≡ Expire = sym (rw other refl) ∙ e in cc)
    (bool (word == note.word))

-- ---- one fate more

all_steps_more : (fs : List Fated) (f : Fated) → all_steps (fs ++ f ∷ []) ≡ fate_steps f.session.place.slot f.fate ++ all_steps fs
all_steps_more [] f = sym (append-nil _)
all_steps_more (g ∷ fs) f = ap (λ (xs : List Step). xs ++ fate_steps g.session.place.slot g.fate) (all_steps_more fs f) ∙ append_assoc (fate_steps f.session.place.slot f.fate) (all_steps fs) (fate_steps g.session.place.slot g.fate)

each_more : (now : ℕ) (fs : List Fated) (f : Fated) → AreFates now fs → IsFate now f.session f.fate → AreFates now (fs ++ f ∷ [])
each_more now [] f all one = (one, tt)
each_more now (g ∷ fs) f all one = (all.0, each_more now fs f all.1 one)

slots_more : (now : ℕ) (fs : List Fated) (f : Fated) (ss : List Slot) → slots_passed now (fs ++ f ∷ []) ss ≡ set (slots_passed now fs ss) f.session.place.slot (slot_passed (slots_passed now fs ss) f.session.place.slot now f.fate)
slots_more now [] f ss = refl
slots_more now (g ∷ fs) f ss = slots_more now fs f (set ss g.session.place.slot (slot_passed ss g.session.place.slot now g.fate))

pub slots_length : (now : ℕ) (fs : List Fated) (ss : List Slot) → length (slots_passed now fs ss) ≡ length ss
slots_length now [] ss = refl
slots_length now (f ∷ fs) ss = slots_length now fs (set ss f.session.place.slot (slot_passed ss f.session.place.slot now f.fate)) ∙ length-set ss f.session.place.slot _

closed_once : (f : Fate) → once_closed (passed_by f) ≡ cond (goes_by_moment f) 1 0
closed_once (is_closed w) = refl
closed_once (keeps w) = refl
closed_once (renews w) = refl
closed_once (expires w) = refl
closed_once (escapes w found) = refl

expired_once : (f : Fate) → once_expired (passed_by f) ≡ cond (goes_by_wait f) 1 0
expired_once (is_closed w) = refl
expired_once (keeps w) = refl
expired_once (renews w) = refl
expired_once (expires w) = refl
expired_once (escapes w found) = refl

count_more : (p : Fated → Bool) (fs : List Fated) (f : Fated) → count_by p (fs ++ f ∷ []) ≡ count_by p fs + cond (p f) 1 0
count_more p fs f = let a = sum_by-append (λ x. cond (p x) 1 0) fs (f ∷ []) in omega (arith, a)

-- ---- slots that no fate is of

abbrev pub IsPassedBy : List Fated → ℕ → Type 0
IsPassedBy fs i = list_any (is_in_slot i) (map (λ f. f.session) fs) ≡ false

other_slot : (k i : ℕ) → (k == i) ≡ false → i ≢ k
other_slot k i h e = true_ne_false (sym (eq-eqb k i (sym e)) ∙ h)

pub untouched : (now : ℕ) (fs : List Fated) (ss : List Slot) (i : ℕ) → IsPassedBy fs i → slot_in (slots_passed now fs ss) i ≡ slot_in ss i
untouched now [] ss i h = refl
untouched now (f ∷ fs) ss i h = let b = no_or _ _ h in let k = f.session.place.slot in
    untouched now fs (set ss k (slot_passed ss k now f.fate)) i b.1 ∙ else_where ss k i (slot_passed ss k now f.fate) (other_slot k i b.0)

open_fate : (f : Fate) (k i : ℕ) (ds : List Step) → i ≢ k → is_open (fate_steps k f ++ ds) i ≡ is_open ds i
open_fate (is_closed w) k i ds n = rw (ne_eqb i k n) refl
open_fate (keeps w) k i ds n = refl
open_fate (renews w) k i ds n = refl
open_fate (expires w) k i ds n = rw (ne_eqb i k n) refl
open_fate (escapes w found) k i ds n = rw (ne_eqb i k n) refl

pub open_untouched : (fs : List Fated) (ds : List Step) (i : ℕ) → IsPassedBy fs i → is_open (all_steps fs ++ ds) i ≡ is_open ds i
open_untouched [] ds i h = refl
open_untouched (f ∷ fs) ds i h = let b = no_or _ _ h in let k = f.session.place.slot in
    ap (λ (xs : List Step). is_open xs i) (append_assoc (all_steps fs) (fate_steps k f.fate) ds) ∙ open_untouched fs (fate_steps k f.fate ++ ds) i b.1 ∙ open_fate f.fate k i ds (other_slot k i b.0)

-- ---- the next slot of an order wasn't passed yet

times_taken : (xs : List ℕ) (n j : ℕ) → times j (take n xs) ≤ times j xs
times_taken xs zero j = omega arith
times_taken [] (suc n) j = omega arith
times_taken (x ∷ xs) (suc n) j = let h = times_taken xs n j in number_case x j
    (λ (e : x ≡ j). rw (eq-eqb x j e) (omega (arith, h)))
    (λ (m : x ≢ j). rw (ne_eqb x j m) h)

times_next : (xs : List ℕ) (n : ℕ) → n < length xs → times (get_or xs n 0) (take n xs) < times (get_or xs n 0) xs
times_next [] n lt = absurd (omega (arith, lt))
times_next (x ∷ xs) zero lt = rw (eq-eqb x x refl) (omega arith)
times_next (x ∷ xs) (suc n) lt = let i = get_or xs n 0 in let h = times_next xs n (omega (arith, lt)) in number_case x i
    (λ (e : x ≡ i). rw (eq-eqb x i e) (omega (arith, h)))
    (λ (m : x ≢ i). rw (ne_eqb x i m) h)

pub next_live : (ss : List Slot) (live : List ℕ) (n : ℕ) → IsOrder is_live ss live → n < length live → is_live (taken_in ss (get_or live n 0)) ≡ true
next_live ss live n o lt = let h = times_next live n lt in member is_live ss live (get_or live n 0) o (omega (arith, h))

once_at_most : (b : Bool) → once b ≤ 1
once_at_most true = omega arith
once_at_most false = omega arith

not_yet : (z : TableSize) (ds : List Step) (ss : List Slot) (live : List ℕ) (n : ℕ) → AreSlots z ds ss → IsOrder is_live ss live → n < length live
    → list_any (is_in_slot (get_or live n 0)) (map (session_in ss) (take n live)) ≡ false
not_yet z ds ss live n a o lt = let i = get_or live n 0 in any_none (session_in ss) (is_in_slot i) (take n live) (λ j some. is_false _ (λ (h : ((session_in ss j).place.slot == i) ≡ true).
    let tj = times_taken live n j in
    let e : j ≡ i = sym (place_in z ds ss is_live live j a o refl (omega (arith, some, tj))) ∙ eqb-true _ _ h in
    let some_i : 0 < times i (take n live) = subst (λ (k : ℕ). 0 < times k (take n live)) e some in
    let more = times_next live n lt in let each = o.each i in let one = once_at_most (is_live (taken_in ss i)) in absurd (omega (arith, some_i, more, each, one))))

pub passed_not_yet : (z : TableSize) (ds : List Step) (ss : List Slot) (live : List ℕ) (n : ℕ) (fs : List Fated) → AreSlots z ds ss → IsOrder is_live ss live → n < length live → map (λ f. f.session) fs ≡ map (session_in ss) (take n live) → IsPassedBy fs (get_or live n 0)
passed_not_yet z ds ss live n fs a o lt e = ap (list_any (is_in_slot (get_or live n 0))) e ∙ not_yet z ds ss live n a o lt

-- ---- one session more has passed

pub none_passed : (t : Table) (seat : Seat) (ss : List Slot) (now : ℕ) → HasAdded t seat seat [] → HavePassed t seat ss [] now (record { closed = 0; expired = 0 }) seat ss
none_passed t seat ss now added = record { fates = []; sessions = refl; each = tt; added = added; slots_new = refl; closed_number = refl; expired_number = refl }

pub pass_more : (t : Table) (z : TableSize) (first seat after : Seat) (ss ts us : List Slot) (live : List ℕ) (n now : ℕ) (ticked ticked' : Ticked) (passed : Passed) → AreSlots z (desk_steps first) ss → IsOrder is_live ss live → n < length live
    → HavePassed t first ss (take n live) now ticked seat ts → HasPassed t seat ts (get_or live n 0) now passed after us
    → ticked'.closed ≡ ticked.closed + once_closed passed → ticked'.expired ≡ ticked.expired + once_expired passed
    → HavePassed t first ss (take (n + 1) live) now ticked' after us
pass_more t z first seat after ss ts us live n now ticked ticked' passed a o lt h p c x =
    let i = get_or live n 0 in let s = session_in ts i in let f : Fated = record { session = s; fate = p.fate } in
    let out = passed_not_yet z (desk_steps first) ss live n h.fates a o lt h.sessions in
    let same : slot_in ts i ≡ slot_in ss i = ap (λ (xs : List Slot). slot_in xs i) h.slots_new ∙ untouched now h.fates ss i out in
    let place : s.place.slot ≡ i = ap (λ (y : Slot). y.session.place.slot) same ∙ (a.fits i (inside_of z (desk_steps first) ss is_live i a refl (next_live ss live n o lt))).place in record {
      fates = h.fates ++ f ∷ [];
      sessions = map-append (λ y. y.session) h.fates (f ∷ []) ∙ (λ q. h.sessions q ++ (same q).session ∷ []) ∙ sym (map-append (session_in ss) (take n live) (i ∷ [])) ∙ ap (map (session_in ss)) (sym (take_more live n 0 lt));
      each = each_more now h.fates f h.each p.due;
      added = subst (HasAdded t first after) (ap (λ (k : ℕ). fate_steps k p.fate ++ all_steps h.fates) (sym place) ∙ sym (all_steps_more h.fates f)) (added_then t first seat after (all_steps h.fates) (fate_steps i p.fate) h.added p.added);
      slots_new = p.slots_new ∙ (λ q. set (h.slots_new q) (sym place q) (slot_passed (h.slots_new q) (sym place q) now p.fate)) ∙ sym (slots_more now h.fates f ss);
      closed_number = let m = count_more (λ y. goes_by_moment y.fate) h.fates f in let e = closed_once p.fate in let k = h.closed_number in let w = ap once_closed p.answer in omega (arith, c, m, e, k, w);
      expired_number = let m = count_more (λ y. goes_by_wait y.fate) h.fates f in let e = expired_once p.fate in let k = h.expired_number in let w = ap once_expired p.answer in omega (arith, x, m, e, k, w);
    }

-- ---- the reach of a session that stays, or goes

pub stays_passed : (ss : List Slot) (i now : ℕ) (f : Fate) → StaysOrGoes ss i (slot_passed ss i now f)
stays_passed ss i now (is_closed w) = λ t. absurd (true_ne_false (sym t))
stays_passed ss i now (keeps w) = λ t. (t, refl)
stays_passed ss i now (renews w) = λ t. (t, refl)
stays_passed ss i now (expires w) = λ t. absurd (true_ne_false (sym t))
stays_passed ss i now (escapes w found) = λ t. (t, refl)

-- ---- what a further session needs

pub few_passed : (t : Table) (first seat : Seat) (ss ts : List Slot) (live : List ℕ) (n now : ℕ) (ticked : Ticked) → HavePassed t first ss (take n live) now ticked seat ts → (ticked.closed ≤ length live) × (ticked.expired ≤ length live)
few_passed t first seat ss ts live n now ticked h =
    let a = count_by-le-length (λ f. goes_by_moment f.fate) h.fates in let b = count_by-le-length (λ f. goes_by_wait f.fate) h.fates in
    let l : length h.fates ≡ length (take n live) = sym (length-map h.fates (λ f. f.session)) ∙ ap (λ (xs : List Session). length xs) h.sessions ∙ length-map (take n live) (session_in ss) in
    let k = length-take n live in let c = h.closed_number in let e = h.expired_number in (omega (arith, a, l, k, c), omega (arith, b, l, k, e))

pub next_open : (t : Table) (z : TableSize) (first seat : Seat) (ss ts : List Slot) (live : List ℕ) (n now : ℕ) (ticked : Ticked) → AreSlots z (desk_steps first) ss → IsOrder is_live ss live → n < length live → HavePassed t first ss (take n live) now ticked seat ts
    → is_open (desk_steps seat) (get_or live n 0) ≡ true
next_open t z first seat ss ts live n now ticked a o lt h = let i = get_or live n 0 in let live_i = next_live ss live n o lt in
    ap (λ (xs : List Step). is_open xs i) h.added.steps ∙ open_untouched h.fates (desk_steps first) i (passed_not_yet z (desk_steps first) ss live n h.fates a o lt h.sessions)
    ∙ (a.fits i (inside_of z (desk_steps first) ss is_live i a refl live_i)).live ∙ live_i

pub next_noted : (t : Table) (z : TableSize) (first seat : Seat) (ss ts : List Slot) (live : List ℕ) (n now : ℕ) (ticked : Ticked) → AreSlots z (desk_steps first) ss → IsOrder is_live ss live → n < length live → HavePassed t first ss (take n live) now ticked seat ts
    → is_open_word (session_in ts (get_or live n 0)).note.word ≡ true
next_noted t z first seat ss ts live n now ticked a o lt h = let i = get_or live n 0 in let live_i = next_live ss live n o lt in
    ap (λ (y : Slot). is_open_word y.session.note.word) (ap (λ (xs : List Slot). slot_in xs i) h.slots_new ∙ untouched now h.fates ss i (passed_not_yet z (desk_steps first) ss live n h.fates a o lt h.sessions))
    ∙ (a.fits i (inside_of z (desk_steps first) ss is_live i a refl live_i)).noted live_i
