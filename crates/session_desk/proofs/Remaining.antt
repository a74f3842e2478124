-- What remains of the book after a tick.
use Rattle.std.proofs.Common.{◌≡◌, ◌≢◌, ℕ, suc, ◌<◌, ◌≤◌, ◌==◌, Bool, true, false, not, if◌then◌else◌, List, [], ◌∷◌, ◌++◌, length, set, map, sym, refl, ap, ◌∙◌, subst, arith, eq-eqb, ne_eqb, append_assoc}
use Rattle.std.specs.List.{filter, list_any}
use Rattle.std.proofs.lemmas.Bool.{eqb-true}
use Rattle.slot_word.specs.Fields.{sequence_in, row_in}
use Rattle.config_rows.specs.Rows.{Rows}
use Rattle.session_world.specs.declared.steps.TableSize.{TableSize}
use Rattle.session_world.specs.declared.steps.Step.{Step}
use Rattle.session_world.specs.declared.steps.Step.TheVariants.{Peek, Expire}
use Rattle.session_world.specs.Desk.{key_of_slot, row_of}
use Rattle.session_world.specs.Answers.{Answer, counted, closed, expired, expire_gives, desk_answers}
use Rattle.session_world.specs.Loads.{DeskWords}
use Rattle.session_desk.proofs.BoolFacts.{number_case, true_ne_false, is_false}
use Rattle.session_desk.specs.declared.session.Use.{Use}
use Rattle.session_desk.specs.declared.session.Use.TheVariants.{Free}
use Rattle.session_desk.specs.declared.session.Session.{Session}
use Rattle.session_desk.specs.declared.session.Slot.{Slot}
use Rattle.session_desk.specs.Sessions.{is_in_slot, without_key, noted}
use Rattle.session_desk.specs.Slots.{is_live, is_reserving, is_taken, slot_in, session_in, key_in, taken_in, times, once, IsOrder, freed}
use Rattle.session_desk.specs.Kept.{IsKept}
use Rattle.session_desk.specs.Ticking.{Fate, is_closed, keeps, renews, expires, escapes, IsFate, fate_steps, fate_answers, session_left, is_gone, Fated, AreFates, all_steps, all_answers, all_left, keys_left}
use Rattle.session_desk.specs.Passing.{slot_passed, slots_passed}
use Rattle.session_desk.proofs.Lists.{map_else, any_none, still}
use Rattle.session_desk.proofs.Orders.{here, else_where, set_itself, member, is_inside, no_member}
use Rattle.session_desk.proofs.Keeping.{inside_of, live_is_taken, live_not_reserving, view_else, keys_same, keys_without}
use Rattle.session_desk.proofs.Closing.{close_kept, expire_kept, escape_kept, peek_kept}
use Rattle.session_desk.proofs.Changing.{same_kept}
use Rattle.session_desk.proofs.Fates.{IsPassedBy, untouched}

-- ---- the words that the desk read before

words_drop : (s : Step) (ds : List Step) → DeskWords (s ∷ ds) → DeskWords ds
words_drop (Peek slot read) ds h = h.1
words_drop (Expire slot expected read) ds h = h.1
words_drop _ ds h = h

words_tail : (xs ds : List Step) → DeskWords (xs ++ ds) → DeskWords ds
words_tail [] ds h = h
words_tail (x ∷ xs) ds h = words_tail xs ds (words_drop x (xs ++ ds) h)

-- ---- one session

abbrev order_after : Fate → ℕ → List ℕ → List ℕ
order_after f i xs = if is_gone f then filter (λ j. not (j == i)) xs else xs

fate_kept : (z : TableSize) (ds : List Step) (rb : Rows) (ss : List Slot) (ls rs ks far : List ℕ) (i now : ℕ) (f : Fate) → IsKept z ds rb ss ls rs ks far → is_live (taken_in ss i) ≡ true → IsFate now (session_in ss i) f → DeskWords (fate_steps i f ++ ds)
    → IsKept z (fate_steps i f ++ ds) rb (set ss i (slot_passed ss i now f)) (order_after f i ls) rs (order_after f i ks) far
fate_kept z ds rb ss ls rs ks far i now (is_closed w) k live due words = close_kept z ds rb ss ls rs ks far i w k live
fate_kept z ds rb ss ls rs ks far i now (keeps w) k live due words = subst (λ (ts : List Slot). IsKept z (Peek i w ∷ ds) rb ts ls rs ks far) (set_itself ss i) (peek_kept z ds rb ss ls rs ks far i w k)
fate_kept z ds rb ss ls rs ks far i now (renews w) k live due words = same_kept z (Peek i w ∷ ds) rb ss ls rs ks far i (noted w now (session_in ss i)) (peek_kept z ds rb ss ls rs ks far i w k) live (record { key = refl; extra = refl; row = refl; place = refl }) words.0.0
fate_kept z ds rb ss ls rs ks far i now (expires w) k live due words = expire_kept z (Peek i w ∷ ds) rb ss ls rs ks far i w (peek_kept z ds rb ss ls rs ks far i w k) live
fate_kept z ds rb ss ls rs ks far i now (escapes w found) k live due words =
    same_kept z (Expire i w found ∷ Peek i w ∷ ds) rb ss ls rs ks far i (noted found now (session_in ss i)) (escape_kept z (Peek i w ∷ ds) rb ss ls rs ks far i w found due.2 (peek_kept z ds rb ss ls rs ks far i w k)) live (record { key = refl; extra = refl; row = refl; place = refl }) words.0.0

fate_answered : (ds : List Step) (i now : ℕ) (s : Session) (f : Fate) → key_of_slot ds i ≡ s.key → row_of ds i ≡ s.row → IsFate now s f → DeskWords (fate_steps i f ++ ds) → desk_answers (fate_steps i f ++ ds) ≡ fate_answers s f ++ desk_answers ds
fate_answered ds i now s (is_closed w) key row due words = λ p. closed (key p) (sequence_in w) ∷ desk_answers ds
fate_answered ds i now s (keeps w) key row due words = λ p. counted (key p) (sequence_in w) ((words.0.2 ∙ row) p) ∷ desk_answers ds
fate_answered ds i now s (renews w) key row due words = λ p. counted (key p) (sequence_in w) ((words.0.2 ∙ row) p) ∷ desk_answers ds
fate_answered ds i now s (expires w) key row due words =
    ap (λ (b : Bool). expire_gives b (key_of_slot ds i) w ∷ counted (key_of_slot ds i) (sequence_in w) (row_in w) ∷ desk_answers ds) (eq-eqb w w refl)
    ∙ (λ p. expired (key p) (sequence_in w) ((words.0.2 ∙ row) p) ∷ counted (key p) (sequence_in w) ((words.0.2 ∙ row) p) ∷ desk_answers ds)
fate_answered ds i now s (escapes w found) key row due words =
    ap (λ (b : Bool). expire_gives b (key_of_slot ds i) found ∷ counted (key_of_slot ds i) (sequence_in w) (row_in w) ∷ desk_answers ds) (ne_eqb found w due.2)
    ∙ (λ p. counted (key p) (sequence_in found) ((words.0.2 ∙ row) p) ∷ counted (key p) (sequence_in w) ((words.1.0.2 ∙ row) p) ∷ desk_answers ds)

-- what the slot of a session that is gone holds passes no test that free slots fail
gone_fails : (test : Use → Bool) (ss : List Slot) (i now : ℕ) (f : Fate) → test Free ≡ false → is_gone f ≡ true → test (slot_passed ss i now f).taken ≡ false
gone_fails test ss i now (is_closed w) none gone = none
gone_fails test ss i now (keeps w) none gone = absurd (true_ne_false (sym gone))
gone_fails test ss i now (renews w) none gone = absurd (true_ne_false (sym gone))
gone_fails test ss i now (expires w) none gone = none
gone_fails test ss i now (escapes w found) none gone = absurd (true_ne_false (sym gone))

filter_without : (p : ℕ → Bool) (i : ℕ) (xs : List ℕ) → p i ≡ false → filter p (filter (λ j. not (j == i)) xs) ≡ filter p xs
filter_without p i [] fails = refl
filter_without p i (x ∷ xs) fails = let h = filter_without p i xs fails in number_case x i
    (λ (e : x ≡ i). let px : p x ≡ false = ap p e ∙ fails in rw (eq-eqb x i e, px) h)
    (λ (n : x ≢ i). rw (ne_eqb x i n) (ap (λ (ys : List ℕ). if p x then x ∷ ys else ys) h))

filter_after : (p : ℕ → Bool) (f : Fate) (i : ℕ) (xs : List ℕ) → (is_gone f ≡ true → p i ≡ false) → filter p (order_after f i xs) ≡ filter p xs
filter_after p (is_closed w) i xs fails = filter_without p i xs (fails refl)
filter_after p (keeps w) i xs fails = refl
filter_after p (renews w) i xs fails = refl
filter_after p (expires w) i xs fails = filter_without p i xs (fails refl)
filter_after p (escapes w found) i xs fails = refl

filter_all : (p : ℕ → Bool) (xs : List ℕ) → ((j : ℕ) → 0 < times j xs → p j ≡ true) → filter p xs ≡ xs
filter_all p [] each = refl
filter_all p (x ∷ xs) each = rw (each x (rw (eq-eqb x x refl) (omega arith))) (ap (λ (ys : List ℕ). x ∷ ys) (filter_all p xs (λ j some. each j (still j x xs some))))

-- what is left of the session in the slot
head_left : (ts : List Slot) (ss : List Slot) (x now : ℕ) (f : Fate) (ys : List ℕ) → slot_in ts x ≡ slot_passed ss x now f → is_live (taken_in ss x) ≡ true
    → map (session_in ts) (filter (λ j. is_live (taken_in ts j)) (x ∷ ys)) ≡ session_left now (session_in ss x) f ++ map (session_in ts) (filter (λ j. is_live (taken_in ts j)) ys)
head_left ts ss x now (is_closed w) ys e live = let out : is_live (taken_in ts x) ≡ false = ap (λ (y : Slot). is_live y.taken) e in rw out refl
head_left ts ss x now (keeps w) ys e live = let inn : is_live (taken_in ts x) ≡ true = ap (λ (y : Slot). is_live y.taken) e ∙ live in rw inn (ap (λ (y : Slot). y.session ∷ map (session_in ts) (filter (λ j. is_live (taken_in ts j)) ys)) e)
head_left ts ss x now (renews w) ys e live = let inn : is_live (taken_in ts x) ≡ true = ap (λ (y : Slot). is_live y.taken) e ∙ live in rw inn (ap (λ (y : Slot). y.session ∷ map (session_in ts) (filter (λ j. is_live (taken_in ts j)) ys)) e)
head_left ts ss x now (expires w) ys e live = let out : is_live (taken_in ts x) ≡ false = ap (λ (y : Slot). is_live y.taken) e in rw out refl
head_left ts ss x now (escapes w found) ys e live = let inn : is_live (taken_in ts x) ≡ true = ap (λ (y : Slot). is_live y.taken) e ∙ live in rw inn (ap (λ (y : Slot). y.session ∷ map (session_in ts) (filter (λ j. is_live (taken_in ts j)) ys)) e)

keys_after : (z : TableSize) (ds : List Step) (rb : Rows) (ss : List Slot) (ls rs ks far : List ℕ) (i now : ℕ) (f : Fate) → IsKept z ds rb ss ls rs ks far → is_live (taken_in ss i) ≡ true
    → map (key_in (set ss i (slot_passed ss i now f))) (order_after f i ks) ≡ (if is_gone f then without_key (key_in ss i) (map (key_in ss) ks) else map (key_in ss) ks)
keys_after z ds rb ss ls rs ks far i now (is_closed w) k live = keys_without z ds ss ks i (freed ss i) k.slots k.taken (live_is_taken _ live)
keys_after z ds rb ss ls rs ks far i now (keeps w) k live = keys_same ss ks i _ (is_inside is_live ss i refl live) refl
keys_after z ds rb ss ls rs ks far i now (renews w) k live = keys_same ss ks i _ (is_inside is_live ss i refl live) refl
keys_after z ds rb ss ls rs ks far i now (expires w) k live = keys_without z ds ss ks i (freed ss i) k.slots k.taken (live_is_taken _ live)
keys_after z ds rb ss ls rs ks far i now (escapes w found) k live = keys_same ss ks i _ (is_inside is_live ss i refl live) refl

-- ---- all sessions

-- live slots, each once
pub record AreLive (ss : List Slot) (xs : List ℕ) : Type 0 where
  pub once : (j : ℕ) → times j xs ≤ 1
  pub live : (j : ℕ) → 0 < times j xs → is_live (taken_in ss j) ≡ true

abbrev pub live_now : List Slot → ℕ → Bool
live_now ss j = is_live (taken_in ss j)

abbrev pub taken_now : List Slot → ℕ → Bool
taken_now ss j = is_taken (taken_in ss j)

pub record Remains (z : TableSize) (now : ℕ) (fs : List Fated) (ds : List Step) (rb : Rows) (ss ts : List Slot) (ls rs ks far xs : List ℕ) : Type 0 where
  pub kept : IsKept z (all_steps fs ++ ds) rb ts (filter (live_now ts) ls) rs (filter (taken_now ts) ks) far
  pub answers : desk_answers (all_steps fs ++ ds) ≡ all_answers fs ++ desk_answers ds
  pub left : map (session_in ts) (filter (live_now ts) xs) ≡ all_left now fs
  pub keys : map (key_in ts) (filter (taken_now ts) ks) ≡ keys_left fs (map (key_in ss) ks)
  pub reserved : map (session_in ts) rs ≡ map (session_in ss) rs

pub remains : (z : TableSize) (now : ℕ) (fs : List Fated) (xs : List ℕ) (ds : List Step) (rb : Rows) (ss : List Slot) (ls rs ks far : List ℕ) → IsKept z ds rb ss ls rs ks far → AreLive ss xs → map (λ f. f.session) fs ≡ map (session_in ss) xs → AreFates now fs → DeskWords (all_steps fs ++ ds)
    → Remains z now fs ds rb ss (slots_passed now fs ss) ls rs ks far xs
remains z now [] [] ds rb ss ls rs ks far k a same each words = let l = filter_all (live_now ss) ls (λ j some. member is_live ss ls j k.live some) in let t = filter_all (taken_now ss) ks (λ j some. member is_taken ss ks j k.taken some) in record {
  kept = subst (λ (ys : List ℕ). IsKept z ds rb ss ys rs (filter (taken_now ss) ks) far) (sym l) (subst (λ (ys : List ℕ). IsKept z ds rb ss ls rs ys far) (sym t) k);
  answers = refl;
  left = refl;
  keys = ap (map (key_in ss)) t;
  reserved = refl;
}
remains z now [] (x ∷ xs) ds rb ss ls rs ks far k a same each words = absurd (let h : [] ≡ session_in ss x ∷ map (session_in ss) xs = same in cc)
remains z now (f ∷ fs) [] ds rb ss ls rs ks far k a same each words = absurd (let h : f.session ∷ map (λ g. g.session) fs ≡ [] = same in cc)
remains z now (f ∷ fs) (x ∷ xs) ds rb ss ls rs ks far k a same each words =
    let h : f.session ∷ map (λ g. g.session) fs ≡ session_in ss x ∷ map (session_in ss) xs = same in
    let e : f.session ≡ session_in ss x = cc in
    let rest : map (λ g. g.session) fs ≡ map (session_in ss) xs = cc in
    let i = f.session.place.slot in
    let live_x : is_live (taken_in ss x) ≡ true = a.live x (rw (eq-eqb x x refl) (omega arith)) in
    let at : i ≡ x = ap (λ (s : Session). s.place.slot) e ∙ (k.slots.fits x (inside_of z ds ss is_live x k.slots refl live_x)).place in
    let live : is_live (taken_in ss i) ≡ true = ap (live_now ss) at ∙ live_x in
    let mine : session_in ss i ≡ f.session = ap (session_in ss) at ∙ sym e in
    let due : IsFate now (session_in ss i) f.fate = subst (λ (s : Session). IsFate now s f.fate) (sym mine) each.0 in
    let once = a.once x in
    let out_x : times x xs ≡ 0 = (let c : times x (x ∷ xs) ≡ suc (times x xs) = rw (eq-eqb x x refl) refl in omega (arith, once, c)) in
    let out : times i xs ≡ 0 = ap (λ (j : ℕ). times j xs) at ∙ out_x in
    let new = slot_passed ss i now f.fate in let us = set ss i new in let es = fate_steps i f.fate ++ ds in
    let inside : i < length ss = is_inside is_live ss i refl live in
    let split : all_steps (f ∷ fs) ++ ds ≡ all_steps fs ++ es = append_assoc (all_steps fs) (fate_steps i f.fate) ds in
    let w : DeskWords (all_steps fs ++ es) = subst DeskWords split words in
    let fit = k.slots.fits i (inside_of z ds ss is_live i k.slots refl live) in
    let session = fit.session (live_is_taken _ live) in
    let here_w = words_tail (all_steps fs) es w in
    let k1 = fate_kept z ds rb ss ls rs ks far i now f.fate k live due here_w in
    let away : (j : ℕ) → 0 < times j xs → j ≢ i = λ (j : ℕ) (some : 0 < times j xs) (q : j ≡ i). let t : times j xs ≡ 0 = ap (λ (m : ℕ). times m xs) q ∙ out in omega (arith, some, t) in
    let a1 : AreLive us xs = record {
      once = λ j. let o = a.once j in number_case x j (λ (q : x ≡ j). let c : times j (x ∷ xs) ≡ suc (times j xs) = rw (eq-eqb x j q) refl in omega (arith, o, c)) (λ (n : x ≢ j). let c : times j (x ∷ xs) ≡ times j xs = rw (ne_eqb x j n) refl in omega (arith, o, c));
      live = λ j some. ap (λ (y : Slot). is_live y.taken) (else_where ss i j new (away j some)) ∙ a.live j (still j x xs some);
    } in
    let rest1 : map (λ g. g.session) fs ≡ map (session_in us) xs = rest ∙ sym (map_else (session_in us) (session_in ss) i xs out (λ j n. ap (λ (y : Slot). y.session) (else_where ss i j new n))) in
    let ih = remains z now fs xs es rb us (order_after f.fate i ls) rs (order_after f.fate i ks) far k1 a1 rest1 each.1 w in
    let ts = slots_passed now fs us in
    let passed : IsPassedBy fs i = ap (list_any (is_in_slot i)) rest ∙ any_none (session_in ss) (is_in_slot i) xs (λ j some. is_false _ (λ (q : ((session_in ss j).place.slot == i) ≡ true).
    let lj = a.live j (still j x xs some) in away j some (sym (k.slots.fits j (inside_of z ds ss is_live j k.slots refl lj)).place ∙ eqb-true _ _ q))) in
    let stands : slot_in ts i ≡ new = untouched now fs us i passed ∙ here ss i new inside in
    let live_fails : is_gone f.fate ≡ true → live_now ts i ≡ false = λ (g : is_gone f.fate ≡ true). ap (λ (y : Slot). is_live y.taken) stands ∙ gone_fails is_live ss i now f.fate refl g in
    let taken_fails : is_gone f.fate ≡ true → taken_now ts i ≡ false = λ (g : is_gone f.fate ≡ true). ap (λ (y : Slot). is_taken y.taken) stands ∙ gone_fails is_taken ss i now f.fate refl g in
    let fl = filter_after (live_now ts) f.fate i ls live_fails in let fk = filter_after (taken_now ts) f.fate i ks taken_fails in record {
      kept = subst (λ (ys : List Step). IsKept z ys rb ts (filter (live_now ts) ls) rs (filter (taken_now ts) ks) far) (sym split)
          (subst (λ (ys : List ℕ). IsKept z (all_steps fs ++ es) rb ts ys rs (filter (taken_now ts) ks) far) fl
          (subst (λ (ys : List ℕ). IsKept z (all_steps fs ++ es) rb ts (filter (live_now ts) (order_after f.fate i ls)) rs ys far) fk ih.kept));
      answers = ap desk_answers split ∙ ih.answers ∙ ap (λ (ys : List (Answer ℕ)). all_answers fs ++ ys) (fate_answered ds i now f.session f.fate (session.key ∙ ap (λ (s : Session). s.key) mine) (session.row ∙ ap (λ (s : Session). s.row) mine) each.0 here_w) ∙ sym (append_assoc (all_answers fs) (fate_answers f.session f.fate) (desk_answers ds));
      left = head_left ts ss x now f.fate xs (ap (slot_in ts) (sym at) ∙ stands ∙ ap (λ (j : ℕ). slot_passed ss j now f.fate) at) live_x ∙ (λ p. session_left now (sym e p) f.fate ++ ih.left p);
      keys = sym (ap (map (key_in ts)) fk) ∙ ih.keys ∙ ap (keys_left fs) (keys_after z ds rb ss ls rs ks far i now f.fate k live ∙ ap (λ (s : Session). if is_gone f.fate then without_key s.key (map (key_in ss) ks) else map (key_in ss) ks) mine);
      reserved = ih.reserved ∙ view_else ss rs i new (no_member is_reserving ss rs i k.reserved (live_not_reserving _ live));
    }

at_most_one : (b : Bool) → once b ≤ 1
at_most_one true = omega arith
at_most_one false = omega arith

pub are_live : (ss : List Slot) (xs : List ℕ) → IsOrder is_live ss xs → AreLive ss xs
are_live ss xs o = record { once = λ j. let e = o.each j in let l = at_most_one (is_live (taken_in ss j)) in omega (arith, e, l); live = λ j some. member is_live ss xs j o some }
