-- What a reserve keeps of the book.
use Rattle.std.proofs.Common.{◌≡◌, ◌≢◌, ℕ, ◌<◌, ◌≤◌, ◌==◌, Bool, false, ◌&&◌, if◌then◌else◌, List, [], ◌∷◌, ◌++◌, length, get_or, set, sym, refl, ap, ◌∙◌, subst, arith, ne_eqb}
use Rattle.std.proofs.lemmas.List.{length-set}
use Rattle.session_key.specs.Matching.{excludes}
use Rattle.config_rows.specs.Rows.{Rows}
use Rattle.session_world.specs.declared.steps.TableSize.{TableSize}
use Rattle.session_world.specs.declared.steps.Step.{Step}
use Rattle.session_world.specs.declared.steps.Step.TheVariants.{WriteRow, WriteKey, ReserveNew, Scan, ReserveUsed}
use Rattle.session_world.specs.Keys.{config_of}
use Rattle.session_world.specs.Desk.{IsComplete, config_at, row_word_of}
use Rattle.session_world.specs.Answers.{desk_answers}
use Rattle.session_world.specs.Allowed.{DeskDid, DeskMay}
use Rattle.session_desk.proofs.BoolFacts.{number_case, true_ne_false}
use Rattle.session_desk.proofs.KeyFacts.{excludes_turn}
use Rattle.session_desk.specs.declared.session.Use.{Use}
use Rattle.session_desk.specs.declared.session.Use.TheVariants.{Free, Reserved, Live}
use Rattle.session_desk.specs.declared.session.Slot.{Slot}
use Rattle.session_desk.specs.Book.{line_of, lines_left}
use Rattle.session_desk.specs.Slots.{is_live, is_reserving, is_taken, slot_in, session_in, taken_in, SlotFits, AreSlots, IsAlone, Reaches}
use Rattle.session_desk.specs.Kept.{RowsFit, IsKept}
use Rattle.session_desk.proofs.Lists.{map_else}
use Rattle.session_desk.proofs.Orders.{here, else_where, order_add, order_same, no_member}
use Rattle.session_desk.proofs.Keeping.{OnlyAt, only_none, fits_else}
use Rattle.session_desk.proofs.Written.{IsQuiet, quiet_none, quiet_scan, quiet_row, quiet_key}

-- ---- the steps of a reserve change what the desk's list says of slot i alone

pub only_then : (ds es fs : List Step) (i : ℕ) → OnlyAt ds es i → OnlyAt es fs i → OnlyAt ds fs i
only_then ds es fs i a b = record {
  generation = λ j m. b.generation j m ∙ a.generation j m;
  row = λ j m. b.row j m ∙ a.row j m;
  live = λ j m. b.live j m ∙ a.live j m;
  reserved = λ j m. b.reserved j m ∙ a.reserved j m;
  words = λ j k m. b.words j k m ∙ a.words j k m;
  complete = λ r c. b.complete r (a.complete r c);
  config = λ r c. b.config r (a.complete r c) ∙ a.config r c;
}

pub only_scan : (ds : List Step) (i w n : ℕ) → OnlyAt ds (Scan w n ∷ ds) i
only_scan ds i w n = record { generation = λ j m. refl; row = λ j m. refl; live = λ j m. refl; reserved = λ j m. refl; words = λ j k m. refl; complete = λ r c. c; config = λ r c. refl }

-- a word of the first row that isn't complete is none of a complete one
config_kept : (z : TableSize) (ds : List Step) (row k n r : ℕ) → DeskMay z ds (WriteRow row k n) → IsComplete ds r → config_at (WriteRow row k n ∷ ds) r ≡ config_at ds r
config_kept z ds row k n r may c = let other : r ≢ row = (λ (e : r ≡ row). let pos = may.0 in let low = may.2 in let at = may.4 in let top = c.1 in omega (arith, e, pos, low, at, top)) in
    λ p. config_of (λ j. ap (λ (b : Bool). if b && (j == k) then n else row_word_of ds r j) (ne_eqb r row other) p)

only_row : (z : TableSize) (ds : List Step) (i r k n : ℕ) → DeskMay z ds (WriteRow r k n) → OnlyAt ds (WriteRow r k n ∷ ds) i
only_row z ds i r k n may = record { generation = λ j m. refl; row = λ j m. refl; live = λ j m. refl; reserved = λ j m. refl; words = λ j k m. refl; complete = λ q c. (c.0, (let top = c.1 in omega (arith, top))); config = λ q c. config_kept z ds r k n q may c }

only_key : (ds : List Step) (i k n : ℕ) → OnlyAt ds (WriteKey i k n ∷ ds) i
only_key ds i k n = record { generation = λ j m. refl; row = λ j m. refl; live = λ j m. refl; reserved = λ j m. rw (ne_eqb j i m) refl; words = λ j q m. rw (ne_eqb j i m) refl; complete = λ r c. c; config = λ r c. refl }

pub only_reserve_new : (ds : List Step) (i row : ℕ) → OnlyAt ds (ReserveNew i row ∷ ds) i
only_reserve_new ds i row = record { generation = λ j m. rw (ne_eqb j i m) refl; row = λ j m. rw (ne_eqb j i m) refl; live = λ j m. refl; reserved = λ j m. rw (ne_eqb j i m) refl; words = λ j k m. refl; complete = λ r c. c; config = λ r c. refl }

pub only_reserve_used : (ds : List Step) (i g row : ℕ) → OnlyAt ds (ReserveUsed i g row ∷ ds) i
only_reserve_used ds i g row = record { generation = λ j m. rw (ne_eqb j i m) refl; row = λ j m. rw (ne_eqb j i m) refl; live = λ j m. refl; reserved = λ j m. rw (ne_eqb j i m) refl; words = λ j k m. refl; complete = λ r c. c; config = λ r c. refl }

pub only_quiet : (z : TableSize) (i : ℕ) (xs ds : List Step) → IsQuiet i xs → DeskDid z (xs ++ ds) → OnlyAt ds (xs ++ ds) i
only_quiet z i _ ds quiet_none did = only_none ds i
only_quiet z i _ ds (quiet_scan w n xs q) did = only_then _ _ _ i (only_quiet z i xs ds q did.0) (only_scan (xs ++ ds) i w n)
only_quiet z i _ ds (quiet_row r k n xs q) did = only_then _ _ _ i (only_quiet z i xs ds q did.0) (only_row z (xs ++ ds) i r k n did.1)
only_quiet z i _ ds (quiet_key k n xs q) did = only_then _ _ _ i (only_quiet z i xs ds q did.0) (only_key (xs ++ ds) i k n)

pub same_answers : {i : ℕ} (xs ds : List Step) → IsQuiet i xs → desk_answers (xs ++ ds) ≡ desk_answers ds
same_answers _ ds quiet_none = refl
same_answers _ ds (quiet_scan w n xs q) = same_answers xs ds q
same_answers _ ds (quiet_row r k n xs q) = same_answers xs ds q
same_answers _ ds (quiet_key k n xs q) = same_answers xs ds q

pub did_tail : (z : TableSize) (xs ds : List Step) → DeskDid z (xs ++ ds) → DeskDid z ds
did_tail z [] ds did = did
did_tail z (x ∷ xs) ds did = did_tail z xs ds did.0

-- ---- a free slot comes to hold a session that no other excludes

pub slots_added : (z : TableSize) (ds es : List Step) (ss : List Slot) (i : ℕ) (s : Slot) → AreSlots z ds ss → OnlyAt ds es i → i < z.slots → SlotFits es i s → IsAlone z ss s.session.key → AreSlots z es (set ss i s)
slots_added z ds es ss i s a o lt f alone = let inside : i < length ss = subst (λ (n : ℕ). i < n) (sym a.count) lt in record {
  count = length-set ss i s ∙ a.count;
  fits = λ j l. number_case j i
      (λ (e : j ≡ i). subst (λ (k : ℕ). SlotFits es k (slot_in (set ss i s) k)) (sym e) (subst (SlotFits es i) (sym (here ss i s inside)) f))
      (λ (n : j ≢ i). subst (SlotFits es j) (sym (else_where ss i j s n)) (fits_else ds es i j (slot_in ss j) o n (a.fits j l)));
  alone = λ j k lj lk tj tk x. number_case j i
      (λ (ej : j ≡ i). number_case k i
      (λ (ek : k ≡ i). ej ∙ sym ek)
      (λ (nk : k ≢ i). let hj : slot_in (set ss i s) j ≡ s = ap (slot_in (set ss i s)) ej ∙ here ss i s inside in let hk = else_where ss i k s nk in
      absurd (alone k lk (ap (λ (y : Slot). is_taken y.taken) (sym hk) ∙ tk)
      (excludes_turn s.session.key (session_in ss k).key (ap (λ (y : Slot). excludes y.session.key (session_in ss k).key) (sym hj) ∙ ap (λ (y : Slot). excludes (session_in (set ss i s) j).key y.session.key) (sym hk) ∙ x)))))
      (λ (nj : j ≢ i). let hj = else_where ss i j s nj in number_case k i
      (λ (ek : k ≡ i). let hk : slot_in (set ss i s) k ≡ s = ap (slot_in (set ss i s)) ek ∙ here ss i s inside in
      absurd (alone j lj (ap (λ (y : Slot). is_taken y.taken) (sym hj) ∙ tj)
      (ap (λ (y : Slot). excludes y.session.key s.session.key) (sym hj) ∙ ap (λ (y : Slot). excludes (session_in (set ss i s) j).key y.session.key) (sym hk) ∙ x)))
      (λ (nk : k ≢ i). let hk = else_where ss i k s nk in
      a.alone j k lj lk (ap (λ (y : Slot). is_taken y.taken) (sym hj) ∙ tj) (ap (λ (y : Slot). is_taken y.taken) (sym hk) ∙ tk)
      (ap (λ (y : Slot). excludes y.session.key (session_in ss k).key) (sym hj) ∙ ap (λ (y : Slot). excludes (session_in (set ss i s) j).key y.session.key) (sym hk) ∙ x)));
}

pub free_is_not_live : (u : Use) → is_taken u ≡ false → is_live u ≡ false
free_is_not_live Free e = refl
free_is_not_live Reserved e = absurd (true_ne_false e)
free_is_not_live Live e = absurd (true_ne_false e)

pub free_is_not_reserving : (u : Use) → is_taken u ≡ false → is_reserving u ≡ false
free_is_not_reserving Free e = refl
free_is_not_reserving Live e = refl
free_is_not_reserving Reserved e = absurd (true_ne_false e)

pub reserve_kept : (z : TableSize) (ds es : List Step) (rb rc : Rows) (ss : List Slot) (ls rs ks far gar : List ℕ) (i : ℕ) (s : Slot) → IsKept z ds rb ss ls rs ks far
    → i < z.slots → is_taken (taken_in ss i) ≡ false → s.taken ≡ Reserved → OnlyAt ds es i → SlotFits es i s → IsAlone z ss s.session.key
    → RowsFit z es rc → desk_answers es ≡ desk_answers ds
    → Reaches z (set ss i s) gar → length gar ≡ z.slots → ((j : ℕ) → get_or gar j 0 ≤ z.slots)
    → IsKept z es rc (set ss i s) ls (rs ++ i ∷ []) (ks ++ i ∷ []) gar
reserve_kept z ds es rb rc ss ls rs ks far gar i s k lt free is o f alone rows answers reach width range = let inside : i < length ss = subst (λ (n : ℕ). i < n) (sym k.slots.count) lt in record {
  limits = k.limits;
  slots = slots_added z ds es ss i s k.slots o lt f alone;
  live = order_same is_live ss ls i s k.live inside (ap is_live is ∙ sym (free_is_not_live (taken_in ss i) free));
  reserved = order_add is_reserving ss rs i s k.reserved inside (free_is_not_reserving (taken_in ss i) free) (ap is_reserving is);
  taken = order_add is_taken ss ks i s k.taken inside free (ap is_taken is);
  rows = rows;
  lines = map_else (λ j. line_of (session_in (set ss i s) j)) (λ j. line_of (session_in ss j)) i ls (no_member is_live ss ls i k.live (free_is_not_live (taken_in ss i) free)) (λ j m. ap (λ (x : Slot). line_of x.session) (else_where ss i j s m)) ∙ k.lines ∙ ap lines_left (sym answers);
  reach = reach;
  width = width;
  range = range;
}
