-- What the desk's list says after it has scanned, and written key words and a row.
use Rattle.std.proofs.Common.{◌≡◌, ◌≢◌, ⊎_elim, ℕ, zero, suc, ◌+◌, ◌-◌, ◌*◌, ◌<◌, ◌≤◌, ◌==◌, true, false, ◌&&◌, not, List, [], ◌∷◌, ◌++◌, length, get_or, set, sym, refl, ap, ◌∙◌, subst, arith, add-one, eq-eqb, ne_eqb}
use Rattle.std.proofs.lemmas.List.{get_or-set_same, get_or-set_other}
use Rattle.refl_types.specs.declared.config.ConfigParts.{ConfigParts}
use Rattle.refl_types.specs.Spelling.{FitsConfig}
use Rattle.refl_types.specs.declared.outcome.Place.{Place}
use Rattle.std.proofs.lemmas.Option.{slice_get_within}
use Rattle.config_rows.specs.Rows.{Rows, IsRow, IsNext, IsSought}
use Rattle.config_rows.specs.declared.book.Sought.TheVariants.{RowsFull}
use Rattle.config_rows.specs.Words.{row_words, words_of, config_of_words, AreConfigWords}
use Rattle.session_key.specs.Words.{key_words, AreKeyWords, key_of_words, extra_of_words}
use Rattle.slot_word.specs.Fields.{greatest_generation}
use Rattle.session_world.specs.declared.steps.TableSize.{TableSize}
use Rattle.session_world.specs.declared.steps.Step.{Step}
use Rattle.session_world.specs.declared.steps.Step.TheVariants.{WriteRow, WriteKey, Scan}
use Rattle.session_world.specs.Keys.{Key, Extra, put, row_list, config_of, IsConfigRow, key_list, key_of, extra_of, IsKey}
use Rattle.session_world.specs.Desk.{rows_written, row_word_of, config_at, generation_of, is_open, scanned_since, written_since, key_word_of, key_of_slot, extra_of_slot, IsComplete, HasPath, start_of_key, MayReuse}
use Rattle.session_world.specs.Allowed.{DeskMay, MayReserve}
use Rattle.session_desk.proofs.BoolFacts.{number_case, or_l, or_r, and_i, not_false, no_or}
use Rattle.session_rule.specs.declared.seats.Table.{Table}
use Rattle.session_rule.specs.declared.seats.Seat.{Seat}
use Rattle.session_rule.specs.Seats.{desk_steps, DeskHasMade}
use Rattle.session_desk.specs.Kept.{RowsFit}
use Rattle.session_desk.specs.Writes.{key_writes, row_writes, scans_of, is_named, reserve_step, IsReady, HasRow, HasAdded}

-- ---- scans

scans_set : (m k n : ℕ) (words : List ℕ) → m ≤ k → scans_of m (set words k n) ≡ scans_of m words
scans_set zero k n words le = refl
scans_set (suc m) k n words le = λ p. Scan (suc m) (get_or-set_other words k m n 0 (λ (e : m ≡ k). omega (arith, e, le)) p) ∷ scans_set m k n words (omega (arith, le)) p

pub scan_more : (t : Table) (before seat after : Seat) (m n : ℕ) (words : List ℕ) → HasAdded t before seat (scans_of m words) → m < length words → DeskHasMade t seat after (Scan (m + 1) n) → HasAdded t before after (scans_of (m + 1) (set words m n))
scan_more t before seat after m n words h lt made = subst (λ (q : ℕ). HasAdded t before after (scans_of q (set words m n))) (sym (add-one m)) (record {
  steps = made.step ∙ (λ p. Scan (add-one m p) (sym (get_or-set_same words m n 0 lt) p) ∷ h.steps p) ∙ ap (λ (xs : List Step). Scan (suc m) (get_or (set words m n) m 0) ∷ xs ++ desk_steps before) (sym (scans_set m m n words (omega arith)));
  joined = made.joined ∙ h.joined;
  seat = made.seat;
  schedule = made.schedule;
})

-- ---- rows

pub rows_counted : (row n : ℕ) (words : List ℕ) (ds : List Step) → rows_written (row_writes row words n ++ ds) ≡ n + rows_written ds
rows_counted row zero words ds = omega arith
rows_counted row (suc n) words ds = let h = rows_counted row n words ds in omega (arith, h)

pub row_word : (row n k : ℕ) (words : List ℕ) (ds : List Step) → k < n → row_word_of (row_writes row words n ++ ds) row (suc k) ≡ get_or words k 0
row_word row zero k words ds lt = absurd (omega (arith, lt))
row_word row (suc n) k words ds lt = rw (eq-eqb row row refl) (number_case (suc k) (suc n)
    (λ (e : suc k ≡ suc n). rw (eq-eqb (suc k) (suc n) e) (ap (λ (j : ℕ). get_or words j 0) (omega (arith, e))))
    (λ (m : suc k ≢ suc n). rw (ne_eqb (suc k) (suc n) m) (row_word row n k words ds (omega (arith, lt, m)))))

pub other_row : (row n r k : ℕ) (words : List ℕ) (ds : List Step) → r ≢ row → row_word_of (row_writes row words n ++ ds) r k ≡ row_word_of ds r k
other_row row zero r k words ds m = refl
other_row row (suc n) r k words ds m = rw (ne_eqb r row m) (other_row row n r k words ds m)

spelled : (c : ConfigParts) → get_or (row_words c) 0 0 ∷ get_or (row_words c) 1 0 ∷ get_or (row_words c) 2 0 ∷ get_or (row_words c) 3 0 ∷ get_or (row_words c) 4 0 ∷ get_or (row_words c) 5 0 ∷ get_or (row_words c) 6 0 ∷ get_or (row_words c) 7 0 ∷ get_or (row_words c) 8 0 ∷ get_or (row_words c) 9 0 ∷ get_or (row_words c) 10 0 ∷ get_or (row_words c) 11 0 ∷ [] ≡ row_words c
unfolding row_words words_of
spelled c = refl

row_list_is : (f : ℕ → ℕ) (c : ConfigParts) → ((k : ℕ) → k < 12 → f (suc k) ≡ get_or (row_words c) k 0) → row_list f ≡ row_words c
row_list_is f c each = (λ p. each 0 (omega arith) p ∷ each 1 (omega arith) p ∷ each 2 (omega arith) p ∷ each 3 (omega arith) p ∷ each 4 (omega arith) p ∷ each 5 (omega arith) p ∷ each 6 (omega arith) p ∷ each 7 (omega arith) p ∷ each 8 (omega arith) p ∷ each 9 (omega arith) p ∷ each 10 (omega arith) p ∷ each 11 (omega arith) p ∷ []) ∙ spelled c

pub config_is : (f : ℕ → ℕ) (c : ConfigParts) → ((k : ℕ) → k < 12 → f (suc k) ≡ get_or (row_words c) k 0) → config_of_words (row_words c) ≡ c → config_of f ≡ c
unfolding config_of
config_is f c each back = ap config_of_words (row_list_is f c each) ∙ back

is_row : (f : ℕ → ℕ) (c : ConfigParts) → ((k : ℕ) → k < 12 → f (suc k) ≡ get_or (row_words c) k 0) → AreConfigWords (row_words c) → IsConfigRow f
unfolding IsConfigRow
is_row f c each are = subst AreConfigWords (sym (row_list_is f c each)) are

pub config_written : (row : ℕ) (ds : List Step) (c : ConfigParts) → config_of_words (row_words c) ≡ c → config_at (row_writes row (row_words c) 12 ++ ds) row ≡ c
config_written row ds c back = config_is (row_word_of (row_writes row (row_words c) 12 ++ ds) row) c (λ k lt. row_word row 12 k (row_words c) ds lt) back

pub config_other : (row n r : ℕ) (words : List ℕ) (ds : List Step) → r ≢ row → config_at (row_writes row words n ++ ds) r ≡ config_at ds r
config_other row n r words ds m = λ p. config_of (λ k. other_row row n r k words ds m p)

pub row_may : (z : TableSize) (ds : List Step) (c : ConfigParts) (row n : ℕ) → 0 < row → row ≤ z.rows → 12 * (row - 1) ≡ rows_written ds → ((r : ℕ) → 0 < r → r < row → ¬ (config_at ds r ≡ c)) → AreConfigWords (row_words c) → config_of_words (row_words c) ≡ c → n < 12
    → DeskMay z (row_writes row (row_words c) n ++ ds) (WriteRow row (n + 1) (get_or (row_words c) n 0))
row_may z ds c row n pos le next new are back lt = let h = rows_counted row n (row_words c) ds in (
  pos,
  le,
  omega arith,
  omega (arith, lt),
  omega (arith, h, next),
  (λ (e : n + 1 ≡ 12).
      let f : ℕ → ℕ = put (row_word_of (row_writes row (row_words c) n ++ ds) row) 12 (get_or (row_words c) n 0) in
      let each : (k : ℕ) → k < 12 → f (suc k) ≡ get_or (row_words c) k 0 = λ (k : ℕ) (l : k < 12). number_case (suc k) 12
      (λ (x : suc k ≡ 12). rw (eq-eqb (suc k) 12 x) (ap (λ (j : ℕ). get_or (row_words c) j 0) (omega (arith, e, x))))
      (λ (x : suc k ≢ 12). rw (ne_eqb (suc k) 12 x) (row_word row n k (row_words c) ds (omega (arith, e, l, x)))) in
      (is_row f c each are, λ r p l same. new r p l (sym (config_other row n r (row_words c) ds (λ (x : r ≡ row). omega (arith, x, l))) ∙ same ∙ config_is f c each back))),
)

-- ---- key words

pub key_word : (i n k : ℕ) (words : List ℕ) (ds : List Step) → k < n → key_word_of (key_writes i words n ++ ds) i (suc k) ≡ get_or words k 0
key_word i zero k words ds lt = absurd (omega (arith, lt))
key_word i (suc n) k words ds lt = rw (eq-eqb i i refl) (number_case (suc k) (suc n)
    (λ (e : suc k ≡ suc n). rw (eq-eqb (suc k) (suc n) e) (ap (λ (j : ℕ). get_or words j 0) (omega (arith, e))))
    (λ (m : suc k ≢ suc n). rw (ne_eqb (suc k) (suc n) m) (key_word i n k words ds (omega (arith, lt, m)))))

pub key_written : (i n k : ℕ) (words : List ℕ) (ds : List Step) → k < n → written_since (key_writes i words n ++ ds) i (suc k) ≡ true
key_written i zero k words ds lt = absurd (omega (arith, lt))
key_written i (suc n) k words ds lt = rw (eq-eqb i i refl) (number_case (suc k) (suc n)
    (λ (e : suc k ≡ suc n). rw (eq-eqb (suc k) (suc n) e) refl)
    (λ (m : suc k ≢ suc n). rw (ne_eqb (suc k) (suc n) m) (key_written i n k words ds (omega (arith, lt, m)))))

key_spelled : (k : Key) (x : Extra) → get_or (key_words k x) 0 0 ∷ get_or (key_words k x) 1 0 ∷ get_or (key_words k x) 2 0 ∷ get_or (key_words k x) 3 0 ∷ [] ≡ key_words k x
unfolding key_words
key_spelled k x = refl

pub key_list_is : (i : ℕ) (k : Key) (x : Extra) (ds : List Step) → key_list (key_word_of (key_writes i (key_words k x) 4 ++ ds) i) ≡ key_words k x
key_list_is i k x ds = (λ p. key_word i 4 0 (key_words k x) ds (omega arith) p ∷ key_word i 4 1 (key_words k x) ds (omega arith) p ∷ key_word i 4 2 (key_words k x) ds (omega arith) p ∷ key_word i 4 3 (key_words k x) ds (omega arith) p ∷ []) ∙ key_spelled k x

pub key_is : (i : ℕ) (k : Key) (x : Extra) (ds : List Step) → key_of_words (key_words k x) ≡ k → key_of_slot (key_writes i (key_words k x) 4 ++ ds) i ≡ k
unfolding key_of
key_is i k x ds back = ap key_of_words (key_list_is i k x ds) ∙ back

pub extra_is : (i : ℕ) (k : Key) (x : Extra) (ds : List Step) → extra_of_words (key_words k x) ≡ x → extra_of_slot (key_writes i (key_words k x) 4 ++ ds) i ≡ x
unfolding extra_of
extra_is i k x ds back = ap extra_of_words (key_list_is i k x ds) ∙ back

pub is_key : (i : ℕ) (k : Key) (x : Extra) (ds : List Step) → AreKeyWords (key_words k x) → IsKey (key_word_of (key_writes i (key_words k x) 4 ++ ds) i)
unfolding IsKey
is_key i k x ds are = subst AreKeyWords (sym (key_list_is i k x ds)) are

-- ---- none of these steps opens, closes or reserves a slot, and only slot i gets key words

pub data IsQuiet (i : ℕ) : List Step → Type 0 where
  quiet_none : IsQuiet i []
  quiet_scan : (w n : ℕ) (xs : List Step) → IsQuiet i xs → IsQuiet i (Scan w n ∷ xs)
  quiet_row : (r k n : ℕ) (xs : List Step) → IsQuiet i xs → IsQuiet i (WriteRow r k n ∷ xs)
  quiet_key : (k n : ℕ) (xs : List Step) → IsQuiet i xs → IsQuiet i (WriteKey i k n ∷ xs)

pub scans_quiet : {i : ℕ} (n : ℕ) (words : List ℕ) → IsQuiet i (scans_of n words)
scans_quiet zero words = quiet_none
scans_quiet (suc n) words = quiet_scan _ _ _ (scans_quiet n words)

pub rows_quiet : {i : ℕ} (row : ℕ) (words : List ℕ) (n : ℕ) → IsQuiet i (row_writes row words n)
rows_quiet row words zero = quiet_none
rows_quiet row words (suc n) = quiet_row _ _ _ _ (rows_quiet row words n)

pub keys_quiet : (i : ℕ) (words : List ℕ) (n : ℕ) → IsQuiet i (key_writes i words n)
keys_quiet i words zero = quiet_none
keys_quiet i words (suc n) = quiet_key _ _ _ (keys_quiet i words n)

pub same_generation : {i : ℕ} (xs ds : List Step) (j : ℕ) → IsQuiet i xs → generation_of (xs ++ ds) j ≡ generation_of ds j
same_generation _ ds j quiet_none = refl
same_generation _ ds j (quiet_scan w n xs q) = same_generation xs ds j q
same_generation _ ds j (quiet_row r k n xs q) = same_generation xs ds j q
same_generation _ ds j (quiet_key k n xs q) = same_generation xs ds j q

pub same_open : {i : ℕ} (xs ds : List Step) (j : ℕ) → IsQuiet i xs → is_open (xs ++ ds) j ≡ is_open ds j
same_open _ ds j quiet_none = refl
same_open _ ds j (quiet_scan w n xs q) = same_open xs ds j q
same_open _ ds j (quiet_row r k n xs q) = same_open xs ds j q
same_open _ ds j (quiet_key k n xs q) = same_open xs ds j q

pub still_scanned : {i : ℕ} (xs ds : List Step) (j w : ℕ) → IsQuiet i xs → scanned_since ds j w ≡ true → scanned_since (xs ++ ds) j w ≡ true
still_scanned _ ds j w quiet_none h = h
still_scanned _ ds j w (quiet_scan v n xs q) h = or_r ((w == v) && not (n == suc j)) (scanned_since (xs ++ ds) j w) (still_scanned xs ds j w q h)
still_scanned _ ds j w (quiet_row r k n xs q) h = still_scanned xs ds j w q h
still_scanned _ ds j w (quiet_key k n xs q) h = still_scanned xs ds j w q h

pub scans_scanned : (n : ℕ) (words : List ℕ) (ds : List Step) (j w : ℕ) → is_named n words j ≡ false → 0 < w → w ≤ n → scanned_since (scans_of n words ++ ds) j w ≡ true
scans_scanned zero words ds j w free pos le = absurd (omega (arith, pos, le))
scans_scanned (suc n) words ds j w free pos le = let f = no_or _ _ free in number_case w (suc n)
    (λ (e : w ≡ suc n). or_l _ (scanned_since (scans_of n words ++ ds) j w) (and_i _ _ (eq-eqb w (suc n) e) (not_false _ f.0)))
    (λ (m : w ≢ suc n). or_r ((w == suc n) && not (get_or words n 0 == suc j)) _ (scans_scanned n words ds j w f.1 pos (omega (arith, le, m))))

-- a slot that is closed, has a generation left and is named by no worker may be used again
pub may_reuse : (z : TableSize) (ds xs : List Step) (words : List ℕ) (j : ℕ) → IsQuiet j xs → is_open ds j ≡ false → ¬ (generation_of ds j ≡ 0) → generation_of ds j < greatest_generation → is_named z.workers words j ≡ false → MayReuse z (xs ++ (scans_of z.workers words ++ ds)) j
may_reuse z ds xs words j q shut used left free = let g = same_generation xs (scans_of z.workers words ++ ds) j q ∙ same_generation (scans_of z.workers words) ds j (scans_quiet {i = j} z.workers words) in record {
  used = λ e. used (sym g ∙ e);
  left = subst (λ (n : ℕ). n < greatest_generation) (sym g) left;
  closed = same_open xs (scans_of z.workers words ++ ds) j q ∙ same_open (scans_of z.workers words) ds j (scans_quiet {i = j} z.workers words) ∙ shut;
  scanned = λ w pos le. still_scanned xs (scans_of z.workers words ++ ds) j w q (scans_scanned z.workers words ds j w free pos le);
}

-- ---- a reserve may come last

reuse_quiet : (z : TableSize) (i : ℕ) (xs ds : List Step) → IsQuiet i xs → MayReuse z ds i → MayReuse z (xs ++ ds) i
reuse_quiet z i xs ds q m = let g = same_generation xs ds i q in record {
  used = λ e. m.used (sym g ∙ e);
  left = subst (λ (n : ℕ). n < greatest_generation) (sym g) m.left;
  closed = same_open xs ds i q ∙ m.closed;
  scanned = λ w pos le. still_scanned xs ds i w q (m.scanned w pos le);
}

pub rows_as_before : (i n : ℕ) (words : List ℕ) (ds : List Step) → rows_written (key_writes i words n ++ ds) ≡ rows_written ds
rows_as_before i zero words ds = refl
rows_as_before i (suc n) words ds = rows_as_before i n words ds

written_all : (i : ℕ) (words : List ℕ) (ds : List Step) (k : ℕ) → 0 < k → k < 5 → written_since (key_writes i words 4 ++ ds) i k ≡ true
written_all i words ds zero pos lt = absurd (omega (arith, pos))
written_all i words ds (suc k) pos lt = key_written i 4 k words ds (omega (arith, lt))

pub may_reserve : (z : TableSize) (ds made : List Step) (p : Place) (k : Key) (x : Extra) (row : ℕ) → IsReady z ds p k → IsQuiet p.slot made → IsComplete (made ++ ds) row → AreKeyWords (key_words k x) → key_of_words (key_words k x) ≡ k
    → DeskMay z (key_writes p.slot (key_words k x) 4 ++ (made ++ ds)) (reserve_step p row)
may_reserve z ds made p k x row ready quiet complete are back =
    let i = p.slot in
    let keys = key_writes i (key_words k x) 4 in
    let es = made ++ ds in
    let kq : IsQuiet i keys = keys_quiet i (key_words k x) 4 in
    let same : (j : ℕ) → generation_of (keys ++ es) j ≡ generation_of ds j = λ (j : ℕ). same_generation keys es j kq ∙ same_generation made ds j quiet in
    let may : MayReserve z (keys ++ es) i row = record {
      inside = ready.inside;
      written = written_all i (key_words k x) es;
      sound = is_key i k x es are;
      complete = (complete.0, subst (λ (n : ℕ). 12 * row ≤ n) (sym (rows_as_before i 4 (key_words k x) es)) complete.1);
      path = subst (λ (y : Key). HasPath z (keys ++ es) (start_of_key z y) i) (sym (key_is i k x es back)) (λ j l d e. ready.path j l d (sym (same j) ∙ e));
    } in
    let next = ready.next in
    number_case p.generation 1
    (λ (e : p.generation ≡ 1). rw (eq-eqb p.generation 1 e) (same i ∙ omega (arith, next, e), may))
    (λ (n : p.generation ≢ 1). rw (ne_eqb p.generation 1 n) (
      next ∙ ap (λ (g : ℕ). suc g) (sym (same i)),
      ⊎_elim (λ (z0 : generation_of ds i ≡ 0). absurd (n (next ∙ ap (λ (g : ℕ). suc g) z0))) (λ (m : MayReuse z ds i). reuse_quiet z i keys es kq (reuse_quiet z i made ds quiet m)) ready.free,
      may,
    ))

pub made_quiet : {i : ℕ} (rows rows' : Rows) (c : ConfigParts) (row : ℕ) (made : List Step) → HasRow rows rows' c row made → IsQuiet i made
made_quiet {i} rows rows' c row made h = ⊎_elim
    (λ (k : (IsRow rows c row) × (rows' ≡ rows) × (made ≡ [])). subst (IsQuiet i) (sym k.2) quiet_none)
    (λ (k : (IsNext rows c row) × (rows' ≡ record { configs = rows.configs ++ c ∷ []; limit = rows.limit }) × (made ≡ row_writes row (row_words c) 12) × FitsConfig c). subst (IsQuiet i) (sym k.2) (rows_quiet row (row_words c) 12))
    h

pub made_complete : (z : TableSize) (ds made : List Step) (rows rows' : Rows) (c : ConfigParts) (row : ℕ) → RowsFit z ds rows → HasRow rows rows' c row made → IsComplete (made ++ ds) row
made_complete z ds made rows rows' c row fit h = ⊎_elim
    (λ (k : (IsRow rows c row) × (rows' ≡ rows) × (made ≡ [])). let lt = slice_get_within rows.configs (row - 1) c k.0.1 in let w = fit.written in let pos = k.0.0 in
    (pos, subst (λ (xs : List Step). 12 * row ≤ rows_written (xs ++ ds)) (sym k.2) (omega (arith, lt, w, pos))))
    (λ (k : (IsNext rows c row) × (rows' ≡ record { configs = rows.configs ++ c ∷ []; limit = rows.limit }) × (made ≡ row_writes row (row_words c) 12) × FitsConfig c). let n = rows_counted row 12 (row_words c) ds in let w = fit.written in let e = k.0.2 in
    (omega (arith, e), subst (λ (xs : List Step). 12 * row ≤ rows_written (xs ++ ds)) (sym k.2) (omega (arith, n, w, e))))
    h

-- a configuration that has a row now was not refused one
pub has_row_left : (rows rows' : Rows) (c : ConfigParts) (row : ℕ) (made : List Step) → HasRow rows rows' c row made → ¬ IsSought rows c RowsFull
has_row_left rows rows' c row made h full = ⊎_elim
    (λ (k : (IsRow rows c row) × (rows' ≡ rows) × (made ≡ [])). full.0 row k.0)
    (λ (k : (IsNext rows c row) × (rows' ≡ record { configs = rows.configs ++ c ∷ []; limit = rows.limit }) × (made ≡ row_writes row (row_words c) 12) × FitsConfig c). let lt = k.0.1 in let e = full.1 in omega (arith, lt, e))
    h
