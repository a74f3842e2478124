-- The words of slots and rows fit the desk's list, after every step.
use Rattle.std.proofs.Common.{◌≡◌, ◌≢◌, ⊎_elim, ℕ, ◌+◌, ◌-◌, ◌*◌, ◌%◌, ◌^◌, ◌<◌, ◌≤◌, ◌==◌, Bool, true, false, not, List, ◌∷◌, length, get_or, get_or-set_other, get_or-set_same, length-set, set, sym, refl, ap, ◌∙◌, subst, arith, eq-eqb, ne_eqb}
use Rattle.std.proofs.lemmas.Bool.{eqb-true}
use Rattle.std.specs.Int.Bits.{bit_and, bit_or, bit_xor}
use lib.Seq.{set-get_or}
use Rattle.slot_word.specs.Fields.{sequence_unit, closed_bit, greatest_generation, greatest_row, sequence_in, generation_in, row_in, is_open_word, word_of}
use Rattle.slot_word.proofs.Laws.{word_has, drawn, closing_keeps, closing_closes, opening_keeps, opening_opens, exchanged}
use Rattle.session_world.specs.declared.steps.TableSize.{TableSize}
use Rattle.session_world.specs.declared.steps.Step.{Step}
use Rattle.session_world.specs.declared.steps.Step.TheVariants.{WriteRow, WriteKey, ReserveNew, Start, Split, Reconfigure, Close, Peek, Expire, Join, Scan, ReserveUsed}
use Rattle.session_world.specs.Sizes.{IsWithinLimits}
use Rattle.session_world.specs.Words.{slot_at, key_at, row_at, announced_at, count_of_words, word_index, word_after, HasRead, words_after}
use Rattle.session_world.specs.Desk.{is_open, generation_of, row_of, key_word_of, is_reserved, row_word_of}
use Rattle.session_world.specs.Allowed.{DeskDid, DeskMay}
use Rattle.session_world.proofs.BoolFacts.{true_ne_false, bool, both, or_l, number_case}
use Rattle.session_world.proofs.DeskFacts.{reserved_closed, open_inside, row_fits}

-- the word n is that of a slot that is open or not, with its generation and row. Where it is reserved its sequence number is 0
pub record SlotWord (n : ℕ) (o : Bool) (g r : ℕ) (res : Bool) : Type 0 where
  pub small : n < 2 ^ 64
  pub opened : is_open_word n ≡ o
  pub generation : generation_in n ≡ g
  pub row : row_in n ≡ r
  pub fresh : res ≡ true → sequence_in n ≡ 0

abbrev pub SlotFits : ℕ → List Step → ℕ → Type 0
SlotFits n ds i = SlotWord n (is_open ds i) (generation_of ds i) (row_of ds i) (is_reserved ds i)

pub record WordsFit (z : TableSize) (ws : List ℕ) (ds : List Step) : Type 0 where
  pub wide : length ws ≡ count_of_words z
  pub slots : (i : ℕ) → i < z.slots → SlotFits (get_or ws (slot_at i) 0) ds i
  pub keys : (i k : ℕ) → i < z.slots → 0 < k → k < 5 → get_or ws (key_at i k) 0 ≡ key_word_of ds i k
  pub rows : (r k : ℕ) → 0 < r → r ≤ z.rows → 0 < k → k < 13 → get_or ws (row_at z r k) 0 ≡ row_word_of ds r k

-- a step that sets the word of one slot
slot_set : (z : TableSize) (ws : List ℕ) (ds es : List Step) (slot x : ℕ) → WordsFit z ws ds → slot < z.slots → SlotFits x es slot
    → ((i n : ℕ) → i ≢ slot → SlotFits n ds i → SlotFits n es i)
    → ((i k : ℕ) → key_word_of es i k ≡ key_word_of ds i k) → ((r k : ℕ) → row_word_of es r k ≡ row_word_of ds r k)
    → WordsFit z (set ws (slot_at slot) x) es
slot_set z ws ds es slot x f lt it others keys rows = let wide = f.wide in record {
  wide = length-set ws (slot_at slot) x ∙ f.wide;
  slots = λ i il. number_case i slot
      (λ (e : i ≡ slot). subst (λ (j : ℕ). SlotFits (get_or (set ws (slot_at slot) x) (slot_at j) 0) es j) (sym e)
      (subst (λ (n : ℕ). SlotFits n es slot) (sym (get_or-set_same ws (slot_at slot) x 0 (omega (arith, wide, lt)))) it))
      (λ (n : i ≢ slot). subst (λ (m : ℕ). SlotFits m es i) (sym (get_or-set_other ws (slot_at slot) (slot_at i) x 0 (λ e. omega (arith, e, n)))) (others i (get_or ws (slot_at i) 0) n (f.slots i il)));
  keys = λ i k il lo hi. get_or-set_other ws (slot_at slot) (key_at i k) x 0 (λ e. omega (arith, e, lo, hi)) ∙ (f.keys i k il lo hi ∙ sym (keys i k));
  rows = λ r k rl rh lo hi. get_or-set_other ws (slot_at slot) (row_at z r k) x 0 (λ e. omega (arith, e, lt)) ∙ (f.rows r k rl rh lo hi ∙ sym (rows r k));
}

-- a step that leaves the words, and says nothing of slots and rows
same_words : (z : TableSize) (ws : List ℕ) (p : ℕ) (ds : List Step) → WordsFit z ws ds → WordsFit z (set ws p (get_or ws p 0)) ds
same_words z ws p ds f = subst (λ (xs : List ℕ). WordsFit z xs ds) (sym (set-get_or ws p 0)) f

-- a step that sets a word behind those of slots and rows
far_set : (z : TableSize) (ws : List ℕ) (ds : List Step) (p x : ℕ) → 5 * z.slots + 12 * z.rows ≤ p → WordsFit z ws ds → WordsFit z (set ws p x) ds
far_set z ws ds p x far f = record {
  wide = length-set ws p x ∙ f.wide;
  slots = λ i il. subst (λ (m : ℕ). SlotFits m ds i) (sym (get_or-set_other ws p (slot_at i) x 0 (λ e. omega (arith, e, il, far)))) (f.slots i il);
  keys = λ i k il lo hi. get_or-set_other ws p (key_at i k) x 0 (λ e. omega (arith, e, il, far, lo, hi)) ∙ f.keys i k il lo hi;
  rows = λ r k rl rh lo hi. get_or-set_other ws p (row_at z r k) x 0 (λ e. omega (arith, e, rl, rh, far, lo, hi)) ∙ f.rows r k rl rh lo hi;
}

key_set : (z : TableSize) (ws : List ℕ) (ds : List Step) (slot index word : ℕ) → WordsFit z ws ds → slot < z.slots → 0 < index → index < 5 → WordsFit z (set ws (key_at slot index) word) (WriteKey slot index word ∷ ds)
key_set z ws ds slot index word f lt a b = let wide = f.wide in record {
  wide = length-set ws (key_at slot index) word ∙ f.wide;
  slots = λ i il. let g = f.slots i il in subst (λ (m : ℕ). SlotFits m (WriteKey slot index word ∷ ds) i) (sym (get_or-set_other ws (key_at slot index) (slot_at i) word 0 (λ e. omega (arith, e, a, b))))
      (record { small = g.small; opened = g.opened; generation = g.generation; row = g.row; fresh = λ r. g.fresh (both (not (i == slot)) (is_reserved ds i) r).1 });
  keys = λ i k il lo hi. number_case i slot
      (λ (x : i ≡ slot). number_case k index
      (λ (y : k ≡ index). subst (λ (p : ℕ × ℕ). get_or (set ws (key_at slot index) word) (key_at p.0 p.1) 0 ≡ key_word_of (WriteKey slot index word ∷ ds) p.0 p.1) (λ m. (sym x m, sym y m))
      (rw (eq-eqb slot slot refl, eq-eqb index index refl) (get_or-set_same ws (key_at slot index) word 0 (omega (arith, wide, lt, a, b)))))
      (λ (y : k ≢ index). rw (eq-eqb i slot x, ne_eqb k index y) (get_or-set_other ws (key_at slot index) (key_at i k) word 0 (λ e. omega (arith, e, x, y)) ∙ f.keys i k il lo hi)))
      (λ (x : i ≢ slot). rw (ne_eqb i slot x) (get_or-set_other ws (key_at slot index) (key_at i k) word 0 (λ e. omega (arith, e, x, a, b, lo, hi)) ∙ f.keys i k il lo hi));
  rows = λ r k rl rh lo hi. get_or-set_other ws (key_at slot index) (row_at z r k) word 0 (λ e. omega (arith, e, lt, a, b)) ∙ f.rows r k rl rh lo hi;
}

row_set : (z : TableSize) (ws : List ℕ) (ds : List Step) (row index word : ℕ) → WordsFit z ws ds → 0 < row → row ≤ z.rows → 0 < index → index < 13 → WordsFit z (set ws (row_at z row index) word) (WriteRow row index word ∷ ds)
row_set z ws ds row index word f r0 r1 a b = let wide = f.wide in let p : ℕ = row_at z row index in record {
  wide = length-set ws p word ∙ f.wide;
  slots = λ i il. let g = f.slots i il in subst (λ (m : ℕ). SlotFits m (WriteRow row index word ∷ ds) i) (sym (get_or-set_other ws p (slot_at i) word 0 (λ e. omega (arith, e, il))))
      (record { small = g.small; opened = g.opened; generation = g.generation; row = g.row; fresh = g.fresh });
  keys = λ i k il lo hi. get_or-set_other ws p (key_at i k) word 0 (λ e. omega (arith, e, il, lo, hi)) ∙ f.keys i k il lo hi;
  rows = λ r k rl rh lo hi. number_case r row
      (λ (x : r ≡ row). number_case k index
      (λ (y : k ≡ index). subst (λ (q : ℕ × ℕ). get_or (set ws p word) (row_at z q.0 q.1) 0 ≡ row_word_of (WriteRow row index word ∷ ds) q.0 q.1) (λ m. (sym x m, sym y m))
      (rw (eq-eqb row row refl, eq-eqb index index refl) (get_or-set_same ws p word 0 (omega (arith, wide, r0, r1, a, b)))))
      (λ (y : k ≢ index). rw (eq-eqb r row x, ne_eqb k index y) (get_or-set_other ws p (row_at z r k) word 0 (λ e. omega (arith, e, x, y, a, lo)) ∙ f.rows r k rl rh lo hi)))
      (λ (x : r ≢ row). rw (ne_eqb r row x) (get_or-set_other ws p (row_at z r k) word 0 (λ e. omega (arith, e, x, a, b, lo, hi, r0, rl)) ∙ f.rows r k rl rh lo hi));
}

-- ---- a slot's word after a step on it

reserved_word : (g row : ℕ) → g ≤ greatest_generation → row ≤ greatest_row → SlotWord (word_of 0 g row true) false g row true
reserved_word g row hg hr = let h = word_has 0 g row true (omega arith) hg hr in record { small = h.small; opened = h.is_open; generation = h.generation; row = h.row; fresh = λ _. h.sequence }

started_word : (n : ℕ) (o : Bool) (g r : ℕ) (res : Bool) → SlotWord n o g r res → SlotWord (bit_and n (2 ^ 64 - 2)) true g r false
started_word n o g r res f = let k = opening_keeps n f.small in record {
  small = k.small f.small;
  opened = opening_opens n f.small;
  generation = k.generation ∙ f.generation;
  row = k.row ∙ f.row;
  fresh = λ e. absurd (true_ne_false (sym e));
}

closed_word : (n : ℕ) (o : Bool) (g r : ℕ) (res : Bool) → SlotWord n o g r res → SlotWord (bit_or n (closed_bit true)) false g r res
closed_word n o g r res f = let k = closing_keeps n in record {
  small = k.small f.small;
  opened = closing_closes n;
  generation = k.generation ∙ f.generation;
  row = k.row ∙ f.row;
  fresh = λ e. k.sequence ∙ f.fresh e;
}

exchanged_word : (n : ℕ) (o : Bool) (g r : ℕ) (res : Bool) (old new : ℕ) → old ≡ r → new ≤ greatest_row → SlotWord n o g r res → SlotWord (bit_xor n (bit_xor old new * 2)) o g new res
exchanged_word n o g r res old new e l f = let x = exchanged n old new (f.row ∙ sym e) l in record {
  small = x.small f.small;
  opened = x.is_open ∙ f.opened;
  generation = x.generation ∙ f.generation;
  row = x.row;
  fresh = λ e. x.sequence ∙ f.fresh e;
}

pub drawn_word : (n : ℕ) (o : Bool) (g r : ℕ) (res : Bool) → res ≡ false → SlotWord n o g r res → SlotWord ((n + sequence_unit) % 2 ^ 64) o g r res
drawn_word n o g r res e f = let d = drawn n in record {
  small = d.small;
  opened = d.is_open ∙ f.opened;
  generation = d.generation ∙ f.generation;
  row = d.row ∙ f.row;
  fresh = λ x. absurd (true_ne_false (sym x ∙ e));
}

-- ---- the desk's steps

pub desk_fits : (z : TableSize) (ws : List ℕ) (ds : List Step) (s : Step) → IsWithinLimits z → WordsFit z ws ds → DeskDid z ds → DeskMay z ds s → HasRead s (get_or ws (word_index z 0 s) 0) → WordsFit z (words_after z ws 0 s) (s ∷ ds)
desk_fits z ws ds (WriteRow row index word) within f did may has_read = row_set z ws ds row index word f may.0 may.1 may.2 may.3
desk_fits z ws ds (WriteKey slot index word) within f did may has_read = key_set z ws ds slot index word f may.0 may.1 may.2
desk_fits z ws ds (ReserveNew slot row) within f did may has_read =
    let shut : is_open ds slot ≡ false = reserved_closed z (ReserveNew slot row ∷ ds) (did, may) slot (or_l (slot == slot) (is_reserved ds slot) (eq-eqb slot slot refl)) in
    slot_set z ws ds (ReserveNew slot row ∷ ds) slot (word_of 0 1 row true) f may.1.inside
    (rw (eq-eqb slot slot refl, shut) (reserved_word 1 row (omega arith) (row_fits z ds within did row may.1.complete)))
    (λ i n x g. rw (ne_eqb i slot x) g) (λ i k. refl) (λ r k. refl)
desk_fits z ws ds (ReserveUsed slot g row) within f did may has_read =
    let shut : is_open ds slot ≡ false = may.1.closed in let e = may.0 in let l = may.1.left in
    slot_set z ws ds (ReserveUsed slot g row ∷ ds) slot (word_of 0 g row true) f may.2.inside
    (rw (eq-eqb slot slot refl, shut) (reserved_word g row (omega (arith, e, l)) (row_fits z ds within did row may.2.complete)))
    (λ i n x g. rw (ne_eqb i slot x) g) (λ i k. refl) (λ r k. refl)
desk_fits z ws ds (Start slot read) within f did may has_read = slot_set z ws ds (Start slot read ∷ ds) slot (bit_and (get_or ws (slot_at slot) 0) (2 ^ 64 - 2)) f may.0
    (rw (eq-eqb slot slot refl) (started_word (get_or ws (slot_at slot) 0) (is_open ds slot) (generation_of ds slot) (row_of ds slot) (is_reserved ds slot) (f.slots slot may.0)))
    (λ i n x g. rw (ne_eqb i slot x) g) (λ i k. refl) (λ r k. refl)
desk_fits z ws ds (Reconfigure slot old new read) within f did may has_read = let lt = open_inside z ds did slot may.0 in
    slot_set z ws ds (Reconfigure slot old new read ∷ ds) slot (bit_xor (get_or ws (slot_at slot) 0) (bit_xor old new * 2)) f lt
    (rw (eq-eqb slot slot refl) (exchanged_word (get_or ws (slot_at slot) 0) (is_open ds slot) (generation_of ds slot) (row_of ds slot) (is_reserved ds slot) old new may.1 (row_fits z ds within did new may.2) (f.slots slot lt)))
    (λ i n x g. rw (ne_eqb i slot x) g) (λ i k. refl) (λ r k. refl)
desk_fits z ws ds (Close slot read) within f did may has_read = let lt = open_inside z ds did slot may in
    slot_set z ws ds (Close slot read ∷ ds) slot (bit_or (get_or ws (slot_at slot) 0) (closed_bit true)) f lt
    (rw (eq-eqb slot slot refl) (closed_word (get_or ws (slot_at slot) 0) (is_open ds slot) (generation_of ds slot) (row_of ds slot) (is_reserved ds slot) (f.slots slot lt)))
    (λ i n x g. rw (ne_eqb i slot x) g) (λ i k. refl) (λ r k. refl)
desk_fits z ws ds (Peek slot read) within f did may has_read = let lt = open_inside z ds did slot may in
    slot_set z ws ds (Peek slot read ∷ ds) slot (get_or ws (slot_at slot) 0) f lt (f.slots slot lt) (λ i n x g. g) (λ i k. refl) (λ r k. refl)
desk_fits z ws ds (Expire slot expected read) within f did may has_read = let lt = open_inside z ds did slot may.0 in let n : ℕ = get_or ws (slot_at slot) 0 in let g = f.slots slot lt in
    slot_set z ws ds (Expire slot expected read ∷ ds) slot (word_after (Expire slot expected read) n) f lt (⊎_elim
    (λ (e : (read == expected) ≡ true). let here : n ≡ expected = sym has_read ∙ eqb-true read expected e in
    rw (eq-eqb slot slot refl, e, eq-eqb n expected here) (subst (λ (m : ℕ). SlotWord (bit_or m (closed_bit true)) false (generation_of ds slot) (row_of ds slot) (is_reserved ds slot)) here (closed_word n (is_open ds slot) (generation_of ds slot) (row_of ds slot) (is_reserved ds slot) g)))
    (λ (e : (read == expected) ≡ false). let other : (n == expected) ≡ false = ap (λ (m : ℕ). m == expected) (sym has_read) ∙ e in rw (eq-eqb slot slot refl, e, other) g)
    (bool (read == expected)))
    (λ i m x h. rw (ne_eqb i slot x) h) (λ i k. refl) (λ r k. refl)
desk_fits z ws ds (Split worker read) within f did may has_read = let g = same_words z ws 0 ds f in record { wide = g.wide; slots = g.slots; keys = g.keys; rows = g.rows }
desk_fits z ws ds (Join worker read) within f did may has_read = let g = same_words z ws 0 ds f in record { wide = g.wide; slots = g.slots; keys = g.keys; rows = g.rows }
desk_fits z ws ds (Scan worker read) within f did may has_read = let g = same_words z ws (announced_at z worker) ds f in record { wide = g.wide; slots = g.slots; keys = g.keys; rows = g.rows }
desk_fits z ws ds _ within f did may has_read = absurd may

-- ---- the workers' steps

pub load_fits : (z : TableSize) (ws : List ℕ) (p : ℕ) (ds : List Step) → WordsFit z ws ds → WordsFit z (set ws p (get_or ws p 0)) ds
load_fits z ws p ds f = same_words z ws p ds f

pub announce_fits : (z : TableSize) (ws : List ℕ) (ds : List Step) (w x : ℕ) → WordsFit z ws ds → WordsFit z (set ws (announced_at z w) x) ds
announce_fits z ws ds w x f = far_set z ws ds (announced_at z w) x (omega arith) f

pub draw_fits : (z : TableSize) (ws : List ℕ) (ds : List Step) (slot : ℕ) → slot < z.slots → is_reserved ds slot ≡ false → WordsFit z ws ds → WordsFit z (set ws (slot_at slot) ((get_or ws (slot_at slot) 0 + sequence_unit) % 2 ^ 64)) ds
draw_fits z ws ds slot lt unreserved f = slot_set z ws ds ds slot ((get_or ws (slot_at slot) 0 + sequence_unit) % 2 ^ 64) f lt
    (drawn_word (get_or ws (slot_at slot) 0) (is_open ds slot) (generation_of ds slot) (row_of ds slot) (is_reserved ds slot) unreserved (f.slots slot lt)) (λ i n x g. g) (λ i k. refl) (λ r k. refl)
