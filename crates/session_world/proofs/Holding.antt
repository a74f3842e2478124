-- What a worker's announcement promises of the slot that it holds, after every step.
use Rattle.std.proofs.Common.{◌≡◌, ◌≢◌, ⊎_elim, ℕ, suc, ◌+◌, ◌<◌, ◌≤◌, ◌==◌, true, false, ◌||◌, ◌&&◌, not, List, [], ◌∷◌, get_or, get_or-set_other, get_or-set_same, sym, refl, ap, ◌∙◌, subst, arith, eq-eqb, ne_eqb, Some}
use Rattle.std.proofs.lemmas.Bool.{eqb-true}
use lib.Seq.{set-get_or}
use Rattle.slot_word.specs.Fields.{is_open_word}
use Rattle.session_world.specs.declared.steps.TableSize.{TableSize}
use Rattle.session_world.specs.declared.steps.Step.{Step}
use Rattle.session_world.specs.declared.steps.Step.TheVariants.{WriteRow, WriteKey, ReserveNew, Start, Look, LoadKey, Draw, Split, LoadRow, Reconfigure, Close, Peek, Expire, Join, Announce, Retire, Scan, ReserveUsed}
use Rattle.session_world.specs.Words.{slot_at, key_at, row_at, announced_at, word_index, word_after, HasRead, words_after}
use Rattle.session_world.specs.Desk.{is_open, generation_of, key_word_of, is_reserved, scanned_since, MayReuse}
use Rattle.session_world.specs.Worker.{announced, holds}
use Rattle.session_world.specs.Allowed.{DeskDid, DeskMay, WorkerMay}
use Rattle.session_world.proofs.BoolFacts.{true_ne_false, bool, both, either_of, no_or, no_and, number_case, some_none, some_same, is_false}
use Rattle.session_world.proofs.DeskFacts.{still_used, open_used, open_inside, reserved_closed}
use Rattle.session_world.proofs.Fits.{WordsFit}

-- what is so of a slot while the worker w holds it
pub record HeldSlot (z : TableSize) (ds : List Step) (w : ℕ) (xs : List Step) (i : ℕ) : Type 0 where
  pub announces : announced xs ≡ Some i
  pub inside : i < z.slots
  pub used : ¬ (generation_of ds i ≡ 0)
  pub unreserved : is_reserved ds i ≡ false
  pub unscanned : is_open ds i ≡ false → scanned_since ds i w ≡ false

pub record Guard (z : TableSize) (ws : List ℕ) (ds : List Step) (w : ℕ) (xs : List Step) : Type 0 where
  pub low : 0 < w
  pub high : w ≤ z.workers
  pub word : (i : ℕ) → announced xs ≡ Some i → get_or ws (announced_at z w) 0 ≡ suc i
  pub held : (i : ℕ) → holds xs i ≡ true → HeldSlot z ds w xs i

-- the step writes neither the generation nor a key word of slot i
unfoldable pub Spares : Step → ℕ → Type 0
Spares (WriteKey slot index word) i = i ≢ slot
Spares (ReserveNew slot row) i = i ≢ slot
Spares (ReserveUsed slot generation row) i = i ≢ slot
Spares _ i = Unit {0}

no_reuse : (z : TableSize) (ds : List Step) (w slot i : ℕ) (xs : List Step) → 0 < w → w ≤ z.workers → HeldSlot z ds w xs i → MayReuse z ds slot → i ≢ slot
no_reuse z ds w slot i xs low high h m = λ e. true_ne_false (sym (ap (λ (j : ℕ). scanned_since ds j w) e ∙ m.scanned w low high) ∙ h.unscanned (ap (is_open ds) e ∙ m.closed))

-- no step of the desk writes them while a worker holds the slot
pub spares : (z : TableSize) (ws : List ℕ) (ds : List Step) (w : ℕ) (xs : List Step) (i : ℕ) (s : Step) → Guard z ws ds w xs → holds xs i ≡ true → DeskMay z ds s → Spares s i
unfolding Spares
spares z ws ds w xs i (WriteKey slot index word) g h may = ⊎_elim
    (λ (y : generation_of ds slot ≡ 0). λ e. (g.held i h).used (ap (generation_of ds) e ∙ y))
    (λ (y : MayReuse z ds slot). no_reuse z ds w slot i xs g.low g.high (g.held i h) y)
    may.3
spares z ws ds w xs i (ReserveNew slot row) g h may = λ e. (g.held i h).used (ap (generation_of ds) e ∙ may.0)
spares z ws ds w xs i (ReserveUsed slot generation row) g h may = no_reuse z ds w slot i xs g.low g.high (g.held i h) may.1
spares z ws ds w xs i s g h may = tt

pub record Spared (ds es : List Step) (i : ℕ) : Type 0 where
  pub generation : generation_of es i ≡ generation_of ds i
  pub key : (k : ℕ) → key_word_of es i k ≡ key_word_of ds i k
  pub unreserved : is_reserved ds i ≡ false → is_reserved es i ≡ false

pub spared : (s : Step) (ds : List Step) (i : ℕ) → Spares s i → Spared ds (s ∷ ds) i
unfolding Spares
spared (WriteKey slot index word) ds i n = record { generation = refl; key = λ k. rw (ne_eqb i slot n) refl; unreserved = λ e. rw e (no_and (not (i == slot))) }
spared (ReserveNew slot row) ds i n = record { generation = rw (ne_eqb i slot n) refl; key = λ k. refl; unreserved = λ e. rw (ne_eqb i slot n) e }
spared (ReserveUsed slot generation row) ds i n = record { generation = rw (ne_eqb i slot n) refl; key = λ k. refl; unreserved = λ e. rw (ne_eqb i slot n) e }
spared (Start slot read) ds i n = record { generation = refl; key = λ k. refl; unreserved = λ e. rw e (no_and (not (i == slot))) }
spared _ ds i n = record { generation = refl; key = λ k. refl; unreserved = λ e. e }

-- a scan of a worker that announces the slot reads its announcement
scan_reads : (z : TableSize) (ws : List ℕ) (ds : List Step) (w : ℕ) (xs : List Step) (u r i : ℕ) → Guard z ws ds w xs → holds xs i ≡ true → r ≡ get_or ws (announced_at z u) 0 → scanned_since ds i w ≡ false → (((w == u) && not (r == suc i)) || scanned_since ds i w) ≡ false
scan_reads z ws ds w xs u r i g h reads e = number_case w u
    (λ (x : w ≡ u). let same : r ≡ suc i = reads ∙ (ap (λ (k : ℕ). get_or ws (announced_at z k) 0) (sym x) ∙ g.word i (g.held i h).announces) in rw (eq-eqb w u x, eq-eqb r (suc i) same) e)
    (λ (x : w ≢ u). rw (ne_eqb w u x) e)

unscanned_after : (z : TableSize) (ws : List ℕ) (ds : List Step) (s : Step) (w : ℕ) (xs : List Step) (i : ℕ) → DeskMay z ds s → HasRead s (get_or ws (word_index z 0 s) 0) → Guard z ws ds w xs → holds xs i ≡ true → is_open (s ∷ ds) i ≡ false → scanned_since (s ∷ ds) i w ≡ false
unscanned_after z ws ds (Scan u r) w xs i may has_read g h shut = scan_reads z ws ds w xs u r i g h has_read ((g.held i h).unscanned shut)
unscanned_after z ws ds (Close slot r) w xs i may has_read g h shut = number_case i slot
    (λ (x : i ≡ slot). rw (eq-eqb i slot x) refl)
    (λ (x : i ≢ slot). rw ((g.held i h).unscanned (sym (rw (ne_eqb i slot x) refl) ∙ shut)) (no_and (not (i == slot))))
unscanned_after z ws ds (Expire slot expected r) w xs i may has_read g h shut = ⊎_elim
    (λ (x : ((i == slot) && (r == expected)) ≡ true). rw x refl)
    (λ (x : ((i == slot) && (r == expected)) ≡ false). rw ((g.held i h).unscanned (sym (rw x refl) ∙ shut)) (no_and (not ((i == slot) && (r == expected)))))
    (bool ((i == slot) && (r == expected)))
unscanned_after z ws ds (Start slot r) w xs i may has_read g h shut = (g.held i h).unscanned (no_or (i == slot) (is_open ds i) shut).1
unscanned_after z ws ds (ReserveNew slot row) w xs i may has_read g h shut = rw ((g.held i h).unscanned shut) (no_and (not (i == slot)))
unscanned_after z ws ds (ReserveUsed slot generation row) w xs i may has_read g h shut = rw ((g.held i h).unscanned shut) (no_and (not (i == slot)))
unscanned_after z ws ds _ w xs i may has_read g h shut = (g.held i h).unscanned shut

-- the desk writes no announcement word
pub announcement_kept : (z : TableSize) (ws : List ℕ) (ds : List Step) (s : Step) (w : ℕ) → DeskDid z ds → DeskMay z ds s → get_or (words_after z ws 0 s) (announced_at z w) 0 ≡ get_or ws (announced_at z w) 0
announcement_kept z ws ds (WriteRow row index word) w did may = let a = may.0 in let b = may.1 in let c = may.2 in let d = may.3 in get_or-set_other ws (row_at z row index) (announced_at z w) word 0 (λ e. omega (arith, a, b, c, d, e))
announcement_kept z ws ds (WriteKey slot index word) w did may = let a = may.0 in let b = may.2 in get_or-set_other ws (key_at slot index) (announced_at z w) word 0 (λ e. omega (arith, a, b, e))
announcement_kept z ws ds (ReserveNew slot row) w did may = let a = may.1.inside in get_or-set_other ws (slot_at slot) (announced_at z w) (word_after (ReserveNew slot row) (get_or ws (slot_at slot) 0)) 0 (λ e. omega (arith, a, e))
announcement_kept z ws ds (ReserveUsed slot g row) w did may = let a = may.2.inside in get_or-set_other ws (slot_at slot) (announced_at z w) (word_after (ReserveUsed slot g row) (get_or ws (slot_at slot) 0)) 0 (λ e. omega (arith, a, e))
announcement_kept z ws ds (Start slot r) w did may = let a = may.0 in get_or-set_other ws (slot_at slot) (announced_at z w) (word_after (Start slot r) (get_or ws (slot_at slot) 0)) 0 (λ e. omega (arith, a, e))
announcement_kept z ws ds (Reconfigure slot old new r) w did may = let a = open_inside z ds did slot may.0 in get_or-set_other ws (slot_at slot) (announced_at z w) (word_after (Reconfigure slot old new r) (get_or ws (slot_at slot) 0)) 0 (λ e. omega (arith, a, e))
announcement_kept z ws ds (Close slot r) w did may = let a = open_inside z ds did slot may in get_or-set_other ws (slot_at slot) (announced_at z w) (word_after (Close slot r) (get_or ws (slot_at slot) 0)) 0 (λ e. omega (arith, a, e))
announcement_kept z ws ds (Peek slot r) w did may = let a = open_inside z ds did slot may in get_or-set_other ws (slot_at slot) (announced_at z w) (word_after (Peek slot r) (get_or ws (slot_at slot) 0)) 0 (λ e. omega (arith, a, e))
announcement_kept z ws ds (Expire slot expected r) w did may = let a = open_inside z ds did slot may.0 in get_or-set_other ws (slot_at slot) (announced_at z w) (word_after (Expire slot expected r) (get_or ws (slot_at slot) 0)) 0 (λ e. omega (arith, a, e))
announcement_kept z ws ds (Scan u r) w did may = ap (λ (xs : List ℕ). get_or xs (announced_at z w) 0) (set-get_or ws (announced_at z u) 0)
announcement_kept z ws ds (Split u r) w did may = ap (λ (xs : List ℕ). get_or xs (announced_at z w) 0) (set-get_or ws 0 0)
announcement_kept z ws ds (Join u r) w did may = ap (λ (xs : List ℕ). get_or xs (announced_at z w) 0) (set-get_or ws 0 0)
announcement_kept z ws ds _ w did may = absurd may

-- what a desk's step does to a guard
pub desk_guard : (z : TableSize) (ws : List ℕ) (ds : List Step) (s : Step) (w : ℕ) (xs : List Step) → DeskDid z ds → DeskMay z ds s → HasRead s (get_or ws (word_index z 0 s) 0) → Guard z ws ds w xs → Guard z (words_after z ws 0 s) (s ∷ ds) w xs
desk_guard z ws ds s w xs did may has_read g = record {
  low = g.low;
  high = g.high;
  word = λ i e. announcement_kept z ws ds s w did may ∙ g.word i e;
  held = λ i h. let x = g.held i h in let y = spared s ds i (spares z ws ds w xs i s g h may) in record {
    announces = x.announces;
    inside = x.inside;
    used = still_used z ds s may i x.used;
    unreserved = y.unreserved x.unreserved;
    unscanned = unscanned_after z ws ds s w xs i may has_read g h;
  };
}

pub new_guard : (z : TableSize) (ws : List ℕ) (ds : List Step) (w : ℕ) → 0 < w → w ≤ z.workers → Guard z ws ds w []
new_guard z ws ds w low high = record { low = low; high = high; word = λ i e. absurd (some_none i e); held = λ i h. absurd (true_ne_false (sym h)) }

-- what a worker's step needs of what the worker announces and holds
abbrev pub MayHold : TableSize → List Step → Step → Type 0
MayHold z xs (Announce slot) = Unit {0}
MayHold z xs Retire = Unit {0}
MayHold z xs (Look slot query read) = (slot < z.slots) × (announced xs ≡ Some slot)
MayHold z xs (LoadKey slot index read) = Unit {0}
MayHold z xs (LoadRow row index read) = Unit {0}
MayHold z xs (Draw slot read) = holds xs slot ≡ true
MayHold z xs _ = ⊥

pub may_hold : (z : TableSize) (xs : List Step) (s : Step) → WorkerMay z xs s → MayHold z xs s
may_hold z xs (Announce slot) may = tt
may_hold z xs Retire may = tt
may_hold z xs (Look slot query n) may = may
may_hold z xs (LoadKey slot index n) may = tt
may_hold z xs (LoadRow row index n) may = tt
may_hold z xs (Draw slot n) may = may.0
may_hold z xs _ may = absurd may

-- a worker's own step
pub own_guard : (z : TableSize) (ws : List ℕ) (ds : List Step) (w : ℕ) (xs : List Step) (s : Step) → DeskDid z ds → WordsFit z ws ds → Guard z ws ds w xs → MayHold z xs s → HasRead s (get_or ws (word_index z w s) 0) → Guard z (words_after z ws w s) ds w (s ∷ xs)
own_guard z ws ds w xs (Announce slot) did f g may has_read = let lo = g.low in let hi = g.high in let wide = f.wide in record {
  low = g.low;
  high = g.high;
  word = λ i e. get_or-set_same ws (announced_at z w) (slot + 1) 0 (omega (arith, lo, hi, wide)) ∙ (let x : slot ≡ i = some_same e in omega (arith, x));
  held = λ i h. absurd (true_ne_false (sym h));
}
own_guard z ws ds w xs Retire did f g may has_read = record { low = g.low; high = g.high; word = λ i e. absurd (some_none i e); held = λ i h. absurd (true_ne_false (sym h)) }
own_guard z ws ds w xs (Look slot query n) did f g may has_read = record {
  low = g.low;
  high = g.high;
  word = λ i e. ap (λ (ys : List ℕ). get_or ys (announced_at z w) 0) (set-get_or ws (slot_at slot) 0) ∙ g.word i e;
  held = λ i h. ⊎_elim
      (λ (x : ((i == slot) && is_open_word n) ≡ true). let b = both (i == slot) (is_open_word n) x in let at : slot ≡ i = sym (eqb-true i slot b.0) in
      let o : is_open ds slot ≡ true = sym (f.slots slot may.0).opened ∙ (ap is_open_word (sym has_read) ∙ b.1) in
      subst (λ (j : ℕ). HeldSlot z ds w (Look slot query n ∷ xs) j) at (record {
        announces = may.1;
        inside = may.0;
        used = open_used z ds did slot o;
        unreserved = is_false (is_reserved ds slot) (λ r. true_ne_false (sym o ∙ reserved_closed z ds did slot r));
        unscanned = λ shut. absurd (true_ne_false (sym o ∙ shut));
      }))
      (λ (x : holds xs i ≡ true). let y = g.held i x in record { announces = y.announces; inside = y.inside; used = y.used; unreserved = y.unreserved; unscanned = y.unscanned })
      (either_of ((i == slot) && is_open_word n) (holds xs i) h);
}
own_guard z ws ds w xs (LoadKey slot index n) did f g may has_read = record {
  low = g.low;
  high = g.high;
  word = λ i e. ap (λ (ys : List ℕ). get_or ys (announced_at z w) 0) (set-get_or ws (key_at slot index) 0) ∙ g.word i e;
  held = λ i h. let y = g.held i h in record { announces = y.announces; inside = y.inside; used = y.used; unreserved = y.unreserved; unscanned = y.unscanned };
}
own_guard z ws ds w xs (LoadRow row index n) did f g may has_read = record {
  low = g.low;
  high = g.high;
  word = λ i e. ap (λ (ys : List ℕ). get_or ys (announced_at z w) 0) (set-get_or ws (row_at z row index) 0) ∙ g.word i e;
  held = λ i h. let y = g.held i h in record { announces = y.announces; inside = y.inside; used = y.used; unreserved = y.unreserved; unscanned = y.unscanned };
}
own_guard z ws ds w xs (Draw slot n) did f g may has_read = let a = (g.held slot may).inside in record {
  low = g.low;
  high = g.high;
  word = λ i e. get_or-set_other ws (slot_at slot) (announced_at z w) (word_after (Draw slot n) (get_or ws (slot_at slot) 0)) 0 (λ x. omega (arith, a, x)) ∙ g.word i e;
  held = λ i h. let y = g.held i h in record { announces = y.announces; inside = y.inside; used = y.used; unreserved = y.unreserved; unscanned = y.unscanned };
}
own_guard z ws ds w xs _ did f g may has_read = absurd may

-- another worker's step writes neither this worker's announcement word nor a word that the desk's list speaks of
other_word : (z : TableSize) (ws : List ℕ) (ds : List Step) (u w : ℕ) (s : Step) (xs : List Step) → Guard z ws ds u xs → MayHold z xs s → 0 < w → w ≢ u → get_or (words_after z ws u s) (announced_at z w) 0 ≡ get_or ws (announced_at z w) 0
other_word z ws ds u w (Announce slot) xs g may lo n = let l = g.low in get_or-set_other ws (announced_at z u) (announced_at z w) (slot + 1) 0 (λ x. omega (arith, x, n, lo, l))
other_word z ws ds u w Retire xs g may lo n = let l = g.low in get_or-set_other ws (announced_at z u) (announced_at z w) 0 0 (λ x. omega (arith, x, n, lo, l))
other_word z ws ds u w (Look slot query r) xs g may lo n = ap (λ (ys : List ℕ). get_or ys (announced_at z w) 0) (set-get_or ws (slot_at slot) 0)
other_word z ws ds u w (LoadKey slot index r) xs g may lo n = ap (λ (ys : List ℕ). get_or ys (announced_at z w) 0) (set-get_or ws (key_at slot index) 0)
other_word z ws ds u w (LoadRow row index r) xs g may lo n = ap (λ (ys : List ℕ). get_or ys (announced_at z w) 0) (set-get_or ws (row_at z row index) 0)
other_word z ws ds u w (Draw slot r) xs g may lo n = let a = (g.held slot may).inside in get_or-set_other ws (slot_at slot) (announced_at z w) (word_after (Draw slot r) (get_or ws (slot_at slot) 0)) 0 (λ x. omega (arith, a, x))
other_word z ws ds u w _ xs g may lo n = absurd may

pub other_guard : (z : TableSize) (ws : List ℕ) (ds : List Step) (u w : ℕ) (s : Step) (xs ys : List Step) → Guard z ws ds u xs → MayHold z xs s → w ≢ u → Guard z ws ds w ys → Guard z (words_after z ws u s) ds w ys
other_guard z ws ds u w s xs ys g may n h = record { low = h.low; high = h.high; word = λ i e. other_word z ws ds u w s xs g may h.low n ∙ h.word i e; held = h.held }
