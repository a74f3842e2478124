-- A close, and what a call that gives a slot back keeps of the book.
use Rattle.std.proofs.Common.{◌≡◌, ◌≢◌, ℕ, ◌<◌, ◌==◌, true, false, not, List, ◌∷◌, length, set, map, sym, refl, ap, ◌∙◌, subst, eq-eqb, ne_eqb}
use Rattle.std.specs.List.{filter}
use Rattle.refl_types.specs.declared.types.Key.{Key}
use Rattle.refl_types.specs.Same.{same_key}
use Rattle.slot_word.specs.Fields.{sequence_in}
use Rattle.config_rows.specs.Rows.{Rows}
use Rattle.session_world.specs.declared.steps.TableSize.{TableSize}
use Rattle.session_world.specs.declared.steps.Step.{Step}
use Rattle.session_world.specs.declared.steps.Step.TheVariants.{Close, Peek, Expire}
use Rattle.session_world.specs.Desk.{is_open, generation_of, rows_written, config_at, key_of_slot}
use Rattle.session_world.specs.Answers.{counted, closed, desk_answers}
use Rattle.session_world.specs.Loads.{IsWordOf}
use Rattle.session_desk.proofs.BoolFacts.{number_case, true_ne_false, is_false}
use Rattle.session_desk.proofs.KeyFacts.{same_key_eq, same_key_of}
use Rattle.session_rule.specs.declared.seats.Table.{Table}
use Rattle.session_rule.specs.declared.seats.Seat.{Seat}
use Rattle.session_rule.specs.Seats.{desk_steps, DeskHasMade}
use Rattle.session_desk.specs.declared.session.Slot.{Slot}
use Rattle.session_desk.specs.Sessions.{is_of, without, without_key}
use Rattle.session_desk.specs.Book.{Line, line_of, lines_left, without_line}
use Rattle.session_desk.specs.Slots.{is_live, is_reserving, is_taken, session_in, key_in, taken_in, AreSlots, IsOrder, times, freed}
use Rattle.session_desk.specs.Kept.{IsKept, book_of}
use Rattle.session_desk.specs.Calls.{HasClosed, HasCounted}
use Rattle.session_desk.proofs.Lists.{times_drop, map_else, map_filter, contains_map}
use Rattle.session_desk.proofs.Orders.{else_where, order_drop, order_same, member, is_member, no_member, is_inside}
use Rattle.session_desk.proofs.Keeping.{OnlyAt, only_close, only_peek, only_expire, only_escape, quiet_kept, StaysOrGoes, slots_kept, reach_kept, inside_of, live_is_taken, live_not_reserving, one_of_key, view_else, view_without, keys_without}

pub goes : (ss : List Slot) (i : ℕ) → StaysOrGoes ss i (freed ss i)
goes ss i = λ t. absurd (true_ne_false (sym t))

-- of the live sessions just that in slot i has its key
pub has_key_just_here : (z : TableSize) (ds : List Step) (ss : List Slot) (ls : List ℕ) (i j : ℕ) → AreSlots z ds ss → IsOrder is_live ss ls → is_live (taken_in ss i) ≡ true → 0 < times j ls → same_key (session_in ss j).key (key_of_slot ds i) ≡ (j == i)
has_key_just_here z ds ss ls i j a o live some = let li = inside_of z ds ss is_live i a refl live in let mine = (a.fits i li).session (live_is_taken (taken_in ss i) live) in
    let lj = member is_live ss ls j o some in number_case j i
    (λ (e : j ≡ i). same_key_of (session_in ss j).key (key_of_slot ds i) (ap (λ (k : ℕ). (session_in ss k).key) e ∙ sym mine.key) ∙ sym (rw (eq-eqb j i e) refl))
    (λ (n : j ≢ i). is_false _ (λ (x : same_key (session_in ss j).key (key_of_slot ds i) ≡ true). n (one_of_key z ds ss (key_of_slot ds i) j i a (inside_of z ds ss is_live j a refl lj) li (live_is_taken _ lj) (live_is_taken _ live) x (same_key_of (session_in ss i).key (key_of_slot ds i) (sym mine.key)))) ∙ sym (rw (ne_eqb j i n) refl))

-- the lines of the live sessions without that in slot i
pub lines_without : (z : TableSize) (ds : List Step) (rb : Rows) (ss : List Slot) (ls rs ks far : List ℕ) (i : ℕ) (s : Slot) → IsKept z ds rb ss ls rs ks far → is_live (taken_in ss i) ≡ true
    → map (λ j. line_of (session_in (set ss i s) j)) (filter (λ j. not (j == i)) ls) ≡ filter (λ l. not (same_key l.key (key_of_slot ds i))) (lines_left (desk_answers ds))
lines_without z ds rb ss ls rs ks far i s k live =
    map_else (λ j. line_of (session_in (set ss i s) j)) (λ j. line_of (session_in ss j)) i (filter (λ j. not (j == i)) ls) (times_drop i ls) (λ j m. ap (λ (x : Slot). line_of x.session) (else_where ss i j s m))
    ∙ map_filter (λ j. line_of (session_in ss j)) (λ j. not (j == i)) (λ l. not (same_key l.key (key_of_slot ds i))) ls (λ j some. ap not (has_key_just_here z ds ss ls i j k.slots k.live live some))
    ∙ ap (filter (λ (l : Line). not (same_key l.key (key_of_slot ds i)))) k.lines

-- a step on slot i that ends its session
pub end_kept : (z : TableSize) (ds : List Step) (rb : Rows) (ss : List Slot) (ls rs ks far : List ℕ) (i : ℕ) (st : Step) → OnlyAt ds (st ∷ ds) i → is_open (st ∷ ds) i ≡ false → generation_of (st ∷ ds) i ≡ generation_of ds i → rows_written (st ∷ ds) ≡ rows_written ds → ((r : ℕ) → config_at (st ∷ ds) r ≡ config_at ds r)
    → lines_left (desk_answers (st ∷ ds)) ≡ without_line (key_of_slot ds i) (lines_left (desk_answers ds))
    → IsKept z ds rb ss ls rs ks far → is_live (taken_in ss i) ≡ true
    → IsKept z (st ∷ ds) rb (set ss i (freed ss i)) (filter (λ j. not (j == i)) ls) rs (filter (λ j. not (j == i)) ks) far
end_kept z ds rb ss ls rs ks far i st only shut same written config lines k live = let lt = inside_of z ds ss is_live i k.slots refl live in let inside : i < length ss = is_inside is_live ss i refl live in
    let f = k.slots.fits i lt in record {
      limits = k.limits;
      slots = slots_kept z ds (st ∷ ds) ss i (freed ss i) k.slots only lt (record {
        place = f.place;
        generation = same ∙ f.generation;
        live = shut;
        reserved = λ r. absurd (true_ne_false (sym r));
        session = λ t. absurd (true_ne_false (sym t));
        noted = λ t. absurd (true_ne_false (sym t));
      }) (goes ss i);
      live = order_drop is_live ss ls i (freed ss i) k.live inside live refl;
      reserved = order_same is_reserving ss rs i (freed ss i) k.reserved inside (sym (live_not_reserving (taken_in ss i) live));
      taken = order_drop is_taken ss ks i (freed ss i) k.taken inside (live_is_taken (taken_in ss i) live) refl;
      rows = record { limit = k.rows.limit; written = written ∙ k.rows.written; configs = λ c r is. config r ∙ k.rows.configs c r is };
      lines = lines_without z ds rb ss ls rs ks far i (freed ss i) k live ∙ sym lines;
      reach = reach_kept z ss i (freed ss i) far inside (goes ss i) k.reach;
      width = k.width;
      range = k.range;
    }

pub close_kept : (z : TableSize) (ds : List Step) (rb : Rows) (ss : List Slot) (ls rs ks far : List ℕ) (i n : ℕ) → IsKept z ds rb ss ls rs ks far → is_live (taken_in ss i) ≡ true
    → IsKept z (Close i n ∷ ds) rb (set ss i (freed ss i)) (filter (λ j. not (j == i)) ls) rs (filter (λ j. not (j == i)) ks) far
close_kept z ds rb ss ls rs ks far i n k live = end_kept z ds rb ss ls rs ks far i (Close i n) (only_close ds i n) (rw (eq-eqb i i refl) refl) refl refl (λ r. refl) refl k live

pub expire_kept : (z : TableSize) (ds : List Step) (rb : Rows) (ss : List Slot) (ls rs ks far : List ℕ) (i n : ℕ) → IsKept z ds rb ss ls rs ks far → is_live (taken_in ss i) ≡ true
    → IsKept z (Expire i n n ∷ ds) rb (set ss i (freed ss i)) (filter (λ j. not (j == i)) ls) rs (filter (λ j. not (j == i)) ks) far
expire_kept z ds rb ss ls rs ks far i n k live = end_kept z ds rb ss ls rs ks far i (Expire i n n) (only_expire ds i n n) (rw (eq-eqb i i refl, eq-eqb n n refl) refl) refl refl (λ r. refl) (rw (eq-eqb n n refl) refl) k live

pub close_does : (t : Table) (z : TableSize) (seat seat' : Seat) (rb : Rows) (ss : List Slot) (ls rs ks far : List ℕ) (key : Key) (i n : ℕ) → IsKept z (desk_steps seat) rb ss ls rs ks far → is_live (taken_in ss i) ≡ true → is_of key (session_in ss i) ≡ true
    → DeskHasMade t seat seat' (Close i n)
    → HasClosed t (book_of seat z rb ss ls rs ks) key (book_of seat' z rb (set ss i (freed ss i)) (filter (λ j. not (j == i)) ls) rs (filter (λ j. not (j == i)) ks)) (sequence_in n)
close_does t z seat seat' rb ss ls rs ks far key i n k live at made = let lt = inside_of z (desk_steps seat) ss is_live i k.slots refl live in
    let f = k.slots.fits i lt in let mine = f.session (live_is_taken (taken_in ss i) live) in let same = same_key_eq (session_in ss i).key key at in record {
      session = session_in ss i;
      found = contains_map (session_in ss) i ls (is_member is_live ss ls i k.live live);
      key = same;
      word = n;
      made = subst (λ (j : ℕ). DeskHasMade t seat seat' (Close j n)) (sym f.place) made;
      answers = ap desk_answers made.step ∙ (λ q. closed ((mine.key ∙ same) q) (sequence_in n) ∷ desk_answers (desk_steps seat));
      count = refl;
      live = view_without z (desk_steps seat) ss is_live ls i (freed ss i) k.slots k.live refl ∙ ap (λ (j : ℕ). without j (map (session_in ss) ls)) (sym f.place);
      reserved = view_else ss rs i (freed ss i) (no_member is_reserving ss rs i k.reserved (live_not_reserving (taken_in ss i) live));
      keys = keys_without z (desk_steps seat) ss ks i (freed ss i) k.slots k.taken (live_is_taken (taken_in ss i) live) ∙ ap (λ (y : Key). without_key y (map (key_in ss) ks)) same;
      rows = refl;
      size = refl;
    }

-- ---- a peek changes nothing

pub peek_kept : (z : TableSize) (ds : List Step) (rb : Rows) (ss : List Slot) (ls rs ks far : List ℕ) (i n : ℕ) → IsKept z ds rb ss ls rs ks far → IsKept z (Peek i n ∷ ds) rb ss ls rs ks far
peek_kept z ds rb ss ls rs ks far i n k = quiet_kept z ds (Peek i n ∷ ds) rb ss ls rs ks far (only_peek ds i n) refl (λ r. refl) refl k

-- an exchange that found another word changes nothing
pub escape_kept : (z : TableSize) (ds : List Step) (rb : Rows) (ss : List Slot) (ls rs ks far : List ℕ) (i w n : ℕ) → ¬ (n ≡ w) → IsKept z ds rb ss ls rs ks far → IsKept z (Expire i w n ∷ ds) rb ss ls rs ks far
escape_kept z ds rb ss ls rs ks far i w n other k = quiet_kept z ds (Expire i w n ∷ ds) rb ss ls rs ks far (only_escape ds i w n other) refl (λ r. refl) (rw (ne_eqb n w other) refl) k

pub count_does : (t : Table) (z : TableSize) (seat seat' : Seat) (rb : Rows) (ss : List Slot) (ls rs ks far : List ℕ) (key : Key) (i n : ℕ) → IsKept z (desk_steps seat) rb ss ls rs ks far → is_live (taken_in ss i) ≡ true → is_of key (session_in ss i) ≡ true
    → DeskHasMade t seat seat' (Peek i n) → IsWordOf (desk_steps seat) i n
    → HasCounted t (book_of seat z rb ss ls rs ks) key (book_of seat' z rb ss ls rs ks) (sequence_in n)
count_does t z seat seat' rb ss ls rs ks far key i n k live at made word = let lt = inside_of z (desk_steps seat) ss is_live i k.slots refl live in
    let f = k.slots.fits i lt in let mine = f.session (live_is_taken (taken_in ss i) live) in let same = same_key_eq (session_in ss i).key key at in record {
      session = session_in ss i;
      found = contains_map (session_in ss) i ls (is_member is_live ss ls i k.live live);
      key = same;
      word = n;
      made = subst (λ (j : ℕ). DeskHasMade t seat seat' (Peek j n)) (sym f.place) made;
      answers = ap desk_answers made.step ∙ (λ q. counted ((mine.key ∙ same) q) (sequence_in n) ((word.2 ∙ mine.row) q) ∷ desk_answers (desk_steps seat));
      live = refl;
      reserved = refl;
      keys = refl;
      rows = refl;
      size = refl;
    }
