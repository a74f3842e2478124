-- Another configuration for a live session, and a reserved session that is given up.
use Rattle.std.proofs.Common.{◌≡◌, ◌≢◌, ℕ, suc, ◌<◌, ◌==◌, true, not, List, ◌∷◌, ◌++◌, length, set, map, sym, refl, ap, ◌∙◌, subst, arith, eq-eqb, ne_eqb}
use Rattle.std.specs.List.{filter}
use Rattle.refl_types.specs.declared.types.Key.{Key}
use Rattle.refl_types.specs.declared.config.ConfigParts.{ConfigParts}
use Rattle.refl_types.specs.declared.outcome.Place.{Place}
use Rattle.refl_types.specs.Spelling.{FitsConfig}
use Rattle.config_rows.specs.Rows.{Rows}
use Rattle.config_rows.specs.Words.{row_words, config_of_words}
use Rattle.session_world.specs.declared.steps.TableSize.{TableSize}
use Rattle.session_world.specs.declared.steps.Step.{Step}
use Rattle.session_world.specs.declared.steps.Step.TheVariants.{Reconfigure}
use Rattle.session_world.specs.Keys.{is_auth, has_key, key_of, extra_of}
use Rattle.session_world.specs.Desk.{key_of_slot, extra_of_slot}
use Rattle.session_world.specs.Answers.{configured, desk_answers}
use Rattle.session_world.specs.Allowed.{DeskMay}
use Rattle.session_desk.proofs.BoolFacts.{number_case, true_ne_false, both, if_yes, if_no}
use Rattle.session_world.specs.Allowed.{DeskDid}
use Rattle.session_desk.proofs.KeyFacts.{same_key_eq}
use Rattle.session_rule.specs.declared.seats.Table.{Table}
use Rattle.session_rule.specs.declared.seats.Seat.{Seat}
use Rattle.session_rule.specs.Seats.{desk_steps}
use Rattle.session_desk.specs.declared.session.Slot.{Slot}
use Rattle.session_desk.specs.Sessions.{is_of, with_change, with_row}
use Rattle.session_desk.specs.Book.{line_of, lines_left, with_line_row}
use Rattle.session_desk.specs.Slots.{is_live, is_reserving, is_taken, session_in, taken_in, freed, set_slot}
use Rattle.session_desk.specs.Kept.{IsKept, book_of}
use Rattle.session_desk.specs.Writes.{HasRow, HasAdded}
use Rattle.session_desk.specs.Calls.{HasNoSetCause, HasSet, HasAbandoned}
use Rattle.session_desk.proofs.Lists.{map_each, map_else, contains_map}
use Rattle.session_desk.proofs.Orders.{here, else_where, order_drop, order_same, is_member, no_member, is_inside}
use Rattle.session_desk.proofs.Keeping.{only_none, only_reconfigure, StaysOrGoes, slots_kept, reach_kept, inside_of, live_is_taken, live_not_reserving, reserving_not_live, reserving_is_taken, reserved_at, at_place, view_else, view_without, keys_same, keys_without}
use Rattle.session_desk.proofs.Closing.{goes, has_key_just_here}
use Rattle.session_desk.proofs.Changing.{changed_view}
use Rattle.session_desk.proofs.Written.{made_quiet, made_complete}
use Rattle.session_desk.proofs.Reserving.{only_then, only_quiet, same_answers}
use Rattle.session_desk.proofs.Seated.{rows_after}

-- ---- a reserved session is given up

pub abandon_kept : (z : TableSize) (ds : List Step) (rb : Rows) (ss : List Slot) (ls rs ks far : List ℕ) (i : ℕ) → IsKept z ds rb ss ls rs ks far → is_reserving (taken_in ss i) ≡ true
    → IsKept z ds rb (set ss i (freed ss i)) ls (filter (λ j. not (j == i)) rs) (filter (λ j. not (j == i)) ks) far
abandon_kept z ds rb ss ls rs ks far i k is = let lt = inside_of z ds ss is_reserving i k.slots refl is in let inside : i < length ss = is_inside is_reserving ss i refl is in
    let f = k.slots.fits i lt in let out = no_member is_live ss ls i k.live (reserving_not_live (taken_in ss i) is) in record {
      limits = k.limits;
      slots = slots_kept z ds ds ss i (freed ss i) k.slots (only_none ds i) lt (record {
        place = f.place;
        generation = f.generation;
        live = f.live ∙ reserving_not_live (taken_in ss i) is;
        reserved = λ r. absurd (true_ne_false (sym r));
        session = λ t. absurd (true_ne_false (sym t));
        noted = λ t. absurd (true_ne_false (sym t));
      }) (goes ss i);
      live = order_same is_live ss ls i (freed ss i) k.live inside (sym (reserving_not_live (taken_in ss i) is));
      reserved = order_drop is_reserving ss rs i (freed ss i) k.reserved inside is refl;
      taken = order_drop is_taken ss ks i (freed ss i) k.taken inside (reserving_is_taken (taken_in ss i) is) refl;
      rows = k.rows;
      lines = map_else (λ j. line_of (session_in (set ss i (freed ss i)) j)) (λ j. line_of (session_in ss j)) i ls out (λ j m. ap (λ (x : Slot). line_of x.session) (else_where ss i j (freed ss i) m)) ∙ k.lines;
      reach = reach_kept z ss i (freed ss i) far inside (goes ss i) k.reach;
      width = k.width;
      range = k.range;
    }

pub abandon_does : (z : TableSize) (seat : Seat) (rb : Rows) (ss : List Slot) (ls rs ks far : List ℕ) (p : Place) → IsKept z (desk_steps seat) rb ss ls rs ks far → reserved_at ss p ≡ true
    → HasAbandoned (book_of seat z rb ss ls rs ks) p (book_of seat z rb (set ss p.slot (freed ss p.slot)) ls (filter (λ j. not (j == p.slot)) rs) (filter (λ j. not (j == p.slot)) ks))
abandon_does z seat rb ss ls rs ks far p k there = let b = both _ _ there in let i = p.slot in record {
  session = session_in ss i;
  found = contains_map (session_in ss) i rs (is_member is_reserving ss rs i k.reserved b.0);
  place = at_place (session_in ss i) p b.1;
  seat = refl;
  live = view_else ss ls i (freed ss i) (no_member is_live ss ls i k.live (reserving_not_live (taken_in ss i) b.0));
  reserved = view_without z (desk_steps seat) ss is_reserving rs i (freed ss i) k.slots k.reserved refl;
  keys = keys_without z (desk_steps seat) ss ks i (freed ss i) k.slots k.taken (reserving_is_taken (taken_in ss i) b.0);
  rows = refl;
  size = refl;
}

-- ---- another row

pub may_set : (z : TableSize) (ds made : List Step) (rb rc : Rows) (ss : List Slot) (ls rs ks far : List ℕ) (k : Key) (c : ConfigParts) (i row n : ℕ) → IsKept z ds rb ss ls rs ks far → is_live (taken_in ss i) ≡ true → is_of k (session_in ss i) ≡ true → HasRow rb rc c row made
    → DeskDid z (made ++ ds) → (FitsConfig c → config_of_words (row_words c) ≡ c) → (is_auth k ≡ true → has_key c ≡ true) → DeskMay z (made ++ ds) (Reconfigure i (session_in ss i).row row n)
may_set z ds made rb rc ss ls rs ks far k c i row n kept live at h did cb keyed = let lt = inside_of z ds ss is_live i kept.slots refl live in let f = kept.slots.fits i lt in let m = f.session (live_is_taken _ live) in
    let q = made_quiet {i = suc i} rb rc c row made h in let o = only_quiet z (suc i) made ds q did in let away : i ≢ suc i = λ e. omega (arith, e) in
    let key : key_of_slot (made ++ ds) i ≡ k = (λ p. key_of (λ w. o.words i w away p)) ∙ m.key ∙ same_key_eq (session_in ss i).key k at in (
      o.live i away ∙ f.live ∙ live,
      sym (o.row i away ∙ m.row),
      made_complete z ds made rb rc c row kept.rows h,
      (λ a. ap has_key (rows_after z ds made rb rc c row kept.rows h cb).1 ∙ keyed (ap is_auth (sym key) ∙ a)),
    )

lines_with_row : (z : TableSize) (ds : List Step) (rb : Rows) (ss : List Slot) (ls rs ks far : List ℕ) (i row : ℕ) → IsKept z ds rb ss ls rs ks far → is_live (taken_in ss i) ≡ true
    → map (λ j. line_of (session_in (set ss i (set_slot ss i row)) j)) ls ≡ map (with_line_row (key_of_slot ds i) row) (lines_left (desk_answers ds))
lines_with_row z ds rb ss ls rs ks far i row k live = map_each (λ j. line_of (session_in (set ss i (set_slot ss i row)) j)) (with_line_row (key_of_slot ds i) row) (λ j. line_of (session_in ss j)) ls (λ j some. let t = has_key_just_here z ds ss ls i j k.slots k.live live some in number_case j i
    (λ (e : j ≡ i). ap (λ (m : ℕ). line_of (session_in (set ss i (set_slot ss i row)) m)) e ∙ ap (λ (x : Slot). line_of x.session) (here ss i (set_slot ss i row) (is_inside is_live ss i refl live)) ∙ ap (λ (m : ℕ). line_of (with_row row (session_in ss m))) (sym e) ∙ sym (if_yes _ _ _ (t ∙ eq-eqb j i e)))
    (λ (n : j ≢ i). ap (λ (x : Slot). line_of x.session) (else_where ss i j (set_slot ss i row) n) ∙ sym (if_no _ _ _ (t ∙ ne_eqb j i n))))
    ∙ ap (map (with_line_row (key_of_slot ds i) row)) k.lines

pub set_kept : (z : TableSize) (ds made : List Step) (rb rc : Rows) (ss : List Slot) (ls rs ks far : List ℕ) (k : Key) (c : ConfigParts) (i row n : ℕ) → IsKept z ds rb ss ls rs ks far → is_live (taken_in ss i) ≡ true → is_of k (session_in ss i) ≡ true → HasRow rb rc c row made
    → DeskDid z (made ++ ds) → (FitsConfig c → config_of_words (row_words c) ≡ c) → (is_auth k ≡ true → has_key c ≡ true)
    → IsKept z (Reconfigure i (session_in ss i).row row n ∷ (made ++ ds)) rc (set ss i (set_slot ss i row)) ls rs ks far
set_kept z ds made rb rc ss ls rs ks far k c i row n kept live at h did cb keyed = let lt = inside_of z ds ss is_live i kept.slots refl live in let inside : i < length ss = is_inside is_live ss i refl live in
    let f = kept.slots.fits i lt in let m = f.session (live_is_taken _ live) in let new = set_slot ss i row in let old = (session_in ss i).row in
    let q = made_quiet {i = suc i} rb rc c row made h in let o = only_quiet z (suc i) made ds q did in let away : i ≢ suc i = λ e. omega (arith, e) in
    let kd : key_of_slot (made ++ ds) i ≡ key_of_slot ds i = (λ p. key_of (λ w. o.words i w away p)) in
    let xd : extra_of_slot (made ++ ds) i ≡ extra_of_slot ds i = (λ p. extra_of (λ w. o.words i w away p)) in
    let g = rows_after z ds made rb rc c row kept.rows h cb in
    let stays : StaysOrGoes ss i new = λ t. (live_is_taken _ live, refl) in record {
      limits = kept.limits;
      slots = slots_kept z ds (Reconfigure i old row n ∷ (made ++ ds)) ss i new kept.slots (only_then ds (made ++ ds) _ i (only_quiet z i made ds (made_quiet {i = i} rb rc c row made h) did) (only_reconfigure (made ++ ds) i old row n)) lt (record {
        place = f.place;
        generation = o.generation i away ∙ f.generation;
        live = o.live i away ∙ f.live;
        reserved = λ r. absurd (true_ne_false (sym r ∙ live_not_reserving (taken_in ss i) live));
        session = λ t. record {
          key = kd ∙ m.key;
          extra = xd ∙ m.extra;
          row = rw (eq-eqb i i refl) refl;
          complete = made_complete z ds made rb rc c row kept.rows h;
          keyed = λ a. ap has_key g.1 ∙ keyed (ap is_auth (sym (kd ∙ m.key ∙ same_key_eq (session_in ss i).key k at)) ∙ a);
        };
        noted = λ t. f.noted live;
      }) stays;
      live = order_same is_live ss ls i new kept.live inside refl;
      reserved = order_same is_reserving ss rs i new kept.reserved inside refl;
      taken = order_same is_taken ss ks i new kept.taken inside refl;
      rows = record { limit = g.0.limit; written = g.0.written; configs = g.0.configs };
      lines = lines_with_row z ds rb ss ls rs ks far i row kept live ∙ (λ p. map (with_line_row (sym kd p) row) (lines_left (sym (same_answers {i = i} made ds (made_quiet rb rc c row made h)) p)));
      reach = reach_kept z ss i new far inside stays kept.reach;
      width = kept.width;
      range = kept.range;
    }

pub set_does : (t : Table) (z : TableSize) (seat seat' : Seat) (made : List Step) (rb rc : Rows) (ss : List Slot) (ls rs ks far : List ℕ) (k : Key) (c : ConfigParts) (i row n : ℕ) → IsKept z (desk_steps seat) rb ss ls rs ks far → is_live (taken_in ss i) ≡ true → is_of k (session_in ss i) ≡ true → HasRow rb rc c row made
    → DeskDid z (made ++ desk_steps seat) → HasAdded t seat seat' (Reconfigure i (session_in ss i).row row n ∷ made)
    → HasNoSetCause (book_of seat z rb ss ls rs ks) k c
    → HasSet t (book_of seat z rb ss ls rs ks) k c (book_of seat' z rc (set ss i (set_slot ss i row)) ls rs ks)
set_does t z seat seat' made rb rc ss ls rs ks far k c i row n kept live at h did added none = let ds = desk_steps seat in let lt = inside_of z ds ss is_live i kept.slots refl live in
    let f = kept.slots.fits i lt in let m = f.session (live_is_taken _ live) in
    let q = made_quiet {i = suc i} rb rc c row made h in let o = only_quiet z (suc i) made ds q did in let away : i ≢ suc i = λ e. omega (arith, e) in
    let key : key_of_slot (made ++ ds) i ≡ k = (λ p. key_of (λ w. o.words i w away p)) ∙ m.key ∙ same_key_eq (session_in ss i).key k at in record {
      session = session_in ss i;
      found = contains_map (session_in ss) i ls (is_member is_live ss ls i kept.live live);
      key = same_key_eq (session_in ss i).key k at;
      row = row;
      word = n;
      made = made;
      no_cause = none;
      kept = h;
      added = subst (λ (j : ℕ). HasAdded t seat seat' (Reconfigure j (session_in ss i).row row n ∷ made)) (sym f.place) added;
      answers = ap desk_answers added.steps ∙ (λ p. configured (key p) row ∷ same_answers {i = i} made ds (made_quiet rb rc c row made h) p);
      live = changed_view z ds ss ls i (with_row row) kept.slots kept.live live ∙ ap (λ (j : ℕ). with_change j (with_row row) (map (session_in ss) ls)) (sym f.place);
      reserved = view_else ss rs i (set_slot ss i row) (no_member is_reserving ss rs i kept.reserved (live_not_reserving (taken_in ss i) live));
      keys = keys_same ss ks i (set_slot ss i row) (is_inside is_live ss i refl live) refl;
      size = refl;
    }
