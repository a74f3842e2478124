-- What a step on one slot keeps of the book.
use Rattle.std.proofs.Common.{◌≡◌, ◌≢◌, ℕ, suc, ◌-◌, ◌^◌, ◌<◌, ◌≤◌, ◌==◌, Bool, true, false, ◌&&◌, not, List, [], ◌∷◌, ◌++◌, length, get_or, set, map, bit_and, sym, refl, ap, ◌∙◌, subst, arith, eq-eqb, ne_eqb}
use Rattle.std.specs.List.{filter, list_any}
use Rattle.std.proofs.lemmas.List.{length-set, map-append}
use Rattle.std.proofs.lemmas.Bool.{eqb-true}
use Rattle.refl_types.specs.declared.types.Key.{Key}
use Rattle.refl_types.specs.declared.outcome.Place.{Place}
use Rattle.slot_word.specs.Fields.{is_open_word}
use Rattle.session_key.specs.Matching.{excludes}
use Rattle.config_rows.specs.Rows.{Rows}
use Rattle.session_world.specs.declared.steps.TableSize.{TableSize}
use Rattle.session_world.specs.declared.steps.Step.{Step}
use Rattle.session_world.specs.declared.steps.Step.TheVariants.{Start, Reconfigure, Close, Peek, Expire}
use Rattle.session_world.specs.Keys.{distance, key_of, extra_of, is_auth, has_key}
use Rattle.session_world.specs.Desk.{is_open, generation_of, row_of, rows_written, key_word_of, key_of_slot, extra_of_slot, is_reserved, config_at, IsComplete, start_of_key}
use Rattle.session_world.specs.Answers.{opened, desk_answers}
use Rattle.session_world.specs.Allowed.{DeskDid, DeskMay}
use Rattle.session_desk.proofs.BoolFacts.{number_case, true_ne_false, both, and_i, is_false}
use Rattle.session_desk.proofs.KeyFacts.{same_key_eq, same_key_of, excludes_self}
use Rattle.refl_types.specs.Same.{same_key}
use Rattle.session_world.specs.DeskLists.{HasSoundSlots}
use Rattle.session_rule.specs.declared.seats.Table.{Table}
use Rattle.session_rule.specs.declared.seats.Seat.{Seat}
use Rattle.session_rule.specs.Seats.{desk_steps, DeskHasMade}
use Rattle.session_desk.specs.declared.session.Use.{Use}
use Rattle.session_desk.specs.declared.session.Use.TheVariants.{Free, Reserved, Live}
use Rattle.session_desk.specs.declared.session.Session.{Session}
use Rattle.session_desk.specs.declared.session.Slot.{Slot}
use Rattle.session_desk.specs.Sessions.{is_in_slot, is_at, is_of, without, without_key}
use Rattle.session_desk.specs.Book.{Book, line_of, lines_left}
use Rattle.session_desk.specs.Slots.{is_live, is_reserving, is_taken, slot_in, session_in, taken_in, SessionFits, SlotFits, AreSlots, IsOrder, Reaches, times, key_in, started_slot}
use Rattle.session_desk.specs.Kept.{IsKept, book_of}
use Rattle.session_desk.specs.Calls.{HasStarted}
use Rattle.session_desk.proofs.Lists.{times_drop, map_else, map_same, map_filter, any_none, any_some, contains_map}
use Rattle.session_desk.proofs.Orders.{here, else_where, order_add, order_drop, order_same, member, is_member, no_member, is_inside}

-- ---- the desk's list changes what it says of slot i alone, and forgets no row

pub record OnlyAt (ds es : List Step) (i : ℕ) : Type 0 where
  pub generation : (j : ℕ) → j ≢ i → generation_of es j ≡ generation_of ds j
  pub row : (j : ℕ) → j ≢ i → row_of es j ≡ row_of ds j
  pub live : (j : ℕ) → j ≢ i → is_open es j ≡ is_open ds j
  pub reserved : (j : ℕ) → j ≢ i → is_reserved es j ≡ is_reserved ds j
  pub words : (j k : ℕ) → j ≢ i → key_word_of es j k ≡ key_word_of ds j k
  pub complete : (r : ℕ) → IsComplete ds r → IsComplete es r
  pub config : (r : ℕ) → IsComplete ds r → config_at es r ≡ config_at ds r

pub only_start : (ds : List Step) (i n : ℕ) → OnlyAt ds (Start i n ∷ ds) i
only_start ds i n = record { generation = λ j m. refl; row = λ j m. refl; live = λ j m. rw (ne_eqb j i m) refl; reserved = λ j m. rw (ne_eqb j i m) refl; words = λ j k m. refl; complete = λ r c. c; config = λ r c. refl }

pub only_close : (ds : List Step) (i n : ℕ) → OnlyAt ds (Close i n ∷ ds) i
only_close ds i n = record { generation = λ j m. refl; row = λ j m. refl; live = λ j m. rw (ne_eqb j i m) refl; reserved = λ j m. refl; words = λ j k m. refl; complete = λ r c. c; config = λ r c. refl }

pub only_expire : (ds : List Step) (i w n : ℕ) → OnlyAt ds (Expire i w n ∷ ds) i
only_expire ds i w n = record { generation = λ j m. refl; row = λ j m. refl; live = λ j m. rw (ne_eqb j i m) refl; reserved = λ j m. refl; words = λ j k m. refl; complete = λ r c. c; config = λ r c. refl }

and_no : (a : Bool) → (a && false) ≡ false
and_no true = refl
and_no false = refl

pub only_escape : (ds : List Step) (at w n : ℕ) → ¬ (n ≡ w) → (i : ℕ) → OnlyAt ds (Expire at w n ∷ ds) i
only_escape ds at w n other i = record { generation = λ j m. refl; row = λ j m. refl; live = λ j m. ap (λ (b : Bool). not ((j == at) && b) && is_open ds j) (ne_eqb n w other) ∙ ap (λ (b : Bool). not b && is_open ds j) (and_no (j == at)); reserved = λ j m. refl; words = λ j k m. refl; complete = λ r c. c; config = λ r c. refl }

pub only_peek : (ds : List Step) (at n i : ℕ) → OnlyAt ds (Peek at n ∷ ds) i
only_peek ds at n i = record { generation = λ j m. refl; row = λ j m. refl; live = λ j m. refl; reserved = λ j m. refl; words = λ j k m. refl; complete = λ r c. c; config = λ r c. refl }

pub only_reconfigure : (ds : List Step) (i old new n : ℕ) → OnlyAt ds (Reconfigure i old new n ∷ ds) i
only_reconfigure ds i old new n = record { generation = λ j m. refl; row = λ j m. rw (ne_eqb j i m) refl; live = λ j m. refl; reserved = λ j m. refl; words = λ j k m. refl; complete = λ r c. c; config = λ r c. refl }

pub only_none : (ds : List Step) (i : ℕ) → OnlyAt ds ds i
only_none ds i = record { generation = λ j m. refl; row = λ j m. refl; live = λ j m. refl; reserved = λ j m. refl; words = λ j k m. refl; complete = λ r c. c; config = λ r c. refl }

key_else : (ds es : List Step) (i j : ℕ) → OnlyAt ds es i → j ≢ i → key_of_slot es j ≡ key_of_slot ds j
key_else ds es i j o n = λ p. key_of (λ k. o.words j k n p)

extra_else : (ds es : List Step) (i j : ℕ) → OnlyAt ds es i → j ≢ i → extra_of_slot es j ≡ extra_of_slot ds j
extra_else ds es i j o n = λ p. extra_of (λ k. o.words j k n p)

session_else : (ds es : List Step) (i j : ℕ) (s : Session) → OnlyAt ds es i → j ≢ i → SessionFits ds j s → SessionFits es j s
session_else ds es i j s o n f = record {
  key = key_else ds es i j o n ∙ f.key;
  extra = extra_else ds es i j o n ∙ f.extra;
  row = o.row j n ∙ f.row;
  complete = o.complete s.row f.complete;
  keyed = λ a. ap has_key (o.config s.row f.complete) ∙ f.keyed (ap is_auth (sym (key_else ds es i j o n)) ∙ a);
}

pub fits_else : (ds es : List Step) (i j : ℕ) (s : Slot) → OnlyAt ds es i → j ≢ i → SlotFits ds j s → SlotFits es j s
fits_else ds es i j s o n f = record {
  place = f.place;
  generation = o.generation j n ∙ f.generation;
  live = o.live j n ∙ f.live;
  reserved = λ r. o.reserved j n ∙ f.reserved r;
  session = λ t. session_else ds es i j s.session o n (f.session t);
  noted = f.noted;
}

-- steps that change nothing of what the desk's list says of slots and rows, and open, set or close nothing
pub quiet_kept : (z : TableSize) (ds es : List Step) (rb : Rows) (ss : List Slot) (ls rs ks far : List ℕ) → ((i : ℕ) → OnlyAt ds es i) → rows_written es ≡ rows_written ds → ((r : ℕ) → config_at es r ≡ config_at ds r) → lines_left (desk_answers es) ≡ lines_left (desk_answers ds)
    → IsKept z ds rb ss ls rs ks far → IsKept z es rb ss ls rs ks far
quiet_kept z ds es rb ss ls rs ks far o written config lines k = record {
  limits = k.limits;
  slots = record { count = k.slots.count; fits = λ j l. fits_else ds es (suc j) j (slot_in ss j) (o (suc j)) (λ e. omega (arith, e)) (k.slots.fits j l); alone = k.slots.alone };
  live = k.live;
  reserved = k.reserved;
  taken = k.taken;
  rows = record { limit = k.rows.limit; written = written ∙ k.rows.written; configs = λ c r is. config r ∙ k.rows.configs c r is };
  lines = k.lines ∙ sym lines;
  reach = k.reach;
  width = k.width;
  range = k.range;
}

-- ---- slot i holds s in place of what it held: a session that it had before, or none

abbrev pub StaysOrGoes : List Slot → ℕ → Slot → Type 0
StaysOrGoes ss i s = is_taken s.taken ≡ true → (is_taken (taken_in ss i) ≡ true) × (s.session.key ≡ (session_in ss i).key)

was_there : (ss : List Slot) (i j : ℕ) (s : Slot) → i < length ss → StaysOrGoes ss i s → is_taken (taken_in (set ss i s) j) ≡ true
    → (is_taken (taken_in ss j) ≡ true) × ((session_in (set ss i s) j).key ≡ (session_in ss j).key)
was_there ss i j s lt stays t = number_case j i
    (λ (e : j ≡ i). let h : slot_in (set ss i s) j ≡ s = ap (slot_in (set ss i s)) e ∙ here ss i s lt in
    let w = stays (ap (λ (x : Slot). is_taken x.taken) (sym h) ∙ t) in
    (ap (λ (k : ℕ). is_taken (taken_in ss k)) e ∙ w.0, ap (λ (x : Slot). x.session.key) h ∙ w.1 ∙ ap (λ (k : ℕ). (session_in ss k).key) (sym e)))
    (λ (n : j ≢ i). let h = else_where ss i j s n in (ap (λ (x : Slot). is_taken x.taken) (sym h) ∙ t, ap (λ (x : Slot). x.session.key) h))

pub slots_kept : (z : TableSize) (ds es : List Step) (ss : List Slot) (i : ℕ) (s : Slot) → AreSlots z ds ss → OnlyAt ds es i → i < z.slots → SlotFits es i s → StaysOrGoes ss i s → AreSlots z es (set ss i s)
slots_kept z ds es ss i s a o lt f stays = let inside : i < length ss = subst (λ (n : ℕ). i < n) (sym a.count) lt in record {
  count = length-set ss i s ∙ a.count;
  fits = λ j l. number_case j i
      (λ (e : j ≡ i). subst (λ (k : ℕ). SlotFits es k (slot_in (set ss i s) k)) (sym e) (subst (SlotFits es i) (sym (here ss i s inside)) f))
      (λ (n : j ≢ i). subst (SlotFits es j) (sym (else_where ss i j s n)) (fits_else ds es i j (slot_in ss j) o n (a.fits j l)));
  alone = λ j k lj lk tj tk x. let wj = was_there ss i j s inside stays tj in let wk = was_there ss i k s inside stays tk in
      a.alone j k lj lk wj.0 wk.0 (ap (λ (y : _). excludes y (session_in ss k).key) (sym wj.1) ∙ ap (excludes (session_in (set ss i s) j).key) (sym wk.1) ∙ x);
}

pub reach_kept : (z : TableSize) (ss : List Slot) (i : ℕ) (s : Slot) (far : List ℕ) → i < length ss → StaysOrGoes ss i s → Reaches z ss far → Reaches z (set ss i s) far
reach_kept z ss i s far lt stays r j l t = let w = was_there ss i j s lt stays t in
    subst (λ (k : _). distance z.slots (start_of_key z k) j < get_or far (start_of_key z k) 0) (sym w.1) (r j l w.0)

-- ---- the parts as the code has left them

pub kept_by : (z : TableSize) (ds es : List Step) (rb : Rows) (ss ts : List Slot) (ls ms rs qs ks us far : List ℕ) → es ≡ ds → ts ≡ ss → ms ≡ ls → qs ≡ rs → us ≡ ks → IsKept z ds rb ss ls rs ks far → IsKept z es rb ts ms qs us far
kept_by z ds es rb ss ts ls ms rs qs ks us far a b c d e k = subst (λ (x : List Step). IsKept z x rb ts ms qs us far) (sym a) (subst (λ (x : List Slot). IsKept z ds rb x ms qs us far) (sym b) (subst (λ (x : List ℕ). IsKept z ds rb ss x qs us far) (sym c) (subst (λ (x : List ℕ). IsKept z ds rb ss ls x us far) (sym d) (subst (λ (x : List ℕ). IsKept z ds rb ss ls rs x far) (sym e) k))))

pub seen_by : (P : Book → Type 0) (seat : Seat) (z : TableSize) (rb : Rows) (ss ts : List Slot) (ls ms rs qs ks us : List ℕ) → ts ≡ ss → ms ≡ ls → qs ≡ rs → us ≡ ks → P (book_of seat z rb ss ls rs ks) → P (book_of seat z rb ts ms qs us)
seen_by P seat z rb ss ts ls ms rs qs ks us b c d e k = subst P (λ p. book_of seat z rb (sym b p) (sym c p) (sym d p) (sym e p)) k

-- other reaches that suffice
pub reached_by : (z : TableSize) (ds : List Step) (rb : Rows) (ss : List Slot) (ls rs ks far gar : List ℕ) → Reaches z ss gar → length gar ≡ z.slots → ((i : ℕ) → get_or gar i 0 ≤ z.slots) → IsKept z ds rb ss ls rs ks far → IsKept z ds rb ss ls rs ks gar
reached_by z ds rb ss ls rs ks far gar r w n k = record { limits = k.limits; slots = k.slots; live = k.live; reserved = k.reserved; taken = k.taken; rows = k.rows; lines = k.lines; reach = r; width = w; range = n }

-- the reaches that a shrinking leaves, where it saw the slots as they are
pub shrunk_by : (z : TableSize) (ds : List Step) (rb : Rows) (ss tt : List Slot) (ls rs ks far gar : List ℕ) → tt ≡ ss → length gar ≡ length tt → ((i : ℕ) → get_or gar i 0 ≤ length tt) → ((y : TableSize) → y.slots ≡ length tt → Reaches y tt far → Reaches y tt gar)
    → IsKept z ds rb ss ls rs ks far → IsKept z ds rb ss ls rs ks gar
shrunk_by z ds rb ss tt ls rs ks far gar e w r reaches k = let n : length tt ≡ z.slots = ap (λ (x : List Slot). length x) e ∙ k.slots.count in
    reached_by z ds rb ss ls rs ks far gar (subst (λ (x : List Slot). Reaches z x gar) e (reaches z (sym n) (subst (λ (x : List Slot). Reaches z x far) (sym e) k.reach))) (w ∙ n) (λ i. subst (λ (m : ℕ). get_or gar i 0 ≤ m) n (r i)) k

pub is_small : (z : TableSize) (ds : List Step) (rb : Rows) (ss : List Slot) (ls rs ks far : List ℕ) → IsKept z ds rb ss ls rs ks far → length ss < 2 ^ 31
is_small z ds rb ss ls rs ks far k = let n = k.slots.count in let l = k.limits.slots in omega (arith, n, l)

-- ---- the keys in an order, where one slot changes

pub keys_else : (ss : List Slot) (xs : List ℕ) (i : ℕ) (s : Slot) → times i xs ≡ 0 → map (key_in (set ss i s)) xs ≡ map (key_in ss) xs
keys_else ss xs i s out = map_else (key_in (set ss i s)) (key_in ss) i xs out (λ j m. ap (λ (x : Slot). x.session.key) (else_where ss i j s m))

pub keys_same : (ss : List Slot) (xs : List ℕ) (i : ℕ) (s : Slot) → i < length ss → s.session.key ≡ key_in ss i → map (key_in (set ss i s)) xs ≡ map (key_in ss) xs
keys_same ss xs i s lt same = map_same (key_in (set ss i s)) (key_in ss) xs (λ j some. number_case j i
    (λ (e : j ≡ i). ap (λ (k : ℕ). key_in (set ss i s) k) e ∙ ap (λ (x : Slot). x.session.key) (here ss i s lt) ∙ same ∙ ap (key_in ss) (sym e))
    (λ (n : j ≢ i). ap (λ (x : Slot). x.session.key) (else_where ss i j s n)))

pub keys_with : (ss : List Slot) (xs : List ℕ) (i : ℕ) (s : Slot) → i < length ss → times i xs ≡ 0 → map (key_in (set ss i s)) (xs ++ i ∷ []) ≡ map (key_in ss) xs ++ s.session.key ∷ []
keys_with ss xs i s lt out = map-append (key_in (set ss i s)) xs (i ∷ []) ∙ (λ p. keys_else ss xs i s out p ++ ap (λ (x : Slot). x.session.key) (here ss i s lt) p ∷ [])

-- ---- a start

pub live_is_taken : (u : Use) → is_live u ≡ true → is_taken u ≡ true
live_is_taken Live e = refl
live_is_taken Free e = absurd (true_ne_false (sym e))
live_is_taken Reserved e = absurd (true_ne_false (sym e))

pub reserving_is_taken : (u : Use) → is_reserving u ≡ true → is_taken u ≡ true
reserving_is_taken Reserved e = refl
reserving_is_taken Free e = absurd (true_ne_false (sym e))
reserving_is_taken Live e = absurd (true_ne_false (sym e))

pub reserving_not_live : (u : Use) → is_reserving u ≡ true → is_live u ≡ false
reserving_not_live Reserved e = refl
reserving_not_live Free e = refl
reserving_not_live Live e = absurd (true_ne_false (sym e))

pub live_not_reserving : (u : Use) → is_live u ≡ true → is_reserving u ≡ false
live_not_reserving Live e = refl
live_not_reserving Free e = refl
live_not_reserving Reserved e = absurd (true_ne_false (sym e))

pub inside_of : (z : TableSize) (ds : List Step) (ss : List Slot) (test : Use → Bool) (i : ℕ) → AreSlots z ds ss → test Free ≡ false → test (taken_in ss i) ≡ true → i < z.slots
inside_of z ds ss test i a none is = subst (λ (n : ℕ). i < n) a.count (is_inside test ss i none is)

pub may_start : (z : TableSize) (ds : List Step) (ss : List Slot) (i n : ℕ) → HasSoundSlots z ds → AreSlots z ds ss → is_reserving (taken_in ss i) ≡ true → DeskMay z ds (Start i n)
may_start z ds ss i n sound a is = let lt = inside_of z ds ss is_reserving i a refl is in let f = a.fits i lt in let mine = f.session (reserving_is_taken (taken_in ss i) is) in (
  lt,
  f.reserved is,
  (λ j o. is_false _ (λ x. let lj = sound.open_inside j o in let g = a.fits j lj in let live : is_live (taken_in ss j) ≡ true = sym g.live ∙ o in
      let yours = g.session (live_is_taken (taken_in ss j) live) in
      let e = a.alone j i lj lt (live_is_taken (taken_in ss j) live) (reserving_is_taken (taken_in ss i) is) (ap (λ (y : _). excludes y (session_in ss i).key) (sym yours.key) ∙ ap (excludes (key_of_slot ds j)) (sym mine.key) ∙ x) in
      true_ne_false (sym live ∙ ap (λ (k : ℕ). is_live (taken_in ss k)) e ∙ reserving_not_live (taken_in ss i) is))),
  (λ auth. ap (λ (r : ℕ). has_key (config_at ds r)) mine.row ∙ mine.keyed auth),
)

pub start_kept : (z : TableSize) (ds : List Step) (rb : Rows) (ss : List Slot) (ls rs ks far : List ℕ) (i n now : ℕ) → IsKept z ds rb ss ls rs ks far → is_reserving (taken_in ss i) ≡ true → is_open_word (bit_and n (2 ^ 64 - 2)) ≡ true
    → IsKept z (Start i n ∷ ds) rb (set ss i (started_slot ss i n now)) (ls ++ i ∷ []) (filter (λ j. not (j == i)) rs) ks far
start_kept z ds rb ss ls rs ks far i n now k is opens = let lt = inside_of z ds ss is_reserving i k.slots refl is in let inside : i < length ss = is_inside is_reserving ss i refl is in
    let f = k.slots.fits i lt in let mine = f.session (reserving_is_taken (taken_in ss i) is) in
    let new = started_slot ss i n now in let stays : StaysOrGoes ss i new = λ t. (reserving_is_taken (taken_in ss i) is, refl) in record {
      limits = k.limits;
      slots = slots_kept z ds (Start i n ∷ ds) ss i new k.slots (only_start ds i n) lt (record {
        place = f.place;
        generation = f.generation;
        live = rw (eq-eqb i i refl) refl;
        reserved = λ r. absurd (true_ne_false (sym r));
        session = λ t. record { key = mine.key; extra = mine.extra; row = mine.row; complete = mine.complete; keyed = mine.keyed };
        noted = λ t. opens;
      }) stays;
      live = order_add is_live ss ls i new k.live inside (reserving_not_live (taken_in ss i) is) refl;
      reserved = order_drop is_reserving ss rs i new k.reserved inside is refl;
      taken = order_same is_taken ss ks i new k.taken inside (sym (reserving_is_taken (taken_in ss i) is));
      rows = record { limit = k.rows.limit; written = k.rows.written; configs = k.rows.configs };
      lines = map-append (λ j. line_of (session_in (set ss i new) j)) ls (i ∷ []) ∙ (λ p. (map_else (λ j. line_of (session_in (set ss i new) j)) (λ j. line_of (session_in ss j)) i ls (no_member is_live ss ls i k.live (reserving_not_live (taken_in ss i) is)) (λ j m. ap (λ (s : Slot). line_of s.session) (else_where ss i j new m)) ∙ k.lines) p ++ (ap (λ (s : Slot). line_of s.session) (here ss i new inside) ∙ (λ q. record { key = sym mine.key q; extra = sym mine.extra q; row = sym mine.row q })) p ∷ []);
      reach = reach_kept z ss i new far inside stays k.reach;
      width = k.width;
      range = k.range;
    }

-- ---- what contracts see of it

pub place_in : (z : TableSize) (ds : List Step) (ss : List Slot) (test : Use → Bool) (xs : List ℕ) (j : ℕ) → AreSlots z ds ss → IsOrder test ss xs → test Free ≡ false → 0 < times j xs → (session_in ss j).place.slot ≡ j
place_in z ds ss test xs j a o none some = (a.fits j (inside_of z ds ss test j a none (member test ss xs j o some))).place

-- the sessions that an order names but for slot i, where slot i alone has changed
pub view_without : (z : TableSize) (ds : List Step) (ss : List Slot) (test : Use → Bool) (xs : List ℕ) (i : ℕ) (s : Slot) → AreSlots z ds ss → IsOrder test ss xs → test Free ≡ false
    → map (session_in (set ss i s)) (filter (λ j. not (j == i)) xs) ≡ without i (map (session_in ss) xs)
view_without z ds ss test xs i s a o none = map_else (session_in (set ss i s)) (session_in ss) i (filter (λ j. not (j == i)) xs) (times_drop i xs) (λ j m. ap (λ (x : Slot). x.session) (else_where ss i j s m))
    ∙ map_filter (session_in ss) (λ j. not (j == i)) (λ x. not (is_in_slot i x)) xs (λ j some. ap (λ (k : ℕ). not (k == i)) (place_in z ds ss test xs j a o none some))

-- a slot that the order doesn't name has changed
pub view_else : (ss : List Slot) (xs : List ℕ) (i : ℕ) (s : Slot) → times i xs ≡ 0 → map (session_in (set ss i s)) xs ≡ map (session_in ss) xs
view_else ss xs i s out = map_else (session_in (set ss i s)) (session_in ss) i xs out (λ j m. ap (λ (x : Slot). x.session) (else_where ss i j s m))

pub view_with : (ss : List Slot) (xs : List ℕ) (i : ℕ) (s : Slot) → i < length ss → times i xs ≡ 0 → map (session_in (set ss i s)) (xs ++ i ∷ []) ≡ map (session_in ss) xs ++ s.session ∷ []
view_with ss xs i s lt out = map-append (session_in (set ss i s)) xs (i ∷ []) ∙ (λ p. view_else ss xs i s out p ++ ap (λ (x : Slot). x.session) (here ss i s lt) p ∷ [])

-- ---- the session of a key

pub one_of_key : (z : TableSize) (ds : List Step) (ss : List Slot) (k : Key) (i j : ℕ) → AreSlots z ds ss → i < z.slots → j < z.slots → is_taken (taken_in ss i) ≡ true → is_taken (taken_in ss j) ≡ true → is_of k (session_in ss i) ≡ true → is_of k (session_in ss j) ≡ true → i ≡ j
one_of_key z ds ss k i j a li lj ti tj ki kj = a.alone i j li lj ti tj
    (ap (λ (y : Key). excludes y (session_in ss j).key) (same_key_eq (session_in ss i).key k ki) ∙ ap (excludes k) (same_key_eq (session_in ss j).key k kj) ∙ excludes_self k)

pub live_elsewhere : (z : TableSize) (ds : List Step) (ss : List Slot) (k : Key) (at : ℕ) → at < length ss → is_taken (taken_in ss at) ≡ true → is_of k (session_in ss at) ≡ true → is_live (taken_in ss at) ≡ false → AreSlots z ds ss
    → (i : ℕ) → i < z.slots → is_live (taken_in ss i) ≡ true → is_of k (session_in ss i) ≡ false
live_elsewhere z ds ss k at lt t ka none a i li live = is_false _ (λ (ki : is_of k (session_in ss i) ≡ true).
    let e = one_of_key z ds ss k i at a li (subst (λ (n : ℕ). at < n) a.count lt) (live_is_taken (taken_in ss i) live) t ki ka in
    true_ne_false (sym live ∙ ap (λ (j : ℕ). is_live (taken_in ss j)) e ∙ none))

-- the keys in the order of all without that in slot i
pub keys_without : (z : TableSize) (ds : List Step) (ss : List Slot) (xs : List ℕ) (i : ℕ) (s : Slot) → AreSlots z ds ss → IsOrder is_taken ss xs → is_taken (taken_in ss i) ≡ true
    → map (key_in (set ss i s)) (filter (λ j. not (j == i)) xs) ≡ without_key (key_in ss i) (map (key_in ss) xs)
keys_without z ds ss xs i s a o t = let li = inside_of z ds ss is_taken i a refl t in
    keys_else ss (filter (λ j. not (j == i)) xs) i s (times_drop i xs)
    ∙ map_filter (key_in ss) (λ j. not (j == i)) (λ x. not (same_key x (key_in ss i))) xs (λ j some. let tj = member is_taken ss xs j o some in ap not (number_case j i
    (λ (e : j ≡ i). same_key_of (key_in ss j) (key_in ss i) (ap (key_in ss) e) ∙ sym (eq-eqb j i e))
    (λ (n : j ≢ i). is_false _ (λ (x : same_key (key_in ss j) (key_in ss i) ≡ true). n (one_of_key z ds ss (key_in ss i) j i a (inside_of z ds ss is_taken j a refl tj) li tj t x (same_key_of (key_in ss i) (key_in ss i) refl))) ∙ sym (ne_eqb j i n))))

-- no live session has the key
pub not_live : (z : TableSize) (ds : List Step) (ss : List Slot) (ls : List ℕ) (k : Key) → AreSlots z ds ss → IsOrder is_live ss ls → ((i : ℕ) → i < z.slots → is_live (taken_in ss i) ≡ true → is_of k (session_in ss i) ≡ false) → list_any (is_of k) (map (session_in ss) ls) ≡ false
not_live z ds ss ls k a o none = any_none (session_in ss) (is_of k) ls (λ j some. let live = member is_live ss ls j o some in none j (inside_of z ds ss is_live j a refl live) live)

abbrev pub NoneLive : List Slot → List ℕ → Key → Type 0
NoneLive ss far k = (z : TableSize) (ds : List Step) → AreSlots z ds ss → Reaches z ss far → (i : ℕ) → i < z.slots → is_live (taken_in ss i) ≡ true → is_of k (session_in ss i) ≡ false

-- what a search in the code's parts has found not to be there
pub not_live_by : (z : TableSize) (ds : List Step) (rb : Rows) (ss ts : List Slot) (ls rs ks far gar : List ℕ) (k : Key) → IsKept z ds rb ts ls rs ks gar → ss ≡ ts → far ≡ gar → NoneLive ss far k → list_any (is_of k) (map (session_in ts) ls) ≡ false
not_live_by z ds rb ss ts ls rs ks far gar k kept a b none = not_live z ds ts ls k kept.slots kept.live (subst (λ (x : List Slot). NoneLive x gar k) a (subst (λ (x : List ℕ). NoneLive ss x k) b none) z ds kept.slots kept.reach)

pub is_live_by : (z : TableSize) (ds : List Step) (rb : Rows) (ss : List Slot) (ls rs ks far : List ℕ) (k : Key) (i : ℕ) → IsKept z ds rb ss ls rs ks far → is_live (taken_in ss i) ≡ true → is_of k (session_in ss i) ≡ true → list_any (is_of k) (map (session_in ss) ls) ≡ true
is_live_by z ds rb ss ls rs ks far k i kept live at = any_some (session_in ss) (is_of k) i ls (is_member is_live ss ls i kept.live live) at

-- ---- the reserved session of a place

abbrev pub reserved_at : List Slot → Place → Bool
reserved_at ss p = is_reserving (taken_in ss p.slot) && is_at p (session_in ss p.slot)

pub at_place : (s : Session) (p : Place) → is_at p s ≡ true → s.place ≡ p
at_place s p e = let b = both (s.place.slot == p.slot) (s.place.generation == p.generation) e in λ i. record { slot = eqb-true _ _ b.0 i; generation = eqb-true _ _ b.1 i }

pub no_place : (z : TableSize) (ds : List Step) (ss : List Slot) (rs : List ℕ) (p : Place) → AreSlots z ds ss → IsOrder is_reserving ss rs → reserved_at ss p ≡ false → list_any (is_at p) (map (session_in ss) rs) ≡ false
no_place z ds ss rs p a o none = any_none (session_in ss) (is_at p) rs (λ j some. is_false _ (λ (e : is_at p (session_in ss j) ≡ true).
    let at : j ≡ p.slot = sym (place_in z ds ss is_reserving rs j a o refl some) ∙ eqb-true _ _ (both _ _ e).0 in
    true_ne_false (sym (and_i _ _ (ap (λ (k : ℕ). is_reserving (taken_in ss k)) (sym at) ∙ member is_reserving ss rs j o some) (ap (λ (k : ℕ). is_at p (session_in ss k)) (sym at) ∙ e)) ∙ none)))

-- ---- the whole of a start

pub start_does : (t : Table) (z : TableSize) (seat seat' : Seat) (rb : Rows) (ss : List Slot) (ls rs ks far : List ℕ) (p : Place) (n now : ℕ) → IsKept z (desk_steps seat) rb ss ls rs ks far → reserved_at ss p ≡ true
    → DeskHasMade t seat seat' (Start p.slot n)
    → HasStarted t (book_of seat z rb ss ls rs ks) p now (book_of seat' z rb (set ss p.slot (started_slot ss p.slot n now)) (ls ++ p.slot ∷ []) (filter (λ j. not (j == p.slot)) rs) ks)
start_does t z seat seat' rb ss ls rs ks far p n now k there made = let b = both _ _ there in let i = p.slot in let lt = inside_of z (desk_steps seat) ss is_reserving i k.slots refl b.0 in
    let inside : i < length ss = is_inside is_reserving ss i refl b.0 in
    let mine = (k.slots.fits i lt).session (reserving_is_taken (taken_in ss i) b.0) in
    let new = started_slot ss i n now in record {
      session = session_in ss i;
      found = contains_map (session_in ss) i rs (is_member is_reserving ss rs i k.reserved b.0);
      place = at_place (session_in ss i) p b.1;
      word = n;
      made = made;
      answers = ap desk_answers made.step ∙ (λ q. opened (mine.key q) (mine.extra q) (mine.row q) ∷ desk_answers (desk_steps seat));
      live = view_with ss ls i new inside (no_member is_live ss ls i k.live (reserving_not_live (taken_in ss i) b.0));
      reserved = view_without z (desk_steps seat) ss is_reserving rs i new k.slots k.reserved refl;
      keys = keys_same ss ks i new inside refl;
      rows = refl;
      size = refl;
    }
