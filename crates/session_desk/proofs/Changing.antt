-- A live session that keeps its key, extra, row and place: a closing moment, a new note.
use Rattle.std.proofs.Common.{◌≡◌, ◌≢◌, ℕ, ◌<◌, true, List, length, set, map, sym, refl, ap, ◌∙◌, subst, eq-eqb, ne_eqb}
use Rattle.refl_types.specs.declared.types.Key.{Key}
use Rattle.slot_word.specs.Fields.{is_open_word}
use Rattle.config_rows.specs.Rows.{Rows}
use Rattle.session_world.specs.declared.steps.TableSize.{TableSize}
use Rattle.session_world.specs.declared.steps.Step.{Step}
use Rattle.session_world.specs.Keys.{has_key}
use Rattle.session_world.specs.Desk.{IsComplete, config_at}
use Rattle.session_desk.proofs.BoolFacts.{number_case}
use Rattle.session_desk.proofs.KeyFacts.{same_key_eq}
use Rattle.session_rule.specs.declared.seats.Seat.{Seat}
use Rattle.session_rule.specs.Seats.{desk_steps}
use Rattle.session_desk.specs.declared.session.Session.{Session}
use Rattle.session_desk.specs.declared.session.Slot.{Slot}
use Rattle.session_desk.specs.Sessions.{is_of, changed_at, with_change, with_closing}
use Rattle.session_desk.specs.Book.{line_of}
use Rattle.session_desk.specs.Slots.{is_live, is_reserving, is_taken, slot_in, session_in, taken_in, AreSlots, IsOrder, closing_slot}
use Rattle.session_desk.specs.Kept.{IsKept, book_of}
use Rattle.session_desk.specs.Calls.{ClosesLater}
use Rattle.session_desk.proofs.Lists.{map_each, map_same, contains_map}
use Rattle.session_desk.proofs.Orders.{here, else_where, order_same, is_member, no_member, is_inside}
use Rattle.session_desk.proofs.Keeping.{only_none, StaysOrGoes, slots_kept, reach_kept, inside_of, live_is_taken, live_not_reserving, place_in, view_else, keys_same}

-- the same session but for its wait, its note and its closing moment
pub record IsSameSession (s r : Session) : Type 0 where
  pub key : s.key ≡ r.key
  pub extra : s.extra ≡ r.extra
  pub row : s.row ≡ r.row
  pub place : s.place ≡ r.place

-- the live session of a slot is another one that is the same, and its note is open
pub same_kept : (z : TableSize) (ds : List Step) (rb : Rows) (ss : List Slot) (ls rs ks far : List ℕ) (i : ℕ) (s : Session) → IsKept z ds rb ss ls rs ks far → is_live (taken_in ss i) ≡ true
    → IsSameSession s (session_in ss i) → is_open_word s.note.word ≡ true
    → IsKept z ds rb (set ss i (record (slot_in ss i) { session = s })) ls rs ks far
same_kept z ds rb ss ls rs ks far i s k live same opens = let lt = inside_of z ds ss is_live i k.slots refl live in let inside : i < length ss = is_inside is_live ss i refl live in
    let f = k.slots.fits i lt in let m = f.session (live_is_taken _ live) in
    let new : Slot = record (slot_in ss i) { session = s } in
    let stays : StaysOrGoes ss i new = λ t. (live_is_taken _ live, same.key) in record {
      limits = k.limits;
      slots = slots_kept z ds ds ss i new k.slots (only_none ds i) lt (record {
        place = ap (λ p. p.slot) same.place ∙ f.place;
        generation = f.generation ∙ ap (λ p. p.generation) (sym same.place);
        live = f.live;
        reserved = f.reserved;
        session = λ t. record {
          key = m.key ∙ sym same.key;
          extra = m.extra ∙ sym same.extra;
          row = m.row ∙ sym same.row;
          complete = subst (λ (r : ℕ). IsComplete ds r) (sym same.row) m.complete;
          keyed = λ a. ap (λ (r : ℕ). has_key (config_at ds r)) same.row ∙ m.keyed a;
        };
        noted = λ t. opens;
      }) stays;
      live = order_same is_live ss ls i new k.live inside refl;
      reserved = order_same is_reserving ss rs i new k.reserved inside refl;
      taken = order_same is_taken ss ks i new k.taken inside refl;
      rows = k.rows;
      lines = map_same (λ j. line_of (session_in (set ss i new) j)) (λ j. line_of (session_in ss j)) ls (λ j some. number_case j i
          (λ (e : j ≡ i). ap (λ (m : ℕ). line_of (session_in (set ss i new) m)) e ∙ ap (λ (x : Slot). line_of x.session) (here ss i new inside) ∙ (λ p. record { key = same.key p; extra = same.extra p; row = same.row p }) ∙ ap (λ (m : ℕ). line_of (session_in ss m)) (sym e))
          (λ (n : j ≢ i). ap (λ (x : Slot). line_of x.session) (else_where ss i j new n))) ∙ k.lines;
      reach = reach_kept z ss i new far inside stays k.reach;
      width = k.width;
      range = k.range;
    }

pub changed_view : (z : TableSize) (ds : List Step) (ss : List Slot) (ls : List ℕ) (i : ℕ) (change : Session → Session) → AreSlots z ds ss → IsOrder is_live ss ls → is_live (taken_in ss i) ≡ true
    → map (session_in (set ss i (record (slot_in ss i) { session = change (session_in ss i) }))) ls ≡ with_change i change (map (session_in ss) ls)
changed_view z ds ss ls i change a o live = let new : Slot = record (slot_in ss i) { session = change (session_in ss i) } in map_each (session_in (set ss i new)) (changed_at i change) (session_in ss) ls (λ j some. let p = place_in z ds ss is_live ls j a o refl some in number_case j i
    (λ (e : j ≡ i). ap (λ (m : ℕ). session_in (set ss i new) m) e ∙ ap (λ (x : Slot). x.session) (here ss i new (is_inside is_live ss i refl live)) ∙ ap (λ (m : ℕ). change (session_in ss m)) (sym e) ∙ sym (rw (eq-eqb (session_in ss j).place.slot i (p ∙ e)) refl))
    (λ (n : j ≢ i). ap (λ (x : Slot). x.session) (else_where ss i j new n) ∙ sym (rw (ne_eqb (session_in ss j).place.slot i (λ x. n (sym p ∙ x))) refl)))

pub closing_kept : (z : TableSize) (ds : List Step) (rb : Rows) (ss : List Slot) (ls rs ks far : List ℕ) (i moment : ℕ) → IsKept z ds rb ss ls rs ks far → is_live (taken_in ss i) ≡ true → IsKept z ds rb (set ss i (closing_slot ss i moment)) ls rs ks far
closing_kept z ds rb ss ls rs ks far i moment k live = let f = k.slots.fits i (inside_of z ds ss is_live i k.slots refl live) in
    same_kept z ds rb ss ls rs ks far i (with_closing moment (session_in ss i)) k live (record { key = refl; extra = refl; row = refl; place = refl }) (f.noted live)

pub closing_does : (z : TableSize) (seat : Seat) (rb : Rows) (ss : List Slot) (ls rs ks far : List ℕ) (key : Key) (i moment : ℕ) → IsKept z (desk_steps seat) rb ss ls rs ks far → is_live (taken_in ss i) ≡ true → is_of key (session_in ss i) ≡ true
    → ClosesLater (book_of seat z rb ss ls rs ks) key moment (book_of seat z rb (set ss i (closing_slot ss i moment)) ls rs ks)
closing_does z seat rb ss ls rs ks far key i moment k live at = let lt = inside_of z (desk_steps seat) ss is_live i k.slots refl live in let f = k.slots.fits i lt in record {
  session = session_in ss i;
  found = contains_map (session_in ss) i ls (is_member is_live ss ls i k.live live);
  key = same_key_eq (session_in ss i).key key at;
  seat = refl;
  live = changed_view z (desk_steps seat) ss ls i (with_closing moment) k.slots k.live live ∙ ap (λ (j : ℕ). with_change j (with_closing moment) (map (session_in ss) ls)) (sym f.place);
  reserved = view_else ss rs i (closing_slot ss i moment) (no_member is_reserving ss rs i k.reserved (live_not_reserving (taken_in ss i) live));
  keys = keys_same ss ks i (closing_slot ss i moment) (is_inside is_live ss i refl live) refl;
  rows = refl;
  size = refl;
}
