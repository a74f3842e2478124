-- A reserve as a whole: what it keeps, and what contracts see of it.
use Rattle.std.proofs.Common.{◌≡◌, ℕ, suc, ◌+◌, ◌<◌, ◌==◌, true, ◌||◌, ◌&&◌, not, nat_lt, List, [], ◌∷◌, ◌++◌, length, get_or, set, map, max, sym, refl, ap, ◌∙◌, subst, arith, add-one, eq-eqb}
use Rattle.std.specs.List.{list_any}
use Rattle.std.proofs.lemmas.Bool.{eqb-true}
use Rattle.std.proofs.lemmas.List.{length-set}
use Rattle.refl_types.specs.declared.types.Key.{Key}
use Rattle.refl_types.specs.declared.types.Extra.{Extra}
use Rattle.refl_types.specs.declared.config.ConfigParts.{ConfigParts}
use Rattle.refl_types.specs.declared.outcome.Place.{Place}
use Rattle.refl_types.specs.Spelling.{FitsConfig}
use Rattle.slot_word.specs.Fields.{greatest_generation}
use Rattle.config_rows.specs.Rows.{Rows}
use Rattle.config_rows.specs.Words.{row_words, config_of_words}
use Rattle.session_key.specs.Words.{key_words, key_of_words, extra_of_words}
use Rattle.session_world.specs.declared.steps.TableSize.{TableSize}
use Rattle.session_world.specs.declared.steps.Step.{Step}
use Rattle.session_world.specs.Keys.{is_auth, has_key, distance}
use Rattle.session_world.specs.Desk.{start_of_key}
use Rattle.session_world.specs.Answers.{desk_answers}
use Rattle.session_desk.proofs.BoolFacts.{both, not_true, is_false, true_ne_false, or_l, or_r, or_none}
use Rattle.session_world.specs.Allowed.{DeskDid}
use Rattle.session_world.specs.Walks.{WalksGoRound}
use Rattle.session_rule.specs.declared.seats.Table.{Table}
use Rattle.session_rule.specs.declared.seats.Seat.{Seat}
use Rattle.session_rule.specs.Seats.{desk_steps}
use Rattle.session_desk.specs.declared.session.Use.{Use}
use Rattle.session_desk.specs.declared.session.Use.TheVariants.{Free, Reserved, Live}
use Rattle.session_desk.specs.declared.session.Slot.{Slot}
use Rattle.session_desk.specs.Sessions.{is_in_slot}
use Rattle.session_desk.specs.Slots.{is_live, is_reserving, is_taken, session_in, taken_in, AreSlots, IsAlone, IsFirst, IsOrder, may_take}
use Rattle.session_desk.specs.Kept.{IsKept, book_of}
use Rattle.session_desk.specs.Writes.{key_writes, scans_of, is_named, reserve_step, HasRow, HasAdded}
use Rattle.session_desk.specs.Calls.{NoCause, is_free_in, HasReserved}
use Rattle.session_desk.proofs.Lists.{any_none, any_some}
use Rattle.session_desk.proofs.Orders.{member, is_member, no_member}
use Rattle.session_desk.proofs.Keeping.{place_in, view_else, view_with, keys_with}
use Rattle.session_desk.proofs.Written.{scans_quiet, same_open}
use Rattle.session_desk.proofs.Reserving.{only_then, only_quiet, same_answers, did_tail, reserve_kept, free_is_not_live, free_is_not_reserving}
use Rattle.session_desk.proofs.Reserved.{scans_kept, widened, still_in_range}
use Rattle.session_desk.proofs.Seated.{reserved_slot, steps_after, slot_fits, rows_of_all, answers_of_all, only_all}

pub reserve_keeps : WalksGoRound → (z : TableSize) (ds made : List Step) (rb rc : Rows) (ss : List Slot) (ls rs ks far words : List ℕ) (k : Key) (x : Extra) (c : ConfigParts) (row wait start : ℕ) (p : Place) → IsKept z ds rb ss ls rs ks far
    → IsFirst ss z.workers words start p.slot → start ≡ start_of_key z k → start < z.slots → IsAlone z ss k → (is_auth k ≡ true → has_key c ≡ true) → HasRow rb rc c row made
    → key_of_words (key_words k x) ≡ k → extra_of_words (key_words k x) ≡ x → (FitsConfig c → config_of_words (row_words c) ≡ c)
    → DeskDid z (steps_after p row k x made (scans_of z.workers words ++ ds))
    → IsKept z (steps_after p row k x made (scans_of z.workers words ++ ds)) rc (set ss p.slot (reserved_slot k x row p wait)) ls (rs ++ p.slot ∷ []) (ks ++ p.slot ∷ []) (set far start (max (get_or far start 0) (distance z.slots start p.slot + 1)))
reserve_keeps laws z ds made rb rc ss ls rs ks far words k x c row wait start p kept f e sl alone keyed h kb xb cb did =
    let i = p.slot in let scans = scans_of z.workers words in let es = scans ++ ds in
    let lt : i < z.slots = subst (λ (n : ℕ). i < n) kept.slots.count f.inside in
    let free = not_true _ (both _ _ f.free).0 in
    let fl = sym kept.width in
    let far_long : start < length far = subst (λ (n : ℕ). start < n) fl sl in
    let sk = scans_kept z ds rb ss ls rs ks far z.workers words kept in
    let shut = same_open scans ds i (scans_quiet {i = i} z.workers words) ∙ (kept.slots.fits i lt).live ∙ free_is_not_live (taken_in ss i) free in
    let mid = did_tail z made es (did_tail z (key_writes i (key_words k x) 4) (made ++ es) did.0) in
    reserve_kept z ds (steps_after p row k x made es) rb rc ss ls rs ks far (set far start (max (get_or far start 0) (distance z.slots start i + 1))) i (reserved_slot k x row p wait) kept lt free refl
    (only_then ds es _ i (only_quiet z i scans ds (scans_quiet {i = i} z.workers words) mid) (only_all z es made rb rc k x c row p h did))
    (slot_fits z es made rb rc k x c row wait p sk.rows h shut kb xb cb keyed)
    alone
    (rows_of_all z es made rb rc k x c row p sk.rows h cb)
    (answers_of_all es made rb rc k x c row p h ∙ same_answers {i = i} scans ds (scans_quiet z.workers words))
    (widened z ss far start i (reserved_slot k x row p wait) f.inside far_long e kept.reach)
    (length-set _ _ _ ∙ kept.width)
    (still_in_range z.slots far start _ far_long (let r = kept.range start in let d = laws.low z.slots start i sl lt in omega (arith, r, d)) kept.range)

-- ---- the first free slot, as contracts see it

pub some_session : (z : TableSize) (ds : List Step) (ss : List Slot) (ls rs : List ℕ) (j : ℕ) (u : Use) → AreSlots z ds ss → IsOrder is_live ss ls → IsOrder is_reserving ss rs → taken_in ss j ≡ u → j < z.slots
    → (list_any (is_in_slot j) (map (session_in ss) ls) || list_any (is_in_slot j) (map (session_in ss) rs)) ≡ is_taken u
some_session z ds ss ls rs j Live a o q e lt = or_l _ _ (any_some (session_in ss) (is_in_slot j) j ls (is_member is_live ss ls j o (ap is_live e)) (eq-eqb _ _ (a.fits j lt).place))
some_session z ds ss ls rs j Reserved a o q e lt = or_r _ _ (any_some (session_in ss) (is_in_slot j) j rs (is_member is_reserving ss rs j q (ap is_reserving e)) (eq-eqb _ _ (a.fits j lt).place))
some_session z ds ss ls rs j Free a o q e lt = or_none _ _
    (any_none (session_in ss) (is_in_slot j) ls (λ i some. is_false _ (λ (t : is_in_slot j (session_in ss i) ≡ true). let same : i ≡ j = sym (place_in z ds ss is_live ls i a o refl some) ∙ eqb-true _ _ t in true_ne_false (sym (member is_live ss ls i o some) ∙ ap (λ (m : ℕ). is_live (taken_in ss m)) same ∙ ap is_live e))))
    (any_none (session_in ss) (is_in_slot j) rs (λ i some. is_false _ (λ (t : is_in_slot j (session_in ss i) ≡ true). let same : i ≡ j = sym (place_in z ds ss is_reserving rs i a q refl some) ∙ eqb-true _ _ t in true_ne_false (sym (member is_reserving ss rs i q some) ∙ ap (λ (m : ℕ). is_reserving (taken_in ss m)) same ∙ ap is_reserving e))))

pub free_same : (z : TableSize) (seat : Seat) (rb : Rows) (ss : List Slot) (ls rs ks far words : List ℕ) (j : ℕ) → IsKept z (desk_steps seat) rb ss ls rs ks far → j < z.slots → is_free_in (book_of seat z rb ss ls rs ks) words j ≡ may_take ss z.workers words j
free_same z seat rb ss ls rs ks far words j k lt = λ p. not (some_session z (desk_steps seat) ss ls rs j (taken_in ss j) k.slots k.live k.reserved refl lt p)
    && ((((k.slots.fits j lt).generation p) == 0) || (nat_lt ((k.slots.fits j lt).generation p) greatest_generation && not (is_named z.workers words j)))

pub reserve_does : (t : Table) (z : TableSize) (seat seat' : Seat) (made : List Step) (rb rc : Rows) (ss : List Slot) (ls rs ks far words : List ℕ) (k : Key) (x : Extra) (c : ConfigParts) (row wait start : ℕ) (p : Place) → IsKept z (desk_steps seat) rb ss ls rs ks far
    → IsFirst ss z.workers words start p.slot → start ≡ start_of_key z k → p.generation ≡ (session_in ss p.slot).place.generation + 1 → HasRow rb rc c row made
    → HasAdded t seat seat' (reserve_step p row ∷ (key_writes p.slot (key_words k x) 4 ++ (made ++ scans_of z.workers words)))
    → desk_answers (desk_steps seat') ≡ desk_answers (desk_steps seat) → NoCause (book_of seat z rb ss ls rs ks) k c
    → HasReserved t (book_of seat z rb ss ls rs ks) k x c wait p (book_of seat' z rc (set ss p.slot (reserved_slot k x row p wait)) ls (rs ++ p.slot ∷ []) (ks ++ p.slot ∷ []))
reserve_does t z seat seat' made rb rc ss ls rs ks far words k x c row wait start p kept f e pg h added answers none =
    let i = p.slot in let lt : i < z.slots = subst (λ (n : ℕ). i < n) kept.slots.count f.inside in
    let free = not_true _ (both _ _ f.free).0 in record {
      words = words;
      row = row;
      made = made;
      first = record {
        inside = lt;
        free = free_same z seat rb ss ls rs ks far words i kept lt ∙ f.free;
        before = λ j l d. free_same z seat rb ss ls rs ks far words j kept l ∙ f.before j (subst (λ (n : ℕ). j < n) (sym kept.slots.count) l) (subst (λ (n : ℕ). distance n start j < distance n start i) (sym kept.slots.count) (subst (λ (s : ℕ). distance z.slots s j < distance z.slots s i) (sym e) d));
      };
      next = pg ∙ add-one _ ∙ ap (λ (g : ℕ). suc g) (sym (kept.slots.fits i lt).generation);
      no_cause = none;
      kept = h;
      added = added;
      answers = answers;
      reserved = view_with ss rs i (reserved_slot k x row p wait) f.inside (no_member is_reserving ss rs i kept.reserved (free_is_not_reserving (taken_in ss i) free));
      live = view_else ss ls i (reserved_slot k x row p wait) (no_member is_live ss ls i kept.live (free_is_not_live (taken_in ss i) free));
      keys = keys_with ss ks i (reserved_slot k x row p wait) f.inside (no_member is_taken ss ks i kept.taken free);
      size = refl;
    }
