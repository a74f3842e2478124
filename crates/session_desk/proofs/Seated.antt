-- The session that a reserve writes, and the whole of a reserve.
use Rattle.std.proofs.Common.{◌≡◌, ◌≢◌, ◌⊎◌, inl, inr, ⊎_elim, ℕ, zero, suc, ◌-◌, ◌*◌, ◌≤◌, true, false, List, [], ◌∷◌, ◌++◌, length, sym, refl, ap, ◌∙◌, subst, arith, eq-eqb, ne_eqb, length-append, Some}
use Rattle.std.specs.List.{slice_get}
use Rattle.std.proofs.lemmas.Option.{slice_get_within}
use Rattle.refl_types.specs.declared.types.Key.{Key}
use Rattle.refl_types.specs.declared.types.Extra.{Extra}
use Rattle.refl_types.specs.declared.config.ConfigParts.{ConfigParts}
use Rattle.refl_types.specs.declared.outcome.Place.{Place}
use Rattle.refl_types.specs.Spelling.{FitsConfig}
use Rattle.config_rows.specs.Rows.{Rows, IsRow, IsNext}
use Rattle.config_rows.specs.Words.{row_words, config_of_words}
use Rattle.session_key.specs.Words.{key_words, key_of_words, extra_of_words}
use Rattle.session_world.specs.declared.steps.TableSize.{TableSize}
use Rattle.session_world.specs.declared.steps.Step.{Step}
use Rattle.session_world.specs.declared.steps.Step.TheVariants.{ReserveNew, ReserveUsed}
use Rattle.session_world.specs.Keys.{is_auth, has_key}
use Rattle.session_world.specs.Desk.{is_open, generation_of, row_of, key_of_slot, extra_of_slot, is_reserved, rows_written, config_at}
use Rattle.session_world.specs.Answers.{desk_answers}
use Rattle.session_desk.proofs.BoolFacts.{number_case, true_ne_false, some_same, some_none}
use Rattle.session_world.specs.Allowed.{DeskDid}
use Rattle.session_desk.specs.declared.session.Use.TheVariants.{Reserved}
use Rattle.session_desk.specs.Sessions.{new_session}
use Rattle.session_desk.specs.declared.session.Slot.{Slot}
use Rattle.session_desk.specs.Slots.{SlotFits}
use Rattle.session_desk.specs.Kept.{RowsFit}
use Rattle.session_desk.specs.Writes.{key_writes, row_writes, reserve_step, HasRow}
use Rattle.session_desk.proofs.Keeping.{OnlyAt}
use Rattle.session_desk.proofs.Written.{keys_quiet, made_quiet, made_complete, same_open, rows_counted, config_written, config_other, key_is, extra_is, rows_as_before}
use Rattle.session_desk.proofs.Reserving.{only_then, only_quiet, only_reserve_new, only_reserve_used, same_answers, did_tail}

-- ---- what the last step of a reserve says

record ReserveSays (ds : List Step) (st : Step) (i g row : ℕ) : Type 0 where
  generation : generation_of (st ∷ ds) i ≡ g
  gives : row_of (st ∷ ds) i ≡ row
  reserved : is_reserved (st ∷ ds) i ≡ true
  live : is_open (st ∷ ds) i ≡ is_open ds i
  key : key_of_slot (st ∷ ds) i ≡ key_of_slot ds i
  extra : extra_of_slot (st ∷ ds) i ≡ extra_of_slot ds i
  rows : rows_written (st ∷ ds) ≡ rows_written ds
  config : (r : ℕ) → config_at (st ∷ ds) r ≡ config_at ds r
  only : OnlyAt ds (st ∷ ds) i
  answers : desk_answers (st ∷ ds) ≡ desk_answers ds

says_new : (ds : List Step) (i row : ℕ) → ReserveSays ds (ReserveNew i row) i 1 row
says_new ds i row = record { generation = rw (eq-eqb i i refl) refl; gives = rw (eq-eqb i i refl) refl; reserved = rw (eq-eqb i i refl) refl; live = refl; key = refl; extra = refl; rows = refl; config = λ r. refl; only = only_reserve_new ds i row; answers = refl }

says_used : (ds : List Step) (i g row : ℕ) → ReserveSays ds (ReserveUsed i g row) i g row
says_used ds i g row = record { generation = rw (eq-eqb i i refl) refl; gives = rw (eq-eqb i i refl) refl; reserved = rw (eq-eqb i i refl) refl; live = refl; key = refl; extra = refl; rows = refl; config = λ r. refl; only = only_reserve_used ds i g row; answers = refl }

says : (ds : List Step) (p : Place) (row : ℕ) → ReserveSays ds (reserve_step p row) p.slot p.generation row
says ds p row = number_case p.generation 1
    (λ (e : p.generation ≡ 1). rw (eq-eqb p.generation 1 e) (subst (λ (g : ℕ). ReserveSays ds (ReserveNew p.slot row) p.slot g row) (sym e) (says_new ds p.slot row)))
    (λ (n : p.generation ≢ 1). rw (ne_eqb p.generation 1 n) (says_used ds p.slot p.generation row))

-- ---- the rows after a row was used

got_push : {A : Type 0} (xs : List A) (c d : A) (n : ℕ) → slice_get (xs ++ c ∷ []) n ≡ Some d → (slice_get xs n ≡ Some d) ⊎ ((n ≡ length xs) × (d ≡ c))
got_push [] c d zero e = inr (refl, sym (some_same e))
got_push [] c d (suc n) e = absurd (some_none d e)
got_push (x ∷ xs) c d zero e = inl e
got_push {A} (x ∷ xs) c d (suc n) e = ⊎_elim (λ (l : slice_get xs n ≡ Some d). inl l) (λ (r : (n ≡ length xs) × (d ≡ c)). inr (ap (λ (k : ℕ). suc k) r.0, r.1)) (got_push xs c d n e)

pub rows_after : (z : TableSize) (ds made : List Step) (rb rc : Rows) (c : ConfigParts) (row : ℕ) → RowsFit z ds rb → HasRow rb rc c row made → (FitsConfig c → config_of_words (row_words c) ≡ c) → RowsFit z (made ++ ds) rc × (config_at (made ++ ds) row ≡ c)
rows_after z ds made rb rc c row f h back = ⊎_elim
    (λ (k : (IsRow rb c row) × (rc ≡ rb) × (made ≡ [])). subst (λ (xs : List Step). RowsFit z (xs ++ ds) rc × (config_at (xs ++ ds) row ≡ c)) (sym k.2) (subst (RowsFit z ds) (sym k.1) f, f.configs c row k.0))
    (λ (k : (IsNext rb c row) × (rc ≡ record { configs = rb.configs ++ c ∷ []; limit = rb.limit }) × (made ≡ row_writes row (row_words c) 12) × FitsConfig c).
    let w = rows_counted row 12 (row_words c) ds in let l = length-append rb.configs (c ∷ []) in let w0 = f.written in
    let is = config_written row ds c (back k.3) in let at = k.0.2 in
    subst (λ (xs : List Step). RowsFit z (xs ++ ds) rc × (config_at (xs ++ ds) row ≡ c)) (sym k.2) (
      subst (RowsFit z (row_writes row (row_words c) 12 ++ ds)) (sym k.1) (record {
        limit = f.limit;
        written = omega (arith, w, l, w0);
        configs = λ d r got. ⊎_elim
            (λ (x : slice_get rb.configs (r - 1) ≡ Some d). let within = slice_get_within rb.configs (r - 1) d x in
            config_other row 12 r (row_words c) ds (λ (e : r ≡ row). let pos = got.0 in omega (arith, e, within, at, pos)) ∙ f.configs d r (got.0, x))
            (λ (x : (r - 1 ≡ length rb.configs) × (d ≡ c)). let pos = got.0 in let e : r ≡ row = (let y = x.0 in omega (arith, y, at, pos)) in
            ap (config_at (row_writes row (row_words c) 12 ++ ds)) e ∙ is ∙ sym x.1)
            (got_push rb.configs c d (r - 1) got.1);
      }),
      is,
    ))
    h

-- ---- the whole of a reserve

abbrev pub reserved_slot : Key → Extra → ℕ → Place → ℕ → Slot
reserved_slot k x row p wait = record { taken = Reserved; session = new_session k x row p wait }

abbrev pub steps_after : Place → ℕ → Key → Extra → List Step → List Step → List Step
steps_after p row k x made ds = reserve_step p row ∷ (key_writes p.slot (key_words k x) 4 ++ (made ++ ds))

-- `ds` is the list after the scans
pub slot_fits : (z : TableSize) (ds made : List Step) (rb rc : Rows) (k : Key) (x : Extra) (c : ConfigParts) (row wait : ℕ) (p : Place) → RowsFit z ds rb → HasRow rb rc c row made → is_open ds p.slot ≡ false
    → key_of_words (key_words k x) ≡ k → extra_of_words (key_words k x) ≡ x → (FitsConfig c → config_of_words (row_words c) ≡ c) → (is_auth k ≡ true → has_key c ≡ true)
    → SlotFits (steps_after p row k x made ds) p.slot (reserved_slot k x row p wait)
slot_fits z ds made rb rc k x c row wait p f h shut kb xb cb keyed =
    let es = made ++ ds in let i = p.slot in let keys = key_writes i (key_words k x) 4 in
    let s = says (keys ++ es) p row in
    let key : key_of_slot (steps_after p row k x made ds) i ≡ k = s.key ∙ key_is i k x es kb in
    let comp = made_complete z ds made rb rc c row f h in record {
      place = refl;
      generation = s.generation;
      live = s.live ∙ same_open keys es i (keys_quiet i (key_words k x) 4) ∙ same_open made ds i (made_quiet {i = i} rb rc c row made h) ∙ shut;
      reserved = λ r. s.reserved;
      session = λ t. record {
        key = key;
        extra = s.extra ∙ extra_is i k x es xb;
        row = s.gives;
        complete = (comp.0, subst (λ (n : ℕ). 12 * row ≤ n) (sym (s.rows ∙ rows_as_before i 4 (key_words k x) es)) comp.1);
        keyed = λ a. ap has_key (s.config row ∙ (rows_after z ds made rb rc c row f h cb).1) ∙ keyed (ap is_auth (sym key) ∙ a);
      };
      noted = λ t. absurd (true_ne_false (sym t));
    }

pub rows_of_all : (z : TableSize) (ds made : List Step) (rb rc : Rows) (k : Key) (x : Extra) (c : ConfigParts) (row : ℕ) (p : Place) → RowsFit z ds rb → HasRow rb rc c row made → (FitsConfig c → config_of_words (row_words c) ≡ c) → RowsFit z (steps_after p row k x made ds) rc
rows_of_all z ds made rb rc k x c row p f h cb = let g = (rows_after z ds made rb rc c row f h cb).0 in let s = says (key_writes p.slot (key_words k x) 4 ++ (made ++ ds)) p row in record {
  limit = g.limit;
  written = s.rows ∙ rows_as_before p.slot 4 (key_words k x) (made ++ ds) ∙ g.written;
  configs = λ d r got. s.config r ∙ g.configs d r got;
}

pub answers_of_all : (ds made : List Step) (rb rc : Rows) (k : Key) (x : Extra) (c : ConfigParts) (row : ℕ) (p : Place) → HasRow rb rc c row made → desk_answers (steps_after p row k x made ds) ≡ desk_answers ds
answers_of_all ds made rb rc k x c row p h = (says (key_writes p.slot (key_words k x) 4 ++ (made ++ ds)) p row).answers ∙ same_answers made ds (made_quiet {i = p.slot} rb rc c row made h)

pub only_all : (z : TableSize) (ds made : List Step) (rb rc : Rows) (k : Key) (x : Extra) (c : ConfigParts) (row : ℕ) (p : Place) → HasRow rb rc c row made → DeskDid z (steps_after p row k x made ds) → OnlyAt ds (steps_after p row k x made ds) p.slot
only_all z ds made rb rc k x c row p h did =
    let i = p.slot in let keys = key_writes i (key_words k x) 4 in let es = made ++ ds in
    only_then ds (keys ++ es) _ i
    (only_then ds es (keys ++ es) i (only_quiet z i made ds (made_quiet {i = i} rb rc c row made h) (did_tail z keys es did.0)) (only_quiet z i keys es (keys_quiet i (key_words k x) 4) did.0))
    (says (keys ++ es) p row).only
