-- What each call leaves as it is.
use Rattle.std.proofs.Common.{◌≡◌, ◌⊎◌, inl, inr, ⊎_elim, ℕ, zero, suc, ◌==◌, true, false, List, [], ◌∷◌, ◌++◌, Ok, Err, sym, refl, ap, ◌∙◌, subst, eq-eqb, append_assoc}
use Rattle.std.proofs.lemmas.List.{append-nil}
use Rattle.refl_types.specs.declared.config.ConfigParts.{ConfigParts}
use Rattle.refl_types.specs.declared.outcome.Place.{Place}
use Rattle.refl_types.specs.Spelling.{FitsConfig}
use Rattle.config_rows.specs.Rows.{Rows, IsRow, IsNext}
use Rattle.config_rows.specs.Words.{row_words}
use Rattle.session_key.specs.Words.{key_words}
use Rattle.session_world.specs.declared.steps.TableSize.{TableSize}
use Rattle.session_world.specs.declared.steps.Step.{Step}
use Rattle.session_world.specs.declared.steps.Step.TheVariants.{ReserveNew, ReserveUsed, Start, Close, Peek, Reconfigure}
use Rattle.session_world.specs.Desk.{is_split}
use Rattle.session_world.specs.Answers.{Answer, desk_answers}
use Rattle.session_desk.proofs.BoolFacts.{bool}
use Rattle.session_rule.specs.declared.seats.Table.{Table}
use Rattle.session_rule.specs.declared.seats.Seat.{Seat}
use Rattle.session_rule.specs.Seats.{size_of, desk_steps, joined_parts, IsDeskOf, IsDeskOfOneSchedule, DeskHasMade}
use Rattle.session_desk.specs.declared.session.ReserveFault.{ReserveFault}
use Rattle.session_desk.specs.declared.session.ReserveFault.TheVariants.{Duplicate, ModeClash, NoKey, RowsFull, Full}
use Rattle.session_desk.specs.Book.{Book, IsBookOf, steps_of, answers_of}
use Rattle.session_desk.specs.Writes.{key_writes, row_writes, scans_of, reserve_step, HasRow, HasAdded}
use Rattle.session_desk.specs.Refusals.{IsUnmoved}
use Rattle.session_desk.specs.Ticking.{Fate, is_closed, keeps, renews, expires, escapes, fate_steps, Fated, all_steps, all_answers}
use Rattle.session_desk.specs.Makes.{Makes, BookCall, admits, reserves, keeps_row, starts, abandons, sets, closes, closes_at, counts, ticks, tells_length, tells_key, tells_place}
use Rattle.session_desk.specs.Going.{StandsAt, DeskWent}
use Rattle.session_desk.proofs.Written.{IsQuiet, quiet_none, quiet_scan, quiet_row, quiet_key, scans_quiet, keys_quiet, made_quiet}
use Rattle.session_desk.proofs.Reserving.{same_answers}

-- ---- no step splits or joins

split_quiet : {i : ℕ} (xs ds : List Step) (w : ℕ) → IsQuiet i xs → is_split (xs ++ ds) w ≡ is_split ds w
split_quiet _ ds w quiet_none = refl
split_quiet _ ds w (quiet_scan v n xs q) = split_quiet xs ds w q
split_quiet _ ds w (quiet_row r k n xs q) = split_quiet xs ds w q
split_quiet _ ds w (quiet_key k n xs q) = split_quiet xs ds w q

split_reserve : (p : Place) (row : ℕ) (ds : List Step) (w : ℕ) → is_split (reserve_step p row ∷ ds) w ≡ is_split ds w
split_reserve p row ds w = ⊎_elim
    (λ (e : (p.generation == 1) ≡ true). rw e refl)
    (λ (e : (p.generation == 1) ≡ false). rw e refl)
    (bool (p.generation == 1))

split_fate : (f : Fate) (i : ℕ) (ds : List Step) (w : ℕ) → is_split (fate_steps i f ++ ds) w ≡ is_split ds w
split_fate (is_closed n) i ds w = refl
split_fate (keeps n) i ds w = refl
split_fate (renews n) i ds w = refl
split_fate (expires n) i ds w = refl
split_fate (escapes n found) i ds w = refl

split_fates : (fs : List Fated) (ds : List Step) (w : ℕ) → is_split (all_steps fs ++ ds) w ≡ is_split ds w
split_fates [] ds w = refl
split_fates (f ∷ fs) ds w = ap (λ (xs : List Step). is_split xs w) (append_assoc (all_steps fs) (fate_steps f.session.place.slot f.fate) ds) ∙ split_fates fs (fate_steps f.session.place.slot f.fate ++ ds) w ∙ split_fate f.fate f.session.place.slot ds w

-- ---- rows are added

rows_added : (rows rows' : Rows) (c : ConfigParts) (row : ℕ) (made : List Step) → HasRow rows rows' c row made → ((added : List ConfigParts) × (rows'.configs ≡ rows.configs ++ added)) × (rows'.limit ≡ rows.limit)
rows_added rows rows' c row made h = ⊎_elim
    (λ (k : (IsRow rows c row) × (rows' ≡ rows) × (made ≡ [])). (([], ap (λ (r : Rows). r.configs) k.1 ∙ sym (append-nil rows.configs)), ap (λ (r : Rows). r.limit) k.1))
    (λ (k : (IsNext rows c row) × (rows' ≡ record { configs = rows.configs ++ c ∷ []; limit = rows.limit }) × (made ≡ row_writes row (row_words c) 12) × FitsConfig c). ((c ∷ [], ap (λ (r : Rows). r.configs) k.1), ap (λ (r : Rows). r.limit) k.1))
    h

same_rows : (rows rows' : Rows) → rows' ≡ rows → ((added : List ConfigParts) × (rows'.configs ≡ rows.configs ++ added)) × (rows'.limit ≡ rows.limit)
same_rows rows rows' e = (([], ap (λ (r : Rows). r.configs) e ∙ sym (append-nil rows.configs)), ap (λ (r : Rows). r.limit) e)

-- ---- one call

pub went_none : (t : Table) (b : Book) → StandsAt t b → DeskWent t b b
went_none t b s = record { steps = ([], refl); answers = ([], refl); split = λ w. refl; joined = refl; rows = ([], sym (append-nil b.rows.configs)); row_limit = refl; size = refl; stands = s }

went_same : (t : Table) (b c : Book) → StandsAt t b → c ≡ b → DeskWent t b c
went_same t b c s e = subst (DeskWent t b) (sym e) (went_none t b s)

-- the book goes on by steps that are added
went_added : (t : Table) (b c : Book) (made : List Step) (given : List (Answer ℕ)) → StandsAt t b → HasAdded t b.seat c.seat made → answers_of c ≡ given ++ answers_of b → ((w : ℕ) → is_split (made ++ steps_of b) w ≡ is_split (steps_of b) w)
    → ((added : List ConfigParts) × (c.rows.configs ≡ b.rows.configs ++ added)) × (c.rows.limit ≡ b.rows.limit) → c.size ≡ b.size → DeskWent t b c
went_added t b c made given s a answers split rows size = record {
  steps = (made, a.steps);
  answers = (given, answers);
  split = λ w. ap (λ (xs : List Step). is_split xs w) a.steps ∙ split w;
  joined = a.joined;
  rows = rows.0;
  row_limit = rows.1;
  size = size;
  stands = record { book = (a.seat, s.book.1 ∙ sym size); schedule = a.schedule };
}

went_made : (t : Table) (b c : Book) (st : Step) (given : List (Answer ℕ)) → StandsAt t b → DeskHasMade t b.seat c.seat st → answers_of c ≡ given ++ answers_of b → ((w : ℕ) → is_split (st ∷ steps_of b) w ≡ is_split (steps_of b) w) → c.rows ≡ b.rows → c.size ≡ b.size → DeskWent t b c
went_made t b c st given s m answers split rows size = went_added t b c (st ∷ []) given s (record { steps = m.step; joined = m.joined; seat = m.seat; schedule = m.schedule }) answers split (same_rows b.rows c.rows rows) size

-- no step was made
went_still : (t : Table) (b c : Book) → StandsAt t b → c.seat ≡ b.seat → c.rows ≡ b.rows → c.size ≡ b.size → DeskWent t b c
went_still t b c s seat rows size = let r = same_rows b.rows c.rows rows in record {
  steps = ([], ap desk_steps seat);
  answers = ([], ap (λ (x : Seat). desk_answers (desk_steps x)) seat);
  split = λ w. ap (λ (x : Seat). is_split (desk_steps x) w) seat;
  joined = ap joined_parts seat;
  rows = r.0;
  row_limit = r.1;
  size = size;
  stands = record { book = (subst (IsDeskOf t) (sym seat) s.book.0, s.book.1 ∙ sym size); schedule = subst (λ (x : Seat). IsDeskOfOneSchedule (size_of t) (desk_steps x) (joined_parts x)) (sym seat) s.schedule };
}

went_unmoved : (t : Table) (b c : Book) (f : ReserveFault) → StandsAt t b → IsUnmoved t b f c → DeskWent t b c
went_unmoved t b c (Duplicate j) s u = went_same t b c s u
went_unmoved t b c (ModeClash j) s u = went_same t b c s u
went_unmoved t b c NoKey s u = went_same t b c s u
went_unmoved t b c RowsFull s u = went_same t b c s u
went_unmoved t b c (Full live reserved retired held) s u = let q = scans_quiet {i = 0} b.size.workers u.words in
    went_added t b c (scans_of b.size.workers u.words) [] s u.added (ap desk_answers u.added.steps ∙ same_answers {i = 0} (scans_of b.size.workers u.words) (steps_of b) q)
    (λ w. split_quiet (scans_of b.size.workers u.words) (steps_of b) w q) (same_rows b.rows c.rows (ap (λ (x : Book). x.rows) u.book)) (ap (λ (x : Book). x.size) u.book)

pub went : (t : Table) (call : BookCall) (b c : Book) → StandsAt t b → Makes t call b c → DeskWent t b c
went t (admits k x (Ok u)) b c s m = went_same t b c s m.1
went t (admits k x (Err f)) b c s m = went_same t b c s m.1
went t (reserves k e x wait (Ok p)) b c s m =
    let scans = scans_of b.size.workers m.words in let keys = key_writes p.slot (key_words k e) 4 in let q = made_quiet {i = p.slot} b.rows c.rows x m.row m.made m.kept in
    went_added t b c (reserve_step p m.row ∷ (keys ++ (m.made ++ scans))) [] s m.added m.answers
    (λ w. split_reserve p m.row ((keys ++ (m.made ++ scans)) ++ steps_of b) w
    ∙ ap (λ (xs : List Step). is_split xs w) (append_assoc keys (m.made ++ scans) (steps_of b)) ∙ split_quiet keys ((m.made ++ scans) ++ steps_of b) w (keys_quiet p.slot (key_words k e) 4)
    ∙ ap (λ (xs : List Step). is_split xs w) (append_assoc m.made scans (steps_of b)) ∙ split_quiet m.made (scans ++ steps_of b) w q
    ∙ split_quiet scans (steps_of b) w (scans_quiet {i = 0} b.size.workers m.words))
    (rows_added b.rows c.rows x m.row m.made m.kept) m.size
went t (reserves k e x wait (Err f)) b c s m = went_unmoved t b c f s m.1
went t (keeps_row x (Ok u)) b c s m = went_added t b c m.made [] s m.added m.answers (λ w. split_quiet m.made (steps_of b) w (made_quiet {i = 0} b.rows c.rows x m.row m.made m.kept)) (rows_added b.rows c.rows x m.row m.made m.kept) m.size
went t (keeps_row x (Err f)) b c s m = went_same t b c s m.1
went t (starts p now (Ok u)) b c s m = went_made t b c (Start p.slot m.word) (_ ∷ []) s m.made m.answers (λ w. refl) m.rows m.size
went t (starts p now (Err f)) b c s m = went_same t b c s m.1
went t (abandons p (Ok u)) b c s m = went_still t b c s m.seat m.rows m.size
went t (abandons p (Err f)) b c s m = went_same t b c s m.1
went t (sets k x (Ok u)) b c s m = went_added t b c (Reconfigure m.session.place.slot m.session.row m.row m.word ∷ m.made) (_ ∷ []) s m.added m.answers (λ w. split_quiet m.made (steps_of b) w (made_quiet {i = 0} b.rows c.rows x m.row m.made m.kept)) (rows_added b.rows c.rows x m.row m.made m.kept) m.size
went t (sets k x (Err f)) b c s m = went_same t b c s m.1
went t (closes k (Ok n)) b c s m = went_made t b c (Close m.session.place.slot m.word) (_ ∷ []) s m.made m.answers (λ w. refl) m.rows m.size
went t (closes k (Err f)) b c s m = went_same t b c s m.1
went t (closes_at k moment (Ok u)) b c s m = went_still t b c s m.seat m.rows m.size
went t (closes_at k moment (Err f)) b c s m = went_same t b c s m.1
went t (counts k (Ok n)) b c s m = went_made t b c (Peek m.session.place.slot m.word) (_ ∷ []) s m.made m.answers (λ w. refl) m.rows m.size
went t (counts k (Err f)) b c s m = went_same t b c s m.1
went t (ticks now ticked) b c s m = went_added t b c (all_steps m.fates) (all_answers m.fates) s m.added m.answers (λ w. split_fates m.fates (steps_of b) w) (same_rows b.rows c.rows m.rows) m.size
went t (tells_length n) b c s m = went_same t b c s m.1
went t (tells_key index o) b c s m = went_same t b c s m.1
went t (tells_place k o) b c s m = went_same t b c s m.1

-- ---- several

pub went_both : (t : Table) (b c d : Book) → DeskWent t b c → DeskWent t c d → DeskWent t b d
went_both t b c d g h = record {
  steps = (h.steps.0 ++ g.steps.0, h.steps.1 ∙ ap (λ (xs : List Step). h.steps.0 ++ xs) g.steps.1 ∙ sym (append_assoc h.steps.0 g.steps.0 (steps_of b)));
  answers = (h.answers.0 ++ g.answers.0, h.answers.1 ∙ ap (λ (xs : List (Answer ℕ)). h.answers.0 ++ xs) g.answers.1 ∙ sym (append_assoc h.answers.0 g.answers.0 (answers_of b)));
  split = λ w. h.split w ∙ g.split w;
  joined = h.joined ∙ g.joined;
  rows = (g.rows.0 ++ h.rows.0, h.rows.1 ∙ ap (λ (xs : List ConfigParts). xs ++ h.rows.0) g.rows.1 ∙ append_assoc b.rows.configs g.rows.0 h.rows.0);
  row_limit = h.row_limit ∙ g.row_limit;
  size = h.size ∙ g.size;
  stands = h.stands;
}
