-- What whoever runs the desk may rely on.
use Rattle.std.proofs.Common.{◌≡◌, ◌≢◌, ◌⊎◌, inl, inr, ⊎_elim, ℕ, zero, suc, ◌-◌, ◌<◌, ◌==◌, Bool, true, false, ◌||◌, ◌&&◌, not, if◌then◌else◌, List, [], ◌∷◌, ◌++◌, length, map, Some, Ok, Err, sym, refl, ap, ◌∙◌, subst, arith, eq-eqb, ne_eqb}
use Rattle.std.specs.List.{filter, list_any, slice_get, Contains}
use Rattle.std.proofs.lemmas.Bool.{eqb-true}
use Rattle.refl_types.specs.declared.types.Key.{Key}
use Rattle.refl_types.specs.declared.types.Extra.{Extra}
use Rattle.refl_types.specs.declared.config.ConfigParts.{ConfigParts}
use Rattle.refl_types.specs.declared.outcome.Place.{Place}
use Rattle.refl_types.specs.Spelling.{FitsConfig}
use Rattle.config_rows.specs.Rows.{Rows, IsRow, IsNext}
use Rattle.config_rows.specs.Words.{row_words}
use Rattle.session_world.specs.declared.steps.Step.{Step}
use Rattle.session_world.specs.Keys.{is_auth}
use Rattle.session_world.specs.Desk.{generation_of}
use Rattle.session_desk.proofs.BoolFacts.{number_case, bool, true_ne_false, both, or_r, some_none}
use Rattle.session_rule.specs.declared.seats.Table.{Table}
use Rattle.session_desk.specs.declared.session.NoSuch.{NoSuch}
use Rattle.session_desk.specs.declared.session.Session.{Session}
use Rattle.session_desk.specs.declared.session.ReserveFault.{ReserveFault}
use Rattle.session_desk.specs.declared.session.ReserveFault.TheVariants.{Duplicate, ModeClash, NoKey, RowsFull, Full}
use Rattle.session_desk.specs.Sessions.{is_at, is_in_slot, without, changed_at, with_change, new_session, with_row, with_closing}
use Rattle.session_desk.specs.Book.{Book, steps_of}
use Rattle.session_desk.specs.Writes.{row_writes, HasRow}
use Rattle.session_desk.specs.Refusals.{IsUnmoved}
use Rattle.session_desk.specs.Fits.{BookFits}
use Rattle.session_desk.specs.Going.{DeskWent}
use Rattle.session_desk.specs.Makes.{Makes, BookCall, admits, reserves, keeps_row, starts, abandons, sets, closes, closes_at, counts, ticks, tells_length, tells_key, tells_place}
use Rattle.session_desk.specs.Promises.{IsReservedAt, LeavesPlace, ChangesLive}
use Rattle.session_desk.proofs.Keeping.{at_place}

-- ---- lists

any_before : {A : Type 0} (p : A → Bool) (xs ys : List A) → list_any p xs ≡ true → list_any p (xs ++ ys) ≡ true
any_before p [] ys h = absurd (true_ne_false (sym h))
any_before p (x ∷ xs) ys h = ⊎_elim
    (λ (e : p x ≡ true). rw e refl)
    (λ (e : p x ≡ false). rw e (any_before p xs ys (sym (rw e refl) ∙ h)))
    (bool (p x))

any_after : {A : Type 0} (p : A → Bool) (xs : List A) (y : A) → p y ≡ true → list_any p (xs ++ y ∷ []) ≡ true
any_after p [] y h = rw h refl
any_after p (x ∷ xs) y h = or_r _ _ (any_after p xs y h)

any_found : {A : Type 0} (p : A → Bool) (xs : List A) → list_any p xs ≡ true → (x : A) × Contains xs x × (p x ≡ true)
any_found p [] h = absurd (true_ne_false (sym h))
any_found p (x ∷ xs) h = ⊎_elim
    (λ (e : p x ≡ true). (x, (0, omega arith, refl), e))
    (λ (e : p x ≡ false). let r = any_found p xs (sym (rw e refl) ∙ h) in (r.0, (suc r.1.0, (let l = r.1.1 in omega (arith, l)), r.1.2), r.2))
    (bool (p x))

-- a session at another slot isn't left out
any_without : (p : Place) (k : ℕ) (xs : List Session) → p.slot ≢ k → list_any (is_at p) xs ≡ true → list_any (is_at p) (without k xs) ≡ true
any_without p k [] n h = h
any_without p k (x ∷ xs) n h = number_case x.place.slot k
    (λ (e : x.place.slot ≡ k). let out : is_at p x ≡ false = ap (λ (b : Bool). b && (x.place.generation == p.generation)) (ne_eqb x.place.slot p.slot (λ q. n (sym q ∙ e))) in
    rw (eq-eqb x.place.slot k e) (any_without p k xs n (sym (ap (λ (b : Bool). b || list_any (is_at p) xs) out) ∙ h)))
    (λ (m : x.place.slot ≢ k). rw (ne_eqb x.place.slot k m) (⊎_elim
    (λ (e : is_at p x ≡ true). ap (λ (b : Bool). b || list_any (is_at p) (without k xs)) e)
    (λ (e : is_at p x ≡ false). ap (λ (b : Bool). b || list_any (is_at p) (without k xs)) e ∙ any_without p k xs n (sym (ap (λ (b : Bool). b || list_any (is_at p) xs) e) ∙ h))
    (bool (is_at p x))))

-- ---- reserved sessions

pub place_reserved : (p : Place) (k : Key) (x : Extra) (row wait : ℕ) (xs : List Session) → list_any (is_at p) (xs ++ new_session k x row p wait ∷ []) ≡ true
place_reserved p k x row wait xs = any_after (is_at p) xs (new_session k x row p wait) (rw (eq-eqb p.slot p.slot refl, eq-eqb p.generation p.generation refl) refl)

-- the place of a reserved session, where another reserved session's slot is left out, is that one's or stays
left_or_stays : (b : Book) (s : Session) (q p : Place) (rs : List Session) → BookFits b → Contains b.reserved s → s.place ≡ q → rs ≡ without q.slot b.reserved → IsReservedAt b p → (q ≡ p) ⊎ (list_any (is_at p) rs ≡ true)
left_or_stays b s q p rs fits found at e h = number_case p.slot q.slot
    (λ (same : p.slot ≡ q.slot).
    let r = any_found (is_at p) b.reserved h in
    let mine : generation_of (steps_of b) q.slot ≡ q.generation = ap (λ (x : Place). generation_of (steps_of b) x.slot) (sym at) ∙ fits.places s (inr found) ∙ ap (λ (x : Place). x.generation) at in
    let place : r.0.place ≡ p = at_place r.0 p r.2 in
    let yours : generation_of (steps_of b) p.slot ≡ p.generation = ap (λ (x : Place). generation_of (steps_of b) x.slot) (sym place) ∙ fits.places r.0 (inr r.1) ∙ ap (λ (x : Place). x.generation) place in
    inl (λ i. record { slot = sym same i; generation = (sym mine ∙ ap (generation_of (steps_of b)) (sym same) ∙ yours) i }))
    (λ (other : p.slot ≢ q.slot). inr (ap (list_any (is_at p)) e ∙ any_without p q.slot b.reserved other h))

same_reserved : (p : Place) (xs ys : List Session) → ys ≡ xs → list_any (is_at p) xs ≡ true → list_any (is_at p) ys ≡ true
same_reserved p xs ys e h = ap (list_any (is_at p)) e ∙ h

reserved_unmoved : (t : Table) (b d : Book) (f : ReserveFault) → IsUnmoved t b f d → d.reserved ≡ b.reserved
reserved_unmoved t b d (Duplicate j) u = ap (λ (x : Book). x.reserved) u
reserved_unmoved t b d (ModeClash j) u = ap (λ (x : Book). x.reserved) u
reserved_unmoved t b d NoKey u = ap (λ (x : Book). x.reserved) u
reserved_unmoved t b d RowsFull u = ap (λ (x : Book). x.reserved) u
reserved_unmoved t b d (Full live reserved retired held) u = ap (λ (x : Book). x.reserved) u.book

pub place_stays : (t : Table) (call : BookCall) (b d : Book) (p : Place) → BookFits b → Makes t call b d → IsReservedAt b p → LeavesPlace call p ⊎ IsReservedAt d p
place_stays t (admits k x (Ok u)) b d p fits m h = inr (same_reserved p b.reserved d.reserved (ap (λ (x : Book). x.reserved) m.1) h)
place_stays t (admits k x (Err f)) b d p fits m h = inr (same_reserved p b.reserved d.reserved (ap (λ (x : Book). x.reserved) m.1) h)
place_stays t (reserves k e x wait (Ok q)) b d p fits m h = inr (ap (list_any (is_at p)) m.reserved ∙ any_before (is_at p) b.reserved (new_session k e m.row q wait ∷ []) h)
place_stays t (reserves k e x wait (Err f)) b d p fits m h = inr (same_reserved p b.reserved d.reserved (reserved_unmoved t b d f m.1) h)
place_stays t (keeps_row x (Ok u)) b d p fits m h = inr (same_reserved p b.reserved d.reserved m.reserved h)
place_stays t (keeps_row x (Err f)) b d p fits m h = inr (same_reserved p b.reserved d.reserved (ap (λ (x : Book). x.reserved) m.1) h)
place_stays t (starts q now (Ok u)) b d p fits m h = left_or_stays b m.session q p d.reserved fits m.found m.place m.reserved h
place_stays t (starts q now (Err f)) b d p fits m h = inr (same_reserved p b.reserved d.reserved (ap (λ (x : Book). x.reserved) m.1) h)
place_stays t (abandons q (Ok u)) b d p fits m h = left_or_stays b m.session q p d.reserved fits m.found m.place m.reserved h
place_stays t (abandons q (Err f)) b d p fits m h = inr (same_reserved p b.reserved d.reserved (ap (λ (x : Book). x.reserved) m.1) h)
place_stays t (sets k x (Ok u)) b d p fits m h = inr (same_reserved p b.reserved d.reserved m.reserved h)
place_stays t (sets k x (Err f)) b d p fits m h = inr (same_reserved p b.reserved d.reserved (ap (λ (x : Book). x.reserved) m.1) h)
place_stays t (closes k (Ok n)) b d p fits m h = inr (same_reserved p b.reserved d.reserved m.reserved h)
place_stays t (closes k (Err f)) b d p fits m h = inr (same_reserved p b.reserved d.reserved (ap (λ (x : Book). x.reserved) m.1) h)
place_stays t (closes_at k moment (Ok u)) b d p fits m h = inr (same_reserved p b.reserved d.reserved m.reserved h)
place_stays t (closes_at k moment (Err f)) b d p fits m h = inr (same_reserved p b.reserved d.reserved (ap (λ (x : Book). x.reserved) m.1) h)
place_stays t (counts k (Ok n)) b d p fits m h = inr (same_reserved p b.reserved d.reserved m.reserved h)
place_stays t (counts k (Err f)) b d p fits m h = inr (same_reserved p b.reserved d.reserved (ap (λ (x : Book). x.reserved) m.1) h)
place_stays t (ticks now ticked) b d p fits m h = inr (same_reserved p b.reserved d.reserved m.reserved h)
place_stays t (tells_length n) b d p fits m h = inr (same_reserved p b.reserved d.reserved (ap (λ (x : Book). x.reserved) m.1) h)
place_stays t (tells_key index o) b d p fits m h = inr (same_reserved p b.reserved d.reserved (ap (λ (x : Book). x.reserved) m.1) h)
place_stays t (tells_place k o) b d p fits m h = inr (same_reserved p b.reserved d.reserved (ap (λ (x : Book). x.reserved) m.1) h)

-- ---- rows

got_before : {A : Type 0} (xs ys : List A) (n : ℕ) (x : A) → slice_get xs n ≡ Some x → slice_get (xs ++ ys) n ≡ Some x
got_before [] ys n x e = absurd (some_none x e)
got_before (y ∷ xs) ys zero x e = e
got_before (y ∷ xs) ys (suc n) x e = got_before xs ys n x e

got_last : {A : Type 0} (xs : List A) (y : A) → slice_get (xs ++ y ∷ []) (length xs) ≡ Some y
got_last [] y = refl
got_last (x ∷ xs) y = got_last xs y

pub row_stays : (t : Table) (c : ConfigParts) (row : ℕ) (b d : Book) → DeskWent t b d → IsRow b.rows c row → IsRow d.rows c row
row_stays t c row b d w is = (is.0, ap (λ (xs : List ConfigParts). slice_get xs (row - 1)) w.rows.1 ∙ got_before b.rows.configs w.rows.0 (row - 1) c is.1)

pub row_given : (rows rows' : Rows) (c : ConfigParts) (row : ℕ) (made : List Step) → HasRow rows rows' c row made → IsRow rows' c row
row_given rows rows' c row made h = ⊎_elim
    (λ (k : (IsRow rows c row) × (rows' ≡ rows) × (made ≡ [])). subst (λ (r : Rows). IsRow r c row) (sym k.1) k.0)
    (λ (k : (IsNext rows c row) × (rows' ≡ record { configs = rows.configs ++ c ∷ []; limit = rows.limit }) × (made ≡ row_writes row (row_words c) 12) × FitsConfig c).
    let e = k.0.2 in let at : row - 1 ≡ length rows.configs = omega (arith, e) in
    subst (λ (r : Rows). IsRow r c row) (sym k.1) (omega (arith, e), ap (slice_get (rows.configs ++ c ∷ [])) at ∙ got_last rows.configs c))
    h

-- ---- live sessions

keys_changed : (i : ℕ) (change : Session → Session) (xs : List Session) → ((s : Session) → (change s).key ≡ s.key) → map (λ s. s.key) (with_change i change xs) ≡ map (λ s. s.key) xs
keys_changed i change [] same = refl
keys_changed i change (x ∷ xs) same = number_case x.place.slot i
    (λ (e : x.place.slot ≡ i). (λ p. (ap (λ (b : Bool). (if b then change x else x).key) (eq-eqb x.place.slot i e) ∙ same x) p ∷ keys_changed i change xs same p))
    (λ (n : x.place.slot ≢ i). (λ p. ap (λ (b : Bool). (if b then change x else x).key) (ne_eqb x.place.slot i n) p ∷ keys_changed i change xs same p))

abbrev pub live_keys : Book → List Key
live_keys b = map (λ s. s.key) b.live

live_unmoved : (t : Table) (b d : Book) (f : ReserveFault) → IsUnmoved t b f d → live_keys d ≡ live_keys b
live_unmoved t b d (Duplicate j) u = ap live_keys u
live_unmoved t b d (ModeClash j) u = ap live_keys u
live_unmoved t b d NoKey u = ap live_keys u
live_unmoved t b d RowsFull u = ap live_keys u
live_unmoved t b d (Full live reserved retired held) u = ap (λ (x : Book). live_keys x) u.book

same_live : (b d : Book) → d.live ≡ b.live → live_keys d ≡ live_keys b
same_live b d e = ap (map (λ s. s.key)) e

pub live_stays : (t : Table) (call : BookCall) (b d : Book) → Makes t call b d → ChangesLive call ⊎ (map (λ s. s.key) d.live ≡ map (λ s. s.key) b.live)
live_stays t (admits k x (Ok u)) b d m = inr (ap live_keys m.1)
live_stays t (admits k x (Err f)) b d m = inr (ap live_keys m.1)
live_stays t (reserves k e x wait (Ok q)) b d m = inr (same_live b d m.live)
live_stays t (reserves k e x wait (Err f)) b d m = inr (live_unmoved t b d f m.1)
live_stays t (keeps_row x (Ok u)) b d m = inr (same_live b d m.live)
live_stays t (keeps_row x (Err f)) b d m = inr (ap live_keys m.1)
live_stays t (starts q now (Ok u)) b d m = inl tt
live_stays t (starts q now (Err f)) b d m = inr (ap live_keys m.1)
live_stays t (abandons q (Ok u)) b d m = inr (same_live b d m.live)
live_stays t (abandons q (Err f)) b d m = inr (ap live_keys m.1)
live_stays t (sets k x (Ok u)) b d m = inr (ap (map (λ s. s.key)) m.live ∙ keys_changed m.session.place.slot (with_row m.row) b.live (λ s. refl))
live_stays t (sets k x (Err f)) b d m = inr (ap live_keys m.1)
live_stays t (closes k (Ok n)) b d m = inl tt
live_stays t (closes k (Err f)) b d m = inr (ap live_keys m.1)
live_stays t (closes_at k moment (Ok u)) b d m = inr (ap (map (λ s. s.key)) m.live ∙ keys_changed m.session.place.slot (with_closing moment) b.live (λ s. refl))
live_stays t (closes_at k moment (Err f)) b d m = inr (ap live_keys m.1)
live_stays t (counts k (Ok n)) b d m = inr (same_live b d m.live)
live_stays t (counts k (Err f)) b d m = inr (ap live_keys m.1)
live_stays t (ticks now ticked) b d m = inl tt
live_stays t (tells_length n) b d m = inr (ap live_keys m.1)
live_stays t (tells_key index o) b d m = inr (ap live_keys m.1)
live_stays t (tells_place k o) b d m = inr (ap live_keys m.1)
