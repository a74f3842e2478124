-- What an opening, a setting and a closing are answered, by what the book tells of its keys and rows.
use Rattle.std.proofs.Common.{◌≡◌, ◌≢◌, ◌⊎◌, inl, inr, ⊎_elim, ℕ, zero, suc, ◌≤◌, ltb, Bool, true, false, ◌&&◌, ◌||◌, not, ◌==◌, if◌then◌else◌, List, [], ◌∷◌, length, sym, refl, ap, ◌∙◌, subst, arith, Option, Some, None, eq-eqb, ne_eqb}
use Rattle.std.proofs.lemmas.Bool.{ltb-false}
use Rattle.std.proofs.lemmas.List.Elements.{Contains-push_cases}
use Rattle.std.specs.List.{Contains, list_any, find}
use Rattle.refl_types.specs.declared.types.Key.{Key}
use Rattle.refl_types.specs.declared.types.Mode.{Mode}
use Rattle.refl_types.specs.declared.types.Mode.TheVariants.{Plain, Auth, Twamp}
use Rattle.refl_types.specs.declared.config.ConfigParts.{ConfigParts}
use Rattle.refl_types.specs.Same.{same_mode, same_key}
use Rattle.refl_types.specs.Spelling.{has}
use Rattle.refl_types.proofs.SameFacts.{same_key-refl}
use Rattle.config_rows.specs.Rows.{Rows, HasNoRow}
use Rattle.config_rows.specs.declared.book.Sought.TheVariants.{RowsFull}
use Rattle.session_key.specs.Matching.{excludes}
use Rattle.session_world.specs.declared.steps.Step.{Step}
use Rattle.session_world.specs.Keys.{is_auth_mode, is_some}
use Rattle.session_world.specs.Desk.{IsComplete}
use Rattle.session_world.specs.DeskLists.{DeskIsAllowed, SlotsAreSound}
use Rattle.session_rule.specs.Seats.{joined_parts}
use Rattle.session_desk.specs.declared.session.Session.{Session}
use Rattle.session_desk.specs.declared.session.ReserveFault.{ReserveFault}
use Rattle.session_desk.specs.declared.session.ReserveFault.TheVariants as faults
use Rattle.session_desk.specs.Sessions.{has_mode_clash}
use Rattle.session_desk.specs.Book.{Book, steps_of}
use Rattle.session_desk.specs.Fits.{BookFits}
use Rattle.session_desk.specs.Writes.{HasRow}
use Rattle.session_desk.specs.Calls.{IsAloneIn, IsKeyed, IsUnkeyed, HasNoRoom, NoCause}
use Rattle.session_desk.specs.Refusals.{IsNotAdmitted}
use Rattle.session_desk.proofs.BoolFacts.{bool, no_or, or_r, or_none, some_none, true_ne_false}
use Rattle.replay_format.specs.declared.code.OpenAnswer.{OpenAnswer}
use Rattle.replay_format.specs.declared.code.OpenAnswer.TheVariants as opens
use Rattle.replay_format.specs.Records.{Opening}
use Rattle.replay_table.specs.Table.{Entry, Table, is_bound, has_clash, is_accepted, may_accept, accept}
use Rattle.replay_table.specs.Outcomes.{session_limit, lacks_key, open_answer_of, open_answer, after_opening}
use Rattle.replay_table.proofs.AnswerFacts.{refused_opening}
use Rattle.shared_replay.proofs.ConfigFacts.{known_accepted, sought_open, accept_known, accept_next}
use Rattle.shared_replay.specs.Stands.{keys_of, HoldsTable, HasOpened, refusal}
use Rattle.shared_replay.proofs.KeyFacts.{any_map, length_map, few_live}

-- ---- lists

pub any_contains : {A : Type 0} (p : A → Bool) (xs : List A) (x : A) → Contains xs x → p x ≡ true → list_any p xs ≡ true
any_contains p [] x (k, lt, e) h = absurd (omega (arith, lt))
any_contains p (y ∷ ys) x (zero, lt, e) h = rw (ap p e ∙ h) refl
any_contains p (y ∷ ys) x (suc k, lt, e) h = or_r _ _ (any_contains p ys x (k, omega (arith, lt), e) h)

pub any_found : {A : Type 0} (p : A → Bool) (xs : List A) (x : A) → find p xs ≡ Some x → list_any p xs ≡ true
any_found p [] x e = absurd (some_none x e)
any_found p (y ∷ ys) x e = ⊎_elim
    (λ (h : p y ≡ true). rw h refl)
    (λ (h : p y ≡ false). or_r _ _ (any_found p ys x (sym (rw h refl) ∙ e)))
    (bool (p y))

pub contains_one : {A : Type 0} (y x : A) → Contains (y ∷ []) x → x ≡ y
contains_one y x c = ⊎_elim (λ none. absurd (let lt = none.1 in omega (arith, lt))) (λ e. sym e) (Contains-push_cases [] y x c)

or_nothing : (b : Bool) → (b || false) ≡ b
or_nothing true = refl
or_nothing false = refl

-- ---- tests of keys

pub live_test : (b : Book) (t : Table) → HoldsTable b t → (p : Key → Bool) → list_any (λ s. p s.key) b.live ≡ list_any (λ e. p e.key) t.sessions
live_test b t h p = any_map (λ (s : Session). s.key) p b.live ∙ ap (list_any p) h.keys ∙ sym (any_map (λ (e : Entry). e.key) p t.sessions)

pub book_test : (b : Book) (t : Table) → BookFits b → b.reserved ≡ [] → HoldsTable b t → (p : Key → Bool) → list_any p b.keys ≡ list_any (λ e. p e.key) t.sessions
book_test b t fits nobody h p =
    fits.keys p ∙ ap (λ (rs : List Session). list_any (λ s. p s.key) b.live || list_any (λ s. p s.key) rs) nobody ∙ or_nothing (list_any (λ s. p s.key) b.live) ∙ live_test b t h p

pub any_apart : (k : Key) (ks : List Key) → list_any (λ j. excludes j k) ks ≡ false → (list_any (λ j. same_key j k) ks ≡ false) × (list_any (λ j. has_mode_clash j k) ks ≡ false)
unfolding excludes has_mode_clash
any_apart k [] h = (refl, refl)
any_apart k (j ∷ ks) h =
    let x = no_or (excludes j k) (list_any (λ i. excludes i k) ks) h in
    let y = no_or (same_key j k) _ x.0 in
    let rest = any_apart k ks x.1 in
    (or_none _ _ y.0 rest.0, or_none _ _ y.1 rest.1)

clash_test : (k : Key) (es : List Entry) → list_any (λ e. has_mode_clash e.key k) es ≡ has_clash k es
unfolding has_mode_clash
clash_test k es = refl

-- ---- HMAC keys

pub lacks : (k : Key) (c : ConfigParts) → IsUnkeyed k c → lacks_key k.mode c ≡ true
lacks k c u = by_mode k.mode c.key u.0 u.1 where
  by_mode : (m : Mode) (o : Option (List ℕ)) → is_auth_mode m ≡ true → is_some o ≡ false → (same_mode m Auth && not (has o)) ≡ true
  by_mode Plain o a n = absurd (true_ne_false (sym a))
  by_mode Twamp o a n = absurd (true_ne_false (sym a))
  by_mode Auth None a n = refl
  by_mode Auth (Some x) a n = absurd (true_ne_false n)

pub lacks_none : (k : Key) (c : ConfigParts) → IsKeyed k c → lacks_key k.mode c ≡ false
lacks_none k c keyed = by_mode k.mode c.key keyed where
  by_mode : (m : Mode) (o : Option (List ℕ)) → (is_auth_mode m ≡ true → is_some o ≡ true) → (same_mode m Auth && not (has o)) ≡ false
  by_mode Plain o h = refl
  by_mode Twamp o h = refl
  by_mode Auth None h = absurd (true_ne_false (sym (h refl)))
  by_mode Auth (Some x) h = refl

-- ---- rows

pub room_none : (b : Book) (t : Table) (c : ConfigParts) → b.rows.limit ≡ 1024 → b.rows.configs ≡ t.configs → HasNoRoom b c → may_accept c t.configs ≡ false
room_none b t c limit same none = ap (may_accept c) (sym same) ∙ sym (sought_open b.rows c RowsFull limit none)

-- no more rows than there are have been written
rows_inside : (b : Book) → DeskIsAllowed → SlotsAreSound → BookFits b → length b.rows.configs ≤ b.rows.limit
rows_inside b allowed sound fits = by_count (length b.rows.configs) refl where
  by_count : (n : ℕ) → n ≡ length b.rows.configs → length b.rows.configs ≤ b.rows.limit
  by_count zero e = omega (arith, e)
  by_count (suc n) e =
      let slots = sound b.size (steps_of b) (allowed b.size (steps_of b) (joined_parts b.seat) fits.schedule) in
      let written = fits.rows.written in
      let whole : IsComplete (steps_of b) (suc n) = (omega arith, omega (arith, e, written)) in
      let inside = slots.complete_inside (suc n) whole in
      let limit = fits.rows.limit in
      omega (arith, e, inside, limit)

pub room_some : (b : Book) (t : Table) (c : ConfigParts) → DeskIsAllowed → SlotsAreSound → BookFits b → b.rows.limit ≡ 1024 → b.rows.configs ≡ t.configs → ¬ HasNoRoom b c → may_accept c t.configs ≡ true
room_some b t c allowed sound fits limit same some = ap (may_accept c) (sym same) ∙ by_test (bool (may_accept c b.rows.configs)) where
  by_test : (may_accept c b.rows.configs ≡ true) ⊎ (may_accept c b.rows.configs ≡ false) → may_accept c b.rows.configs ≡ true
  by_test (inl y) = y
  by_test (inr n) =
      let x = no_or (is_accepted c b.rows.configs) (ltb (length b.rows.configs) 1024) n in
      let none : HasNoRow b.rows c = λ row is. true_ne_false (sym (known_accepted b.rows c row is) ∙ x.0) in
      let inside = rows_inside b allowed sound fits in
      absurd (some (none, full x.1 inside))
    where
      full : ltb (length b.rows.configs) 1024 ≡ false → length b.rows.configs ≤ b.rows.limit → length b.rows.configs ≡ b.rows.limit
      full e inside = let m : 1024 ≤ length b.rows.configs = ltb-false (length b.rows.configs) 1024 e in omega (arith, m, inside, limit)

-- the configurations after one has a row
pub row_accepts : (b c : Book) (t : Table) (x : ConfigParts) (row : ℕ) (made : List Step) → b.rows.configs ≡ t.configs → HasRow b.rows c.rows x row made → c.rows.configs ≡ accept x t.configs
row_accepts b c t x row made same h = ⊎_elim
    (λ k. ap (λ (r : Rows). r.configs) k.1 ∙ sym (accept_known b.rows x row k.0) ∙ ap (accept x) same)
    (λ k. ap (λ (r : Rows). r.configs) k.1 ∙ sym (accept_next b.rows x row k.0) ∙ ap (accept x) same)
    h

-- ---- openings

pub answer_by : (bound clash acceptable : Bool) (n : ℕ) (o : Opening) {b d a l : Bool} → bound ≡ b → clash ≡ d → lacks_key o.key.mode o.config ≡ l → acceptable ≡ a
    → open_answer_of bound clash acceptable n o ≡ (if b then opens.Duplicate
    else (if d then opens.ModeClash
    else (if l then opens.NoKey
    else (if not a then opens.RowsFull
    else (if n == session_limit then opens.Full
    else opens.Opened)))))
unfolding open_answer_of
answer_by bound clash acceptable n o x y z w = rw (x, y, z, w) refl

module _ (b : Book) (t : Table) (o : Opening) (fits : BookFits b) (nobody : b.reserved ≡ []) (limit : b.rows.limit ≡ 1024) (h : HoldsTable b t) where
  alone_in : IsAloneIn b o.key → (is_bound o.key t.sessions ≡ false) × (has_clash o.key t.sessions ≡ false)
  alone_in alone =
      let x = any_apart o.key b.keys alone in (
        sym (book_test b t fits nobody h (λ j. same_key j o.key)) ∙ x.0,
        sym (clash_test o.key t.sessions) ∙ sym (book_test b t fits nobody h (λ j. has_mode_clash j o.key)) ∙ x.1,
      )

  pub refused : (f : ReserveFault) → IsNotAdmitted b o.key o.config f → refusal f ≡ open_answer t o
  refused (faults.Duplicate j) r =
      let bound : is_bound o.key t.sessions ≡ true = sym (book_test b t fits nobody h (λ i. same_key i o.key)) ∙ any_contains (λ i. same_key i o.key) b.keys o.key r.1 (same_key-refl o.key) in
      sym (answer_by (is_bound o.key t.sessions) (has_clash o.key t.sessions) (may_accept o.config t.configs) (length t.sessions) o bound refl refl refl)
  refused (faults.ModeClash j) r =
      let bound : is_bound o.key t.sessions ≡ false = sym (book_test b t fits nobody h (λ i. same_key i o.key)) ∙ r.0 in
      let clash : has_clash o.key t.sessions ≡ true = sym (clash_test o.key t.sessions) ∙ sym (book_test b t fits nobody h (λ i. has_mode_clash i o.key)) ∙ any_found (λ i. has_mode_clash i o.key) b.keys j r.1 in
      sym (answer_by (is_bound o.key t.sessions) (has_clash o.key t.sessions) (may_accept o.config t.configs) (length t.sessions) o bound clash refl refl)
  refused faults.NoKey r =
      let a = alone_in r.0 in
      sym (answer_by (is_bound o.key t.sessions) (has_clash o.key t.sessions) (may_accept o.config t.configs) (length t.sessions) o a.0 a.1 (lacks o.key o.config r.1) refl)
  refused faults.RowsFull r =
      let a = alone_in r.0 in
      sym (answer_by (is_bound o.key t.sessions) (has_clash o.key t.sessions) (may_accept o.config t.configs) (length t.sessions) o a.0 a.1 (lacks_none o.key o.config r.1) (room_none b t o.config limit h.configs r.2))
  refused (faults.Full live reserved retired held) r = absurd r

  pub admitted : DeskIsAllowed → SlotsAreSound → NoCause b o.key o.config → open_answer t o ≡ (if length t.sessions == session_limit then opens.Full else opens.Opened)
  admitted allowed sound n =
      let a = alone_in n.alone in
      answer_by (is_bound o.key t.sessions) (has_clash o.key t.sessions) (may_accept o.config t.configs) (length t.sessions) o a.0 a.1 (lacks_none o.key o.config n.keyed) (room_some b t o.config allowed sound fits limit h.configs n.room)

  pub unbound_in : NoCause b o.key o.config → is_bound o.key t.sessions ≡ false
  unbound_in n = (alone_in n.alone).0

pub how_many : (b : Book) (t : Table) → HoldsTable b t → length t.sessions ≡ length b.live
how_many b t h = sym (few_live b (keys_of t.sessions) h.keys ∙ length_map (λ (e : Entry). e.key) t.sessions)

-- an opening that is refused leaves the table
pub refusal_not : (f : ReserveFault) → refusal f ≡ opens.Opened → ⊥
refusal_not (faults.Duplicate j) e = cc
refusal_not (faults.ModeClash j) e = cc
refusal_not faults.NoKey e = cc
refusal_not faults.RowsFull e = cc
refusal_not (faults.Full live reserved retired held) e = cc

pub refused_holds : (b : Book) (t : Table) (o : Opening) (a : OpenAnswer) → HoldsTable b t → a ≡ open_answer t o → (a ≡ opens.Opened → ⊥) → HasOpened t o a b
refused_holds b t o a h is other = record {
  answer = is;
  holds = subst (HoldsTable b) (sym (refused_opening (open_answer t o) t o (λ e. other (is ∙ e)))) h;
}

pub opened_holds : (b : Book) (t : Table) (o : Opening) (a : OpenAnswer) → a ≡ opens.Opened → open_answer t o ≡ opens.Opened → HoldsTable b (after_opening opens.Opened t o) → HasOpened t o a b
opened_holds b t o a was is h = record {
  answer = was ∙ sym is;
  holds = subst (λ (x : OpenAnswer). HoldsTable b (after_opening x t o)) (sym is) h;
}

full_not : opens.Full ≡ opens.Opened → ⊥
full_not e = cc

pub full_holds : (b : Book) (t : Table) (o : Opening) → HoldsTable b t → open_answer t o ≡ (if length t.sessions == session_limit then opens.Full else opens.Opened) → length t.sessions ≡ 1024 → HasOpened t o opens.Full b
full_holds b t o h is many = refused_holds b t o opens.Full h (sym (is ∙ rw (eq-eqb (length t.sessions) 1024 many) refl)) full_not

pub not_full : (t : Table) (o : Opening) → open_answer t o ≡ (if length t.sessions == session_limit then opens.Full else opens.Opened) → length t.sessions ≢ 1024 → open_answer t o ≡ opens.Opened
not_full t o is few = is ∙ rw (ne_eqb (length t.sessions) 1024 few) refl
