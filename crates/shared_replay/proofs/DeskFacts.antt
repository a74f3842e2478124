-- What the calls of the book leave of the table of a replay.
use Rattle.std.proofs.Common.{◌≡◌, ⊎_elim, ℕ, zero, suc, ◌+◌, ◌≤◌, ◌^◌, Bool, true, false, not, ◌==◌, if◌then◌else◌, List, [], ◌∷◌, ◌++◌, length, sym, refl, ap, ◌∙◌, subst, arith, Some, None, eq-eqb}
use Rattle.std.proofs.lemmas.List.{length-append}
use Rattle.std.specs.List.{Contains, filter, list_any}
use Rattle.refl_types.specs.declared.types.Key.{Key}
use Rattle.refl_types.specs.declared.types.Extra.{Extra}
use Rattle.refl_types.specs.declared.config.ConfigParts.{ConfigParts}
use Rattle.refl_types.specs.declared.outcome.Place.{Place}
use Rattle.refl_types.specs.Same.{same_key}
use Rattle.refl_types.proofs.SameFacts.{same_key-refl}
use Rattle.session_key.specs.Matching.{excludes}
use Rattle.session_key.specs.Words.{key_words}
use Rattle.config_rows.specs.Words.{row_words}
use Rattle.config_rows.specs.Rows.{Rows, IsRow}
use Rattle.session_world.specs.declared.steps.TableSize.{TableSize}
use Rattle.session_world.specs.declared.steps.Step.{Step}
use Rattle.session_world.specs.declared.steps.Part.{Part}
use Rattle.session_world.specs.declared.steps.Step.TheVariants.{ReserveNew, ReserveUsed, Start, Reconfigure, Close}
use Rattle.session_world.specs.Desk.{config_at}
use Rattle.session_world.specs.DeskLists.{DeskIsAllowed, SlotsAreSound}
use Rattle.session_world.specs.Rows.{RowsStay}
use Rattle.session_world.specs.Runs.{IsDeskOfOneSchedule}
use Rattle.session_world.specs.OneThread.{IsBetween, CallsTell, NoTurns}
use Rattle.session_world.specs.Answers.{opened}
use Rattle.session_rule.specs.declared.seats.Table as rule
use Rattle.session_rule.specs.Seats.{joined_parts}
use Rattle.session_desk.specs.declared.session.Session.{Session}
use Rattle.session_desk.specs.Sessions.{is_of, has_mode_clash, new_session, without}
use Rattle.session_desk.specs.Book.{Book, IsBookOf, steps_of, answers_of}
use Rattle.session_desk.specs.Fits.{BookFits, reserves_in}
use Rattle.session_desk.specs.Writes.{key_writes, row_writes, scans_of, reserve_step, HasRow}
use Rattle.session_desk.specs.Calls.{IsNotLive, HasStarted, HasReserved, NoCause}
use Rattle.session_desk.specs.Calls as calls
use Rattle.session_desk.specs.Refusals.{IsRefused, IsUnmoved, IsFull, IsSetRefused}
use Rattle.session_desk.specs.declared.session.ReserveFault.{ReserveFault}
use Rattle.session_desk.specs.declared.session.ReserveFault.TheVariants as faults
use Rattle.session_desk.specs.declared.session.SetFault.{SetFault}
use Rattle.session_desk.specs.declared.session.SetFault.TheVariants as set_faults
use Rattle.session_desk.proofs.BoolFacts.{or_l, no_or, true_ne_false}
use Rattle.session_desk.proofs.Serving.{row_given}
use Rattle.replay_format.specs.Records.{Opening, Setting}
use Rattle.replay_format.specs.declared.code.OpenAnswer.TheVariants as opens
use Rattle.replay_format.specs.declared.code.SetAnswer.{SetAnswer}
use Rattle.replay_format.specs.declared.code.SetAnswer.TheVariants as sets
use Rattle.replay_table.specs.Table.{Entry, Table, is_bound, session_at, with_entry, update, accept, may_accept}
use Rattle.replay_table.specs.Table as table
use Rattle.replay_table.specs.Outcomes.{after_opening, after_setting, set_answer_of, set_answer, lacks_key, count_of}
use Rattle.replay_table.specs.Apart.{AreApart}
use Rattle.shared_replay.specs.Following.{Follows}
use Rattle.shared_replay.specs.Stands.{IsDesk, IsDeskAfter, HoldsTable, HasSet, HasClosed, set_refusal, live_keys}
use Rattle.shared_replay.proofs.EntryFacts.{at_none}
use Rattle.shared_replay.proofs.KeyFacts.{fewer_filtered, keys_added, keys_updated, keys_without, live_opened, live_configured, live_closed, few_live, length_map}
use Rattle.shared_replay.proofs.CallFacts.{plain_then, plain_keys, plain_rows, plain_scans, plain_reserve, IsCall, still_between, opened_here, configured_here, closed_here, kept_stays}
use Rattle.shared_replay.proofs.AnswerFacts.{any_contains, any_found, any_apart, contains_one, live_test, lacks, lacks_none, room_none, room_some, row_accepts}

-- ---- steps

plain_row : {rows rows' : Rows} {c : ConfigParts} {row : ℕ} {made : List Step} → HasRow rows rows' c row made → NoTurns made
plain_row {rows} {rows'} {c} {row} {made} h = ⊎_elim
    (λ k. subst NoTurns (sym k.2) tt)
    (λ k. subst NoTurns (sym k.2) (plain_rows row (row_words c) 12))
    h

reserves_then : (xs ds : List Step) → reserves_in (xs ++ ds) ≡ reserves_in xs + reserves_in ds
reserves_then [] ds = omega arith
reserves_then (ReserveNew slot row ∷ xs) ds = let h = reserves_then xs ds in omega (arith, h)
reserves_then (ReserveUsed slot generation row ∷ xs) ds = let h = reserves_then xs ds in omega (arith, h)
reserves_then (s ∷ xs) ds = reserves_then xs ds

none_in_keys : (slot : ℕ) (words : List ℕ) (n : ℕ) → reserves_in (key_writes slot words n) ≡ 0
none_in_keys slot words zero = refl
none_in_keys slot words (suc n) = none_in_keys slot words n

none_in_rows : (row : ℕ) (words : List ℕ) (n : ℕ) → reserves_in (row_writes row words n) ≡ 0
none_in_rows row words zero = refl
none_in_rows row words (suc n) = none_in_rows row words n

none_in_scans : (n : ℕ) (words : List ℕ) → reserves_in (scans_of n words) ≡ 0
none_in_scans zero words = refl
none_in_scans (suc n) words = none_in_scans n words

none_in_row : {rows rows' : Rows} {c : ConfigParts} {row : ℕ} {made : List Step} → HasRow rows rows' c row made → reserves_in made ≡ 0
none_in_row {rows} {rows'} {c} {row} {made} h = ⊎_elim
    (λ k. ap reserves_in k.2)
    (λ k. ap reserves_in k.2 ∙ none_in_rows row (row_words c) 12)
    h

one_reserve : (p : Place) (row : ℕ) (xs : List Step) → reserves_in (reserve_step p row ∷ xs) ≡ suc (reserves_in xs)
one_reserve p row xs = by_test (p.generation == 1) where
  by_test : (b : Bool) → reserves_in ((if b then ReserveNew p.slot row else ReserveUsed p.slot p.generation row) ∷ xs) ≡ suc (reserves_in xs)
  by_test true = refl
  by_test false = refl

-- ---- a call

-- the steps of a call, and the book that it leaves
pub record IsBookCall (b c : Book) (more : List Step) : Type 0 where
  pub plain : NoTurns more
  pub steps : steps_of c ≡ more ++ steps_of b
  pub joined : joined_parts c.seat ≡ joined_parts b.seat
  pub size : c.size ≡ b.size
  pub fits : BookFits c

call_of : {b c : Book} {more : List Step} → IsBookCall b c more → IsCall b.size (steps_of b) (joined_parts b.seat) more (steps_of c) (joined_parts c.seat)
call_of {b} {c} {more} k = record {
  plain = k.plain;
  grew = k.steps;
  joined = k.joined;
  schedule = subst (λ (z : TableSize). IsDeskOfOneSchedule z (steps_of c) (joined_parts c.seat)) k.size k.fits.schedule;
}

pub desk_after : {t : rule.Table} {b c : Book} {more : List Step} → CallsTell → RowsStay → IsDesk t b → IsBookCall b c more → IsBookOf t c → c.reserved ≡ [] → length c.live ≤ 1024 → IsDeskAfter t b c
desk_after {t} {b} {c} {more} law stay desk k same nobody few = record {
  desk = record {
    same = same;
    slots = ap (λ (z : TableSize). z.slots) k.size ∙ desk.slots;
    rows = ap (λ (z : TableSize). z.rows) k.size ∙ desk.rows;
    between = subst (λ (z : TableSize). IsBetween z (steps_of c) (joined_parts c.seat)) (sym k.size) (still_between law desk.between (call_of k));
    nobody = nobody;
    few = few;
  };
  rows = kept_stays stay (call_of k);
}

pub same_desk : {t : rule.Table} {b c : Book} → IsDesk t b → c ≡ b → IsDeskAfter t b c
same_desk {t} {b} {c} desk e = subst (λ (x : Book). IsDeskAfter t b x) (sym e) (record { desk = desk; rows = λ known kept. kept })

at_size : {y z : TableSize} {ds : List Step} {ps : List Part} {es : List Entry} → y ≡ z → Follows z ds ps es → Follows y ds ps es
at_size {y} {z} {ds} {ps} {es} e h = subst (λ (x : TableSize). Follows x ds ps es) (sym e) h

-- ---- a session that is reserved and started

pub record Begun (t : rule.Table) (b m c : Book) (k : Key) (x : Extra) (f : ConfigParts) (p : Place) : Type 0 where
  pub reserved : HasReserved t b k x f 0 p m
  pub started : HasStarted t m p 0 c
  pub fits : BookFits b
  pub fits_between : BookFits m
  pub fits_after : BookFits c

module _ {t : rule.Table} {b m c : Book} {k : Key} {x : Extra} {f : ConfigParts} {p : Place} (g : Begun t b m c k x f p) (desk : IsDesk t b) where
  abbrev first_steps : List Step
  first_steps = reserve_step p g.reserved.row ∷ (key_writes p.slot (key_words k x) 4 ++ (g.reserved.made ++ scans_of b.size.workers g.reserved.words))

  first_call : IsBookCall b m first_steps
  first_call = record {
    plain = plain_reserve p g.reserved.row (key_writes p.slot (key_words k x) 4 ++ (g.reserved.made ++ scans_of b.size.workers g.reserved.words)) (plain_then (key_writes p.slot (key_words k x) 4) (g.reserved.made ++ scans_of b.size.workers g.reserved.words) (plain_keys p.slot (key_words k x) 4) (plain_then g.reserved.made (scans_of b.size.workers g.reserved.words) (plain_row g.reserved.kept) (plain_scans b.size.workers g.reserved.words)));
    steps = g.reserved.added.steps;
    joined = g.reserved.added.joined;
    size = g.reserved.size;
    fits = g.fits_between;
  }

  second_call : IsBookCall m c (Start p.slot g.started.word ∷ [])
  second_call = record {
    plain = tt;
    steps = g.started.made.step;
    joined = g.started.made.joined;
    size = g.started.size;
    fits = g.fits_after;
  }

  -- the two as one
  both_calls : IsBookCall b c ((Start p.slot g.started.word ∷ []) ++ first_steps)
  both_calls = record {
    plain = first_call.plain;
    steps = g.started.made.step ∙ ap (λ (l : List Step). Start p.slot g.started.word ∷ l) first_call.steps;
    joined = second_call.joined ∙ first_call.joined;
    size = g.started.size ∙ g.reserved.size;
    fits = g.fits_after;
  }

  only : m.reserved ≡ new_session k x g.reserved.row p 0 ∷ []
  only = g.reserved.reserved ∙ ap (λ (l : List Session). l ++ new_session k x g.reserved.row p 0 ∷ []) desk.nobody

  is_new : g.started.session ≡ new_session k x g.reserved.row p 0
  is_new = contains_one (new_session k x g.reserved.row p 0) g.started.session (subst (λ (l : List Session). Contains l g.started.session) only g.started.found)

  nobody_left : c.reserved ≡ []
  nobody_left = g.started.reserved ∙ ap (without p.slot) only ∙ (let e : (p.slot == p.slot) ≡ true = eq-eqb p.slot p.slot refl in rw e refl)

  one_more : answers_of c ≡ opened k x g.reserved.row ∷ answers_of b
  one_more = g.started.answers ∙ (λ i. opened (is_new i).key (is_new i).extra (is_new i).row ∷ g.reserved.answers i)

  keys_more : live_keys c ≡ live_keys b ++ k ∷ []
  keys_more = live_opened b c k x g.reserved.row g.fits g.fits_after one_more

  pub begun_desk : CallsTell → RowsStay → IsBookOf t c → suc (length b.live) ≤ 1024 → IsDeskAfter t b c
  begun_desk law stay same room =
      let n : length c.live ≡ length (live_keys b ++ k ∷ []) = few_live c (live_keys b ++ k ∷ []) keys_more in
      let l : length (live_keys b) ≡ length b.live = length_map (λ (s : Session). s.key) b.live in
      desk_after law stay desk both_calls same nobody_left (omega (arith, n, l, room, length-append (live_keys b) (k ∷ [])))

  pub begun_reserves : reserves_in (steps_of c) ≡ suc (reserves_in (steps_of b))
  begun_reserves =
      let xs = key_writes p.slot (key_words k x) 4 ++ (g.reserved.made ++ scans_of b.size.workers g.reserved.words) in
      let whole = ap reserves_in both_calls.steps in
      let first = one_reserve p g.reserved.row (xs ++ steps_of b) in
      let split = reserves_then xs (steps_of b) in
      let keys = reserves_then (key_writes p.slot (key_words k x) 4) (g.reserved.made ++ scans_of b.size.workers g.reserved.words) in
      let rows = reserves_then g.reserved.made (scans_of b.size.workers g.reserved.words) in
      let a = none_in_keys p.slot (key_words k x) 4 in
      let d = none_in_row g.reserved.kept in
      let e = none_in_scans b.size.workers g.reserved.words in
      omega (arith, whole, first, split, keys, rows, a, d, e)

  configured_so : config_at (steps_of c) g.reserved.row ≡ f
  configured_so = g.fits_after.rows.configs f g.reserved.row (subst (λ (r : Rows). IsRow r f g.reserved.row) (sym g.started.rows) (row_given b.rows m.rows f g.reserved.row g.reserved.made g.reserved.kept))

  pub begun_holds : (u : Table) (o : Opening) → o.key ≡ k → o.extra ≡ x → o.config ≡ f → CallsTell → HoldsTable b u → is_bound k u.sessions ≡ false → HoldsTable c (after_opening opens.Opened u o)
  begun_holds u o ok oe oc law h free =
      let e : Entry = record { key = k; extra = x; config = f; count = 0 } in
      let v : Table = record { sessions = with_entry e u.sessions; configs = accept f u.configs; locals = u.locals } in
      let held : HoldsTable c v = record {
        follows = at_size both_calls.size (opened_here k x f g.reserved.row law h.follows (call_of both_calls) free one_more configured_so);
        keys = keys_more ∙ ap (λ (l : List Key). l ++ k ∷ []) h.keys ∙ sym (keys_added u.sessions e);
        configs = ap (λ (r : Rows). r.configs) g.started.rows ∙ row_accepts b m u f g.reserved.row g.reserved.made h.configs g.reserved.kept;
      } in
      subst (HoldsTable c) (λ i. record { sessions = with_entry (record { key = sym ok i; extra = sym oe i; config = sym oc i; count = 0 }) u.sessions; configs = accept (sym oc i) u.configs; locals = u.locals }) held

-- ---- slots never run out

-- with at most 1,023 sessions, and not more than 2^29 reserves so far, there is a free slot
pub never_full : (t : rule.Table) (b c : Book) (live reserved retired held : ℕ) → IsFull t b live reserved retired held c → IsDesk t b → BookFits b → suc (length b.live) ≤ 1024 → reserves_in (steps_of b) ≤ 2 ^ 29 → ⊥
never_full t b c live reserved retired held full desk fits room few =
    let slots = desk.slots in
    let one = desk.between.one in
    let all = full.all in
    let l = full.live_number in
    let r : reserved ≡ 0 = full.reserved_number ∙ ap length desk.nobody in
    let s = full.retired_number in
    let w = full.few in
    let spent = fits.retired in
    omega (arith, slots, one, all, l, r, s, w, spent, room, few)

excludes_itself : (j : Key) → excludes j j ≡ true
unfolding excludes
excludes_itself j = or_l _ _ (same_key-refl j)

-- what an admitted session may still be refused for
pub full_only : (t : rule.Table) (b c : Book) (k : Key) (f : ConfigParts) (fault : ReserveFault) → NoCause b k f → IsRefused b k f fault × IsUnmoved t b fault c
    → (live : ℕ) × (reserved : ℕ) × (retired : ℕ) × (held : ℕ) × IsFull t b live reserved retired held c
full_only t b c k f (faults.Full live reserved retired held) n r = (live, reserved, retired, held, r.1)
full_only t b c k f (faults.Duplicate j) n r = absurd (true_ne_false (sym (any_contains (λ i. excludes i k) b.keys k r.0.1 (excludes_itself k)) ∙ n.alone))
full_only t b c k f (faults.ModeClash j) n r = absurd (true_ne_false (sym (any_found (λ i. has_mode_clash i k) b.keys j r.0.1) ∙ (any_apart k b.keys n.alone).1))
full_only t b c k f faults.NoKey n r = absurd (true_ne_false (sym (n.keyed r.0.1.0) ∙ r.0.1.1))
full_only t b c k f faults.RowsFull n r = absurd (n.room r.0.2)

pub full_desk : (t : rule.Table) (b c : Book) (live reserved retired held : ℕ) → IsFull t b live reserved retired held c → CallsTell → RowsStay → IsDesk t b → BookFits c → IsBookOf t c → IsDeskAfter t b c × (reserves_in (steps_of c) ≡ reserves_in (steps_of b))
full_desk t b c live reserved retired held full law stay desk fits same =
    let scans = scans_of b.size.workers full.words in
    let call : IsBookCall b c scans = record {
      plain = plain_scans b.size.workers full.words;
      steps = full.added.steps;
      joined = full.added.joined;
      size = ap (λ (x : Book). x.size) full.book;
      fits = fits;
    } in
    let n = ap reserves_in full.added.steps in
    let m = reserves_then scans (steps_of b) in
    let z = none_in_scans b.size.workers full.words in (
      desk_after law stay desk call same (ap (λ (x : Book). x.reserved) full.book ∙ desk.nobody) (subst (λ (l : List Session). length l ≤ 1024) (sym (ap (λ (x : Book). x.live) full.book)) desk.few),
      omega (arith, n, m, z),
    )

-- ---- a live session is changed

live_is : (b : Book) (u : Table) (k : Key) → HoldsTable b u → list_any (is_of k) b.live ≡ is_bound k u.sessions
live_is b u k h = live_test b u h (λ j. same_key j k)

found_live : (b : Book) (k : Key) (s : Session) → Contains b.live s → s.key ≡ k → list_any (is_of k) b.live ≡ true
found_live b k s found e = any_contains (is_of k) b.live s found (ap (λ (j : Key). same_key j k) e ∙ same_key-refl k)

set_by : (bound acceptable : Bool) (s : Setting) {x a l : Bool} → bound ≡ x → lacks_key s.key.mode s.config ≡ l → acceptable ≡ a
    → set_answer_of bound acceptable s ≡ (if not x then sets.NoSuch
    else (if l then sets.NoKey
    else (if not a then sets.RowsFull
    else sets.Set)))
unfolding set_answer_of
set_by bound acceptable s e f g = rw (e, f, g) refl

none_out : (k : Key) (es : List Entry) → is_bound k es ≡ false → table.without k es ≡ es
none_out k [] e = refl
none_out k (d ∷ es) e = let x = no_or (same_key d.key k) (is_bound k es) e in rw x.0 (ap (λ (l : List Entry). d ∷ l) (none_out k es x.1))

row_limit : {t : rule.Table} {b : Book} → IsDesk t b → BookFits b → b.rows.limit ≡ 1024
row_limit desk fits = fits.rows.limit ∙ desk.rows

not_set : (b c : Book) (u : Table) (x : Setting) (a : SetAnswer) → HoldsTable b u → c ≡ b → set_answer u x ≡ a → after_setting a u x ≡ u → HasSet u x a c
not_set b c u x a h same is left = record {
  answer = sym is;
  holds = subst (HoldsTable c) (sym (ap (λ (y : SetAnswer). after_setting y u x) is ∙ left)) (subst (λ (y : Book). HoldsTable y u) (sym same) h);
}

module _ {t : rule.Table} {b c : Book} (desk : IsDesk t b) (fits : BookFits b) (fits_after : BookFits c) {k : Key} where
  module _ {f : ConfigParts} (s : calls.HasSet t b k f c) where
    abbrev set_steps : List Step
    set_steps = Reconfigure s.session.place.slot s.session.row s.row s.word ∷ s.made

    set_call : IsBookCall b c set_steps
    set_call = record { plain = plain_row s.kept; steps = s.added.steps; joined = s.added.joined; size = s.size; fits = fits_after }

    set_keys : live_keys c ≡ live_keys b
    set_keys = live_configured b c k s.row fits fits_after s.answers

    pub set_desk : CallsTell → RowsStay → IsBookOf t c → IsDeskAfter t b c
    set_desk law stay same =
        let n = few_live c (live_keys b) set_keys in
        let l = length_map (λ (x : Session). x.key) b.live in
        let few = desk.few in
        desk_after law stay desk set_call same (s.reserved ∙ desk.nobody) (omega (arith, n, l, few))

    pub set_reserves : reserves_in (steps_of c) ≡ reserves_in (steps_of b)
    set_reserves =
        let n = ap reserves_in s.added.steps in
        let m = reserves_then s.made (steps_of b) in
        let z = none_in_row s.kept in
        omega (arith, n, m, z)

    configured_to : config_at (steps_of c) s.row ≡ f
    configured_to = fits_after.rows.configs f s.row (row_given b.rows c.rows f s.row s.made s.kept)

    pub has_set : (u : Table) → CallsTell → DeskIsAllowed → SlotsAreSound → HoldsTable b u → HasSet u (record { key = k; config = f }) sets.Set c
    has_set u law allowed sound h =
        let x : Setting = record { key = k; config = f } in
        let is : set_answer u x ≡ sets.Set = set_by (is_bound k u.sessions) (may_accept f u.configs) x (sym (live_is b u k h) ∙ found_live b k s.session s.found s.key) (lacks_none k f s.no_cause.keyed) (room_some b u f allowed sound fits (row_limit desk fits) h.configs s.no_cause.room) in
        record {
          answer = sym is;
          holds = subst (λ (a : SetAnswer). HoldsTable c (after_setting a u x)) (sym is) (record {
            follows = at_size s.size (configured_here k f s.row law h.follows (call_of set_call) s.answers configured_to);
            keys = set_keys ∙ h.keys ∙ sym (keys_updated k (table.configured f) (λ e. refl) u.sessions);
            configs = row_accepts b c u f s.row s.made h.configs s.kept;
          });
        }

  pub set_refused : (u : Table) (f : ConfigParts) (fault : SetFault) → HoldsTable b u → c ≡ b → IsSetRefused b k f fault → HasSet u (record { key = k; config = f }) (set_refusal fault) c
  set_refused u f set_faults.NoSuch h same r =
      let x : Setting = record { key = k; config = f } in
      not_set b c u x sets.NoSuch h same (set_by (is_bound k u.sessions) (may_accept f u.configs) x (sym (live_is b u k h) ∙ r) refl refl) refl
  set_refused u f set_faults.NoKey h same r =
      let x : Setting = record { key = k; config = f } in
      not_set b c u x sets.NoKey h same (set_by (is_bound k u.sessions) (may_accept f u.configs) x (sym (live_is b u k h) ∙ r.0) (lacks k f r.1) refl) refl
  set_refused u f set_faults.RowsFull h same r =
      let x : Setting = record { key = k; config = f } in
      not_set b c u x sets.RowsFull h same (set_by (is_bound k u.sessions) (may_accept f u.configs) x (sym (live_is b u k h) ∙ r.0) (lacks_none k f r.1) (room_none b u f (row_limit desk fits) h.configs r.2)) refl

  -- ---- a live session is closed

  module _ {n : ℕ} (s : calls.HasClosed t b k c n) where
    close_call : IsBookCall b c (Close s.session.place.slot s.word ∷ [])
    close_call = record { plain = tt; steps = s.made.step; joined = s.made.joined; size = s.size; fits = fits_after }

    close_keys : live_keys c ≡ filter (λ j. not (same_key j k)) (live_keys b)
    close_keys = live_closed b c k n fits fits_after s.answers

    pub close_desk : CallsTell → RowsStay → IsBookOf t c → IsDeskAfter t b c
    close_desk law stay same =
        let m = few_live c (filter (λ j. not (same_key j k)) (live_keys b)) close_keys in
        let fewer = fewer_filtered (λ (j : Key). not (same_key j k)) (live_keys b) in
        let l = length_map (λ (x : Session). x.key) b.live in
        let few = desk.few in
        desk_after law stay desk close_call same (s.reserved ∙ desk.nobody) (omega (arith, m, fewer, l, few))

    pub close_reserves : reserves_in (steps_of c) ≡ reserves_in (steps_of b)
    close_reserves = ap reserves_in s.made.step

    pub has_closed : (u : Table) → CallsTell → HoldsTable b u → AreApart u.sessions → HasClosed u k (Some n) c
    has_closed u law h apart =
        let x = closed_here k n law h.follows (call_of close_call) apart s.answers in
        record {
          count_is = sym (ap count_of x.0.1 ∙ ap (λ (m : ℕ). Some m) x.0.2);
          holds = record {
            follows = at_size s.size x.1;
            keys = close_keys ∙ ap (filter (λ j. not (same_key j k))) h.keys ∙ sym (keys_without k u.sessions apart);
            configs = ap (λ (r : Rows). r.configs) s.rows ∙ h.configs;
          };
        }

  pub not_closed : (u : Table) → HoldsTable b u → c ≡ b → IsNotLive b k → HasClosed u k None c
  not_closed u h same none =
      let free : is_bound k u.sessions ≡ false = sym (live_is b u k h) ∙ none in
      record {
        count_is = sym (ap count_of (at_none u.sessions k free));
        holds = subst (λ (es : List Entry). HoldsTable c (record { sessions = es; configs = u.configs; locals = u.locals })) (sym (none_out k u.sessions free)) (subst (λ (y : Book). HoldsTable y u) (sym same) h);
      }
