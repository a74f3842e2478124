-- The whole run is one that runs, and its answers are those of a first session.
use Rattle.std.proofs.Common.{◌≡◌, ◌≢◌, inl, ℕ, zero, suc, ◌+◌, ◌-◌, ◌^◌, ◌<◌, ◌≤◌, ◌==◌, Bool, true, false, ◌&&◌, ◌||◌, not, if◌then◌else◌, List, [], ◌∷◌, ◌++◌, get_or, get_or-set_other, get_or-set_same, set, sym, refl, ap, ◌∙◌, subst, arith, eq-eqb, ne_eqb, Option, Some, None}
use lib.Seq.{set-get_or}
use Rattle.std.specs.Int.Bits.{bit_and}
use Rattle.slot_word.specs.Fields.{sequence_in, generation_in, row_in, is_open_word, word_of}
use Rattle.slot_word.proofs.Laws.{HasFields, word_has, word_back, opening_keeps, opening_opens}
use Rattle.config_rows.specs.Words.{config_of_words, AreConfigWords}
use Rattle.session_key.specs.Matching.{matches}
use Rattle.session_world.specs.declared.steps.TableSize.{TableSize}
use Rattle.session_world.specs.declared.steps.Step.{Step}
use Rattle.session_world.specs.declared.steps.Step.TheVariants.{ReserveNew, Start, Split, Announce}
use Rattle.session_world.specs.Sizes.{IsWithinLimits}
use Rattle.session_world.specs.Keys.{Query, Key, put, key_of, extra_of, IsKey, row_list, config_of, IsConfigRow, is_auth, has_key, start_of, distance}
use Rattle.session_world.specs.Words.{slot_at, key_at, announced_at, word_after}
use Rattle.session_world.specs.Desk.{is_open, generation_of, row_of, key_word_of, key_of_slot, is_reserved, rows_written, row_word_of, config_at, is_split, written_since}
use Rattle.session_world.specs.Worker.{LastLook, holds, has_key_words, key_matches, first_number, after_look, takes_key, with_key_word, after_key, last_look}
use Rattle.session_world.specs.Answers.{Answer, opened, seen, drew, missed, late, is_miss, words_give, completes_key, key_gives, draw_gives, desk_answers, worker_answers}
use Rattle.session_world.specs.Allowed.{HasSeen}
use Rattle.session_world.specs.Runs.{CoreState, ScheduledStep, run, Runs}
use Rattle.session_world.specs.WholeRun.{by_desk, by_worker, row_steps, key_steps, look_steps, load_steps, whole_run, Ends, WholeRun}
use Rattle.session_world.proofs.BoolFacts.{true_ne_false, or_l, no_and, number_case, if_yes}
use Rattle.session_world.proofs.KeyFacts.{key_of_same, extra_of_same, is_key_same, matches_start, start_low}
use Rattle.session_world.proofs.Walks.{distance_start}
use Rattle.session_world.proofs.Sound.{run_sound}
use Rattle.session_world.proofs.KeyLoads.{completes_i}

row_list_in : (f g : ℕ → ℕ) → ((k : ℕ) → 0 < k → k < 13 → f k ≡ g k) → row_list f ≡ row_list g
row_list_in f g e = λ i. e 1 (omega arith) (omega arith) i ∷ e 2 (omega arith) (omega arith) i ∷ e 3 (omega arith) (omega arith) i ∷ e 4 (omega arith) (omega arith) i ∷ e 5 (omega arith) (omega arith) i ∷ e 6 (omega arith) (omega arith) i
    ∷ e 7 (omega arith) (omega arith) i ∷ e 8 (omega arith) (omega arith) i ∷ e 9 (omega arith) (omega arith) i ∷ e 10 (omega arith) (omega arith) i ∷ e 11 (omega arith) (omega arith) i ∷ e 12 (omega arith) (omega arith) i ∷ []

is_config_in : (f g : ℕ → ℕ) → ((k : ℕ) → 0 < k → k < 13 → f k ≡ g k) → IsConfigRow f → IsConfigRow g
unfolding IsConfigRow
is_config_in f g e h = subst AreConfigWords (row_list_in f g e) h

config_in : (f g : ℕ → ℕ) → ((k : ℕ) → 0 < k → k < 13 → f k ≡ g k) → config_of f ≡ config_of g
unfolding config_of
config_in f g e = ap config_of_words (row_list_in f g e)

-- what the desk's list says while rows and keys are written
record Fresh (ds : List Step) : Type 0 where
  unused : (i : ℕ) → generation_of ds i ≡ 0
  shut : (i : ℕ) → is_open ds i ≡ false
  unsplit : (w : ℕ) → is_split ds w ≡ false
  silent : desk_answers ds ≡ []

record RowsTo (row : ℕ → ℕ) (k : ℕ) (ds : List Step) : Type 0 where
  written : rows_written ds ≡ k
  words : (j : ℕ) → 0 < j → j ≤ k → row_word_of ds 1 j ≡ row j

record KeysTo (key : ℕ → ℕ) (slot k : ℕ) (ds : List Step) : Type 0 where
  words : (j : ℕ) → 0 < j → j ≤ k → key_word_of ds slot j ≡ key j
  since : (j : ℕ) → 0 < j → j ≤ k → written_since ds slot j ≡ true

module _ (z : TableSize) (row key : ℕ → ℕ) (q : Query) (within : IsWithinLimits z) (is_row : IsConfigRow row) (is_key : IsKey key) (match : matches q (key_of key) ≡ true) (keyed : is_auth (key_of key) ≡ true → has_key (config_of row) ≡ true) where
  abbrev slot : ℕ
  slot = start_of z.slots q.local q.peer

  inside : slot < z.slots
  inside = start_low z.slots q.local q.peer within.some_slot

  -- ---- rows

  abbrev rows_at : ℕ → List Step
  rows_at k = (run z (row_steps row k)).desk

  rows_fresh : (k : ℕ) → Fresh (rows_at k)
  rows_fresh zero = record { unused = λ i. refl; shut = λ i. refl; unsplit = λ w. refl; silent = refl }
  rows_fresh (suc k) = let f = rows_fresh k in record { unused = f.unused; shut = f.shut; unsplit = f.unsplit; silent = f.silent }

  rows_to : (k : ℕ) → RowsTo row k (rows_at k)
  rows_to zero = record { written = refl; words = λ j lo hi. absurd (omega (arith, lo, hi)) }
  rows_to (suc k) = let r = rows_to k in record {
    written = ap suc r.written;
    words = λ j lo hi. number_case j (suc k) (λ (x : j ≡ suc k). rw (eq-eqb j (suc k) x) (ap row (sym x))) (λ (x : j ≢ suc k). rw (ne_eqb j (suc k) x) (r.words j lo (omega (arith, hi, x))));
  }

  rows_run : (k : ℕ) → k ≤ 12 → Runs z (row_steps row k)
  rows_run zero le = tt
  rows_run (suc k) le = let r = rows_to k in let some = within.some_row in let w = r.written in (
    rows_run k (omega (arith, le)),
    (
      omega arith,
      some,
      omega arith,
      omega (arith, le),
      omega (arith, w),
      λ e. (
        is_config_in row (put (row_word_of (rows_at k) 1) 12 (row (suc k))) (λ j lo hi. number_case j 12
            (λ (x : j ≡ 12). rw (eq-eqb j 12 x) (ap row (x ∙ sym e)))
            (λ (x : j ≢ 12). rw (ne_eqb j 12 x) (sym (r.words j lo (omega (arith, hi, x, e)))))) is_row,
        λ m lo hi. absurd (omega (arith, lo, hi)),
      ),
    ),
    tt,
  )

  -- ---- keys

  abbrev keys_at : ℕ → List Step
  keys_at k = (run z (key_steps row key slot k)).desk

  keys_fresh : (k : ℕ) → Fresh (keys_at k)
  keys_fresh zero = rows_fresh 12
  keys_fresh (suc k) = let f = keys_fresh k in record { unused = f.unused; shut = f.shut; unsplit = f.unsplit; silent = f.silent }

  keys_rows : (k : ℕ) → RowsTo row 12 (keys_at k)
  keys_rows zero = rows_to 12
  keys_rows (suc k) = let r = keys_rows k in record { written = r.written; words = r.words }

  keys_to : (k : ℕ) → KeysTo key slot k (keys_at k)
  keys_to zero = record { words = λ j lo hi. absurd (omega (arith, lo, hi)); since = λ j lo hi. absurd (omega (arith, lo, hi)) }
  keys_to (suc k) = let r = keys_to k in record {
    words = λ j lo hi. number_case j (suc k)
        (λ (x : j ≡ suc k). rw (eq-eqb slot slot refl, eq-eqb j (suc k) x) (ap key (sym x)))
        (λ (x : j ≢ suc k). rw (eq-eqb slot slot refl, ne_eqb j (suc k) x) (r.words j lo (omega (arith, hi, x))));
    since = λ j lo hi. number_case j (suc k)
        (λ (x : j ≡ suc k). rw (eq-eqb slot slot refl, eq-eqb j (suc k) x) refl)
        (λ (x : j ≢ suc k). rw (eq-eqb slot slot refl, ne_eqb j (suc k) x) (r.since j lo (omega (arith, hi, x))));
  }

  keys_run : (k : ℕ) → k ≤ 4 → Runs z (key_steps row key slot k)
  keys_run zero le = rows_run 12 (omega arith)
  keys_run (suc k) le = (keys_run k (omega (arith, le)), (inside, omega arith, omega (arith, le), inl ((keys_fresh k).unused slot)), tt)

  key_is : (k : ℕ) → 0 < k → k < 5 → key_word_of (keys_at 4) slot k ≡ key k
  key_is k lo hi = (keys_to 4).words k lo (omega (arith, hi))

  key_of_is : key_of_slot (keys_at 4) slot ≡ key_of key
  key_of_is = key_of_same (key_word_of (keys_at 4) slot) key key_is

  config_is : config_at (keys_at 4) 1 ≡ config_of row
  config_is = config_in (row_word_of (keys_at 4) 1) row (λ k lo hi. (keys_rows 4).words k lo (omega (arith, hi)))

  -- ---- reserve and start

  abbrev reserve_steps : List ScheduledStep
  reserve_steps = by_desk (ReserveNew slot 1) ∷ key_steps row key slot 4

  reserve_run : Runs z reserve_steps
  reserve_run = let w = (keys_rows 4).written in (
    keys_run 4 (omega arith),
    (
      (keys_fresh 4).unused slot,
      record {
        inside = inside;
        written = λ k lo hi. (keys_to 4).since k lo (omega (arith, hi));
        sound = is_key_same key (key_word_of (keys_at 4) slot) (λ k lo hi. sym (key_is k lo hi)) is_key;
        complete = (omega arith, omega (arith, w));
        path = λ j lt d. let e : distance z.slots (start_of z.slots (key_of_slot (keys_at 4) slot).local (key_of_slot (keys_at 4) slot).peer) slot ≡ 0 =
            ap (λ (k : Key). distance z.slots (start_of z.slots k.local k.peer) slot) key_of_is ∙ (ap (λ (s : ℕ). distance z.slots s slot) (sym (matches_start z.slots q (key_of key) match)) ∙ distance_start z.slots slot) in absurd (omega (arith, d, e));
      },
    ),
    tt,
  )

  abbrev reserved_word : ℕ
  reserved_word = word_of 0 1 1 true

  abbrev open_word : ℕ
  open_word = word_of 0 1 1 false

  reserved_fields : HasFields reserved_word 0 1 1 true
  reserved_fields = word_has 0 1 1 true (omega arith) (omega arith) (omega arith)

  open_fields : HasFields open_word 0 1 1 false
  open_fields = word_has 0 1 1 false (omega arith) (omega arith) (omega arith)

  -- a word is that of its fields
  from_fields : (n s g r : ℕ) (b : Bool) → sequence_in n ≡ s → generation_in n ≡ g → row_in n ≡ r → not (is_open_word n) ≡ b → n ≡ word_of s g r b
  from_fields n s g r b es eg er eb = sym (word_back n) ∙ (λ i. word_of (es i) (eg i) (er i) (eb i))

  abbrev after_reserve : CoreState
  after_reserve = run z reserve_steps

  reserved_at : get_or after_reserve.words (slot_at slot) 0 ≡ reserved_word
  reserved_at = let x = (run_sound z (key_steps row key slot 4) within (keys_run 4 (omega arith))).words.wide in let lt = inside in get_or-set_same (run z (key_steps row key slot 4)).words (slot_at slot) reserved_word 0 (omega (arith, x, lt))

  abbrev start_steps : List ScheduledStep
  start_steps = by_desk (Start slot reserved_word) ∷ reserve_steps

  start_run : Runs z start_steps
  start_run = (
    reserve_run,
    (
      inside,
      or_l (slot == slot) (is_reserved (keys_at 4) slot) (eq-eqb slot slot refl),
      λ j o. absurd (true_ne_false (sym o ∙ (keys_fresh 4).shut j)),
      λ auth. ap has_key (ap (config_at after_reserve.desk) (if_yes (slot == slot) 1 (row_of (keys_at 4) slot) (eq-eqb slot slot refl)) ∙ config_is) ∙ keyed (ap is_auth (sym key_of_is) ∙ auth),
    ),
    sym reserved_at,
  )

  abbrev after_start : CoreState
  after_start = run z start_steps

  started_at : get_or after_start.words (slot_at slot) 0 ≡ open_word
  started_at = let x = (run_sound z reserve_steps within reserve_run).words.wide in let lt = inside in let f = reserved_fields in let k = opening_keeps reserved_word f.small in
      get_or-set_same after_reserve.words (slot_at slot) (word_after (Start slot reserved_word) (get_or after_reserve.words (slot_at slot) 0)) 0 (omega (arith, x, lt))
      ∙ (ap (λ (n : ℕ). bit_and n (2 ^ 64 - 2)) reserved_at
      ∙ from_fields (bit_and reserved_word (2 ^ 64 - 2)) 0 1 1 false (k.sequence ∙ f.sequence) (k.generation ∙ f.generation) (k.row ∙ f.row) (ap not (opening_opens reserved_word f.small)))

  -- ---- the worker

  abbrev read : ℕ
  read = get_or after_start.words 0 0

  abbrev split_steps : List ScheduledStep
  split_steps = by_desk (Split 1 read) ∷ start_steps

  split_run : Runs z split_steps
  split_run = let some = within.some_worker in (start_run, (omega arith, some, (keys_fresh 4).unsplit 1, λ j lo hi. absurd (omega (arith, lo, hi))), refl)

  abbrev announce_steps : List ScheduledStep
  announce_steps = by_worker (Announce slot) ∷ split_steps

  announce_run : Runs z announce_steps
  announce_run = (split_run, (refl, inside), tt)

  same_after_load : (ws : List ℕ) (p n : ℕ) → get_or ws (slot_at slot) 0 ≡ n → get_or (set ws p (get_or ws p 0)) (slot_at slot) 0 ≡ n
  same_after_load ws p n e = ap (λ (vs : List ℕ). get_or vs (slot_at slot) 0) (set-get_or ws p 0) ∙ e

  announced_word : get_or (run z announce_steps).words (slot_at slot) 0 ≡ open_word
  announced_word = let lt = inside in get_or-set_other (run z split_steps).words (announced_at z 1) (slot_at slot) (slot + 1) 0 (λ e. omega (arith, e, lt)) ∙ same_after_load after_start.words 0 open_word started_at

  look_run : Runs z (look_steps row key slot q read)
  look_run = (announce_run, (refl, (inside, refl)), sym announced_word)

  is_held : (xs : List Step) → (((slot == slot) && is_open_word open_word) || holds xs slot) ≡ true
  is_held xs = rw (eq-eqb slot slot refl, open_fields.is_open) refl

  abbrev loads_at : ℕ → CoreState
  loads_at k = run z (load_steps row key slot q read k)

  -- what stays while the key words are loaded
  record Loading (k : ℕ) : Type 0 where
    desk : (loads_at k).desk ≡ (run z split_steps).desk
    held : holds ((loads_at k).living_part 1) slot ≡ true
    word : get_or (loads_at k).words (slot_at slot) 0 ≡ open_word

  loading : (k : ℕ) → Loading k
  loading zero = record { desk = refl; held = is_held (Announce slot ∷ []); word = same_after_load (run z announce_steps).words (slot_at slot) open_word announced_word }
  loading (suc k) = let l = loading k in record { desk = l.desk; held = l.held; word = same_after_load (loads_at k).words (key_at slot (suc k)) open_word l.word }

  split_off : (k : ℕ) → is_split (loads_at k).desk 1 ≡ true
  split_off k = ap (λ (ds : List Step). is_split ds 1) (loading k).desk

  loads_run : (k : ℕ) → k ≤ 4 → Runs z (load_steps row key slot q read k)
  loads_run zero le = look_run
  loads_run (suc k) le = let r = loads_run k (omega (arith, le)) in let l = loading k in let f = (run_sound z (load_steps row key slot q read k) within r).words in (
    r,
    (split_off k, (omega arith, omega (arith, le), l.held)),
    sym (f.keys slot (suc k) inside (omega arith) (omega (arith, le)) ∙ (ap (λ (ds : List Step). key_word_of ds slot (suc k)) l.desk ∙ key_is (suc k) (omega arith) (omega (arith, le)))),
  )

  -- ---- the look

  abbrev first_look : LastLook
  first_look = after_look z.slots None slot q open_word

  abbrev looked : ℕ → LastLook
  looked zero = first_look
  looked (suc k) = with_key_word (looked k) (suc k) (key (suc k))

  record IsLook (k : ℕ) : Type 0 where
    at : (looked k).slot ≡ slot
    query : (looked k).query ≡ q
    read : (looked k).read ≡ open_word
    live : (looked k).live ≡ true
    number : (looked k).number ≡ 1
    full : (j : ℕ) → 0 < j → j ≤ k → (looked k).has_read j ≡ true
    empty : (j : ℕ) → k < j → (looked k).has_read j ≡ false
    word : (j : ℕ) → 0 < j → j ≤ k → (looked k).word j ≡ key j

  begins : first_number z.slots slot q ≡ 1
  unfolding first_number
  begins = rw (eq-eqb slot slot refl) refl

  is_look : (k : ℕ) → IsLook k
  is_look zero = record { at = refl; query = refl; read = refl; live = refl; number = begins; full = λ j lo hi. absurd (omega (arith, lo, hi)); empty = λ j lo. refl; word = λ j lo hi. absurd (omega (arith, lo, hi)) }
  is_look (suc k) = let l = is_look k in record {
    at = l.at;
    query = l.query;
    read = l.read;
    live = l.live;
    number = l.number;
    full = λ j lo hi. number_case j (suc k) (λ (x : j ≡ suc k). rw (eq-eqb j (suc k) x) refl) (λ (x : j ≢ suc k). rw (ne_eqb j (suc k) x) (l.full j lo (omega (arith, hi, x))));
    empty = λ j lo. rw (ne_eqb j (suc k) (λ e. omega (arith, e, lo))) (l.empty j (omega (arith, lo)));
    word = λ j lo hi. number_case j (suc k) (λ (x : j ≡ suc k). rw (eq-eqb j (suc k) x) (ap key (sym x))) (λ (x : j ≢ suc k). rw (ne_eqb j (suc k) x) (l.word j lo (omega (arith, hi, x))));
  }

  takes_word : (k : ℕ) → takes_key (looked k) slot ≡ true
  unfolding takes_key
  takes_word k = let l = is_look k in rw (l.live, l.read, open_fields.is_open, l.at) (eq-eqb slot slot refl)

  look_is : (k : ℕ) → last_look z.slots ((loads_at k).living_part 1) ≡ Some (looked k)
  look_is zero = refl
  look_is (suc k) = ap (λ (o : Option LastLook). after_key o slot (suc k) (key (suc k))) (look_is k) ∙ ap (λ (b : Bool). Some (if b then looked (suc k) else looked k)) (takes_word k)

  not_full : (k : ℕ) → k < 4 → has_key_words (looked k) ≡ false
  unfolding has_key_words
  not_full k lt = rw ((is_look k).empty 4 lt) (no_and ((looked k).has_read 1 && (looked k).has_read 2 && (looked k).has_read 3))

  is_full : has_key_words (looked 4) ≡ true
  unfolding has_key_words
  is_full = refl

  not_yet : (k : ℕ) → suc k < 4 → completes_key (looked k) slot (suc k) (key (suc k)) ≡ false
  unfolding completes_key
  not_yet k lt = ap (λ (b : Bool). takes_key (looked k) slot && not ((looked k).number == 0) && not (has_key_words (looked k)) && b) (not_full (suc k) lt) ∙ no_and (takes_key (looked k) slot && not ((looked k).number == 0) && not (has_key_words (looked k)))

  completes_it : completes_key (looked 3) slot 4 (key 4) ≡ true
  completes_it = completes_i (looked 3) slot 4 (key 4) (takes_word 3) (λ e. let n = (is_look 3).number in omega (arith, e, n)) (not_full 3 (omega arith)) is_full

  key_seen : key_of (looked 4).word ≡ key_of key
  key_seen = key_of_same (looked 4).word key (λ j lo hi. (is_look 4).word j lo (omega (arith, hi)))

  extra_seen : extra_of (looked 4).word ≡ extra_of key
  extra_seen = extra_of_same (looked 4).word key (λ j lo hi. (is_look 4).word j lo (omega (arith, hi)))

  sees_it : key_matches (looked 4) ≡ true
  unfolding key_matches
  sees_it = ap (matches q) key_seen ∙ match

  no_miss : is_miss z.slots first_look ≡ false
  unfolding is_miss
  no_miss = rw (open_fields.is_open) (no_and_then (not (first_look.number == 0)) ((generation_in open_word == 0) || (first_look.number == z.slots))) where
    no_and_then : (a b : Bool) → (a && false && b) ≡ false
    no_and_then true b = refl
    no_and_then false b = refl

  abbrev answers_at : ℕ → List (Answer ℕ)
  answers_at k = worker_answers z.slots ((loads_at k).living_part 1)

  no_answers : (k : ℕ) → k < 4 → answers_at k ≡ []
  no_answers zero lt = ap (λ (b : Bool). (if b then missed q ∷ [] else []) ++ []) no_miss
  no_answers (suc k) lt = (λ i. key_gives z.slots (look_is k i) slot (suc k) (key (suc k)) ++ no_answers k (omega (arith, lt)) i) ∙ ap (λ (b : Bool). (if b then words_give z.slots (looked (suc k)) else []) ++ []) (not_yet k lt)

  abbrev the_sight : Answer ℕ
  the_sight = seen q (key_of key) (extra_of key) 1

  gives_sight : words_give z.slots (looked 4) ≡ the_sight ∷ []
  gives_sight = if_yes (key_matches (looked 4)) (seen q (key_of (looked 4).word) (extra_of (looked 4).word) (row_in open_word) ∷ []) (if (looked 4).number == z.slots then missed q ∷ [] else []) sees_it
      ∙ (λ i. seen q (key_seen i) (extra_seen i) (open_fields.row i) ∷ [])

  sight_answers : answers_at 4 ≡ the_sight ∷ []
  sight_answers = (λ i. key_gives z.slots (look_is 3 i) slot 4 (key 4) ++ no_answers 3 (omega arith) i) ∙ (ap (λ (b : Bool). (if b then words_give z.slots (looked 4) else []) ++ []) completes_it ∙ ap (λ (ys : List (Answer ℕ)). ys ++ []) gives_sight)

  draw_run : Runs z (whole_run row key slot q read)
  draw_run = let l = loading 4 in (
    loads_run 4 (omega arith),
    (split_off 4, (l.held, subst (λ (o : Option LastLook). HasSeen o slot) (sym (look_is 4)) (refl, refl, open_fields.is_open, is_full, sees_it, λ e. let n = (is_look 4).number in omega (arith, e, n)))),
    sym l.word,
  )

  draw_answers : worker_answers z.slots ((run z (whole_run row key slot q read)).living_part 1) ≡ drew (key_of key) 0 1 ∷ the_sight ∷ []
  draw_answers = (λ i. draw_gives (look_is 4 i) open_word ++ sight_answers i)
      ∙ (ap (λ (a : Answer ℕ). a ∷ the_sight ∷ []) (if_yes (is_open_word open_word) (drew (key_of (looked 4).word) (sequence_in open_word) (row_in open_word)) (late q) open_fields.is_open)
      ∙ (λ i. drew (key_seen i) (open_fields.sequence i) (open_fields.row i) ∷ the_sight ∷ []))

  opens_it : desk_answers (run z (whole_run row key slot q read)).desk ≡ opened (key_of key) (extra_of key) 1 ∷ []
  opens_it = ap desk_answers (loading 4).desk ∙ (λ i. opened (key_of_is i) (extra_of_same (key_word_of (keys_at 4) slot) key key_is i) (if_yes (slot == slot) 1 (row_of (keys_at 4) slot) (eq-eqb slot slot refl) i) ∷ (keys_fresh 4).silent i)

  has_config : config_at (run z (whole_run row key slot q read)).desk 1 ≡ config_of row
  has_config = ap (λ (ds : List Step). config_at ds 1) (loading 4).desk ∙ config_is

  pub all_of_it : (n : ℕ) × Ends z row key q (whole_run row key slot q n)
  all_of_it = (read, record { runs = draw_run; desk = opens_it; worker = draw_answers; config = has_config })

pub whole : WholeRun
whole z row key q within is_row is_key match keyed = all_of_it z row key q within is_row is_key match keyed
