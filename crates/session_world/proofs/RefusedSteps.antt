-- What no schedule that runs has, and what no history explains.
use Rattle.std.proofs.Common.{◌≡◌, ◌≢◌, ◌⊎◌, inl, inr, ⊎_elim, ℕ, suc, ◌+◌, ◌%◌, ◌^◌, ◌<◌, ◌≤◌, ◌==◌, Bool, true, false, if◌then◌else◌, List, [], ◌∷◌, ◌++◌, length, map, take, get_or, get_or-set_other, get_or-set_same, sym, refl, ap, ◌∙◌, subst, arith, eq-eqb, ne_eqb, Option, Some, None}
use Rattle.std.proofs.lemmas.Bool.{eqb-true}
use lib.Seq.{set-get_or}
use Rattle.slot_word.specs.Fields.{sequence_unit, sequence_in, row_in}
use Rattle.refl_types.specs.Same.{same_key}
use Rattle.session_key.specs.Matching.{matches}
use Rattle.session_world.specs.declared.steps.TableSize.{TableSize}
use Rattle.session_world.specs.declared.steps.Step.{Step}
use Rattle.session_world.specs.declared.steps.Step.TheVariants.{WriteKey, ReserveNew, Start, Look, LoadKey, Draw, LoadRow, Reconfigure, Close, Peek, Expire, Announce, Retire, ReserveUsed}
use Rattle.session_world.specs.Keys.{Query, Key, Extra, ConfigParts, has_key}
use Rattle.session_world.specs.Words.{slot_at, key_at, row_at, announced_at, word_index, word_after, HasRead, words_after}
use Rattle.session_world.specs.Desk.{is_split, key_of_slot, config_at}
use Rattle.session_world.specs.Answers.{Answer, opened, configured, counted, closed, expired, seen, drew, missed, late, with_configs, expire_gives}
use Rattle.session_world.specs.Allowed.{WorkerMay, IsAllowed}
use Rattle.session_world.specs.Runs.{CoreState, state_after, own_steps, run}
use Rattle.session_world.specs.History.{Session, Event, drawn, entry_after, map_after, IsLegalAt, IsBy, IsLegal}
use Rattle.session_world.specs.Explains.{Span, living_span, ended_spans, spans_of, answers_of_spans, with_wrapped_counts, answers_in, desk_count, desk_events_before, AllWithin, IsInSpans}
use Rattle.session_world.specs.Held.{all_steps}
use Rattle.session_world.specs.Refusals.{OnlyDrawsChange, ReuseIsScanned, TakesSlot, HeldIsNotTaken, LooksAreAnnounced, ExpiresAreExact, NoFalseMiss}
use Rattle.session_world.proofs.BoolFacts.{true_ne_false, bool, number_case, if_yes}
use Rattle.session_world.proofs.KeyFacts.{same_key_refl}
use Rattle.session_world.proofs.Holding.{Spares, spares}
use Rattle.session_world.proofs.Sound.{IsSound, run_sound}
use Rattle.session_world.proofs.HeldSlots.{held_guard}

-- ---- steps of workers

kept_or_drawn : (z : TableSize) (c : CoreState) (w i : ℕ) (s : Step) → IsSound z c → is_split c.desk (suc w) ≡ true → WorkerMay z (c.living_part (suc w)) s → HasRead s (get_or c.words (word_index z (suc w) s) 0) → i < z.slots
    → (get_or (words_after z c.words (suc w) s) (slot_at i) 0 ≡ get_or c.words (slot_at i) 0) ⊎ ((s ≡ Draw i (get_or c.words (slot_at i) 0)) × (get_or (words_after z c.words (suc w) s) (slot_at i) 0 ≡ (get_or c.words (slot_at i) 0 + sequence_unit) % 2 ^ 64))
kept_or_drawn z c w i (Announce slot) t split may has_read lt = inl (get_or-set_other c.words (announced_at z (suc w)) (slot_at i) (slot + 1) 0 (λ e. omega (arith, e, lt)))
kept_or_drawn z c w i Retire t split may has_read lt = inl (get_or-set_other c.words (announced_at z (suc w)) (slot_at i) 0 0 (λ e. omega (arith, e, lt)))
kept_or_drawn z c w i (Look slot query read) t split may has_read lt = inl (ap (λ (ws : List ℕ). get_or ws (slot_at i) 0) (set-get_or c.words (slot_at slot) 0))
kept_or_drawn z c w i (LoadKey slot index read) t split may has_read lt = inl (ap (λ (ws : List ℕ). get_or ws (slot_at i) 0) (set-get_or c.words (key_at slot index) 0))
kept_or_drawn z c w i (LoadRow row index read) t split may has_read lt = inl (ap (λ (ws : List ℕ). get_or ws (slot_at i) 0) (set-get_or c.words (row_at z row index) 0))
kept_or_drawn z c w i (Draw slot read) t split may has_read lt = let x : ℕ = word_after (Draw slot read) (get_or c.words (slot_at slot) 0) in number_case i slot
    (λ (e : i ≡ slot). let wide = t.words.wide in inr (
      λ n. Draw (sym e n) ((has_read ∙ ap (λ (j : ℕ). get_or c.words (slot_at j) 0) (sym e)) n),
      subst (λ (j : ℕ). get_or (words_after z c.words (suc w) (Draw slot read)) (slot_at j) 0 ≡ (get_or c.words (slot_at j) 0 + sequence_unit) % 2 ^ 64) (sym e) (get_or-set_same c.words (slot_at slot) x 0 (omega (arith, wide, lt, e))),
    ))
    (λ (n : i ≢ slot). inl (get_or-set_other c.words (slot_at slot) (slot_at i) x 0 (λ e. omega (arith, e, n))))
kept_or_drawn z c w i _ t split may has_read lt = absurd may

pub only_draws_change : OnlyDrawsChange
only_draws_change z m ms w i within r by lt = let c : CoreState = run z ms in
    subst (λ (a : ℕ). IsAllowed z a c.desk (own_steps c a) m.step → HasRead m.step (get_or c.words (word_index z a m.step) 0)
    → (get_or (state_after z c a m.step).words (slot_at i) 0 ≡ get_or c.words (slot_at i) 0) ⊎ ((m.step ≡ Draw i (get_or c.words (slot_at i) 0)) × (get_or (state_after z c a m.step).words (slot_at i) 0 ≡ (get_or c.words (slot_at i) 0 + sequence_unit) % 2 ^ 64)))
    (sym by) (λ may has_read. kept_or_drawn z c w i m.step (run_sound z ms within r.0) may.0 may.1 has_read lt) r.1 r.2

pub looks_are_announced : LooksAreAnnounced
looks_are_announced z ms w i q read within r = ((run_sound z ms within r.0).guards w r.1.0).word i r.1.1.1

-- ---- steps of the desk

pub reuse_is_scanned : ReuseIsScanned
reuse_is_scanned z ms i generation row w r lo hi = r.1.1.scanned w lo hi

spared_not_taken : (s : Step) (i : ℕ) → Spares s i → ¬ TakesSlot s i
unfolding Spares
spared_not_taken (WriteKey slot index word) i n = n
spared_not_taken (ReserveNew slot row) i n = n
spared_not_taken (ReserveUsed slot generation row) i n = n
spared_not_taken _ i n = λ e. e

pub held_is_not_taken : HeldIsNotTaken
held_is_not_taken z s ms w i within r h = let c : CoreState = run z ms in spared_not_taken s i (spares z c.words c.desk (suc w) (all_steps c (suc w)) i s (held_guard z ms w i within r.0 h) h r.1)

pub expires_are_exact : ExpiresAreExact
expires_are_exact ds (Expire slot expected read) k n row e = ⊎_elim
    (λ (x : (read == expected) ≡ true). (slot, expected, ap (λ (m : ℕ). Expire slot expected m) (eqb-true read expected x)))
    (λ (x : (read == expected) ≡ false). let f : counted (key_of_slot ds slot) (sequence_in read) (row_in read) ∷ [] ≡ expired k n row ∷ [] = ap (λ (b : Bool). expire_gives b (key_of_slot ds slot) read ∷ []) (sym x) ∙ e in absurd cc)
    (bool (read == expected))
expires_are_exact ds (Start slot read) k n row e = absurd cc
expires_are_exact ds (Reconfigure slot old new read) k n row e = absurd cc
expires_are_exact ds (Close slot read) k n row e = absurd cc
expires_are_exact ds (Peek slot read) k n row e = absurd cc
expires_are_exact ds _ k n row e = absurd cc

-- ---- a miss of a session that is bound

was_opened : (d : Answer ConfigParts) (k : Key) (x : Extra) (c : ConfigParts) → with_wrapped_counts d ≡ opened k x c → d ≡ opened k x c
was_opened (opened j y b) k x c e = e
was_opened (configured j b) k x c e = absurd cc
was_opened (counted j n b) k x c e = absurd cc
was_opened (closed j n) k x c e = absurd cc
was_opened (expired j n b) k x c e = absurd cc
was_opened (seen q j y b) k x c e = absurd cc
was_opened (drew j n b) k x c e = absurd cc
was_opened (missed q) k x c e = absurd cc
was_opened (late q) k x c e = absurd cc

was_missed : (d : Answer ConfigParts) (q : Query) → with_wrapped_counts d ≡ missed q → d ≡ missed q
was_missed (missed p) q e = e
was_missed (opened j y b) q e = absurd cc
was_missed (configured j b) q e = absurd cc
was_missed (counted j n b) q e = absurd cc
was_missed (closed j n) q e = absurd cc
was_missed (expired j n b) q e = absurd cc
was_missed (seen p j y b) q e = absurd cc
was_missed (drew j n b) q e = absurd cc
was_missed (late p) q e = absurd cc

abbrev IsBound : List (Event ConfigParts) → Key → Type 0
IsBound h k = (b : Session ConfigParts) × (map_after h k ≡ Some b)

-- no worker's event unbinds a key
stays_bound : (w : ℕ) (d : Answer ConfigParts) (k : Key) (o : Option (Session ConfigParts)) → ¬ (w ≡ 0) → IsBy w d → (b : Session ConfigParts) × (o ≡ Some b) → (b : Session ConfigParts) × (entry_after d k o ≡ Some b)
stays_bound w (opened j y c) k o n by h = absurd (n by)
stays_bound w (configured j c) k o n by h = absurd (n by)
stays_bound w (counted j m c) k o n by h = absurd (n by)
stays_bound w (closed j m) k o n by h = absurd (n by)
stays_bound w (expired j m c) k o n by h = absurd (n by)
stays_bound w (seen q j y c) k o n by h = h
stays_bound w (missed q) k o n by h = h
stays_bound w (late q) k o n by h = h
stays_bound w (drew j m c) k o n by h = at (same_key j k) where
  at : (y : Bool) → (b : Session ConfigParts) × ((if y then drawn o else o) ≡ Some b)
  at true = (record h.0 { count = suc h.0.count }, ap drawn h.1)
  at false = h

opened_binds : (d : Answer ConfigParts) (k : Key) (x : Extra) (c : ConfigParts) (o : Option (Session ConfigParts)) → d ≡ opened k x c → (b : Session ConfigParts) × (entry_after d k o ≡ Some b)
opened_binds d k x c o e = subst (λ (a : Answer ConfigParts). (b : Session ConfigParts) × (entry_after a k o ≡ Some b)) (sym e) (record { extra = x; config = c; count = 0 }, if_yes (same_key k k) (Some (record { extra = x; config = c; count = 0 })) o (same_key_refl k))

abbrev desk_case : Event ConfigParts → List (Event ConfigParts) → Bool → List (Answer ConfigParts)
desk_case e h b = if b then with_wrapped_counts e.answer ∷ answers_in 0 h else answers_in 0 h

-- where the desk's one event is the opening, the key is bound
one_opening : (h : List (Event ConfigParts)) (k : Key) (x : Extra) (c : ConfigParts) → IsLegal has_key h → answers_in 0 h ≡ opened k x c ∷ [] → IsBound h k
one_opening [] k x c legal e = absurd cc
one_opening (y ∷ h) k x c legal e = number_case 0 y.by
    (λ (z : 0 ≡ y.by). let f : with_wrapped_counts y.answer ∷ answers_in 0 h ≡ opened k x c ∷ [] = ap (desk_case y h) (sym (eq-eqb 0 y.by z)) ∙ e in let g : with_wrapped_counts y.answer ≡ opened k x c = cc in
    opened_binds y.answer k x c (map_after h k) (was_opened y.answer k x c g))
    (λ (z : 0 ≢ y.by). let f : answers_in 0 h ≡ opened k x c ∷ [] = ap (desk_case y h) (sym (ne_eqb 0 y.by z)) ∙ e in
    stays_bound y.by y.answer k (map_after h k) (λ v. z (sym v)) legal.2 (one_opening h k x c legal.0 f))

-- the latest event of w stands after n events of the desk or more
abbrev IsAfter : ℕ → List ℕ → Type 0
IsAfter n [] = Unit {0}
IsAfter n (m ∷ ms) = n ≤ m

head_within : (f : ℕ) (ns : List ℕ) → AllWithin f None (take 1 ns) → IsAfter f ns
head_within f [] a = tt
head_within f (n ∷ ns) a = a.0

after_case : (b : Bool) (n m : ℕ) (ns : List ℕ) → IsAfter n (if b then m ∷ ns else ns) → b ≡ false → IsAfter n ns
after_case true n m ns a e = absurd (true_ne_false e)
after_case false n m ns a e = a

count_length : (h : List (Event ConfigParts)) → answers_in 0 h ≡ [] → desk_count h ≡ 0
count_length [] e = refl
count_length (y ∷ h) e = number_case 0 y.by
    (λ (z : 0 ≡ y.by). let f : with_wrapped_counts y.answer ∷ answers_in 0 h ≡ [] = ap (desk_case y h) (sym (eq-eqb 0 y.by z)) ∙ e in absurd cc)
    (λ (z : 0 ≢ y.by). rw (ne_eqb 0 y.by z) (count_length h (ap (desk_case y h) (sym (ne_eqb 0 y.by z)) ∙ e)))

abbrev own_case : Event ConfigParts → List (Event ConfigParts) → ℕ → Bool → List (Answer ConfigParts)
own_case e h w b = if b then with_wrapped_counts e.answer ∷ answers_in w h else answers_in w h

-- without an event of the desk, no event stands after one
none_after : (h : List (Event ConfigParts)) (w : ℕ) (d : Answer ConfigParts) (rest : List (Answer ConfigParts)) → answers_in 0 h ≡ [] → answers_in w h ≡ d ∷ rest → IsAfter 1 (desk_events_before w h) → ⊥
none_after [] w d rest none e a = absurd cc
none_after (y ∷ h) w d rest none e a =
    let before : answers_in 0 h ≡ [] = number_case 0 y.by
    (λ (z : 0 ≡ y.by). let f : with_wrapped_counts y.answer ∷ answers_in 0 h ≡ [] = ap (desk_case y h) (sym (eq-eqb 0 y.by z)) ∙ none in absurd cc)
    (λ (z : 0 ≢ y.by). ap (desk_case y h) (sym (ne_eqb 0 y.by z)) ∙ none) in
    number_case w y.by
    (λ (z : w ≡ y.by). let f : 1 ≤ desk_count h = subst (λ (b : Bool). IsAfter 1 (if b then desk_count h ∷ desk_events_before w h else desk_events_before w h)) (eq-eqb w y.by z) a in let g = count_length h before in omega (arith, f, g))
    (λ (z : w ≢ y.by). none_after h w d rest before (ap (own_case y h w) (sym (ne_eqb w y.by z)) ∙ e) (after_case (w == y.by) 1 (desk_count h) (desk_events_before w h) a (ne_eqb w y.by z)))

no_miss : (h : List (Event ConfigParts)) (w : ℕ) (q : Query) (k : Key) (x : Extra) (c : ConfigParts) (rest : List (Answer ConfigParts)) → IsLegal has_key h → matches q k ≡ true → answers_in 0 h ≡ opened k x c ∷ [] → answers_in (suc w) h ≡ missed q ∷ rest → IsAfter 1 (desk_events_before (suc w) h) → ⊥
no_miss [] w q k x c rest legal m desk mine a = absurd cc
no_miss (y ∷ h) w q k x c rest legal m desk mine a = number_case (suc w) y.by
    (λ (z : suc w ≡ y.by).
    let f : with_wrapped_counts y.answer ∷ answers_in (suc w) h ≡ missed q ∷ rest = ap (own_case y h (suc w)) (sym (eq-eqb (suc w) y.by z)) ∙ mine in
    let g : with_wrapped_counts y.answer ≡ missed q = cc in
    let other : 0 ≢ y.by = λ v. omega (arith, v, z) in
    let bound = one_opening h k x c legal.0 (ap (desk_case y h) (sym (ne_eqb 0 y.by other)) ∙ desk) in
    let free : (j : Key) (b : Session ConfigParts) → map_after h j ≡ Some b → matches q j ≡ false = subst (λ (d : Answer ConfigParts). IsLegalAt has_key (map_after h) d) (was_missed y.answer q g) legal.1 in
    true_ne_false (sym m ∙ free k bound.0 bound.1))
    (λ (z : suc w ≢ y.by).
    let mine' : answers_in (suc w) h ≡ missed q ∷ rest = ap (own_case y h (suc w)) (sym (ne_eqb (suc w) y.by z)) ∙ mine in
    let a' = after_case (suc w == y.by) 1 (desk_count h) (desk_events_before (suc w) h) a (ne_eqb (suc w) y.by z) in number_case 0 y.by
    (λ (v : 0 ≡ y.by). let f : with_wrapped_counts y.answer ∷ answers_in 0 h ≡ opened k x c ∷ [] = ap (desk_case y h) (sym (eq-eqb 0 y.by v)) ∙ desk in let g : answers_in 0 h ≡ [] = cc in
    none_after h (suc w) (missed q) rest g mine' a')
    (λ (v : 0 ≢ y.by). no_miss h w q k x c rest legal.0 m (ap (desk_case y h) (sym (ne_eqb 0 y.by v)) ∙ desk) mine' a'))

pub no_false_miss : NoFalseMiss
no_false_miss z ms w row q k x desk split from mine m h explains =
    let s : CoreState = run z ms in let f : ℕ → ConfigParts = config_at s.desk in let older : List Span = ended_spans z.slots s.ended_parts (suc w) in
    let living : Span = living_span z.slots s.desk (s.living_part (suc w)) (suc w) in
    let spans : spans_of z s (suc w) ≡ living ∷ older = if_yes (is_split s.desk (suc w)) (living ∷ older) older split in
    let mine_too : answers_in (suc w) h ≡ missed q ∷ map (with_configs f) (answers_of_spans older) = explains.own (suc w) ∙ (ap (λ (ss : List Span). map (with_configs f) (answers_of_spans ss)) spans ∙ ap (λ (ys : List (Answer ℕ)). map (with_configs f) (ys ++ answers_of_spans older)) mine) in
    let order : IsInSpans (living ∷ older) (desk_events_before (suc w) h) = subst (λ (ss : List Span). IsInSpans ss (desk_events_before (suc w) h)) spans (explains.order w) in
    let first : AllWithin 1 None (take 1 (desk_events_before (suc w) h)) = subst (λ (y : ℕ × List (Answer ℕ)). AllWithin y.0 None (take (length y.1) (desk_events_before (suc w) h))) (λ i. (from i, mine i)) order.0 in
    no_miss h w q k x (f row) (map (with_configs f) (answers_of_spans older)) explains.legal m (explains.own 0 ∙ ap (map (with_configs f)) desk) mine_too (head_within 1 (desk_events_before (suc w) h) first)
