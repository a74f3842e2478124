-- One history for the desk and all joined workers.
use Rattle.std.proofs.Common.{◌≡◌, ⊎_elim, ℕ, zero, suc, ◌+◌, ◌<◌, ◌≤◌, ◌==◌, Bool, true, false, if◌then◌else◌, List, [], ◌∷◌, ◌++◌, length, map, Some, sym, refl, ap, ◌∙◌, subst, arith, append_assoc}
use Rattle.std.proofs.Math.Nat.{eq-or-lt_of_le}
use Rattle.std.proofs.lemmas.Bool.{cases_lt}
use Rattle.std.proofs.lemmas.List.{length-map, map-append, append-nil}
use Rattle.session_world.specs.declared.steps.TableSize.{TableSize}
use Rattle.session_world.specs.declared.steps.Step.{Step}
use Rattle.session_world.specs.declared.steps.Part.{Part}
use Rattle.session_world.specs.Sizes.{IsWithinLimits}
use Rattle.session_world.specs.Keys.{ConfigParts}
use Rattle.session_world.specs.Desk.{is_split, config_at}
use Rattle.session_world.specs.Answers.{Answer, opened, configured, counted, closed, expired, seen, drew, missed, late, with_configs, desk_gives, desk_answers, worker_answers}
use Rattle.session_world.specs.Loads.{PartWords, AllPartWords}
use Rattle.session_world.specs.Runs.{CoreState, own_parts, ScheduledStep, run, Runs}
use Rattle.session_world.specs.History.{Event}
use Rattle.session_world.specs.Explains.{Span, ended_span, ended_spans, living_span, spans_of, answers_of_spans, answers_in, desk_events_before, IsInSpans, Explains}
use Rattle.session_world.specs.OneOrder.{events_by}
use Rattle.session_world.specs.Joined.{IsEnded, AllEnded, IsOpening, AreOpenings, HasJoinedAll, AllTold, OneHistory, JoinedHistory}
use Rattle.session_world.proofs.ReadWords.{loaded_words}
use Rattle.session_world.proofs.Rows.{part_reads_rows}
use Rattle.session_world.proofs.Configs.{explained}
use Rattle.session_world.proofs.FirstEvents.{AllFrom, AreLate, desk_events, before_is, starts_with, within_late}

-- ---- the spans of a worker that has ended

pick : (c : Bool) (slots : ℕ) (p : Part) (ps : List Part) (ss : List Span) → ss ≡ map (ended_span slots) ps
    → (if c then ended_span slots p ∷ ss else ss) ≡ map (ended_span slots) (if c then p ∷ ps else ps)
pick true slots p ps ss e = ap (λ (t : List Span). ended_span slots p ∷ t) e
pick false slots p ps ss e = e

spans_are : (slots : ℕ) (ps : List Part) (w : ℕ) → ended_spans slots ps w ≡ map (ended_span slots) (own_parts ps w)
spans_are slots [] w = refl
spans_are slots (p ∷ ps) w = pick (w == p.worker) slots p (own_parts ps w) (ended_spans slots ps w) (spans_are slots ps w)

-- whoever isn't split off has the spans of its ended parts alone
spans : (z : TableSize) (c : CoreState) (w : ℕ) (own : List Part) → is_split c.desk w ≡ false → own_parts c.ended_parts w ≡ own → spans_of z c w ≡ map (ended_span z.slots) own
spans z c w own e f =
    let g : Bool → List Span = (λ (b : Bool). if b then living_span z.slots c.desk (c.living_part w) w ∷ ended_spans z.slots c.ended_parts w else ended_spans z.slots c.ended_parts w) in
    ap g e ∙ spans_are z.slots c.ended_parts w ∙ ap (map (ended_span z.slots)) f

picked_words : (c : Bool) (z : TableSize) (ds : List Step) (p : Part) (ps : List Part) → PartWords z ds p.steps → AllPartWords z ds ps → AllPartWords z ds (if c then p ∷ ps else ps)
picked_words true z ds p ps a b = (a, b)
picked_words false z ds p ps a b = b

own_words : (z : TableSize) (ds : List Step) (ps : List Part) (w : ℕ) → AllPartWords z ds ps → AllPartWords z ds (own_parts ps w)
own_words z ds [] w a = tt
own_words z ds (p ∷ ps) w a = picked_words (w == p.worker) z ds p (own_parts ps w) a.0 (own_words z ds ps w a.1)

-- ---- each worker's events

none_late : (n : ℕ) (ns : List ℕ) → length ns ≡ 0 → AllFrom n ns
none_late n [] e = tt
none_late n (m ∷ ns) e = absurd (omega (arith, e))

-- without a part there is no event
no_events : (z : TableSize) (schedule : List ScheduledStep) (h : List (Event ConfigParts)) (w : ℕ) → Explains z schedule h
    → is_split (run z schedule).desk (suc w) ≡ false → own_parts (run z schedule).ended_parts (suc w) ≡ [] → answers_in (suc w) h ≡ []
no_events z schedule h w e out none = let c = run z schedule in
    e.own (suc w) ∙ ap (λ (ss : List Span). map (with_configs (config_at c.desk)) (answers_of_spans ss)) (spans z c (suc w) [] out none)

-- with one part, its answers
its_events : (z : TableSize) (schedule : List ScheduledStep) (h : List (Event ConfigParts)) (w : ℕ) (p : Part) → Explains z schedule h
    → is_split (run z schedule).desk (suc w) ≡ false → own_parts (run z schedule).ended_parts (suc w) ≡ p ∷ []
    → answers_in (suc w) h ≡ map (with_configs (config_at (run z schedule).desk)) (worker_answers z.slots p.steps)
its_events z schedule h w p e out own = let c = run z schedule in
    e.own (suc w) ∙ ap (λ (ss : List Span). map (with_configs (config_at c.desk)) (answers_of_spans ss)) (spans z c (suc w) (p ∷ []) out own)
    ∙ ap (map (with_configs (config_at c.desk))) (append-nil (worker_answers z.slots p.steps))

-- and they come after the desk's answers before its split
late_events : (z : TableSize) (schedule : List ScheduledStep) (h : List (Event ConfigParts)) (w n : ℕ) (p : Part) → Explains z schedule h
    → is_split (run z schedule).desk (suc w) ≡ false → own_parts (run z schedule).ended_parts (suc w) ≡ p ∷ [] → n ≤ p.from
    → AllFrom n (desk_events_before (suc w) h)
late_events z schedule h w n p e out own from = let c = run z schedule in
    let o : IsInSpans (ended_span z.slots p ∷ []) (desk_events_before (suc w) h) = subst (λ (ss : List Span). IsInSpans ss (desk_events_before (suc w) h)) (spans z c (suc w) (p ∷ []) out own) (e.order w) in
    within_late n p.from (length (worker_answers z.slots p.steps)) (Some p.to) (desk_events_before (suc w) h) from
    (before_is (suc w) h ∙ ap length (its_events z schedule h w p e out own) ∙ length-map (worker_answers z.slots p.steps) (with_configs (config_at c.desk)))
    o.0

-- the worker v is among those from w on
ended_at : (ps : List Part) (n w v : ℕ) (lists : List (List Step)) → AllEnded ps n w lists → w ≤ v → v < w + length lists → (xs : List Step) × IsEnded ps n v xs
ended_at ps n w v [] a le lt = absurd (omega (arith, le, lt))
ended_at ps n w v (xs ∷ lists) a le lt = ⊎_elim
    (λ (e : w ≡ v). (xs, subst (λ (u : ℕ). IsEnded ps n u xs) e a.0))
    (λ (e : w < v). ended_at ps n (suc w) v lists a.1 (omega (arith, e)) (omega (arith, lt)))
    (eq-or-lt_of_le le)

abbrev HasPart : List Part → ℕ → ℕ → Type 0
HasPart ps n v = (p : Part) × (own_parts ps v ≡ p ∷ []) × (n ≤ p.from)

part_at : (ps : List Part) (n w v : ℕ) (lists : List (List Step)) → AllEnded ps n w lists → w ≤ v → v < w + length lists → HasPart ps n v
part_at ps n w v lists a le lt = let x = ended_at ps n w v lists a le lt in (x.1.0, x.1.1, x.1.3)

all_late : (z : TableSize) (schedule : List ScheduledStep) (h : List (Event ConfigParts)) (n : ℕ) (lists : List (List Step)) → Explains z schedule h
    → ((w : ℕ) → is_split (run z schedule).desk w ≡ false) → AllEnded (run z schedule).ended_parts n 1 lists
    → ((w : ℕ) → length lists < w → own_parts (run z schedule).ended_parts w ≡ []) → AreLate n h
all_late z schedule h n lists e out ended others w = ⊎_elim
    (λ (in_lists : w < length lists). let x = part_at (run z schedule).ended_parts n 1 (suc w) lists ended (omega arith) (omega (arith, in_lists)) in
    late_events z schedule h w n x.0 e (out (suc w)) x.1 x.2)
    (λ (beyond : length lists ≤ w). none_late n (desk_events_before (suc w) h) (before_is (suc w) h ∙ ap length (no_events z schedule h w e (out (suc w)) (others (suc w) (omega (arith, beyond))))))
    (cases_lt w (length lists))

told : (z : TableSize) (schedule : List ScheduledStep) (h : List (Event ConfigParts)) (n w : ℕ) (lists : List (List Step)) → Explains z schedule h
    → ((v : ℕ) → is_split (run z schedule).desk v ≡ false) → AllPartWords z (run z schedule).desk (run z schedule).ended_parts
    → AllEnded (run z schedule).ended_parts n (suc w) lists → AllTold z (run z schedule).desk h (suc w) lists
told z schedule h n w [] e out words a = tt
told z schedule h n w (xs ∷ lists) e out words a =
    let ds = (run z schedule).desk in let p = a.0.0 in let own = a.0.1 in let steps = a.0.2 in
    let its = (subst (AllPartWords z ds) own (own_words z ds (run z schedule).ended_parts (suc w) words)).0 in (
      its_events z schedule h w p e (out (suc w)) own ∙ ap (λ (ys : List Step). map (with_configs (config_at ds)) (worker_answers z.slots ys)) steps,
      part_reads_rows z ds xs (subst (PartWords z ds) steps its),
      told z schedule h n (suc w) lists e out words a.1,
    )

-- ---- the desk's first answers

answers_grow : (more first : List Step) → (gs : List (Answer ℕ)) × (desk_answers (more ++ first) ≡ gs ++ desk_answers first)
answers_grow [] first = ([], refl)
answers_grow (s ∷ more) first = let x = answers_grow more first in
    (desk_gives (more ++ first) s ++ x.0, ap (λ (t : List (Answer ℕ)). desk_gives (more ++ first) s ++ t) x.1 ∙ sym (append_assoc (desk_gives (more ++ first) s) x.0 (desk_answers first)))

opening_stays : {C D : Type 0} (f : C → D) (d : Answer C) → IsOpening d → IsOpening (with_configs f d)
opening_stays f (opened k x c) is = tt
opening_stays f (configured k c) is = absurd is
opening_stays f (counted k n c) is = absurd is
opening_stays f (closed k n) is = absurd is
opening_stays f (expired k n c) is = absurd is
opening_stays f (seen q k x c) is = absurd is
opening_stays f (drew k n c) is = absurd is
opening_stays f (missed q) is = absurd is
opening_stays f (late q) is = absurd is

openings_stay : {C D : Type 0} (f : C → D) (xs : List (Answer C)) → AreOpenings xs → AreOpenings (map (with_configs f) xs)
openings_stay f [] are = tt
openings_stay f (d ∷ xs) are = (opening_stays f d are.0, openings_stay f xs are.1)

events_are : (f : ℕ → ConfigParts) (xs : List (Answer ℕ)) → desk_events (map (with_configs f) xs) ≡ events_by 0 f xs
events_are f [] = refl
events_are f (d ∷ xs) = ap (λ (t : List (Event ConfigParts)). record { by = 0; answer = with_configs f d } ∷ t) (events_are f xs)

-- ---- together

beyond : (z : TableSize) (schedule : List ScheduledStep) (h : List (Event ConfigParts)) (lists : List (List Step)) → Explains z schedule h
    → ((v : ℕ) → is_split (run z schedule).desk v ≡ false) → ((v : ℕ) → length lists < v → own_parts (run z schedule).ended_parts v ≡ [])
    → (w : ℕ) → length lists < w → answers_in w h ≡ []
beyond z schedule h lists e out others zero lt = absurd (omega (arith, lt))
beyond z schedule h lists e out others (suc w) lt = no_events z schedule h w e (out (suc w)) (others (suc w) lt)

-- over the state's own lists
one : (z : TableSize) (first : List Step) (schedule : List ScheduledStep) (lists : List (List Step)) → IsWithinLimits z → Runs z schedule
    → HasJoinedAll z first (run z schedule).desk (run z schedule).ended_parts lists → OneHistory z first (run z schedule).desk (run z schedule).ended_parts lists
one z first schedule lists within runs j =
    let c = run z schedule in
    let x = explained z schedule within runs in
    let h = x.0 in let e = x.1 in
    let n : ℕ = length (desk_answers first) in
    let late = all_late z schedule h n lists e j.nobody j.ended j.others in
    let grown = answers_grow j.more first in
    let desk = e.own 0 in
    let f = map (with_configs (config_at c.desk)) in
    let os : List (Answer ConfigParts) = f (desk_answers first) in
    let split : answers_in 0 h ≡ f grown.0 ++ os =
    desk ∙ ap (λ (t : List Step). f (desk_answers t)) j.grew ∙ ap f grown.1 ∙ map-append (with_configs (config_at c.desk)) grown.0 (desk_answers first) in
    let b = starts_with n h os (openings_stay (config_at c.desk) (desk_answers first) j.openings) late (length-map (desk_answers first) (with_configs (config_at c.desk))) (f grown.0) split in
    record {
      schedule = schedule;
      runs = runs;
      desk = refl;
      parts = refl;
      nobody = j.nobody;
      ended = j.ended;
      history = h;
      explains = e;
      later = b.0;
      begins = b.1 ∙ ap (λ (t : List (Event ConfigParts)). b.0 ++ t) (events_are (config_at c.desk) (desk_answers first));
      desk_events = desk;
      workers = told z schedule h n 0 lists e j.nobody (loaded_words z schedule within runs).parts j.ended;
      others = beyond z schedule h lists e j.nobody j.others;
    }

moved : (z : TableSize) (first : List Step) (lists : List (List Step)) → IsWithinLimits z → (schedule : List ScheduledStep) → Runs z schedule
    → (ds : List Step) (ps : List Part) → (run z schedule).desk ≡ ds → (run z schedule).ended_parts ≡ ps → HasJoinedAll z first ds ps lists → OneHistory z first ds ps lists
moved z first lists within schedule runs ds ps e f =
    subst (λ (xs : List Step). HasJoinedAll z first xs ps lists → OneHistory z first xs ps lists) e
    (subst (λ (qs : List Part). HasJoinedAll z first (run z schedule).desk qs lists → OneHistory z first (run z schedule).desk qs lists) f
    (one z first schedule lists within runs))

pub joined_history : JoinedHistory
joined_history z first ds ps lists within j =
    let s = j.schedule in
    moved z first lists within s.0 s.1 ds ps s.2 s.3 j
