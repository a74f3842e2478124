-- Each row stands for its configuration: what a history over rows explains, one over configurations does.
use Rattle.std.proofs.Common.{◌≡◌, ℕ, suc, ◌==◌, Bool, true, false, ◌||◌, if◌then◌else◌, List, [], ◌∷◌, map, sym, refl, ap, ◌∙◌, subst, eq-eqb, ne_eqb, Option, Some, None}
use Rattle.refl_types.specs.Same.{same_key}
use Rattle.session_world.specs.declared.steps.TableSize.{TableSize}
use Rattle.session_world.specs.declared.steps.Step.{Step}
use Rattle.session_world.specs.declared.steps.Step.TheVariants.{Start, Reconfigure, Close, Peek, Expire}
use Rattle.session_world.specs.Keys.{Key, ConfigParts, is_auth, has_key}
use Rattle.session_world.specs.Desk.{row_of, key_of_slot, config_at, IsComplete}
use Rattle.session_world.specs.Answers.{Answer, opened, configured, counted, closed, expired, seen, drew, missed, late, with_configs, expire_gives, desk_answers}
use Rattle.session_world.specs.Allowed.{DeskDid, DeskMay}
use Rattle.session_world.specs.Runs.{run}
use Rattle.session_world.specs.History.{Session, SessionMap, Event, reconfigured, drawn, entry_after, map_after, IsLegalAt, IsBy, IsLegal}
use Rattle.session_world.specs.Explains.{spans_of, with_wrapped_counts, answers_in, desk_count, desk_events_before, IsInSpans, opens, last_of, opened_since, KeepsSession, NoOpenBetween, Explained}
use Rattle.session_world.proofs.BoolFacts.{some_none, number_case}
use Rattle.session_world.proofs.DeskFacts.{reserved_used, row_complete, still_complete, config_kept}
use Rattle.session_world.proofs.Sound.{run_sound}
use Rattle.session_world.proofs.Histories.{any_row, RowMap}
use Rattle.session_world.proofs.Schedules.{run_tied}

-- ---- in mode Auth, the configurations that the desk gave have an HMAC key

IsKeyed : List Step → Answer ℕ → Type 0
IsKeyed ds (opened k x r) = IsComplete ds r × (is_auth k ≡ true → has_key (config_at ds r) ≡ true)
IsKeyed ds (configured k r) = IsComplete ds r × (is_auth k ≡ true → has_key (config_at ds r) ≡ true)
IsKeyed ds _ = Unit {0}

AreKeyed : List Step → List (Answer ℕ) → Type 0
AreKeyed ds [] = Unit {0}
AreKeyed ds (d ∷ xs) = IsKeyed ds d × AreKeyed ds xs

still_keyed : (z : TableSize) (ds : List Step) (s : Step) → DeskMay z ds s → (d : Answer ℕ) → IsKeyed ds d → IsKeyed (s ∷ ds) d
unfolding IsKeyed
still_keyed z ds s may (opened k x r) h = (still_complete ds s r h.0, λ a. ap has_key (config_kept z ds s may r h.0) ∙ h.1 a)
still_keyed z ds s may (configured k r) h = (still_complete ds s r h.0, λ a. ap has_key (config_kept z ds s may r h.0) ∙ h.1 a)
still_keyed z ds s may (counted k n r) h = tt
still_keyed z ds s may (closed k n) h = tt
still_keyed z ds s may (expired k n r) h = tt
still_keyed z ds s may (seen q k x r) h = tt
still_keyed z ds s may (drew k n r) h = tt
still_keyed z ds s may (missed q) h = tt
still_keyed z ds s may (late q) h = tt

all_still : (z : TableSize) (ds : List Step) (s : Step) → DeskMay z ds s → (xs : List (Answer ℕ)) → AreKeyed ds xs → AreKeyed (s ∷ ds) xs
unfolding AreKeyed
all_still z ds s may [] h = tt
all_still z ds s may (d ∷ xs) h = (still_keyed z ds s may d h.0, all_still z ds s may xs h.1)

expired_keyed : (ds : List Step) (b : Bool) (k : Key) (n : ℕ) → IsKeyed ds (expire_gives b k n)
unfolding IsKeyed
expired_keyed ds true k n = tt
expired_keyed ds false k n = tt

desk_keyed : (z : TableSize) (ds : List Step) → DeskDid z ds → AreKeyed ds (desk_answers ds)
unfolding IsKeyed AreKeyed
desk_keyed z [] did = tt
desk_keyed z (Start slot read ∷ ds) did = let r : ℕ = row_of ds slot in let s : Step = Start slot read in let c = row_complete z ds did.0 slot (reserved_used z ds did.0 slot did.1.1) in
    ((still_complete ds s r c, λ a. ap has_key (config_kept z ds s did.1 r c) ∙ did.1.3 a), all_still z ds s did.1 (desk_answers ds) (desk_keyed z ds did.0))
desk_keyed z (Reconfigure slot old new read ∷ ds) did = let s : Step = Reconfigure slot old new read in
    ((still_complete ds s new did.1.2, λ a. ap has_key (config_kept z ds s did.1 new did.1.2) ∙ did.1.3 a), all_still z ds s did.1 (desk_answers ds) (desk_keyed z ds did.0))
desk_keyed z (Close slot read ∷ ds) did = (tt, all_still z ds (Close slot read) did.1 (desk_answers ds) (desk_keyed z ds did.0))
desk_keyed z (Peek slot read ∷ ds) did = (tt, all_still z ds (Peek slot read) did.1 (desk_answers ds) (desk_keyed z ds did.0))
desk_keyed z (Expire slot expected read ∷ ds) did = (expired_keyed (Expire slot expected read ∷ ds) (read == expected) (key_of_slot ds slot) read, all_still z ds (Expire slot expected read) did.1 (desk_answers ds) (desk_keyed z ds did.0))
desk_keyed z (s ∷ ds) did = all_still z ds s did.1 (desk_answers ds) (desk_keyed z ds did.0)

-- ---- an answer, a session, a history with configurations

module _ (f : ℕ → ConfigParts) where
  abbrev named : Event ℕ → Event ConfigParts
  named e = record { by = e.by; answer = with_configs f e.answer }

  abbrev pub named_all : List (Event ℕ) → List (Event ConfigParts)
  named_all [] = []
  named_all (e ∷ h) = named e ∷ named_all h

  abbrev session_with : Session ℕ → Session ConfigParts
  session_with b = record { extra = b.extra; config = f b.config; count = b.count }

  abbrev entry_with : Option (Session ℕ) → Option (Session ConfigParts)
  entry_with None = None
  entry_with (Some b) = Some (session_with b)

  entry_was : (o : Option (Session ℕ)) (b : Session ConfigParts) → entry_with o ≡ Some b → (a : Session ℕ) × (o ≡ Some a)
  entry_was None b e = absurd (some_none b e)
  entry_was (Some a) b e = (a, refl)

  entry_named : (d : Answer ℕ) (k : Key) (o : Option (Session ℕ)) → entry_after (with_configs f d) k (entry_with o) ≡ entry_with (entry_after d k o)
  entry_named (opened j x r) k o = at (same_key j k) where
    at : (b : Bool) → (if b then Some (record { extra = x; config = f r; count = 0 }) else entry_with o) ≡ entry_with (if b then Some (record { extra = x; config = r; count = 0 }) else o)
    at true = refl
    at false = refl
  entry_named (configured j r) k o = at (same_key j k) o where
    at : (b : Bool) (p : Option (Session ℕ)) → (if b then reconfigured (f r) (entry_with p) else entry_with p) ≡ entry_with (if b then reconfigured r p else p)
    at true None = refl
    at true (Some a) = refl
    at false p = refl
  entry_named (counted j n r) k o = refl
  entry_named (closed j n) k o = at (same_key j k) where
    at : (b : Bool) → (if b then None else entry_with o) ≡ entry_with (if b then None else o)
    at true = refl
    at false = refl
  entry_named (expired j n r) k o = at (same_key j k) where
    at : (b : Bool) → (if b then None else entry_with o) ≡ entry_with (if b then None else o)
    at true = refl
    at false = refl
  entry_named (seen q j x r) k o = refl
  entry_named (drew j n r) k o = at (same_key j k) o where
    at : (b : Bool) (p : Option (Session ℕ)) → (if b then drawn (entry_with p) else entry_with p) ≡ entry_with (if b then drawn p else p)
    at true None = refl
    at true (Some a) = refl
    at false p = refl
  entry_named (missed q) k o = refl
  entry_named (late q) k o = refl

  map_named : (h : List (Event ℕ)) (k : Key) → map_after (named_all h) k ≡ entry_with (map_after h k)
  map_named [] k = refl
  map_named (e ∷ h) k = ap (entry_after (with_configs f e.answer) k) (map_named h k) ∙ entry_named e.answer k (map_after h k)

  -- what an event has beside: the keyed configurations of openings
  Keyed : Answer ℕ → Type 0
  Keyed (opened k x r) = is_auth k ≡ true → has_key (f r) ≡ true
  Keyed (configured k r) = is_auth k ≡ true → has_key (f r) ≡ true
  Keyed _ = Unit {0}

  has_named : (t : RowMap) (u : SessionMap ConfigParts) (k : Key) → u k ≡ entry_with (t k) → (a : Session ℕ) → t k ≡ Some a → u k ≡ Some (session_with a)
  has_named t u k e a at = e ∙ ap entry_with at

  legal_named : (t : RowMap) (u : SessionMap ConfigParts) → ((k : Key) → u k ≡ entry_with (t k)) → (d : Answer ℕ) → Keyed d → IsLegalAt any_row t d → IsLegalAt has_key u (with_configs f d)
  unfolding Keyed
  legal_named t u e (opened k x r) keyed h = (h.0, (λ j b at. let a = entry_was (t j) b (sym (e j) ∙ at) in h.1 j a.0 a.1), keyed)
  legal_named t u e (configured k r) keyed h = ((session_with h.0.0, has_named t u k (e k) h.0.0 h.0.1, tt), keyed)
  legal_named t u e (counted k n r) keyed h = (session_with h.0, has_named t u k (e k) h.0 h.1, (h.2.0, ap f h.2.1))
  legal_named t u e (closed k n) keyed h = (session_with h.0, has_named t u k (e k) h.0 h.1, h.2)
  legal_named t u e (expired k n r) keyed h = (session_with h.0, has_named t u k (e k) h.0 h.1, (h.2.0, ap f h.2.1))
  legal_named t u e (seen q k x r) keyed h = ((session_with h.0.0, has_named t u k (e k) h.0.0 h.0.1, (h.0.2.0, ap f h.0.2.1)), h.1)
  legal_named t u e (drew k n r) keyed h = (session_with h.0, has_named t u k (e k) h.0 h.1, (h.2.0, ap f h.2.1))
  legal_named t u e (missed q) keyed h = λ k b at. let a = entry_was (t k) b (sym (e k) ∙ at) in h k a.0 a.1
  legal_named t u e (late q) keyed h = λ k b at. let a = entry_was (t k) b (sym (e k) ∙ at) in h k a.0 a.1

  by_named : (w : ℕ) (d : Answer ℕ) → IsBy w d → IsBy w (with_configs f d)
  by_named w (opened k x r) h = h
  by_named w (configured k r) h = h
  by_named w (counted k n r) h = h
  by_named w (closed k n) h = h
  by_named w (expired k n r) h = h
  by_named w (seen q k x r) h = h
  by_named w (drew k n r) h = h
  by_named w (missed q) h = h
  by_named w (late q) h = h

  EventsKeyed : List (Event ℕ) → Type 0
  EventsKeyed [] = Unit {0}
  EventsKeyed (e ∷ h) = Keyed e.answer × EventsKeyed h

  all_legal : (h : List (Event ℕ)) → EventsKeyed h → IsLegal any_row h → IsLegal has_key (named_all h)
  unfolding EventsKeyed
  all_legal [] keyed legal = tt
  all_legal (e ∷ h) keyed legal = (all_legal h keyed.1 legal.0, legal_named (map_after h) (map_after (named_all h)) (map_named h) e.answer keyed.0 legal.1, by_named e.by e.answer legal.2)

  wrapped_named : (d : Answer ℕ) → with_wrapped_counts (with_configs f d) ≡ with_configs f (with_wrapped_counts d)
  wrapped_named (opened k x r) = refl
  wrapped_named (configured k r) = refl
  wrapped_named (counted k n r) = refl
  wrapped_named (closed k n) = refl
  wrapped_named (expired k n r) = refl
  wrapped_named (seen q k x r) = refl
  wrapped_named (drew k n r) = refl
  wrapped_named (missed q) = refl
  wrapped_named (late q) = refl

  pub answers_named : (a : ℕ) (h : List (Event ℕ)) → answers_in a (named_all h) ≡ map (with_configs f) (answers_in a h)
  answers_named a [] = refl
  answers_named a (e ∷ h) = at (a == e.by) (answers_named a h) where
    at : (b : Bool) → answers_in a (named_all h) ≡ map (with_configs f) (answers_in a h) → (if b then with_wrapped_counts (with_configs f e.answer) ∷ answers_in a (named_all h) else answers_in a (named_all h)) ≡ map (with_configs f) (if b then with_wrapped_counts e.answer ∷ answers_in a h else answers_in a h)
    at true x = λ i. wrapped_named e.answer i ∷ x i
    at false x = x

  count_named : (h : List (Event ℕ)) → desk_count (named_all h) ≡ desk_count h
  count_named [] = refl
  count_named (e ∷ h) = ap (λ (n : ℕ). if 0 == e.by then suc n else n) (count_named h)

  pub before_named : (a : ℕ) (h : List (Event ℕ)) → desk_events_before a (named_all h) ≡ desk_events_before a h
  before_named a [] = refl
  before_named a (e ∷ h) = λ i. if a == e.by then count_named h i ∷ before_named a h i else before_named a h i

  opens_named : (d : Answer ℕ) (k : Key) → opens (with_configs f d) k ≡ opens d k
  opens_named (opened j x r) k = refl
  opens_named (configured j r) k = refl
  opens_named (counted j n r) k = refl
  opens_named (closed j n) k = refl
  opens_named (expired j n r) k = refl
  opens_named (seen q j x r) k = refl
  opens_named (drew j n r) k = refl
  opens_named (missed q) k = refl
  opens_named (late q) k = refl

  since_named : (w : ℕ) (k : Key) (h : List (Event ℕ)) → opened_since w k (named_all h) ≡ opened_since w k h
  since_named w k [] = refl
  since_named w k (e ∷ h) = λ i. if w == e.by then false else (opens_named e.answer k i || since_named w k h i)

  abbrev answer_with : Option (Answer ℕ) → Option (Answer ConfigParts)
  answer_with None = None
  answer_with (Some d) = Some (with_configs f d)

  last_named : (w : ℕ) (h : List (Event ℕ)) → last_of w (named_all h) ≡ answer_with (last_of w h)
  last_named w [] = refl
  last_named w (e ∷ h) = at (w == e.by) (last_named w h) where
    at : (b : Bool) → last_of w (named_all h) ≡ answer_with (last_of w h) → (if b then Some (with_configs f e.answer) else last_of w (named_all h)) ≡ answer_with (if b then Some e.answer else last_of w h)
    at true x = refl
    at false x = x

  keeps_named : (w : ℕ) (h : List (Event ℕ)) (o : Option (Answer ℕ)) (d : Answer ℕ) → KeepsSession w h o d → KeepsSession w (named_all h) (answer_with o) (with_configs f d)
  keeps_named w h None d p = tt
  keeps_named w h (Some (seen q j x c)) (drew k m r) p = since_named w j h ∙ p
  keeps_named w h (Some (seen q j x c)) (opened k y r) p = tt
  keeps_named w h (Some (seen q j x c)) (configured k r) p = tt
  keeps_named w h (Some (seen q j x c)) (counted k m r) p = tt
  keeps_named w h (Some (seen q j x c)) (closed k m) p = tt
  keeps_named w h (Some (seen q j x c)) (expired k m r) p = tt
  keeps_named w h (Some (seen q j x c)) (seen q' k y r) p = tt
  keeps_named w h (Some (seen q j x c)) (missed q') p = tt
  keeps_named w h (Some (seen q j x c)) (late q') p = tt
  keeps_named w h (Some (opened j x c)) d p = tt
  keeps_named w h (Some (configured j c)) d p = tt
  keeps_named w h (Some (counted j n c)) d p = tt
  keeps_named w h (Some (closed j n)) d p = tt
  keeps_named w h (Some (expired j n c)) d p = tt
  keeps_named w h (Some (drew j n c)) d p = tt
  keeps_named w h (Some (missed q)) d p = tt
  keeps_named w h (Some (late q)) d p = tt

  pub all_kept : (h : List (Event ℕ)) → NoOpenBetween h → NoOpenBetween (named_all h)
  all_kept [] k = tt
  all_kept (e ∷ h) k = (all_kept h k.0, subst (λ (o : Option (Answer ConfigParts)). KeepsSession e.by (named_all h) o (with_configs f e.answer)) (sym (last_named e.by h)) (keeps_named e.by h (last_of e.by h) e.answer k.1))

-- ---- the openings of a history are the desk's answers

wrapped_keyed : (ds : List Step) (d : Answer ℕ) → IsKeyed ds (with_wrapped_counts d) → Keyed (config_at ds) d
unfolding IsKeyed Keyed
wrapped_keyed ds (opened k x r) h = h.1
wrapped_keyed ds (configured k r) h = h.1
wrapped_keyed ds (counted k n r) h = tt
wrapped_keyed ds (closed k n) h = tt
wrapped_keyed ds (expired k n r) h = tt
wrapped_keyed ds (seen q k x r) h = tt
wrapped_keyed ds (drew k n r) h = tt
wrapped_keyed ds (missed q) h = tt
wrapped_keyed ds (late q) h = tt

worker_keyed : (f : ℕ → ConfigParts) (w : ℕ) (d : Answer ℕ) → ¬ (w ≡ 0) → IsBy w d → Keyed f d
unfolding Keyed
worker_keyed f w (opened k x r) n h = absurd (n h)
worker_keyed f w (configured k r) n h = absurd (n h)
worker_keyed f w (counted k m r) n h = tt
worker_keyed f w (closed k m) n h = tt
worker_keyed f w (expired k m r) n h = tt
worker_keyed f w (seen q k x r) n h = tt
worker_keyed f w (drew k m r) n h = tt
worker_keyed f w (missed q) n h = tt
worker_keyed f w (late q) n h = tt

events_keyed : (ds : List Step) (h : List (Event ℕ)) → IsLegal any_row h → AreKeyed ds (answers_in 0 h) → EventsKeyed (config_at ds) h
unfolding AreKeyed EventsKeyed
events_keyed ds [] legal k = tt
events_keyed ds (e ∷ h) legal k = number_case 0 e.by
    (λ (x : 0 ≡ e.by). let y : AreKeyed ds (with_wrapped_counts e.answer ∷ answers_in 0 h) = subst (λ (b : Bool). AreKeyed ds (if b then with_wrapped_counts e.answer ∷ answers_in 0 h else answers_in 0 h)) (eq-eqb 0 e.by x) k in
    (wrapped_keyed ds e.answer y.0, events_keyed ds h legal.0 y.1))
    (λ (x : ¬ (0 ≡ e.by)). let y : AreKeyed ds (answers_in 0 h) = subst (λ (b : Bool). AreKeyed ds (if b then with_wrapped_counts e.answer ∷ answers_in 0 h else answers_in 0 h)) (ne_eqb 0 e.by x) k in
    (worker_keyed (config_at ds) e.by e.answer (λ v. x (sym v)) legal.2, events_keyed ds h legal.0 y))

pub explained : Explained
explained z schedule within r =
    let x = run_tied z schedule within r in let t = x.1 in let ds : List Step = (run z schedule).desk in let f : ℕ → ConfigParts = config_at ds in
    let keyed = events_keyed ds x.0 t.legal (subst (AreKeyed ds) (sym (t.own 0)) (desk_keyed z ds (run_sound z schedule within r).desk)) in (
      named_all f x.0,
      record {
        legal = all_legal f x.0 keyed t.legal;
        own = λ a. answers_named f a x.0 ∙ ap (map (with_configs f)) (t.own a);
        order = λ w. subst (λ (ns : List ℕ). IsInSpans (spans_of z (run z schedule) (suc w)) ns) (sym (before_named f (suc w) x.0)) (t.order w);
        kept = all_kept f x.0 t.kept;
      },
    )
