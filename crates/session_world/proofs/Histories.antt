-- Events that leave the table as it is may be put into a legal history at an earlier point. Configurations are rows here.
use Rattle.std.proofs.Common.{◌≡◌, ◌≢◌, ◌⊎◌, inl, inr, ℕ, suc, ◌≤◌, ◌==◌, eqb, Bool, true, false, ◌||◌, if◌then◌else◌, List, [], ◌∷◌, sym, refl, ap, ◌∙◌, subst, arith, eq-eqb, ne_eqb, Option, Some, None}
use Rattle.session_world.specs.Keys.{Query, Key, Extra}
use Rattle.session_world.specs.Answers.{Answer, opened, configured, counted, closed, expired, seen, drew, missed, late}
use Rattle.session_world.specs.History.{Session, SessionMap, Event, entry_after, map_after, IsLegalAt, IsBy, IsLegal}
use Rattle.session_world.specs.Explains.{with_wrapped_counts, answers_in, desk_count, desk_events_before, opens, last_of, opened_since, KeepsSession, NoOpenBetween}

-- at first every row counts as one whose configuration has an HMAC key: which has one is said by the desk's list
abbrev pub any_row : ℕ → Bool
any_row r = true

abbrev pub RowMap : Type 0
RowMap = SessionMap ℕ

-- the event leaves the table as it is
abbrev pub IsQuiet : Answer ℕ → Type 0
IsQuiet (seen q k x r) = Unit {0}
IsQuiet (missed q) = Unit {0}
IsQuiet (late q) = Unit {0}
IsQuiet _ = ⊥

pub quiet_entry : (d : Answer ℕ) (k : Key) (o : Option (Session ℕ)) → IsQuiet d → entry_after d k o ≡ o
quiet_entry (seen q j x r) k o h = refl
quiet_entry (missed q) k o h = refl
quiet_entry (late q) k o h = refl
quiet_entry (opened j x r) k o h = absurd h
quiet_entry (configured j r) k o h = absurd h
quiet_entry (counted j n r) k o h = absurd h
quiet_entry (closed j n) k o h = absurd h
quiet_entry (expired j n r) k o h = absurd h
quiet_entry (drew j n r) k o h = absurd h

quiet_by : (w : ℕ) (d : Answer ℕ) → ¬ (w ≡ 0) → IsQuiet d → IsBy w d
quiet_by w (seen q j x r) n h = omega (arith, n)
quiet_by w (missed q) n h = omega (arith, n)
quiet_by w (late q) n h = omega (arith, n)
quiet_by w (opened j x r) n h = absurd h
quiet_by w (configured j r) n h = absurd h
quiet_by w (counted j m r) n h = absurd h
quiet_by w (closed j m) n h = absurd h
quiet_by w (expired j m r) n h = absurd h
quiet_by w (drew j m r) n h = absurd h

quiet_opens : (d : Answer ℕ) (k : Key) → IsQuiet d → opens d k ≡ false
quiet_opens (seen q j x r) k h = refl
quiet_opens (missed q) k h = refl
quiet_opens (late q) k h = refl
quiet_opens (opened j x r) k h = absurd h
quiet_opens (configured j r) k h = absurd h
quiet_opens (counted j m r) k h = absurd h
quiet_opens (closed j m) k h = absurd h
quiet_opens (expired j m r) k h = absurd h
quiet_opens (drew j m r) k h = absurd h

-- ---- no opening between a sight and its draw

-- the rule speaks of draws alone
abbrev pub IsDraw : Answer ℕ → Type 0
IsDraw (drew k n r) = Unit {0}
IsDraw _ = ⊥

pub keeps_other : (w : ℕ) (h : List (Event ℕ)) (o : Option (Answer ℕ)) (d : Answer ℕ) → ¬ IsDraw d → KeepsSession w h o d
keeps_other w h None d n = tt
keeps_other w h (Some (seen q j x c)) (drew k m r) n = absurd (n tt)
keeps_other w h (Some (seen q j x c)) (opened k y r) n = tt
keeps_other w h (Some (seen q j x c)) (configured k r) n = tt
keeps_other w h (Some (seen q j x c)) (counted k m r) n = tt
keeps_other w h (Some (seen q j x c)) (closed k m) n = tt
keeps_other w h (Some (seen q j x c)) (expired k m r) n = tt
keeps_other w h (Some (seen q j x c)) (seen p k y r) n = tt
keeps_other w h (Some (seen q j x c)) (missed p) n = tt
keeps_other w h (Some (seen q j x c)) (late p) n = tt
keeps_other w h (Some _) d n = tt

keeps_same : (w : ℕ) (h g : List (Event ℕ)) (o : Option (Answer ℕ)) (d : Answer ℕ) → ((k : Key) → opened_since w k g ≡ opened_since w k h) → KeepsSession w h o d → KeepsSession w g o d
keeps_same w h g None d e p = tt
keeps_same w h g (Some (seen q j x c)) (drew k m r) e p = e j ∙ p
keeps_same w h g (Some (seen q j x c)) (opened k y r) e p = tt
keeps_same w h g (Some (seen q j x c)) (configured k r) e p = tt
keeps_same w h g (Some (seen q j x c)) (counted k m r) e p = tt
keeps_same w h g (Some (seen q j x c)) (closed k m) e p = tt
keeps_same w h g (Some (seen q j x c)) (expired k m r) e p = tt
keeps_same w h g (Some (seen q j x c)) (seen p' k y r) e p = tt
keeps_same w h g (Some (seen q j x c)) (missed p') e p = tt
keeps_same w h g (Some (seen q j x c)) (late p') e p = tt
keeps_same w h g (Some _) d e p = tt

quiet_no_draw : (d : Answer ℕ) → IsQuiet d → ¬ IsDraw d
quiet_no_draw (drew k n r) q = absurd q
quiet_no_draw (seen q j x r) h = λ e. e
quiet_no_draw (missed q) h = λ e. e
quiet_no_draw (late q) h = λ e. e
quiet_no_draw (opened j x r) h = λ e. e
quiet_no_draw (configured j r) h = λ e. e
quiet_no_draw (counted j n r) h = λ e. e
quiet_no_draw (closed j n) h = λ e. e
quiet_no_draw (expired j n r) h = λ e. e

-- ---- an event that is put in

-- the second list is the first with the event e put in somewhere
pub data Ins (e : Event ℕ) : List (Event ℕ) → List (Event ℕ) → Type 0 where
  here : (h : List (Event ℕ)) → Ins e h (e ∷ h)
  there : (x : Event ℕ) (h g : List (Event ℕ)) → Ins e h g → Ins e (x ∷ h) (x ∷ g)

pub map_ins : (e : Event ℕ) (h g : List (Event ℕ)) → IsQuiet e.answer → Ins e h g → (k : Key) → map_after g k ≡ map_after h k
map_ins e h _ quiet (here _) k = quiet_entry e.answer k (map_after h k) quiet
map_ins e _ _ quiet (there x h g i) k = ap (entry_after x.answer k) (map_ins e h g quiet i k)

-- quiet events are the workers'
pub count_ins : (e : Event ℕ) (h g : List (Event ℕ)) → e.by ≢ 0 → Ins e h g → desk_count g ≡ desk_count h
count_ins e h _ n (here _) = rw (ne_eqb 0 e.by (λ x. n (sym x))) refl
count_ins e _ _ n (there x h g i) = ap (λ (k : ℕ). if 0 == x.by then suc k else k) (count_ins e h g n i)

last_ins : (u : ℕ) (e : Event ℕ) (h g : List (Event ℕ)) → u ≢ e.by → Ins e h g → last_of u g ≡ last_of u h
last_ins u e h _ n (here _) = rw (ne_eqb u e.by n) refl
last_ins u e _ _ n (there x h g i) = ap (λ (o : Option (Answer ℕ)). if u == x.by then Some x.answer else o) (last_ins u e h g n i)

opened_ins : (u : ℕ) (k : Key) (e : Event ℕ) (h g : List (Event ℕ)) → u ≢ e.by → IsQuiet e.answer → Ins e h g → opened_since u k g ≡ opened_since u k h
opened_ins u k e h _ n quiet (here _) = rw (ne_eqb u e.by n, quiet_opens e.answer k quiet) refl
opened_ins u k e _ _ n quiet (there x h g i) = ap (λ (b : Bool). if u == x.by then false else (opens x.answer k || b)) (opened_ins u k e h g n quiet i)

-- tables that agree allow the same
legal_agree : (t u : RowMap) (d : Answer ℕ) → ((k : Key) → t k ≡ u k) → IsLegalAt any_row t d → IsLegalAt any_row u d
legal_agree t u (opened k x r) same h = (h.0, (λ j b at. h.1 j b (same j ∙ at)), h.2)
legal_agree t u (configured k r) same h = ((h.0.0, sym (same k) ∙ h.0.1, h.0.2), h.1)
legal_agree t u (counted k n r) same h = (h.0, sym (same k) ∙ h.1, h.2)
legal_agree t u (closed k n) same h = (h.0, sym (same k) ∙ h.1, h.2)
legal_agree t u (expired k n r) same h = (h.0, sym (same k) ∙ h.1, h.2)
legal_agree t u (seen q k x r) same h = ((h.0.0, sym (same k) ∙ h.0.1, h.0.2), h.1)
legal_agree t u (drew k n r) same h = (h.0, sym (same k) ∙ h.1, h.2)
legal_agree t u (missed q) same h = λ j b at. h j b (same j ∙ at)
legal_agree t u (late q) same h = λ j b at. h j b (same j ∙ at)

-- ---- points

-- a worker, and how many answers the desk had given when it was split off last
pub record Who : Type 0 where
  pub by : ℕ
  pub from : ℕ

-- A point of the history at which Q holds of the table: after all events of w and after what the desk had answered at the
-- split, and A holds of each later event
abbrev pub Point : Who → (Answer ℕ → Type 0) → (RowMap → Type 0) → List (Event ℕ) → Type 0
Point w A Q [] = (w.from ≤ 0) × Q (map_after [])
Point w A Q (e ∷ h) = ((w.from ≤ desk_count (e ∷ h)) × Q (map_after (e ∷ h))) ⊎ ((w.by ≢ e.by) × A e.answer × Point w A Q h)

abbrev pub Any : Answer ℕ → Type 0
Any d = Unit {0}

abbrev pub NotOpens : Key → Answer ℕ → Type 0
NotOpens k d = opens d k ≡ false

pub quiet_not_opens : (k : Key) (d : Answer ℕ) → IsQuiet d → NotOpens k d
quiet_not_opens k d q = quiet_opens d k q

pub now : (w : Who) (A : Answer ℕ → Type 0) (Q : RowMap → Type 0) (h : List (Event ℕ)) → w.from ≤ desk_count h → Q (map_after h) → Point w A Q h
now w A Q [] le q = (le, q)
now w A Q (e ∷ h) le q = inl (le, q)

pub point_map : (w : Who) (A B : Answer ℕ → Type 0) (Q R : RowMap → Type 0) (h : List (Event ℕ)) → ((d : Answer ℕ) → A d → B d) → ((u : RowMap) → Q u → R u) → Point w A Q h → Point w B R h
point_map w A B Q R [] a f p = (p.0, f (map_after []) p.1)
point_map w A B Q R (e ∷ h) a f (inl q) = inl (q.0, f (map_after (e ∷ h)) q.1)
point_map w A B Q R (e ∷ h) a f (inr r) = inr (r.0, a e.answer r.1, point_map w A B Q R h a f r.2)

le_at : (f a b : ℕ) → f ≤ a → b ≡ a → f ≤ b
le_at f a b le e = omega (arith, le, e)

-- a fact about the table that asks it entry by entry
unfoldable pub Pointwise : (RowMap → Type 0) → Type 0
Pointwise Q = (t u : RowMap) → ((k : Key) → t k ≡ u k) → Q t → Q u

-- another worker's quiet event keeps the points of w
pub point_ins : (w : Who) (A : Answer ℕ → Type 0) (Q : RowMap → Type 0) (e : Event ℕ) (h g : List (Event ℕ)) → Pointwise Q → A e.answer → w.by ≢ e.by → e.by ≢ 0 → IsQuiet e.answer → Ins e h g → Point w A Q h → Point w A Q g
unfolding Pointwise
point_ins w A Q e h _ pw a other n quiet (here _) p = inr (other, a, p)
point_ins w A Q e _ _ pw a other n quiet (there x h g i) (inl q) = inl (le_at w.from (desk_count (x ∷ h)) (desk_count (x ∷ g)) q.0 (count_ins e (x ∷ h) (x ∷ g) n (there x h g i)), pw (map_after (x ∷ h)) (map_after (x ∷ g)) (λ k. sym (map_ins e (x ∷ h) (x ∷ g) quiet (there x h g i) k)) q.1)
point_ins w A Q e _ _ pw a other n quiet (there x h g i) (inr r) = inr (r.0, r.1, point_ins w A Q e h g pw a other n quiet i r.2)

-- the last event of w is d, and A holds of each later event
abbrev pub Since : ℕ → Answer ℕ → (Answer ℕ → Type 0) → List (Event ℕ) → Type 0
Since w d A [] = ⊥
Since w d A (e ∷ h) = ((w ≡ e.by) × (e.answer ≡ d)) ⊎ ((w ≢ e.by) × A e.answer × Since w d A h)

pub since_ins : (w : ℕ) (d : Answer ℕ) (A : Answer ℕ → Type 0) (e : Event ℕ) (h g : List (Event ℕ)) → A e.answer → w ≢ e.by → Ins e h g → Since w d A h → Since w d A g
since_ins w d A e h _ a other (here _) s = inr (other, a, s)
since_ins w d A e _ _ a other (there x h g i) (inl s) = inl s
since_ins w d A e _ _ a other (there x h g i) (inr s) = inr (s.0, s.1, since_ins w d A e h g a other i s.2)

last_since : (w : ℕ) (d : Answer ℕ) (A : Answer ℕ → Type 0) (h : List (Event ℕ)) → Since w d A h → last_of w h ≡ Some d
last_since w d A [] s = absurd s
last_since w d A (e ∷ h) (inl s) = rw (eq-eqb w e.by s.0) (ap (λ (x : Answer ℕ). Some x) s.1)
last_since w d A (e ∷ h) (inr s) = rw (ne_eqb w e.by s.0) (last_since w d A h s.2)

unopened_since : (w : ℕ) (d : Answer ℕ) (k : Key) (h : List (Event ℕ)) → Since w d (NotOpens k) h → opened_since w k h ≡ false
unopened_since w d k [] s = absurd s
unopened_since w d k (e ∷ h) (inl s) = rw (eq-eqb w e.by s.0) refl
unopened_since w d k (e ∷ h) (inr s) = rw (ne_eqb w e.by s.0, s.1) (unopened_since w d k h s.2)

-- a draw that follows the sight of j keeps the session
pub keeps_drawn : (w : ℕ) (q : Query) (j : Key) (x : Extra) (c : ℕ) (k : Key) (n r : ℕ) (h : List (Event ℕ)) → Since w (seen q j x c) (NotOpens j) h → KeepsSession w h (last_of w h) (drew k n r)
keeps_drawn w q j x c k n r h s = subst (λ (o : Option (Answer ℕ)). KeepsSession w h o (drew k n r)) (sym (last_since w (seen q j x c) (NotOpens j) h s)) (unopened_since w (seen q j x c) j h s)

-- ---- the worker's own quiet event, put in at its point

pub record Put (w : Who) (A : Answer ℕ → Type 0) (d : Answer ℕ) (h : List (Event ℕ)) : Type 0 where
  pub more : List (Event ℕ)
  pub ins : Ins (record { by = w.by; answer = d }) h more
  pub legal : IsLegal any_row more
  pub kept : NoOpenBetween more
  pub mine : answers_in w.by more ≡ with_wrapped_counts d ∷ answers_in w.by h
  pub others : (u : ℕ) → u ≢ w.by → answers_in u more ≡ answers_in u h
  pub spot : ℕ
  pub low : w.from ≤ spot
  pub spotted : desk_events_before w.by more ≡ spot ∷ desk_events_before w.by h
  pub unspotted : (u : ℕ) → u ≢ w.by → desk_events_before u more ≡ desk_events_before u h
  pub since : Since w.by d A more

put_here : (w : Who) (A : Answer ℕ → Type 0) (d : Answer ℕ) (h : List (Event ℕ)) → ¬ (w.by ≡ 0) → IsQuiet d → IsLegal any_row h → NoOpenBetween h → IsLegalAt any_row (map_after h) d → w.from ≤ desk_count h → Put w A d h
put_here w A d h n quiet legal kept fits le = record {
  more = record { by = w.by; answer = d } ∷ h;
  ins = here h;
  legal = (legal, fits, quiet_by w.by d n quiet);
  kept = (kept, keeps_other w.by h (last_of w.by h) d (quiet_no_draw d quiet));
  mine = rw (eq-eqb w.by w.by refl) refl;
  others = λ u ne. rw (ne_eqb u w.by ne) refl;
  spot = desk_count h;
  low = le;
  spotted = rw (eq-eqb w.by w.by refl) refl;
  unspotted = λ u ne. rw (ne_eqb u w.by ne) refl;
  since = inl (refl, refl);
}

put_there : (w : Who) (A : Answer ℕ → Type 0) (d : Answer ℕ) (x : Event ℕ) (h : List (Event ℕ)) → IsQuiet d → ¬ (w.by ≡ 0) → w.by ≢ x.by → A x.answer → IsLegal any_row (x ∷ h) → NoOpenBetween (x ∷ h) → Put w A d h → Put w A d (x ∷ h)
put_there w A d x h quiet n ne a legal kept p = let e : Event ℕ = record { by = w.by; answer = d } in let back : x.by ≢ w.by = λ y. ne (sym y) in record {
  more = x ∷ p.more;
  ins = there x h p.more p.ins;
  legal = (p.legal, legal_agree (map_after h) (map_after p.more) x.answer (λ k. sym (map_ins e h p.more quiet p.ins k)) legal.1, legal.2);
  kept = (p.kept, subst (λ (o : Option (Answer ℕ)). KeepsSession x.by p.more o x.answer) (sym (last_ins x.by e h p.more back p.ins)) (keeps_same x.by h p.more (last_of x.by h) x.answer (λ k. opened_ins x.by k e h p.more back quiet p.ins) kept.1));
  mine = rw (ne_eqb w.by x.by ne) p.mine;
  others = λ u other. ap (λ (ds : List (Answer ℕ)). if eqb u x.by then with_wrapped_counts x.answer ∷ ds else ds) (p.others u other);
  spot = p.spot;
  low = p.low;
  spotted = rw (ne_eqb w.by x.by ne) p.spotted;
  unspotted = λ u other. λ i. if eqb u x.by then count_ins e h p.more n p.ins i ∷ p.unspotted u other i else p.unspotted u other i;
  since = inr (ne, a, p.since);
}

pub put_in : (w : Who) (A : Answer ℕ → Type 0) (Q : RowMap → Type 0) (d : Answer ℕ) (h : List (Event ℕ)) → ¬ (w.by ≡ 0) → IsQuiet d → ((t : RowMap) → Q t → IsLegalAt any_row t d) → IsLegal any_row h → NoOpenBetween h → Point w A Q h → Put w A d h
put_in w A Q d [] n quiet fits legal kept p = put_here w A d [] n quiet legal kept (fits (map_after []) p.1) p.0
put_in w A Q d (x ∷ h) n quiet fits legal kept (inl q) = put_here w A d (x ∷ h) n quiet legal kept (fits (map_after (x ∷ h)) q.1) q.0
put_in w A Q d (x ∷ h) n quiet fits legal kept (inr r) = put_there w A d x h quiet n r.0 r.1 legal kept (put_in w A Q d h n quiet fits legal.0 kept.0 r.2)

-- ---- two points, one after the other

abbrev pub After : Who → (RowMap → Type 0) → (RowMap → Type 0) → List (Event ℕ) → Type 0
After w Q R [] = (w.from ≤ 0) × Q (map_after []) × R (map_after [])
After w Q R (e ∷ h) = ((w.from ≤ desk_count (e ∷ h)) × Q (map_after (e ∷ h)) × Point w Any R (e ∷ h)) ⊎ ((w.by ≢ e.by) × After w Q R h)

pub after_map : (w : Who) (Q R Q' R' : RowMap → Type 0) (h : List (Event ℕ)) → ((u : RowMap) → Q u → Q' u) → ((u : RowMap) → R u → R' u) → After w Q R h → After w Q' R' h
after_map w Q R Q' R' [] f g p = (p.0, f (map_after []) p.1, g (map_after []) p.2)
after_map w Q R Q' R' (e ∷ h) f g (inl q) = inl (q.0, f (map_after (e ∷ h)) q.1, point_map w Any Any R R' (e ∷ h) (λ d a. tt) g q.2)
after_map w Q R Q' R' (e ∷ h) f g (inr r) = inr (r.0, after_map w Q R Q' R' h f g r.1)

pub after_ins : (w : Who) (Q R : RowMap → Type 0) (e : Event ℕ) (h g : List (Event ℕ)) → Pointwise Q → Pointwise R → w.by ≢ e.by → e.by ≢ 0 → IsQuiet e.answer → Ins e h g → After w Q R h → After w Q R g
unfolding Pointwise
after_ins w Q R e h _ pq pr other n quiet (here _) p = inr (other, p)
after_ins w Q R e _ _ pq pr other n quiet (there x h g i) (inl q) = inl (le_at w.from (desk_count (x ∷ h)) (desk_count (x ∷ g)) q.0 (count_ins e (x ∷ h) (x ∷ g) n (there x h g i)), pq (map_after (x ∷ h)) (map_after (x ∷ g)) (λ k. sym (map_ins e (x ∷ h) (x ∷ g) quiet (there x h g i) k)) q.1, point_ins w Any R e (x ∷ h) (x ∷ g) pr tt other n quiet (there x h g i) q.2)
after_ins w Q R e _ _ pq pr other n quiet (there x h g i) (inr r) = inr (r.0, after_ins w Q R e h g pq pr other n quiet i r.1)

-- the event is put in at the earlier point, and the later point stays
pub record PutAfter (w : Who) (Q : RowMap → Type 0) (d : Answer ℕ) (h : List (Event ℕ)) : Type 0 where
  pub put : Put w Any d h
  pub point : Point w Any Q put.more

pub put_after : (w : Who) (Q R : RowMap → Type 0) (d : Answer ℕ) (h : List (Event ℕ)) → Pointwise Q → ¬ (w.by ≡ 0) → IsQuiet d → ((t : RowMap) → R t → IsLegalAt any_row t d) → IsLegal any_row h → NoOpenBetween h → After w Q R h → PutAfter w Q d h
unfolding Pointwise put_here put_there
put_after w Q R d [] pq n quiet fits legal kept p = record {
  put = put_here w Any d [] n quiet legal kept (fits (map_after []) p.2) p.0;
  point = inl (le_at w.from 0 (desk_count (record { by = w.by; answer = d } ∷ [])) p.0 (count_ins (record { by = w.by; answer = d }) [] (record { by = w.by; answer = d } ∷ []) n (here [])), pq (map_after []) (map_after (record { by = w.by; answer = d } ∷ [])) (λ k. sym (quiet_entry d k None quiet)) p.1);
}
put_after w Q R d (x ∷ h) pq n quiet fits legal kept (inl q) = let y = put_in w Any R d (x ∷ h) n quiet fits legal kept q.2 in record {
  put = y;
  point = now w Any Q y.more (le_at w.from (desk_count (x ∷ h)) (desk_count y.more) q.0 (count_ins (record { by = w.by; answer = d }) (x ∷ h) y.more n y.ins)) (pq (map_after (x ∷ h)) (map_after y.more) (λ k. sym (map_ins (record { by = w.by; answer = d }) (x ∷ h) y.more quiet y.ins k)) q.1);
}
put_after w Q R d (x ∷ h) pq n quiet fits legal kept (inr r) = let y = put_after w Q R d h pq n quiet fits legal.0 kept.0 r.1 in record {
  put = put_there w Any d x h quiet n r.0 tt legal kept y.put;
  point = inr (r.0, tt, y.point);
}
