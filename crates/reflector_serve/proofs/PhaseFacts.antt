-- From one phase to the next.
use Rattle.std.proofs.Common.{◌≡◌, ◌⊎◌, inl, inr, ⊎_elim, ℕ, suc, ◌+◌, ◌<◌, ◌≤◌, ◌==◌, Bool, true, false, ◌||◌, ◌&&◌, not, if◌then◌else◌, List, [], ◌∷◌, ◌++◌, length, sym, refl, ap, ◌∙◌, subst, arith, eq-eqb, ne_eqb, length-append, append_assoc}
use Rattle.std.proofs.Math.Nat.{eq-or-lt_of_le}
use Rattle.std.proofs.lemmas.Bool.{cases_lt}
use Rattle.session_world.specs.declared.steps.Step.{Step}
use Rattle.session_world.specs.declared.steps.Step.TheVariants.{Split, Join}
use Rattle.session_world.specs.declared.steps.Part.{Part}
use Rattle.session_world.specs.Desk.{is_split}
use Rattle.session_world.specs.Answers.{Answer, desk_gives, desk_answers, answers_at_split}
use Rattle.session_world.specs.Joined.{AllEnded, AreOpenings, HasJoinedAll}
use Rattle.session_world.specs.Runs.{own_parts, ended_part}
use Rattle.session_rule.specs.declared.seats.Table.{Table}
use Rattle.session_rule.specs.declared.seats.WorkerSeat.{WorkerSeat}
use Rattle.session_rule.specs.Splitting.{IsLeastFree}
use Rattle.session_rule.specs.Seats.{size_of, joined_parts, worker_number, worker_steps}
use Rattle.session_desk.specs.Book.{Book, IsBookOf, steps_of, answers_of}
use Rattle.session_desk.specs.Parting.{HasSplit, IsJoined}
use Rattle.session_desk.specs.Going.{StandsAt, DeskWent}
use Rattle.session_desk.proofs.BoolFacts.{true_ne_false}
use Rattle.reflector_serve.specs.Phases.{Phase}

not_both : (b : Bool) → b ≡ true → b ≡ false → ⊥
not_both b e f = true_ne_false (sym e ∙ f)

or_true : (b : Bool) → (b || true) ≡ true
or_true true = refl
or_true false = refl

and_false : (b : Bool) → (b && false) ≡ false
and_false true = refl
and_false false = refl

and_right : (a b : Bool) → (a && b) ≡ true → b ≡ true
and_right true b e = e
and_right false b e = absurd (not_both false e refl)

-- ---- the opening

pub first_phase : (t : Table) (b : Book) → StandsAt t b → AreOpenings (answers_of b) → ((w : ℕ) → is_split (steps_of b) w ≡ false) → joined_parts b.seat ≡ [] → Phase t (steps_of b) (steps_of b) b 0 []
first_phase t b stands openings nobody joined = record {
  book = stands.book;
  schedule = stands.schedule;
  more = [];
  grew = refl;
  openings = openings;
  nobody = nobody;
  since = [];
  based = refl;
  gave = refl;
  some = λ w a c. absurd (omega (arith, a, c));
  none = λ w a. nobody w;
  ended = tt;
  others = λ w a. ap (λ (ps : List Part). own_parts ps w) joined;
}

-- ---- a split

-- the least that isn't split off is the next
pub next_number : (ds : List Step) (n w : ℕ) → ((v : ℕ) → 0 < v → v ≤ n → is_split ds v ≡ true) → ((v : ℕ) → (v ≡ 0) ⊎ (n < v) → is_split ds v ≡ false) → IsLeastFree ds w → w ≡ suc n
next_number ds n w some none least = ⊎_elim
    (λ (a : w < suc n). absurd (not_both (is_split ds w) (some w least.0 (omega (arith, a))) least.1))
    (λ (a : suc n ≤ w). ⊎_elim
    (λ (e : suc n ≡ w). sym e)
    (λ (b : suc n < w). absurd (not_both (is_split ds (suc n)) (least.2 (suc n) (omega arith) b) (none (suc n) (inr (omega arith)))))
    (eq-or-lt_of_le a))
    (cases_lt w (suc n))

split_some : (ds : List Step) (n w k : ℕ) → w ≡ suc n → ((v : ℕ) → 0 < v → v ≤ n → is_split ds v ≡ true) → (v : ℕ) → 0 < v → v ≤ suc n → is_split (Split w k ∷ ds) v ≡ true
split_some ds n w k e some v a b = ⊎_elim
    (λ (c : v ≡ suc n). ap (λ (x : Bool). x || is_split ds v) (eq-eqb v w (c ∙ sym e)))
    (λ (c : v < suc n). ap (λ (x : Bool). (v == w) || x) (some v a (omega (arith, c))) ∙ or_true (v == w))
    (eq-or-lt_of_le b)

split_none : (ds : List Step) (n w k : ℕ) → w ≡ suc n → ((v : ℕ) → (v ≡ 0) ⊎ (n < v) → is_split ds v ≡ false) → (v : ℕ) → (v ≡ 0) ⊎ (suc n < v) → is_split (Split w k ∷ ds) v ≡ false
split_none ds n w k e none v a =
    ap (λ (x : Bool). x || is_split ds v) (ne_eqb v w (λ (f : v ≡ w). ⊎_elim (λ (c : v ≡ 0). omega (arith, c, e, f)) (λ (c : suc n < v). omega (arith, c, e, f)) a))
    ∙ none v (⊎_elim (λ (c : v ≡ 0). inl c) (λ (c : suc n < v). inr (omega (arith, c))) a)

pub same_size : (t : Table) (b c : Book) → IsBookOf t b → c ≡ record b { seat = c.seat } → size_of t ≡ c.size
same_size t b c is e = is.1 ∙ ap (λ (x : Book). x.size) (sym e)

pub split_phase : (t : Table) (first base : List Step) (b c : Book) (n : ℕ) (w : WorkerSeat) → Phase t first base b n [] → HasSplit t b c w → Phase t first base c (suc n) []
split_phase t first base b c n w p h =
    let number = next_number (steps_of b) n (worker_number w) p.some p.none h.seat.least in
    let k = h.seat.step.0 in let e = h.seat.step.1 in
    record {
      book = (h.seat.seat, same_size t b c p.book h.book);
      schedule = h.seat.schedule;
      more = Split (worker_number w) k ∷ p.more;
      grew = e ∙ ap (λ (xs : List Step). Split (worker_number w) k ∷ xs) p.grew;
      openings = p.openings;
      nobody = p.nobody;
      since = Split (worker_number w) k ∷ p.since;
      based = e ∙ ap (λ (xs : List Step). Split (worker_number w) k ∷ xs) p.based;
      gave = ap desk_answers e ∙ p.gave;
      some = λ v a d. ap (λ (xs : List Step). is_split xs v) e ∙ split_some (steps_of b) n (worker_number w) k number p.some v a d;
      none = λ v a. ap (λ (xs : List Step). is_split xs v) e ∙ split_none (steps_of b) n (worker_number w) k number p.none v a;
      ended = tt;
      others = λ v a. ap (λ (ps : List Part). own_parts ps v) h.seat.joined ∙ p.others v (⊎_elim (λ (d : v < suc n). inl (omega (arith, d))) (λ (d : suc n ≤ v). inr (omega (arith, d))) (cases_lt v (suc n)));
    }

-- ---- the desk's run

pub run_phase : (t : Table) (first base : List Step) (b c : Book) (n : ℕ) → Phase t first base b n [] → DeskWent t b c → Phase t first (steps_of c) c n []
run_phase t first base b c n p r = record {
  book = r.stands.book;
  schedule = r.stands.schedule;
  more = r.steps.0 ++ p.more;
  grew = r.steps.1 ∙ ap (λ (xs : List Step). r.steps.0 ++ xs) p.grew ∙ sym (append_assoc r.steps.0 p.more first);
  openings = p.openings;
  nobody = p.nobody;
  since = [];
  based = refl;
  gave = refl;
  some = λ v a d. r.split v ∙ p.some v a d;
  none = λ v a. r.split v ∙ p.none v a;
  ended = tt;
  others = λ v a. ap (λ (ps : List Part). own_parts ps v) r.joined ∙ p.others v a;
}

-- ---- a join

answers_grow : (more first : List Step) → (xs : List (Answer ℕ)) × (desk_answers (more ++ first) ≡ xs ++ desk_answers first)
answers_grow [] first = ([], refl)
answers_grow (s ∷ more) first = let x = answers_grow more first in
    (desk_gives (more ++ first) s ++ x.0, ap (λ (xs : List (Answer ℕ)). desk_gives (more ++ first) s ++ xs) x.1 ∙ sym (append_assoc (desk_gives (more ++ first) s) x.0 (desk_answers first)))

split_picked : (c : Bool) (n m k : ℕ) → n ≤ m → (c ≡ false → n ≤ k) → n ≤ (if c then m else k)
split_picked true n m k a b = a
split_picked false n m k a b = b refl

-- who is split off, and wasn't at first, was split off after the first answers
split_after : (more first : List Step) (w : ℕ) → is_split (more ++ first) w ≡ true → is_split first w ≡ false → length (desk_answers first) ≤ answers_at_split (more ++ first) w
split_after [] first w a b = absurd (not_both (is_split first w) a b)
split_after (Split worker read ∷ more) first w a b =
    let x = answers_grow more first in
    let l = ap length x.1 in let m = length-append x.0 (desk_answers first) in
    split_picked (w == worker) (length (desk_answers first)) (length (desk_answers (more ++ first))) (answers_at_split (more ++ first) w) (omega (arith, l, m))
    (λ c. split_after more first w (sym (ap (λ (x : Bool). x || is_split (more ++ first) w) c) ∙ a) b)
split_after (Join worker read ∷ more) first w a b = split_after more first w (and_right (not (w == worker)) (is_split (more ++ first) w) a) b
split_after (s ∷ more) first w a b = split_after more first w a b

join_some : (ds : List Step) (n w k : ℕ) → w ≡ suc n → ((v : ℕ) → 0 < v → v ≤ suc n → is_split ds v ≡ true) → (v : ℕ) → 0 < v → v ≤ n → is_split (Join w k ∷ ds) v ≡ true
join_some ds n w k e some v a b =
    ap (λ (x : Bool). not x && is_split ds v) (ne_eqb v w (λ (f : v ≡ w). omega (arith, b, e, f))) ∙ some v a (omega (arith, b))

join_none : (ds : List Step) (n w k : ℕ) → w ≡ suc n → ((v : ℕ) → (v ≡ 0) ⊎ (suc n < v) → is_split ds v ≡ false) → (v : ℕ) → (v ≡ 0) ⊎ (n < v) → is_split (Join w k ∷ ds) v ≡ false
join_none ds n w k e none v a = ⊎_elim
    (λ (c : v ≡ 0). ap (λ (x : Bool). not (v == w) && x) (none v (inl c)) ∙ and_false (not (v == w)))
    (λ (c : n < v). ⊎_elim
    (λ (d : suc n ≡ v). ap (λ (x : Bool). not x && is_split ds v) (eq-eqb v w (sym d ∙ sym e)))
    (λ (d : suc n < v). ap (λ (x : Bool). not (v == w) && x) (none v (inr d)) ∙ and_false (not (v == w)))
    (eq-or-lt_of_le (omega (arith, c))))
    a

-- a part of another worker
other_part : (p : Part) (ps : List Part) (v : ℕ) → ¬ (v ≡ p.worker) → own_parts (p ∷ ps) v ≡ own_parts ps v
other_part p ps v out = let f : Bool → List Part = (λ (c : Bool). if c then p ∷ own_parts ps v else own_parts ps v) in ap f (ne_eqb v p.worker out)

its_part : (p : Part) (ps : List Part) (v : ℕ) → v ≡ p.worker → own_parts ps v ≡ [] → own_parts (p ∷ ps) v ≡ p ∷ []
its_part p ps v e none = let f : Bool → List Part = (λ (c : Bool). if c then p ∷ own_parts ps v else own_parts ps v) in ap f (eq-eqb v p.worker e) ∙ ap (λ (qs : List Part). p ∷ qs) none

ended_more : (p : Part) (ps : List Part) (count w : ℕ) (lists : List (List Step)) → p.worker < w → AllEnded ps count w lists → AllEnded (p ∷ ps) count w lists
ended_more p ps count w [] lt a = tt
ended_more p ps count w (xs ∷ lists) lt a =
    ((a.0.0, other_part p ps w (λ e. omega (arith, lt, e)) ∙ a.0.1, a.0.2, a.0.3), ended_more p ps count (suc w) lists (omega (arith, lt)) a.1)

pub join_phase : (t : Table) (first base : List Step) (b c : Book) (n : ℕ) (lists : List (List Step)) (w : WorkerSeat)
    → Phase t first base b (suc n) lists → worker_number w ≡ suc n → IsJoined t b w c → Phase t first base c n (worker_steps w ∷ lists)
join_phase t first base b c n lists w p number h =
    let ds = steps_of b in let v = worker_number w in let k = h.seat.step.0 in let e = h.seat.step.1 in
    let part : Part = ended_part v (worker_steps w) ds in
    let is_split_off : is_split ds v ≡ true = p.some v (omega (arith, number)) (omega (arith, number)) in
    let opens : length (desk_answers first) ≤ answers_at_split ds v =
    subst (λ (xs : List Step). length (desk_answers first) ≤ answers_at_split xs v) (sym p.grew)
    (split_after p.more first v (sym (ap (λ (xs : List Step). is_split xs v) p.grew) ∙ is_split_off) (p.nobody v)) in
    record {
      book = (h.seat.seat, same_size t b c p.book h.book);
      schedule = h.seat.schedule;
      more = Join v k ∷ p.more;
      grew = e ∙ ap (λ (xs : List Step). Join v k ∷ xs) p.grew;
      openings = p.openings;
      nobody = p.nobody;
      since = Join v k ∷ p.since;
      based = e ∙ ap (λ (xs : List Step). Join v k ∷ xs) p.based;
      gave = ap desk_answers e ∙ p.gave;
      some = λ u a d. ap (λ (xs : List Step). is_split xs u) e ∙ join_some ds n v k number p.some u a d;
      none = λ u a. ap (λ (xs : List Step). is_split xs u) e ∙ join_none ds n v k number p.none u a;
      ended = subst (λ (ps : List Part). AllEnded ps (length (desk_answers first)) (suc n) (worker_steps w ∷ lists)) (sym h.seat.joined) (
        (part, its_part part (joined_parts b.seat) (suc n) (sym number) (p.others (suc n) (inl (omega arith))), refl, opens),
        ended_more part (joined_parts b.seat) (length (desk_answers first)) (suc (suc n)) lists (omega (arith, number)) p.ended,
      );
      others = λ u a. ap (λ (ps : List Part). own_parts ps u) h.seat.joined
          ∙ other_part part (joined_parts b.seat) u (λ f. ⊎_elim (λ (d : u ≤ n). omega (arith, d, number, f)) (λ (d : n + suc (length lists) < u). omega (arith, d, number, f)) a)
          ∙ p.others u (⊎_elim (λ (d : u ≤ n). inl (omega (arith, d))) (λ (d : n + suc (length lists) < u). inr (omega (arith, d))) a);
    }

-- ---- the end

pub last_phase : (t : Table) (first base : List Step) (b : Book) (lists : List (List Step)) → Phase t first base b 0 lists → HasJoinedAll (size_of t) first (steps_of b) (joined_parts b.seat) lists
last_phase t first base b lists p = record {
  schedule = p.schedule;
  more = p.more;
  grew = p.grew;
  openings = p.openings;
  nobody = λ w. ⊎_elim (λ (a : w < 1). p.none w (inl (omega (arith, a)))) (λ (a : 1 ≤ w). p.none w (inr (omega (arith, a)))) (cases_lt w 1);
  ended = p.ended;
  others = λ w a. p.others w (inr (omega (arith, a)));
}
