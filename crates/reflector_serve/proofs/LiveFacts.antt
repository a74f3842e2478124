-- The keys that a legal history leaves bound are those that the desk's answers leave.
use Rattle.std.proofs.Common.{◌≡◌, ⊎_elim, ℕ, ◌==◌, Bool, true, false, ◌||◌, ◌&&◌, not, if◌then◌else◌, List, [], ◌∷◌, ◌++◌, map, Option, Some, None, sym, refl, ap, ◌∙◌, subst, arith, eq-eqb, ne_eqb}
use Rattle.std.specs.List.{list_any}
use Rattle.std.proofs.lemmas.List.Folds.{list_any-append}
use Rattle.refl_types.specs.declared.types.Key.{Key}
use Rattle.refl_types.specs.Same.{same_key}
use Rattle.refl_types.proofs.SameFacts.{key_same, same_key-refl}
use Rattle.session_key.specs.Matching.{excludes}
use Rattle.session_world.specs.Keys.{ConfigParts, is_some, has_key}
use Rattle.session_world.specs.Answers.{Answer, opened, configured, counted, closed, expired, seen, drew, missed, late, with_configs}
use Rattle.session_world.specs.History.{Session, Event, map_after, entry_after, reconfigured, drawn, IsBy, IsLegalAt, IsLegal}
use Rattle.session_world.specs.Explains.{answers_in, with_wrapped_counts}
use Rattle.session_desk.specs.declared.session.Session.{Session as BookSession}
use Rattle.session_desk.specs.Book.{Book, Line, line_of, lines_left, with_line_row, without_line, answers_of}
use Rattle.session_desk.proofs.BoolFacts.{bool, true_ne_false, no_or, is_false}
use Rattle.session_desk.proofs.KeyFacts.{excludes_self}
use Rattle.reflector_serve.specs.Live.{is_among, KeysAreOnce, AreBound}

-- ---- which keys the answers of the desk leave bound

bound_by : {C : Type 0} → Answer C → Key → Bool → Bool
bound_by (opened j x c) k b = same_key j k || b
bound_by (configured j c) k b = b
bound_by (counted j n c) k b = b
bound_by (closed j n) k b = not (same_key j k) && b
bound_by (expired j n c) k b = not (same_key j k) && b
bound_by (seen q j x c) k b = b
bound_by (drew j n c) k b = b
bound_by (missed q) k b = b
bound_by (late q) k b = b

bound_in : {C : Type 0} → List (Answer C) → Key → Bool
bound_in [] k = false
bound_in (a ∷ rest) k = bound_by a k (bound_in rest k)

-- ---- by the table

when_bound : {C : Type 0} (b : Bool) (s : Session C) (o : Option (Session C)) → is_some (if b then Some s else o) ≡ (b || is_some o)
when_bound true s o = refl
when_bound false s o = refl

when_free : {C : Type 0} (b : Bool) (o : Option (Session C)) → is_some (if b then None else o) ≡ (not b && is_some o)
when_free true o = refl
when_free false o = refl

when_set : {C : Type 0} (b : Bool) (c : C) (o : Option (Session C)) → is_some (if b then reconfigured c o else o) ≡ is_some o
when_set true c None = refl
when_set true c (Some s) = refl
when_set false c o = refl

when_drawn : {C : Type 0} (b : Bool) (o : Option (Session C)) → is_some (if b then drawn o else o) ≡ is_some o
when_drawn true None = refl
when_drawn true (Some s) = refl
when_drawn false o = refl

entry_bound : {C : Type 0} (a : Answer C) (k : Key) (o : Option (Session C)) → is_some (entry_after a k o) ≡ bound_by a k (is_some o)
unfolding bound_by
entry_bound (opened j x c) k o = when_bound (same_key j k) (record { extra = x; config = c; count = 0 }) o
entry_bound (configured j c) k o = when_set (same_key j k) c o
entry_bound (counted j n c) k o = refl
entry_bound (closed j n) k o = when_free (same_key j k) o
entry_bound (expired j n c) k o = when_free (same_key j k) o
entry_bound (seen q j x c) k o = refl
entry_bound (drew j n c) k o = when_drawn (same_key j k) o
entry_bound (missed q) k o = refl
entry_bound (late q) k o = refl

-- the answers of the desk are its events, and those of workers bind nothing
desk_tells : {C : Type 0} (w : ℕ) (a : Answer C) (rest : List (Answer C)) (k : Key) → IsBy w a → bound_by a k (bound_in rest k) ≡ bound_in (if 0 == w then with_wrapped_counts a ∷ rest else rest) k
unfolding bound_by bound_in
desk_tells (w) (opened j x c) rest k by = rw (eq-eqb 0 w (sym by)) refl
desk_tells (w) (configured j c) rest k by = rw (eq-eqb 0 w (sym by)) refl
desk_tells (w) (counted j n c) rest k by = rw (eq-eqb 0 w (sym by)) refl
desk_tells (w) (closed j n) rest k by = rw (eq-eqb 0 w (sym by)) refl
desk_tells (w) (expired j n c) rest k by = rw (eq-eqb 0 w (sym by)) refl
desk_tells (w) (seen q j x c) rest k by = rw (ne_eqb 0 w (λ e. omega (arith, e, by))) refl
desk_tells (w) (drew j n c) rest k by = rw (ne_eqb 0 w (λ e. omega (arith, e, by))) refl
desk_tells (w) (missed q) rest k by = rw (ne_eqb 0 w (λ e. omega (arith, e, by))) refl
desk_tells (w) (late q) rest k by = rw (ne_eqb 0 w (λ e. omega (arith, e, by))) refl

by_table : {C : Type 0} (keyed : C → Bool) (h : List (Event C)) (k : Key) → IsLegal keyed h → is_some (map_after h k) ≡ bound_in (answers_in 0 h) k
unfolding bound_in
by_table keyed [] k legal = refl
by_table keyed (e ∷ h) k legal = entry_bound e.answer k (map_after h k) ∙ ap (bound_by e.answer k) (by_table keyed h k legal.0) ∙ desk_tells e.by e.answer (answers_in 0 h) k legal.2

-- ---- by the lines

or_turn : (a b : Bool) → (a || b) ≡ (b || (a || false))
or_turn true true = refl
or_turn true false = refl
or_turn false true = refl
or_turn false false = refl

among : Key → List Line → Bool
among k = list_any (λ l. same_key l.key k)

with_row_key : (j : Key) (row : ℕ) (l : Line) → (with_line_row j row l).key ≡ l.key
with_row_key j row l = at (same_key l.key j)
  where
    at : (b : Bool) → (if b then record l { row = row } else l).key ≡ l.key
    at true = refl
    at false = refl

among_set : (j : Key) (row : ℕ) (ls : List Line) (k : Key) → among k (map (with_line_row j row) ls) ≡ among k ls
unfolding among
among_set j row [] k = refl
among_set j row (l ∷ ls) k = λ i. same_key (with_row_key j row l i) k || among_set j row ls k i

among_left : (j : Key) (ls : List Line) (k : Key) → among k (without_line j ls) ≡ (not (same_key j k) && among k ls)
unfolding among
among_left j [] k = and_false (not (same_key j k))
  where
    and_false : (b : Bool) → false ≡ (b && false)
    and_false true = refl
    and_false false = refl
among_left j (l ∷ ls) k = ⊎_elim
    (λ (e : same_key l.key j ≡ true). rw e (among_left j ls k ∙ gone (same_key j k) (same_key l.key k) (among k ls) (ap (λ (x : Key). same_key x k) (key_same l.key j e))))
    (λ (e : same_key l.key j ≡ false). rw e (ap (λ (b : Bool). same_key l.key k || b) (among_left j ls k) ∙ stays (same_key j k) (same_key l.key k) (among k ls)
    (λ same. ap (same_key l.key) (sym (key_same j k same)) ∙ e)))
    (bool (same_key l.key j))
  where
    gone : (b c r : Bool) → c ≡ b → (not b && r) ≡ (not b && (c || r))
    gone true c r e = refl
    gone false c r e = sym (ap (λ (x : Bool). x || r) e)

    stays : (b c r : Bool) → (b ≡ true → c ≡ false) → (c || (not b && r)) ≡ (not b && (c || r))
    stays true c r f = rw (f refl) refl
    stays false c r f = refl

by_lines : (answers : List (Answer ℕ)) (k : Key) → bound_in answers k ≡ among k (lines_left answers)
unfolding bound_in bound_by among
by_lines [] k = refl
by_lines (opened j x row ∷ rest) k = ap (λ (b : Bool). same_key j k || b) (by_lines rest k) ∙ or_turn (same_key j k) (among k (lines_left rest))
    ∙ sym (list_any-append (λ l. same_key l.key k) (lines_left rest) (record { key = j; extra = x; row = row } ∷ []))
by_lines (configured j row ∷ rest) k = by_lines rest k ∙ sym (among_set j row (lines_left rest) k)
by_lines (closed j n ∷ rest) k = ap (λ (b : Bool). not (same_key j k) && b) (by_lines rest k) ∙ sym (among_left j (lines_left rest) k)
by_lines (expired j n row ∷ rest) k = ap (λ (b : Bool). not (same_key j k) && b) (by_lines rest k) ∙ sym (among_left j (lines_left rest) k)
by_lines (counted j n c ∷ rest) k = by_lines rest k
by_lines (seen q j x c ∷ rest) k = by_lines rest k
by_lines (drew j n c ∷ rest) k = by_lines rest k
by_lines (missed q ∷ rest) k = by_lines rest k
by_lines (late q ∷ rest) k = by_lines rest k

-- ---- configurations don't matter

of_rows : {C D : Type 0} (f : C → D) (answers : List (Answer C)) (k : Key) → bound_in (map (with_configs f) answers) k ≡ bound_in answers k
unfolding bound_in bound_by
of_rows f [] k = refl
of_rows f (opened j x c ∷ rest) k = ap (λ (b : Bool). same_key j k || b) (of_rows f rest k)
of_rows f (configured j c ∷ rest) k = of_rows f rest k
of_rows f (counted j n c ∷ rest) k = of_rows f rest k
of_rows f (closed j n ∷ rest) k = ap (λ (b : Bool). not (same_key j k) && b) (of_rows f rest k)
of_rows f (expired j n c ∷ rest) k = ap (λ (b : Bool). not (same_key j k) && b) (of_rows f rest k)
of_rows f (seen q j x c ∷ rest) k = of_rows f rest k
of_rows f (drew j n c ∷ rest) k = of_rows f rest k
of_rows f (missed q ∷ rest) k = of_rows f rest k
of_rows f (late q ∷ rest) k = of_rows f rest k

-- ---- keys of lines

keys_of : List Line → List Key
keys_of = map (λ l. l.key)

among_keys : (ls : List Line) (k : Key) → is_among k (keys_of ls) ≡ among k ls
unfolding keys_of among
among_keys [] k = refl
among_keys (l ∷ ls) k = ap (λ (b : Bool). same_key l.key k || b) (among_keys ls k)

-- a key is opened only where it isn't bound
opens_new : {C : Type 0} → List (Answer C) → Type 0
opens_new [] = Unit {0}
opens_new (opened j x c ∷ rest) = (bound_in rest j ≡ false) × opens_new rest
opens_new (configured j c ∷ rest) = opens_new rest
opens_new (counted j n c ∷ rest) = opens_new rest
opens_new (closed j n ∷ rest) = opens_new rest
opens_new (expired j n c ∷ rest) = opens_new rest
opens_new (seen q j x c ∷ rest) = opens_new rest
opens_new (drew j n c ∷ rest) = opens_new rest
opens_new (missed q ∷ rest) = opens_new rest
opens_new (late q ∷ rest) = opens_new rest

not_bound : {C : Type 0} (k : Key) (o : Option (Session C)) → ((b : Session C) → o ≡ Some b → excludes k k ≡ false) → is_some o ≡ false
not_bound k None none = refl
not_bound k (Some b) none = absurd (true_ne_false (sym (excludes_self k) ∙ none b refl))

one_opens : {C : Type 0} (keyed : C → Bool) (w : ℕ) (a : Answer C) (h : List (Event C)) → IsLegal keyed h → IsLegalAt keyed (map_after h) a → IsBy w a → opens_new (answers_in 0 h)
    → opens_new (if 0 == w then with_wrapped_counts a ∷ answers_in 0 h else answers_in 0 h)
unfolding opens_new
one_opens keyed w (opened j x c) h legal at by rest = rw (eq-eqb 0 w (sym by)) (sym (by_table keyed h j legal) ∙ not_bound j (map_after h j) (at.1 j), rest)
one_opens keyed w (configured j c) h legal at by rest = rw (eq-eqb 0 w (sym by)) rest
one_opens keyed w (counted j n c) h legal at by rest = rw (eq-eqb 0 w (sym by)) rest
one_opens keyed w (closed j n) h legal at by rest = rw (eq-eqb 0 w (sym by)) rest
one_opens keyed w (expired j n c) h legal at by rest = rw (eq-eqb 0 w (sym by)) rest
one_opens keyed w (seen q j x c) h legal at by rest = rw (ne_eqb 0 w (λ e. omega (arith, e, by))) rest
one_opens keyed w (drew j n c) h legal at by rest = rw (ne_eqb 0 w (λ e. omega (arith, e, by))) rest
one_opens keyed w (missed q) h legal at by rest = rw (ne_eqb 0 w (λ e. omega (arith, e, by))) rest
one_opens keyed w (late q) h legal at by rest = rw (ne_eqb 0 w (λ e. omega (arith, e, by))) rest

all_open : {C : Type 0} (keyed : C → Bool) (h : List (Event C)) → IsLegal keyed h → opens_new (answers_in 0 h)
unfolding opens_new
all_open keyed [] legal = tt
all_open keyed (e ∷ h) legal = one_opens keyed e.by e.answer h legal.0 legal.1 legal.2 (all_open keyed h legal.0)

rows_open : {C D : Type 0} (f : C → D) (answers : List (Answer C)) → opens_new (map (with_configs f) answers) → opens_new answers
unfolding opens_new
rows_open f [] new = tt
rows_open f (opened j x c ∷ rest) new = (sym (of_rows f rest j) ∙ new.0, rows_open f rest new.1)
rows_open f (configured j c ∷ rest) new = rows_open f rest new
rows_open f (counted j n c ∷ rest) new = rows_open f rest new
rows_open f (closed j n ∷ rest) new = rows_open f rest new
rows_open f (expired j n c ∷ rest) new = rows_open f rest new
rows_open f (seen q j x c ∷ rest) new = rows_open f rest new
rows_open f (drew j n c ∷ rest) new = rows_open f rest new
rows_open f (missed q ∷ rest) new = rows_open f rest new
rows_open f (late q ∷ rest) new = rows_open f rest new

-- ---- each key once

once_more : (ks : List Key) (j : Key) → KeysAreOnce ks → is_among j ks ≡ false → KeysAreOnce (ks ++ j ∷ [])
once_more [] j once new = (refl, tt)
once_more (k ∷ ks) j once new = let o = no_or (same_key k j) (is_among j ks) new in
    (list_any-append (λ i. same_key i k) ks (j ∷ []) ∙ rw once.0 (rw (turned o.0) refl), once_more ks j once.1 o.1)
  where
    turned : same_key k j ≡ false → same_key j k ≡ false
    turned e = is_false (same_key j k) (λ (h : same_key j k ≡ true). true_ne_false (sym (same_key-refl k) ∙ ap (same_key k) (sym (key_same j k h)) ∙ e))

keys_append : (ls : List Line) (l : Line) → keys_of (ls ++ l ∷ []) ≡ keys_of ls ++ l.key ∷ []
unfolding keys_of
keys_append [] l = refl
keys_append (x ∷ ls) l = ap (λ (ks : List Key). x.key ∷ ks) (keys_append ls l)

keys_set : (j : Key) (row : ℕ) (ls : List Line) → keys_of (map (with_line_row j row) ls) ≡ keys_of ls
unfolding keys_of
keys_set j row [] = refl
keys_set j row (l ∷ ls) = λ i. with_row_key j row l i ∷ keys_set j row ls i

once_left : (j : Key) (ls : List Line) → KeysAreOnce (keys_of ls) → KeysAreOnce (keys_of (without_line j ls))
unfolding keys_of
once_left j [] once = tt
once_left j (l ∷ ls) once = ⊎_elim
    (λ (e : same_key l.key j ≡ true). rw e (once_left j ls once.1))
    (λ (e : same_key l.key j ≡ false). rw e (among_keys (without_line j ls) l.key ∙ among_left j ls l.key ∙ ap (λ (b : Bool). not (same_key j l.key) && b) (sym (among_keys ls l.key) ∙ once.0) ∙ none (not (same_key j l.key)), once_left j ls once.1))
    (bool (same_key l.key j))
  where
    none : (b : Bool) → (b && false) ≡ false
    none true = refl
    none false = refl

once_lines : (answers : List (Answer ℕ)) → opens_new answers → KeysAreOnce (keys_of (lines_left answers))
unfolding opens_new keys_of
once_lines [] new = tt
once_lines (opened j x row ∷ rest) new = let l : Line = record { key = j; extra = x; row = row } in
    subst KeysAreOnce (sym (keys_append (lines_left rest) l)) (once_more (keys_of (lines_left rest)) j (once_lines rest new.1) (among_keys (lines_left rest) j ∙ sym (by_lines rest j) ∙ new.0))
once_lines (configured j row ∷ rest) new = subst KeysAreOnce (sym (keys_set j row (lines_left rest))) (once_lines rest new)
once_lines (closed j n ∷ rest) new = once_left j (lines_left rest) (once_lines rest new)
once_lines (expired j n row ∷ rest) new = once_left j (lines_left rest) (once_lines rest new)
once_lines (counted j n c ∷ rest) new = once_lines rest new
once_lines (seen q j x c ∷ rest) new = once_lines rest new
once_lines (drew j n c ∷ rest) new = once_lines rest new
once_lines (missed q ∷ rest) new = once_lines rest new
once_lines (late q ∷ rest) new = once_lines rest new

-- ---- the live sessions of the book

keys_of_lines : (ss : List BookSession) → map (λ s. s.key) ss ≡ keys_of (map line_of ss)
unfolding keys_of
keys_of_lines [] = refl
keys_of_lines (s ∷ ss) = ap (λ (ks : List Key). s.key ∷ ks) (keys_of_lines ss)

pub live_bound : (h : List (Event ConfigParts)) (b : Book) (f : ℕ → ConfigParts) → IsLegal has_key h → answers_in 0 h ≡ map (with_configs f) (answers_of b) → map line_of b.live ≡ lines_left (answers_of b) → AreBound h (map (λ s. s.key) b.live)
live_bound h b f legal own lines = let keys : map (λ (s : BookSession). s.key) b.live ≡ keys_of (lines_left (answers_of b)) = keys_of_lines b.live ∙ ap keys_of lines in record {
  once = subst KeysAreOnce (sym keys) (once_lines (answers_of b) (rows_open f (answers_of b) (subst opens_new own (all_open has_key h legal))));
  bound = λ k. by_table has_key h k legal ∙ ap (λ (xs : List (Answer ConfigParts)). bound_in xs k) own ∙ of_rows f (answers_of b) k ∙ by_lines (answers_of b) k
      ∙ sym (among_keys (lines_left (answers_of b)) k) ∙ ap (is_among k) (sym keys);
}
