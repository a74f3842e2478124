-- The keys of entries, in the order of opening, and tests on them.
use Rattle.std.proofs.Common.{◌≡◌, ⊎_elim, ℕ, suc, ◌≤◌, Bool, true, false, ◌||◌, not, List, [], ◌∷◌, ◌++◌, length, map, sym, refl, ap, ◌∙◌, arith}
use Rattle.std.specs.List.{filter, list_any}
use Rattle.refl_types.specs.declared.types.Key.{Key}
use Rattle.refl_types.specs.declared.types.Extra.{Extra}
use Rattle.refl_types.specs.Same.{same_key}
use Rattle.refl_types.proofs.SameFacts.{key_same}
use Rattle.session_world.specs.Answers.{Answer, opened, configured, closed}
use Rattle.session_desk.specs.declared.session.Session.{Session}
use Rattle.session_desk.specs.Book.{Book, Line, line_of, with_line_row, without_line, lines_left, answers_of}
use Rattle.session_desk.specs.Fits.{BookFits}
use Rattle.session_desk.proofs.BoolFacts.{bool, no_or}
use Rattle.replay_table.specs.Table.{Entry, is_bound, with_entry, update, without}
use Rattle.replay_table.specs.Apart.{AreApart}
use Rattle.shared_replay.specs.Stands.{live_keys, keys_of}
use Rattle.shared_replay.proofs.EntryFacts.{others_differ}

pub any_map : {A B : Type 0} (f : A → B) (p : B → Bool) (xs : List A) → list_any (λ x. p (f x)) xs ≡ list_any p (map f xs)
any_map f p [] = refl
any_map f p (x ∷ xs) = ap (λ (b : Bool). p (f x) || b) (any_map f p xs)

pub length_map : {A B : Type 0} (f : A → B) (xs : List A) → length (map f xs) ≡ length xs
length_map f [] = refl
length_map f (x ∷ xs) = ap suc (length_map f xs)

map_push : {A B : Type 0} (f : A → B) (xs : List A) (x : A) → map f (xs ++ x ∷ []) ≡ map f xs ++ f x ∷ []
map_push f [] x = refl
map_push {A} {B} f (y ∷ xs) x = ap (λ (l : List B). f y ∷ l) (map_push f xs x)

pub fewer_filtered : {A : Type 0} (p : A → Bool) (xs : List A) → length (filter p xs) ≤ length xs
fewer_filtered p [] = omega arith
fewer_filtered p (x ∷ xs) = let h = fewer_filtered p xs in ⊎_elim
    (λ (y : p x ≡ true). rw y (omega (arith, h)))
    (λ (y : p x ≡ false). rw y (omega (arith, h)))
    (bool (p x))

-- ---- the keys of entries

pub keys_added : (es : List Entry) (e : Entry) → keys_of (with_entry e es) ≡ keys_of es ++ e.key ∷ []
keys_added es e = map_push (λ (d : Entry). d.key) es e

pub keys_updated : (k : Key) (f : Entry → Entry) → ((e : Entry) → (f e).key ≡ e.key) → (es : List Entry) → keys_of (update k f es) ≡ keys_of es
keys_updated k f keeps [] = refl
keys_updated k f keeps (e ∷ es) = ⊎_elim
    (λ (y : same_key e.key k ≡ true). rw y (ap (λ (j : Key). j ∷ keys_of es) (keeps e)))
    (λ (y : same_key e.key k ≡ false). rw y (ap (λ (l : List Key). e.key ∷ l) (keys_updated k f keeps es)))
    (bool (same_key e.key k))

none_left_out : (k : Key) (es : List Entry) → is_bound k es ≡ false → filter (λ j. not (same_key j k)) (keys_of es) ≡ keys_of es
none_left_out k [] h = refl
none_left_out k (e ∷ es) h = let x = no_or (same_key e.key k) (is_bound k es) h in rw x.0 (ap (λ (l : List Key). e.key ∷ l) (none_left_out k es x.1))

pub keys_without : (k : Key) (es : List Entry) → AreApart es → keys_of (without k es) ≡ filter (λ j. not (same_key j k)) (keys_of es)
keys_without k [] apart = refl
keys_without k (e ∷ es) apart = ⊎_elim
    (λ (y : same_key e.key k ≡ true). rw y (sym (none_left_out k es (ap (λ (i : Key). is_bound i es) (sym (key_same e.key k y)) ∙ others_differ e.key es apart.0))))
    (λ (y : same_key e.key k ≡ false). rw y (ap (λ (l : List Key). e.key ∷ l) (keys_without k es apart.1)))
    (bool (same_key e.key k))

-- ---- the keys of live sessions, by the desk's answers

line_keys : List Line → List Key
line_keys ls = map (λ l. l.key) ls

keys_of_lines : (ss : List Session) → map (λ s. s.key) ss ≡ line_keys (map line_of ss)
unfolding line_keys
keys_of_lines [] = refl
keys_of_lines (s ∷ ss) = ap (λ (l : List Key). s.key ∷ l) (keys_of_lines ss)

live_by_lines : (b : Book) → BookFits b → live_keys b ≡ line_keys (lines_left (answers_of b))
live_by_lines b fits = keys_of_lines b.live ∙ ap line_keys fits.lines

row_keys : (k : Key) (row : ℕ) (ls : List Line) → line_keys (map (with_line_row k row) ls) ≡ line_keys ls
unfolding line_keys
row_keys k row [] = refl
row_keys k row (l ∷ ls) = ⊎_elim
    (λ (y : same_key l.key k ≡ true). rw y (ap (λ (x : List Key). l.key ∷ x) (row_keys k row ls)))
    (λ (y : same_key l.key k ≡ false). rw y (ap (λ (x : List Key). l.key ∷ x) (row_keys k row ls)))
    (bool (same_key l.key k))

left_keys : (k : Key) (ls : List Line) → line_keys (without_line k ls) ≡ filter (λ j. not (same_key j k)) (line_keys ls)
unfolding line_keys
left_keys k [] = refl
left_keys k (l ∷ ls) = ⊎_elim
    (λ (y : same_key l.key k ≡ true). rw y (left_keys k ls))
    (λ (y : same_key l.key k ≡ false). rw y (ap (λ (x : List Key). l.key ∷ x) (left_keys k ls)))
    (bool (same_key l.key k))

pub live_opened : (b c : Book) (k : Key) (x : Extra) (row : ℕ) → BookFits b → BookFits c → answers_of c ≡ opened k x row ∷ answers_of b → live_keys c ≡ live_keys b ++ k ∷ []
unfolding line_keys
live_opened b c k x row fb fc e =
    live_by_lines c fc ∙ ap (λ (a : List (Answer ℕ)). line_keys (lines_left a)) e ∙ map_push (λ (l : Line). l.key) (lines_left (answers_of b)) (record { key = k; extra = x; row = row }) ∙ ap (λ (l : List Key). l ++ k ∷ []) (sym (live_by_lines b fb))

pub live_configured : (b c : Book) (k : Key) (row : ℕ) → BookFits b → BookFits c → answers_of c ≡ configured k row ∷ answers_of b → live_keys c ≡ live_keys b
live_configured b c k row fb fc e = live_by_lines c fc ∙ ap (λ (a : List (Answer ℕ)). line_keys (lines_left a)) e ∙ row_keys k row (lines_left (answers_of b)) ∙ sym (live_by_lines b fb)

pub live_closed : (b c : Book) (k : Key) (n : ℕ) → BookFits b → BookFits c → answers_of c ≡ closed k n ∷ answers_of b → live_keys c ≡ filter (λ j. not (same_key j k)) (live_keys b)
live_closed b c k n fb fc e = live_by_lines c fc ∙ ap (λ (a : List (Answer ℕ)). line_keys (lines_left a)) e ∙ left_keys k (lines_left (answers_of b)) ∙ ap (filter (λ j. not (same_key j k))) (sym (live_by_lines b fb))

pub live_same : (b c : Book) → BookFits b → BookFits c → answers_of c ≡ answers_of b → live_keys c ≡ live_keys b
live_same b c fb fc e = live_by_lines c fc ∙ ap (λ (a : List (Answer ℕ)). line_keys (lines_left a)) e ∙ sym (live_by_lines b fb)

pub few_live : (b : Book) (ks : List Key) → live_keys b ≡ ks → length b.live ≡ length ks
few_live b ks e = sym (length_map (λ (s : Session). s.key) b.live) ∙ ap length e
