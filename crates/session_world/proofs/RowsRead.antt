-- The rows of a turn's answers were named by open words, and were read as the desk wrote them.
use Rattle.std.proofs.Common.{◌≡◌, inl, inr, ⊎_elim, ℕ, ◌<◌, ◌==◌, Bool, true, false, ◌&&◌, not, if◌then◌else◌, List, [], ◌∷◌, ◌++◌, sym, refl, ap, ◌∙◌, subst, arith, eq-eqb, Option, Some, None}
use Rattle.slot_word.specs.Fields.{sequence_in, row_in, is_open_word}
use Rattle.config_rows.specs.Words.{config_of_words}
use Rattle.session_world.specs.declared.steps.Step.{Step}
use Rattle.session_world.specs.declared.steps.Part.{Part}
use Rattle.session_world.specs.declared.steps.Step.TheVariants.{Look, LoadKey, Draw, LoadRow, Announce, Retire}
use Rattle.session_world.specs.Keys.{key_of, extra_of, config_of}
use Rattle.session_world.specs.Desk.{row_word_of}
use Rattle.session_world.specs.Worker.{LastLook, has_key_words, key_matches, after_look, takes_key, with_key_word, after_key, after_hold, last_look}
use Rattle.session_world.specs.Answers.{Answer, seen, drew, missed, late, is_miss, words_give, completes_key, draw_answer, step_gives, worker_answers}
use Rattle.session_world.specs.Loads.{RowLoadsAre, names_open, AllPartWords, HasLoaded, HasLoadedRow}
use Rattle.session_world.specs.OneThread.{after_turn, turn_part}
use Rattle.session_world.specs.RowsRead.{AnswersRow, AnswersName, RowsTell}
use Rattle.session_world.proofs.BoolFacts.{both, and_i, or_l, or_r}
use Rattle.session_world.proofs.ReadWords.{open_is_named, loaded_words}

-- ---- the last look, where it found an open word

still_named : (s : Step) (xs : List Step) (r : ℕ) → names_open xs r ≡ true → names_open (s ∷ xs) r ≡ true
still_named (Look slot query read) xs r h = or_r (is_open_word read && (r == row_in read)) (names_open xs r) h
still_named (Draw slot read) xs r h = or_r (is_open_word read && (r == row_in read)) (names_open xs r) h
still_named _ xs r h = h

Named : List Step → Option LastLook → Type 0
Named xs None = Unit {0}
Named xs (Some s) = is_open_word s.read ≡ true → names_open xs (row_in s.read) ≡ true

named_more : (s : Step) (xs : List Step) (o : Option LastLook) → Named xs o → Named (s ∷ xs) o
unfolding Named
named_more s xs None h = tt
named_more s xs (Some l) h = λ o. still_named s xs (row_in l.read) (h o)

named_key : (s : Step) (xs : List Step) (o : Option LastLook) (i k n : ℕ) → Named xs o → Named (s ∷ xs) (after_key o i k n)
unfolding Named
named_key s xs None i k n h = tt
named_key s xs (Some l) i k n h = at (takes_key l i) where
  at : (b : Bool) → Named (s ∷ xs) (Some (if b then with_key_word l k n else l))
  at true = λ o. still_named s xs (row_in l.read) (h o)
  at false = λ o. still_named s xs (row_in l.read) (h o)

named_hold : (s : Step) (xs : List Step) (o : Option LastLook) → Named xs o → Named (s ∷ xs) (after_hold o)
unfolding Named
named_hold s xs None h = tt
named_hold s xs (Some l) h = λ o. still_named s xs (row_in l.read) (h o)

last_named : (slots : ℕ) (xs : List Step) → Named xs (last_look slots xs)
unfolding Named
last_named slots [] = tt
last_named slots (Look slot query read ∷ xs) = λ o. or_l (is_open_word read && (row_in read == row_in read)) (names_open xs (row_in read)) (and_i (is_open_word read) (row_in read == row_in read) o (eq-eqb (row_in read) (row_in read) refl))
last_named slots (LoadKey slot index read ∷ xs) = named_key (LoadKey slot index read) xs (last_look slots xs) slot index read (last_named slots xs)
last_named slots (Draw slot read ∷ xs) = tt
last_named slots (Announce slot ∷ xs) = named_hold (Announce slot) xs (last_look slots xs) (last_named slots xs)
last_named slots (Retire ∷ xs) = named_hold Retire xs (last_look slots xs) (last_named slots xs)
last_named slots (s ∷ xs) = named_more s xs (last_look slots xs) (last_named slots xs)

-- ---- each answer's row

-- the rows of the answers are among those for which P holds
Within : (ℕ → Type 0) → List (Answer ℕ) → Type 0
Within P ys = (r : ℕ) → AnswersRow r ys → P r

within_both : (P : ℕ → Type 0) (ys zs : List (Answer ℕ)) → Within P ys → Within P zs → Within P (ys ++ zs)
unfolding Within
within_both P [] zs f g = g
within_both P (seen q k x s ∷ ys) zs f g = λ r h. ⊎_elim (λ (e : r ≡ s). f r (inl e)) (λ (t : AnswersRow r (ys ++ zs)). within_both P ys zs (λ i a. f i (inr a)) g r t) h
within_both P (drew k n s ∷ ys) zs f g = λ r h. ⊎_elim (λ (e : r ≡ s). f r (inl e)) (λ (t : AnswersRow r (ys ++ zs)). within_both P ys zs (λ i a. f i (inr a)) g r t) h
within_both P (_ ∷ ys) zs f g = within_both P ys zs f g

within_if : (P : ℕ → Type 0) (b : Bool) (ys zs : List (Answer ℕ)) → (b ≡ true → Within P ys) → Within P zs → Within P (if b then ys else zs)
within_if P true ys zs f g = f refl
within_if P false ys zs f g = g

none_within : (P : ℕ → Type 0) → Within P []
unfolding Within
none_within P r h = absurd h

missed_within : (P : ℕ → Type 0) (l : LastLook) → Within P (missed l.query ∷ [])
unfolding Within
missed_within P l r h = absurd h

words_within : (P : ℕ → Type 0) (slots : ℕ) (l : LastLook) → P (row_in l.read) → Within P (words_give slots l)
unfolding Within
words_within P slots l p = within_if P (key_matches l) (seen l.query (key_of l.word) (extra_of l.word) (row_in l.read) ∷ []) (if l.number == slots then missed l.query ∷ [] else [])
    (λ e r h. ⊎_elim (λ (x : r ≡ row_in l.read). subst P (sym x) p) (λ (x : ⊥). absurd x) h)
    (within_if P (l.number == slots) (missed l.query ∷ []) [] (λ e. missed_within P l) (none_within P))

takes_open : (l : LastLook) (i : ℕ) → takes_key l i ≡ true → is_open_word l.read ≡ true
unfolding takes_key
takes_open l i h = (both l.live (is_open_word l.read) (both (l.live && is_open_word l.read) (i == l.slot) h).0).1

completes_takes : (l : LastLook) (i k n : ℕ) → completes_key l i k n ≡ true → takes_key l i ≡ true
unfolding completes_key
completes_takes l i k n h = let a = both (takes_key l i && not (l.number == 0) && not (has_key_words l)) (has_key_words (with_key_word l k n)) h in let b = both (takes_key l i && not (l.number == 0)) (not (has_key_words l)) a.0 in (both (takes_key l i) (not (l.number == 0)) b.0).0

draw_within : (P : ℕ → Type 0) (l : LastLook) (n : ℕ) → (is_open_word n ≡ true → P (row_in n)) → Within P (draw_answer l n ∷ [])
unfolding Within
draw_within P l n p = at (is_open_word n) p where
  at : (b : Bool) → (b ≡ true → P (row_in n)) → Within P ((if b then drew (key_of l.word) (sequence_in n) (row_in n) else late l.query) ∷ [])
  at true q = λ r h. ⊎_elim (λ (x : r ≡ row_in n). subst P (sym x) (q refl)) (λ (x : ⊥). absurd x) h
  at false q = λ r h. absurd h

NamedBy : List Step → ℕ → Type 0
NamedBy xs r = names_open xs r ≡ true

step_within : (slots : ℕ) (s : Step) (xs : List Step) (o : Option LastLook) → Named xs o → Within (NamedBy (s ∷ xs)) (step_gives slots o s)
unfolding Named NamedBy
step_within slots (Look slot query read) xs o h = let l = after_look slots o slot query read in within_if (NamedBy (Look slot query read ∷ xs)) (is_miss slots l) (missed l.query ∷ []) [] (λ e. missed_within (NamedBy (Look slot query read ∷ xs)) l) (none_within (NamedBy (Look slot query read ∷ xs)))
step_within slots (LoadKey slot index read) xs None h = none_within (NamedBy (LoadKey slot index read ∷ xs))
step_within slots (LoadKey slot index read) xs (Some l) h = within_if (NamedBy (LoadKey slot index read ∷ xs)) (completes_key l slot index read) (words_give slots (with_key_word l index read)) []
    (λ e. words_within (NamedBy (LoadKey slot index read ∷ xs)) slots (with_key_word l index read) (h (takes_open l slot (completes_takes l slot index read e))))
    (none_within (NamedBy (LoadKey slot index read ∷ xs)))
step_within slots (Draw slot read) xs None h = none_within (NamedBy (Draw slot read ∷ xs))
step_within slots (Draw slot read) xs (Some l) h = draw_within (NamedBy (Draw slot read ∷ xs)) l read (λ o. or_l (is_open_word read && (row_in read == row_in read)) (names_open xs (row_in read)) (and_i (is_open_word read) (row_in read == row_in read) o (eq-eqb (row_in read) (row_in read) refl)))
step_within slots s xs o h = none_within (NamedBy (s ∷ xs))

answers_within : (slots : ℕ) (xs : List Step) → Within (NamedBy xs) (worker_answers slots xs)
unfolding Within NamedBy
answers_within slots [] = none_within (NamedBy [])
answers_within slots (s ∷ xs) = within_both (NamedBy (s ∷ xs)) (step_gives slots (last_look slots xs) s) (worker_answers slots xs)
    (step_within slots s xs (last_look slots xs) (last_named slots xs))
    (λ r h. still_named s xs r (answers_within slots xs r h))

pub answers_name : AnswersName
unfolding Within NamedBy
answers_name slots xs r h = answers_within slots xs r h

-- ---- what was read there

read_is : (f : ℕ → ℕ) (r k n : ℕ) (xs : List Step) → RowLoadsAre f r xs → HasLoaded r k n xs → f k ≡ n
read_is f r k n [] l h = absurd h
read_is f r k n (LoadRow row index read ∷ xs) l h = ⊎_elim
    (λ (x : (r ≡ row) × (k ≡ index) × (n ≡ read)). ap f x.1 ∙ (sym (l.0 x.0) ∙ sym x.2))
    (λ (x : HasLoaded r k n xs). read_is f r k n xs l.1 x) h
read_is f r k n (_ ∷ xs) l h = read_is f r k n xs l h

twelve : (f g : ℕ → ℕ) → ((k : ℕ) → 0 < k → k < 13 → f k ≡ g k) → config_of f ≡ config_of g
unfolding config_of
twelve f g e =
    ap config_of_words (λ i. e 1 (omega arith) (omega arith) i ∷ e 2 (omega arith) (omega arith) i ∷ e 3 (omega arith) (omega arith) i ∷ e 4 (omega arith) (omega arith) i ∷ e 5 (omega arith) (omega arith) i ∷ e 6 (omega arith) (omega arith) i
    ∷ e 7 (omega arith) (omega arith) i ∷ e 8 (omega arith) (omega arith) i ∷ e 9 (omega arith) (omega arith) i ∷ e 10 (omega arith) (omega arith) i ∷ e 11 (omega arith) (omega arith) i ∷ e 12 (omega arith) (omega arith) i ∷ [])

-- the words that were loaded of a row are those of its configuration
pub loads_config : (f : ℕ → ℕ) (r : ℕ) (word : ℕ → ℕ) (xs : List Step) → RowLoadsAre f r xs → HasLoadedRow r word xs → config_of f ≡ config_of word
loads_config f r word xs l loads = twelve f word (λ k lo hi. read_is f r k (word k) xs l (loads k lo hi))

pub rows_tell : RowsTell
rows_tell z ds ps w n m xs between schedule r word h loads =
    let now : List Step = after_turn ds w n m in
    let words : AllPartWords z now (turn_part ds w n xs ∷ ps) = subst (λ (x : List Step × List Part). AllPartWords z x.0 x.1) (λ i. (schedule.2 i, schedule.3 i)) (loaded_words z schedule.0 between.within schedule.1).parts in
    let named = answers_name z.slots xs r h in
    let low = (words.0.named r named).0 in
    let row = words.0.rows r (λ e. omega (arith, low, e)) (open_is_named xs r named) in
    loads_config (row_word_of ds r) r word xs row.2 loads
