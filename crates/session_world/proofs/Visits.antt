-- What a worker's visit to a slot leaves and answers.
use Rattle.std.proofs.Common.{◌≡◌, ◌≢◌, ⊎_elim, ℕ, ◌==◌, true, false, ◌&&◌, not, List, [], ◌∷◌, ◌++◌, sym, refl, ap, ◌∙◌, subst, eq-eqb, ne_eqb, Option, Some, None}
use Rattle.slot_word.specs.Fields.{is_open_word}
use Rattle.refl_types.proofs.SameFacts.{eqb-same, same_endpoint-refl}
use Rattle.session_key.specs.Words.{key_of_words, extra_of_words}
use Rattle.session_world.specs.declared.steps.Step.{Step}
use Rattle.session_world.specs.declared.steps.Step.TheVariants.{Look, LoadKey, Draw, Announce, Retire}
use Rattle.session_world.specs.Keys.{Query, key_of, extra_of, same_number, same_query}
use Rattle.session_world.specs.Worker.{LastLook, has_key_words, key_matches, is_passed, continues_walk, number_of, takes_key, with_key_word, after_key, after_hold, last_look}
use Rattle.session_world.specs.Answers.{Answer, missed, is_miss, look_gives, words_give, completes_key, key_gives, worker_answers}
use Rattle.session_world.specs.Loads.{key_loads, KeyLoadsAre}
use Rattle.session_world.specs.Visits.{look_steps, look_made, with_key_words, VisitsTell}
use Rattle.session_world.proofs.BoolFacts.{true_ne_false, bool, no_and, number_case, put_same, put_other, if_yes, if_no}
use Rattle.session_world.proofs.Tied.{full_words}
use Rattle.session_world.proofs.ReadWords.{open_is_named}

-- ---- the number of a look

number_self : (o : Option ℕ) → same_number o o ≡ true
number_self None = refl
number_self (Some n) = eqb-same n

query_self : (q : Query) → same_query q q ≡ true
unfolding same_query
query_self q = rw (eqb-same q.local, same_endpoint-refl q.peer, number_self q.plain, number_self q.auth) refl

number_held : (slots : ℕ) (o : Option LastLook) (i : ℕ) (q : Query) → number_of slots (after_hold o) i q ≡ number_of slots o i q
unfolding continues_walk is_passed has_key_words key_matches
number_held slots None i q = refl
number_held slots (Some s) i q = refl

-- ---- a look that finds the slot open, and the loads of its key

takes : (s : LastLook) (slot : ℕ) → s.live ≡ true → is_open_word s.read ≡ true → s.slot ≡ slot → takes_key s slot ≡ true
unfolding takes_key
takes s slot live o at = rw (live, o, eq-eqb slot s.slot (sym at)) refl

full : (s : LastLook) (word : ℕ → ℕ) → has_key_words (with_key_words s word) ≡ true
unfolding has_key_words
full s word = refl

module _ (slots slot read : ℕ) (q : Query) (xs : List Step) (word : ℕ → ℕ) (o : is_open_word read ≡ true) where
  abbrev s0 : LastLook
  s0 = look_made slots slot q read xs

  abbrev s1 : LastLook
  s1 = with_key_word s0 1 (word 1)

  abbrev s2 : LastLook
  s2 = with_key_word s1 2 (word 2)

  abbrev s3 : LastLook
  s3 = with_key_word s2 3 (word 3)

  takes_all : (s : LastLook) → s.live ≡ true → s.read ≡ read → s.slot ≡ slot → (k n : ℕ) → after_key (Some s) slot k n ≡ Some (with_key_word s k n)
  takes_all s live is at k n = ap (λ (l : LastLook). Some l) (if_yes (takes_key s slot) (with_key_word s k n) s (takes s slot live (ap is_open_word is ∙ o) at))

  look1 : after_key (Some s0) slot 1 (word 1) ≡ Some s1
  look1 = takes_all s0 refl refl refl 1 (word 1)

  look2 : after_key (after_key (Some s0) slot 1 (word 1)) slot 2 (word 2) ≡ Some s2
  look2 = ap (λ (l : Option LastLook). after_key l slot 2 (word 2)) look1 ∙ takes_all s1 refl refl refl 2 (word 2)

  look3 : after_key (after_key (after_key (Some s0) slot 1 (word 1)) slot 2 (word 2)) slot 3 (word 3) ≡ Some s3
  look3 = ap (λ (l : Option LastLook). after_key l slot 3 (word 3)) look2 ∙ takes_all s2 refl refl refl 3 (word 3)

  pub open_look : last_look slots (key_loads slot word (look_steps slot q read xs)) ≡ Some (with_key_words s0 word)
  open_look = ap (λ (l : Option LastLook). after_key l slot 4 (word 4)) look3 ∙ takes_all s3 refl refl refl 4 (word 4)

  gives_none : (s : LastLook) (k n : ℕ) → has_key_words (with_key_word s k n) ≡ false → key_gives slots (Some s) slot k n ≡ []
  unfolding completes_key
  gives_none s k n e = rw (e, no_and (takes_key s slot && not (s.number == 0) && not (has_key_words s))) refl

  none1 : has_key_words s1 ≡ false
  unfolding has_key_words
  none1 = refl

  none2 : has_key_words s2 ≡ false
  unfolding has_key_words
  none2 = refl

  none3 : has_key_words s3 ≡ false
  unfolding has_key_words
  none3 = refl

  gives_last : ¬ (s0.number ≡ 0) → key_gives slots (Some s3) slot 4 (word 4) ≡ words_give slots (with_key_words s0 word)
  unfolding completes_key
  gives_last some = rw (takes s3 slot refl o refl, ne_eqb s0.number 0 some, none3, full s0 word) refl

  no_miss : is_miss slots s0 ≡ false
  unfolding is_miss
  no_miss = rw (o, no_and (not (s0.number == 0))) refl

  -- the answers of the look and of four loads, by the looks before the last three
  all_give : Option LastLook → Option LastLook → Option LastLook → List (Answer ℕ)
  all_give a b c = key_gives slots c slot 4 (word 4) ++ (key_gives slots b slot 3 (word 3) ++ (key_gives slots a slot 2 (word 2) ++ (key_gives slots (Some s0) slot 1 (word 1) ++ (look_gives slots s0 ++ worker_answers slots xs))))

  each_gives : ¬ (s0.number ≡ 0) → all_give (Some s1) (Some s2) (Some s3) ≡ words_give slots (with_key_words s0 word) ++ worker_answers slots xs
  unfolding all_give
  each_gives some = λ i. gives_last some i ++ (gives_none s2 3 (word 3) none3 i ++ (gives_none s1 2 (word 2) none2 i ++ (gives_none s0 1 (word 1) none1 i ++ (if_no (is_miss slots s0) (missed q ∷ []) [] no_miss i ++ worker_answers slots xs))))

  pub open_answers : ¬ (s0.number ≡ 0) → worker_answers slots (key_loads slot word (look_steps slot q read xs)) ≡ words_give slots (with_key_words s0 word) ++ worker_answers slots xs
  unfolding all_give
  open_answers some = (λ i. all_give (look1 i) (look2 i) (look3 i)) ∙ each_gives some

-- ---- the key words that a live look has read

abbrev HasReadOf : (ℕ → ℕ) → Option LastLook → Type 0
HasReadOf f None = Unit {0}
HasReadOf f (Some s) = s.live ≡ true → (k : ℕ) → s.has_read k ≡ true → s.word k ≡ f k

with_word : (f : ℕ → ℕ) (s : LastLook) (index read : ℕ) → read ≡ f index → HasReadOf f (Some s) → HasReadOf f (Some (with_key_word s index read))
with_word f s index read e h live k got = number_case k index
    (λ (x : k ≡ index). ap (λ (j : ℕ). with_word_at j) x ∙ (put_same s.word index read ∙ (e ∙ sym (ap f x))))
    (λ (x : k ≢ index). put_other s.word index read k x ∙ h live k (sym (put_other s.has_read index true k x) ∙ got))
  where
    with_word_at : ℕ → ℕ
    with_word_at = (with_key_word s index read).word

load_reads : (f : ℕ → ℕ) (o : Option LastLook) (slot index read : ℕ) → read ≡ f index → HasReadOf f o → HasReadOf f (after_key o slot index read)
load_reads f None slot index read e h = tt
load_reads f (Some s) slot index read e h = ⊎_elim
    (λ (x : takes_key s slot ≡ true). subst (λ (l : LastLook). HasReadOf f (Some l)) (sym (if_yes (takes_key s slot) (with_key_word s index read) s x)) (with_word f s index read e h))
    (λ (x : takes_key s slot ≡ false). subst (λ (l : LastLook). HasReadOf f (Some l)) (sym (if_no (takes_key s slot) (with_key_word s index read) s x)) h)
    (bool (takes_key s slot))

hold_reads : (f : ℕ → ℕ) (o : Option LastLook) → HasReadOf f (after_hold o)
hold_reads f None = tt
hold_reads f (Some s) = λ live k got. absurd (true_ne_false (sym live))

has_read : (slots : ℕ) (f : ℕ → ℕ) (xs : List Step) → KeyLoadsAre f xs → HasReadOf f (last_look slots xs)
has_read slots f [] h = tt
has_read slots f (Look slot query read ∷ xs) h = λ live k got. absurd (true_ne_false (sym got))
has_read slots f (LoadKey slot index read ∷ xs) h = load_reads f (last_look slots xs) slot index read h.0 (has_read slots f xs h.1)
has_read slots f (Draw slot read ∷ xs) h = tt
has_read slots f (Announce slot ∷ xs) h = hold_reads f (last_look slots xs)
has_read slots f (Retire ∷ xs) h = hold_reads f (last_look slots xs)
has_read slots f (_ ∷ xs) h = has_read slots f xs h

key_seen : (slots : ℕ) (f : ℕ → ℕ) (xs : List Step) (s : LastLook) → KeyLoadsAre f xs → last_look slots xs ≡ Some s → s.live ≡ true → has_key_words s ≡ true → (key_of s.word ≡ key_of f) × (extra_of s.word ≡ extra_of f)
unfolding key_of extra_of
key_seen slots f xs s h is live all =
    let g = subst (HasReadOf f) is (has_read slots f xs h) live in let a = full_words s all in
    let same : s.word 1 ∷ s.word 2 ∷ s.word 3 ∷ s.word 4 ∷ [] ≡ f 1 ∷ f 2 ∷ f 3 ∷ f 4 ∷ [] = λ i. g 1 a.0 i ∷ g 2 a.1 i ∷ g 3 a.2 i ∷ g 4 a.3 i ∷ [] in
    (ap key_of_words same, ap extra_of_words same)

pub visits_tell : VisitsTell
visits_tell = record {
  query_self = query_self;
  number_held = number_held;
  open_look = open_look;
  open_answers = open_answers;
  key_seen = key_seen;
  open_names = open_is_named;
}
