-- A worker's visit to a slot: it announces the slot, looks, and loads the four key words where the slot is open (this project's
-- own). The latest step comes first.
use Rattle.std.specs.Prelude.{◌≡◌, ℕ, true, List, ◌∷◌, ◌++◌, Option, Some}
use Rattle.slot_word.specs.Fields.{is_open_word}
use Rattle.session_world.specs.declared.steps.Step.{Step}
use Rattle.session_world.specs.declared.steps.Step.TheVariants.{Look, Announce}
use Rattle.session_world.specs.Keys.{Query, key_of, extra_of, same_query}
use Rattle.session_world.specs.Worker.{LastLook, names_row, has_key_words, number_of, after_look, with_key_word, after_hold, last_look}
use Rattle.session_world.specs.Answers.{words_give, worker_answers}
use Rattle.session_world.specs.Loads.{key_loads, KeyLoadsAre, names_open}

-- the slot was announced, and then looked at
abbrev pub look_steps : ℕ → Query → ℕ → List Step → List Step
look_steps slot q read xs = Look slot q read ∷ Announce slot ∷ xs

-- the look, as the last one
abbrev pub look_made : ℕ → ℕ → Query → ℕ → List Step → LastLook
look_made slots slot q read xs = after_look slots (after_hold (last_look slots xs)) slot q read

-- a look that has read these four key words
abbrev pub with_key_words : LastLook → (ℕ → ℕ) → LastLook
with_key_words s word = with_key_word (with_key_word (with_key_word (with_key_word s 1 (word 1)) 2 (word 2)) 3 (word 3)) 4 (word 4)

-- What a visit leaves as the last look, and what it answers. To announce changes nothing of a walk's number
pub record VisitsTell : Type 0 where
  pub query_self : (q : Query) → same_query q q ≡ true
  pub number_held : (slots : ℕ) (o : Option LastLook) (i : ℕ) (q : Query) → number_of slots (after_hold o) i q ≡ number_of slots o i q
  pub open_look : (slots slot read : ℕ) (q : Query) (xs : List Step) (word : ℕ → ℕ) → is_open_word read ≡ true
      → last_look slots (key_loads slot word (look_steps slot q read xs)) ≡ Some (with_key_words (look_made slots slot q read xs) word)
  pub open_answers : (slots slot read : ℕ) (q : Query) (xs : List Step) (word : ℕ → ℕ) → is_open_word read ≡ true → ¬ ((look_made slots slot q read xs).number ≡ 0)
      → worker_answers slots (key_loads slot word (look_steps slot q read xs)) ≡ words_give slots (with_key_words (look_made slots slot q read xs) word) ++ worker_answers slots xs
  pub key_seen : (slots : ℕ) (f : ℕ → ℕ) (xs : List Step) (s : LastLook) → KeyLoadsAre f xs → last_look slots xs ≡ Some s → s.live ≡ true → has_key_words s ≡ true
      → (key_of s.word ≡ key_of f) × (extra_of s.word ≡ extra_of f)
  pub open_names : (xs : List Step) (r : ℕ) → names_open xs r ≡ true → names_row xs r ≡ true
