-- The answers that an actor's own list gives (this project's own). A configuration is named by its row here, and counts are modulo 2 ^ 32.
use Rattle.std.specs.Prelude.{ℕ, ◌==◌, Bool, true, false, ◌||◌, ◌&&◌, not, if◌then◌else◌, List, [], ◌∷◌, ◌++◌, length, Option, Some, None}
use Rattle.slot_word.specs.Fields.{sequence_in, generation_in, row_in, is_open_word}
use Rattle.session_world.specs.declared.steps.Step.{Step}
use Rattle.session_world.specs.declared.steps.Step.TheVariants.{Start, Look, LoadKey, Draw, Split, Reconfigure, Close, Peek, Expire}
use Rattle.session_world.specs.Keys.{Query, Key, Extra, key_of, extra_of}
use Rattle.session_world.specs.Desk.{row_of, key_of_slot, extra_of_slot}
use Rattle.session_world.specs.Worker.{LastLook, has_key_words, key_matches, after_look, takes_key, with_key_word, last_look}

-- what the desk and the workers answer, with C for what names a configuration
pub data Answer (C : Type 0) : Type 0 where
  opened : Key → Extra → C → Answer C
  configured : Key → C → Answer C
  counted : Key → ℕ → C → Answer C
  closed : Key → ℕ → Answer C
  expired : Key → ℕ → C → Answer C
  seen : Query → Key → Extra → C → Answer C
  drew : Key → ℕ → C → Answer C
  missed : Query → Answer C
  late : Query → Answer C

abbrev pub with_configs : {C D : Type 0} → (C → D) → Answer C → Answer D
with_configs f (opened k x c) = opened k x (f c)
with_configs f (configured k c) = configured k (f c)
with_configs f (counted k n c) = counted k n (f c)
with_configs f (closed k n) = closed k n
with_configs f (expired k n c) = expired k n (f c)
with_configs f (seen q k x c) = seen q k x (f c)
with_configs f (drew k n c) = drew k n (f c)
with_configs f (missed q) = missed q
with_configs f (late q) = late q

-- an expire that found what it expected closes the session; any other counts
abbrev pub expire_gives : Bool → Key → ℕ → Answer ℕ
expire_gives true k n = expired k (sequence_in n) (row_in n)
expire_gives false k n = counted k (sequence_in n) (row_in n)

abbrev pub desk_gives : List Step → Step → List (Answer ℕ)
desk_gives ds (Start slot read) = opened (key_of_slot ds slot) (extra_of_slot ds slot) (row_of ds slot) ∷ []
desk_gives ds (Reconfigure slot old new read) = configured (key_of_slot ds slot) new ∷ []
desk_gives ds (Close slot read) = closed (key_of_slot ds slot) (sequence_in read) ∷ []
desk_gives ds (Peek slot read) = counted (key_of_slot ds slot) (sequence_in read) (row_in read) ∷ []
desk_gives ds (Expire slot expected read) = expire_gives (read == expected) (key_of_slot ds slot) read ∷ []
desk_gives ds _ = []

abbrev pub desk_answers : List Step → List (Answer ℕ)
desk_answers [] = []
desk_answers (s ∷ ds) = desk_gives ds s ++ desk_answers ds

-- how many answers the desk had given when it split the worker w off last
abbrev pub answers_at_split : List Step → ℕ → ℕ
answers_at_split [] w = 0
answers_at_split (Split worker read ∷ ds) w = if w == worker then length (desk_answers ds) else answers_at_split ds w
answers_at_split (_ ∷ ds) w = answers_at_split ds w

-- a look ends its walk by a miss at a slot that was never used, and at a closed one where all slots were passed
unfoldable pub is_miss : ℕ → LastLook → Bool
is_miss slots s = not (s.number == 0) && not (is_open_word s.read) && ((generation_in s.read == 0) || (s.number == slots))

abbrev pub look_gives : ℕ → LastLook → List (Answer ℕ)
look_gives slots s = if is_miss slots s then missed s.query ∷ [] else []

-- four key words end it by a sight where they match, and otherwise by a miss where all slots were passed
abbrev pub words_give : ℕ → LastLook → List (Answer ℕ)
words_give slots s =
    if key_matches s then seen s.query (key_of s.word) (extra_of s.word) (row_in s.read) ∷ []
    else if s.number == slots then missed s.query ∷ []
    else []

-- the load is the one that completes the four
unfoldable pub completes_key : LastLook → ℕ → ℕ → ℕ → Bool
completes_key s i k n = takes_key s i && not (s.number == 0) && not (has_key_words s) && has_key_words (with_key_word s k n)

abbrev pub key_gives : ℕ → Option LastLook → ℕ → ℕ → ℕ → List (Answer ℕ)
key_gives slots None i k n = []
key_gives slots (Some s) i k n = if completes_key s i k n then words_give slots (with_key_word s k n) else []

-- a draw from an open word gives its sequence number; from a closed one it came too late
abbrev pub draw_answer : LastLook → ℕ → Answer ℕ
draw_answer s n = if is_open_word n then drew (key_of s.word) (sequence_in n) (row_in n) else late s.query

abbrev pub draw_gives : Option LastLook → ℕ → List (Answer ℕ)
draw_gives None n = []
draw_gives (Some s) n = draw_answer s n ∷ []

abbrev pub step_gives : ℕ → Option LastLook → Step → List (Answer ℕ)
step_gives slots o (Look slot query read) = look_gives slots (after_look slots o slot query read)
step_gives slots o (LoadKey slot index read) = key_gives slots o slot index read
step_gives slots o (Draw slot read) = draw_gives o read
step_gives slots o _ = []

abbrev pub worker_answers : ℕ → List Step → List (Answer ℕ)
worker_answers slots [] = []
worker_answers slots (s ∷ xs) = step_gives slots (last_look slots xs) s ++ worker_answers slots xs
