use Rattle.std.proofs.Common.{◌≡◌, ℕ, ◌<◌, true, List, [], ◌∷◌, Some, None, refl, sym, ap, subst, ◌∙◌, arith}
use Rattle.slot_word.specs.Fields.{is_open_word}
use Rattle.refl_types.specs.declared.types.Address.TheVariants.{V4}
use Rattle.session_key.specs.declared.matching.Query.{Query}
use Rattle.session_key.specs.Matching.{matches}
use Rattle.session_key.specs.Words.{key_of_words}
use Rattle.session_key.specs.Placing.{place_of, fnv_1a, fnv_from}
use Rattle.session_world.specs.declared.steps.TableSize.{TableSize}
use Rattle.session_world.specs.declared.steps.Step.{Step}
use Rattle.session_world.specs.declared.steps.Step.TheVariants.{Announce, Look, LoadKey, Draw}
use Rattle.session_world.specs.Keys.{key_of, same_query, start_of, next_slot}
use Rattle.session_world.specs.Worker.{holds, last_look, has_key_words, key_matches, is_passed, continues_walk, first_number, takes_key}
use Rattle.session_world.specs.Allowed.{HasSeen, WorkerMay}
use Rattle.session_rule.specs.Seats.{size_of, worker_steps}
use Rattle.table_turns.proofs.tests.book.draw_first.Goals as goal

abbrev query : Query
query = record { local = 0; peer = record { address = V4 (192 ∷ 0 ∷ 2 ∷ 1 ∷ []); port = 5000 }; plain = Some 7; auth = None }

-- the slot was found open, and its key words were loaded, the latest step first
abbrev looked : List Step
looked = Look 0 query 0x4002 ∷ Announce 0 ∷ []

abbrev loaded_1 : List Step
loaded_1 = LoadKey 0 1 0xC000020100000000 ∷ looked

abbrev loaded_2 : List Step
loaded_2 = LoadKey 0 2 0 ∷ loaded_1

abbrev loaded_3 : List Step
loaded_3 = LoadKey 0 3 0x1388000700000000 ∷ loaded_2

abbrev loaded_4 : List Step
loaded_4 = LoadKey 0 4 0 ∷ loaded_3

-- a list that one step was added to
onto : (s : Step) (before after so_far : List Step) → after ≡ s ∷ before → before ≡ so_far → after ≡ s ∷ so_far
onto s before after so_far made same = made ∙ ap (λ (l : List Step). s ∷ l) same

may_load : (z : TableSize) (xs so_far : List Step) (k n : ℕ) → xs ≡ so_far → holds so_far 0 ≡ true → 0 < k → k < 5 → WorkerMay z xs (LoadKey 0 k n)
may_load z xs so_far k n same held low high = (low, high, ap (λ (l : List Step). holds l 0) same ∙ held)

held : (holds looked 0 ≡ true) × (holds loaded_4 0 ≡ true)
unfolding is_open_word
held = (refl, refl)

seen : HasSeen (last_look 1 loaded_4) 0
unfolding is_open_word key_of key_of_words has_key_words key_matches is_passed continues_walk first_number takes_key same_query next_slot matches start_of place_of fnv_1a fnv_from
seen = (refl, refl, refl, refl, refl, λ e. omega (arith, e))

may_draw : (z : TableSize) (xs : List Step) (n : ℕ) → z.slots ≡ 1 → xs ≡ loaded_4 → WorkerMay z xs (Draw 0 n)
may_draw z xs n one same = (
  ap (λ (l : List Step). holds l 0) same ∙ held.1,
  subst (λ (l : List Step). HasSeen (last_look z.slots l) 0) (sym same) (subst (λ (m : ℕ). HasSeen (last_look m loaded_4) 0) (sym one) seen),
)

pub load_key_word-first-requires-clause-may : goal.load_key_word-first-requires-clause-may
load_key_word-first-requires-clause-may g c =
    let seen-is : c.look-seen.result ≡ 0x4002 = omega arith in
    let announced = onto (Announce 0) _ _ [] c.announce.ensures.step c.requires.first in
    let found : worker_steps c.look-seen.new.seat ≡ looked = onto _ _ _ _ c.look-seen.ensures.step announced ∙ ap (λ (n : ℕ). Look 0 query n ∷ Announce 0 ∷ []) seen-is in
    λ n small. may_load (size_of c.args.table.now) _ looked 1 n found held.0 (omega arith) (omega arith)

pub load_key_word-second-requires-clause-may : goal.load_key_word-second-requires-clause-may
load_key_word-second-requires-clause-may g c =
    let seen-is : c.look-seen.result ≡ 0x4002 = omega arith in
    let announced = onto (Announce 0) _ _ [] c.announce.ensures.step c.requires.first in
    let found : worker_steps c.look-seen.new.seat ≡ looked = onto _ _ _ _ c.look-seen.ensures.step announced ∙ ap (λ (n : ℕ). Look 0 query n ∷ Announce 0 ∷ []) seen-is in
    let first-is : c.load_key_word-first.result ≡ 0xC000020100000000 = omega arith in
    let first : worker_steps c.load_key_word-first.new.seat ≡ loaded_1 = onto _ _ _ _ c.load_key_word-first.ensures.step found ∙ ap (λ (n : ℕ). LoadKey 0 1 n ∷ looked) first-is in
    λ n small. may_load (size_of c.args.table.now) _ loaded_1 2 n first held.0 (omega arith) (omega arith)

pub load_key_word-third-requires-clause-may : goal.load_key_word-third-requires-clause-may
load_key_word-third-requires-clause-may g c =
    let seen-is : c.look-seen.result ≡ 0x4002 = omega arith in
    let announced = onto (Announce 0) _ _ [] c.announce.ensures.step c.requires.first in
    let found : worker_steps c.look-seen.new.seat ≡ looked = onto _ _ _ _ c.look-seen.ensures.step announced ∙ ap (λ (n : ℕ). Look 0 query n ∷ Announce 0 ∷ []) seen-is in
    let first-is : c.load_key_word-first.result ≡ 0xC000020100000000 = omega arith in
    let first : worker_steps c.load_key_word-first.new.seat ≡ loaded_1 = onto _ _ _ _ c.load_key_word-first.ensures.step found ∙ ap (λ (n : ℕ). LoadKey 0 1 n ∷ looked) first-is in
    let second-is : c.load_key_word-second.result ≡ 0 = omega arith in
    let second : worker_steps c.load_key_word-second.new.seat ≡ loaded_2 = onto _ _ _ _ c.load_key_word-second.ensures.step first ∙ ap (λ (n : ℕ). LoadKey 0 2 n ∷ loaded_1) second-is in
    λ n small. may_load (size_of c.args.table.now) _ loaded_2 3 n second held.0 (omega arith) (omega arith)

pub load_key_word-fourth-requires-clause-may : goal.load_key_word-fourth-requires-clause-may
load_key_word-fourth-requires-clause-may g c =
    let seen-is : c.look-seen.result ≡ 0x4002 = omega arith in
    let announced = onto (Announce 0) _ _ [] c.announce.ensures.step c.requires.first in
    let found : worker_steps c.look-seen.new.seat ≡ looked = onto _ _ _ _ c.look-seen.ensures.step announced ∙ ap (λ (n : ℕ). Look 0 query n ∷ Announce 0 ∷ []) seen-is in
    let first-is : c.load_key_word-first.result ≡ 0xC000020100000000 = omega arith in
    let first : worker_steps c.load_key_word-first.new.seat ≡ loaded_1 = onto _ _ _ _ c.load_key_word-first.ensures.step found ∙ ap (λ (n : ℕ). LoadKey 0 1 n ∷ looked) first-is in
    let second-is : c.load_key_word-second.result ≡ 0 = omega arith in
    let second : worker_steps c.load_key_word-second.new.seat ≡ loaded_2 = onto _ _ _ _ c.load_key_word-second.ensures.step first ∙ ap (λ (n : ℕ). LoadKey 0 2 n ∷ loaded_1) second-is in
    let third-is : c.load_key_word-third.result ≡ 0x1388000700000000 = omega arith in
    let third : worker_steps c.load_key_word-third.new.seat ≡ loaded_3 = onto _ _ _ _ c.load_key_word-third.ensures.step second ∙ ap (λ (n : ℕ). LoadKey 0 3 n ∷ loaded_2) third-is in
    λ n small. may_load (size_of c.args.table.now) _ loaded_3 4 n third held.0 (omega arith) (omega arith)

pub draw_slot-drawn-requires-clause-may : goal.draw_slot-drawn-requires-clause-may
draw_slot-drawn-requires-clause-may g c =
    let seen-is : c.look-seen.result ≡ 0x4002 = omega arith in
    let announced = onto (Announce 0) _ _ [] c.announce.ensures.step c.requires.first in
    let found : worker_steps c.look-seen.new.seat ≡ looked = onto _ _ _ _ c.look-seen.ensures.step announced ∙ ap (λ (n : ℕ). Look 0 query n ∷ Announce 0 ∷ []) seen-is in
    let first-is : c.load_key_word-first.result ≡ 0xC000020100000000 = omega arith in
    let first : worker_steps c.load_key_word-first.new.seat ≡ loaded_1 = onto _ _ _ _ c.load_key_word-first.ensures.step found ∙ ap (λ (n : ℕ). LoadKey 0 1 n ∷ looked) first-is in
    let second-is : c.load_key_word-second.result ≡ 0 = omega arith in
    let second : worker_steps c.load_key_word-second.new.seat ≡ loaded_2 = onto _ _ _ _ c.load_key_word-second.ensures.step first ∙ ap (λ (n : ℕ). LoadKey 0 2 n ∷ loaded_1) second-is in
    let third-is : c.load_key_word-third.result ≡ 0x1388000700000000 = omega arith in
    let third : worker_steps c.load_key_word-third.new.seat ≡ loaded_3 = onto _ _ _ _ c.load_key_word-third.ensures.step second ∙ ap (λ (n : ℕ). LoadKey 0 3 n ∷ loaded_2) third-is in
    let fourth-is : c.load_key_word-fourth.result ≡ 0 = omega arith in
    let fourth : worker_steps c.load_key_word-fourth.new.seat ≡ loaded_4 = onto _ _ _ _ c.load_key_word-fourth.ensures.step third ∙ ap (λ (n : ℕ). LoadKey 0 4 n ∷ loaded_3) fourth-is in
    λ n small. may_draw (size_of c.args.table.now) _ n c.requires.slots fourth
