-- The loop that splits all workers off.
use Rattle.std.proofs.Common.{◌≡◌, inr, ℕ, suc, ◌<◌, ◌≤◌, false, List, [], ◌∷◌, ◌++◌, length, sym, refl, subst, arith, length-append}
use Rattle.session_world.specs.declared.steps.Step.{Step}
use Rattle.session_world.specs.Desk.{is_split}
use Rattle.session_rule.specs.declared.seats.Table.{Table}
use Rattle.session_rule.specs.Seats.{size_of, worker_number}
use Rattle.session_desk.specs.Book.{Book, IsBookOf, steps_of}
use Rattle.session_desk.specs.Parting.{HasSplit}
use Rattle.reflector_serve.specs.declared.post.Post.{Post}
use Rattle.reflector_serve.specs.Posts.{AreSeated, AreNumbered, AreFresh}
use Rattle.reflector_serve.specs.Phases.{Phase, SplitsOff}
use Rattle.reflector_serve.proofs.PhaseFacts.{next_number, split_phase}
use Rattle.reflector_serve.proofs.SeatFacts.{seated_more, numbered_more, fresh_more}

-- so many posts are made
pub record Splitting {P : Type 0} (t : Table) (b0 b : Book) (made : List (Post P)) : Type 0 where
  pub some : (first : List Step) × (base : List Step) × Phase t first base b0 0 []
  pub phase : (first base : List Step) → Phase t first base b0 0 [] → Phase t first base b (length made) []
  pub calls : SplitsOff t (length made) b0 b
  pub seated : AreSeated t made
  pub numbers : AreNumbered 1 made
  pub fresh : AreFresh made

pub start : {P : Type 0} (t : Table) (b0 : Book) (made : List (Post P)) → made ≡ [] → (first : List Step) × (base : List Step) × Phase t first base b0 0 [] → Splitting t b0 b0 made
start {P} t b0 made e p = subst (λ (xs : List (Post P)). Splitting t b0 b0 xs) (sym e) (record { some = p; phase = λ first base q. q; calls = refl; seated = record { all = tt }; numbers = tt; fresh = tt })

now : {P : Type 0} (t : Table) (b0 b : Book) (made : List (Post P)) (m : Splitting t b0 b made) → Phase t m.some.0 m.some.1 b (length made) []
now t b0 b made m = m.phase m.some.0 m.some.1 m.some.2

pub its_book : {P : Type 0} (t : Table) (b0 b : Book) (made : List (Post P)) → Splitting t b0 b made → IsBookOf t b
its_book t b0 b made m = (now t b0 b made m).book

-- the next number isn't split off
pub free : {P : Type 0} (t : Table) (b0 b : Book) (made : List (Post P)) → Splitting t b0 b made → length made < (size_of t).workers
    → (j : ℕ) × (0 < j) × (j ≤ (size_of t).workers) × (is_split (steps_of b) j ≡ false)
free t b0 b made m lt = (suc (length made), (omega arith), (omega (arith, lt)), (now t b0 b made m).none (suc (length made)) (inr (omega arith)))

pub step : {P : Type 0} (t : Table) (b0 b c : Book) (made : List (Post P)) (r : Post P) → Splitting t b0 b made → HasSplit t b c r.seat → Splitting t b0 c (made ++ r ∷ [])
step t b0 b c made r m h =
    let p = now t b0 b made m in
    let number = next_number (steps_of b) (length made) (worker_number r.seat) p.some p.none h.seat.least in
    let l : suc (length made) ≡ length (made ++ r ∷ []) = (let a = length-append made (r ∷ []) in omega (arith, a)) in
    record {
      some = m.some;
      phase = λ first base q. subst (λ (n : ℕ). Phase t first base c n []) l (split_phase t first base b c (length made) r.seat (m.phase first base q) h);
      calls = subst (λ (n : ℕ). SplitsOff t n b0 c) l (b, r.seat, m.calls, h);
      seated = record { all = seated_more t made r m.seated.all h.seat.worker };
      numbers = numbered_more 1 made r m.numbers (omega (arith, number));
      fresh = fresh_more made r m.fresh h.seat.empty;
    }
