-- The loop that joins all workers.
use Rattle.std.proofs.Common.{◌≡◌, ℕ, suc, List, [], ◌∷◌, ◌++◌, length, sym, refl, ap, ◌∙◌, subst, arith, length-append, append_assoc}
use Rattle.std.proofs.lemmas.List.{append-nil}
use Rattle.session_world.specs.declared.steps.Step.{Step}
use Rattle.session_rule.specs.declared.seats.Table.{Table}
use Rattle.session_rule.specs.Seats.{IsWorkerOf, worker_number, worker_steps}
use Rattle.session_desk.specs.Book.{Book, IsBookOf}
use Rattle.session_desk.specs.Parting.{IsJoined}
use Rattle.reflector_serve.specs.declared.post.Post.{Post}
use Rattle.reflector_serve.specs.Posts.{AreSeated, AreNumbered, lists_of}
use Rattle.reflector_serve.specs.Phases.{Phase, JoinsAll}
use Rattle.reflector_serve.proofs.PhaseFacts.{join_phase}
use Rattle.reflector_serve.proofs.SeatFacts.{seated_front, seated_back, numbers_front, number_last, lists_last}

-- all posts were handed in, and these are left
pub record Joining {P : Type 0} (t : Table) (b0 : Book) (all : List (Post P)) (b : Book) (left : List (Post P)) : Type 0 where
  pub book : IsBookOf t b
  pub calls : (lists : List (List Step)) × (lists_of all ≡ lists_of left ++ lists) × JoinsAll t (suc (length left)) lists b0 b
  pub seated : AreSeated t left
  pub numbers : AreNumbered 1 left
  pub joined : (first base : List Step) → Phase t first base b0 (length all) []
      → (lists : List (List Step)) × (lists_of all ≡ lists_of left ++ lists) × Phase t first base b (length left) lists

pub start : {P : Type 0} (t : Table) (b0 : Book) (all : List (Post P)) → IsBookOf t b0 → AreSeated t all → AreNumbered 1 all → Joining t b0 all b0 all
start t b0 all a b c = record { book = a; calls = ([], sym (append-nil (lists_of all)), refl); seated = b; numbers = c; joined = λ first base p. ([], sym (append-nil (lists_of all)), p) }

pub its_worker : {P : Type 0} (t : Table) (b0 : Book) (all : List (Post P)) (b : Book) (old left : List (Post P)) (r : Post P)
    → Joining t b0 all b old → old ≡ left ++ r ∷ [] → IsWorkerOf t r.seat
its_worker t b0 all b old left r j e = ((seated_back t old left (r ∷ []) e j.seated).all).0

pub step : {P : Type 0} (t : Table) (b0 : Book) (all : List (Post P)) (b c : Book) (old left : List (Post P)) (r : Post P)
    → Joining t b0 all b old → old ≡ left ++ r ∷ [] → IsJoined t b r.seat c → IsBookOf t c → Joining t b0 all c left
step {P} t b0 all b c old left r j e h is =
    let numbers = subst (λ (xs : List (Post P)). AreNumbered 1 xs) e j.numbers in
    let number : worker_number r.seat ≡ suc (length left) = (let n = number_last 1 left r numbers in omega (arith, n)) in
    record {
      book = is;
      calls =
          let x = j.calls in
          let l : length old ≡ suc (length left) = ap length e ∙ length-append left (r ∷ []) ∙ (omega arith) in (
            worker_steps r.seat ∷ x.0,
            x.1 ∙ ap (λ (xs : List (Post P)). lists_of xs ++ x.0) e ∙ ap (λ (xs : List (List Step)). xs ++ x.0) (lists_last left r) ∙ append_assoc (lists_of left) (worker_steps r.seat ∷ []) x.0,
            (b, r.seat, subst (λ (n : ℕ). JoinsAll t (suc n) x.0 b0 b) l x.2, number, refl, h),
          );
      seated = seated_front t old left (r ∷ []) e j.seated;
      numbers = numbers_front 1 left r numbers;
      joined = λ first base p.
          let x = j.joined first base p in
          let l : length old ≡ suc (length left) = ap length e ∙ length-append left (r ∷ []) ∙ (omega arith) in (
            worker_steps r.seat ∷ x.0,
            x.1 ∙ ap (λ (xs : List (Post P)). lists_of xs ++ x.0) e ∙ ap (λ (xs : List (List Step)). xs ++ x.0) (lists_last left r) ∙ append_assoc (lists_of left) (worker_steps r.seat ∷ []) x.0,
            join_phase t first base b c (length left) x.0 r.seat (subst (λ (n : ℕ). Phase t first base b n x.0) l x.2) number h,
          );
    }

pub finish : {P : Type 0} (t : Table) (b0 : Book) (all : List (Post P)) (b : Book) (left : List (Post P)) → Joining t b0 all b left → left ≡ []
    → (first base : List Step) → Phase t first base b0 (length all) [] → Phase t first base b 0 (lists_of all)
finish {P} t b0 all b left j e first base p =
    let x = j.joined first base p in
    subst (λ (xs : List (List Step)). Phase t first base b 0 xs) (sym (x.1 ∙ ap (λ (xs : List (Post P)). lists_of xs ++ x.0) e))
    (subst (λ (xs : List (Post P)). Phase t first base b (length xs) x.0) e x.2)

pub finish_calls : {P : Type 0} (t : Table) (b0 : Book) (all : List (Post P)) (b : Book) (left : List (Post P)) → Joining t b0 all b left → left ≡ [] → JoinsAll t 1 (lists_of all) b0 b
finish_calls {P} t b0 all b left j e =
    let x = j.calls in
    subst (λ (xs : List (List Step)). JoinsAll t 1 xs b0 b) (sym (x.1 ∙ ap (λ (xs : List (Post P)). lists_of xs ++ x.0) e))
    (subst (λ (xs : List (Post P)). JoinsAll t (suc (length xs)) x.0 b0 b) e x.2)
