-- Seats of a list of posts that is cut in two.
use Rattle.std.proofs.Common.{◌≡◌, ℕ, suc, ◌+◌, List, [], ◌∷◌, ◌++◌, length, refl, ap, subst, arith}
use Rattle.session_world.specs.declared.steps.Step.{Step}
use Rattle.session_world.specs.Worker.{holds}
use Rattle.session_table.specs.Holding.{HoldsNothing}
use Rattle.session_rule.specs.declared.seats.Table.{Table}
use Rattle.session_rule.specs.Seats.{IsWorkerOf, worker_number, worker_steps}
use Rattle.reflector_serve.specs.declared.post.Post.{Post}
use Rattle.reflector_serve.specs.Posts.{AllSeated, AreSeated, AreNumbered, AreFresh, lists_of}

front : {P : Type 0} (t : Table) (rs rs' : List (Post P)) → AllSeated t (rs ++ rs') → AllSeated t rs
front t [] rs' a = tt
front t (r ∷ rs) rs' a = (a.0, front t rs rs' a.1)

back : {P : Type 0} (t : Table) (rs rs' : List (Post P)) → AllSeated t (rs ++ rs') → AllSeated t rs'
back t [] rs' a = a
back t (r ∷ rs) rs' a = back t rs rs' a.1

pub seated_front : {P : Type 0} (t : Table) (posts rs rs' : List (Post P)) → posts ≡ rs ++ rs' → AreSeated t posts → AreSeated t rs
seated_front t posts rs rs' e a = record { all = front t rs rs' (subst (AllSeated t) e a.all) }

pub seated_back : {P : Type 0} (t : Table) (posts rs rs' : List (Post P)) → posts ≡ rs ++ rs' → AreSeated t posts → AreSeated t rs'
seated_back t posts rs rs' e a = record { all = back t rs rs' (subst (AllSeated t) e a.all) }

-- ---- one post more

pub seated_more : {P : Type 0} (t : Table) (made : List (Post P)) (r : Post P) → AllSeated t made → IsWorkerOf t r.seat → AllSeated t (made ++ r ∷ [])
seated_more t [] r a w = (w, tt)
seated_more t (x ∷ made) r a w = (a.0, seated_more t made r a.1 w)

pub numbered_more : {P : Type 0} (w : ℕ) (made : List (Post P)) (r : Post P) → AreNumbered w made → worker_number r.seat ≡ w + length made → AreNumbered w (made ++ r ∷ [])
numbered_more w [] r a e = ((omega (arith, e)), tt)
numbered_more w (x ∷ made) r a e = (a.0, numbered_more (suc w) made r a.1 (omega (arith, e)))

pub fresh_more : {P : Type 0} (made : List (Post P)) (r : Post P) → AreFresh made → worker_steps r.seat ≡ [] → AreFresh (made ++ r ∷ [])
fresh_more [] r a e = (e, tt)
fresh_more (x ∷ made) r a e = (a.0, fresh_more made r a.1 e)

-- ---- one post fewer

pub numbers_front : {P : Type 0} (w : ℕ) (left : List (Post P)) (r : Post P) → AreNumbered w (left ++ r ∷ []) → AreNumbered w left
numbers_front w [] r a = tt
numbers_front w (x ∷ left) r a = (a.0, numbers_front (suc w) left r a.1)

pub number_last : {P : Type 0} (w : ℕ) (left : List (Post P)) (r : Post P) → AreNumbered w (left ++ r ∷ []) → worker_number r.seat ≡ w + length left
number_last w [] r a = (let e = a.0 in omega (arith, e))
number_last w (x ∷ left) r a = (let e = number_last (suc w) left r a.1 in omega (arith, e))

pub lists_last : {P : Type 0} (left : List (Post P)) (r : Post P) → lists_of (left ++ r ∷ []) ≡ lists_of left ++ worker_steps r.seat ∷ []
lists_last [] r = refl
lists_last (x ∷ left) r = ap (λ (xs : List (List Step)). worker_steps x.seat ∷ xs) (lists_last left r)

-- ---- a seat that has made no step

pub holds_nothing : (xs : List Step) → xs ≡ [] → HoldsNothing xs
holds_nothing xs e = λ i. ap (λ (ys : List Step). holds ys i) e
