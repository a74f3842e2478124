-- Two halves of the posts side by side, and one post.
use Rattle.std.proofs.Common.{◌≡◌, ◌≤◌, ◌<◌, List, [], ◌∷◌, ◌++◌, length, get_or, set, sym, refl, subst, arith}
use Rattle.refl_types.specs.declared.types.Endpoint.{Endpoint}
use Rattle.session_rule.specs.declared.seats.Table.{Table}
use Rattle.session_rule.specs.Seats.{IsWorkerOf, worker_steps}
use Rattle.conf_text.specs.File.{File}
use Rattle.reflector_serve.specs.declared.post.Post.{Post}
use Rattle.reflector_serve.specs.Ports.{PortView}
use Rattle.reflector_serve.specs.Posts.{AllReady, AreReady, WorkedAt, AllWorked}

pub enough : {P S : Type 0} (v : PortView P S) (t : Table) (locals : List Endpoint) (ps : List P) (rs : List (Post P)) → AreReady v t locals ps rs → length rs ≤ length ps
enough {P} v t locals ps rs a = all ps rs a.all
  where
    all : (ps : List P) (rs : List (Post P)) → AllReady v t locals ps rs → length rs ≤ length ps
    all ps [] a = omega arith
    all (p ∷ ps) (r ∷ rs) a = let l = all ps rs a.1 in omega (arith, l)
    all [] (r ∷ rs) a = absurd a

-- ---- halves

front : {P S : Type 0} (v : PortView P S) (t : Table) (locals : List Endpoint) (ps ps' : List P) (rs rs' : List (Post P)) → length ps ≡ length rs → AllReady v t locals (ps ++ ps') (rs ++ rs') → AllReady v t locals ps rs
front v t locals [] ps' [] rs' e a = tt
front v t locals [] ps' (r ∷ rs) rs' e a = absurd (omega (arith, e))
front v t locals (p ∷ ps) ps' [] rs' e a = tt
front v t locals (p ∷ ps) ps' (r ∷ rs) rs' e a = (a.0, front v t locals ps ps' rs rs' (omega (arith, e)) a.1)

back : {P S : Type 0} (v : PortView P S) (t : Table) (locals : List Endpoint) (ps ps' : List P) (rs rs' : List (Post P)) → length ps ≡ length rs → AllReady v t locals (ps ++ ps') (rs ++ rs') → AllReady v t locals ps' rs'
back v t locals [] ps' [] rs' e a = a
back v t locals [] ps' (r ∷ rs) rs' e a = absurd (omega (arith, e))
back v t locals (p ∷ ps) ps' [] rs' e a = absurd (omega (arith, e))
back v t locals (p ∷ ps) ps' (r ∷ rs) rs' e a = back v t locals ps ps' rs rs' (omega (arith, e)) a.1

pub ready_front : {P S : Type 0} (v : PortView P S) (t : Table) (locals : List Endpoint) (all ps ps' : List P) (posts rs rs' : List (Post P)) → all ≡ ps ++ ps' → posts ≡ rs ++ rs' → length ps ≡ length rs
    → AreReady v t locals all posts → AreReady v t locals ps rs
ready_front {P} v t locals all ps ps' posts rs rs' f g e a = record {
  all = front v t locals ps ps' rs rs' e (subst (λ (xs : List P). AllReady v t locals xs (rs ++ rs')) f (subst (λ (xs : List (Post P)). AllReady v t locals all xs) g a.all));
}

pub ready_back : {P S : Type 0} (v : PortView P S) (t : Table) (locals : List Endpoint) (all ps ps' : List P) (posts rs rs' : List (Post P)) → all ≡ ps ++ ps' → posts ≡ rs ++ rs' → length ps ≡ length rs
    → AreReady v t locals all posts → AreReady v t locals ps' rs'
ready_back {P} v t locals all ps ps' posts rs rs' f g e a = record {
  all = back v t locals ps ps' rs rs' e (subst (λ (xs : List P). AllReady v t locals xs (rs ++ rs')) f (subst (λ (xs : List (Post P)). AllReady v t locals all xs) g a.all));
}

both : {P S : Type 0} (v : PortView P S) (t : Table) (f : File) (ps qs : List P) (rs ss : List (Post P)) (ps' qs' : List P) (rs' ss' : List (Post P))
    → length ps ≡ length rs → AllWorked v t f ps qs rs ss → AllWorked v t f ps' qs' rs' ss' → AllWorked v t f (ps ++ ps') (qs ++ qs') (rs ++ rs') (ss ++ ss')
both {P} v t f [] qs [] ss ps' qs' rs' ss' e a b =
    subst (λ (xs : List P). AllWorked v t f ps' (xs ++ qs') rs' (ss ++ ss')) (sym a.0)
    (subst (λ (xs : List (Post P)). AllWorked v t f ps' qs' rs' (xs ++ ss')) (sym a.1) b)
both v t f (p ∷ ps) (q ∷ qs) (r ∷ rs) (s ∷ ss) ps' qs' rs' ss' e a b = (a.0, both v t f ps qs rs ss ps' qs' rs' ss' (omega (arith, e)) a.1 b)
both v t f (p ∷ ps) [] (r ∷ rs) ss ps' qs' rs' ss' e a b = absurd a
both v t f (p ∷ ps) (q ∷ qs) (r ∷ rs) [] ps' qs' rs' ss' e a b = absurd a
both v t f (p ∷ ps) qs [] ss ps' qs' rs' ss' e a b = absurd (omega (arith, e))
both v t f [] qs (r ∷ rs) ss ps' qs' rs' ss' e a b = absurd (omega (arith, e))

pub worked_halves : {P S : Type 0} (v : PortView P S) (t : Table) (f : File) (all : List P) (posts : List (Post P)) (ps qs : List P) (rs ss : List (Post P)) (ps' qs' : List P) (rs' ss' : List (Post P))
    → all ≡ ps ++ ps' → posts ≡ rs ++ rs' → length ps ≡ length rs → AllWorked v t f ps qs rs ss → AllWorked v t f ps' qs' rs' ss' → AllWorked v t f all (qs ++ qs') posts (ss ++ ss')
worked_halves {P} v t f all posts ps qs rs ss ps' qs' rs' ss' h g e a b =
    subst (λ (xs : List P). AllWorked v t f xs (qs ++ qs') posts (ss ++ ss')) (sym h)
    (subst (λ (xs : List (Post P)). AllWorked v t f (ps ++ ps') (qs ++ qs') xs (ss ++ ss')) (sym g) (both v t f ps qs rs ss ps' qs' rs' ss' e a b))

-- ---- one post

pub one_ready : {P S : Type 0} (v : PortView P S) (t : Table) (locals : List Endpoint) (ps : List P) (rs : List (Post P)) (d : P) (e : Post P) → length rs ≡ 1 → AreReady v t locals ps rs
    → ((v (get_or ps 0 d)).bound ≡ locals) × IsWorkerOf t (get_or rs 0 e).seat × (worker_steps (get_or rs 0 e).seat ≡ [])
one_ready v t locals (p ∷ ps) (r ∷ rs) d e one a = a.all.0
one_ready v t locals [] (r ∷ rs) d e one a = absurd a.all
one_ready v t locals ps [] d e one a = absurd (omega (arith, one))

pub one_worked : {P S : Type 0} (v : PortView P S) (t : Table) (f : File) (ps : List P) (rs : List (Post P)) (d q : P) (e s : Post P) → length rs ≡ 1 → 0 < length ps
    → WorkedAt v t f (get_or ps 0 d) q (get_or rs 0 e) s → AllWorked v t f ps (set ps 0 q) rs (set rs 0 s)
one_worked v t f (p ∷ ps) (r ∷ []) d q e s one some w = (w, (refl, refl))
one_worked v t f [] rs d q e s one some w = absurd (omega (arith, some))
one_worked v t f ps [] d q e s one some w = absurd (omega (arith, one))
one_worked v t f ps (r ∷ s' ∷ rs) d q e s one some w = absurd (omega (arith, one))

pub none_worked : {P S : Type 0} (v : PortView P S) (t : Table) (f : File) (ps : List P) (rs : List (Post P)) → length rs ≡ 0 → AllWorked v t f ps ps rs rs
none_worked v t f ps [] none = (refl, refl)
none_worked v t f ps (r ∷ rs) none = absurd (omega (arith, none))
