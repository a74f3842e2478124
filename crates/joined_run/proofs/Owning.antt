-- The sessions of the connection are reserved in slots of their own until they are started, and then each start is done.
use Rattle.std.proofs.Common.{◌≡◌, ℕ, Bool, true, false, ◌&&◌, ◌||◌, not, eqb, List, [], ◌∷◌, ◌++◌, Option, Some, Result, Ok, Err, refl, sym, ap, subst, ◌∙◌, inl, inr, arith}
use Rattle.std.specs.Prelude.{map}
use Rattle.std.specs.List.{list_any}
use Rattle.std.proofs.lemmas.List.Folds.{list_any-append}
use Rattle.std.proofs.lemmas.Bool.{eqb-true}
use Rattle.std.proofs.lemmas.Bool.Decides.{nat_tests}
use Rattle.std.proofs.lemmas.Map.Views.{any-filter_same}
use Rattle.refl_types.proofs.BitFacts.{true_or_false}
use Rattle.refl_types.specs.declared.types.Key.{Key}
use Rattle.refl_types.specs.declared.outcome.Place.{Place}
use Rattle.session_rule.specs.declared.seats.Table.{Table}
use Rattle.session_desk.specs.declared.session.NoSuch.{NoSuch}
use Rattle.session_desk.specs.declared.session.Session.{Session}
use Rattle.session_desk.specs.Sessions.{is_at, is_in_slot, without}
use Rattle.session_desk.specs.Book.{Book}
use Rattle.session_desk.specs.Makes.{Makes, starts}
use Rattle.control_desk.specs.declared.own.OwnSession.{OwnSession}
use Rattle.control_desk.specs.declared.counts.DeskEnd.{DeskEnd}
use Rattle.control_desk.specs.Plan.{Plan, Act, called}
use Rattle.control_desk.specs.Control.{same_place, start_all}
use Rattle.joined_desk.specs.Joined.{JoinState}
use Rattle.joined_run.specs.Sessions.{ReservedSession, StartedSession, key_at, started_from}
use Rattle.joined_run.proofs.Rests.{Rest, rest_start}

-- ---- tests

eqb-same : (m n : ℕ) → m ≡ n → eqb m n ≡ true
eqb-same m n e = grind (arith, nat_tests)

eqb-turned : (m n : ℕ) → eqb m n ≡ false → eqb n m ≡ false
eqb-turned m n e = grind (arith, nat_tests)

or_left : (p q : Bool) → (p || q) ≡ false → p ≡ false
or_left true q e = absurd cc
or_left false q e = refl

or_right : (p q : Bool) → (p || q) ≡ false → q ≡ false
or_right true q e = absurd cc
or_right false q e = e

and_left : (p q : Bool) → (p && q) ≡ true → p ≡ true
and_left true q e = refl
and_left false q e = absurd cc

no_and : (p q : Bool) → p ≡ false → (p && q) ≡ false
no_and true q e = absurd cc
no_and false q e = refl

-- ---- own sessions

abbrev pub is_in : ℕ → OwnSession → Bool
is_in i o = eqb o.place.slot i

-- each is reserved, and no two are in one slot
abbrev pub Owned : List Session → List OwnSession → Type 0
Owned rs [] = Unit {0}
Owned rs (o ∷ os) = (list_any (is_at o.place) rs ≡ true) × (list_any (is_in o.place.slot) os ≡ false) × Owned rs os

-- the key of each is known
abbrev pub Known : List ReservedSession → List OwnSession → Type 0
Known rs [] = Unit {0}
Known rs (o ∷ os) = (key_at rs o.place ≡ Some o.key) × Known rs os

at_in : (p : Place) (rs : List Session) → list_any (is_at p) rs ≡ true → list_any (is_in_slot p.slot) rs ≡ true
at_in p [] e = absurd cc
at_in p (s ∷ rs) e = both (eqb s.place.slot p.slot) (eqb s.place.generation p.generation) (list_any (is_at p) rs) (list_any (is_in_slot p.slot) rs) e (at_in p rs) where
  both : (a b c d : Bool) → ((a && b) || c) ≡ true → (c ≡ true → d ≡ true) → (a || d) ≡ true
  both true b c d e f = refl
  both false b c d e f = f e

other_slot : (p : Place) (i : ℕ) (rs : List Session) → list_any (is_at p) rs ≡ true → list_any (is_in_slot i) rs ≡ false → eqb i p.slot ≡ false
other_slot p i rs e n = elim (true_or_false (eqb i p.slot)) [
  | inl y ↦ let no : true ≡ false = sym (at_in p rs e) ∙ ap (λ (k : ℕ). list_any (is_in_slot k) rs) (sym (eqb-true i p.slot y)) ∙ n in absurd cc
  | inr f ↦ f
]

at_itself : (p : Place) (s : Session) → s.place ≡ p → is_at p s ≡ true
at_itself p s e = rw e (both (eqb p.slot p.slot) (eqb p.generation p.generation) (eqb-same p.slot p.slot refl) (eqb-same p.generation p.generation refl)) where
  both : (a b : Bool) → a ≡ true → b ≡ true → (a && b) ≡ true
  both true b e f = f
  both false b e f = absurd cc

-- one more is reserved, in a slot of its own
pub own_more : (o : OwnSession) (s : Session) (rs : List Session) (os : List OwnSession) → Owned rs os → list_any (is_in_slot o.place.slot) rs ≡ false → s.place ≡ o.place → Owned (rs ++ s ∷ []) (os ++ o ∷ [])
own_more o s rs [] h free e = (list_any-append (is_at o.place) rs (s ∷ []) ∙ last (list_any (is_at o.place) rs) (is_at o.place s) (at_itself o.place s e), refl, tt) where
  last : (a b : Bool) → b ≡ true → (a || (b || false)) ≡ true
  last true b e = refl
  last false true e = refl
  last false false e = absurd cc
own_more o s rs (x ∷ os) h free e =
    let there : list_any (is_at x.place) (rs ++ s ∷ []) ≡ true = list_any-append (is_at x.place) rs (s ∷ []) ∙ first (list_any (is_at x.place) rs) (list_any (is_at x.place) (s ∷ [])) h.0 in
    let apart : list_any (is_in x.place.slot) (os ++ o ∷ []) ≡ false = list_any-append (is_in x.place.slot) os (o ∷ []) ∙ neither (list_any (is_in x.place.slot) os) (eqb o.place.slot x.place.slot) h.1 (other_slot x.place o.place.slot rs h.0 free) in
    (there, apart, own_more o s rs os h.2 free e)
  where
    first : (a b : Bool) → a ≡ true → (a || b) ≡ true
    first true b e = refl
    first false b e = absurd cc

    neither : (a b : Bool) → a ≡ false → b ≡ false → (a || (b || false)) ≡ false
    neither true b e f = absurd cc
    neither false true e f = absurd cc
    neither false false e f = refl

pub no_own_in : (o : OwnSession) (rs : List Session) (os : List OwnSession) → Owned rs os → list_any (is_in_slot o.place.slot) rs ≡ false → list_any (is_in o.place.slot) os ≡ false
no_own_in o rs [] h free = refl
no_own_in o rs (x ∷ os) h free = rw (eqb-turned o.place.slot x.place.slot (other_slot x.place o.place.slot rs h.0 free)) (no_own_in o rs os h.2 free)

abbrev pub reserved_of : OwnSession → ReservedSession
reserved_of o = record { place = o.place; key = o.key }

pub known_more : (o : OwnSession) (rs : List ReservedSession) (os : List OwnSession) → Known rs os → list_any (is_in o.place.slot) os ≡ false → Known (reserved_of o ∷ rs) (os ++ o ∷ [])
known_more o rs [] h free = (rw same refl, tt) where
  both : (a b : Bool) → a ≡ true → b ≡ true → (a && b) ≡ true
  both true b e f = f
  both false b e f = absurd cc

  same : same_place o.place o.place ≡ true
  same = both (eqb o.place.slot o.place.slot) (eqb o.place.generation o.place.generation) (eqb-same o.place.slot o.place.slot refl) (eqb-same o.place.generation o.place.generation refl)
known_more o rs (x ∷ os) h free =
    let apart : eqb x.place.slot o.place.slot ≡ false = or_left (eqb x.place.slot o.place.slot) (list_any (is_in o.place.slot) os) free in
    let other : same_place o.place x.place ≡ false = no_and (eqb o.place.slot x.place.slot) (eqb o.place.generation x.place.generation) (eqb-turned x.place.slot o.place.slot apart) in
    (rw other h.0, known_more o rs os h.1 (or_right (eqb x.place.slot o.place.slot) (list_any (is_in o.place.slot) os) free))

-- what is left when the session of a slot was started
own_left : (i : ℕ) (rs : List Session) (os : List OwnSession) → Owned rs os → list_any (is_in i) os ≡ false → Owned (without i rs) os
own_left i rs [] h free = tt
own_left i rs (x ∷ os) h free =
    let apart : eqb x.place.slot i ≡ false = or_left (eqb x.place.slot i) (list_any (is_in i) os) free in
    let kept : list_any (is_at x.place) (without i rs) ≡ list_any (is_at x.place) rs = any-filter_same (is_at x.place) (λ (s : Session). not (is_in_slot i s)) true (λ s e. stays s e apart) rs in
    (kept ∙ h.0, h.1, own_left i rs os h.2 (or_right (eqb x.place.slot i) (list_any (is_in i) os) free))
  where
    stays : (s : Session) → is_at x.place s ≡ true → eqb x.place.slot i ≡ false → not (eqb s.place.slot i) ≡ true
    stays s e apart =
        let same : s.place.slot ≡ x.place.slot = eqb-true s.place.slot x.place.slot (and_left (eqb s.place.slot x.place.slot) (eqb s.place.generation x.place.generation) e) in
        ap (λ (k : ℕ). not (eqb k i)) same ∙ ap not apart

-- ---- starting them

abbrev pub started_of : OwnSession → StartedSession
started_of o = record { place = o.place; key = Some o.key; moment = 0 }

module _ (t : Table) (fin : DeskEnd) (j' : JoinState) (b' : Book) where
  pub record Starts (rs : List ReservedSession) (os : List OwnSession) (more : Plan) (j : JoinState) (acts : List Act) : Type 0 where
    pub book : Book
    pub others : List Act
    pub started : started_from rs acts ≡ map started_of os ++ started_from rs others
    pub rest : Rest t fin more j j' book b' others

  pub starts_all : (rs : List ReservedSession) (os : List OwnSession) (more : Plan) (j : JoinState) (b : Book) (acts : List Act) → Owned b.reserved os → Known rs os → Rest t fin (start_all 0 os more) j j' b b' acts → Starts rs os more j acts
  starts_all rs [] more j b acts h k r = record { book = b; others = acts; started = refl; rest = r }
  starts_all rs (o ∷ os) more j b acts h k r =
      let one = rest_start t fin j' b' o.place 0 (λ a. start_all 0 os more) j b acts r in
      came (λ book others own rest. starts_all rs os more j book others own k.1 rest) one.0 one.1.book one.1.others one.1.is one.1.makes one.1.rest
    where
      came : ((book : Book) (others : List Act) → Owned book.reserved os → Rest t fin (start_all 0 os more) j j' book b' others → Starts rs os more j others) → (answer : Result (Unit {0}) NoSuch) (book : Book) (others : List Act) → acts ≡ called (starts o.place 0 answer) ∷ others → Makes t (starts o.place 0 answer) b book → Rest t fin (start_all 0 os more) j j' book b' others → Starts rs (o ∷ os) more j acts
      came again (Ok u) book others is makes rest =
          let own = subst (λ (l : List Session). Owned l os) (sym makes.reserved) (own_left o.place.slot b.reserved os h.2 h.1) in
          let s = again book others own rest in
          record {
            book = s.book;
            others = s.others;
            started = ap (started_from rs) is ∙ ap (λ (key : Option Key). let x : StartedSession = record { place = o.place; key = key; moment = 0 } in x ∷ started_from rs others) k.0 ∙ ap (λ (l : List StartedSession). started_of o ∷ l) s.started;
            rest = s.rest;
          }
      came again (Err e) book others is makes rest = let no : true ≡ false = sym h.0 ∙ makes.0 in absurd cc
