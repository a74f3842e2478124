-- A list of local addresses obeys its spelling.
use Rattle.std.proofs.Common.{◌≡◌, ℕ, zero, suc, ◌+◌, ◌*◌, ◌/◌, ◌%◌, ◌<◌, ◌≤◌, Bool, true, false, cond, eqb, leb, ◌||◌, ◌&&◌, not, List, [], ◌∷◌, ◌++◌, length, replicate, Result, Ok, Err, refl, sym, ap, subst, ◌∙◌, append_assoc, arith, inl, inr, ◌⊎◌}
use Rattle.std.specs.Int.{w32, to_be_bytes}
use Rattle.std.specs.List.{flat_map, list_any, AllByRecursion, IsDistinct}
use Rattle.std.proofs.lemmas.Bool.{eqb-true, leb-true, le-leb}
use Rattle.std.proofs.lemmas.List.Folds.{list_any-append}
use Rattle.std.proofs.lemmas.Bool.Decides.{nat_tests}
use Rattle.std.proofs.lemmas.List.{length-append}
use Rattle.octet_format.specs.declared.reading.Unread.{Unread}
use Rattle.octet_format.specs.declared.reading.Unread.TheVariants.{More, Bad}
use Rattle.octet_format.specs.Reading.{◌>>=◌}
use Rattle.octet_format.proofs.Obeys.{Obeys, bind_ok, bind_err, ok_is, then_obeys, done_obeys, same_obeys, into_obeys, octet_obeys, FitsOctet, Within, range_obeys, zeros_obeys}
use Rattle.refl_types.specs.declared.types.Address.{Address}
use Rattle.refl_types.specs.declared.types.Address.TheVariants.{V4}
use Rattle.refl_types.specs.declared.types.Endpoint.{Endpoint}
use Rattle.refl_types.specs.Same.{same_address, same_endpoint}
use Rattle.refl_types.specs.Spelling.{family, address_octets, endpoint_octets, FitsEndpoint}
use Rattle.refl_types.proofs.SameFacts.{both_true, endpoint_same}
use Rattle.session_octets.specs.Reading.{endpoint_at}
use Rattle.session_octets.proofs.Formats.{endpoint_obeys, endpoint_octets_length}
use Rattle.replay_format.specs.Records.{locals_octets, FitsLocal, FitsLocals}
use Rattle.replay_format.specs.InnerReading.{is_list_len, count_at, is_new, local_at, locals_from, locals_at}

not_true : (b : Bool) → not b ≡ true → b ≡ false
not_true true e = absurd cc
not_true false e = refl

true_or_false : (b : Bool) → (b ≡ true) ⊎ (b ≡ false)
true_or_false true = inl refl
true_or_false false = inr refl

neither : (a b : Bool) → (a || b) ≡ false → (a ≡ false) × (b ≡ false)
neither true b e = absurd cc
neither false b e = (refl, e)

-- ---- what is read and passes a test

chosen : {A : Type 0} (b : Bool) (x y : A) → cond b (Ok x) (Err Bad) ≡ Ok y → (b ≡ true) × (x ≡ y)
chosen true x y e = (refl, ok_is x y e)
chosen false x y e = absurd cc

never_more : {A : Type 0} (b : Bool) (x : A) → cond b (Ok x) (Err Bad) ≡ Err More → ⊥
never_more true x e = cc
never_more false x e = cc

refused : {A : Type 0} (b : Bool) (x : A) → cond b (Ok x) (Err Bad) ≡ Err Bad → b ≡ false
refused true x e = absurd cc
refused false x e = refl

module _ {A : Type 0} (read : List ℕ → Result (A × List ℕ) Unread) (spell : A → List ℕ) (Fits : A → Type 0) (test : A → Bool) where
  abbrev pub Passes : A → Type 0
  Passes a = Fits a × (test a ≡ true)

  -- a value that passes, and for a front of any value a value that passes
  pub tested_obeys : Obeys read spell Fits → (a : A) → Passes a
      → ((a : A) (octets rest : List ℕ) → Fits a → 0 < length rest → octets ++ rest ≡ spell a → (b : A) × (more : List ℕ) × Passes b × (0 < length more) × (octets ++ more ≡ spell b))
      → Obeys (λ octets. read octets >>= λ x. cond (test x.0) (Ok x) (Err Bad)) spell Passes
  tested_obeys o a passes other = record {
    some = (a, passes);
    got = λ octets a rest bytes e.
        let x = bind_ok (read octets) (λ x. cond (test x.0) (Ok x) (Err Bad)) (a, rest) e in
        let c = chosen (test x.0.0) x.0 (a, rest) x.2 in
        let first = o.got octets x.0.0 x.0.1 bytes x.1 in
        let same : x.0.0 ≡ a = ap (λ (y : A × List ℕ). y.0) c.1 in
        let left : x.0.1 ≡ rest = ap (λ (y : A × List ℕ). y.1) c.1 in
        (first.0 ∙ ap (λ (r : List ℕ). spell x.0.0 ++ r) left ∙ ap (λ (y : A). spell y ++ rest) same, (subst Fits same first.1, ap test (sym same) ∙ c.0));
    again = λ a rest fits. rw (o.again a rest fits.0, fits.1) refl;
    more = λ octets bytes e. elim (bind_err (read octets) (λ x. cond (test x.0) (Ok x) (Err Bad)) More e) [
      | inl first ↦ let m = o.more octets bytes first in other m.0 octets m.1 m.2 m.3 m.4
      | inr second ↦ absurd (never_more (test second.0.0) second.0 second.2)
    ];
    bad = λ octets tail bytes e. elim (bind_err (read octets) (λ x. cond (test x.0) (Ok x) (Err Bad)) Bad e) [
      | inl first ↦ rw (o.bad octets tail bytes first) refl
      | inr second ↦
          let first = o.got octets second.0.0 second.0.1 bytes second.1 in
          let moved : read (octets ++ tail) ≡ Ok (second.0.0, second.0.1 ++ tail) = ap read (ap (λ (r : List ℕ). r ++ tail) first.0 ∙ append_assoc (spell second.0.0) second.0.1 tail) ∙ o.again second.0.0 (second.0.1 ++ tail) first.1 in
          let other_ : test second.0.0 ≡ false = refused (test second.0.0) second.0 second.2 in
          rw (moved, other_) refl
    ];
  }

-- ---- a port that no earlier address has

without : (Endpoint → Bool) → List Endpoint → List Endpoint
without p [] = []
without p (x ∷ xs) = cond (p x) xs (x ∷ without p xs)

length-without : (p : Endpoint → Bool) (xs : List Endpoint) → list_any p xs ≡ true → suc (length (without p xs)) ≡ length xs
unfolding without
length-without p [] e = absurd cc
length-without p (x ∷ xs) e = elim (true_or_false (p x)) [
  | inl here ↦ rw here refl
  | inr not_here ↦
      let rest : list_any p xs ≡ true = ap (λ (b : Bool). b || list_any p xs) (sym not_here) ∙ e in
      rw not_here (ap (λ (n : ℕ). suc n) (length-without p xs rest))
]

any-without : (p q : Endpoint → Bool) (xs : List Endpoint) → ((x : Endpoint) → p x ≡ true → q x ≡ false) → list_any q (without p xs) ≡ false → list_any q xs ≡ false
unfolding without
any-without p q [] apart e = refl
any-without p q (x ∷ xs) apart e = elim (true_or_false (p x)) [
  | inl here ↦ rw (apart x here) (ap (λ (b : Bool). list_any q (cond b xs (x ∷ without p xs))) (sym here) ∙ e)
  | inr not_here ↦
      let both : (q x || list_any q (without p xs)) ≡ false = ap (λ (b : Bool). list_any q (cond b xs (x ∷ without p xs))) (sym not_here) ∙ e in
      let parts = neither (q x) (list_any q (without p xs)) both in
      rw (parts.0, any-without p q xs apart parts.1) refl
]

abbrev at : Address → ℕ → Endpoint
at a port = record { address = a; port = port }

and_false : (b : Bool) → (b && false) ≡ false
and_false true = refl
and_false false = refl

ports_apart : (a : Address) (m n : ℕ) → (m ≡ n → ⊥) → (x : Endpoint) → same_endpoint x (at a m) ≡ true → same_endpoint x (at a n) ≡ false
ports_apart a m n apart x e =
    let is : x ≡ at a m = endpoint_same x (at a m) e in
    let other : eqb m n ≡ false = grind (arith, nat_tests) in
    ap (λ (y : Endpoint). same_endpoint y (at a n)) is ∙ ap (λ (b : Bool). same_address a a && b) other ∙ and_false (same_address a a)

fresh : (n : ℕ) (earlier : List Endpoint) (a : Address) (h : ℕ) → length earlier ≤ n → (w : ℕ) × (0 < w) × (w ≤ n + 1) × (list_any (λ x. same_endpoint x (at a (h + w))) earlier ≡ false)
fresh zero [] a h le = (1, omega arith, omega arith, refl)
fresh zero (x ∷ xs) a h le = absurd (omega arith)
fresh (suc n) earlier a h le = elim (true_or_false (list_any (λ x. same_endpoint x (at a (h + (n + 2)))) earlier)) [
  | inr free ↦ (n + 2, omega arith, omega arith, free)
  | inl taken ↦
      let p : Endpoint → Bool = λ x. same_endpoint x (at a (h + (n + 2))) in
      let size = length-without p earlier taken in
      let less = fresh n (without p earlier) a h (omega (arith, size)) in
      let w = less.0 in
      (w, less.1, omega (arith, less.2), any-without p (λ x. same_endpoint x (at a (h + w))) earlier (ports_apart a (h + (n + 2)) (h + w) (λ same. omega (arith, same, less.2))) less.3)
]

-- ---- an address that is new

-- a front of what ends with one more octet
front_of : (octets rest front : List ℕ) (x : ℕ) → 0 < length rest → octets ++ rest ≡ front ++ x ∷ [] → (r : List ℕ) × (octets ++ r ≡ front)
front_of [] rest front x lt e = (front, refl)
front_of (o ∷ octets) rest [] x lt e =
    let size : suc (length (octets ++ rest)) ≡ 1 = ap length e in
    absurd (omega (arith, length-append octets rest))
front_of (o ∷ octets) rest (f ∷ front) x lt e =
    let same : o ≡ f = cc in
    let tail : octets ++ rest ≡ front ++ x ∷ [] = cc in
    let r = front_of octets rest front x lt tail in
    (r.0, ap (λ (l : List ℕ). o ∷ l) r.1 ∙ ap (λ (n : ℕ). n ∷ front) same)

-- all octets of an endpoint but the last
abbrev head_of : Endpoint → List ℕ
head_of e = (family e.address ∷ address_octets e.address) ++ (e.port / 256 % 256 ∷ [])

in_parts : (e : Endpoint) → endpoint_octets e ≡ head_of e ++ (e.port % 256 ∷ [])
in_parts e = sym (append_assoc (family e.address ∷ address_octets e.address) (e.port / 256 % 256 ∷ []) (e.port % 256 ∷ []))

is_new_from : (earlier : List Endpoint) (e : Endpoint) → 0 < e.port → list_any (λ x. same_endpoint x e) earlier ≡ false → is_new earlier e ≡ true
is_new_from earlier e lt none =
    let port : eqb e.port 0 ≡ false = grind (arith, nat_tests) in
    rw (port, none) refl

-- an endpoint with the same octets but the last, which is new
renewed : (earlier : List Endpoint) (e : Endpoint) → length earlier ≤ 15 → FitsEndpoint e → (b : Endpoint) × FitsEndpoint b × (is_new earlier b ≡ true) × (head_of b ≡ head_of e)
renewed earlier e short fits =
    let h = e.port / 256 % 256 * 256 in
    let f = fresh 15 earlier e.address h short in
    let w = f.0 in
    let b : Endpoint = at e.address (h + w) in
    let high : (h + w) / 256 % 256 ≡ e.port / 256 % 256 = omega (arith, f.1, f.2) in (
      b,
      record { address = fits.address; port = omega (arith, f.1, f.2) },
      is_new_from earlier b (omega (arith, f.1)) f.3,
      ap (λ (n : ℕ). (family e.address ∷ address_octets e.address) ++ (n ∷ [])) high,
    )

completed : (earlier : List Endpoint) → length earlier ≤ 15 → (e : Endpoint) (octets rest : List ℕ) → FitsEndpoint e → 0 < length rest → octets ++ rest ≡ endpoint_octets e
    → (b : Endpoint) × (more : List ℕ) × (FitsEndpoint b × (is_new earlier b ≡ true)) × (0 < length more) × (octets ++ more ≡ endpoint_octets b)
completed earlier short e octets rest fits lt is =
    let n = renewed earlier e short fits in
    let b = n.0 in
    let r = front_of octets rest (head_of e) (e.port % 256) lt (is ∙ in_parts e) in
    let last : List ℕ = b.port % 256 ∷ [] in
    (b, r.0 ++ last, (n.1, n.2), omega (arith, length-append r.0 last), sym (append_assoc octets r.0 last) ∙ ap (λ (l : List ℕ). l ++ last) (r.1 ∙ sym n.3) ∙ sym (in_parts b))

abbrev FitsNew : List Endpoint → Endpoint → Type 0
FitsNew earlier e = FitsEndpoint e × (is_new earlier e ≡ true)

local_obeys : (earlier : List Endpoint) → length earlier ≤ 15 → Obeys (local_at earlier) endpoint_octets (FitsNew earlier)
unfolding local_at
local_obeys earlier short =
    let some = endpoint_obeys.some in
    let n = renewed earlier some.0 short some.1 in
    tested_obeys endpoint_at endpoint_octets FitsEndpoint (is_new earlier) endpoint_obeys n.0 (n.1, n.2) (completed earlier short)

-- ---- a list behind earlier ones

FitsFrom : ℕ → List Endpoint → List Endpoint → Type 0
FitsFrom zero earlier ls = [] ≡ ls
FitsFrom (suc n) earlier [] = ⊥
FitsFrom (suc n) earlier (e ∷ ls) = FitsNew earlier e × FitsFrom n (earlier ++ e ∷ []) ls

abbrev some_endpoint : Endpoint
some_endpoint = record { address = V4 []; port = 0 }

abbrev first : List Endpoint → Endpoint
first [] = some_endpoint
first (e ∷ ls) = e

abbrev others : List Endpoint → List Endpoint
others [] = []
others (e ∷ ls) = ls

abbrev FitsOthers : ℕ → List Endpoint → Endpoint → List Endpoint → Type 0
FitsOthers n earlier a [] = ⊥
FitsOthers n earlier a (e ∷ ls) = (a ≡ e) × FitsFrom n (earlier ++ a ∷ []) ls

others_back : (n : ℕ) (earlier : List Endpoint) (a : Endpoint) (c : List Endpoint) → FitsOthers n earlier a c → (ls : List Endpoint) × FitsFrom n (earlier ++ a ∷ []) ls × (a ∷ ls ≡ c)
others_back n earlier a [] f = absurd f
others_back n earlier a (e ∷ ls) f = (ls, f.1, ap (λ (x : Endpoint). x ∷ ls) f.0)

abbrev Both : ℕ → List Endpoint → List Endpoint → Type 0
Both n earlier c = FitsNew earlier (first c) × FitsOthers n earlier (first c) c

both_fits : (n : ℕ) (earlier c : List Endpoint) → Both n earlier c → FitsFrom (suc n) earlier c × (endpoint_octets (first c) ++ flat_map endpoint_octets (others c) ≡ flat_map endpoint_octets c)
unfolding FitsFrom
both_fits n earlier [] f = absurd f.1
both_fits n earlier (e ∷ ls) f = ((f.0, f.1.1), refl)

both_back : (n : ℕ) (earlier c : List Endpoint) → FitsFrom (suc n) earlier c → Both n earlier c
unfolding FitsFrom
both_back n earlier [] f = absurd f
both_back n earlier (e ∷ ls) f = (f.0, (refl, f.1))

first_is : (n : ℕ) (earlier : List Endpoint) (a : Endpoint) (c : List Endpoint) → FitsOthers n earlier a c → first c ≡ a
first_is n earlier a [] f = absurd f
first_is n earlier a (e ∷ ls) f = sym f.0

from_obeys : (n : ℕ) (earlier : List Endpoint) → length earlier + n ≤ 16 → Obeys (locals_from n earlier) (flat_map endpoint_octets) (FitsFrom n earlier)
unfolding locals_from FitsFrom
from_obeys zero earlier short = same_obeys (locals_from 0 earlier) (λ _. []) (flat_map endpoint_octets) (λ (x : List Endpoint). [] ≡ x) (FitsFrom 0 earlier) (done_obeys []) (λ c f. (f, ap (flat_map endpoint_octets) f)) (λ c f. f)
from_obeys (suc n) earlier short =
    same_obeys (locals_from (suc n) earlier) (λ c. endpoint_octets (first c) ++ flat_map endpoint_octets (others c)) (flat_map endpoint_octets) (Both n earlier) (FitsFrom (suc n) earlier)
    (then_obeys (local_at earlier) endpoint_octets (FitsNew earlier) first (λ a octets. locals_from n (earlier ++ a ∷ []) octets >>= λ m. Ok (a ∷ m.0, m.1)) (λ a c. flat_map endpoint_octets (others c)) (FitsOthers n earlier)
    (local_obeys earlier (omega arith))
    (λ a fa. into_obeys (locals_from n (earlier ++ a ∷ [])) (flat_map endpoint_octets) (FitsFrom n (earlier ++ a ∷ [])) (λ ls. a ∷ ls) (λ c. flat_map endpoint_octets (others c)) (FitsOthers n earlier a)
    (from_obeys n (earlier ++ a ∷ []) (omega (arith, length-append earlier (a ∷ []))))
    (λ ls f. ((refl, f), refl))
    (others_back n earlier a))
    (λ a c fa fc. first_is n earlier a c fc))
    (both_fits n earlier) (both_back n earlier)

-- ---- a list behind earlier ones is a list of distinct addresses

length-from : (n : ℕ) (earlier ls : List Endpoint) → FitsFrom n earlier ls → length ls ≡ n
unfolding FitsFrom
length-from zero earlier ls f = ap length (sym f)
length-from (suc n) earlier [] f = absurd f
length-from (suc n) earlier (e ∷ ls) f = ap (λ (m : ℕ). suc m) (length-from n (earlier ++ e ∷ []) ls f.1)

new_parts : (earlier : List Endpoint) (e : Endpoint) → is_new earlier e ≡ true → (0 < e.port) × (list_any (λ x. same_endpoint x e) earlier ≡ false)
new_parts earlier e is =
    let p = both_true (not (eqb e.port 0)) (not (list_any (λ x. same_endpoint x e) earlier)) is in
    let port : eqb e.port 0 ≡ false = not_true (eqb e.port 0) p.0 in
    (grind (arith, nat_tests), not_true (list_any (λ x. same_endpoint x e) earlier) p.1)

each_from : (n : ℕ) (earlier ls : List Endpoint) → FitsFrom n earlier ls → AllByRecursion FitsLocal ls
unfolding FitsFrom
each_from zero earlier [] f = tt
each_from zero earlier (e ∷ ls) f = absurd cc
each_from (suc n) earlier [] f = absurd f
each_from (suc n) earlier (e ∷ ls) f = (record { fits = f.0.0; port = (new_parts earlier e f.0.1).0 }, each_from n (earlier ++ e ∷ []) ls f.1)

none_of : (p : Endpoint → Bool) (front back : List Endpoint) (e : Endpoint) → list_any p (front ++ e ∷ back) ≡ false → p e ≡ false
none_of p [] back e none = (neither (p e) (list_any p back) none).0
none_of p (x ∷ front) back e none = none_of p front back e (neither (p x) (list_any p (front ++ e ∷ back)) none).1

apart_from : (n : ℕ) (front back ls : List Endpoint) (e : Endpoint) → FitsFrom n (front ++ e ∷ back) ls → AllByRecursion (λ y. same_endpoint e y ≡ false) ls
unfolding FitsFrom
apart_from zero front back [] e f = tt
apart_from zero front back (y ∷ ls) e f = absurd cc
apart_from (suc n) front back [] e f = absurd f
apart_from (suc n) front back (y ∷ ls) e f = (
  none_of (λ x. same_endpoint x y) front back e (new_parts (front ++ e ∷ back) y f.0.1).1,
  apart_from n front (back ++ y ∷ []) ls e (subst (λ (l : List Endpoint). FitsFrom n l ls) (append_assoc front (e ∷ back) (y ∷ [])) f.1),
)

distinct_from : (n : ℕ) (earlier ls : List Endpoint) → FitsFrom n earlier ls → IsDistinct same_endpoint ls
unfolding FitsFrom IsDistinct
distinct_from zero earlier [] f = tt
distinct_from zero earlier (e ∷ ls) f = absurd cc
distinct_from (suc n) earlier [] f = absurd f
distinct_from (suc n) earlier (e ∷ ls) f = (apart_from n earlier [] ls e f.1, distinct_from n (earlier ++ e ∷ []) ls f.1)

-- an address that none of a list is, and each of which isn't among others
joined_apart : (earlier ls : List Endpoint) (e : Endpoint) → AllByRecursion (λ y. list_any (λ x. same_endpoint x y) earlier ≡ false) ls → AllByRecursion (λ y. same_endpoint e y ≡ false) ls
    → AllByRecursion (λ y. list_any (λ x. same_endpoint x y) (earlier ++ e ∷ []) ≡ false) ls
joined_apart earlier [] e f g = tt
joined_apart earlier (y ∷ ls) e f g =
    let one : list_any (λ x. same_endpoint x y) (e ∷ []) ≡ false = rw (g.0) refl in
    (list_any-append (λ x. same_endpoint x y) earlier (e ∷ []) ∙ rw (f.0) one, joined_apart earlier ls e f.1 g.1)

from_distinct : (earlier ls : List Endpoint) → AllByRecursion FitsLocal ls → IsDistinct same_endpoint ls → AllByRecursion (λ y. list_any (λ x. same_endpoint x y) earlier ≡ false) ls → FitsFrom (length ls) earlier ls
unfolding FitsFrom IsDistinct
from_distinct earlier [] each distinct apart = refl
from_distinct earlier (e ∷ ls) each distinct apart =
    ((each.0.fits, is_new_from earlier e each.0.port apart.0), from_distinct (earlier ++ e ∷ []) ls each.1 distinct.1 (joined_apart earlier ls e apart.1 distinct.0))

none_earlier : (ls : List Endpoint) → AllByRecursion (λ y. list_any (λ x. same_endpoint x y) [] ≡ false) ls
none_earlier [] = tt
none_earlier (y ∷ ls) = (refl, none_earlier ls)

-- ---- the count

abbrev body_len : ℕ → ℕ
body_len n = 1 + 19 * n

abbrev head_text : ℕ → List ℕ
head_text n = replicate 2 0 ++ ((body_len n / 256 ∷ []) ++ ((body_len n % 256 ∷ []) ++ (n ∷ [])))

abbrev list_test : ℕ → ℕ → Bool
list_test b c = is_list_len (b * 256 + c)

abbrev CountParts : ℕ → Type 0
CountParts n = Unit {0} × (Within 0 1 (body_len n / 256) × (FitsOctet (list_test (body_len n / 256)) (body_len n % 256) × Within ((body_len n / 256 * 256 + body_len n % 256) / 19) ((body_len n / 256 * 256 + body_len n % 256) / 19) n))

zero_or_one : (t : ℕ) → Within 0 1 t → (t ≡ 0) ⊎ (t ≡ 1)
zero_or_one t w = grind (arith, nat_tests)

some_len : (b : ℕ) → Within 0 1 b → (c : ℕ) × FitsOctet (list_test b) c
some_len b w = elim (zero_or_one b w) [
  | inl e ↦ (1, subst (λ (n : ℕ). FitsOctet (list_test n) 1) (sym e) (refl, omega arith))
  | inr e ↦ (11, subst (λ (n : ℕ). FitsOctet (list_test n) 11) (sym e) (refl, omega arith))
]

list_len_parts : (n : ℕ) → is_list_len n ≡ true → (n % 19 ≡ 1) × (n ≤ 305)
list_len_parts n e =
    let p = both_true (eqb (n % 19) 1) (leb n 305) e in
    (eqb-true (n % 19) 1 p.0, leb-true n 305 p.1)

list_len_from : (n : ℕ) → n ≤ 16 → is_list_len (body_len n) ≡ true
list_len_from n le =
    let a : eqb (body_len n % 19) 1 ≡ true = (let e : body_len n % 19 ≡ 1 = omega arith in rw e refl) in
    let b : leb (body_len n) 305 ≡ true = le-leb (body_len n) 305 (omega arith) in
    rw (a, b) refl

abbrev IsFew : ℕ → Type 0
IsFew n = n ≤ 16

abbrev count_text : ℕ → List ℕ
count_text n = to_be_bytes w32 (body_len n) ++ (n ∷ [])

low_digits : (n : ℕ) → n < 65536 → 0 ∷ 0 ∷ n / 256 ∷ n % 256 ∷ [] ≡ to_be_bytes w32 n
low_digits n lt =
    let a : n / 16777216 % 256 ≡ 0 = omega arith in
    let b : n / 65536 % 256 ≡ 0 = omega arith in
    let c : n / 256 % 256 ≡ n / 256 = omega arith in
    rw (a, b, c) refl

count_fits : (n : ℕ) → CountParts n → IsFew n × (head_text n ≡ count_text n)
count_fits n f =
    let whole : body_len n / 256 * 256 + body_len n % 256 ≡ body_len n = omega arith in
    let p = list_len_parts (body_len n / 256 * 256 + body_len n % 256) f.1.1.0.0 in
    (omega (arith, p.1, whole), ap (λ (l : List ℕ). l ++ (n ∷ [])) (low_digits (body_len n) (omega (arith, p.1, whole))))

count_back : (n : ℕ) → IsFew n → CountParts n
count_back n few =
    let whole : body_len n / 256 * 256 + body_len n % 256 ≡ body_len n = omega arith in
    let test : list_test (body_len n / 256) (body_len n % 256) ≡ true = ap is_list_len whole ∙ list_len_from n few in
    (tt, ((omega arith, omega arith), ((test, omega arith), (omega arith, omega arith))))

count_obeys : Obeys count_at count_text IsFew
unfolding count_at
count_obeys = same_obeys count_at head_text count_text CountParts IsFew
    (then_obeys _ _ _ (λ (n : ℕ). tt) _ _ _ (zeros_obeys 2)
    (λ z fz. then_obeys _ _ _ (λ (n : ℕ). body_len n / 256) _ _ _ (range_obeys 0 1 (omega arith) (omega arith))
    (λ b fb. let w = some_len b fb in then_obeys _ _ _ (λ (n : ℕ). body_len n % 256) _ _ _ (octet_obeys (list_test b) w.0 w.1)
    (λ c fc. range_obeys ((b * 256 + c) / 19) ((b * 256 + c) / 19) (omega arith) (omega (arith, (list_len_parts (b * 256 + c) fc.0).1)))
    (λ c n fc fn. let p = list_len_parts (b * 256 + c) fc.0 in omega (arith, p.0, p.1, fn.0, fn.1, fc.1)))
    (λ b n fb fn. let p = list_len_parts (b * 256 + body_len n % 256) fn.0.0 in omega (arith, p.0, p.1, fn.1.0, fn.1.1)))
    (λ z n fz fn. refl))
    count_fits count_back

-- ---- whole lists

abbrev pub locals_body : List Endpoint → List ℕ
locals_body ls = to_be_bytes w32 (length (locals_octets ls)) ++ locals_octets ls

pub length-locals : (ls : List Endpoint) → AllByRecursion FitsLocal ls → length (flat_map endpoint_octets ls) ≡ 19 * length ls
length-locals [] f = refl
length-locals (e ∷ ls) f = omega (arith, length-append (endpoint_octets e) (flat_map endpoint_octets ls), endpoint_octets_length e f.0.fits, length-locals ls f.1)

abbrev ListParts : List Endpoint → Type 0
ListParts ls = IsFew (length ls) × FitsFrom (length ls) [] ls

list_fits : (ls : List Endpoint) → ListParts ls → FitsLocals ls × (count_text (length ls) ++ flat_map endpoint_octets ls ≡ locals_body ls)
list_fits ls f =
    let each = each_from (length ls) [] ls f.1 in
    let size : length (locals_octets ls) ≡ body_len (length ls) = omega (arith, length-locals ls each) in (
      record { count = f.0; each = each; distinct = distinct_from (length ls) [] ls f.1 },
      append_assoc (to_be_bytes w32 (body_len (length ls))) (length ls ∷ []) (flat_map endpoint_octets ls) ∙ ap (λ (n : ℕ). to_be_bytes w32 n ++ locals_octets ls) (sym size),
    )

list_back : (ls : List Endpoint) → FitsLocals ls → ListParts ls
list_back ls f = (f.count, from_distinct [] ls f.each f.distinct (none_earlier ls))

pub locals_obeys : Obeys locals_at locals_body FitsLocals
unfolding locals_at
locals_obeys = same_obeys locals_at (λ ls. count_text (length ls) ++ flat_map endpoint_octets ls) locals_body ListParts FitsLocals
    (then_obeys count_at count_text IsFew length (λ n. locals_from n []) (λ n ls. flat_map endpoint_octets ls) (λ n ls. FitsFrom n [] ls) count_obeys
    (λ n few. from_obeys n [] (omega arith))
    (λ n ls few fl. length-from n [] ls fl))
    list_fits list_back
