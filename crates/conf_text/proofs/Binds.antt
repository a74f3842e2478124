-- What readings have read, one after the other.
use Rattle.std.proofs.Common.{◌≡◌, ℕ, suc, pos, negsuc, ◌+◌, ◌≤◌, Bool, true, false, ◌&&◌, nat_le, List, [], Result, Ok, Err, Option, Some, None, if◌then◌else◌, cond, decimal, refl, ap, sym, subst, ◌∙◌, arith, add-zero}
use Rattle.std.proofs.lemmas.Bool.{and_parts}
use Rattle.std.proofs.lemmas.Bool.Decides.{nat_tests}
use Rattle.toml.specs.Data.{Data, string, integer, float, boolean, datetime, array, table, Items, no_items, item, Members, get_member}
use Rattle.conf_text.specs.Faults.{Fault, Limit, step, within, ◌>>=◌}
use Rattle.conf_text.specs.Tables.{number_of, number_at, or_default, maybe, required, places, counted, items_len}

-- where both have read, the first has
pub bind-ok : {A B C : Type 0} (r : Result A Fault) (f : A → Result B Fault) (b : B) → (r >>= f) ≡ Ok b → ((a : A) → r ≡ Ok a → f a ≡ Ok b → C) → C
bind-ok (Err e) f b is k = absurd cc
bind-ok (Ok a) f b is k = k a refl is

pub ok-is : {A : Type 0} (a b : A) → (let r : Result A Fault = Ok a in r ≡ Ok b) → a ≡ b
ok-is a b e = cc

pub counted-is : (path : List ℕ) (low high n : ℕ) (u : Unit {0}) → counted path low high n ≡ Ok u → (low ≤ n) × (n ≤ high)
counted-is path low high n u is = by (nat_le low n && nat_le n high) refl is
  where
    by : (t : Bool) → (nat_le low n && nat_le n high) ≡ t → (if t then Ok tt else Err (Limit path)) ≡ Ok u → (low ≤ n) × (n ≤ high)
    by false test e = absurd cc
    by true test e =
        let (above, below) = and_parts (nat_le low n) (nat_le n high) test in
        (grind (arith, nat_tests), grind (arith, nat_tests))

-- what each place of a list keeps holds of all that was found
pub places-keep : {S : Type 0} (read : S → List ℕ → Data → Result S Fault) (key : List ℕ) (I : ℕ → S → Type 0) → ((i : ℕ) (found more : S) (path : List ℕ) (d : Data) → I i found → read found path d ≡ Ok more → I (suc i) more) → (ds : Items) (i : ℕ) (found more : S) → I i found → places read key i found ds ≡ Ok more → I (i + items_len ds) more
unfolding places
places-keep read key I next no_items i found more held is = subst (λ n. I n more) (sym (add-zero i)) (subst (I i) (ok-is found more is) held)
places-keep read key I next (item d ds) i found more held is =
    bind-ok (read found (step key (decimal i)) d) _ _ is (λ one one-is rest.
    let e : suc i + items_len ds ≡ i + suc (items_len ds) = omega arith in
    subst (λ n. I n more) e (places-keep read key I next ds (suc i) one more (next i found one _ d held one-is) rest))

pub number_of-range : (path : List ℕ) (low high : ℕ) (d : Data) (n : ℕ) → number_of path low high d ≡ Ok n → (low ≤ n) × (n ≤ high)
number_of-range path low high (integer (pos m)) n is = by (nat_le low m && nat_le m high) refl is
  where
    by : (t : Bool) → (nat_le low m && nat_le m high) ≡ t → (if t then Ok m else Err (Limit path)) ≡ Ok n → (low ≤ n) × (n ≤ high)
    by false test e = absurd cc
    by true test e =
        let (above, below) = and_parts (nat_le low m) (nat_le m high) test in
        let same : m ≡ n = ok-is m n e in
        (grind (arith, nat_tests), grind (arith, nat_tests))
number_of-range path low high (integer (negsuc m)) n is = absurd cc
number_of-range path low high (string s) n is = absurd cc
number_of-range path low high (float x) n is = absurd cc
number_of-range path low high (boolean b) n is = absurd cc
number_of-range path low high (datetime x) n is = absurd cc
number_of-range path low high (array ds) n is = absurd cc
number_of-range path low high (table ms) n is = absurd cc

pub number_at-range : (key : List ℕ) (low high default : ℕ) (t : Members) (n : ℕ) → low ≤ default → default ≤ high → number_at key low high default t ≡ Ok n → (low ≤ n) × (n ≤ high)
number_at-range key low high default t n least most is = by (get_member key t) is
  where
    by : (o : Option Data) → or_default default (number_of key low high) o ≡ Ok n → (low ≤ n) × (n ≤ high)
    by None e = let same : default ≡ n = ok-is default n e in (omega (arith, same, least), omega (arith, same, most))
    by (Some d) e = number_of-range key low high d n e

pub within-ok : {A : Type 0} (key : List ℕ) (r : Result A Fault) (a : A) → within key r ≡ Ok a → r ≡ Ok a
within-ok key (Ok x) a is = is
within-ok key (Err e) a is = absurd cc
