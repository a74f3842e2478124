-- A list of local addresses that is read into places.
use Rattle.std.proofs.Common.{◌≡◌, ℕ, suc, ◌+◌, ◌-◌, ◌<◌, ◌≤◌, List, [], ◌∷◌, ◌++◌, length, take, drop, replicate, Result, Ok, Err, refl, sym, ap, subst, ◌∙◌, append_assoc, arith}
use Rattle.std.proofs.Math.ListN.{set}
use Rattle.std.proofs.Math.Seq.{take-suc-set}
use Rattle.std.proofs.lemmas.List.{append-nil, drop-drop, drop-set-lt, length-set}
use Rattle.octet_format.specs.declared.reading.Unread.{Unread}
use Rattle.octet_format.specs.Reading.{◌>>=◌}
use Rattle.refl_types.specs.declared.types.Endpoint.{Endpoint}
use Rattle.replay_format.specs.InnerReading.{count_at, local_at, locals_from, locals_at}
use Rattle.replay_format.specs.View.{no_local, IsPadded}

-- what was read, and then what stands before it
abbrev behind : List Endpoint → Result (List Endpoint × List ℕ) Unread → Result (List Endpoint × List ℕ) Unread
behind front read = read >>= λ r. Ok (front ++ r.0, r.1)

-- so many of n addresses stand in their places, and the others nowhere yet
pub record AreRead (n : ℕ) (start rest : List ℕ) (list : List Endpoint) (i : ℕ) : Type 0 where
  pub within : i ≤ n
  pub few : n ≤ 16
  pub size : length list ≡ 16
  pub free : drop i list ≡ replicate (16 - i) no_local
  pub read : locals_from n [] start ≡ behind (take i list) (locals_from (n - i) (take i list) rest)

nothing_before : (read : Result (List Endpoint × List ℕ) Unread) → read ≡ behind [] read
nothing_before (Ok x) = refl
nothing_before (Err e) = refl

pub none_read : (n : ℕ) (start : List ℕ) (list : List Endpoint) → n ≤ 16 → list ≡ replicate 16 no_local → AreRead n start start list 0
none_read n start list few is = record {
  within = omega arith;
  few = few;
  size = ap length is;
  free = is;
  read = let all : n ≡ n - 0 = omega arith in nothing_before (locals_from n [] start) ∙ ap (λ (k : ℕ). behind [] (locals_from k [] start)) all;
}

one_before : (front : List Endpoint) (e : Endpoint) (read : Result (List Endpoint × List ℕ) Unread) → behind front (read >>= λ r. Ok (e ∷ r.0, r.1)) ≡ behind (front ++ e ∷ []) read
one_before front e (Ok x) = ap (λ (l : List Endpoint). Ok (l, x.1)) (sym (append_assoc front (e ∷ []) x.0))
one_before front e (Err d) = refl

from_next : (m : ℕ) (earlier : List Endpoint) (rest after : List ℕ) (e : Endpoint) → local_at earlier rest ≡ Ok (e, after) → behind earlier (locals_from (suc m) earlier rest) ≡ behind (earlier ++ e ∷ []) (locals_from m (earlier ++ e ∷ []) after)
unfolding locals_from
from_next m earlier rest after e is = rw is (one_before earlier e (locals_from m (earlier ++ e ∷ []) after))

from_refused : (m : ℕ) (earlier : List Endpoint) (rest : List ℕ) (d : Unread) → local_at earlier rest ≡ Err d → behind earlier (locals_from (suc m) earlier rest) ≡ Err d
unfolding locals_from
from_refused m earlier rest d is = rw is refl

free_next : (list : List Endpoint) (i : ℕ) (e : Endpoint) → i < 16 → drop i list ≡ replicate (16 - i) no_local → drop (i + 1) (set list i e) ≡ replicate (16 - (i + 1)) no_local
free_next list i e lt free =
    let m = 16 - (i + 1) in
    let count : 16 - i ≡ suc m = omega arith in
    drop-set-lt (i + 1) list i e (omega arith)
    ∙ sym (drop-drop 1 i list)
    ∙ ap (drop 1) (free ∙ ap (λ (k : ℕ). replicate k no_local) count)

pub next_read : (n : ℕ) (start rest after : List ℕ) (list : List Endpoint) (i : ℕ) (e : Endpoint) → AreRead n start rest list i → i < n → local_at (take i list) rest ≡ Ok (e, after) → AreRead n start after (set list i e) (i + 1)
next_read n start rest after list i e are lt is =
    let m = n - (i + 1) in
    let count : n - i ≡ suc m = omega arith in
    let taken : take i list ++ e ∷ [] ≡ take (i + 1) (set list i e) =
    (let next : suc i ≡ i + 1 = omega arith in sym (take-suc-set list i e (omega (arith, are.size, are.few))) ∙ ap (λ (k : ℕ). take k (set list i e)) next) in
    record {
      within = omega arith;
      few = are.few;
      size = length-set list i e ∙ are.size;
      free = free_next list i e (omega (arith, are.few)) are.free;
      read =
          are.read
          ∙ ap (λ (k : ℕ). behind (take i list) (locals_from k (take i list) rest)) count
          ∙ from_next m (take i list) rest after e is
          ∙ ap (λ (l : List Endpoint). behind l (locals_from m l after)) taken;
    }

pub read_refused : (n : ℕ) (start rest : List ℕ) (list : List Endpoint) (i : ℕ) (d : Unread) → AreRead n start rest list i → i < n → local_at (take i list) rest ≡ Err d → locals_from n [] start ≡ Err d
read_refused n start rest list i d are lt is =
    let count : n - i ≡ suc (n - (i + 1)) = omega arith in
    are.read ∙ ap (λ (k : ℕ). behind (take i list) (locals_from k (take i list) rest)) count ∙ from_refused (n - (i + 1)) (take i list) rest d is

from_none : (earlier : List Endpoint) (rest : List ℕ) → behind earlier (locals_from 0 earlier rest) ≡ Ok (earlier, rest)
unfolding locals_from
from_none earlier rest = ap (λ (l : List Endpoint). Ok (l, rest)) (append-nil earlier)

pub all_read : (n : ℕ) (start rest : List ℕ) (list : List Endpoint) (i : ℕ) → AreRead n start rest list i → n ≤ i → (locals_from n [] start ≡ Ok (take n list, rest)) × IsPadded n list
all_read n start rest list i are le =
    let same : i ≡ n = omega (arith, are.within) in
    let none : n - i ≡ 0 = omega (arith, are.within) in (
      are.read ∙ ap (λ (k : ℕ). behind (take i list) (locals_from k (take i list) rest)) none ∙ from_none (take i list) rest ∙ ap (λ (k : ℕ). Ok (take k list, rest)) same,
      record { limit = are.few; others = subst (λ (k : ℕ). drop k list ≡ replicate (16 - k) no_local) same are.free },
    )

pub whole_list : (octets : List ℕ) (n : ℕ) (rest : List ℕ) (x : List Endpoint × List ℕ) → count_at octets ≡ Ok (n, rest) → locals_from n [] rest ≡ Ok x → locals_at octets ≡ Ok x
unfolding locals_at
whole_list octets n rest x count read = rw count read

pub no_list : (octets : List ℕ) (n : ℕ) (rest : List ℕ) (d : Unread) → count_at octets ≡ Ok (n, rest) → locals_from n [] rest ≡ Err d → locals_at octets ≡ Err d
unfolding locals_at
no_list octets n rest d count read = rw count read
