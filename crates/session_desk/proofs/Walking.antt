-- Walks over the slots from a start, past the last slot to the first.
use Rattle.std.proofs.Common.{◌≡◌, ◌≢◌, ⊎_elim, ℕ, suc, ◌+◌, ◌<◌, ◌≤◌, ◌==◌, Bool, ◌&&◌, not, true, false, ◌-◌, List, length, get_or, sym, refl, ap, ◌∙◌, subst, arith, eq-eqb, ne_eqb}
use Rattle.refl_types.specs.declared.types.Endpoint.{Endpoint}
use Rattle.refl_types.specs.Same.{same_key, same_endpoint, same_mode}
use Rattle.session_desk.proofs.KeyFacts.{endpoint_same}
use Rattle.std.proofs.lemmas.Bool.{eqb-true}
use Rattle.session_key.specs.Matching.{excludes}
use Rattle.session_key.specs.Placing.{place_of}
use Rattle.session_world.specs.declared.steps.TableSize.{TableSize}
use Rattle.session_world.specs.Keys.{Key, distance, next_slot, start_of}
use Rattle.session_world.specs.Desk.{start_of_key}
use Rattle.session_desk.proofs.BoolFacts.{number_case, true_ne_false, is_false, both, and_i, either_of}
use Rattle.session_desk.proofs.KeyFacts.{same_key_eq}
use Rattle.session_world.specs.Walks.{WalksGoRound}
use Rattle.session_desk.specs.declared.session.Slot.{Slot}
use Rattle.session_desk.specs.Sessions.{is_of}
use Rattle.session_desk.specs.Slots.{is_taken, taken_in, session_in, key_in, IsAlone, Reaches}

pub second_fails : (a b : Bool) → (a && b) ≡ false → a ≡ true → b ≡ false
second_fails true b e t = e
second_fails false b e t = absurd (true_ne_false (sym t))

-- a walk over n slots has come to a slot, and P holds of those that it has passed, as many as it has counted
pub record Walked (n start at passed : ℕ) (P : ℕ → Type 0) : Type 0 where
  pub some : start < n
  pub inside : at < n
  pub here : passed < n → distance n start at ≡ passed
  pub before : (j : ℕ) → j < n → distance n start j < passed → P j

pub walked_none : WalksGoRound → (n start : ℕ) (P : ℕ → Type 0) → start < n → Walked n start start 0 P
walked_none w n start P lt = record { some = lt; inside = lt; here = λ _. w.at_start n start; before = λ j l d. absurd (omega (arith, d)) }

pub walked_more : WalksGoRound → (n start at passed : ℕ) (P : ℕ → Type 0) → Walked n start at passed P → passed < n → P at → Walked n start (next_slot n at) (passed + 1) P
walked_more laws n start at passed P w lt p = let h = w.here lt in record {
  some = w.some;
  inside = laws.next_inside n at w.inside;
  here = λ (l : passed + 1 < n). laws.further n start at w.some w.inside (λ (e : suc (distance n start at) ≡ n). omega (arith, e, h, l)) ∙ (omega (arith, h));
  before = λ j l d. number_case (distance n start j) passed
      (λ (e : distance n start j ≡ passed). subst P (laws.same n start at j w.some w.inside l (h ∙ sym e)) p)
      (λ (m : distance n start j ≢ passed). w.before j l (omega (arith, d, m)));
}

pub walked_all : WalksGoRound → (n start at passed : ℕ) (P : ℕ → Type 0) → Walked n start at passed P → n ≤ passed → (j : ℕ) → j < n → P j
walked_all laws n start at passed P w le j lt = let d = laws.low n start j w.some lt in w.before j lt (omega (arith, d, le))

pub start_is : (slots local : ℕ) (peer : Endpoint) → start_of slots local peer ≡ place_of local peer slots
unfolding start_of
start_is slots local peer = refl

-- the session of the key isn't in the slot
abbrev pub IsNotThere : List Slot → Key → ℕ → Type 0
IsNotThere ss k j = is_taken (taken_in ss j) ≡ true → is_of k (session_in ss j) ≡ false

-- a walk that has gone as far as sessions lie from its start has passed the key's, if there is one
pub none_further : (z : TableSize) (ss : List Slot) (far : List ℕ) (k : Key) (at passed start : ℕ) → Walked z.slots start at passed (IsNotThere ss k) → start ≡ start_of_key z k → get_or far start 0 ≤ passed → Reaches z ss far
    → (i : ℕ) → i < z.slots → is_taken (taken_in ss i) ≡ true → is_of k (session_in ss i) ≡ false
none_further z ss far k at passed start w e le r i lt t = is_false _ (λ (x : is_of k (session_in ss i) ≡ true).
    let same = same_key_eq (session_in ss i).key k x in
    let d : distance z.slots (start_of_key z k) i < get_or far (start_of_key z k) 0 = subst (λ (y : Key). distance z.slots (start_of_key z y) i < get_or far (start_of_key z y) 0) same (r i lt t) in
    let g : distance z.slots start i < get_or far start 0 = subst (λ (s : ℕ). distance z.slots s i < get_or far s 0) (sym e) d in
    true_ne_false (sym x ∙ w.before i lt (omega (arith, g, le)) t))

abbrev pub ExcludesNot : List Slot → Key → ℕ → Type 0
ExcludesNot ss k j = (is_taken (taken_in ss j) && excludes (session_in ss j).key k) ≡ false

excludes_start : (slots : ℕ) (j k : Key) → excludes j k ≡ true → start_of slots j.local j.peer ≡ start_of slots k.local k.peer
unfolding excludes
excludes_start slots j k h = ⊎_elim
    (λ (x : same_key j k ≡ true). ap (λ (y : Key). start_of slots y.local y.peer) (same_key_eq j k x))
    (λ (x : (((j.local == k.local) && same_endpoint j.peer k.peer) && not (same_mode j.mode k.mode)) ≡ true). let d = both _ _ (both _ _ x).0 in λ i. start_of slots (eqb-true j.local k.local d.0 i) (endpoint_same j.peer k.peer d.1 i))
    (either_of _ _ h)

-- a walk that has gone as far as sessions lie from its start has passed each that excludes the key
pub none_excludes : (z : TableSize) (ss : List Slot) (far : List ℕ) (k : Key) (at passed start : ℕ) → Walked z.slots start at passed (ExcludesNot ss k) → start ≡ start_of_key z k → get_or far start 0 ≤ passed → Reaches z ss far → IsAlone z ss k
none_excludes z ss far k at passed start w e le r i lt t x =
    let d : distance z.slots (start_of_key z k) i < get_or far (start_of_key z k) 0 = subst (λ (s : ℕ). distance z.slots s i < get_or far s 0) (excludes_start z.slots (session_in ss i).key k x) (r i lt t) in
    let g : distance z.slots start i < get_or far start 0 = subst (λ (s : ℕ). distance z.slots s i < get_or far s 0) (sym e) d in
    true_ne_false (sym x ∙ second_fails _ _ (w.before i lt (omega (arith, g, le))) t)

-- ---- the reach of a start ends before a slot that no session from there is in

pub nearer : WalksGoRound → (z : TableSize) (ss : List Slot) (start at far j : ℕ) → z.slots ≡ length ss → start < length ss → at < length ss → distance (length ss) start at ≡ far - 1 → 0 < far
    → (is_taken (taken_in ss at) && (place_of (key_in ss at).local (key_in ss at).peer (length ss) == start)) ≡ false
    → j < z.slots → is_taken (taken_in ss j) ≡ true → start_of_key z (key_in ss j) ≡ start → distance z.slots start j < far → distance z.slots start j < far - 1
nearer laws z ss start at far j e ls la d pos out lj t s near = number_case (distance z.slots start j) (far - 1)
    (λ (same : distance z.slots start j ≡ far - 1).
    let here : j ≡ at = laws.same z.slots start j at (omega (arith, e, ls)) lj (omega (arith, e, la)) (same ∙ sym d ∙ ap (λ (n : ℕ). distance n start at) (sym e)) in
    let begins : place_of (key_in ss at).local (key_in ss at).peer (length ss) ≡ start = ap (λ (i : ℕ). place_of (key_in ss i).local (key_in ss i).peer (length ss)) (sym here) ∙ ap (place_of (key_in ss j).local (key_in ss j).peer) (sym e) ∙ sym (start_is z.slots (key_in ss j).local (key_in ss j).peer) ∙ s in
    absurd (true_ne_false (sym (and_i _ _ (ap (λ (i : ℕ). is_taken (taken_in ss i)) (sym here) ∙ t) (eq-eqb _ _ begins)) ∙ out)))
    (λ (other : distance z.slots start j ≢ far - 1). omega (arith, near, other, pos))
