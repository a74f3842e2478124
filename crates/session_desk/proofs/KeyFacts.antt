-- Keys that are equal, and keys that exclude each other.
use Rattle.std.proofs.Common.{◌≡◌, ◌⊎◌, ⊎_elim, ℕ, ◌==◌, Bool, true, false, ◌&&◌, not, List, [], ◌∷◌, sym, refl, ap, ◌∙◌, subst, eq-eqb}
use Rattle.std.proofs.lemmas.Bool.{eqb-true}
use Rattle.refl_types.specs.declared.types.Address.{Address}
use Rattle.refl_types.specs.declared.types.Address.TheVariants.{V4, V6}
use Rattle.refl_types.specs.declared.types.Endpoint.{Endpoint}
use Rattle.refl_types.specs.declared.types.Mode.{Mode}
use Rattle.refl_types.specs.declared.types.Mode.TheVariants.{Plain, Auth, Twamp}
use Rattle.refl_types.specs.declared.types.Key.{Key}
use Rattle.refl_types.specs.Same.{same_octets, same_address, same_endpoint, same_mode, same_key}
use Rattle.session_key.specs.Matching.{excludes}
use Rattle.session_desk.proofs.BoolFacts.{true_ne_false, both, either_of, or_l, or_r, and_i}

octets_same : (a b : List ℕ) → same_octets a b ≡ true → a ≡ b
octets_same [] [] e = refl
octets_same [] (y ∷ ys) e = absurd (true_ne_false (sym e))
octets_same (x ∷ xs) [] e = absurd (true_ne_false (sym e))
octets_same (x ∷ xs) (y ∷ ys) e = let p = both (x == y) (same_octets xs ys) e in λ i. eqb-true x y p.0 i ∷ octets_same xs ys p.1 i

octets_self : (a : List ℕ) → same_octets a a ≡ true
octets_self [] = refl
octets_self (x ∷ xs) = and_i _ _ (eq-eqb x x refl) (octets_self xs)

address_same : (a b : Address) → same_address a b ≡ true → a ≡ b
address_same (V4 a) (V4 b) e = ap (λ (l : List ℕ). V4 l) (octets_same a b e)
address_same (V6 a) (V6 b) e = ap (λ (l : List ℕ). V6 l) (octets_same a b e)
address_same (V4 a) (V6 b) e = absurd (true_ne_false (sym e))
address_same (V6 a) (V4 b) e = absurd (true_ne_false (sym e))

address_self : (a : Address) → same_address a a ≡ true
address_self (V4 a) = octets_self a
address_self (V6 a) = octets_self a

pub endpoint_same : (a b : Endpoint) → same_endpoint a b ≡ true → a ≡ b
endpoint_same a b e = let p = both (same_address a.address b.address) (a.port == b.port) e in λ i. record { address = address_same a.address b.address p.0 i; port = eqb-true a.port b.port p.1 i }

endpoint_self : (a : Endpoint) → same_endpoint a a ≡ true
endpoint_self a = and_i _ _ (address_self a.address) (eq-eqb a.port a.port refl)

mode_same : (a b : Mode) → same_mode a b ≡ true → a ≡ b
mode_same Plain Plain e = refl
mode_same Auth Auth e = refl
mode_same Twamp Twamp e = refl
mode_same Plain Auth e = absurd (true_ne_false (sym e))
mode_same Plain Twamp e = absurd (true_ne_false (sym e))
mode_same Auth Plain e = absurd (true_ne_false (sym e))
mode_same Auth Twamp e = absurd (true_ne_false (sym e))
mode_same Twamp Plain e = absurd (true_ne_false (sym e))
mode_same Twamp Auth e = absurd (true_ne_false (sym e))

mode_self : (a : Mode) → same_mode a a ≡ true
mode_self Plain = refl
mode_self Auth = refl
mode_self Twamp = refl

mode_turn : (a b : Mode) → same_mode a b ≡ same_mode b a
mode_turn Plain Plain = refl
mode_turn Auth Auth = refl
mode_turn Twamp Twamp = refl
mode_turn Plain Auth = refl
mode_turn Plain Twamp = refl
mode_turn Auth Plain = refl
mode_turn Auth Twamp = refl
mode_turn Twamp Plain = refl
mode_turn Twamp Auth = refl

pub same_key_eq : (j k : Key) → same_key j k ≡ true → j ≡ k
unfolding same_key
same_key_eq j k e =
    let p = both (((j.local == k.local) && same_endpoint j.peer k.peer) && same_mode j.mode k.mode) (j.ssid == k.ssid) e in
    let q = both ((j.local == k.local) && same_endpoint j.peer k.peer) (same_mode j.mode k.mode) p.0 in
    let r = both (j.local == k.local) (same_endpoint j.peer k.peer) q.0 in
    λ i. record { local = eqb-true j.local k.local r.0 i; peer = endpoint_same j.peer k.peer r.1 i; mode = mode_same j.mode k.mode q.1 i; ssid = eqb-true j.ssid k.ssid p.1 i }

same_key_self : (k : Key) → same_key k k ≡ true
unfolding same_key
same_key_self k = and_i _ _ (and_i _ _ (and_i _ _ (eq-eqb k.local k.local refl) (endpoint_self k.peer)) (mode_self k.mode)) (eq-eqb k.ssid k.ssid refl)

pub same_key_of : (j k : Key) → j ≡ k → same_key j k ≡ true
same_key_of j k e = subst (λ (i : Key). same_key j i ≡ true) e (same_key_self j)

pub excludes_self : (k : Key) → excludes k k ≡ true
unfolding excludes
excludes_self k = or_l _ _ (same_key_self k)

pub excludes_turn : (j k : Key) → excludes j k ≡ true → excludes k j ≡ true
unfolding excludes
excludes_turn j k e = ⊎_elim
    (λ (h : same_key j k ≡ true). or_l _ _ (same_key_of k j (sym (same_key_eq j k h))))
    (λ (h : (((j.local == k.local) && same_endpoint j.peer k.peer) && not (same_mode j.mode k.mode)) ≡ true).
    let p = both ((j.local == k.local) && same_endpoint j.peer k.peer) (not (same_mode j.mode k.mode)) h in let q = both (j.local == k.local) (same_endpoint j.peer k.peer) p.0 in
    or_r _ _ (and_i _ _ (and_i _ _ (eq-eqb k.local j.local (sym (eqb-true j.local k.local q.0))) (subst (λ (x : Endpoint). same_endpoint x j.peer ≡ true) (endpoint_same j.peer k.peer q.1) (endpoint_self j.peer))) (ap not (mode_turn k.mode j.mode) ∙ p.1)))
    (either_of _ _ e)
