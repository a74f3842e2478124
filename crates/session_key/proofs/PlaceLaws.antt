-- Octets that are hashed one part after the other, and the range of a place.
use Rattle.std.proofs.Common.{◌≡◌, ℕ, ◌+◌, ◌<◌, List, [], ◌∷◌, ◌++◌, length, take, get_or, refl, sym, ap, ◌∙◌, arith}
use Rattle.std.proofs.lemmas.List.{take_more}
use Rattle.refl_types.specs.declared.types.Endpoint.{Endpoint}
use Rattle.session_key.specs.Placing.{fnv_step, fnv_from, place_of}

pub fnv_parts : (hash : ℕ) (a b : List ℕ) → fnv_from hash (a ++ b) ≡ fnv_from (fnv_from hash a) b
unfolding fnv_from
fnv_parts hash [] b = refl
fnv_parts hash (x ∷ a) b = fnv_parts (fnv_step hash x) a b

fnv_one : (hash octet : ℕ) → fnv_from hash (octet ∷ []) ≡ fnv_step hash octet
unfolding fnv_from
fnv_one hash octet = refl

pub fnv_more : (hash now octet : ℕ) (octets : List ℕ) (i : ℕ) → i < length octets → now ≡ fnv_from hash (take i octets) → octet ≡ get_or octets i 0 → fnv_step now octet ≡ fnv_from hash (take (i + 1) octets)
fnv_more hash now octet octets i lt e is =
    let parts : fnv_from hash (take (i + 1) octets) ≡ fnv_from (fnv_from hash (take i octets)) (get_or octets i 0 ∷ []) = ap (fnv_from hash) (take_more octets i 0 lt) ∙ fnv_parts hash (take i octets) (get_or octets i 0 ∷ []) in
    (λ j. fnv_step (e j) (is j)) ∙ (sym (fnv_one (fnv_from hash (take i octets)) (get_or octets i 0)) ∙ sym parts)

pub place_range : (local : ℕ) (peer : Endpoint) (slots : ℕ) → 0 < slots → place_of local peer slots < slots
unfolding place_of
place_range local peer slots h = omega (arith, h)

pub fnv_two : (hash octet one all : ℕ) (a : List ℕ) → one ≡ fnv_from hash (octet ∷ []) → all ≡ fnv_from one a → all ≡ fnv_from hash (octet ∷ a)
unfolding fnv_from
fnv_two hash octet one all a e f = f ∙ ap (λ (n : ℕ). fnv_from n a) e

pub fnv_three : (hash octet one two all : ℕ) (a b : List ℕ) → one ≡ fnv_from hash (octet ∷ []) → two ≡ fnv_from one a → all ≡ fnv_from two b → all ≡ fnv_from hash (octet ∷ (a ++ b))
fnv_three hash octet one two all a b e f g = fnv_two hash octet one all (a ++ b) e (g ∙ ap (λ (n : ℕ). fnv_from n b) f ∙ sym (fnv_parts one a b))
