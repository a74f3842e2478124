-- Octets that are known, and the places of a buffer.
use Rattle.std.proofs.Common.{◌≡◌, ℕ, ◌-◌, List, [], ◌∷◌, ◌++◌, length, take, drop, Option, Some, None, refl, sym, ap, subst, ◌∙◌, append_assoc, ◌+◌}
use Rattle.std.proofs.lemmas.List.{append-nil, length-drop}
use Rattle.std.proofs.Math.Seq.{take-add}
use Rattle.std.specs.Io.KnownBytes.{Appends, Consumes, Keeps}

pub appends_none : (o : Option (List ℕ)) → Appends o o []
appends_none None = tt
appends_none (Some xs) = sym (append-nil xs)

pub appends_then : (a b c : Option (List ℕ)) (x y : List ℕ) → Appends a b x → Appends b c y → Appends a c (x ++ y)
appends_then None b c x y p q = tt
appends_then (Some l) None c x y p q = absurd p
appends_then (Some l) (Some m) None x y p q = absurd q
appends_then (Some l) (Some m) (Some n) x y p q = q ∙ ap (λ (r : List ℕ). r ++ y) p ∙ append_assoc l x y

pub appends_keeps : (a b c : Option (List ℕ)) (x : List ℕ) → Appends a b x → Keeps b c → Appends a c x
appends_keeps None b c x p q = tt
appends_keeps (Some l) None c x p q = absurd p
appends_keeps (Some l) (Some m) None x p q = absurd q
appends_keeps (Some l) (Some m) (Some n) x p q = q ∙ p

pub consumes_none : (o : Option (List ℕ)) → Consumes o o []
consumes_none None = tt
consumes_none (Some xs) = refl

pub consumes_then : (a b c : Option (List ℕ)) (x y : List ℕ) → Consumes a b x → Consumes b c y → Consumes a c (x ++ y)
consumes_then None b c x y p q = tt
consumes_then (Some l) None c x y p q = absurd p
consumes_then (Some l) (Some m) None x y p q = absurd q
consumes_then (Some l) (Some m) (Some n) x y p q = p ∙ ap (λ (r : List ℕ). x ++ r) q ∙ sym (append_assoc x y n)

pub consumes_keeps : (a b c : Option (List ℕ)) (x : List ℕ) → Consumes a b x → Keeps b c → Consumes a c x
consumes_keeps None b c x p q = tt
consumes_keeps (Some l) None c x p q = absurd p
consumes_keeps (Some l) (Some m) None x p q = absurd q
consumes_keeps (Some l) (Some m) (Some n) x p q = p ∙ ap (λ (r : List ℕ). x ++ r) (sym q)

pub take_rest : (n : ℕ) (l : List ℕ) → take (length l - n) (drop n l) ≡ drop n l
take_rest n l = ap (λ (k : ℕ). take k (drop n l)) (sym (length-drop n l)) ∙ take-all (drop n l)
  where
    take-all : (m : List ℕ) → take (length m) m ≡ m
    take-all [] = refl
    take-all (x ∷ m) = ap (λ (r : List ℕ). x ∷ r) (take-all m)

-- a front of known octets grew by a front of the rest
pub appends_front : (old now new : Option (List ℕ)) (octets : List ℕ) (at n : ℕ)
    → Appends old now (take at octets) → Appends now new (take n (take (length octets - at) (drop at octets))) → Appends old new (take (at + n) octets)
appends_front old now new octets at n before more =
    let rest : take (length octets - at) (drop at octets) ≡ drop at octets = take_rest at octets in
    let e : take at octets ++ take n (take (length octets - at) (drop at octets)) ≡ take (at + n) octets =
    ap (λ (r : List ℕ). take at octets ++ take n r) rest ∙ sym (take-add at n octets) in
    subst (λ (r : List ℕ). Appends old new r) e (appends_then old now new (take at octets) (take n (take (length octets - at) (drop at octets))) before more)
