-- Records that were written part by part.
use Rattle.std.proofs.Common.{◌≡◌, ℕ, suc, ◌+◌, ◌*◌, ◌<◌, ◌≤◌, List, [], ◌∷◌, ◌++◌, length, get_or, take, drop, sym, ap, subst, ◌∙◌, append_assoc, arith, add-zero}
use Rattle.std.specs.List.{flat_map}
use Rattle.std.proofs.Math.Seq.{take-suc}
use Rattle.std.proofs.lemmas.List.{append-nil, length-append, take_all}
use Rattle.std.proofs.lemmas.Grind.{flat_map-append}
use Rattle.refl_types.specs.declared.types.Endpoint.{Endpoint}
use Rattle.refl_types.specs.Spelling.{endpoint_octets}
use Rattle.octet_format.proofs.Fields.{Has, has_front, has_more}

pub regrouped_open : (a b c d e : List ℕ) → (((a ++ b) ++ c) ++ d) ++ e ≡ a ++ (b ++ ((c ++ d) ++ e))
regrouped_open a b c d e = simp append_assoc

pub regrouped_datagram : (a b c d e f g h : List ℕ) → ((((((a ++ b) ++ c) ++ d) ++ e) ++ f) ++ g) ++ h ≡ a ++ (b ++ (((((c ++ d) ++ e) ++ f) ++ g) ++ h))
regrouped_datagram a b c d e f g h = simp append_assoc

-- one endpoint more behind those that were written
pub one_more : (front old out : List ℕ) (ls : List Endpoint) (at i : ℕ) (d : Endpoint) (given new : List ℕ) → Has (front ++ flat_map endpoint_octets (take i ls)) old out (at + 19 * i) → i < length ls
    → given ≡ endpoint_octets (get_or ls i d) → length (endpoint_octets (get_or ls i d)) ≡ 19 → new ≡ take (at + 19 * i) out ++ given ++ drop (at + 19 * i + length given) out
    → Has (front ++ flat_map endpoint_octets (take (i + 1) ls)) old new (at + 19 * (i + 1))
one_more front old out ls at i d given new has below is size put =
    let e = get_or ls i d in
    let next : suc i ≡ i + 1 = omega arith in
    let taken : take i ls ++ e ∷ [] ≡ take (i + 1) ls = sym (take-suc ls i d below) ∙ ap (λ (n : ℕ). take n ls) next in
    let more : flat_map endpoint_octets (take i ls) ++ endpoint_octets e ≡ flat_map endpoint_octets (take (i + 1) ls) =
    ap (λ (l : List ℕ). flat_map endpoint_octets (take i ls) ++ l) (sym (append-nil (endpoint_octets e)))
    ∙ sym (flat_map-append endpoint_octets (take i ls) (e ∷ []))
    ∙ ap (flat_map endpoint_octets) taken in
    let whole : (front ++ flat_map endpoint_octets (take i ls)) ++ endpoint_octets e ≡ front ++ flat_map endpoint_octets (take (i + 1) ls) = append_assoc front (flat_map endpoint_octets (take i ls)) (endpoint_octets e) ∙ ap (λ (l : List ℕ). front ++ l) more in
    subst (λ (l : List ℕ). Has l old new (at + 19 * (i + 1))) whole (has_more (front ++ flat_map endpoint_octets (take i ls)) old out (endpoint_octets e) given new (at + 19 * i) 19 (at + 19 * (i + 1)) has is put size (omega arith))

pub none_yet : (old : List ℕ) (at : ℕ) → at ≤ length old → Has (take at old ++ []) old old (at + 0)
none_yet old at le = record { parts = (has_front old at le).parts ∙ ap (λ (l : List ℕ). l ++ drop at old) (sym (append-nil (take at old))) ∙ ap (λ (n : ℕ). (take at old ++ []) ++ drop n old) (sym (add-zero at)); len = omega (arith, (has_front old at le).len, length-append (take at old) []) }

-- all of them
pub all_written : (front old out : List ℕ) (ls : List Endpoint) (at i : ℕ) → Has (front ++ flat_map endpoint_octets (take i ls)) old out (at + 19 * i) → i ≤ length ls → length ls ≤ i
    → Has (front ++ flat_map endpoint_octets ls) old out (at + 19 * length ls)
all_written front old out ls at i has le ge =
    let n : i ≡ length ls = omega arith in
    let whole : take i ls ≡ ls = take_all i ls ge in
    subst (λ (l : List Endpoint). Has (front ++ flat_map endpoint_octets l) old out (at + 19 * length ls)) whole (subst (λ (m : ℕ). Has (front ++ flat_map endpoint_octets (take i ls)) old out (at + 19 * m)) n has)
