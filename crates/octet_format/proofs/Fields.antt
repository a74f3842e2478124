-- Fields that are written one after the other, and read at their places.
use Rattle.std.proofs.Common.{◌≡◌, ℕ, ◌+◌, ◌-◌, ◌≤◌, List, [], ◌∷◌, ◌++◌, length, take, drop, refl, sym, ap, ◌∙◌, append_assoc, arith}
use borrow.Rule.Slice.PartMut.{put_mid}
use Rattle.std.specs.Int.{w16, w32, from_be_bytes, to_be_bytes}
use Rattle.std.proofs.lemmas.List.{take_at, drop_at, drop-drop, take-append-drop, length-append, length-drop, length-take-le, append-nil, nil_from_length}
use Rattle.std.proofs.lemmas.Nat.{be_bytes_2, be_bytes_4}
use Rattle.octet_format.specs.Octets.{IsBytes, field}
use Rattle.octet_format.proofs.Obeys.{IsBytes-drop, IsBytes-take}

-- cur is front, and then what old has past it
pub record Has (front old cur : List ℕ) (at : ℕ) : Type 0 where
  pub parts : cur ≡ front ++ drop at old
  pub len : length front ≡ at

pub has_none : (old : List ℕ) → Has [] old old 0
has_none old = record { parts = refl; len = refl }

pub has_more : (front old cur field given new : List ℕ) (at n next : ℕ) → Has front old cur at → given ≡ field → new ≡ take at cur ++ given ++ drop (at + length given) cur → length field ≡ n → at + n ≡ next → Has (front ++ field) old new next
has_more front old cur field given new at n next has same e len sum =
    let first : take at cur ≡ front = ap (take at) has.parts ∙ take_at front (drop at old) at has.len in
    let rest : drop (at + length given) cur ≡ drop next old =
    ap (drop (at + length given)) has.parts
    ∙ sym (drop-drop (length given) at (front ++ drop at old))
    ∙ ap (drop (length given)) (drop_at front (drop at old) at has.len)
    ∙ drop-drop (length given) at old
    ∙ ap (λ (m : ℕ). drop m old) (ap (λ (m : ℕ). at + m) (ap length same ∙ len) ∙ sum) in
    record {
      parts = e ∙ rw (first, rest, same) refl;
      len = omega (arith, length-append front field, has.len);
    }

-- what stands from a place on begins with the field there
pub cut : (at n next : ℕ) (octets : List ℕ) → at + n ≡ next → drop at octets ≡ field at n octets ++ drop next octets
cut at n next octets sum =
    sym (take-append-drop n (drop at octets)) ∙ ap (λ (rest : List ℕ). field at n octets ++ rest) (drop-drop n at octets ∙ ap (λ (m : ℕ). drop m octets) sum)

pub length-field : (at n : ℕ) (octets : List ℕ) → at + n ≤ length octets → length (field at n octets) ≡ n
length-field at n octets le = length-take-le n (drop at octets) (omega (arith, length-drop at octets))

-- a field is the spelling of the number that it is read as
pub field_16 : (at : ℕ) (octets : List ℕ) → IsBytes octets → at + 2 ≤ length octets → to_be_bytes w16 (from_be_bytes w16 (field at 2 octets)) ≡ field at 2 octets
field_16 at octets bytes le = be_bytes_2 (field at 2 octets) (from_be_bytes w16 (field at 2 octets)) (length-field at 2 octets le) (IsBytes-take 2 (drop at octets) (IsBytes-drop at octets bytes)) refl

pub field_32 : (at : ℕ) (octets : List ℕ) → IsBytes octets → at + 4 ≤ length octets → to_be_bytes w32 (from_be_bytes w32 (field at 4 octets)) ≡ field at 4 octets
field_32 at octets bytes le = be_bytes_4 (field at 4 octets) (from_be_bytes w32 (field at 4 octets)) (length-field at 4 octets le) (IsBytes-take 4 (drop at octets) (IsBytes-drop at octets bytes)) refl

-- what a writer leaves that was lent the octets from a place on
pub written_from : (at : ℕ) (old given text : List ℕ) → at + length text ≤ length old → given ≡ text ++ drop (length text) (take (length old - at) (drop at old))
    → put_mid at (length old - at) old given ≡ take at old ++ text ++ drop (at + length text) old
written_from at old given text fits e =
    let all : take (length old - at) (drop at old) ≡ drop at old = ap (λ (n : ℕ). take n (drop at old)) (sym (length-drop at old)) ∙ take_all (drop at old) in
    let rest : drop (length text) (take (length old - at) (drop at old)) ≡ drop (at + length text) old = ap (drop (length text)) all ∙ drop-drop (length text) at old in
    let past : drop (length old - at) (drop at old) ≡ [] = drop_past (length old - at) (drop at old) (omega (arith, length-drop at old)) in
    ap (λ (l : List ℕ). take at old ++ (l ++ drop (length old - at) (drop at old))) (e ∙ ap (λ (l : List ℕ). text ++ l) rest)
    ∙ ap (λ (l : List ℕ). take at old ++ ((text ++ drop (at + length text) old) ++ l)) past
    ∙ ap (λ (l : List ℕ). take at old ++ l) (append-nil (text ++ drop (at + length text) old))
    ∙ sym (append_assoc (take at old) text (drop (at + length text) old))
  where
    take_all : (l : List ℕ) → take (length l) l ≡ l
    take_all [] = refl
    take_all (x ∷ l) = ap (λ (r : List ℕ). x ∷ r) (take_all l)

    drop_past : (n : ℕ) (l : List ℕ) → length l ≤ n → drop n l ≡ []
    drop_past n l le = nil_from_length (drop n l) (omega (arith, length-drop n l))

-- before the first field, what stands before it
pub has_front : (old : List ℕ) (at : ℕ) → at ≤ length old → Has (take at old) old old at
has_front old at le = record { parts = sym (take-append-drop at old); len = length-take-le at old le }

-- a slice keeps its length, so what was written has the length of what it stands for
pub length_written : (front old new : List ℕ) (at : ℕ) → new ≡ front ++ drop at old → length new ≡ length old → at ≤ length old → length front ≡ at
length_written front old new at e same le = omega (arith, ap length e, length-append front (drop at old), length-drop at old)

pub length_put : (field old new : List ℕ) (at next : ℕ) → new ≡ take at old ++ field ++ drop next old → length new ≡ length old → at ≤ next → next ≤ length old → at + length field ≡ next
length_put field old new at next e same le lt = omega (arith, ap length e, length-append (take at old ++ field) (drop next old), length-append (take at old) field, length-take-le at old (omega arith), length-drop next old)

-- what was written at its place, after a front
pub has_put : (front old cur field new : List ℕ) (at next : ℕ) → Has front old cur at → new ≡ take at cur ++ field ++ drop next cur → length new ≡ length cur → at ≤ next → next ≤ length cur → Has (front ++ field) old new next
has_put front old cur field new at next has e same le lt =
    let len : at + length field ≡ next = length_put field cur new at next e same le lt in
    has_more front old cur field field new at (length field) next has refl (e ∙ ap (λ (n : ℕ). take at cur ++ field ++ drop n cur) (sym len)) refl len

-- what stays between two fields
pub has_same : (front old cur : List ℕ) (at n next : ℕ) → Has front old cur at → at + n ≡ next → next ≤ length old → Has (front ++ field at n old) old cur next
has_same front old cur at n next has sum le = record {
  parts = has.parts ∙ ap (λ (rest : List ℕ). front ++ rest) (cut at n next old sum) ∙ sym (append_assoc front (field at n old) (drop next old));
  len = omega (arith, length-append front (field at n old), length-field at n old (omega arith), has.len);
}
