-- The places of a buffer.
use Rattle.std.proofs.Common.{◌≡◌, ℕ, ◌+◌, ◌<◌, ◌≤◌, List, [], ◌∷◌, ◌++◌, length, take, get_or, refl, sym, ap, ◌∙◌, append_assoc, arith}
use Rattle.std.proofs.lemmas.List.{length-append, length-take-le, take_at}
use borrow.Rule.Slice.PartMut.{put_mid, post_of}

-- octets that were written from a place on stand behind those before it
pub put_behind : (octets part : List ℕ) (at k n : ℕ) (written rest : List ℕ) → at ≤ length octets → part ≡ written ++ rest → n ≡ length written
    → take (at + n) (put_mid at k octets part) ≡ take at octets ++ written
put_behind octets part at k n written rest within e len =
    let front = take at octets in
    let more = post_of at k octets in
    let parted : front ++ (part ++ more) ≡ (front ++ written) ++ (rest ++ more) =
    ap (λ (l : List ℕ). front ++ (l ++ more)) e ∙ ap (λ (l : List ℕ). front ++ l) (append_assoc written rest more) ∙ sym (append_assoc front written (rest ++ more)) in
    ap (take (at + n)) parted ∙ take_at (front ++ written) (rest ++ more) (at + n) (omega (arith, length-append front written, length-take-le at octets within, len))

-- a list of one element
pub one_element : {A : Type 0} (ws : List A) (w : A) → 1 ≤ length ws → length ws < 2 → w ≡ get_or ws 0 w → ws ≡ w ∷ []
one_element [] w some few e = absurd (omega arith)
one_element (x ∷ []) w some few e = ap (λ y. y ∷ []) (sym e)
one_element (x ∷ y ∷ ws) w some few e = absurd (omega arith)

-- a list of two
pub two_elements : {A : Type 0} (ws : List A) (v w : A) → 2 ≤ length ws → length ws < 3 → v ≡ get_or ws 0 v → w ≡ get_or ws 1 w → ws ≡ v ∷ w ∷ []
two_elements [] v w some few e f = absurd (omega arith)
two_elements (x ∷ []) v w some few e f = absurd (omega arith)
two_elements (x ∷ y ∷ []) v w some few e f = rw (e, f) refl
two_elements (x ∷ y ∷ z ∷ ws) v w some few e f = absurd (omega arith)
