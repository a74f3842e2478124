-- One group more.
use Rattle.std.proofs.Common.{◌≡◌, ℕ, suc, ◌+◌, ◌<◌, ◌≤◌, List, [], ◌∷◌, ◌++◌, length, get_or, drop, refl, ap, sym, ◌∙◌, arith, drop-cons, append_assoc}
use Rattle.text_forms.specs.Endpoints.{colon, hex_octet, grouped, more_groups}

pub more_groups-step : (l : List ℕ) (k : ℕ) → k + 1 < length l → more_groups (drop k l) ≡ colon ∷ (hex_octet (get_or l k 0) ++ (hex_octet (get_or l (k + 1) 0) ++ more_groups (drop (k + 2) l)))
more_groups-step l k inside =
    let here : k < length l = omega arith in
    let next : suc k < length l = omega arith in
    let one : suc k ≡ k + 1 = omega arith in
    let two : suc (suc k) ≡ k + 2 = omega arith in
    rw (drop-cons l k 0, drop-cons l (suc k) 0) (ap (λ (n : ℕ). colon ∷ (hex_octet (get_or l k 0) ++ (hex_octet (get_or l n 0) ++ more_groups (drop (suc (suc k)) l)))) one ∙ ap (λ (n : ℕ). colon ∷ (hex_octet (get_or l k 0) ++ (hex_octet (get_or l (k + 1) 0) ++ more_groups (drop n l)))) two)

-- a text goes on by a colon and a group
pub more_groups-append : (front l : List ℕ) (k : ℕ) → k + 1 < length l → ((front ++ colon ∷ []) ++ (hex_octet (get_or l k 0) ++ hex_octet (get_or l (k + 1) 0))) ++ more_groups (drop (k + 2) l) ≡ front ++ more_groups (drop k l)
more_groups-append front l k inside = append_assoc (front ++ colon ∷ []) _ _ ∙ append_assoc front (colon ∷ []) _ ∙ ap (λ (t : List ℕ). front ++ t) (sym (more_groups-step l k inside))

pub grouped-begins : (l : List ℕ) → 2 ≤ length l → (hex_octet (get_or l 0 0) ++ hex_octet (get_or l 1 0)) ++ more_groups (drop 2 l) ≡ grouped l
grouped-begins [] long = absurd (omega arith)
grouped-begins (a ∷ []) long = absurd (omega arith)
grouped-begins (a ∷ b ∷ rest) long = refl
