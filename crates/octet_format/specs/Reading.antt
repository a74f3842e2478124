-- Reading from left to right: the value and the octets after it, or that more octets are wanted, or that none will do.
use Rattle.std.specs.Prelude.{◌≡◌, ℕ, zero, suc, Bool, ◌&&◌, List, [], ◌∷◌, length, take, drop, Result, Ok, Err, nat_lt, nat_le, ◌==◌, if◌then◌else◌}
use Rattle.std.specs.Int.{Width, byte_len, from_be_bytes}
use Rattle.octet_format.specs.declared.reading.Unread.{Unread}
use Rattle.octet_format.specs.declared.reading.Unread.TheVariants.{More, Bad}

infixl 10 ◌>>=◌
abbrev pub ◌>>=◌ : {A B : Type 0} → Result A Unread → (A → Result B Unread) → Result B Unread
(Ok x) >>= f = f x
(Err e) >>= f = Err e

-- what a function returned, seen by view, is what reading gives
abbrev pub Gives : {X Y : Type 0} → (X → Y) → Result X Unread → Result Y Unread → Type 0
Gives view (Ok x) read = read ≡ Ok (view x)
Gives view (Err e) read = read ≡ Err e

-- one octet that passes a test
abbrev pub octet_at : (ℕ → Bool) → List ℕ → Result (ℕ × List ℕ) Unread
octet_at test [] = Err More
octet_at test (b ∷ rest) = if test b then Ok (b, rest) else Err Bad

-- one octet within a range
abbrev pub octet_in : ℕ → ℕ → List ℕ → Result (ℕ × List ℕ) Unread
octet_in low high octets = octet_at (λ b. nat_le low b && nat_le b high) octets

-- a number in network order
abbrev pub number_at : Width → List ℕ → Result (ℕ × List ℕ) Unread
number_at w octets = if nat_lt (length octets) (byte_len w) then Err More else Ok (from_be_bytes w (take (byte_len w) octets), drop (byte_len w) octets)

-- n octets
abbrev pub octets_at : ℕ → List ℕ → Result (List ℕ × List ℕ) Unread
octets_at n octets = if nat_lt (length octets) n then Err More else Ok (take n octets, drop n octets)

-- n zeros
unfoldable pub zeros_at : ℕ → List ℕ → Result (Unit {0} × List ℕ) Unread
zeros_at zero octets = Ok (tt, octets)
zeros_at (suc n) octets = do
  z ← octet_at (λ b. b == 0) octets
  zeros_at n z.1
