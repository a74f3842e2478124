-- A key and its extra in four words of 64 bits (this project's own): the 16 address octets in two words, an IPv4
-- address in the first four octets; port, SSID, local number, mode and family; the octets that are reflected and
-- whether sizes are symmetrical.
use Rattle.std.specs.Prelude.{◌≡◌, ℕ, ◌+◌, ◌*◌, ◌/◌, ◌%◌, ◌^◌, ◌==◌, Bool, true, false, if◌then◌else◌, List, [], ◌∷◌, ◌++◌, take, drop, get_or}
use Rattle.std.specs.Int.{w64, from_be_bytes, to_be_bytes}
use Rattle.refl_types.specs.declared.types.Address.{Address}
use Rattle.refl_types.specs.declared.types.Address.TheVariants.{V4, V6}
use Rattle.refl_types.specs.declared.types.Mode.{Mode}
use Rattle.refl_types.specs.declared.types.Mode.TheVariants.{Plain, Auth, Twamp}
use Rattle.refl_types.specs.declared.types.Key.{Key}
use Rattle.refl_types.specs.declared.types.Extra.{Extra}
use Rattle.refl_types.specs.Spelling.{flag, address_octets, mode_code, FitsSession}

abbrev pub is_v6 : Address → Bool
is_v6 (V4 a) = false
is_v6 (V6 a) = true

abbrev pub ends_word : (port ssid local : ℕ) → Mode → Bool → ℕ
ends_word port ssid local mode v6 = port * 2 ^ 48 + ssid * 2 ^ 32 + local * 2 ^ 16 + mode_code mode * 2 + flag v6

abbrev pub extra_word : ℕ → Bool → ℕ
extra_word reflect symmetrical = reflect * 2 + flag symmetrical

unfoldable pub key_words : Key → Extra → List ℕ
key_words k x =
    from_be_bytes w64 (take 8 (address_octets k.peer.address))
    ∷ from_be_bytes w64 (drop 8 (address_octets k.peer.address))
    ∷ ends_word k.peer.port k.ssid k.local k.mode (is_v6 k.peer.address)
    ∷ extra_word x.reflect x.symmetrical
    ∷ []

-- four words that are those of a key and an extra that a session may have
unfoldable pub AreKeyWords : List ℕ → Type 0
AreKeyWords words = (k : Key) × (x : Extra) × FitsSession k x × (words ≡ key_words k x)

-- ---- and back

abbrev pub mode_of : ℕ → Mode
mode_of code = if code == 0 then Plain else (if code == 1 then Auth else Twamp)

abbrev pub address_of : ℕ → ℕ → Bool → Address
address_of first second true = V6 (to_be_bytes w64 first ++ to_be_bytes w64 second)
address_of first second false = V4 (take 4 (to_be_bytes w64 first))

-- the key of a third word and an address
abbrev pub key_at : Address → ℕ → Key
key_at address n = record {
  local = n / 2 ^ 16 % 2 ^ 16;
  peer = record { address = address; port = n / 2 ^ 48 };
  mode = mode_of (n / 2 % 2 ^ 15);
  ssid = n / 2 ^ 32 % 2 ^ 16;
}

unfoldable pub key_of_words : List ℕ → Key
key_of_words words = key_at (address_of (get_or words 0 0) (get_or words 1 0) (get_or words 2 0 % 2 == 1)) (get_or words 2 0)

unfoldable pub extra_of_words : List ℕ → Extra
extra_of_words words = record { symmetrical = get_or words 3 0 % 2 == 1; reflect = get_or words 3 0 / 2 }
