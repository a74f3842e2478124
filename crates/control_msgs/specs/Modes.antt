-- The modes of a connection (RFC 5357, section 3.1; RFC 6038, section 3.1): bit 0 is the open mode, bit 5 has octets
-- reflected, bit 6 has packets and replies of one size.
use Rattle.std.specs.Prelude.{ℕ, ◌/◌, ◌%◌, Bool, ◌==◌, ◌&&◌, ◌||◌, not}
use Rattle.std.specs.List.{list_all, range_with_len}
use Rattle.std.specs.Int.{bit_at}

abbrev pub reflects_octets : ℕ → Bool
reflects_octets mode = mode / 32 % 2 == 1

abbrev pub is_symmetrical : ℕ → Bool
is_symmetrical mode = mode / 64 % 2 == 1

-- the bits that a server offers
abbrev pub is_offered : ℕ → Bool
is_offered t = t == 0 || t == 5 || t == 6

abbrev pub has_bit : ℕ → ℕ → Bool
has_bit mode t = bit_at mode t == 1

-- bit 0 is set, and each of the 32 bits that is set is one that a server offers
unfoldable pub is_open_mode : ℕ → Bool
is_open_mode mode = has_bit mode 0 && list_all (λ t. not (has_bit mode t) || is_offered t) (range_with_len 0 32)
