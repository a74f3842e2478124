-- The fields of a slot's word (this project's own), from the high bits down: the sequence number of the next reply, 32 bits;
-- how often the slot was used, 18 bits; the row of its configuration, 13 bits; and one bit that is set where it is closed.
-- The numbers stand here as numbers: no constant of the code moves them.
use Rattle.std.specs.Prelude.{◌≡◌, ℕ, suc, ◌+◌, ◌*◌, ◌/◌, ◌%◌, ◌^◌, ◌<◌, ◌==◌, Bool, true, false, not}

-- what one of each field counts for in a word
abbrev pub sequence_unit : ℕ
sequence_unit = 2 ^ 32

abbrev pub generation_unit : ℕ
generation_unit = 2 ^ 14

abbrev pub row_unit : ℕ
row_unit = 2

abbrev pub closed_bit : Bool → ℕ
closed_bit true = 1
closed_bit false = 0

-- the greatest generation and the greatest row that a word has room for
abbrev pub greatest_generation : ℕ
greatest_generation = 262143

abbrev pub greatest_row : ℕ
greatest_row = 8191

unfoldable pub sequence_in : ℕ → ℕ
sequence_in n = n / sequence_unit

unfoldable pub generation_in : ℕ → ℕ
generation_in n = n % sequence_unit / generation_unit

unfoldable pub row_in : ℕ → ℕ
row_in n = n % generation_unit / row_unit

unfoldable pub is_open_word : ℕ → Bool
is_open_word n = n % row_unit == 0

unfoldable pub word_of : (sequence generation row : ℕ) (closed : Bool) → ℕ
word_of sequence generation row closed = sequence * sequence_unit + generation * generation_unit + row * row_unit + closed_bit closed

-- ---- what changes of a word do to its fields

-- n is a word of these fields
pub record HasFields (n s g r : ℕ) (closed : Bool) : Type 0 where
  pub small : n < 2 ^ 64
  pub sequence : sequence_in n ≡ s
  pub generation : generation_in n ≡ g
  pub row : row_in n ≡ r
  pub is_open : is_open_word n ≡ not closed

-- m is n after a draw
pub record Drawn (n m : ℕ) : Type 0 where
  pub small : m < 2 ^ 64
  pub sequence : sequence_in m ≡ suc (sequence_in n) % 2 ^ 32
  pub generation : generation_in m ≡ generation_in n
  pub row : row_in m ≡ row_in n
  pub is_open : is_open_word m ≡ is_open_word n

-- all but the closed bit
pub record Keeps (n m : ℕ) : Type 0 where
  pub small : n < 2 ^ 64 → m < 2 ^ 64
  pub sequence : sequence_in m ≡ sequence_in n
  pub generation : generation_in m ≡ generation_in n
  pub row : row_in m ≡ row_in n

-- m is n with another row
pub record Exchanged (n m new : ℕ) : Type 0 where
  pub small : n < 2 ^ 64 → m < 2 ^ 64
  pub sequence : sequence_in m ≡ sequence_in n
  pub generation : generation_in m ≡ generation_in n
  pub row : row_in m ≡ new
  pub is_open : is_open_word m ≡ is_open_word n
