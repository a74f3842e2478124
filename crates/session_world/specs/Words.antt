-- Where the words lie, and what each step does to its one word (this project's own).
use Rattle.std.specs.Prelude.{◌≡◌, ℕ, zero, suc, ◌+◌, ◌-◌, ◌*◌, ◌%◌, ◌^◌, ◌==◌, true, List, [], ◌∷◌, ◌++◌, replicate, bit_and, bit_or, bit_xor, slice_index, slice_set}
use prog.Atomic.{either}
use Rattle.slot_word.specs.Fields.{sequence_unit, row_unit, closed_bit, word_of}
use Rattle.session_world.specs.declared.steps.TableSize.{TableSize}
use Rattle.session_world.specs.declared.steps.Step.{Step}
use Rattle.session_world.specs.declared.steps.Step.TheVariants.{WriteRow, WriteKey, ReserveNew, Start, Look, LoadKey, Draw, Split, LoadRow, Reconfigure, Close, Peek, Expire, Join, Announce, Retire, Scan, ReserveUsed}

-- slot i has five words: the slot word and four key words
abbrev pub slot_at : ℕ → ℕ
slot_at i = 5 * i

abbrev pub key_at : ℕ → ℕ → ℕ
key_at i k = 5 * i + k

-- row r has twelve words after those of the slots
abbrev pub row_at : TableSize → ℕ → ℕ → ℕ
row_at z r k = 5 * z.slots + 12 * (r - 1) + (k - 1)

-- worker w has one announcement word after those of the rows: 0, or the number of a slot plus 1
abbrev pub announced_at : TableSize → ℕ → ℕ
announced_at z w = 5 * z.slots + 12 * z.rows + (w - 1)

abbrev pub count_of_words : TableSize → ℕ
count_of_words z = 5 * z.slots + 12 * z.rows + z.workers

-- n slots that were never used
abbrev pub fresh_slots : ℕ → List ℕ
fresh_slots zero = []
fresh_slots (suc n) = 1 ∷ 0 ∷ 0 ∷ 0 ∷ 0 ∷ fresh_slots n

abbrev pub first_words : TableSize → List ℕ
first_words z = fresh_slots z.slots ++ replicate (12 * z.rows + z.workers) 0

-- which word a step of the actor a is on
abbrev pub word_index : TableSize → ℕ → Step → ℕ
word_index z a (WriteRow row index word) = row_at z row index
word_index z a (WriteKey slot index word) = key_at slot index
word_index z a (ReserveNew slot row) = slot_at slot
word_index z a (Start slot read) = slot_at slot
word_index z a (Look slot query read) = slot_at slot
word_index z a (LoadKey slot index read) = key_at slot index
word_index z a (Draw slot read) = slot_at slot
word_index z a (Split worker read) = 0
word_index z a (LoadRow row index read) = row_at z row index
word_index z a (Reconfigure slot old new read) = slot_at slot
word_index z a (Close slot read) = slot_at slot
word_index z a (Peek slot read) = slot_at slot
word_index z a (Expire slot expected read) = slot_at slot
word_index z a (Join worker read) = 0
word_index z a (Announce slot) = announced_at z a
word_index z a Retire = announced_at z a
word_index z a (Scan worker read) = announced_at z worker
word_index z a (ReserveUsed slot generation row) = slot_at slot

-- what a step leaves where n stood: a store its word, a load the same, a draw one sequence number more,
-- a start the open word, a close the closed one, an exchange of rows the row that is new; an expire closes what it expects
abbrev pub word_after : Step → ℕ → ℕ
word_after (WriteRow row index word) n = word
word_after (WriteKey slot index word) n = word
word_after (ReserveNew slot row) n = word_of 0 1 row true
word_after (Start slot read) n = bit_and n (2 ^ 64 - 2)
word_after (Look slot query read) n = n
word_after (LoadKey slot index read) n = n
word_after (Draw slot read) n = (n + sequence_unit) % 2 ^ 64
word_after (Split worker read) n = n
word_after (LoadRow row index read) n = n
word_after (Reconfigure slot old new read) n = bit_xor n (bit_xor old new * row_unit)
word_after (Close slot read) n = bit_or n (closed_bit true)
word_after (Peek slot read) n = n
word_after (Expire slot expected read) n = either (n == expected) (bit_or expected (closed_bit true)) n
word_after (Join worker read) n = n
word_after (Announce slot) n = slot + 1
word_after Retire n = 0
word_after (Scan worker read) n = n
word_after (ReserveUsed slot generation row) n = word_of 0 generation row true

-- a step that reads has read the word n that stood there; a store reads nothing
abbrev pub HasRead : Step → ℕ → Type 0
HasRead (Start slot read) n = read ≡ n
HasRead (Look slot query read) n = read ≡ n
HasRead (LoadKey slot index read) n = read ≡ n
HasRead (Draw slot read) n = read ≡ n
HasRead (Split worker read) n = read ≡ n
HasRead (LoadRow row index read) n = read ≡ n
HasRead (Reconfigure slot old new read) n = read ≡ n
HasRead (Close slot read) n = read ≡ n
HasRead (Peek slot read) n = read ≡ n
HasRead (Expire slot expected read) n = read ≡ n
HasRead (Join worker read) n = read ≡ n
HasRead (Scan worker read) n = read ≡ n
HasRead _ n = Unit {0}

abbrev pub words_after : TableSize → List ℕ → ℕ → Step → List ℕ
words_after z ws a s = slice_set ws (word_index z a s) (word_after s (slice_index ws (word_index z a s)))
