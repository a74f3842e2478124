-- What the desk's own list of steps says of the slots, of the rows and of the workers (this project's own). The latest step comes first.
use Rattle.std.specs.Prelude.{◌≡◌, ℕ, suc, ◌*◌, ◌<◌, ◌≤◌, ◌==◌, Bool, true, false, ◌||◌, ◌&&◌, not, if◌then◌else◌, List, [], ◌∷◌}
use Rattle.slot_word.specs.Fields.{greatest_generation}
use Rattle.session_world.specs.declared.steps.TableSize.{TableSize}
use Rattle.session_world.specs.declared.steps.Step.{Step}
use Rattle.session_world.specs.declared.steps.Step.TheVariants.{WriteRow, WriteKey, ReserveNew, Start, Split, Reconfigure, Close, Expire, Join, Scan, ReserveUsed}
use Rattle.session_world.specs.Keys.{Key, Extra, ConfigParts, key_of, extra_of, config_of, is_auth, has_key, start_of, distance}

-- the desk started the slot, and has neither closed it nor expired it with success since
abbrev pub is_open : List Step → ℕ → Bool
is_open [] i = false
is_open (Start slot read ∷ ds) i = (i == slot) || is_open ds i
is_open (Close slot read ∷ ds) i = not (i == slot) && is_open ds i
is_open (Expire slot expected read ∷ ds) i = not ((i == slot) && (read == expected)) && is_open ds i
is_open (_ ∷ ds) i = is_open ds i

-- how often the slot was reserved: 0 where never
abbrev pub generation_of : List Step → ℕ → ℕ
generation_of [] i = 0
generation_of (ReserveNew slot row ∷ ds) i = if i == slot then 1 else generation_of ds i
generation_of (ReserveUsed slot generation row ∷ ds) i = if i == slot then generation else generation_of ds i
generation_of (_ ∷ ds) i = generation_of ds i

-- the row that the desk last gave the slot
abbrev pub row_of : List Step → ℕ → ℕ
row_of [] i = 0
row_of (ReserveNew slot row ∷ ds) i = if i == slot then row else row_of ds i
row_of (ReserveUsed slot generation row ∷ ds) i = if i == slot then row else row_of ds i
row_of (Reconfigure slot old new read ∷ ds) i = if i == slot then new else row_of ds i
row_of (_ ∷ ds) i = row_of ds i

-- the slot's key words, as last written
abbrev pub key_word_of : List Step → ℕ → ℕ → ℕ
key_word_of [] i k = 0
key_word_of (WriteKey slot index word ∷ ds) i k = if (i == slot) && (k == index) then word else key_word_of ds i k
key_word_of (_ ∷ ds) i k = key_word_of ds i k

abbrev pub key_of_slot : List Step → ℕ → Key
key_of_slot ds i = key_of (key_word_of ds i)

abbrev pub extra_of_slot : List Step → ℕ → Extra
extra_of_slot ds i = extra_of (key_word_of ds i)

-- the last of the desk's steps on the slot's five words is its reserve
abbrev pub is_reserved : List Step → ℕ → Bool
is_reserved [] i = false
is_reserved (ReserveNew slot row ∷ ds) i = (i == slot) || is_reserved ds i
is_reserved (ReserveUsed slot generation row ∷ ds) i = (i == slot) || is_reserved ds i
is_reserved (WriteKey slot index word ∷ ds) i = not (i == slot) && is_reserved ds i
is_reserved (Start slot read ∷ ds) i = not (i == slot) && is_reserved ds i
is_reserved (_ ∷ ds) i = is_reserved ds i

-- how many row words were written: rows are written in order, and each in order
abbrev pub rows_written : List Step → ℕ
rows_written [] = 0
rows_written (WriteRow row index word ∷ ds) = suc (rows_written ds)
rows_written (_ ∷ ds) = rows_written ds

-- the words of a row, as the desk wrote them
abbrev pub row_word_of : List Step → ℕ → ℕ → ℕ
row_word_of [] r k = 0
row_word_of (WriteRow row index word ∷ ds) r k = if (r == row) && (k == index) then word else row_word_of ds r k
row_word_of (_ ∷ ds) r k = row_word_of ds r k

-- the configuration for which a row stands
abbrev pub config_at : List Step → ℕ → ConfigParts
config_at ds r = config_of (row_word_of ds r)

-- all twelve words of the row were written
abbrev pub IsComplete : List Step → ℕ → Type 0
IsComplete ds r = (0 < r) × (12 * r ≤ rows_written ds)

-- where the key in slot i is of mode Auth, the configuration of the row has an HMAC key (RFC 8762, section 4.2.2)
abbrev pub KeyedFor : List Step → ℕ → ℕ → Type 0
KeyedFor ds i r = is_auth (key_of_slot ds i) ≡ true → has_key (config_at ds r) ≡ true

-- the worker is split off: a split of it has come, and no join of it since
abbrev pub is_split : List Step → ℕ → Bool
is_split [] w = false
is_split (Split worker read ∷ ds) w = (w == worker) || is_split ds w
is_split (Join worker read ∷ ds) w = not (w == worker) && is_split ds w
is_split (_ ∷ ds) w = is_split ds w

-- the steps that begin or end a use of the slot: a reserve, a close, an expire that found what it expected
abbrev pub ends_use : Step → ℕ → Bool
ends_use (ReserveNew slot row) i = i == slot
ends_use (ReserveUsed slot generation row) i = i == slot
ends_use (Close slot read) i = i == slot
ends_use (Expire slot expected read) i = (i == slot) && (read == expected)
ends_use _ i = false

-- since the last of these, the desk has a scan of worker w that read no announcement of the slot
abbrev pub scanned_since : List Step → ℕ → ℕ → Bool
scanned_since [] i w = false
scanned_since (Scan worker read ∷ ds) i w = ((w == worker) && not (read == suc i)) || scanned_since ds i w
scanned_since (s ∷ ds) i w = not (ends_use s i) && scanned_since ds i w

-- since the last of these, the desk wrote key word k of the slot
abbrev pub written_since : List Step → ℕ → ℕ → Bool
written_since [] i k = false
written_since (WriteKey slot index word ∷ ds) i k = ((i == slot) && (k == index)) || written_since ds i k
written_since (s ∷ ds) i k = not (ends_use s i) && written_since ds i k

-- the slot may be used again: it was used, it is closed, a further generation is left, and every worker was scanned since
pub record MayReuse (z : TableSize) (ds : List Step) (i : ℕ) : Type 0 where
  pub used : ¬ (generation_of ds i ≡ 0)
  pub left : generation_of ds i < greatest_generation
  pub closed : is_open ds i ≡ false
  pub scanned : (w : ℕ) → 0 < w → w ≤ z.workers → scanned_since ds i w ≡ true

-- every slot that a walk for the slot's key passes before it comes to the slot was reserved at some time
abbrev pub HasPath : TableSize → List Step → ℕ → ℕ → Type 0
HasPath z ds from i = (j : ℕ) → j < z.slots → distance z.slots from j < distance z.slots from i → ¬ (generation_of ds j ≡ 0)

abbrev pub start_of_key : TableSize → Key → ℕ
start_of_key z k = start_of z.slots k.local k.peer
