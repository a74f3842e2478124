-- The index of a book of rows (this project's own): the rows are in so many buckets, by the hashes of their
-- configurations. Of each bucket the latest row is kept, and of each row the one before it in its bucket; 0 is no row.
use Rattle.std.specs.Prelude.{◌≡◌, ℕ, suc, ◌-◌, ◌%◌, ◌<◌, ◌≤◌, List, length, slice_index}
use Rattle.std.specs.List.{fold}
use Rattle.std.specs.Hash as fed
use Rattle.std.specs.Hash.FoldHasher as folding
use Rattle.std.specs.declared.hash.FoldHasher.{FoldHasher}
use Rattle.refl_types.specs.declared.config.ConfigParts.{ConfigParts}
use Rattle.config_rows.specs.Words.{row_words}
use Rattle.config_rows.specs.Rows.{Rows, IsRow}

abbrev pub with_word : FoldHasher → ℕ → FoldHasher
with_word hasher word = fold folding.write hasher (fed.u64 word)

-- the hash of a configuration's words
unfoldable pub hash_of : ConfigParts → ℕ
hash_of c = folding.finish (fold with_word folding.initial (row_words c))

-- the bucket of a configuration, among n
abbrev pub bucket_of : ℕ → ConfigParts → ℕ
bucket_of n c = hash_of c % n

-- a configuration of the bucket has the row
abbrev pub IsInBucket : Rows → ℕ → ℕ → ℕ → Type 0
IsInBucket rows n bucket row = (c : ConfigParts) × IsRow rows c row × (bucket_of n c ≡ bucket)

-- of the bucket's rows below a limit this one is the greatest, or there is none and it is 0
pub record IsLatest (rows : Rows) (n bucket limit row : ℕ) : Type 0 where
  pub below : row < limit
  pub member : 0 < row → IsInBucket rows n bucket row
  pub latest : (other : ℕ) → IsInBucket rows n bucket other → other < limit → other ≤ row

-- the latest row of each bucket, and for each row the one before it in its bucket
pub record IsIndex (rows : Rows) (latest previous : List ℕ) : Type 0 where
  pub some : 0 < length latest
  pub links : length previous ≡ length rows.configs
  pub buckets : (bucket : ℕ) → bucket < length latest → IsLatest rows (length latest) bucket (suc (length rows.configs)) (slice_index latest bucket)
  pub chains : (row : ℕ) (c : ConfigParts) → IsRow rows c row → IsLatest rows (length latest) (bucket_of (length latest) c) row (slice_index previous (row - 1))
