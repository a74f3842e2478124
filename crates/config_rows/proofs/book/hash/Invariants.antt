use Rattle.std.proofs.Common.{◌≡◌, take}
use Rattle.std.specs.List.{fold}
use Rattle.std.specs.Hash.FoldHasher as folding
use Rattle.config_rows.specs.Index.{with_word}
use Rattle.config_rows.proofs.book.hash.Given as goal

abbrev pub invariant-loop-word : goal.invariant-loop-word
invariant-loop-word l = l.hasher ≡ fold with_word folding.initial (take l.word-index l.word-items)
