use Rattle.std.proofs.Common.{take_all, arith, refl}
use Rattle.config_rows.specs.Index.{hash_of}
use Rattle.config_rows.proofs.book.hash.Goals as goal

pub returns : goal.returns
unfolding hash_of
returns c =
    let all = take_all c.loop-word.word-index c.to_words-words.result (omega arith) in
    rw (c.finish.ensures, c.loop-word.invariant, all, c.to_words-words.ensures.value) refl
