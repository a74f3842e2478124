use Rattle.conf_text.proofs.TakenFacts.{Adds, added}
use Rattle.conf_text.proofs.taken.Taken.add.Goals as goal

pub returns : goal.returns
returns c = λ sessions s same by apart.
    let adds : Adds c.args.self.now (record { modes = c.insert-2.new.self; keys = c.insert.new.self }) c.args.key.now =
    record {
      keys = λ q. rw (← c.plain_words-words.ensures.value) (c.in_ok-insert.ensures.updates.0 q);
      modes = λ q. rw (← c.ends_words-ends.ensures.value) (c.in_ok-insert-2.ensures.updates.0 q);
    } in
    added _ _ c.args.key.now sessions s adds c.key_fits.ensures same by apart
