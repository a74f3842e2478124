use Rattle.std.proofs.Common.{ℕ, Bool, List, Some, sym, ap, ◌∙◌}
use Rattle.config_rows.specs.Words.{key_of}
use Rattle.config_rows.proofs.words.key_of.Goals as goal

pub returns : goal.returns
returns c = ap (λ (l : List ℕ). Some l) c.write_u64_into.ensures ∙ ap (λ (b : Bool). key_of b c.args.words.now) (sym c.if-not-keyed.false)
