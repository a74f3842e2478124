use Rattle.std.proofs.Common.{◌-◌, ◌++◌, ◌∙◌, ap, ℕ, List, length, replicate, zero-add}
use Rattle.std.proofs.lemmas.List.{drop-replicate}
use Rattle.hmac_sha256.proofs.filled.Goals as goal

pub returns : goal.returns
returns c =
    let n = length c.args.key.now in
    c.put.ensures ∙ ap (λ (rest : List ℕ). c.args.key.now ++ rest) (drop-replicate _ 64 0 ∙ ap (λ (m : ℕ). replicate (64 - m) 0) (zero-add n))
