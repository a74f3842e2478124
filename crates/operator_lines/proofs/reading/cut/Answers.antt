use Rattle.std.proofs.Common.{◌≡◌, ◌+◌, suc, take, drop, Some, ◌∙◌, ap, arith, rules}
use Rattle.std.proofs.lemmas.Bool.Decides.{nat_tests}
use Rattle.std.proofs.lemmas.List.{take_rest}
use Rattle.operator_lines.proofs.CutFacts.{cut-at, cut-none}
use Rattle.operator_lines.proofs.reading.cut.Goals as goal

pub returns-then-text-at : goal.returns-then-text-at
returns-then-text-at c =
    let at = c.loop-at.at in
    let s = c.args.text.now in
    let next : at + 1 ≡ suc at = omega arith in
    ap (λ r. Some (take at s, r)) (take_rest s (at + 1)) ∙ ap (λ m. Some (take at s, drop m s)) next ∙ cut-at c.args.mark s at (search rules) c.loop-at.invariant (grind (arith, nat_tests))

pub returns : goal.returns
returns c = cut-none c.args.mark c.args.text.now (λ k h. c.loop-at.invariant k (search rules))
