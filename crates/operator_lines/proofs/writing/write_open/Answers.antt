use Rattle.std.proofs.Common.{◌≡◌, ◌≤◌, ℕ, List, length, take, arith, ap}
use Rattle.std.proofs.lemmas.List.{length-take}
use Rattle.operator_lines.specs.Lines.{open_text}
use Rattle.operator_lines.proofs.OneLines.{open_one}
use Rattle.operator_lines.proofs.writing.write_open.Goals as goal

taken-short : (n : ℕ) (l text : List ℕ) → take n l ≡ text → n ≤ 112 → length text ≤ 512
taken-short n l text is few = omega (arith, length-take n l, ap length is, few)

pub returns-clause-one : goal.returns-clause-one
returns-clause-one c =
    let w = c.put_open.ensures in
    let text = open_text c.args.key.now c.args.name.now c.args.seconds in
    open_one c.args.key.now c.args.name.now c.args.seconds c.key_fits.ensures c.name_fits.ensures (omega (arith, c.ranges.seconds.fits)) (taken-short c.put_open.result c.put_open.new.out text w.text w.short)
