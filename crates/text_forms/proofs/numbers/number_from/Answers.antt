use Rattle.std.proofs.Common.{◌≡◌, ◌<◌, ◌^◌, Ok, sym, ◌∙◌, ap, arith, decimal, bytes_eq, true, false}
use Rattle.std.proofs.lemmas.Grind.{common_steps}
use Rattle.std.proofs.lemmas.Bool.{false≢true, not-true, not-false}
use Rattle.std.proofs.lemmas.Slice.Eq.{bytes_eq-Decides}
use Rattle.std.proofs.lemmas.Fmt.{parse-decimal}
use Rattle.text_forms.proofs.NumberFacts.{number_from-decimal, number_from-other, IsUtf8-decimal}
use Rattle.text_forms.proofs.numbers.number_from.Goals as goal
use Rattle.text_forms.proofs.numbers.number_from.Goals.{then-number-low-via-then-number-low, then-number-low-via-else-number-low+then-high-number}

pub returns-in-Err : goal.returns-in-Err
returns-in-Err c = sym (number_from-other c.args.low c.args.high c.args.text.now (λ n least most same.
    c.in-Err.ensures.cases.0 (IsUtf8-decimal n c.args.text.now (omega (arith, most, c.ranges.high.fits)) same)))

pub returns-in-Err-parse : goal.returns-in-Err-parse
returns-in-Err-parse c = sym (number_from-other c.args.low c.args.high c.args.text.now (λ n least most same.
    let small : n < 2 ^ 64 = omega (arith, most, c.ranges.high.fits) in
    let read : c.parse.result ≡ Ok n = parse-decimal 64 n c.in-Ok.text.now c.parse.result small small (c.in-Ok.ensures.cases.0 ∙ same) c.parse.ensures.value.0 in
    grind (arith, common_steps)))

pub returns-then-ne : goal.returns-then-ne
returns-then-ne c = sym (number_from-other c.args.low c.args.high c.args.text.now (λ n least most same.
    let small : n < 2 ^ 64 = omega (arith, most, c.ranges.high.fits) in
    let read : c.parse.result ≡ Ok n = parse-decimal 64 n c.in-Ok.text.now c.parse.result small small (c.in-Ok.ensures.cases.0 ∙ same) c.parse.ensures.value.0 in
    let number : c.in-Ok-parse.number ≡ n = grind (arith, common_steps) in
    let spelled : c.format.result.now ≡ c.in-Ok.text.now = c.format.ensures.text ∙ ap decimal number ∙ sym (c.in-Ok.ensures.cases.0 ∙ same) in
    let differ : bytes_eq c.format.result.now c.in-Ok.text.now ≡ false = not-true _ (sym c.ne.ensures ∙ c.if-ne.true) in
    false≢true (sym differ ∙ (bytes_eq-Decides c.format.result.now c.in-Ok.text.now).1 spelled)))

pub returns-then-number-low : goal.returns-then-number-low
returns-then-number-low c = sym (number_from-other c.args.low c.args.high c.args.text.now (λ n least most same.
    let small : n < 2 ^ 64 = omega (arith, most, c.ranges.high.fits) in
    let read : c.parse.result ≡ Ok n = parse-decimal 64 n c.in-Ok.text.now c.parse.result small small (c.in-Ok.ensures.cases.0 ∙ same) c.parse.ensures.value.0 in
    let number : c.in-Ok-parse.number ≡ n = grind (arith, common_steps) in
    elim c.then-number-low.branch [
      | then-number-low-via-then-number-low w ↦ omega (arith, w.if-number-low, number)
      | then-number-low-via-else-number-low+then-high-number w ↦ omega (arith, w.if-high-number, number)
    ]))

pub returns : goal.returns
returns c =
    let same : bytes_eq c.format.result.now c.in-Ok.text.now ≡ true = not-false _ (sym c.ne.ensures ∙ c.if-ne.false) in
    let spelled : c.args.text.now ≡ decimal c.in-Ok-parse.number =
    sym c.in-Ok.ensures.cases.0 ∙ sym ((bytes_eq-Decides c.format.result.now c.in-Ok.text.now).0 same) ∙ c.format.ensures.text in
    sym (number_from-decimal c.args.low c.args.high c.in-Ok-parse.number c.args.text.now (omega (arith, c.if-high-number.false, c.ranges.high.fits)) c.if-number-low.false c.if-high-number.false spelled)
