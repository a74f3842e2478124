use Rattle.std.proofs.Common.{◌≡◌, ◌+◌, ◌-◌, ◌++◌, ◌∙◌, ℕ, List, length, take, drop, replicate, ap, sym, refl, arith, append_assoc}
use Rattle.std.proofs.lemmas.List.{length-take, length-drop}
use Rattle.octet_format.proofs.Fields.{Has, has_front, has_more, has_put}
use Rattle.twamp_test.specs.Reply.{padding_at, reflected_len, reply_len}
use Rattle.twamp_test.proofs.writing.write_padding.Goals as goal

-- what is cleared, by the definition's numbers
cleared : (front : List ℕ) (old new : List ℕ) (end_ len a b : ℕ) → new ≡ (front ++ replicate (len - end_) 0) ++ drop len old → end_ ≡ a → len ≡ b → new ≡ (front ++ replicate (b - a) 0) ++ drop len old
cleared front old new end_ len a b e p q = e ∙ ap (λ (n : ℕ). (front ++ replicate n 0) ++ drop len old) (ap (λ (n : ℕ). len - n) p ∙ ap (λ (n : ℕ). n - a) q)

pub returns-clause-octets : goal.returns-clause-octets
returns-clause-octets c =
    let x = c.args.extra.now in
    let input = c.args.input.now in
    let old = c.args.out.now in
    let n = reflected_len x (length input) in
    let front : List ℕ = take 41 old in
    let padding : List ℕ = take n (drop (padding_at x) input) in
    let len : length padding ≡ n = omega (arith, length-take n (drop (padding_at x) input), length-drop (padding_at x) input) in
    let given : length c.reflected-padding.result.now ≡ n = ap length c.reflected-padding.ensures ∙ len in
    let s1 : Has front old old 41 = has_front old 41 (omega arith) in
    let s2 : Has (front ++ padding) old c.put.new.out (41 + length c.reflected-padding.result.now) = has_more front old old padding c.reflected-padding.result.now c.put.new.out 41 (length c.reflected-padding.result.now) (41 + length c.reflected-padding.result.now) s1 c.reflected-padding.ensures c.put.ensures (len ∙ sym given) refl in
    let s3 = has_put (front ++ padding) old c.put.new.out (replicate (c.max-len.result - (41 + length c.reflected-padding.result.now)) 0) c.clear.new.out (41 + length c.reflected-padding.result.now) c.max-len.result s2 c.clear.ensures (omega arith) (omega arith) (omega arith) in
    cleared (front ++ padding) old c.clear.new.out (41 + length c.reflected-padding.result.now) c.max-len.result (41 + n) (reply_len x (length input)) s3.parts (ap (λ (m : ℕ). 41 + m) given) (omega (arith, given))
    ∙ ap (λ (o : List ℕ). o ++ drop c.max-len.result old) (append_assoc front padding (replicate (reply_len x (length input) - (41 + n)) 0))
