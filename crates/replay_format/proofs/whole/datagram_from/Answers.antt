use Rattle.std.proofs.Common.{◌≡◌, true, false, ℕ, ◌+◌, ◌-◌, length, take, drop, refl, sym, ap, subst, ◌∙◌, arith}
use Rattle.std.specs.Int.{w32, w64, from_be_bytes}
use Rattle.replay_format.specs.Records.{Arrives, datagram_of}
use Rattle.replay_format.specs.View.{IsFront}
use Rattle.replay_format.specs.Whole.{HasHead, is_asked}
use Rattle.replay_format.proofs.WholeFacts.{whole_front, parts_of, told, family_here, asked_code, code_asked}
use Rattle.replay_format.proofs.whole.datagram_from.Goals as goal

pub returns-clause-front : goal.returns-clause-front
returns-clause-front c =
    let octets = c.args.octets.now in
    let body = c.from_be_bytes-body.result in
    let k = body - 39 in
    let m = c.in_ok-meta.meta in
    let t3 = c.from_be_bytes-t3.result in
    let sum : body ≡ 39 + k = omega (arith, c.if-body-lt-DATAGRAM_FIELDS.false) in
    let whole : IsFront octets (Arrives (datagram_of m t3 (take k (drop 44 octets)))) (44 + k) =
    whole_front octets m t3 k (λ i. omega (arith, c.type_inv.octets i)) (omega (arith, c.if-octets-body.false, c.if-body-lt-DATAGRAM_FIELDS.false)) (omega (arith, c.if-body-gt-DATAGRAM_BODY_LIMIT.false)) c.in_ok-meta.ensures.some c.if-octets-ne-DATAGRAM_TAG.false
    (ap (from_be_bytes w32) (sym c.field4.ensures) ∙ sym c.from_be_bytes-body.ensures ∙ sum)
    (c.from_be_bytes-t3.ensures ∙ ap (from_be_bytes w64) c.field8.ensures) in
    let same : 44 + k - 44 ≡ k = omega arith in
    subst (λ (n : ℕ). IsFront octets (Arrives (datagram_of m t3 (take n (drop 44 octets)))) (44 + k)) (sym same) whole

pub returns-then-not-is_asked-clause-none : goal.returns-then-not-is_asked-clause-none
returns-then-not-is_asked-clause-none c = λ _ d n f asked.
    let octets = c.args.octets.now in
    let a = d.peer.address in
    let p = parts_of octets d n f in
    let e : false ≡ true = sym c.if-not-is_asked.true ∙ c.is_asked.ensures ∙ ap (is_asked c.args.asked) (family_here octets a (omega arith) p.head.address) ∙ asked_code c.args.asked a asked in
    cc

pub returns-clause-asked : goal.returns-clause-asked
returns-clause-asked c =
    let octets = c.args.octets.now in
    let a = c.in_ok-meta.meta.peer.address in
    code_asked c.args.asked a (ap (is_asked c.args.asked) (sym (family_here octets a (omega arith) c.in_ok-meta.ensures.some.address)) ∙ sym c.is_asked.ensures ∙ c.if-not-is_asked.false)

pub returns-in_err-meta-clause-none : goal.returns-in_err-meta-clause-none
returns-in_err-meta-clause-none c = λ _ d n f _.
    let octets = c.args.octets.now in
    let p = parts_of octets d n f in
    let body : c.from_be_bytes-body.result ≡ 39 + length d.octets = c.from_be_bytes-body.ensures ∙ ap (from_be_bytes w32) c.field4.ensures ∙ p.body in
    let size : length d.octets ≡ c.from_be_bytes-body.result - 39 = omega (arith, body) in
    c.in_err-meta.ensures.none refl (told d) (subst (λ (k : ℕ). HasHead octets (told d) k) size p.head)
