use Rattle.std.proofs.Common.{true, false, refl, sym, ap, ◌∙◌, rules}
use Rattle.std.specs.Int.{w64}
use Rattle.std.proofs.Math.Facts.{to_z-of_z}
use Rattle.sender_core.specs.Kept.{Kept}
use Rattle.sender_core.specs.Adding.{with_delay, with_number}
use Rattle.sender_core.specs.State.{with_reply}
use Rattle.sender_core.proofs.TallyFacts.{with_reply_of}
use Rattle.sender_core.proofs.tally.Tally.add.Goals as goal

pub returns-then-not-has_ntp_clock : goal.returns-then-not-has_ntp_clock
returns-then-not-has_ntp_clock c =
    let s = c.self.inside in
    let t : Kept = record { received = s.received; doubles = s.doubles; strangers = s.strangers; numbers = s.numbers; forward = s.forward; backward = s.backward } in
    with_reply_of t c.args.octets.now c.args.arrival false c.with_number-self-inside.result s.forward s.backward
    (sym c.has_ntp_clock.ensures ∙ c.if-not-has_ntp_clock.true) (c.with_number-self-inside.ensures ∙ ap (with_number s.numbers) c.number_in.ensures) refl refl
    ∙ ap (λ (k : Kept). with_reply k c.args.octets.now c.args.arrival) c.self.view_is

pub returns : goal.returns
returns c =
    let s = c.self.inside in
    let t : Kept = record { received = s.received; doubles = s.doubles; strangers = s.strangers; numbers = s.numbers; forward = s.forward; backward = s.backward } in
    with_reply_of t c.args.octets.now c.args.arrival true c.with_number-self-inside.result c.with_delay-self-inside.result c.with_delay-self-inside-2.result
    (sym c.has_ntp_clock.ensures ∙ c.if-not-has_ntp_clock.false) (c.with_number-self-inside.ensures ∙ ap (with_number s.numbers) c.number_in.ensures)
    (c.with_delay-self-inside.ensures ∙ ap (with_delay s.forward) ((to_z-of_z {w = w64} (search rules)) ∙ c.difference64-forward.ensures ∙ rw (c.receipt_in.ensures, c.timestamp_in.ensures) refl))
    (c.with_delay-self-inside-2.ensures ∙ ap (with_delay s.backward) ((to_z-of_z {w = w64} (search rules)) ∙ c.difference64-backward.ensures ∙ rw (c.ntp_number.ensures, c.departure_in.ensures) refl))
    ∙ ap (λ (k : Kept). with_reply k c.args.octets.now c.args.arrival) c.self.view_is
