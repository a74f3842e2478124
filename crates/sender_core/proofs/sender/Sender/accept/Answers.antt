use Rattle.std.proofs.Common.{ℕ, ◌<◌, true, false, List, length, get_or, set, sym, ap, subst, ◌∙◌, arith}
use Rattle.sender_core.specs.Kept.{Kept}
use Rattle.sender_core.specs.Reply.{request_of}
use Rattle.sender_core.specs.State.{Measurement, with_double, with_stranger, with_reply}
use Rattle.sender_core.proofs.StateFacts.{after_stranger, after_double, after_new, there, answer_double, received_more}
use Rattle.sender_core.proofs.sender.Sender.accept.Goals as goal

pub returns-in_default-clause-after : goal.returns-in_default-clause-after
returns-in_default-clause-after c = λ ds h.
    after_stranger ds c.args.self.now _ h (ap (λ (m : Measurement). m.plan) c.self.view_is) c.args.octets.now c.args.arrival
    (ap (λ (m : Measurement). m.sendings) c.self.view_is) (ap (λ (m : Measurement). m.answered) c.self.view_is)
    (ap (λ (m : Measurement). request_of m.plan.ssid m.sendings c.args.octets.now) (sym c.self.view_is)
    ∙ ap (λ (l : List ℕ). request_of c.self.inside.plan.ssid l c.args.octets.now) (sym c.deref.ensures.value) ∙ sym c.request_of.ensures.value ∙ c.in_default.is)
    (c.add_stranger.ensures ∙ ap (λ (m : Measurement). with_stranger m.tally) c.self.view_is)

pub index-requires : goal.index-requires
index-requires c = omega (arith, c.in-Some.ensures.inside, c.deref.ensures.len, c.self.invariant.within, c.self.invariant.places)

pub returns-then-index-clause-answer : goal.returns-then-index-clause-answer
returns-then-index-clause-answer c = λ ds h.
    answer_double ds c.args.self.now h c.args.octets.now c.in-Some.sequence
    (ap (λ (m : Measurement). request_of m.plan.ssid m.sendings c.args.octets.now) (sym c.self.view_is)
    ∙ ap (λ (l : List ℕ). request_of c.self.inside.plan.ssid l c.args.octets.now) (sym c.deref.ensures.value) ∙ sym c.request_of.ensures.value ∙ c.in-Some.is)
    (ap (λ (m : Measurement). get_or m.answered c.in-Some.sequence false) (sym c.self.view_is) ∙ there c.self.inside.answered.items c.in-Some.sequence false c.index.result.now (omega (arith, c.in-Some.ensures.inside, c.deref.ensures.len, c.self.invariant.within, c.self.invariant.places)) ∙ sym c.index.ensures ∙ c.if-index.true)

pub returns-then-index-clause-after : goal.returns-then-index-clause-after
returns-then-index-clause-after c = λ ds h.
    after_double ds c.args.self.now _ h (ap (λ (m : Measurement). m.plan) c.self.view_is) c.args.octets.now c.args.arrival c.in-Some.sequence
    (ap (λ (m : Measurement). m.sendings) c.self.view_is) (ap (λ (m : Measurement). m.answered) c.self.view_is)
    (ap (λ (m : Measurement). request_of m.plan.ssid m.sendings c.args.octets.now) (sym c.self.view_is)
    ∙ ap (λ (l : List ℕ). request_of c.self.inside.plan.ssid l c.args.octets.now) (sym c.deref.ensures.value) ∙ sym c.request_of.ensures.value ∙ c.in-Some.is)
    (ap (λ (m : Measurement). get_or m.answered c.in-Some.sequence false) (sym c.self.view_is) ∙ there c.self.inside.answered.items c.in-Some.sequence false c.index.result.now (omega (arith, c.in-Some.ensures.inside, c.deref.ensures.len, c.self.invariant.within, c.self.invariant.places)) ∙ sym c.index.ensures ∙ c.if-index.true)
    (c.add_double.ensures ∙ ap (λ (m : Measurement). with_double m.tally) c.self.view_is)

pub index_mut-requires : goal.index_mut-requires
index_mut-requires c = omega (arith, c.in-Some.ensures.inside, c.deref.ensures.len, c.self.invariant.within, c.self.invariant.places)

pub add-requires-clause-long : goal.add-requires-clause-long
add-requires-clause-long c = c.in-Some.ensures.long

pub invariant_of-self-2 : goal.invariant_of-self-2
invariant_of-self-2 c =
    let inv = c.self.invariant in
    record {
      few = inv.few;
      room = inv.room;
      within = inv.within;
      places = inv.places;
      received = ap (λ (t : Kept). t.received) c.add.ensures ∙ received_more c.self.inside.tally c.args.octets.now c.args.arrival c.self.inside.answered.items c.in-Some.sequence (omega (arith, c.in-Some.ensures.inside, c.deref.ensures.len, c.self.invariant.within, c.self.invariant.places)) (there c.self.inside.answered.items c.in-Some.sequence false c.index.result.now (omega (arith, c.in-Some.ensures.inside, c.deref.ensures.len, c.self.invariant.within, c.self.invariant.places)) ∙ sym c.index.ensures ∙ c.if-index.false) inv.received;
    }

pub returns-clause-after : goal.returns-clause-after
returns-clause-after c = λ ds h.
    after_new ds c.args.self.now _ h (ap (λ (m : Measurement). m.plan) c.self.view_is) c.args.octets.now c.args.arrival c.in-Some.sequence
    (ap (λ (m : Measurement). m.sendings) c.self.view_is) (ap (λ (m : Measurement). set m.answered c.in-Some.sequence true) c.self.view_is)
    (subst (λ (m : Measurement). c.in-Some.sequence < length m.answered) c.self.view_is (omega (arith, c.in-Some.ensures.inside, c.deref.ensures.len, c.self.invariant.within, c.self.invariant.places)))
    (ap (λ (m : Measurement). request_of m.plan.ssid m.sendings c.args.octets.now) (sym c.self.view_is)
    ∙ ap (λ (l : List ℕ). request_of c.self.inside.plan.ssid l c.args.octets.now) (sym c.deref.ensures.value) ∙ sym c.request_of.ensures.value ∙ c.in-Some.is)
    (ap (λ (m : Measurement). get_or m.answered c.in-Some.sequence false) (sym c.self.view_is) ∙ there c.self.inside.answered.items c.in-Some.sequence false c.index.result.now (omega (arith, c.in-Some.ensures.inside, c.deref.ensures.len, c.self.invariant.within, c.self.invariant.places)) ∙ sym c.index.ensures ∙ c.if-index.false)
    (c.add.ensures ∙ ap (λ (m : Measurement). with_reply m.tally c.args.octets.now c.args.arrival) c.self.view_is)
