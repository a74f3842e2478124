use Rattle.std.proofs.Common.{◌≡◌, ◌+◌, ◌∙◌, ℕ, List, length, drop, take, sym, ap, inl, inr, arith}
use Rattle.std.proofs.lemmas.List.{length-append, length-drop, take_at}
use Rattle.twamp_client.specs.Client.{Said}
use Rattle.twamp_client.specs.Feeding.{fed, taken, written_over}
use Rattle.twamp_client.specs.Room.{left_to_write}
use Rattle.twamp_client.proofs.Hears.{fed_over}
use Rattle.twamp_client.proofs.Writes.{keeps_fed}
use Rattle.joined_desk.proofs.Carries.{carried_all, carried_more, none_taken}
use Rattle.joined_desk.proofs.carry.hear_pieces.Goals as goal

-- what was written at the front of the buffer
front_said : (old new message : List ℕ) (n : ℕ) → new ≡ written_over old message → n ≡ length message → take n new ≡ message
front_said old new message n e len = ap (take n) e ∙ take_at message (drop (length message) old) n (sym len)

pub returns-after-loop-at-clause-client : goal.returns-after-loop-at-clause-client
returns-after-loop-at-clause-client c = (carried_all c.args.client.now c.loop-at.client c.args.written.now.items c.loop-at.written.items c.args.octets.now c.loop-at.at c.loop-at.invariant.carried (inl c.loop-at-test.false)).heard

pub returns-after-loop-at-clause-written : goal.returns-after-loop-at-clause-written
returns-after-loop-at-clause-written c = (carried_all c.args.client.now c.loop-at.client c.args.written.now.items c.loop-at.written.items c.args.octets.now c.loop-at.at c.loop-at.invariant.carried (inl c.loop-at-test.false)).said

pub extend_within-requires : goal.extend_within-requires
extend_within-requires c =
    let d = c.loop-at.client in
    let p = c.piece_at.result.now in
    let k = (keeps_fed d p c.loop-at.invariant.carried.sound).room in
    let said = front_said c.loop-at.out c.feed-step.new.out (fed d p).message c.feed-step.result.len c.feed-step.ensures.message c.feed-step.ensures.len in
    omega (arith, k, ap length said, c.loop-at.invariant.room)

pub loop-at-preserved : goal.loop-at-preserved
loop-at-preserved c =
    let d = c.loop-at.client in
    let p = c.piece_at.result.now in
    let rest = drop c.loop-at.at c.args.octets.now in
    let q = take c.args.piece rest in
    let e : p ≡ q = c.piece_at.ensures in
    let k = (keeps_fed d p c.loop-at.invariant.carried.sound).room in
    let said = front_said c.loop-at.out c.feed-step.new.out (fed d p).message c.feed-step.result.len c.feed-step.ensures.message c.feed-step.ensures.len in
    let octets = take c.feed-step.result.len c.feed-step.new.out in
    let grown : length c.extend_within.new.items.items ≡ length c.loop-at.written.items + length octets = ap length c.extend_within.ensures.items ∙ length-append c.loop-at.written.items octets in
    record {
      carried = carried_more c.args.client.now d c.feed-step.new.self c.args.written.now.items c.loop-at.written.items c.extend_within.new.items.items octets c.args.octets.now c.loop-at.at c.args.piece c.feed-step.result.taken
          c.loop-at.invariant.carried (c.feed-step.ensures.taken ∙ ap (taken d) e) (c.feed-step.ensures.client ∙ ap (λ (l : List ℕ). (fed d l).client) e) (said ∙ ap (λ (l : List ℕ). (fed d l).message) e) c.extend_within.ensures.items;
      room =
          let left : left_to_write c.feed-step.new.self ≡ left_to_write (fed d p).client = ap left_to_write c.feed-step.ensures.client in
          omega (arith, k, left, ap length said, c.loop-at.invariant.room, grown, c.extend_within.ensures.capacity);
      capacity = omega (arith, c.loop-at.invariant.capacity, c.extend_within.ensures.capacity);
    }

pub returns-then-step-eq0-clause-client : goal.returns-then-step-eq0-clause-client
returns-then-step-eq0-clause-client c =
    let d = c.loop-at.client in
    let rest = drop c.loop-at.at c.args.octets.now in
    let over = none_taken d c.args.piece rest c.loop-at.invariant.carried.sound.held c.requires.some (omega (arith, length-drop c.loop-at.at c.args.octets.now)) (ap (taken d) (sym c.piece_at.ensures) ∙ sym c.feed-step.ensures.taken ∙ c.if-step-eq0.true) in
    let same = (fed_over d c.piece_at.result.now over (c.loop-at.invariant.carried.sound.held.none over)).1 in
    c.feed-step.ensures.client ∙ ap (λ (s : Said). s.client) same
    ∙ (carried_all c.args.client.now d c.args.written.now.items c.loop-at.written.items c.args.octets.now c.loop-at.at c.loop-at.invariant.carried (inr over)).heard

pub returns-then-step-eq0-clause-written : goal.returns-then-step-eq0-clause-written
returns-then-step-eq0-clause-written c =
    let d = c.loop-at.client in
    let rest = drop c.loop-at.at c.args.octets.now in
    let over = none_taken d c.args.piece rest c.loop-at.invariant.carried.sound.held c.requires.some (omega (arith, length-drop c.loop-at.at c.args.octets.now)) (ap (taken d) (sym c.piece_at.ensures) ∙ sym c.feed-step.ensures.taken ∙ c.if-step-eq0.true) in
    (carried_all c.args.client.now d c.args.written.now.items c.loop-at.written.items c.args.octets.now c.loop-at.at c.loop-at.invariant.carried (inr over)).said
