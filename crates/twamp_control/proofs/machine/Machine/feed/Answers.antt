use Rattle.std.proofs.Common.{◌≡◌, ◌+◌, false, [], length, take, Some, None, sym, ap, subst, ◌∙◌, arith}
use Rattle.std.proofs.lemmas.Bool.{eqb-true}
use Rattle.std.proofs.lemmas.Bool.Decides.{nat_tests}
use Rattle.twamp_control.specs.declared.types.Message.{Message}
use Rattle.twamp_control.specs.Stream.{message_length, message_of}
use Rattle.twamp_control.specs.Connection.{Connection, Feeds, is_hung_up}
use Rattle.twamp_control.proofs.Streams.{reading_at}
use Rattle.twamp_control.proofs.Feeding.{Fed, connection, fed_part, fed_whole, feeds_empty, feeds_over}
use Rattle.twamp_control.proofs.machine.Machine.feed.Goals as goal

pub returns-then-is_hung_up : goal.returns-then-is_hung_up
returns-then-is_hung_up c = feeds_over c.args.self.now c.args.piece.now (ap (λ (s : Connection). is_hung_up s.stage) (sym c.self.view_is) ∙ sym c.is_hung_up.ensures ∙ c.if-is_hung_up.true)

pub returns-then-is_empty : goal.returns-then-is_empty
returns-then-is_empty c = feeds_empty c.args.self.now c.args.piece.now (eqb-true (length c.args.piece.now) 0 (sym c.is_empty.ensures ∙ c.if-is_empty.true))

pub returns-then-self-taken : goal.returns-then-self-taken
returns-then-self-taken c =
    let m = c.self.inside in
    let open_ : is_hung_up m.stage ≡ false = sym c.is_hung_up.ensures ∙ c.if-is_hung_up.false in
    let f : Fed m.first m.buffer c.args.piece.now m.count c.first_octet-octet.result c.length_of-whole.result c.min-taken.result = record {
      size = c.self.told;
      room = c.self.invariant;
      some = grind (arith, nat_tests);
      front = sym c.first_octet-octet.ensures;
      wanted = c.length_of-whole.ensures;
      taken = c.min-taken.ensures;
    } in
    subst (λ (s : Connection). Feeds s (connection m.start (reading_at m.first (take (m.count + c.min-taken.result) c.put.new.out)) m.stage m.mode m.sessions) c.args.piece.now c.min-taken.result None) c.self.view_is
    (fed_part m.start m.stage m.mode m.sessions open_ m.first m.buffer c.args.piece.now c.put.new.out m.count c.first_octet-octet.result c.length_of-whole.result c.min-taken.result f c.put.ensures c.if-self-taken.true)

pub returns : goal.returns
returns c =
    let m = c.self.inside in
    let open_ : is_hung_up m.stage ≡ false = sym c.is_hung_up.ensures ∙ c.if-is_hung_up.false in
    let f : Fed m.first m.buffer c.args.piece.now m.count c.first_octet-octet.result c.length_of-whole.result c.min-taken.result = record {
      size = c.self.told;
      room = c.self.invariant;
      some = grind (arith, nat_tests);
      front = sym c.first_octet-octet.ensures;
      wanted = c.length_of-whole.ensures;
      taken = c.min-taken.ensures;
    } in
    let now : Connection = connection m.start (reading_at false []) m.stage m.mode m.sessions in
    subst (λ (r : Message). Feeds c.args.self.now now c.args.piece.now c.min-taken.result (Some r)) (sym c.message_at-message.ensures)
    (subst (λ (s : Connection). Feeds s now c.args.piece.now c.min-taken.result (Some (message_of m.first (take (message_length m.first c.put.new.out) c.put.new.out)))) c.self.view_is
    (fed_whole m.start m.stage m.mode m.sessions open_ m.first m.buffer c.args.piece.now c.put.new.out m.count c.first_octet-octet.result c.length_of-whole.result c.min-taken.result f c.put.ensures c.if-self-taken.false))
