use Rattle.std.proofs.Common.{◌++◌, ◌∙◌, sym, ap, append_assoc}
use Rattle.std.specs.Prelude.{List, ℕ}
use Rattle.replay_format.specs.Answers.{Left, answer_octets}
use Rattle.program.specs.Buffers.{due}
use Rattle.program.proofs.Going.{front_behind}
use Rattle.program.proofs.offline.leave.Goals as goal

pub returns-in-Err-clause-output : goal.returns-in-Err-clause-output
returns-in-Err-clause-output g c = λ _.
    let some = c.in-Ok.ensures.some in
    let offset = answer_octets (Left c.args.offset) in
    front_behind (g.K.Sink.shown c.args.out.now).written (g.K.Sink.shown c.make_room.new.out).written (g.K.Sink.shown c.flush.new.out).written some.0 (due c.leave.new.self) (due c.args.outbox.now ++ offset) some.1 c.in-Err.ensures.front
    (ap (λ (l : List ℕ). some.0 ++ l) c.leave.ensures ∙ sym (append_assoc some.0 (due c.make_room.new.self) offset) ∙ ap (λ (l : List ℕ). l ++ offset) some.2)
