use Rattle.std.proofs.Common.{◌≡◌, ℕ, List, [], ◌∷◌, ◌++◌, length, inl, inr, refl, subst, sym, ap, ◌∙◌, arith}
use Rattle.std.proofs.lemmas.List.{length-append, length-drop, append-nil, nil_from_length}
use Rattle.port_io.specs.Outside.{Rises}
use Rattle.replay_format.specs.View.{IsFront, IsBegun, IsForeign}
use Rattle.read_ahead.specs.Buffers.{pending}
use Rattle.program.specs.Buffers.{due}
use Rattle.program.specs.Replay.{LeavesGrammar}
use Rattle.program.proofs.Going.{going_none, going_same, going_more, going_written, going_record, end_done, end_cut, end_left, end_stopped, end_stopped_leaving, begun_short, front_length}
use Rattle.program.proofs.offline.replay.Goals as goal

pub records-init : goal.records-init
records-init g c =
    let left = g.S.Source.left c.args.input.now in
    let written = (g.K.Sink.shown c.args.out.now).written in
    record {
      going = ([], rw (c.in-Ok.ensures, c.in-Ok-make.ensures) (going_none left written _ c.in-Ok-make-2.ensures));
      input = refl;
      out = refl;
      limit = omega (arith, ap length c.in-Ok.ensures);
      passed = omega arith;
    }

pub returns-in_default-make_room-clause-output : goal.returns-in_default-make_room-clause-output
returns-in_default-make_room-clause-output g c = λ _.
    end_stopped _ _ _ _ _ _ _ _ _ c.records.invariant.going.1 (g.K.Sink.shown c.make_room.new.out).written c.in_default-make_room.ensures.front

pub records-preserved-in-Answered : goal.records-preserved-in-Answered
records-preserved-in-Answered g c =
    let inv = c.records.invariant in
    let room = c.in-Ok-make_room.ensures.some in
    let h = going_written _ _ _ _ _ _ _ _ _ inv.going.1 (g.K.Sink.shown c.make_room.new.out).written room.0 (due c.make_room.new.self) room.1 room.2 in
    let item = c.in-Answered.ensures.0 in
    let n = c.in-Answered.len in
    let f : IsFront (pending c.records.ahead) item n = subst (λ (l : List ℕ). IsFront l item n) c.pending.ensures c.in-Answered.ensures.1 in
    let a = c.in-Answered.ensures.3 inv.going.0 inv.going.1.stands inv.going.1.limit in
    record {
      going = (
        inv.going.0 ++ item ∷ [],
        going_record _ _ _ _ _ _ _ _ _ h c.take.new.sessions (pending c.advance.new.self) (due c.take.new.self) n item f (omega (arith, c.in-Answered.ensures.2, inv.passed)) a.0 a.1 c.advance.ensures,
      );
      input = inv.input;
      out = c.in-Ok-make_room.ensures.still ∙ inv.out;
      limit = omega (arith, inv.limit, ap length c.advance.ensures, length-drop n (pending c.records.ahead), front_length _ _ _ f);
      passed = omega (arith, c.in-Answered.ensures.2, inv.passed);
    }

pub returns-in-TooLong-clause-grammar : goal.returns-in-TooLong-clause-grammar
returns-in-TooLong-clause-grammar g c = λ e.
    let inv = c.records.invariant in
    let room = c.in-Ok-make_room.ensures.some in
    let h = going_written _ _ _ _ _ _ _ _ _ inv.going.1 (g.K.Sink.shown c.make_room.new.out).written room.0 (due c.make_room.new.self) room.1 room.2 in
    let s = going_same _ _ _ _ _ _ _ _ _ h c.take.new.sessions (due c.take.new.self) c.in-TooLong.ensures.1 c.in-TooLong.ensures.2 in
    end_left _ _ _ _ _ _ _ _ _ s (g.K.Sink.shown c.leave.new.out).written (inr (inr (inl (c.in-TooLong.ensures.0.0, c.in-TooLong.ensures.0.1, subst (λ (l : List ℕ). IsFront l c.in-TooLong.ensures.0.0 c.in-TooLong.ensures.0.1) c.pending.ensures c.in-TooLong.ensures.0.2, omega (arith, h.consumed, inv.passed, c.in-TooLong.ensures.0.3))))) (c.leave.ensures.grammar e)

pub returns-in-TooLong-clause-output : goal.returns-in-TooLong-clause-output
returns-in-TooLong-clause-output g c = λ e.
    let inv = c.records.invariant in
    let room = c.in-Ok-make_room.ensures.some in
    let h = going_written _ _ _ _ _ _ _ _ _ inv.going.1 (g.K.Sink.shown c.make_room.new.out).written room.0 (due c.make_room.new.self) room.1 room.2 in
    let s = going_same _ _ _ _ _ _ _ _ _ h c.take.new.sessions (due c.take.new.self) c.in-TooLong.ensures.1 c.in-TooLong.ensures.2 in
    end_stopped_leaving _ _ _ _ _ _ _ _ _ s (g.K.Sink.shown c.leave.new.out).written (inr (inr (inl (c.in-TooLong.ensures.0.0, c.in-TooLong.ensures.0.1, subst (λ (l : List ℕ). IsFront l c.in-TooLong.ensures.0.0 c.in-TooLong.ensures.0.1) c.pending.ensures c.in-TooLong.ensures.0.2, omega (arith, h.consumed, inv.passed, c.in-TooLong.ensures.0.3))))) (c.leave.ensures.output e)

pub returns-in-TooLong-clause-write_fault : goal.returns-in-TooLong-clause-write_fault
returns-in-TooLong-clause-write_fault g c = λ e.
    subst (λ (n : ℕ). Rises n (g.K.Sink.shown c.leave.new.out).faults) (c.in-Ok-make_room.ensures.still ∙ c.records.invariant.out) (c.leave.ensures.cause e)

pub returns-in-Bad-clause-grammar : goal.returns-in-Bad-clause-grammar
returns-in-Bad-clause-grammar g c = λ e.
    let inv = c.records.invariant in
    let room = c.in-Ok-make_room.ensures.some in
    let h = going_written _ _ _ _ _ _ _ _ _ inv.going.1 (g.K.Sink.shown c.make_room.new.out).written room.0 (due c.make_room.new.self) room.1 room.2 in
    let s = going_same _ _ _ _ _ _ _ _ _ h c.take.new.sessions (due c.take.new.self) c.in-Bad.ensures.1 c.in-Bad.ensures.2 in
    end_left _ _ _ _ _ _ _ _ _ s (g.K.Sink.shown c.leave-in-Bad.new.out).written (inl (subst IsForeign c.pending.ensures c.in-Bad.ensures.0)) (c.leave-in-Bad.ensures.grammar e)

pub returns-in-Bad-clause-output : goal.returns-in-Bad-clause-output
returns-in-Bad-clause-output g c = λ e.
    let inv = c.records.invariant in
    let room = c.in-Ok-make_room.ensures.some in
    let h = going_written _ _ _ _ _ _ _ _ _ inv.going.1 (g.K.Sink.shown c.make_room.new.out).written room.0 (due c.make_room.new.self) room.1 room.2 in
    let s = going_same _ _ _ _ _ _ _ _ _ h c.take.new.sessions (due c.take.new.self) c.in-Bad.ensures.1 c.in-Bad.ensures.2 in
    end_stopped_leaving _ _ _ _ _ _ _ _ _ s (g.K.Sink.shown c.leave-in-Bad.new.out).written (inl (subst IsForeign c.pending.ensures c.in-Bad.ensures.0)) (c.leave-in-Bad.ensures.output e)

pub returns-then-passed-held-gt-STREAM_LIMIT-clause-grammar : goal.returns-then-passed-held-gt-STREAM_LIMIT-clause-grammar
returns-then-passed-held-gt-STREAM_LIMIT-clause-grammar g c = λ e.
    let inv = c.records.invariant in
    let room = c.in-Ok-make_room.ensures.some in
    let h = going_written _ _ _ _ _ _ _ _ _ inv.going.1 (g.K.Sink.shown c.make_room.new.out).written room.0 (due c.make_room.new.self) room.1 room.2 in
    let s = going_same _ _ _ _ _ _ _ _ _ h c.take.new.sessions (due c.take.new.self) c.in-More.ensures.1 c.in-More.ensures.2 in
    end_left _ _ _ _ _ _ _ _ _ s (g.K.Sink.shown c.leave-then-passed-held-gt-STREAM_LIMIT.new.out).written (inr (inr (inr (subst IsBegun c.pending.ensures c.in-More.ensures.0, omega (arith, h.consumed, ap length c.pending-held.ensures))))) (c.leave-then-passed-held-gt-STREAM_LIMIT.ensures.grammar e)

pub returns-then-passed-held-gt-STREAM_LIMIT-clause-output : goal.returns-then-passed-held-gt-STREAM_LIMIT-clause-output
returns-then-passed-held-gt-STREAM_LIMIT-clause-output g c = λ e.
    let inv = c.records.invariant in
    let room = c.in-Ok-make_room.ensures.some in
    let h = going_written _ _ _ _ _ _ _ _ _ inv.going.1 (g.K.Sink.shown c.make_room.new.out).written room.0 (due c.make_room.new.self) room.1 room.2 in
    let s = going_same _ _ _ _ _ _ _ _ _ h c.take.new.sessions (due c.take.new.self) c.in-More.ensures.1 c.in-More.ensures.2 in
    end_stopped_leaving _ _ _ _ _ _ _ _ _ s (g.K.Sink.shown c.leave-then-passed-held-gt-STREAM_LIMIT.new.out).written (inr (inr (inr (subst IsBegun c.pending.ensures c.in-More.ensures.0, omega (arith, h.consumed, ap length c.pending-held.ensures))))) (c.leave-then-passed-held-gt-STREAM_LIMIT.ensures.output e)

pub returns-then-passed-held-gt-STREAM_LIMIT-clause-write_fault : goal.returns-then-passed-held-gt-STREAM_LIMIT-clause-write_fault
returns-then-passed-held-gt-STREAM_LIMIT-clause-write_fault g c = λ e.
    subst (λ (n : ℕ). Rises n (g.K.Sink.shown c.leave-then-passed-held-gt-STREAM_LIMIT.new.out).faults) (c.in-Ok-make_room.ensures.still ∙ c.records.invariant.out) (c.leave-then-passed-held-gt-STREAM_LIMIT.ensures.cause e)

pub returns-in_default-flush-clause-output : goal.returns-in_default-flush-clause-output
returns-in_default-flush-clause-output g c = λ _.
    let inv = c.records.invariant in
    let room = c.in-Ok-make_room.ensures.some in
    let h = going_written _ _ _ _ _ _ _ _ _ inv.going.1 (g.K.Sink.shown c.make_room.new.out).written room.0 (due c.make_room.new.self) room.1 room.2 in
    let s = going_same _ _ _ _ _ _ _ _ _ h c.take.new.sessions (due c.take.new.self) c.in-More.ensures.1 c.in-More.ensures.2 in
    end_stopped _ _ _ _ _ _ _ _ _ s (g.K.Sink.shown c.flush.new.out).written c.in_default-flush.ensures.front

pub fill-requires : goal.fill-requires
fill-requires g c = omega (arith, begun_short c.pending.result.now c.in-More.ensures.0, ap length c.pending.ensures)

pub returns-in_default-fill-clause-input : goal.returns-in_default-fill-clause-input
returns-in_default-fill-clause-input g c = λ _.
    let inv = c.records.invariant in
    let room = c.in-Ok-make_room.ensures.some in
    let h = going_written _ _ _ _ _ _ _ _ _ inv.going.1 (g.K.Sink.shown c.make_room.new.out).written room.0 (due c.make_room.new.self) room.1 room.2 in
    let s = going_same _ _ _ _ _ _ _ _ _ h c.take.new.sessions (due c.take.new.self) c.in-More.ensures.1 c.in-More.ensures.2 in
    let wrote = c.in-Ok-flush.ensures in
    let w = going_written _ _ _ _ _ _ _ _ _ s (g.K.Sink.shown c.flush.new.out).written (due c.take.new.self) [] wrote.all (append-nil (due c.take.new.self)) in
    end_cut _ _ _ _ _ _ _ _ _ w (g.S.Source.left c.fill.new.input) c.in_default-fill.ensures.err.1 (subst IsBegun c.pending.ensures c.in-More.ensures.0) refl

pub returns-then-held-eq0-clause-done : goal.returns-then-held-eq0-clause-done
returns-then-held-eq0-clause-done g c = λ _.
    let inv = c.records.invariant in
    let room = c.in-Ok-make_room.ensures.some in
    let h = going_written _ _ _ _ _ _ _ _ _ inv.going.1 (g.K.Sink.shown c.make_room.new.out).written room.0 (due c.make_room.new.self) room.1 room.2 in
    let s = going_same _ _ _ _ _ _ _ _ _ h c.take.new.sessions (due c.take.new.self) c.in-More.ensures.1 c.in-More.ensures.2 in
    let wrote = c.in-Ok-flush.ensures in
    let w = going_written _ _ _ _ _ _ _ _ _ s (g.K.Sink.shown c.flush.new.out).written (due c.take.new.self) [] wrote.all (append-nil (due c.take.new.self)) in
    let got = c.in-Ok-fill.ensures.ok in
    let m = going_more _ _ _ _ _ _ _ _ _ w (g.S.Source.left c.fill.new.input) (pending c.fill.new.self) got.0 got.3 got.2 in
    let none : pending c.fill.new.self ≡ [] = nil_from_length (pending c.fill.new.self) (omega (arith, ap length got.2, length-append (pending c.records.ahead) got.0, got.1, ap length c.pending-held.ensures)) in
    end_done _ _ _ _ _ _ _ _ _ m none (got.4 c.if-count-eq0.true) refl

-- nothing more came, so what is pending is cut off
cut_off : (pending pending' got : List ℕ) (n : ℕ) → length got ≡ n → n ≡ 0 → pending' ≡ pending ++ got → pending' ≡ pending
cut_off pending pending' got n len none e = e ∙ ap (λ (l : List ℕ). pending ++ l) (nil_from_length got (omega (arith, len, none))) ∙ append-nil pending

pub returns-then-count-eq0-clause-grammar : goal.returns-then-count-eq0-clause-grammar
returns-then-count-eq0-clause-grammar g c = λ e.
    let inv = c.records.invariant in
    let room = c.in-Ok-make_room.ensures.some in
    let h = going_written _ _ _ _ _ _ _ _ _ inv.going.1 (g.K.Sink.shown c.make_room.new.out).written room.0 (due c.make_room.new.self) room.1 room.2 in
    let s = going_same _ _ _ _ _ _ _ _ _ h c.take.new.sessions (due c.take.new.self) c.in-More.ensures.1 c.in-More.ensures.2 in
    let wrote = c.in-Ok-flush.ensures in
    let w = going_written _ _ _ _ _ _ _ _ _ s (g.K.Sink.shown c.flush.new.out).written (due c.take.new.self) (due c.flush.new.self) wrote.all (ap (λ (l : List ℕ). due c.take.new.self ++ l) wrote.none.0 ∙ append-nil (due c.take.new.self)) in
    let got = c.in-Ok-fill.ensures.ok in
    let m = going_more _ _ _ _ _ _ _ _ _ w (g.S.Source.left c.fill.new.input) (pending c.fill.new.self) got.0 got.3 got.2 in
    let same : pending c.fill.new.self ≡ pending c.records.ahead = cut_off (pending c.records.ahead) (pending c.fill.new.self) got.0 c.in-Ok-fill.count got.1 c.if-count-eq0.true got.2 in
    let leaves : LeavesGrammar (g.S.Source.left c.fill.new.input) inv.going.0 (pending c.fill.new.self) = inr (inl (subst IsBegun (c.pending.ensures ∙ sym same) c.in-More.ensures.0, omega (arith, ap length same, ap length c.pending-held.ensures), got.4 c.if-count-eq0.true)) in
    end_left _ _ _ _ _ _ _ _ _ m (g.K.Sink.shown c.leave-then-count-eq0.new.out).written leaves (c.leave-then-count-eq0.ensures.grammar e)

pub returns-then-count-eq0-clause-output : goal.returns-then-count-eq0-clause-output
returns-then-count-eq0-clause-output g c = λ e.
    let inv = c.records.invariant in
    let room = c.in-Ok-make_room.ensures.some in
    let h = going_written _ _ _ _ _ _ _ _ _ inv.going.1 (g.K.Sink.shown c.make_room.new.out).written room.0 (due c.make_room.new.self) room.1 room.2 in
    let s = going_same _ _ _ _ _ _ _ _ _ h c.take.new.sessions (due c.take.new.self) c.in-More.ensures.1 c.in-More.ensures.2 in
    let wrote = c.in-Ok-flush.ensures in
    let w = going_written _ _ _ _ _ _ _ _ _ s (g.K.Sink.shown c.flush.new.out).written (due c.take.new.self) (due c.flush.new.self) wrote.all (ap (λ (l : List ℕ). due c.take.new.self ++ l) wrote.none.0 ∙ append-nil (due c.take.new.self)) in
    let got = c.in-Ok-fill.ensures.ok in
    let m = going_more _ _ _ _ _ _ _ _ _ w (g.S.Source.left c.fill.new.input) (pending c.fill.new.self) got.0 got.3 got.2 in
    let same : pending c.fill.new.self ≡ pending c.records.ahead = cut_off (pending c.records.ahead) (pending c.fill.new.self) got.0 c.in-Ok-fill.count got.1 c.if-count-eq0.true got.2 in
    let leaves : LeavesGrammar (g.S.Source.left c.fill.new.input) inv.going.0 (pending c.fill.new.self) = inr (inl (subst IsBegun (c.pending.ensures ∙ sym same) c.in-More.ensures.0, omega (arith, ap length same, ap length c.pending-held.ensures), got.4 c.if-count-eq0.true)) in
    end_stopped_leaving _ _ _ _ _ _ _ _ _ m (g.K.Sink.shown c.leave-then-count-eq0.new.out).written leaves (c.leave-then-count-eq0.ensures.output e)

pub returns-then-count-eq0-clause-write_fault : goal.returns-then-count-eq0-clause-write_fault
returns-then-count-eq0-clause-write_fault g c = λ e.
    subst (λ (n : ℕ). Rises n (g.K.Sink.shown c.leave-then-count-eq0.new.out).faults) (c.in-Ok-flush.ensures.still ∙ c.in-Ok-make_room.ensures.still ∙ c.records.invariant.out) (c.leave-then-count-eq0.ensures.cause e)

pub records-preserved : goal.records-preserved
records-preserved g c =
    let inv = c.records.invariant in
    let room = c.in-Ok-make_room.ensures.some in
    let h = going_written _ _ _ _ _ _ _ _ _ inv.going.1 (g.K.Sink.shown c.make_room.new.out).written room.0 (due c.make_room.new.self) room.1 room.2 in
    let s = going_same _ _ _ _ _ _ _ _ _ h c.take.new.sessions (due c.take.new.self) c.in-More.ensures.1 c.in-More.ensures.2 in
    let wrote = c.in-Ok-flush.ensures in
    let w = going_written _ _ _ _ _ _ _ _ _ s (g.K.Sink.shown c.flush.new.out).written (due c.take.new.self) (due c.flush.new.self) wrote.all (ap (λ (l : List ℕ). due c.take.new.self ++ l) wrote.none.0 ∙ append-nil (due c.take.new.self)) in
    let got = c.in-Ok-fill.ensures.ok in
    record {
      going = (inv.going.0, going_more _ _ _ _ _ _ _ _ _ w (g.S.Source.left c.fill.new.input) (pending c.fill.new.self) got.0 got.3 got.2);
      input = c.in-Ok-fill.ensures.still ∙ inv.input;
      out = wrote.still ∙ c.in-Ok-make_room.ensures.still ∙ inv.out;
      limit = omega (arith, ap length got.2, length-append (pending c.records.ahead) got.0, got.1, got.5, ap length c.pending-held.ensures);
      passed = inv.passed;
    }
