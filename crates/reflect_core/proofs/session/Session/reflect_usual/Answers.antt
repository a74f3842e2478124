use Rattle.std.proofs.Common.{refl, arith}
use Rattle.reflect_core.specs.Arrived.{arrived}
use Rattle.reflect_core.proofs.Usual.{HasNoPlaces, usual_plain, replied_test, replied_usual}
use Rattle.reflect_core.proofs.session.Session.reflect_usual.Goals as goal

pub returns-in-Twamp-clause-reply : goal.returns-in-Twamp-clause-reply
returns-in-Twamp-clause-reply c =
    let s = c.args.self.now in
    let call = c.reflect_test-len in
    replied_test s.mode s.extra s.config.now c.args.draw.now (arrived c.args.datagram.now) call.result c.args.out.now call.new.out c.in-Twamp.is (omega arith) (omega arith) call.ensures.octets

pub returns-in_default-clause-reply : goal.returns-in_default-clause-reply
returns-in_default-clause-reply c =
    let s = c.args.self.now in
    let plain = usual_plain s.mode s.config.now c.requires.usual c.in_default.not-Twamp in
    let none : HasNoPlaces _ = record { nine = refl; own_at = refl; path_at = refl } in
    replied_usual s.mode s.extra s.config.now c.args.draw.now (arrived c.args.datagram.now) _ c.args.out.now c.reflect_plain-intact.new.out plain.0 plain.1 none
    (omega arith) (omega arith) c.reflect_plain-intact.ensures.octets
