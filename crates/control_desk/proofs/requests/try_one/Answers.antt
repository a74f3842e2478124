use Rattle.std.proofs.Common.{◌≡◌, ℕ, [], ◌∷◌, Ok, Err, refl, sym, ap, subst, ◌∙◌}
use Rattle.refl_types.specs.declared.types.Key.{Key}
use Rattle.refl_types.specs.Keys.{is_sound}
use Rattle.control_msgs.specs.declared.codes.Accept.TheVariants.{TemporaryLimit}
use Rattle.twamp_control.specs.declared.types.DeskAnswer.TheVariants.{Reserved, Refused}
use Rattle.session_desk.specs.Makes.{Makes, reserves}
use Rattle.control_desk.specs.declared.own.OwnSession.{OwnSession}
use Rattle.control_desk.specs.Plan.{reserve}
use Rattle.control_desk.specs.Control.{Candidate, key_at, reserved_wait, tried}
use Rattle.control_desk.proofs.Choices.{if_true, if_false}
use Rattle.control_desk.proofs.Following.{follows_to, follows_called}
use Rattle.control_desk.proofs.requests.try_one.Goals as goal

pub reserve-requires-clause-sound : goal.reserve-requires-clause-sound
reserve-requires-clause-sound g c = ap (λ (k : Key). is_sound k c.args.wish.now.extra.now) c.key_at-key.ensures

pub returns-in-Ok-clause-done : goal.returns-in-Ok-clause-done
returns-in-Ok-clause-done g c = λ d n next more.
    let a = c.args in
    let at : Candidate = record { local = a.local; port = a.port } in
    let k = key_at at a.wish.now.from.now a.wish.now.request.now.sender_port in
    let r = a.wish.now.request.now in
    let place = c.in-Ok.place in
    let plan = tried k a.port r next more in
    let same : c.key_at-key.result ≡ k = c.key_at-key.ensures in
    let made = subst (λ (j : Key). Makes a.table.now (reserves j a.wish.now.extra.now a.wish.now.config.now reserved_wait (Ok place)) a.book.now c.reserve.new.self) same c.in-Ok.ensures.made in
    let own : OwnSession → _ = λ o. next (Reserved place a.port) (o ∷ []) in
    let last = ap (λ (m : ℕ). own (record { place = place; key = k; timeout = m })) (sym c.timeout_nanos.ensures)
    ∙ ap (λ (j : Key). own (record { place = place; key = j; timeout = c.timeout_nanos.result })) (sym same) in
    follows_to last
    (follows_called (reserve k a.wish.now.extra.now a.wish.now.config.now reserved_wait plan) (plan (Ok place)) (reserves k a.wish.now.extra.now a.wish.now.config.now reserved_wait (Ok place)) d (refl, refl, refl, refl, refl) made refl)

pub returns-then-is_taken-clause-done : goal.returns-then-is_taken-clause-done
returns-then-is_taken-clause-done g c = λ d n next more.
    let a = c.args in
    let at : Candidate = record { local = a.local; port = a.port } in
    let k = key_at at a.wish.now.from.now a.wish.now.request.now.sender_port in
    let r = a.wish.now.request.now in
    let fault = c.in-Err.fault in
    let plan = tried k a.port r next more in
    let same : c.key_at-key.result ≡ k = c.key_at-key.ensures in
    let made = subst (λ (j : Key). Makes a.table.now (reserves j a.wish.now.extra.now a.wish.now.config.now reserved_wait (Err fault)) a.book.now c.reserve.new.self) same c.in-Err.ensures.made in
    follows_to (if_true _ more (next (Refused TemporaryLimit) []) (sym c.is_taken.ensures ∙ c.if-is_taken.true))
    (follows_called (reserve k a.wish.now.extra.now a.wish.now.config.now reserved_wait plan) (plan (Err fault)) (reserves k a.wish.now.extra.now a.wish.now.config.now reserved_wait (Err fault)) d (refl, refl, refl, refl, refl) made refl)

pub returns-else-is_taken-clause-done : goal.returns-else-is_taken-clause-done
returns-else-is_taken-clause-done g c = λ d n next more.
    let a = c.args in
    let at : Candidate = record { local = a.local; port = a.port } in
    let k = key_at at a.wish.now.from.now a.wish.now.request.now.sender_port in
    let r = a.wish.now.request.now in
    let fault = c.in-Err.fault in
    let plan = tried k a.port r next more in
    let same : c.key_at-key.result ≡ k = c.key_at-key.ensures in
    let made = subst (λ (j : Key). Makes a.table.now (reserves j a.wish.now.extra.now a.wish.now.config.now reserved_wait (Err fault)) a.book.now c.reserve.new.self) same c.in-Err.ensures.made in
    follows_to (if_false _ more (next (Refused TemporaryLimit) []) (sym c.is_taken.ensures ∙ c.if-is_taken.false))
    (follows_called (reserve k a.wish.now.extra.now a.wish.now.config.now reserved_wait plan) (plan (Err fault)) (reserves k a.wish.now.extra.now a.wish.now.config.now reserved_wait (Err fault)) d (refl, refl, refl, refl, refl) made refl)
