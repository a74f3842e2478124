use Rattle.std.proofs.Common.{rules, ◌≡◌, ℕ, List, [], ◌∷◌, length, refl, sym, subst, arith, Option}
use Rattle.refl_types.specs.declared.types.Endpoint.{Endpoint}
use Rattle.net_io.specs.Log.{Grows}
use Rattle.net_io.specs.Desk.{opened}
use Rattle.session_desk.specs.Book.{steps_of}
use Rattle.reflector_serve.specs.Ports.{IsBound, Each}
use Rattle.reflector_serve.specs.Phases.{Phase, SplitsOff}
use Rattle.reflector_serve.proofs.BeginFacts.{opened_phase}
use Rattle.reflector_serve.proofs.QuietFacts.{all_quiet}
use Rattle.reflector_serve.proofs.WideFacts.{fails_since, all_ready}
use Rattle.reflector_serve.proofs.WholeFacts.{whole_served}
use Rattle.reflector_serve.proofs.whole.serve_at.Goals as goal

pub split_all-requires-clause-opened : goal.split_all-requires-clause-opened
split_all-requires-clause-opened g c = let b = c.open_sessions.new.book in
    (steps_of b, steps_of b, opened_phase c.in-Ok.table c.args.conf.now c.read_first-moment.result c.in-Ok.book b c.in-Ok.ensures.new c.open_sessions.ensures.opened)

pub returns-in_default-open_ports-clause-port_open : goal.returns-in_default-open_ports-clause-port_open
returns-in_default-open_ports-clause-port_open g c = λ e.
    let v = g.P.Port.shown in let o = c.in_default-open_ports.ensures in (
      record { moment = c.read_first-moment.result; quiet = all_quiet v c.read_first-moment.result c.args.ports.now c.read_first-moment.new.ports c.open_ports.new.ports c.read_first-moment.ensures o.idle },
      fails_since v c.read_first-moment.result c.args.ports.now c.read_first-moment.new.ports c.open_ports.new.ports c.read_first-moment.ensures o.cause,
      refl,
    )

pub returns-in_default-open-clause-desk_open : goal.returns-in_default-open-clause-desk_open
returns-in_default-open-clause-desk_open g c = λ e.
    let v = g.P.Port.shown in let o = c.in_default-open.ensures in (
      record { moment = c.read_first-moment.result; quiet = all_quiet v c.read_first-moment.result c.args.ports.now c.read_first-moment.new.ports c.open_ports.new.ports c.read_first-moment.ensures c.in-Ok-open_ports.ensures.idle },
      record { log = o.log; coming = o.coming; made = o.made; faults = o.cause },
    )

pub serve_split-requires-clause-ready : goal.serve_split-requires-clause-ready
serve_split-requires-clause-ready g c κs within =
    let v = g.P.Port.shown in
    let each : Each (IsBound v c.args.conf.now.locals) c.read_first-moment.new.ports c.open_ports.new.ports =
    subst (λ (xs : List Endpoint). Each (IsBound v xs) c.read_first-moment.new.ports c.open_ports.new.ports) c.locals.ensures.value c.in-Ok-open_ports.ensures.bound in
    let many : c.split_all.new.posts.len ≡ length c.split_all.new.posts.items = search rules in
    let l = c.split_all.ensures.len in let m = c.in-Ok-make_rooms.ensures in let t = c.read_first-moment.ensures.len in let o = each.len in let r = c.requires in let n = c.workers-count.ensures.value in
    let len : length c.split_all.new.posts.items ≡ length c.open_ports.new.ports = omega (arith, many, l, m, t, o, r, n) in
    all_ready v c.in-Ok.table c.args.conf.now.locals c.read_first-moment.new.ports c.open_ports.new.ports c.split_all.new.posts.items each len c.split_all.ensures.seats c.split_all.ensures.fresh

pub serve_split-requires-clause-book : goal.serve_split-requires-clause-book
serve_split-requires-clause-book g c κs within = let b = c.open_sessions.new.book in
    (c.split_all.ensures.phase (steps_of b) (steps_of b) (opened_phase c.in-Ok.table c.args.conf.now c.read_first-moment.result c.in-Ok.book b c.in-Ok.ensures.new c.open_sessions.ensures.opened)).book

pub returns-clause-served : goal.returns-clause-served
returns-clause-served g c =
    let v = g.P.Port.shown in
    let w = g.D.Desk.shown in
    let t = c.in-Ok.table in let f = c.args.conf.now in let b = c.open_sessions.new.book in let moment = c.read_first-moment.result in
    let each : Each (IsBound v f.locals) c.read_first-moment.new.ports c.open_ports.new.ports =
    subst (λ (xs : List Endpoint). Each (IsBound v xs) c.read_first-moment.new.ports c.open_ports.new.ports) c.locals.ensures.value c.in-Ok-open_ports.ensures.bound in
    let phase : Phase t (steps_of b) (steps_of b) c.split_all.new.book c.split_all.new.posts.len [] =
    subst (λ (n : ℕ). Phase t (steps_of b) (steps_of b) c.split_all.new.book n []) (sym c.split_all.ensures.len)
    (c.split_all.ensures.phase (steps_of b) (steps_of b) (opened_phase t f moment c.in-Ok.book b c.in-Ok.ensures.new c.open_sessions.ensures.opened)) in
    let splits : SplitsOff t f.workers b c.split_all.new.book =
    let m = c.in-Ok-make_rooms.ensures in let n = c.workers-count.ensures.value in
    subst (λ (k : ℕ). SplitsOff t k b c.split_all.new.book) (omega (arith, m, n)) c.split_all.ensures.calls in
    let o = c.in-Ok-open.ensures in
    let log : Grows (g.D.Desk.shown c.args.desk.now).log (g.D.Desk.shown c.open.new.self).log (opened f.control f.operator ∷ []) =
    subst (λ (x : Option Endpoint). Grows (g.D.Desk.shown c.args.desk.now).log (g.D.Desk.shown c.open.new.self).log (opened x f.operator ∷ [])) c.control.ensures.value
    (subst (λ (x : Option Endpoint). Grows (g.D.Desk.shown c.args.desk.now).log (g.D.Desk.shown c.open.new.self).log (opened c.control.result x ∷ [])) c.operator.ensures o.log) in
    let opens : g.D.Desk.goes c.args.desk.now (opened f.control f.operator) c.open.new.self =
    subst (λ (x : Option Endpoint). g.D.Desk.goes c.args.desk.now (opened x f.operator) c.open.new.self) c.control.ensures.value
    (subst (λ (x : Option Endpoint). g.D.Desk.goes c.args.desk.now (opened c.control.result x) c.open.new.self) c.operator.ensures o.goes) in
    whole_served v w g.D.Desk.goes t f c.in-Ok-make.room moment c.args.ports.now c.read_first-moment.new.ports c.open_ports.new.ports c.serve_split.new.ports c.args.desk.now c.open.new.self c.serve_split.new.desk c.in-Ok.book b c.split_all.new.book c.serve_split.new.book c.serve_split.result
    c.in-Ok.ensures.size c.in-Ok.ensures.new c.open_sessions.ensures.opens c.open_sessions.ensures.opened c.law_fits.ensures c.law_rows_stay.ensures splits c.in-Ok-make.ensures c.read_first-moment.ensures each c.requires
    (record { log = log; opens = opens; made = o.made; still = o.still }) (c.serve_split.ensures (steps_of b) (steps_of b) phase)
