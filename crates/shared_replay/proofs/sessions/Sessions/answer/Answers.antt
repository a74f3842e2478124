use Rattle.std.proofs.Common.{List, take, refl, sym, ap, subst}
use Rattle.refl_types.specs.declared.types.Endpoint.{Endpoint}
use Rattle.replay_format.specs.Records.{Opening, Setting}
use Rattle.replay_format.specs.View.{item_of}
use Rattle.shared_replay.specs.Stands.{Kept, Stands}
use Rattle.shared_replay.proofs.Standing.{for_item, opened_all, set_all, closed_all, listed_all}
use Rattle.shared_replay.proofs.sessions.Sessions.answer.Goals as goal

pub returns-in-Open-clause-answered : goal.returns-in-Open-clause-answered
returns-in-Open-clause-answered c = λ records st within.
    let o : Opening = record { key = c.in-Open.key; extra = c.in-Open.extra; config = c.in-Open.config } in
    let was = subst (λ (k : Kept). Stands k records) (sym c.self.view_is) st in
    let w = c.write_outcome in
    for_item _ _ (ap item_of c.in-Open.is)
    (opened_all records _ _ o c.open-answer.result c.args.out.now w.new.out w.result was within refl c.open-answer.ensures.reserves c.open-answer.ensures.opened w.ensures.octets w.ensures.len)

pub returns-in-Set-clause-answered : goal.returns-in-Set-clause-answered
returns-in-Set-clause-answered c = λ records st within.
    let s : Setting = record { key = c.in-Set.key; config = c.in-Set.config } in
    let was = subst (λ (k : Kept). Stands k records) (sym c.self-in-Set.view_is) st in
    let w = c.write_outcome-in-Set in
    for_item _ _ (ap item_of c.in-Set.is)
    (set_all records _ _ s c.set-answer.result c.args.out.now w.new.out w.result was refl c.set-answer.ensures.reserves c.set-answer.ensures.set w.ensures.octets w.ensures.len)

pub returns-in-Close-clause-answered : goal.returns-in-Close-clause-answered
returns-in-Close-clause-answered c = λ records st within.
    let k = c.in-Close.key in
    let was = subst (λ (k : Kept). Stands k records) (sym c.self-in-Close.view_is) st in
    let w = c.write_outcome-in-Close in
    for_item _ _ (ap item_of c.in-Close.is)
    (closed_all records _ _ k c.close-count.result c.args.out.now w.new.out w.result was refl c.close-count.ensures.reserves c.law_apart.ensures c.close-count.ensures.closed w.ensures.octets w.ensures.len)

pub returns-in-Locals-clause-answered : goal.returns-in-Locals-clause-answered
returns-in-Locals-clause-answered c = λ records st within.
    let ls : List Endpoint = take c.in-Locals.count c.in-Locals.list in
    let was = subst (λ (k : Kept). Stands k records) (sym c.self-in-Locals.view_is) st in
    let w = c.write_outcome-in-Locals in
    for_item _ _ (ap item_of c.in-Locals.is)
    (listed_all records _ _ ls c.args.out.now w.new.out w.result was refl refl w.ensures.octets w.ensures.len)

pub invariant_of-self : goal.invariant_of-self
invariant_of-self c = let a = c.open-answer.ensures.after in (a.desk, a.rows c.self.inside.known c.self.invariant.1, c.self.invariant.2)

pub invariant_of-self-in-Set : goal.invariant_of-self-in-Set
invariant_of-self-in-Set c = let a = c.set-answer.ensures.after in (a.desk, a.rows c.self-in-Set.inside.known c.self-in-Set.invariant.1, c.self-in-Set.invariant.2)

pub invariant_of-self-in-Close : goal.invariant_of-self-in-Close
invariant_of-self-in-Close c = let a = c.close-count.ensures.after in (a.desk, a.rows c.self-in-Close.inside.known c.self-in-Close.invariant.1, c.self-in-Close.invariant.2)
