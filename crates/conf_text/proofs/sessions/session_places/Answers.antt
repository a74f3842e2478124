use Rattle.std.proofs.Common.{◌≡◌, ◌+◌, ◌<◌, length, get_or, drop, [], ◌∷◌, ◌++◌, codes, decimal, sym, subst, ap, ◌∙◌, arith, refl}
use Rattle.std.proofs.lemmas.Grind.{common_steps}
use Rattle.std.proofs.Math.ListN.{drop_of_length-le}
use Rattle.toml.specs.View.{items_view}
use Rattle.conf_text.specs.Faults.{step, fault_of}
use Rattle.conf_text.specs.Sessions.{session_of}
use Rattle.conf_text.specs.Tables.{places}
use Rattle.conf_text.specs.Taken.{TakenBy}
use Rattle.conf_text.proofs.FaultFacts.{handed}
use Rattle.conf_text.proofs.PlaceFacts.{place-stopped, place-read, place-done}
use Rattle.conf_text.proofs.sessions.session_places.Goals as goal

pub returns-in_err-session : goal.returns-in_err-session
returns-in_err-session c =
    let i = c.loop-index.index in
    let v = c.index.result.now in
    let vs = c.args.list.now.items in
    let found = c.loop-index.found.items in
    let read = session_of c.args.locals c.args.configs.now in
    let at : get_or vs i v ≡ v = grind (arith, common_steps) in
    let inside : i < length vs = grind (arith, common_steps) in
    let path : c.deref.result.now ≡ step (codes "sessions") (decimal i) = grind (arith, common_steps) in
    handed (λ v. v.items) c.from_residual-in_err-session.result c.in_err-session.field-0.0 _ c.from_residual-in_err-session.ensures.1
    (rw c.loop-index.invariant.1 (place-stopped read (codes "sessions") vs i found v c.deref.result.now (fault_of c.in_err-session.field-0.0) inside at path (c.in_err-session.ensures.value found c.loop-index.invariant.0)))

pub loop-index-preserved : goal.loop-index-preserved
loop-index-preserved c =
    let i = c.loop-index.index in
    let v = c.index.result.now in
    let vs = c.args.list.now.items in
    let found = c.loop-index.found.items in
    let read = session_of c.args.locals c.args.configs.now in
    let at : get_or vs i v ≡ v = grind (arith, common_steps) in
    let inside : i < length vs = grind (arith, common_steps) in
    let path : c.deref.result.now ≡ step (codes "sessions") (decimal i) = grind (arith, common_steps) in
    let s = c.in_ok-session.session in
    let grown : c.push.new.self.items ≡ found ++ s ∷ [] = grind (arith, common_steps) in (
      rw grown (c.in_ok-add.ensures found s refl c.loop-index.invariant.0 (c.in_ok-session.ensures.apart found c.loop-index.invariant.0)),
      c.loop-index.invariant.1 ∙ place-read read (codes "sessions") vs i found v c.deref.result.now (found ++ s ∷ []) inside at path (c.in_ok-session.ensures.value found c.loop-index.invariant.0)
          ∙ ap (λ l. places read (codes "sessions") (i + 1) l (items_view (drop (i + 1) vs))) (sym grown),
    )

pub returns : goal.returns
returns c =
    let vs = c.args.list.now.items in
    let done : drop c.loop-index.index vs ≡ [] = grind (arith, common_steps, drop_of_length-le) in
    c.loop-index.invariant.1 ∙ place-done (session_of c.args.locals c.args.configs.now) (codes "sessions") vs c.loop-index.index c.loop-index.found.items done
