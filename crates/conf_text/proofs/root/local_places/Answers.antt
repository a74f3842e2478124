use Rattle.std.proofs.Common.{◌≡◌, ◌+◌, ◌<◌, length, get_or, drop, [], ◌∷◌, ◌++◌, codes, decimal, sym, ap, ◌∙◌, arith}
use Rattle.std.proofs.lemmas.Grind.{common_steps}
use Rattle.std.proofs.Math.ListN.{drop_of_length-le}
use Rattle.toml.specs.View.{view, items_view}
use Rattle.conf_text.specs.Faults.{step, fault_of}
use Rattle.conf_text.specs.File.{local_of}
use Rattle.conf_text.specs.Tables.{places}
use Rattle.conf_text.proofs.FaultFacts.{handed}
use Rattle.conf_text.proofs.PlaceFacts.{place-stopped, place-read, place-done}
use Rattle.conf_text.proofs.root.local_places.Goals as goal

pub returns-in_err-local : goal.returns-in_err-local
returns-in_err-local c =
    let i = c.loop-index.index in
    let v = c.index.result.now in
    let vs = c.args.list.now.items in
    let found = c.loop-index.found.items in
    let at : get_or vs i v ≡ v = grind (arith, common_steps) in
    let inside : i < length vs = grind (arith, common_steps) in
    let path : c.deref-in-loop-index.result.now ≡ step (codes "locals") (decimal i) = grind (arith, common_steps) in
    let others : c.deref.result.now ≡ found = grind (arith, common_steps) in
    handed (λ v. v.items) c.from_residual-in_err-local.result c.in_err-local.field-0.0 _ c.from_residual-in_err-local.ensures.1
    (rw c.loop-index.invariant (place-stopped local_of (codes "locals") vs i found v c.deref-in-loop-index.result.now (fault_of c.in_err-local.field-0.0) inside at path (rw (← others) c.in_err-local.ensures)))

pub loop-index-preserved : goal.loop-index-preserved
loop-index-preserved c =
    let i = c.loop-index.index in
    let v = c.index.result.now in
    let vs = c.args.list.now.items in
    let found = c.loop-index.found.items in
    let e = c.in_ok-local.local in
    let at : get_or vs i v ≡ v = grind (arith, common_steps) in
    let inside : i < length vs = grind (arith, common_steps) in
    let path : c.deref-in-loop-index.result.now ≡ step (codes "locals") (decimal i) = grind (arith, common_steps) in
    let others : c.deref.result.now ≡ found = grind (arith, common_steps) in
    let grown : c.push.new.self.items ≡ found ++ e ∷ [] = grind (arith, common_steps) in
    c.loop-index.invariant ∙ place-read local_of (codes "locals") vs i found v c.deref-in-loop-index.result.now (found ++ e ∷ []) inside at path (rw (← others) c.in_ok-local.ensures)
    ∙ ap (λ l. places local_of (codes "locals") (i + 1) l (items_view (drop (i + 1) vs))) (sym grown)

pub returns : goal.returns
returns c =
    let vs = c.args.list.now.items in
    let done : drop c.loop-index.index vs ≡ [] = grind (arith, common_steps, drop_of_length-le) in
    c.loop-index.invariant ∙ place-done local_of (codes "locals") vs c.loop-index.index c.loop-index.found.items done
