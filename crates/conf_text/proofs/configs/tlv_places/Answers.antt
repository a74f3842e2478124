use Rattle.std.proofs.Common.{◌≡◌, ◌+◌, ◌<◌, length, get_or, drop, [], codes, Ok, IfSome, Err, decimal, sym, subst, ap, ◌∙◌, arith, true, refl}
use Rattle.std.proofs.lemmas.Grind.{common_steps}
use Rattle.std.proofs.Math.ListN.{drop_of_length-le}
use Rattle.refl_types.proofs.TlvFacts.{known_none}
use Rattle.toml.specs.View.{items_view}
use Rattle.conf_text.specs.Faults.{step, fault_of}
use Rattle.conf_text.specs.Configs.{tlv_of}
use Rattle.conf_text.specs.Tables.{places}
use Rattle.conf_text.proofs.FaultFacts.{handed}
use Rattle.conf_text.proofs.PlaceFacts.{place-stopped, place-read, place-done}
use Rattle.conf_text.proofs.configs.tlv_places.Goals as goal

pub loop-index-init : goal.loop-index-init
loop-index-init c = (known_none, refl)

pub returns-in_err-found-clause-value : goal.returns-in_err-found-clause-value
returns-in_err-found-clause-value c =
    let i = c.loop-index.index in
    let v = c.index.result.now in
    let vs = c.args.list.now.items in
    let found = c.loop-index.found in
    let at : get_or vs i v ≡ v = grind (arith, common_steps) in
    let inside : i < length vs = grind (arith, common_steps) in
    let path : c.deref.result.now ≡ step (codes "tlvs") (decimal i) = grind (arith, common_steps) in
    handed (λ n. n) c.from_residual-in_err-found.result c.in_err-found.field-0.0 _ c.from_residual-in_err-found.ensures.1
    (rw c.loop-index.invariant.1 (place-stopped tlv_of (codes "tlvs") vs i found v c.deref.result.now (fault_of c.in_err-found.field-0.0) inside at path c.in_err-found.ensures.value))

pub loop-index-preserved : goal.loop-index-preserved
loop-index-preserved c =
    let i = c.loop-index.index in
    let v = c.index.result.now in
    let vs = c.args.list.now.items in
    let found = c.loop-index.found in
    let at : get_or vs i v ≡ v = grind (arith, common_steps) in
    let inside : i < length vs = grind (arith, common_steps) in
    let path : c.deref.result.now ≡ step (codes "tlvs") (decimal i) = grind (arith, common_steps) in (
      c.in_ok-found.ensures.known c.loop-index.invariant.0,
      c.loop-index.invariant.1 ∙ place-read tlv_of (codes "tlvs") vs i found v c.deref.result.now c.in_ok-found.found inside at path c.in_ok-found.ensures.value,
    )

pub returns-clause-value : goal.returns-clause-value
returns-clause-value c =
    let vs = c.args.list.now.items in
    let done : drop c.loop-index.index vs ≡ [] = grind (arith, common_steps, drop_of_length-le) in
    c.loop-index.invariant.1 ∙ place-done tlv_of (codes "tlvs") vs c.loop-index.index c.loop-index.found done
