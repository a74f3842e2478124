use Rattle.std.proofs.Common.{◌≡◌, ◌++◌, ◌∙◌, List, ℕ, take, drop, ap, sym, subst, arith}
use Rattle.std.proofs.lemmas.List.{take-append-drop}
use Rattle.refl_types.specs.declared.config.ConfigParts.{ConfigParts}
use Rattle.tlv_chain.specs.Walking.{tlv_at}
use Rattle.tlv_chain.proofs.Walks.{past, step_of}
use Rattle.tlv_actions.specs.Rows.{Facts, WritesTlv, reply_tlv, acted_on}
use Rattle.reflect_core.specs.Tail.{processed_from}
use Rattle.reflect_core.proofs.Passes.{stopped, stops_first, processes_first, malformed_is, done_is, holds_over, behind_over, goes_over}
use Rattle.reflect_core.proofs.tails.process.Goals as goal

pub act-requires-clause-holds : goal.act-requires-clause-holds
act-requires-clause-holds c =
    holds_over (processed_from c.args.config.now (record { n = c.args.number; plan = c.args.plan.now })) c.args.tail.now c.loop-span.walk c.in-Some.span c.next.new.self c.loop-span.out (λ i. omega (arith, c.type_inv.tail i)) c.loop-span.invariant c.in-Some.ensures

pub returns-in-Malformed : goal.returns-in-Malformed
returns-in-Malformed c =
    let config = c.args.config.now in
    let facts : Facts = record { n = c.args.number; plan = c.args.plan.now } in
    let tail = c.args.tail.now in
    let s = c.in-Some.span in
    let before = c.loop-span.out in
    let out = c.act.new.out in
    let t = tlv_at tail s in
    let bad = malformed_is config facts.plan s.at t c.act.result (c.act.ensures.acted ∙ ap (λ (p : ConfigParts). acted_on p facts.plan s.at t) c.config.ensures) c.in-Malformed.is in
    let writes : WritesTlv before s (reply_tlv config facts s.at t) out = subst (λ (p : ConfigParts). WritesTlv before s (reply_tlv p facts s.at t) out) c.config.ensures c.act.ensures.octets in
    let behind = behind_over (processed_from config facts) tail c.loop-span.walk s c.next.new.self before out (reply_tlv config facts s.at t) c.loop-span.invariant c.in-Some.ensures writes (omega arith) in
    let e : out ≡ take (past s) out ++ drop (past s) tail = sym (take-append-drop (past s) out) ∙ ap (λ (x : List ℕ). take (past s) out ++ x) behind in
    stopped (processed_from config facts) tail c.loop-span.walk s c.next.new.self before out out (reply_tlv config facts s.at t) (λ i. omega (arith, c.type_inv.tail i)) c.loop-span.invariant.way c.in-Some.ensures writes (omega arith) (λ rest. stops_first config facts s.at t rest bad) e

pub loop-span-preserved : goal.loop-span-preserved
loop-span-preserved c =
    let config = c.args.config.now in
    let facts : Facts = record { n = c.args.number; plan = c.args.plan.now } in
    let tail = c.args.tail.now in
    let s = c.in-Some.span in
    let before = c.loop-span.out in
    let out = c.act.new.out in
    let t = tlv_at tail s in
    let good = done_is config facts.plan s.at t c.act.result (c.act.ensures.acted ∙ ap (λ (p : ConfigParts). acted_on p facts.plan s.at t) c.config.ensures) c.in_default-act.not-Malformed in
    let writes : WritesTlv before s (reply_tlv config facts s.at t) out = subst (λ (p : ConfigParts). WritesTlv before s (reply_tlv p facts s.at t) out) c.config.ensures c.act.ensures.octets in
    goes_over (processed_from config facts) tail c.loop-span.walk s c.next.new.self before out (reply_tlv config facts s.at t) c.loop-span.invariant c.in-Some.ensures writes (omega arith) (λ rest. processes_first config facts tail s rest (step_of tail c.loop-span.walk s c.next.new.self c.loop-span.invariant.way.of c.in-Some.ensures).within good)
