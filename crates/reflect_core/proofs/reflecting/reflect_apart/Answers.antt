use Rattle.std.proofs.Common.{◌≡◌, ◌++◌, ◌∙◌, Bool, if◌then◌else◌, length, drop, ap, refl, arith}
use Rattle.refl_types.specs.declared.types.Mode.TheVariants.{Plain, Auth}
use Rattle.tlv_actions.specs.declared.facts.Plan.{Plan}
use Rattle.reflect_core.specs.declared.ends.Ends.{Ends}
use Rattle.reflect_core.specs.Arrived.{Arrived}
use Rattle.reflect_core.specs.Ends.{has_intact_tail, usual_ends, planned_ends, plan_after, ends_after}
use Rattle.reflect_core.specs.Reflection.{plain_reflection, auth_reflection, reflection}
use Rattle.reflect_core.proofs.Modes.{plain_is, auth_is, plain_ends, auth_ends, replied}
use Rattle.reflect_core.proofs.reflecting.reflect_apart.Goals as goal

pub returns-in-Plain-clause-reply : goal.returns-in-Plain-clause-reply
returns-in-Plain-clause-reply c =
    let mode = c.args.mode in
    let x = c.args.extra in
    let config = c.args.config.now in
    let draw = c.args.draw in
    let d : Arrived = record { meta = c.args.meta; octets = c.args.octets.now; locals = c.args.locals.now } in
    let old = c.args.out.now in
    let plan = c.plan_after-plan in
    let call = c.reflect_plain-intact in
    let chosen : c.ends_of.result ≡ ends_after 44 Plain config d =
    c.ends_of.ensures
    ∙ ap (λ (b : Bool). if b then planned_ends plan.result else usual_ends d.meta) call.ensures.intact
    ∙ ap (λ (p : Plan). if has_intact_tail 44 Plain config d.octets then planned_ends p else usual_ends d.meta) plan.ensures in
    let ends = chosen ∙ plain_ends mode config d c.in-Plain.is in
    replied (reflection mode x config draw d) d.meta _ c.ends_of.result old call.new.out (plain_reflection config (plan_after 44 config d) draw d) (length d.octets) refl refl
    (ap (λ (e : Ends). e.from) ends) (ap (λ (e : Ends). e.to) ends)
    (call.ensures.octets ∙ ap (λ (p : Plan). plain_reflection config p draw d ++ drop (length d.octets) old) plan.ensures)
    (plain_is mode x config draw d c.in-Plain.is) (omega arith) (omega arith)

pub returns-in-Auth-clause-reply : goal.returns-in-Auth-clause-reply
returns-in-Auth-clause-reply c =
    let mode = c.args.mode in
    let x = c.args.extra in
    let config = c.args.config.now in
    let draw = c.args.draw in
    let d : Arrived = record { meta = c.args.meta; octets = c.args.octets.now; locals = c.args.locals.now } in
    let old = c.args.out.now in
    let plan = c.plan_after-plan-in-Auth in
    let call = c.reflect_auth-intact in
    let chosen : c.ends_of-in-Auth.result ≡ ends_after 112 Auth config d =
    c.ends_of-in-Auth.ensures
    ∙ ap (λ (b : Bool). if b then planned_ends plan.result else usual_ends d.meta) call.ensures.intact
    ∙ ap (λ (p : Plan). if has_intact_tail 112 Auth config d.octets then planned_ends p else usual_ends d.meta) plan.ensures in
    let ends = chosen ∙ auth_ends mode config d c.in-Auth.is in
    replied (reflection mode x config draw d) d.meta _ c.ends_of-in-Auth.result old call.new.out (auth_reflection config (plan_after 112 config d) draw d) (length d.octets) refl refl
    (ap (λ (e : Ends). e.from) ends) (ap (λ (e : Ends). e.to) ends)
    (call.ensures.octets ∙ ap (λ (p : Plan). auth_reflection config p draw d ++ drop (length d.octets) old) plan.ensures)
    (auth_is mode x config draw d c.in-Auth.is) (omega arith) (omega arith)
