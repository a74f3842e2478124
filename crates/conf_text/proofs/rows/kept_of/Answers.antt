use Rattle.std.proofs.Common.{◌≡◌, ◌+◌, ◌-◌, ◌<◌, length, get_or, drop, [], ◌∷◌, ap, sym, ◌∙◌, subst, arith, List}
use Rattle.std.proofs.Math.Seq.{drop-length}
use Rattle.std.proofs.lemmas.Grind.{common_steps}
use Rattle.refl_types.specs.declared.config.ConfigParts.{ConfigParts}
use Rattle.conf_text.specs.Rows.{session_configs, Keeps}
use Rattle.conf_text.proofs.RowFacts.{none-kept, configs-step}
use Rattle.conf_text.proofs.rows.kept_of.Goals as goal

pub loop-index-init : goal.loop-index-init
loop-index-init c = rw (c.new-kept.ensures.items, drop-length c.args.sessions.now) none-kept

pub loop-index-preserved : goal.loop-index-preserved
loop-index-preserved c =
    let sessions = c.args.sessions.now in
    let i = c.loop-index.index - 1 in
    let s = c.index-sessions-index.result in
    let next : i + 1 ≡ c.loop-index.index = omega (arith, c.loop-index-test.true) in
    let inside : i < length sessions = omega (arith, c.loop-index-test.true, c.loop-index.auto.index) in
    let first : session_configs (drop i sessions) ≡ (get_or sessions i s).config ∷ session_configs (drop c.loop-index.index sessions) = configs-step sessions i s inside ∙ ap (λ n. (get_or sessions i s).config ∷ session_configs (drop n sessions)) next in
    rw first (c.in_ok-keep.ensures (session_configs (drop c.loop-index.index sessions)) c.loop-index.invariant)
