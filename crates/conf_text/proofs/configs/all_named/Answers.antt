use Rattle.std.proofs.Common.{◌≡◌, ◌∷◌, [], ◌++◌, ◌∙◌, sym, ap, refl, arith, rules, string_bytes, subst, List, ℕ, IfSome, Err}
use Rattle.std.proofs.lemmas.Grind.{common_steps}
use Rattle.toml.specs.Data.{Members}
use Rattle.toml.specs.View.{view, members_view}
use Rattle.toml.proofs.Views.{Entry}
use Rattle.conf_text.specs.declared.configs.Named.{Named}
use Rattle.conf_text.specs.Configs as spec
use Rattle.conf_text.specs.Faults.{fault_of}
use Rattle.conf_text.proofs.FaultFacts.{handed}
use Rattle.conf_text.proofs.NamedFacts.{named-more, named-stopped, named-end}
use Rattle.conf_text.proofs.SoundConfigs.{all-ascend}
use Rattle.conf_text.proofs.configs.all_named.Goals as goal

pub returns-in_err-named-clause-value : goal.returns-in_err-named-clause-value
returns-in_err-named-clause-value c =
    let (can, finite, same) = c.loop-name.invariant in
    let e : Entry = (c.in-Some.name.now, c.in-Some.value.now) in
    let iter : c.loop-name.name-iterator ≡ e ∷ c.next.new.self = grind (arith, common_steps) in
    let found = c.loop-name.found.items in
    handed (λ v. v.items) c.from_residual.result c.in_err-named.field-0.0 _ c.from_residual.ensures.1
    (rw (same, iter) (named-stopped (fault_of c.in_err-named.field-0.0) found (string_bytes e.0) (view e.1) (members_view c.next.new.self) (rw (← c.as_str.ensures.value) c.in_err-named.ensures)))

pub loop-name-preserved : goal.loop-name-preserved
loop-name-preserved c =
    let (can, finite, same) = c.loop-name.invariant in
    let e : Entry = (c.in-Some.name.now, c.in-Some.value.now) in
    let iter : c.loop-name.name-iterator ≡ e ∷ c.next.new.self = grind (arith, common_steps) in
    let found = c.loop-name.found.items in
    let n = c.in_ok-named.named in
    let grown : c.push.new.self.items ≡ found ++ n ∷ [] = grind (arith, common_steps) in (
      tt,
      tt,
      same ∙ ap (λ es. spec.all_named found (members_view es)) iter
          ∙ named-more found (string_bytes e.0) (view e.1) (members_view c.next.new.self) n (rw (← c.as_str.ensures.value) c.in_ok-named.ensures)
          ∙ ap (λ l. spec.all_named l (members_view c.next.new.self)) (sym grown),
    )

pub returns-clause-value : goal.returns-clause-value
returns-clause-value c =
    let (can, finite, same) = c.loop-name.invariant in
    let none : c.loop-name.name-iterator ≡ [] = grind (arith, common_steps) in
    same ∙ rw none (named-end c.loop-name.found.items)

pub returns-clause-ascending : goal.returns-clause-ascending
returns-clause-ascending c = all-ascend c.args.table.now.entries c.loop-name.found.items c.iter-name-items.ensures.ordered (returns-clause-value c)
