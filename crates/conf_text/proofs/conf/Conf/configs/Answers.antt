use Rattle.std.proofs.Common.{◌≡◌, ◌<◌, ◌≤◌, List, length, ap, sym, subst, ◌∙◌, true, false}
use Rattle.std.specs.List.{All, AllPairs}
use Rattle.text_forms.specs.Names.{is_name}
use Rattle.conf_text.specs.declared.configs.Named.{Named}
use Rattle.conf_text.specs.File.{File}
use Rattle.conf_text.specs.Kept.{file_kept}
use Rattle.conf_text.specs.Sound.{AreAscending}
use Rattle.conf_text.proofs.SoundFiles.{Holds, kept-holds}
use Rattle.conf_text.proofs.conf.Conf.configs.Goals as goal

pub returns-clause-count : goal.returns-clause-count
returns-clause-count c =
    let f = c.args.self.now in
    let held : Holds f = kept-holds (file_kept c.self.inside) f c.self.invariant.sound c.self.view_is in
    let same : c.deref.result.now ≡ f.configs = c.deref.ensures.value ∙ ap (λ (x : File). x.configs) c.self.view_is in
    subst (λ (l : List Named). (1 ≤ length l) × (length l ≤ 256)) (sym same) held.within.configs

pub returns-clause-names : goal.returns-clause-names
returns-clause-names c =
    let f = c.args.self.now in
    let held : Holds f = kept-holds (file_kept c.self.inside) f c.self.invariant.sound c.self.view_is in
    let same : c.deref.result.now ≡ f.configs = c.deref.ensures.value ∙ ap (λ (x : File). x.configs) c.self.view_is in
    subst (λ (l : List Named). All (λ n. is_name n.name ≡ true) l) (sym same) held.names

pub returns-clause-ascending : goal.returns-clause-ascending
returns-clause-ascending c = subst AreAscending (sym c.deref.ensures.value) c.self.invariant.names
