use Rattle.std.proofs.Common.{◌≡◌, ◌<◌, ◌≤◌, List, length, ap, sym, subst, ◌∙◌, true, false}
use Rattle.std.specs.List.{All, AllPairs}
use Rattle.refl_types.specs.declared.types.Endpoint.{Endpoint}
use Rattle.conf_text.specs.File.{File}
use Rattle.conf_text.specs.Kept.{file_kept}
use Rattle.conf_text.specs.Sound.{AreDistinct, AreApart, IsOpenable}
use Rattle.conf_text.proofs.SoundFiles.{Holds, kept-holds}
use Rattle.conf_text.proofs.conf.Conf.locals.Goals as goal

pub returns-clause-count : goal.returns-clause-count
returns-clause-count c =
    let f = c.args.self.now in
    let held : Holds f = kept-holds (file_kept c.self.inside) f c.self.invariant.sound c.self.view_is in
    let same : c.deref.result.now ≡ f.locals = c.deref.ensures.value ∙ ap (λ (x : File). x.locals) c.self.view_is in
    subst (λ (l : List Endpoint). (1 ≤ length l) × (length l ≤ 16)) (sym same) held.within.locals

pub returns-clause-distinct : goal.returns-clause-distinct
returns-clause-distinct c =
    let f = c.args.self.now in
    let held : Holds f = kept-holds (file_kept c.self.inside) f c.self.invariant.sound c.self.view_is in
    let same : c.deref.result.now ≡ f.locals = c.deref.ensures.value ∙ ap (λ (x : File). x.locals) c.self.view_is in
    subst (λ (l : List Endpoint). AreDistinct l) (sym same) held.distinct
