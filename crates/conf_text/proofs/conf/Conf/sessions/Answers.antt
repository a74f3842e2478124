use Rattle.std.proofs.Common.{◌≡◌, ◌<◌, ◌≤◌, List, length, ap, sym, subst, ◌∙◌, true, false}
use Rattle.std.specs.List.{All, AllPairs}
use Rattle.conf_text.specs.Rows.{distinct, in_use}
use Rattle.conf_text.specs.declared.sessions.Provided.{Provided}
use Rattle.conf_text.specs.File.{File}
use Rattle.conf_text.specs.Kept.{file_kept}
use Rattle.conf_text.specs.Sound.{AreDistinct, AreApart, IsOpenable}
use Rattle.conf_text.proofs.SoundFiles.{Holds, kept-holds}
use Rattle.conf_text.proofs.conf.Conf.sessions.Goals as goal

pub returns-clause-count : goal.returns-clause-count
returns-clause-count c =
    let f = c.args.self.now in
    let held : Holds f = kept-holds (file_kept c.self.inside) f c.self.invariant.sound c.self.view_is in
    let same : c.deref.result.now ≡ f.sessions = c.deref.ensures.value ∙ ap (λ (x : File). x.sessions) c.self.view_is in
    subst (λ (l : List Provided). (length l ≤ f.slots) × (length l ≤ 16384)) (sym same) held.within.sessions

pub returns-clause-openable : goal.returns-clause-openable
returns-clause-openable c =
    let f = c.args.self.now in
    let held : Holds f = kept-holds (file_kept c.self.inside) f c.self.invariant.sound c.self.view_is in
    let same : c.deref.result.now ≡ f.sessions = c.deref.ensures.value ∙ ap (λ (x : File). x.sessions) c.self.view_is in
    subst (λ (l : List Provided). All (IsOpenable (length f.locals)) l) (sym same) held.openable

pub returns-clause-apart : goal.returns-clause-apart
returns-clause-apart c =
    let f = c.args.self.now in
    let held : Holds f = kept-holds (file_kept c.self.inside) f c.self.invariant.sound c.self.view_is in
    let same : c.deref.result.now ≡ f.sessions = c.deref.ensures.value ∙ ap (λ (x : File). x.sessions) c.self.view_is in
    subst (λ (l : List Provided). AreApart l) (sym same) held.apart

pub returns-clause-rows : goal.returns-clause-rows
returns-clause-rows c =
    let f = c.args.self.now in
    let held : Holds f = kept-holds (file_kept c.self.inside) f c.self.invariant.sound c.self.view_is in
    let same : c.deref.result.now ≡ f.sessions = c.deref.ensures.value ∙ ap (λ (x : File). x.sessions) c.self.view_is in
    subst (λ (l : List Provided). length (distinct (in_use f.twamp l)) ≤ f.rows) (sym same) held.within.in_use
