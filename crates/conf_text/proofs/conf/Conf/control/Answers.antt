use Rattle.std.proofs.Common.{IsSome, subst}
use Rattle.conf_text.specs.File.{File}
use Rattle.conf_text.specs.Kept.{file_kept}
use Rattle.conf_text.proofs.SoundFiles.{sound-holds}
use Rattle.conf_text.proofs.conf.Conf.control.Goals as goal

pub returns-clause-twamp : goal.returns-clause-twamp
returns-clause-twamp c = λ some. subst (λ (f : File). IsSome f.twamp) c.self.view_is ((sound-holds (file_kept c.self.inside) c.self.invariant.sound).twamp some)
