use Rattle.conf_text.specs.Kept.{file_kept}
use Rattle.conf_text.proofs.SoundFiles.{sound-holds}
use Rattle.conf_text.proofs.conf.Conf.workers.Goals as goal

pub returns-clause-range : goal.returns-clause-range
returns-clause-range c = (sound-holds (file_kept c.self.inside) c.self.invariant.sound).within.workers
