-- What a `Conf` holds.
use Rattle.conf_text.specs.declared.conf.Conf.TheInside.{Inside}
use Rattle.conf_text.specs.File.{File, IsSound}
use Rattle.conf_text.specs.Sound.{AreAscending}

abbrev pub file_kept : Inside → File
file_kept c = record { locals = c.locals.items; workers = c.workers; slots = c.slots; rows = c.rows; limit = c.limit; turns = c.turns; control = c.control; operator = c.operator; twamp = c.twamp; configs = c.configs.items; sessions = c.sessions.items }

-- some text stands for it, and its names ascend
pub record IsKept (c : Inside) : Type 0 where
  pub sound : IsSound (file_kept c)
  pub names : AreAscending c.configs.items
