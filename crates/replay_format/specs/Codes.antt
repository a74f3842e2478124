-- The codes of answers that have one octet (this project's own).
use Rattle.std.specs.Prelude.{ℕ}
use Rattle.replay_format.specs.declared.code.OpenAnswer.{OpenAnswer}
use Rattle.replay_format.specs.declared.code.OpenAnswer.TheVariants as opens
use Rattle.replay_format.specs.declared.code.SetAnswer.{SetAnswer}
use Rattle.replay_format.specs.declared.code.SetAnswer.TheVariants as sets
use Rattle.replay_format.specs.declared.code.UnsentCause.{UnsentCause}
use Rattle.replay_format.specs.declared.code.UnsentCause.TheVariants as causes

abbrev pub open_code : OpenAnswer → ℕ
open_code opens.Opened = 0
open_code opens.Duplicate = 1
open_code opens.ModeClash = 2
open_code opens.Full = 3
open_code opens.RowsFull = 4
open_code opens.NoKey = 5

abbrev pub set_code : SetAnswer → ℕ
set_code sets.Set = 0
set_code sets.RowsFull = 4
set_code sets.NoKey = 5
set_code sets.NoSuch = 6

abbrev pub unsent_code : UnsentCause → ℕ
unsent_code causes.NoSession = 1
unsent_code causes.Short = 2
unsent_code causes.BadHmac = 3
unsent_code causes.NoReply = 7
