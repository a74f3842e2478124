-- What the lines of an operator do (this project's own): the calls of each line, in their order, and its answers.
use Rattle.std.specs.Prelude.{◌≡◌, ℕ, zero, suc, ◌+◌, true, ◌==◌, nat_le, if◌then◌else◌, List, [], ◌∷◌, ◌++◌, length, Option, Some, None, Result, Ok, Err}
use Rattle.refl_types.specs.declared.types.Key.{Key}
use Rattle.refl_types.specs.Keys.{is_sound}
use Rattle.operator_lines.specs.Lines.{no_extra}
use Rattle.operator_lines.specs.Reading.{line_from}
use Rattle.operator_lines.specs.Answers.{answer_text}
use Rattle.refl_types.specs.declared.config.ConfigParts.{ConfigParts}
use Rattle.refl_types.specs.declared.outcome.Place.{Place}
use Rattle.session_desk.specs.declared.session.NoSuch.{NoSuch}
use Rattle.session_desk.specs.declared.session.ReserveFault.{ReserveFault}
use Rattle.session_desk.specs.declared.session.ReserveFault.TheVariants as reserve_faults
use Rattle.session_desk.specs.declared.session.SetFault.{SetFault}
use Rattle.session_desk.specs.declared.session.SetFault.TheVariants as set_faults
use Rattle.operator_lines.specs.declared.line.Line.{Line}
use Rattle.operator_lines.specs.declared.line.Line.TheVariants as lines
use Rattle.operator_lines.specs.declared.answer.Answer.{Answer}
use Rattle.operator_lines.specs.declared.answer.Answer.TheVariants.{Done, Number, Listed, Bye, Refused}
use Rattle.operator_lines.specs.declared.answer.Refusal.{Refusal}
use Rattle.operator_lines.specs.declared.answer.Refusal.TheVariants as refusals
use Rattle.control_desk.specs.declared.counts.Verdict.{Verdict}
use Rattle.control_desk.specs.declared.counts.Verdict.TheVariants.{GoesOn, Over, Quits}
use Rattle.control_desk.specs.Plan.{Plan, send, hang_up, reserve, start, set, close, count, live_len, live_at}
use Rattle.control_desk.specs.State.{Setting, DeskState, config_in, with_name, with_side, without}
use Rattle.control_desk.specs.declared.sides.Side.TheVariants.{Operator}
use Rattle.session_octets.specs.Reading.{config_at}
use Rattle.octet_format.specs.declared.reading.Unread.{Unread}

-- how a plan goes on
abbrev pub Next : Type 0
Next = Verdict → DeskState → Plan

-- an answer is one send; a connection whose send failed is hung up
abbrev pub say : ℕ → Answer → DeskState → Next → Plan
say n a s next = send n (answer_text a) (next GoesOn s) (hang_up n (next Over (without s n)))

abbrev pub refuse : ℕ → Refusal → DeskState → Next → Plan
refuse n r s next = say n (Refused r) s next

abbrev pub reserve_refusal : ReserveFault → Refusal
reserve_refusal (reserve_faults.Duplicate k) = refusals.Duplicate
reserve_refusal (reserve_faults.ModeClash k) = refusals.ModeClash
reserve_refusal reserve_faults.NoKey = refusals.NoKey
reserve_refusal reserve_faults.RowsFull = refusals.RowsFull
reserve_refusal (reserve_faults.Full live reserved retired held) = refusals.Full live reserved retired held

abbrev pub set_refusal : SetFault → Refusal
set_refusal set_faults.NoSuch = refusals.NoSuch
set_refusal set_faults.NoKey = refusals.NoKey
set_refusal set_faults.RowsFull = refusals.RowsFull

-- ---- the lines

-- a line names sound keys alone
abbrev pub HasSoundKey : Line → Type 0
HasSoundKey (lines.Open k name wait) = is_sound k no_extra ≡ true
HasSoundKey _ = Unit {0}

-- the configuration that the octets of a line are
abbrev pub config_read : Result (ConfigParts × List ℕ) Unread → Option ConfigParts
config_read (Ok c) = Some c.0
config_read (Err e) = None

abbrev pub config_from : List ℕ → Option ConfigParts
config_from octets = config_read (config_at octets)

-- names that configurations may have at once
abbrev pub name_limit : ℕ
name_limit = 256

abbrev pub new_name : ℕ → DeskState → List ℕ → ConfigParts → Next → Option ConfigParts → Plan
new_name n s name c next (Some old) = refuse n refusals.Exists s next
new_name n s name c next None =
    if nat_le name_limit (length s.names) then refuse n refusals.NamesFull s next else say n Done (with_name s name c) next

abbrev pub name_config : ℕ → DeskState → List ℕ → Option ConfigParts → Next → Plan
name_config n s name None next = refuse n refusals.Config s next
name_config n s name (Some c) next = new_name n s name c next (config_in s.names name)

-- whatever `start` answers
abbrev pub reserved_plan : ℕ → ℕ → DeskState → Next → Result Place ReserveFault → Plan
reserved_plan n now s next (Ok place) = start place now (λ a. say n Done s next)
reserved_plan n now s next (Err e) = refuse n (reserve_refusal e) s next

abbrev pub open_under : ℕ → ℕ → DeskState → Key → ℕ → Next → Option ConfigParts → Plan
open_under n now s k wait next None = refuse n refusals.NoConfig s next
open_under n now s k wait next (Some c) = reserve k no_extra c wait (reserved_plan n now s next)

abbrev pub open_plan : Setting → ℕ → ℕ → DeskState → Key → List ℕ → ℕ → Next → Plan
open_plan f n now s k name wait next =
    if nat_le (length f.locals) k.local then refuse n refusals.Local s next else open_under n now s k wait next (config_in s.names name)

abbrev pub set_plan : ℕ → DeskState → Next → Result (Unit {0}) SetFault → Plan
set_plan n s next (Ok u) = say n Done s next
set_plan n s next (Err e) = refuse n (set_refusal e) s next

abbrev pub set_under : ℕ → DeskState → Key → Next → Option ConfigParts → Plan
set_under n s k next None = refuse n refusals.NoConfig s next
set_under n s k next (Some c) = set k c (set_plan n s next)

-- a number of draws, or that there is no such session
abbrev pub number_plan : ℕ → DeskState → Next → Result ℕ NoSuch → Plan
number_plan n s next (Ok m) = say n (Number m) s next
number_plan n s next (Err e) = refuse n refusals.NoSuch s next

-- a line for each session that is live, its count taken just before; then how many there were
abbrev pub listed_plan : ℕ → DeskState → Next → Key → Plan → Result ℕ NoSuch → Plan
listed_plan n s next k more (Ok m) = send n (answer_text (Listed k m)) more (hang_up n (next Over (without s n)))
listed_plan n s next k more (Err e) = more

abbrev pub list_key : ℕ → DeskState → Next → Plan → Option Key → Plan
list_key n s next more None = more
list_key n s next more (Some k) = count k (listed_plan n s next k more)

-- `left` more sessions, from this index on
unfoldable pub list_from : ℕ → DeskState → Next → ℕ → ℕ → ℕ → Plan
list_from n s next all index zero = say n (Number all) s next
list_from n s next all index (suc left) = live_at index (list_key n s next (list_from n s next all (index + 1) left))

abbrev pub quit_plan : ℕ → DeskState → Next → Plan
quit_plan n s next = send n (answer_text Bye) (next Quits s) (hang_up n (next Quits s))

-- what is done for a line that is in the grammar
abbrev pub line_plan : Setting → ℕ → ℕ → DeskState → Next → Line → Plan
line_plan f n now s next (lines.Config name octets) = name_config n s name (config_from octets) next
line_plan f n now s next (lines.Open k name wait) = open_plan f n now s k name wait next
line_plan f n now s next (lines.Set k name) = set_under n s k next (config_in s.names name)
line_plan f n now s next (lines.Close k) = close k (number_plan n s next)
line_plan f n now s next (lines.Count k) = count k (number_plan n s next)
line_plan f n now s next lines.List = live_len (λ all. list_from n s next all 0 all)
line_plan f n now s next lines.Quit = quit_plan n s next

abbrev pub read_plan : Setting → ℕ → ℕ → DeskState → Next → Option Line → Plan
read_plan f n now s next (Some line) = line_plan f n now s next line
read_plan f n now s next None = refuse n refusals.Line s next

-- ---- octets of an operator

-- octets of the longest line, with its end
abbrev pub line_limit : ℕ
line_limit = 512

-- behind a line the next one begins, unless no more is read
abbrev pub behind_line : (DeskState → Plan) → Next → Next
behind_line more next GoesOn s = more s
behind_line more next Over s = next Over s
behind_line more next Quits s = next Quits s

-- `held` is the line so far; the state keeps it where the piece ends
unfoldable pub operator_plan : Setting → ℕ → ℕ → DeskState → Next → List ℕ → List ℕ → Plan
operator_plan f n now s next held [] = next GoesOn (with_side s n (Operator held))
operator_plan f n now s next held (b ∷ octets) =
    if nat_le line_limit (length held) then
    (let gone = hang_up n (next Over (without s n)) in send n (answer_text (Refused refusals.Line)) gone gone)
    else (if b == 10 then read_plan f n now s (behind_line (λ t. operator_plan f n now t next [] octets) next) (line_from (held ++ b ∷ []))
    else operator_plan f n now s next (held ++ b ∷ []) octets)

-- behind one octet, of which `held` is what the line has then: the rest of the piece, unless no more of it is read
abbrev pub behind_octet : Setting → ℕ → ℕ → Next → List ℕ → List ℕ → Verdict → DeskState → Plan
behind_octet f n now next held rest GoesOn s = operator_plan f n now s next held rest
behind_octet f n now next held rest Over s = next Over (without s n)
behind_octet f n now next held rest Quits s = next Quits s

-- behind a piece
abbrev pub settled_piece : Verdict → ℕ → List ℕ → DeskState → DeskState
settled_piece GoesOn n held s = with_side s n (Operator held)
settled_piece Over n held s = without s n
settled_piece Quits n held s = s
