-- What each record is answered, and what it leaves of the table.
use Rattle.std.specs.Prelude.{ℕ, ◌%◌, ◌^◌, Bool, ◌&&◌, ◌==◌, not, List, [], ◌∷◌, ◌++◌, length, Option, Some, None, if◌then◌else◌}
use Rattle.refl_types.specs.declared.types.Endpoint.{Endpoint}
use Rattle.refl_types.specs.declared.types.Key.{Key}
use Rattle.refl_types.specs.declared.types.Mode.{Mode}
use Rattle.refl_types.specs.declared.types.Mode.TheVariants.{Auth}
use Rattle.refl_types.specs.declared.config.ConfigParts.{ConfigParts}
use Rattle.refl_types.specs.declared.outcome.Silent as silent
use Rattle.refl_types.specs.declared.outcome.Silent.TheVariants.{Short, BadHmac, NoReply}
use Rattle.refl_types.specs.Spelling.{has}
use Rattle.reflect_core.specs.declared.judging.Judged.{Judged}
use Rattle.reflect_core.specs.declared.judging.Judged.TheVariants.{Reflect, Silent}
use Rattle.reflect_core.specs.Judgement.{judgement}
use Rattle.refl_types.specs.Same.{same_mode}
use Rattle.session_key.specs.Matching.{query_of}
use Rattle.replay_format.specs.declared.code.OpenAnswer.{OpenAnswer}
use Rattle.replay_format.specs.declared.code.OpenAnswer.TheVariants as opens
use Rattle.replay_format.specs.declared.code.SetAnswer.{SetAnswer}
use Rattle.replay_format.specs.declared.code.SetAnswer.TheVariants as sets
use Rattle.replay_format.specs.declared.code.UnsentCause.{UnsentCause}
use Rattle.replay_format.specs.declared.code.UnsentCause.TheVariants as causes
use Rattle.replay_format.specs.Records.{Item, Opens, Sets, Closes, Arrives, Lists, Opening, Setting, Datagram}
use Rattle.replay_format.specs.Answers.{Answer, Opened, Set, Closed, Listed, Sent, Unsent, answer_octets}
use Rattle.replay_table.specs.Table.{Entry, Table, empty_table, is_bound, has_clash, session_for, session_at, with_entry, update, without, raised, configured, may_accept, accept}
use Rattle.replay_table.specs.Reflection.{sending}

-- how many sessions a replay keeps (this project's own)
abbrev pub session_limit : ℕ
session_limit = 1024

-- mode Auth wants an HMAC key
abbrev pub lacks_key : Mode → ConfigParts → Bool
lacks_key m c = same_mode m Auth && not (has c.key)

-- ---- a session is opened

-- The answer, where the key is bound, clashes, the configuration may be accepted, and so many sessions are open. The refusals
-- in their order: a session has this key; a session has these ends in another mode; mode Auth wants an HMAC key; there is no
-- room for another configuration; there is no room for a session.
unfoldable pub open_answer_of : Bool → Bool → Bool → ℕ → Opening → OpenAnswer
open_answer_of bound clash acceptable open_sessions o =
    if bound then opens.Duplicate
    else (if clash then opens.ModeClash
    else (if lacks_key o.key.mode o.config then opens.NoKey
    else (if not acceptable then opens.RowsFull
    else (if open_sessions == session_limit then opens.Full
    else opens.Opened))))

abbrev pub open_answer : Table → Opening → OpenAnswer
open_answer t o = open_answer_of (is_bound o.key t.sessions) (has_clash o.key t.sessions) (may_accept o.config t.configs) (length t.sessions) o

abbrev pub opened_entry : Opening → Entry
opened_entry o = record { key = o.key; extra = o.extra; config = o.config; count = 0 }

-- only an opening that is answered so changes anything
abbrev pub after_opening : OpenAnswer → Table → Opening → Table
after_opening opens.Opened t o = record { sessions = with_entry (opened_entry o) t.sessions; configs = accept o.config t.configs; locals = t.locals }
after_opening opens.Duplicate t o = t
after_opening opens.ModeClash t o = t
after_opening opens.Full t o = t
after_opening opens.RowsFull t o = t
after_opening opens.NoKey t o = t

-- ---- a session gets another configuration

-- the refusals in their order: no session has the key; mode Auth wants an HMAC key; there is no room for another configuration
unfoldable pub set_answer_of : Bool → Bool → Setting → SetAnswer
set_answer_of bound acceptable s =
    if not bound then sets.NoSuch
    else (if lacks_key s.key.mode s.config then sets.NoKey
    else (if not acceptable then sets.RowsFull
    else sets.Set))

abbrev pub set_answer : Table → Setting → SetAnswer
set_answer t s = set_answer_of (is_bound s.key t.sessions) (may_accept s.config t.configs) s

-- the session keeps its count
abbrev pub after_setting : SetAnswer → Table → Setting → Table
after_setting sets.Set t s = record { sessions = update s.key (configured s.config) t.sessions; configs = accept s.config t.configs; locals = t.locals }
after_setting sets.RowsFull t s = t
after_setting sets.NoKey t s = t
after_setting sets.NoSuch t s = t

-- ---- a session is closed

-- how many numbers the session of the key has drawn, modulo 2^32
abbrev pub count_of : Option Entry → Option ℕ
count_of None = None
count_of (Some e) = Some (e.count % 2 ^ 32)

-- what was accepted stays so
abbrev pub after_closing : Table → Key → Table
after_closing t k = record { sessions = without k t.sessions; configs = t.configs; locals = t.locals }

-- ---- a datagram arrives

abbrev pub session_of : Table → Datagram → Option Entry
session_of t d = session_for (query_of d.local d.peer d.octets) t.sessions

abbrev pub cause_of : silent.Silent → UnsentCause
cause_of Short = causes.Short
cause_of BadHmac = causes.BadHmac
cause_of NoReply = causes.NoReply

abbrev pub judged_answer : Judged → List Endpoint → Entry → Datagram → Answer
judged_answer (Silent cause) locals e d = Unsent (cause_of cause)
judged_answer Reflect locals e d = Sent (sending locals e d)

abbrev pub arrival_answer : Option Entry → List Endpoint → Datagram → Answer
arrival_answer None locals d = Unsent causes.NoSession
arrival_answer (Some e) locals d = judged_answer (judgement e.key.mode e.config d.octets) locals e d

-- only a datagram that is reflected draws a number
abbrev pub judged_table : Judged → Entry → Table → Table
judged_table (Silent cause) e t = t
judged_table Reflect e t = record { sessions = update e.key raised t.sessions; configs = t.configs; locals = t.locals }

abbrev pub after_arrival : Option Entry → Table → Datagram → Table
after_arrival None t d = t
after_arrival (Some e) t d = judged_table (judgement e.key.mode e.config d.octets) e t

-- ---- any record

unfoldable pub answer : Table → Item → Answer
answer t (Opens o) = Opened (open_answer t o)
answer t (Sets s) = Set (set_answer t s)
answer t (Closes k) = Closed (count_of (session_at k t.sessions))
answer t (Arrives d) = arrival_answer (session_of t d) t.locals d
answer t (Lists ls) = Listed

-- a list of addresses replaces the one before
unfoldable pub after : Table → Item → Table
after t (Opens o) = after_opening (open_answer t o) t o
after t (Sets s) = after_setting (set_answer t s) t s
after t (Closes k) = after_closing t k
after t (Arrives d) = after_arrival (session_of t d) t d
after t (Lists ls) = record { sessions = t.sessions; configs = t.configs; locals = ls }

-- ---- all records, one after the other, from the empty table

unfoldable pub answers_from : Table → List Item → List ℕ
answers_from t [] = []
answers_from t (i ∷ is) = answer_octets (answer t i) ++ answers_from (after t i) is

abbrev pub answers : List Item → List ℕ
answers is = answers_from empty_table is

unfoldable pub table_after : Table → List Item → Table
table_after t [] = t
table_after t (i ∷ is) = table_after (after t i) is
