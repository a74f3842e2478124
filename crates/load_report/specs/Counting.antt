-- How the records of a generated load are answered, in numbers (this project's own).
use Rattle.std.specs.Prelude.{ℕ, zero, suc, ◌+◌, Bool, List, [], ◌∷◌, length}
use Rattle.replay_format.specs.Records.{Item}
use Rattle.replay_format.specs.Answers.{Answer, answer_octets}
use Rattle.replay_table.specs.Table.{Table, empty_table}
use Rattle.replay_table.specs.Outcomes.{answer, after, answers}
use Rattle.load_gen.specs.Generator.{openings, record_of}
use Rattle.load_report.specs.Kinds.{is_sent, lacks_session, one_if}
use Rattle.load_report.specs.declared.counting.Counts.{Counts}

-- ---- the records

-- so many, from an index on
unfoldable pub records_from : ℕ → ℕ → ℕ → List Item
records_from seed i zero = []
records_from seed i (suc n) = record_of seed i ∷ records_from seed (i + 1) n

-- all: the openings, and behind them so many datagrams
abbrev pub load : ℕ → ℕ → List Item
load seed count = records_from seed 0 (openings + count)

-- ---- how many

-- the answers of a kind to these records, one after the other from a table
unfoldable pub how_many : (Answer → Bool) → Table → List Item → ℕ
how_many kind t [] = 0
how_many kind t (i ∷ is) = one_if (kind (answer t i)) + how_many kind (after t i) is

-- of all answers to a load: replies, datagrams without a session, and octets
unfoldable pub counts_of : ℕ → ℕ → Counts
counts_of seed count = record {
  sent = how_many is_sent empty_table (load seed count);
  no_session = how_many lacks_session empty_table (load seed count);
  octets = length (answers (load seed count));
}

-- one answer more
abbrev pub counted : Counts → Answer → Counts
counted c a = record {
  sent = c.sent + one_if (is_sent a);
  no_session = c.no_session + one_if (lacks_session a);
  octets = c.octets + length (answer_octets a);
}
