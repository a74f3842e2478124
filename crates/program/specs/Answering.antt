-- The answer to one record more, whatever the records so far.
use Rattle.std.specs.Prelude.{ℕ, ◌≡◌, List, [], ◌∷◌, ◌++◌}
use Rattle.replay_format.specs.Records.{Item}
use Rattle.replay_format.specs.Answers.{answer_octets}
use Rattle.replay_table.specs.Table.{empty_table}
use Rattle.replay_table.specs.Outcomes.{answer, table_after}
use Rattle.shared_replay.specs.Stands.{Kept, Stands, AreWithin}

-- it stands behind these octets, and the sessions are those after the record
abbrev pub AnswersBehind : Item → List ℕ → List ℕ → Kept → Kept → Type 0
AnswersBehind item octets octets' sessions sessions' =
    (records : List Item) → Stands sessions records → AreWithin records
    → (octets' ≡ octets ++ answer_octets (answer (table_after empty_table records) item)) × Stands sessions' (records ++ item ∷ [])
