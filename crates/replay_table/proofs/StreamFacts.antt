-- What one record more leaves, and what all are answered then.
use Rattle.std.proofs.Common.{◌≡◌, ℕ, List, [], ◌∷◌, ◌++◌, refl, sym, ap, ◌∙◌, append_assoc}
use Rattle.std.proofs.lemmas.List.{append-nil}
use Rattle.replay_format.specs.Records.{Item}
use Rattle.replay_format.specs.Answers.{answer_octets}
use Rattle.replay_table.specs.Table.{Table}
use Rattle.replay_table.specs.Outcomes.{answer, after, answers_from, table_after}

pub table_after-push : (t : Table) (records : List Item) (item : Item) → table_after t (records ++ item ∷ []) ≡ after (table_after t records) item
unfolding table_after
table_after-push t [] item = refl
table_after-push t (r ∷ rs) item = table_after-push (after t r) rs item

pub answers_from-push : (t : Table) (records : List Item) (item : Item) → answers_from t (records ++ item ∷ []) ≡ answers_from t records ++ answer_octets (answer (table_after t records) item)
unfolding answers_from table_after
answers_from-push t [] item = append-nil (answer_octets (answer t item))
answers_from-push t (r ∷ rs) item = ap (λ (l : List ℕ). answer_octets (answer t r) ++ l) (answers_from-push (after t r) rs item) ∙ sym (append_assoc (answer_octets (answer t r)) (answers_from (after t r) rs) (answer_octets (answer (table_after (after t r) rs) item)))
