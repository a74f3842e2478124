-- The records of a load, one more than before.
use Rattle.std.proofs.Common.{◌≡◌, ℕ, zero, suc, ◌+◌, ◌*◌, ◌≤◌, Bool, List, [], ◌∷◌, ◌++◌, length, ap, ◌∙◌, arith}
use Rattle.std.proofs.lemmas.List.{length-append}
use Rattle.replay_format.specs.Records.{Item, spelling, spellings}
use Rattle.replay_format.specs.Answers.{Answer}
use Rattle.replay_format.proofs.StreamFacts.{spellings-push}
use Rattle.replay_table.specs.Table.{Table}
use Rattle.replay_table.specs.Outcomes.{answer, after, table_after}
use Rattle.load_gen.specs.Generator.{record_of}
use Rattle.load_report.specs.Kinds.{one_if}
use Rattle.load_report.specs.Counting.{records_from, how_many}

pub records_push : (seed i n j : ℕ) → j ≡ i + n → records_from seed i (n + 1) ≡ records_from seed i n ++ record_of seed j ∷ []
unfolding records_from
records_push seed i zero j last =
    let here : i ≡ j = omega (arith, last) in
    ap (λ (k : ℕ). record_of seed k ∷ []) here
records_push seed i (suc n) j last =
    let one : suc n + 1 ≡ suc (n + 1) = omega arith in
    ap (records_from seed i) one ∙ ap (λ (l : List Item). record_of seed i ∷ l) (records_push seed (i + 1) n j (omega (arith, last)))

pub how_many-push : (kind : Answer → Bool) (t : Table) (records : List Item) (item : Item) → how_many kind t (records ++ item ∷ []) ≡ how_many kind t records + one_if (kind (answer (table_after t records) item))
unfolding how_many table_after
how_many-push kind t [] item = omega arith
how_many-push kind t (r ∷ rs) item = let rest = how_many-push kind (after t r) rs item in omega (arith, rest)

pub spelled_more : (records : List Item) (item : Item) (i : ℕ) → length (spellings records) ≤ 256 * i → length (spelling item) ≤ 256 → length (spellings (records ++ item ∷ [])) ≤ 256 * (i + 1)
spelled_more records item i short one = omega (arith, short, one, ap length (spellings-push records item), length-append (spellings records) (spelling item))
