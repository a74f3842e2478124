-- The octets of a stream with one record more.
use Rattle.std.proofs.Common.{◌≡◌, List, [], ◌∷◌, ◌++◌, sym, ap, ◌∙◌, append_assoc, ℕ}
use Rattle.std.proofs.lemmas.List.{append-nil}
use Rattle.std.proofs.lemmas.List.Concat.{flat_map-cons}
use Rattle.replay_format.specs.Records.{Item, spelling, spellings}

pub spellings-cons : (r : Item) (rs : List Item) → spellings (r ∷ rs) ≡ spelling r ++ spellings rs
spellings-cons r rs = flat_map-cons spelling r rs

pub spellings-push : (records : List Item) (item : Item) → spellings (records ++ item ∷ []) ≡ spellings records ++ spelling item
spellings-push [] item = spellings-cons item [] ∙ append-nil (spelling item)
spellings-push (r ∷ rs) item =
    spellings-cons r (rs ++ item ∷ []) ∙ ap (λ (l : List ℕ). spelling r ++ l) (spellings-push rs item) ∙ sym (append_assoc (spelling r) (spellings rs) (spelling item)) ∙ ap (λ (l : List ℕ). l ++ spelling item) (sym (spellings-cons r rs))
