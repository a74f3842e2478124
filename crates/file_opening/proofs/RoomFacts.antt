-- Rows: there is one for each configuration that the file uses.
use Rattle.std.proofs.Common.{◌≡◌, ⊎_elim, ℕ, suc, ◌-◌, ◌≤◌, true, false, ◌||◌, List, [], ◌∷◌, ◌++◌, length, Some, sym, ap, ◌∙◌, subst, arith}
use Rattle.std.specs.List.{list_any, slice_get}
use Rattle.std.proofs.lemmas.List.Folds.{list_any-append}
use Rattle.refl_types.specs.declared.config.ConfigParts.{ConfigParts}
use Rattle.refl_types.specs.Same.{same_config}
use Rattle.refl_types.specs.Spelling.{FitsConfig}
use Rattle.refl_types.proofs.SameFacts.{config_same}
use Rattle.config_rows.specs.Rows.{Rows, IsRow, IsNext, HasNoRow, IsSought}
use Rattle.config_rows.specs.declared.book.Sought.TheVariants.{RowsFull}
use Rattle.config_rows.specs.Words.{row_words}
use Rattle.session_world.specs.declared.steps.Step.{Step}
use Rattle.session_desk.specs.Writes.{row_writes, HasRow}
use Rattle.session_desk.proofs.BoolFacts.{bool, true_ne_false, either_of}
use Rattle.conf_text.specs.Rows.{distinct}
use Rattle.file_opening.specs.OpenedFirst.{AreOnce}
use Rattle.file_opening.proofs.OnceFacts.{no_more, once_more}

row_among : (c : ConfigParts) (xs : List ConfigParts) → list_any (same_config c) xs ≡ true → (k : ℕ) × (slice_get xs k ≡ Some c)
row_among c [] h = absurd (true_ne_false (sym h))
row_among c (x ∷ xs) h = ⊎_elim
    (λ (here : same_config c x ≡ true). (0, ap (λ (d : ConfigParts). Some d) (sym (config_same c x here))))
    (λ (later : list_any (same_config c) xs ≡ true). let r = row_among c xs later in (suc r.0, r.1))
    (either_of (same_config c x) _ h)

new_row : (rows : Rows) (c : ConfigParts) → HasNoRow rows c → list_any (same_config c) rows.configs ≡ false
new_row rows c none = ⊎_elim
    (λ (some : list_any (same_config c) rows.configs ≡ true). let r = row_among c rows.configs some in let k : suc r.0 - 1 ≡ r.0 = omega arith in absurd (none (suc r.0) (omega arith, ap (slice_get rows.configs) k ∙ r.1)))
    (λ (e : list_any (same_config c) rows.configs ≡ false). e)
    (bool (list_any (same_config c) rows.configs))

pub has_room : (rows : Rows) (c : ConfigParts) (uses : List ConfigParts) → AreOnce rows.configs
    → ((d : ConfigParts) → list_any (same_config d) rows.configs ≡ true → list_any (same_config d) uses ≡ true)
    → list_any (same_config c) uses ≡ true → length (distinct uses) ≤ rows.limit → IsSought rows c RowsFull → ⊥
has_room rows c uses once used is fits full =
    let none = new_row rows c full.0 in
    let more : length (c ∷ rows.configs) ≤ length (distinct uses) = no_more uses (c ∷ rows.configs) (none, once) (λ d some. ⊎_elim
    (λ (same : same_config d c ≡ true). ap (λ (x : ConfigParts). list_any (same_config x) uses) (config_same d c same) ∙ is)
    (λ (later : list_any (same_config d) rows.configs ≡ true). used d later)
    (either_of (same_config d c) _ some)) in
    let count = full.1 in omega (arith, more, fits, count)

pub once_after : (rows rows' : Rows) (c : ConfigParts) (row : ℕ) (made : List Step) → HasRow rows rows' c row made → AreOnce rows.configs → AreOnce rows'.configs
once_after rows rows' c row made h once = ⊎_elim
    (λ (k : (IsRow rows c row) × (rows' ≡ rows) × (made ≡ [])). subst (λ (r : Rows). AreOnce r.configs) (sym k.1) once)
    (λ (k : (IsNext rows c row) × (rows' ≡ record { configs = rows.configs ++ c ∷ []; limit = rows.limit }) × (made ≡ row_writes row (row_words c) 12) × FitsConfig c).
    subst (λ (r : Rows). AreOnce r.configs) (sym k.1) (once_more rows.configs c once (new_row rows c k.0.0)))
    h

pub used_after : (rows rows' : Rows) (c : ConfigParts) (row : ℕ) (made : List Step) (uses : List ConfigParts) → HasRow rows rows' c row made
    → ((d : ConfigParts) → list_any (same_config d) rows.configs ≡ true → list_any (same_config d) uses ≡ true)
    → list_any (same_config c) uses ≡ true → (d : ConfigParts) → list_any (same_config d) rows'.configs ≡ true → list_any (same_config d) uses ≡ true
used_after rows rows' c row made uses h used is d some = ⊎_elim
    (λ (k : (IsRow rows c row) × (rows' ≡ rows) × (made ≡ [])). used d (ap (λ (r : Rows). list_any (same_config d) r.configs) (sym k.1) ∙ some))
    (λ (k : (IsNext rows c row) × (rows' ≡ record { configs = rows.configs ++ c ∷ []; limit = rows.limit }) × (made ≡ row_writes row (row_words c) 12) × FitsConfig c).
    ⊎_elim
    (λ (old : list_any (same_config d) rows.configs ≡ true). used d old)
    (λ (last : (same_config d c || false) ≡ true). ⊎_elim
    (λ (same : same_config d c ≡ true). ap (λ (x : ConfigParts). list_any (same_config x) uses) (config_same d c same) ∙ is)
    (λ (no : false ≡ true). absurd (true_ne_false (sym no)))
    (either_of (same_config d c) false last))
    (either_of (list_any (same_config d) rows.configs) (same_config d c || false) (sym (list_any-append (same_config d) rows.configs (c ∷ [])) ∙ ap (λ (r : Rows). list_any (same_config d) r.configs) (sym k.1) ∙ some)))
    h
