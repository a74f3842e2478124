-- A reserve and a start use no slot but their own.
use Rattle.std.proofs.Common.{◌≡◌, ◌≢◌, ⊎_elim, ℕ, zero, suc, ◌==◌, true, false, List, [], ◌∷◌, ◌++◌, refl, ap, ◌∙◌, ne_eqb, append_assoc}
use Rattle.refl_types.specs.declared.types.Key.{Key}
use Rattle.refl_types.specs.declared.types.Extra.{Extra}
use Rattle.refl_types.specs.declared.config.ConfigParts.{ConfigParts}
use Rattle.refl_types.specs.declared.outcome.Place.{Place}
use Rattle.refl_types.specs.Spelling.{FitsConfig}
use Rattle.config_rows.specs.Rows.{Rows, IsRow, IsNext}
use Rattle.config_rows.specs.Words.{row_words}
use Rattle.session_key.specs.Words.{key_words}
use Rattle.session_world.specs.declared.steps.Step.{Step}
use Rattle.session_world.specs.Desk.{generation_of}
use Rattle.session_rule.specs.declared.seats.Table.{Table}
use Rattle.session_desk.specs.Book.{Book, steps_of}
use Rattle.session_desk.specs.Writes.{key_writes, row_writes, scans_of, reserve_step, HasRow}
use Rattle.session_desk.specs.Calls.{HasReserved, HasStarted}
use Rattle.session_desk.proofs.BoolFacts.{bool}

of_keys : (slot : ℕ) (words : List ℕ) (n : ℕ) (ds : List Step) (i : ℕ) → generation_of (key_writes slot words n ++ ds) i ≡ generation_of ds i
of_keys slot words zero ds i = refl
of_keys slot words (suc n) ds i = of_keys slot words n ds i

of_rows : (row : ℕ) (words : List ℕ) (n : ℕ) (ds : List Step) (i : ℕ) → generation_of (row_writes row words n ++ ds) i ≡ generation_of ds i
of_rows row words zero ds i = refl
of_rows row words (suc n) ds i = of_rows row words n ds i

of_scans : (n : ℕ) (words : List ℕ) (ds : List Step) (i : ℕ) → generation_of (scans_of n words ++ ds) i ≡ generation_of ds i
of_scans zero words ds i = refl
of_scans (suc n) words ds i = of_scans n words ds i

pub of_made : (rows rows' : Rows) (c : ConfigParts) (row : ℕ) (made : List Step) (ds : List Step) (i : ℕ) → HasRow rows rows' c row made → generation_of (made ++ ds) i ≡ generation_of ds i
of_made rows rows' c row made ds i h = ⊎_elim
    (λ (k : (IsRow rows c row) × (rows' ≡ rows) × (made ≡ [])). ap (λ (xs : List Step). generation_of (xs ++ ds) i) k.2)
    (λ (k : (IsNext rows c row) × (rows' ≡ record { configs = rows.configs ++ c ∷ []; limit = rows.limit }) × (made ≡ row_writes row (row_words c) 12) × FitsConfig c).
    ap (λ (xs : List Step). generation_of (xs ++ ds) i) k.2 ∙ of_rows row (row_words c) 12 ds i)
    h

of_reserve : (p : Place) (row : ℕ) (ds : List Step) (i : ℕ) → i ≢ p.slot → generation_of (reserve_step p row ∷ ds) i ≡ generation_of ds i
of_reserve p row ds i n = ⊎_elim
    (λ (e : (p.generation == 1) ≡ true). rw e (rw (ne_eqb i p.slot n) refl))
    (λ (e : (p.generation == 1) ≡ false). rw e (rw (ne_eqb i p.slot n) refl))
    (bool (p.generation == 1))

pub of_other : (t : Table) (b r s : Book) (k : Key) (x : Extra) (c : ConfigParts) (wait : ℕ) (p : Place) (now i : ℕ) → HasReserved t b k x c wait p r → HasStarted t r p now s → i ≢ p.slot
    → generation_of (steps_of s) i ≡ generation_of (steps_of b) i
of_other t b r s k x c wait p now i m n other =
    let scans = scans_of b.size.workers m.words in let keys = key_writes p.slot (key_words k x) 4 in
    ap (λ (ds : List Step). generation_of ds i) n.made.step ∙ ap (λ (ds : List Step). generation_of ds i) m.added.steps
    ∙ of_reserve p m.row ((keys ++ (m.made ++ scans)) ++ steps_of b) i other
    ∙ ap (λ (ds : List Step). generation_of ds i) (append_assoc keys (m.made ++ scans) (steps_of b)) ∙ of_keys p.slot (key_words k x) 4 ((m.made ++ scans) ++ steps_of b) i
    ∙ ap (λ (ds : List Step). generation_of ds i) (append_assoc m.made scans (steps_of b)) ∙ of_made b.rows r.rows c m.row m.made (scans ++ steps_of b) i m.kept
    ∙ of_scans b.size.workers m.words (steps_of b) i
