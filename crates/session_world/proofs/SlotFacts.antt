-- What the desk's own list says of slots that are reserved or open.
use Rattle.std.proofs.Common.{◌≡◌, ◌≢◌, ◌⊎◌, inl, inr, ⊎_elim, ℕ, ◌==◌, true, false, ◌&&◌, not, List, [], ◌∷◌, sym, refl, ap, ◌∙◌, subst, eq-eqb, ne_eqb}
use Rattle.std.proofs.lemmas.Bool.{eqb-true}
use Rattle.session_key.specs.Matching.{excludes}
use Rattle.session_world.specs.declared.steps.TableSize.{TableSize}
use Rattle.session_world.specs.declared.steps.Step.{Step}
use Rattle.session_world.specs.declared.steps.Step.TheVariants.{WriteKey, ReserveNew, Start, Reconfigure, Close, Expire, ReserveUsed}
use Rattle.session_world.specs.Keys.{Key, IsKey, is_auth, has_key}
use Rattle.session_world.specs.Desk.{is_open, generation_of, row_of, key_word_of, key_of_slot, is_reserved, IsComplete, KeyedFor, MayReuse, HasPath, start_of_key}
use Rattle.session_world.specs.Allowed.{DeskDid, MayReserve, DeskMay}
use Rattle.session_world.proofs.BoolFacts.{true_ne_false, both, either_of, not_equal, number_case}
use Rattle.session_world.proofs.KeyFacts.{key_of_same, is_key_same, excludes_turn}
use Rattle.session_world.proofs.DeskFacts.{still_used, open_used, reserved_used, row_complete, config_kept}

abbrev pub InUse : List Step → ℕ → Type 0
InUse ds i = (is_reserved ds i ≡ true) ⊎ (is_open ds i ≡ true)

-- what is in use after a step was so before, or is reserved by it. Its key words stay
abbrev pub WasInUse : TableSize → List Step → Step → ℕ → Type 0
WasInUse z ds s i = (InUse ds i ⊎ ((row : ℕ) × MayReserve z ds i row)) × ((k : ℕ) → key_word_of (s ∷ ds) i k ≡ key_word_of ds i k)

written_closed : (z : TableSize) (ds : List Step) (slot index word i : ℕ) → DeskDid z ds → DeskMay z ds (WriteKey slot index word) → is_open ds i ≡ true → i ≢ slot
written_closed z ds slot index word i did may o = λ e. ⊎_elim
    (λ (g : generation_of ds slot ≡ 0). open_used z ds did i o (ap (generation_of ds) e ∙ g))
    (λ (m : MayReuse z ds slot). true_ne_false (sym o ∙ (ap (is_open ds) e ∙ m.closed)))
    may.3

pub in_use_was : (z : TableSize) (ds : List Step) (s : Step) → DeskDid z ds → DeskMay z ds s → (i : ℕ) → InUse (s ∷ ds) i → WasInUse z ds s i
in_use_was z ds (ReserveNew slot row) did may i (inl r) = ⊎_elim
    (λ (x : (i == slot) ≡ true). (inr (row, subst (λ (j : ℕ). MayReserve z ds j row) (sym (eqb-true i slot x)) may.1), λ k. refl))
    (λ (x : is_reserved ds i ≡ true). (inl (inl x), λ k. refl))
    (either_of (i == slot) (is_reserved ds i) r)
in_use_was z ds (ReserveUsed slot g row) did may i (inl r) = ⊎_elim
    (λ (x : (i == slot) ≡ true). (inr (row, subst (λ (j : ℕ). MayReserve z ds j row) (sym (eqb-true i slot x)) may.2), λ k. refl))
    (λ (x : is_reserved ds i ≡ true). (inl (inl x), λ k. refl))
    (either_of (i == slot) (is_reserved ds i) r)
in_use_was z ds (WriteKey slot index word) did may i (inl r) = let b = both (not (i == slot)) (is_reserved ds i) r in (inl (inl b.1), λ k. rw (ne_eqb i slot (not_equal i slot b.0)) refl)
in_use_was z ds (WriteKey slot index word) did may i (inr o) = (inl (inr o), λ k. rw (ne_eqb i slot (written_closed z ds slot index word i did may o)) refl)
in_use_was z ds (Start slot read) did may i (inl r) = (inl (inl (both (not (i == slot)) (is_reserved ds i) r).1), λ k. refl)
in_use_was z ds (Start slot read) did may i (inr o) = ⊎_elim
    (λ (x : (i == slot) ≡ true). (inl (inl (ap (is_reserved ds) (eqb-true i slot x) ∙ may.1)), λ k. refl))
    (λ (x : is_open ds i ≡ true). (inl (inr x), λ k. refl))
    (either_of (i == slot) (is_open ds i) o)
in_use_was z ds (Close slot read) did may i (inr o) = (inl (inr (both (not (i == slot)) (is_open ds i) o).1), λ k. refl)
in_use_was z ds (Expire slot expected read) did may i (inr o) = (inl (inr (both (not ((i == slot) && (read == expected))) (is_open ds i) o).1), λ k. refl)
in_use_was z ds _ did may i (inl r) = (inl (inl r), λ k. refl)
in_use_was z ds _ did may i (inr o) = (inl (inr o), λ k. refl)

pub use_sound : (z : TableSize) (ds : List Step) → DeskDid z ds → (i : ℕ) → InUse ds i → IsKey (key_word_of ds i)
use_sound z [] did i (inl r) = absurd (true_ne_false (sym r))
use_sound z [] did i (inr o) = absurd (true_ne_false (sym o))
use_sound z (s ∷ ds) did i u = let x = in_use_was z ds s did.0 did.1 i u in is_key_same (key_word_of ds i) (key_word_of (s ∷ ds) i) (λ k lo hi. sym (x.1 k))
    (⊎_elim (λ (v : InUse ds i). use_sound z ds did.0 i v) (λ (m : (row : ℕ) × MayReserve z ds i row). m.1.sound) x.0)

-- a slot in use keeps its key
pub use_key : (z : TableSize) (ds : List Step) (s : Step) → DeskDid z ds → DeskMay z ds s → (i : ℕ) → InUse (s ∷ ds) i → key_of_slot (s ∷ ds) i ≡ key_of_slot ds i
use_key z ds s did may i u = key_of_same (key_word_of (s ∷ ds) i) (key_word_of ds i) (λ k lo hi. (in_use_was z ds s did may i u).1 k)

pub use_path : (z : TableSize) (ds : List Step) → DeskDid z ds → (i : ℕ) → InUse ds i → HasPath z ds (start_of_key z (key_of_slot ds i)) i
use_path z [] did i (inl r) = absurd (true_ne_false (sym r))
use_path z [] did i (inr o) = absurd (true_ne_false (sym o))
use_path z (s ∷ ds) did i u = let x = in_use_was z ds s did.0 did.1 i u in
    let before : HasPath z ds (start_of_key z (key_of_slot ds i)) i = ⊎_elim (λ (v : InUse ds i). use_path z ds did.0 i v) (λ (m : (row : ℕ) × MayReserve z ds i row). m.1.path) x.0 in
    subst (λ (k : Key). HasPath z (s ∷ ds) (start_of_key z k) i) (sym (use_key z ds s did.0 did.1 i u)) (λ j lt d. still_used z ds s did.1 j (before j lt d))

-- ---- open slots

pub record MayStart (ds : List Step) (i : ℕ) : Type 0 where
  pub reserved : is_reserved ds i ≡ true
  pub alone : (j : ℕ) → is_open ds j ≡ true → excludes (key_of_slot ds j) (key_of_slot ds i) ≡ false
  pub keyed : KeyedFor ds i (row_of ds i)

pub slot_started : Step → ℕ
slot_started (Start slot read) = slot
slot_started _ = 0

-- what is open after a step was so before, or is started by it
pub open_was : (z : TableSize) (ds : List Step) (s : Step) → DeskMay z ds s → (i : ℕ) → is_open (s ∷ ds) i ≡ true → (is_open ds i ≡ true) ⊎ ((slot_started s ≡ i) × MayStart ds i)
unfolding slot_started
open_was z ds (Start slot read) may i o = ⊎_elim
    (λ (x : (i == slot) ≡ true). let e : slot ≡ i = sym (eqb-true i slot x) in inr (e, subst (λ (j : ℕ). MayStart ds j) e (record { reserved = may.1; alone = may.2; keyed = may.3 })))
    (λ (x : is_open ds i ≡ true). inl x)
    (either_of (i == slot) (is_open ds i) o)
open_was z ds (Close slot read) may i o = inl (both (not (i == slot)) (is_open ds i) o).1
open_was z ds (Expire slot expected read) may i o = inl (both (not ((i == slot) && (read == expected))) (is_open ds i) o).1
open_was z ds _ may i o = inl o

-- the keys of two open slots don't exclude each other
pub open_alone : (z : TableSize) (ds : List Step) → DeskDid z ds → (i j : ℕ) → is_open ds i ≡ true → is_open ds j ≡ true → excludes (key_of_slot ds i) (key_of_slot ds j) ≡ true → i ≡ j
open_alone z [] did i j oi oj x = absurd (true_ne_false (sym oi))
open_alone z (s ∷ ds) did i j oi oj x =
    let ki = use_key z ds s did.0 did.1 i (inr oi) in let kj = use_key z ds s did.0 did.1 j (inr oj) in
    let before : excludes (key_of_slot ds i) (key_of_slot ds j) ≡ true = (λ n. excludes (sym ki n) (sym kj n)) ∙ x in ⊎_elim
    (λ (a : is_open ds i ≡ true). ⊎_elim
    (λ (b : is_open ds j ≡ true). open_alone z ds did.0 i j a b before)
    (λ (b : (slot_started s ≡ j) × MayStart ds j). absurd (true_ne_false (sym before ∙ b.1.alone i a)))
    (open_was z ds s did.1 j oj))
    (λ (a : (slot_started s ≡ i) × MayStart ds i). ⊎_elim
    (λ (b : is_open ds j ≡ true). absurd (true_ne_false (sym (excludes_turn (key_of_slot ds i) (key_of_slot ds j) before) ∙ a.1.alone j b)))
    (λ (b : (slot_started s ≡ j) × MayStart ds j). sym a.0 ∙ b.0)
    (open_was z ds s did.1 j oj))
    (open_was z ds s did.1 i oi)

-- an open slot's row is that of before, or one that was exchanged for it
row_was : (z : TableSize) (ds : List Step) (s : Step) → DeskDid z ds → DeskMay z ds s → (i : ℕ) → is_open (s ∷ ds) i ≡ true → (¬ (generation_of ds i ≡ 0)) → KeyedFor ds i (row_of ds i) → KeyedFor ds i (row_of (s ∷ ds) i) × IsComplete ds (row_of (s ∷ ds) i)
row_was z ds (ReserveNew slot row) did may i o n f = let x : i ≢ slot = λ e. n (ap (generation_of ds) e ∙ may.0) in rw (ne_eqb i slot x) (f, row_complete z ds did i n)
row_was z ds (ReserveUsed slot g row) did may i o n f = let x : i ≢ slot = λ e. true_ne_false (sym o ∙ (ap (is_open ds) e ∙ may.1.closed)) in rw (ne_eqb i slot x) (f, row_complete z ds did i n)
row_was z ds (Reconfigure slot old new read) did may i o n f = number_case i slot
    (λ (x : i ≡ slot). rw (eq-eqb i slot x) (subst (λ (j : ℕ). KeyedFor ds j new) (sym x) may.3, may.2))
    (λ (x : i ≢ slot). rw (ne_eqb i slot x) (f, row_complete z ds did i n))
row_was z ds _ did may i o n f = (f, row_complete z ds did i n)

was_used : (z : TableSize) (ds : List Step) (s : Step) → DeskDid z ds → (i : ℕ) → (is_open ds i ≡ true) ⊎ ((slot_started s ≡ i) × MayStart ds i) → ¬ (generation_of ds i ≡ 0)
was_used z ds s did i (inl o) = open_used z ds did i o
was_used z ds s did i (inr m) = reserved_used z ds did i m.1.reserved

-- in mode Auth the configuration of an open slot's row has an HMAC key
pub open_keyed : (z : TableSize) (ds : List Step) → DeskDid z ds → (i : ℕ) → is_open ds i ≡ true → KeyedFor ds i (row_of ds i)
open_keyed z [] did i o = absurd (true_ne_false (sym o))
open_keyed z (s ∷ ds) did i o = let w = open_was z ds s did.1 i o in
    let before : KeyedFor ds i (row_of ds i) = ⊎_elim (λ (a : is_open ds i ≡ true). open_keyed z ds did.0 i a) (λ (b : (slot_started s ≡ i) × MayStart ds i). b.1.keyed) w in
    let x = row_was z ds s did.0 did.1 i o (was_used z ds s did.0 i w) before in
    λ auth. ap has_key (config_kept z ds s did.1 (row_of (s ∷ ds) i) x.1) ∙ x.0 (ap is_auth (sym (use_key z ds s did.0 did.1 i (inr o))) ∙ auth)
