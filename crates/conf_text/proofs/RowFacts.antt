-- One more configuration in use.
use Rattle.std.proofs.Common.{◌≡◌, ℕ, suc, ◌+◌, ◌<◌, Bool, true, false, ◌||◌, if◌then◌else◌, List, [], ◌∷◌, ◌++◌, length, map, get_or, drop, drop-cons, length-append, refl, ap, sym, ◌∙◌, arith}
use Rattle.std.specs.List.{list_any}
use Rattle.std.proofs.lemmas.List.{drop_more}
use Rattle.std.proofs.lemmas.List.Folds.{list_any-append}
use Rattle.refl_types.specs.declared.config.ConfigParts.{ConfigParts}
use Rattle.refl_types.specs.Same.{same_config}
use Rattle.refl_types.proofs.SameFacts.{config_same, same_config-refl}
use Rattle.conf_text.specs.declared.sessions.Provided.{Provided}
use Rattle.conf_text.specs.Rows.{distinct, session_configs, Keeps}

pub same_config-is : (b : Bool) (c d : ConfigParts) → (b ≡ true → c ≡ d) → (b ≡ false → c ≡ d → ⊥) → b ≡ same_config c d
same_config-is true c d same differs = sym (ap (same_config c) (sym (same refl)) ∙ same_config-refl c)
same_config-is false c d same differs = by (same_config c d) refl
  where
    by : (t : Bool) → same_config c d ≡ t → false ≡ t
    by false e = refl
    by true e = absurd (differs refl (config_same c d e))

choose : Bool → ConfigParts → List ConfigParts → List ConfigParts
choose b c cs = if b then distinct cs else c ∷ distinct cs

distinct-among : (c : ConfigParts) (cs : List ConfigParts) → list_any (same_config c) cs ≡ true → distinct (c ∷ cs) ≡ distinct cs
unfolding distinct choose
distinct-among c cs among = ap (λ b. choose b c cs) among

distinct-new : (c : ConfigParts) (cs : List ConfigParts) → list_any (same_config c) cs ≡ false → distinct (c ∷ cs) ≡ c ∷ distinct cs
unfolding distinct choose
distinct-new c cs new = ap (λ b. choose b c cs) new

or_absorbs : (a b : Bool) → (a ≡ true → b ≡ true) → b ≡ (a || b)
or_absorbs true b f = f refl
or_absorbs false b f = refl

or_swap : (a b : Bool) → (b || (a || false)) ≡ (a || b)
or_swap true true = refl
or_swap true false = refl
or_swap false true = refl
or_swap false false = refl

pub kept-among : (kept cs : List ConfigParts) (c : ConfigParts) → Keeps kept cs → list_any (same_config c) kept ≡ true → Keeps kept (c ∷ cs)
kept-among kept cs c keeps among =
    let in_cs : list_any (same_config c) cs ≡ true = sym (keeps.same c) ∙ among in
    record {
      count = keeps.count ∙ sym (ap length (distinct-among c cs in_cs));
      same = λ d. keeps.same d ∙ or_absorbs (same_config d c) (list_any (same_config d) cs) (λ e. ap (λ x. list_any (same_config x) cs) (config_same d c e) ∙ in_cs);
    }

pub kept-new : (kept cs : List ConfigParts) (c : ConfigParts) → Keeps kept cs → list_any (same_config c) kept ≡ false → Keeps (kept ++ c ∷ []) (c ∷ cs)
kept-new kept cs c keeps new =
    let in_cs : list_any (same_config c) cs ≡ false = sym (keeps.same c) ∙ new in
    record {
      count = length-append kept (c ∷ []) ∙ count keeps.count ∙ sym (ap length (distinct-new c cs in_cs));
      same = λ d. list_any-append (same_config d) kept (c ∷ []) ∙ ap (λ b. b || (same_config d c || false)) (keeps.same d) ∙ or_swap (same_config d c) (list_any (same_config d) cs);
    }
  where
    count : length kept ≡ length (distinct cs) → length kept + 1 ≡ suc (length (distinct cs))
    count e = omega (arith, e)

pub none-kept : Keeps [] []
unfolding distinct
none-kept = record { count = refl; same = λ c. refl }

pub configs-step : (sessions : List Provided) (i : ℕ) (s : Provided) → i < length sessions → session_configs (drop i sessions) ≡ (get_or sessions i s).config ∷ session_configs (drop (i + 1) sessions)
configs-step sessions i s inside = ap session_configs (drop_more sessions i s inside)
