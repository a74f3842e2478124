-- Calls of the desk between turns: what each leaves of the shared table, and of the rows that are kept.
use Rattle.std.proofs.Common.{◌≡◌, ℕ, zero, suc, Bool, true, false, ◌==◌, if◌then◌else◌, List, [], ◌∷◌, ◌++◌, ◌%◌, ◌^◌, sym, refl, ap, ◌∙◌, subst, Option, Some, None}
use Rattle.refl_types.specs.declared.types.Key.{Key}
use Rattle.refl_types.specs.declared.types.Extra.{Extra}
use Rattle.refl_types.specs.declared.config.ConfigParts.{ConfigParts}
use Rattle.refl_types.specs.declared.outcome.Place.{Place}
use Rattle.refl_types.specs.Same.{same_key}
use Rattle.session_world.specs.declared.steps.TableSize.{TableSize}
use Rattle.session_world.specs.declared.steps.Step.{Step}
use Rattle.session_world.specs.declared.steps.Part.{Part}
use Rattle.session_world.specs.declared.steps.Step.TheVariants.{Split, Join, ReserveNew, ReserveUsed}
use Rattle.session_world.specs.Desk.{config_at, IsComplete}
use Rattle.session_world.specs.Keys.{config_of}
use Rattle.session_world.specs.Answers.{opened, configured, closed, desk_answers}
use Rattle.session_world.specs.History.{Session, reconfigured}
use Rattle.session_world.specs.Runs.{IsDeskOfOneSchedule}
use Rattle.session_world.specs.Rows.{RowsStay}
use Rattle.session_world.specs.OneThread.{IsBetween, HasCalled, CallsTell, NoTurns}
use Rattle.session_table.specs.Knowing.{Places}
use Rattle.session_desk.specs.Writes.{key_writes, row_writes, scans_of, reserve_step}
use Rattle.replay_table.specs.Table.{Entry, is_bound, session_at, with_entry, update, without}
use Rattle.replay_table.specs.Table as table
use Rattle.replay_table.specs.Apart.{AreApart}
use Rattle.shared_replay.specs.Tracks.{entry_for}
use Rattle.shared_replay.specs.Following.{Follows}
use Rattle.shared_replay.specs.Stands.{AreKept}
use Rattle.shared_replay.proofs.EntryFacts.{map_entry, update_entry, with_entry_for, unbound, without_for, entry_of}

-- ---- steps that split and join nobody

pub plain_then : (xs ys : List Step) → NoTurns xs → NoTurns ys → NoTurns (xs ++ ys)
plain_then [] ys p q = q
plain_then (Split worker read ∷ xs) ys p q = absurd p
plain_then (Join worker read ∷ xs) ys p q = absurd p
plain_then (s ∷ xs) ys p q = plain_then xs ys p q

pub plain_keys : (slot : ℕ) (words : List ℕ) (n : ℕ) → NoTurns (key_writes slot words n)
plain_keys slot words zero = tt
plain_keys slot words (suc n) = plain_keys slot words n

pub plain_rows : (row : ℕ) (words : List ℕ) (n : ℕ) → NoTurns (row_writes row words n)
plain_rows row words zero = tt
plain_rows row words (suc n) = plain_rows row words n

pub plain_scans : (n : ℕ) (words : List ℕ) → NoTurns (scans_of n words)
plain_scans zero words = tt
plain_scans (suc n) words = plain_scans n words

pub plain_reserve : (p : Place) (row : ℕ) (xs : List Step) → NoTurns xs → NoTurns (reserve_step p row ∷ xs)
plain_reserve p row xs h = by_test (p.generation == 1) where
  by_test : (b : Bool) → NoTurns ((if b then ReserveNew p.slot row else ReserveUsed p.slot p.generation row) ∷ xs)
  by_test true = h
  by_test false = h

-- ---- calls: `more` are the steps of the call, and `now` and `qs` the desk's list and the parts after it

pub record IsCall (z : TableSize) (ds : List Step) (ps : List Part) (more now : List Step) (qs : List Part) : Type 0 where
  pub plain : NoTurns more
  pub grew : now ≡ more ++ ds
  pub joined : qs ≡ ps
  pub schedule : IsDeskOfOneSchedule z now qs

called : {z : TableSize} {ds : List Step} {ps : List Part} {more now : List Step} {qs : List Part} → CallsTell → IsBetween z ds ps → IsCall z ds ps more now qs → HasCalled z ds ps now
called {z} {ds} {ps} {more} {now} {qs} law between call =
    subst (λ (x : List Step). HasCalled z ds ps x) (sym call.grew)
    (law z ds ps more between call.plain (subst (λ (x : List Step × List Part). IsDeskOfOneSchedule z x.0 x.1) (λ i. (call.grew i, call.joined i)) call.schedule))

pub still_between : {z : TableSize} {ds : List Step} {ps : List Part} {more now : List Step} {qs : List Part} → CallsTell → IsBetween z ds ps → IsCall z ds ps more now qs → IsBetween z now qs
still_between {z} {ds} {ps} {more} {now} {qs} law between call = subst (λ (x : List Part). IsBetween z now x) (sym call.joined) (called law between call).between

follows_parts : {z : TableSize} {now : List Step} {ps qs : List Part} {es : List Entry} → qs ≡ ps → Follows z now ps es → Follows z now qs es
follows_parts {z} {now} {ps} {qs} {es} e h = subst (λ (x : List Part). Follows z now x es) (sym e) h

pub nothing_here : {z : TableSize} {ds : List Step} {ps : List Part} {more now : List Step} {qs : List Part} {es : List Entry} → CallsTell → Follows z ds ps es → IsCall z ds ps more now qs
    → desk_answers now ≡ desk_answers ds → Follows z now qs es
nothing_here law h call e = let x = called law h.between call in follows_parts call.joined (record { between = x.between; tracks = λ k. x.nothing e k ∙ h.tracks k })

pub opened_here : {z : TableSize} {ds : List Step} {ps : List Part} {more now : List Step} {qs : List Part} {es : List Entry} (k : Key) (e : Extra) (c : ConfigParts) (row : ℕ) → CallsTell → Follows z ds ps es → IsCall z ds ps more now qs
    → is_bound k es ≡ false → desk_answers now ≡ opened k e row ∷ desk_answers ds → config_at now row ≡ c
    → Follows z now qs (with_entry (record { key = k; extra = e; config = c; count = 0 }) es)
opened_here {z} {ds} {ps} {more} {now} {qs} {es} k e c row law h call free gave is =
    let x = called law h.between call in
    let a = x.answered (opened k e row) gave in
    let entry : Entry = record { key = k; extra = e; config = c; count = 0 } in
    follows_parts call.joined (record {
      between = x.between;
      tracks = λ j. a.after j
          ∙ ((λ i. if same_key k j then Some (record { extra = e; config = is i; count = 0 }) else h.tracks j i)
          ∙ sym (with_entry_for es entry j (unbound es k free)));
    })

reconfigured_is : (c : ConfigParts) (o : Option (Session ConfigParts)) → reconfigured c o ≡ map_entry (λ b. record b { config = c }) o
reconfigured_is c None = refl
reconfigured_is c (Some b) = refl

pub configured_here : {z : TableSize} {ds : List Step} {ps : List Part} {more now : List Step} {qs : List Part} {es : List Entry} (k : Key) (c : ConfigParts) (row : ℕ) → CallsTell → Follows z ds ps es → IsCall z ds ps more now qs
    → desk_answers now ≡ configured k row ∷ desk_answers ds → config_at now row ≡ c → Follows z now qs (update k (table.configured c) es)
configured_here {z} {ds} {ps} {more} {now} {qs} {es} k c row law h call gave is =
    let x = called law h.between call in
    let a = x.answered (configured k row) gave in
    follows_parts call.joined (record {
      between = x.between;
      tracks = λ j. a.after j
          ∙ ((λ i. if same_key k j then reconfigured (is i) (h.tracks j i) else h.tracks j i)
          ∙ (ap (λ (o : Option (Session ConfigParts)). if same_key k j then o else entry_for j es) (reconfigured_is c (entry_for j es))
          ∙ sym (update_entry k (table.configured c) (λ b. record b { config = c }) (λ d. refl) (λ d. refl) es j)));
    })

-- the count that the closing answers is that of the session, modulo 2 ^ 32
pub closed_here : {z : TableSize} {ds : List Step} {ps : List Part} {more now : List Step} {qs : List Part} {es : List Entry} (k : Key) (n : ℕ) → CallsTell → Follows z ds ps es → IsCall z ds ps more now qs → AreApart es
    → desk_answers now ≡ closed k n ∷ desk_answers ds → ((e : Entry) × (session_at k es ≡ Some e) × (e.count % 2 ^ 32 ≡ n)) × Follows z now qs (without k es)
closed_here {z} {ds} {ps} {more} {now} {qs} {es} k n law h call apart gave =
    let x = called law h.between call in
    let a = x.answered (closed k n) gave in
    let l = a.legal in
    let found = entry_of es k l.0 (sym (h.tracks k) ∙ l.1) in (
      (found.0, found.1, ap (λ (b : Session ConfigParts). b.count % 2 ^ 32) found.2 ∙ l.2),
      follows_parts call.joined (record {
        between = x.between;
        tracks = λ j. a.after j ∙ (ap (λ (o : Option (Session ConfigParts)). if same_key k j then None else o) (h.tracks j) ∙ sym (without_for k es j apart));
      }),
    )

-- ---- rows

row_stays : (z : TableSize) (now more ds : List Step) (qs : List Part) (r : ℕ) → RowsStay → IsDeskOfOneSchedule z now qs → now ≡ more ++ ds → IsComplete ds r → IsComplete now r × (config_at now r ≡ config_at ds r)
row_stays z now more ds qs r law schedule grew whole = let x = law z now more ds qs r schedule grew whole in (x.0, ap config_of x.1)

pub kept_stays : {z : TableSize} {ds : List Step} {ps : List Part} {more now : List Step} {qs : List Part} → RowsStay → IsCall z ds ps more now qs → (known : Places) → AreKept ds known → AreKept now known
kept_stays {z} {ds} {ps} {more} {now} {qs} law call known kept =
    λ config same. kept config (λ r whole. let x = row_stays z now more ds qs r law call.schedule call.grew whole in same r x.0 ∙ x.1)
