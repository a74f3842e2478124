-- The sessions that are read can be opened, one beside the other.
use Rattle.std.proofs.Common.{◌≡◌, ℕ, zero, suc, ◌+◌, ◌-◌, ◌*◌, ◌<◌, ◌≤◌, Bool, true, false, not, ◌||◌, if◌then◌else◌, min, List, [], ◌∷◌, ◌++◌, length, get_or, codes, Result, Ok, Err, Option, Some, None, length-append, refl, ap, sym, subst, ◌∙◌, arith}
use Rattle.std.specs.List.{list_any, AllPairs, All}
use Rattle.std.proofs.lemmas.List.Elements.{All-push}
use Rattle.std.proofs.lemmas.List.Quantifiers.{all_pairs_push}
use Rattle.std.proofs.lemmas.Bool.{not-true, not-false, or_parts}
use Rattle.toml.specs.Data.{Data, Items, Members, get_member}
use Rattle.refl_types.specs.declared.types.Mode.TheVariants.{Plain}
use Rattle.refl_types.specs.Keys.{is_sound}
use Rattle.session_key.specs.Matching.{excludes}
use Rattle.text_forms.specs.Endpoints.{endpoint_from}
use Rattle.conf_text.specs.declared.configs.Named.{Named}
use Rattle.conf_text.specs.declared.sessions.Provided.{Provided}
use Rattle.conf_text.specs.Faults.{Fault, BadValue, within, ◌>>=◌}
use Rattle.conf_text.specs.Tables.{known_keys, needed, number_at, flag_at, text_of, list_of, table_of, or_default, required, counted, items_len, places}
use Rattle.conf_text.specs.Configs.{config_from}
use Rattle.conf_text.specs.Sessions.{session_keys, mode_from, nanoseconds, values_of, values_at, lacks_key, is_excluded, is_refused, session_of, sessions_of}
use Rattle.conf_text.specs.Sound.{AreApart, IsOpenable}
use Rattle.conf_text.proofs.Binds.{bind-ok, ok-is, counted-is, places-keep, number_at-range, within-ok}
use Rattle.conf_text.proofs.LocalFacts.{none-at}

module _ (locals : ℕ) (configs : List Named) (some_local : 1 ≤ locals) where
  record HasRanges (s : Provided) : Type 0 where
    local : s.key.local < locals
    wait : s.wait ≤ 31536000000000000

  values-ranges : (t : Members) (s : Provided) → values_of locals configs t ≡ Ok s → HasRanges s
  unfolding values_of
  values-ranges t s is =
      bind-ok (known_keys session_keys t) _ _ is (λ u0 is0 m0.
      bind-ok (needed (codes "peer") (get_member (codes "peer") t)) _ _ m0 (λ u1 is1 m1.
      bind-ok (needed (codes "config") (get_member (codes "config") t)) _ _ m1 (λ u2 is2 m2.
      bind-ok (number_at (codes "local") 0 (locals - 1) 0 t) _ _ m2 (λ local local-is m3.
      bind-ok (required (text_of endpoint_from (codes "peer")) (codes "peer") (get_member (codes "peer") t)) _ _ m3 (λ peer peer-is m4.
      bind-ok (or_default Plain (text_of mode_from (codes "mode")) (get_member (codes "mode") t)) _ _ m4 (λ mode mode-is m5.
      bind-ok (number_at (codes "ssid") 0 65535 0 t) _ _ m5 (λ ssid ssid-is m6.
      bind-ok (required (text_of (config_from configs) (codes "config")) (codes "config") (get_member (codes "config") t)) _ _ m6 (λ config config-is m7.
      bind-ok (number_at (codes "wait") 0 31536000 0 t) _ _ m7 (λ wait wait-is m8.
      bind-ok (number_at (codes "reflect") 0 65535 0 t) _ _ m8 (λ reflect reflect-is m9.
      bind-ok (flag_at (codes "symmetrical") false t) _ _ m9 (λ symmetrical symmetrical-is end.
      let (l0, l1) = number_at-range (codes "local") 0 (locals - 1) 0 t local (omega arith) (omega arith) local-is in
      let (w0, w1) = number_at-range (codes "wait") 0 31536000 0 t wait (omega arith) (omega arith) wait-is in
      subst HasRanges (ok-is _ _ end) (record { local = omega (arith, l1, some_local); wait = omega (arith, w1) }))))))))))))

  at-ranges : (path : List ℕ) (d : Data) (s : Provided) → values_at locals configs path d ≡ Ok s → HasRanges s
  unfolding values_at
  at-ranges path d s is = bind-ok (table_of path d) _ _ is (λ t t-is more. values-ranges t s (within-ok path _ s more))

  pub record Holds (i : ℕ) (found : List Provided) : Type 0 where
    pub len : length found ≡ i
    pub openable : All (IsOpenable locals) found
    pub apart : AreApart found

  one-more : (i : ℕ) (found : List Provided) (s : Provided) → Holds i found → HasRanges s → is_refused s found ≡ false → Holds (suc i) (found ++ s ∷ [])
  one-more i found s held ranges fine =
      let (front, alone) = or_parts (not (is_sound s.key s.extra) || lacks_key s) (is_excluded s found) fine in
      let (sound, keyed) = or_parts (not (is_sound s.key s.extra)) (lacks_key s) front in
      let openable : IsOpenable locals s = record { local = ranges.local; sound = not-false _ sound; keyed = keyed; wait = ranges.wait } in
      record {
        len = omega (arith, length-append found (s ∷ []), held.len);
        openable = All-push (IsOpenable locals) found s held.openable openable;
        apart = all_pairs_push (λ a b. excludes b.key a.key ≡ false) found s held.apart (λ k x inside. none-at (λ e. excludes s.key e.key) found k x alone inside);
      }

  next : (i : ℕ) (found more : List Provided) (path : List ℕ) (d : Data) → Holds i found → session_of locals configs found path d ≡ Ok more → Holds (suc i) more
  unfolding session_of
  next i found more path d held is =
      bind-ok (values_at locals configs path d) _ _ is (λ s s-is rest. by (is_refused s found) s refl (at-ranges path d s s-is) rest)
    where
      by : (t : Bool) (s : Provided) → is_refused s found ≡ t → HasRanges s → (if t then Err (BadValue path) else Ok (found ++ s ∷ [])) ≡ Ok more → Holds (suc i) more
      by true s test ranges rest = absurd cc
      by false s test ranges rest = subst (Holds (suc i)) (ok-is _ _ rest) (one-more i found s held ranges test)

  none-hold : Holds 0 []
  none-hold = record { len = refl; openable = λ k d inside. absurd (omega arith); apart = λ i j d before inside. absurd (omega arith) }

  pub record AreServed (slots : ℕ) (sessions : List Provided) : Type 0 where
    pub len : (length sessions ≤ slots) × (length sessions ≤ 16384)
    pub openable : All (IsOpenable locals) sessions
    pub apart : AreApart sessions

  list-served : (slots : ℕ) (d : Data) (sessions : List Provided) → sessions_of locals slots configs d ≡ Ok sessions → AreServed slots sessions
  list-served slots d sessions is =
      bind-ok (list_of (codes "sessions") d) _ _ is (λ ds ds-is more.
      bind-ok (counted (codes "sessions") 0 (min 16384 slots) (items_len ds)) _ _ more (λ u u-is rest.
      let (least, most) = counted-is (codes "sessions") 0 (min 16384 slots) (items_len ds) u u-is in
      let held : Holds (0 + items_len ds) sessions = places-keep (session_of locals configs) (codes "sessions") Holds next ds 0 [] sessions none-hold rest in
      record { len = (omega (arith, most, held.len), omega (arith, most, held.len)); openable = held.openable; apart = held.apart }))

  pub sessions-served : (slots : ℕ) (o : Option Data) (sessions : List Provided) → or_default [] (sessions_of locals slots configs) o ≡ Ok sessions → AreServed slots sessions
  sessions-served slots None sessions is =
      subst (AreServed slots) (ok-is _ _ is) (record { len = (omega arith, omega arith); openable = none-hold.openable; apart = none-hold.apart })
  sessions-served slots (Some d) sessions is = list-served slots d sessions is
