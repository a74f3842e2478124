-- A list of entries as a map from keys.
use Rattle.std.proofs.Common.{◌≡◌, ◌⊎◌, inl, inr, ⊎_elim, Bool, true, false, if◌then◌else◌, List, [], ◌∷◌, sym, refl, ap, ◌∙◌, Option, Some, None}
use Rattle.std.specs.List.{list_any}
use Rattle.std.proofs.lemmas.Option.{none-some}
use Rattle.refl_types.specs.declared.types.Key.{Key}
use Rattle.refl_types.specs.declared.config.ConfigParts.{ConfigParts}
use Rattle.refl_types.specs.Same.{same_key}
use Rattle.refl_types.proofs.SameFacts.{key_same, same_key-refl}
use Rattle.session_key.specs.declared.matching.Query.{Query}
use Rattle.session_key.specs.Matching.{matches, excludes}
use Rattle.session_world.specs.History.{Session}
use Rattle.session_desk.proofs.BoolFacts.{bool, no_or, some_same, true_ne_false}
use Rattle.replay_table.specs.Table.{Entry, is_bound, session_for, session_at, with_entry, update, without}
use Rattle.replay_table.specs.Apart.{AreApart}
use Rattle.shared_replay.specs.Tracks.{session_of_entry, entry_for}

pub same_of : (j k : Key) → j ≡ k → same_key j k ≡ true
same_of j k e = ap (same_key j) (sym e) ∙ same_key-refl j

-- the first entry
pub entry_here : (e : Entry) (es : List Entry) (k : Key) → same_key e.key k ≡ true → entry_for k (e ∷ es) ≡ Some (session_of_entry e)
entry_here e es k y = rw y refl

pub entry_there : (e : Entry) (es : List Entry) (k : Key) → same_key e.key k ≡ false → entry_for k (e ∷ es) ≡ entry_for k es
entry_there e es k y = rw y refl

-- what is bound by the rest is bound
still_bound : (e : Entry) (es : List Entry) (k : Key) (b : Session ConfigParts) → entry_for k es ≡ Some b → (d : Session ConfigParts) × (entry_for k (e ∷ es) ≡ Some d)
still_bound e es k b at = ⊎_elim
    (λ y. (session_of_entry e, entry_here e es k y))
    (λ y. (b, entry_there e es k y ∙ at))
    (bool (same_key e.key k))

-- ---- the session that a query matches

pub find_none : (q : Query) (es : List Entry) → ((k : Key) (b : Session ConfigParts) → entry_for k es ≡ Some b → matches q k ≡ false) → session_for q es ≡ None
find_none q [] none = refl
find_none q (e ∷ es) none =
    let y = none e.key (session_of_entry e) (entry_here e es e.key (same_key-refl e.key)) in
    rw y (find_none q es (λ k b at. let d = still_bound e es k b at in none k d.0 d.1))

pub record Found (q : Query) (es : List Entry) (k : Key) (b : Session ConfigParts) : Type 0 where
  pub entry : Entry
  pub found : session_for q es ≡ Some entry
  pub key : entry.key ≡ k
  pub session : session_of_entry entry ≡ b

pub find_some : (q : Query) (es : List Entry) (k : Key) (b : Session ConfigParts) → entry_for k es ≡ Some b → matches q k ≡ true → ((j : Key) (d : Session ConfigParts) → entry_for j es ≡ Some d → matches q j ≡ true → j ≡ k) → Found q es k b
find_some q [] k b at m one = absurd (none-some b at)
find_some q (e ∷ es) k b at m one = ⊎_elim
    (λ (y : matches q e.key ≡ true). let same : e.key ≡ k = one e.key (session_of_entry e) (entry_here e es e.key (same_key-refl e.key)) y in
    record { entry = e; found = rw y refl; key = same; session = some_same (sym (entry_here e es k (same_of e.key k same)) ∙ at) })
    (λ (y : matches q e.key ≡ false). ⊎_elim
    (λ (s : same_key e.key k ≡ true). absurd (true_ne_false (sym m ∙ (ap (matches q) (sym (key_same e.key k s)) ∙ y))))
    (λ (s : same_key e.key k ≡ false). let x = find_some q es k b (sym (entry_there e es k s) ∙ at) m (λ j d at' mj. let z = still_bound e es j d at' in one j z.0 z.1 mj) in
    record { entry = x.entry; found = rw y x.found; key = x.key; session = x.session })
    (bool (same_key e.key k)))
    (bool (matches q e.key))

-- ---- an entry that is changed

abbrev pub map_entry : (Session ConfigParts → Session ConfigParts) → Option (Session ConfigParts) → Option (Session ConfigParts)
map_entry g None = None
map_entry g (Some b) = Some (g b)

module _ (k : Key) (f : Entry → Entry) (g : Session ConfigParts → Session ConfigParts) (keeps : (e : Entry) → (f e).key ≡ e.key) (does : (e : Entry) → session_of_entry (f e) ≡ g (session_of_entry e)) where
  pub update_entry : (es : List Entry) (j : Key) → entry_for j (update k f es) ≡ (if same_key k j then map_entry g (entry_for j es) else entry_for j es)
  update_entry [] j = at (same_key k j) where
    at : (b : Bool) → entry_for j [] ≡ (if b then None else None)
    at true = refl
    at false = refl
  update_entry (e ∷ es) j = ⊎_elim
      (λ (y : same_key e.key k ≡ true). let same : same_key k j ≡ same_key e.key j = ap (λ (i : Key). same_key i j) (sym (key_same e.key k y)) in ⊎_elim
      (λ (s : same_key e.key j ≡ true). rw y (rw (same ∙ s) (rw s (rw (ap (λ (i : Key). same_key i j) (keeps e) ∙ s) (ap (λ (b : Session ConfigParts). Some b) (does e))))))
      (λ (s : same_key e.key j ≡ false). rw y (rw (same ∙ s) (rw s (rw (ap (λ (i : Key). same_key i j) (keeps e) ∙ s) refl))))
      (bool (same_key e.key j)))
      (λ (y : same_key e.key k ≡ false). ⊎_elim
      (λ (s : same_key e.key j ≡ true). ⊎_elim
      (λ (u : same_key k j ≡ true). absurd (true_ne_false (sym (same_of e.key k (key_same e.key j s ∙ sym (key_same k j u))) ∙ y)))
      (λ (u : same_key k j ≡ false). rw y (rw u (rw s refl)))
      (bool (same_key k j)))
      (λ (s : same_key e.key j ≡ false). rw y (rw s (update_entry es j)))
      (bool (same_key e.key j)))
      (bool (same_key e.key k))

-- ---- an entry that is added

pub with_entry_for : (es : List Entry) (e : Entry) (j : Key) → entry_for e.key es ≡ None → entry_for j (with_entry e es) ≡ (if same_key e.key j then Some (session_of_entry e) else entry_for j es)
with_entry_for [] e j free = refl
with_entry_for (d ∷ es) e j free = ⊎_elim
    (λ (y : same_key d.key j ≡ true). ⊎_elim
    (λ (s : same_key e.key j ≡ true). absurd (none-some (session_of_entry d) (sym free ∙ entry_here d es e.key (same_of d.key e.key (key_same d.key j y ∙ sym (key_same e.key j s))))))
    (λ (s : same_key e.key j ≡ false). rw y (rw s refl))
    (bool (same_key e.key j)))
    (λ (y : same_key d.key j ≡ false). rw y (with_entry_for es e j (rest (bool (same_key d.key e.key)))))
    (bool (same_key d.key j))
  where
    rest : (same_key d.key e.key ≡ true) ⊎ (same_key d.key e.key ≡ false) → entry_for e.key es ≡ None
    rest (inl y) = absurd (none-some (session_of_entry d) (sym free ∙ entry_here d es e.key y))
    rest (inr y) = sym (entry_there d es e.key y) ∙ free

pub unbound : (es : List Entry) (k : Key) → is_bound k es ≡ false → entry_for k es ≡ None
unbound [] k h = refl
unbound (e ∷ es) k h = let x = no_or (same_key e.key k) (is_bound k es) h in entry_there e es k x.0 ∙ unbound es k x.1

-- ---- an entry that is taken out

-- no entry has the key of one that was opened before it
pub others_differ : (k : Key) (es : List Entry) → list_any (λ f. excludes k f.key) es ≡ false → is_bound k es ≡ false
unfolding excludes
others_differ k [] h = refl
others_differ k (f ∷ es) h =
    let x = no_or (excludes k f.key) (list_any (λ g. excludes k g.key) es) h in
    let apart : same_key k f.key ≡ false = (no_or (same_key k f.key) _ x.0).0 in
    rw (turned (bool (same_key f.key k)) apart, others_differ k es x.1) refl
  where
    turned : (same_key f.key k ≡ true) ⊎ (same_key f.key k ≡ false) → same_key k f.key ≡ false → same_key f.key k ≡ false
    turned (inl y) n = absurd (true_ne_false (sym (same_of k f.key (sym (key_same f.key k y))) ∙ n))
    turned (inr y) n = y

pub without_for : (k : Key) (es : List Entry) (j : Key) → AreApart es → entry_for j (without k es) ≡ (if same_key k j then None else entry_for j es)
without_for k [] j apart = at (same_key k j) where
  at : (b : Bool) → entry_for j [] ≡ (if b then None else None)
  at true = refl
  at false = refl
without_for k (e ∷ es) j apart = ⊎_elim
    (λ (y : same_key e.key k ≡ true). ⊎_elim
    (λ (s : same_key k j ≡ true). rw y (rw s (unbound es j (ap (λ (i : Key). is_bound i es) (sym (key_same e.key k y ∙ key_same k j s)) ∙ others_differ e.key es apart.0))))
    (λ (s : same_key k j ≡ false). rw y (rw s (sym (entry_there e es j (ap (λ (i : Key). same_key i j) (key_same e.key k y) ∙ s)))))
    (bool (same_key k j)))
    (λ (y : same_key e.key k ≡ false). ⊎_elim
    (λ (s : same_key e.key j ≡ true). ⊎_elim
    (λ (u : same_key k j ≡ true). absurd (true_ne_false (sym (same_of e.key k (key_same e.key j s ∙ sym (key_same k j u))) ∙ y)))
    (λ (u : same_key k j ≡ false). rw y (rw u (rw s refl)))
    (bool (same_key k j)))
    (λ (s : same_key e.key j ≡ false). rw y (rw s (without_for k es j apart.1)))
    (bool (same_key e.key j)))
    (bool (same_key e.key k))

at_there : (e : Entry) (es : List Entry) (k : Key) → same_key e.key k ≡ false → session_at k (e ∷ es) ≡ session_at k es
at_there e es k y = rw y refl

-- a key that is bound has an entry
pub entry_of : (es : List Entry) (k : Key) (b : Session ConfigParts) → entry_for k es ≡ Some b → (e : Entry) × (session_at k es ≡ Some e) × (session_of_entry e ≡ b)
entry_of [] k b at = absurd (none-some b at)
entry_of (e ∷ es) k b at = ⊎_elim
    (λ y. (e, rw y refl, some_same (sym (entry_here e es k y) ∙ at)))
    (λ y. let r = entry_of es k b (sym (entry_there e es k y) ∙ at) in (r.0, at_there e es k y ∙ r.1, r.2))
    (bool (same_key e.key k))

pub at_none : (es : List Entry) (k : Key) → is_bound k es ≡ false → session_at k es ≡ None
at_none [] k h = refl
at_none (e ∷ es) k h = let x = no_or (same_key e.key k) (is_bound k es) h in rw x.0 (at_none es k x.1)
