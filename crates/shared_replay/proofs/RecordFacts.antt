-- The table after records: what holds of its sessions, and how long the records' spellings are.
use Rattle.std.proofs.Common.{◌≡◌, ⊎_elim, ℕ, ◌+◌, ◌≤◌, ◌^◌, Bool, true, false, ◌&&◌, not, List, [], ◌∷◌, length, sym, refl, ap, ◌∙◌, subst, arith, Option, Some, None}
use Rattle.std.specs.Prelude.{IsSome}
use Rattle.std.proofs.lemmas.List.{length-append}
use Rattle.refl_types.specs.declared.types.Key.{Key}
use Rattle.refl_types.specs.declared.types.Mode.{Mode}
use Rattle.refl_types.specs.declared.types.Mode.TheVariants.{Plain, Auth, Twamp}
use Rattle.refl_types.specs.declared.config.ConfigParts.{ConfigParts}
use Rattle.refl_types.specs.Same.{same_key, same_mode}
use Rattle.refl_types.specs.Spelling.{has}
use Rattle.refl_types.specs.HmacKey.{HasHmacKey}
use Rattle.refl_types.proofs.SameFacts.{key_same}
use Rattle.reflect_core.specs.declared.judging.Judged.{Judged}
use Rattle.reflect_core.specs.declared.judging.Judged.TheVariants.{Reflect, Silent}
use Rattle.reflect_core.specs.Judgement.{judgement}
use Rattle.session_desk.proofs.BoolFacts.{bool}
use Rattle.replay_format.specs.declared.code.OpenAnswer.{OpenAnswer}
use Rattle.replay_format.specs.declared.code.OpenAnswer.TheVariants as opens
use Rattle.replay_format.specs.declared.code.SetAnswer.{SetAnswer}
use Rattle.replay_format.specs.declared.code.SetAnswer.TheVariants as sets
use Rattle.replay_format.specs.Records.{Item, Opens, Sets, Closes, Arrives, Lists, Opening, Setting, Datagram, spelling, spellings}
use Rattle.replay_format.proofs.StreamFacts.{spellings-cons}
use Rattle.replay_table.specs.Table.{Entry, Table, is_bound, has_clash, may_accept, with_entry, update, without, raised, configured}
use Rattle.replay_table.specs.Outcomes.{lacks_key, open_answer_of, open_answer, opened_entry, after_opening, set_answer_of, set_answer, after_setting, session_of, judged_table, after_arrival, after, table_after}
use Rattle.shared_replay.specs.Stands.{AreKeyed, AreWithin}

-- ---- HMAC keys

serves : (m : Mode) (c : ConfigParts) → lacks_key m c ≡ false → HasHmacKey m c
serves m c e = by_mode m c.key e where
  by_mode : (n : Mode) (o : Option (List ℕ)) → (same_mode n Auth && not (has o)) ≡ false → n ≡ Auth → IsSome o
  by_mode Plain o f is = absurd cc
  by_mode Twamp o f is = absurd cc
  by_mode Auth None f is = absurd cc
  by_mode Auth (Some x) f is = refl

keyed_push : (es : List Entry) (e : Entry) → AreKeyed es → HasHmacKey e.key.mode e.config → AreKeyed (with_entry e es)
keyed_push [] e keyed one = (one, tt)
keyed_push (d ∷ es) e keyed one = (keyed.0, keyed_push es e keyed.1 one)

keyed_update : (k : Key) (f : Entry → Entry) → ((e : Entry) → e.key ≡ k → HasHmacKey e.key.mode e.config → HasHmacKey (f e).key.mode (f e).config) → (es : List Entry) → AreKeyed es → AreKeyed (update k f es)
keyed_update k f does [] keyed = tt
keyed_update k f does (e ∷ es) keyed = ⊎_elim
    (λ (y : same_key e.key k ≡ true). rw y (does e (key_same e.key k y) keyed.0, keyed.1))
    (λ (y : same_key e.key k ≡ false). rw y (keyed.0, keyed_update k f does es keyed.1))
    (bool (same_key e.key k))

keyed_without : (k : Key) (es : List Entry) → AreKeyed es → AreKeyed (without k es)
keyed_without k [] keyed = tt
keyed_without k (e ∷ es) keyed = ⊎_elim
    (λ (y : same_key e.key k ≡ true). rw y keyed.1)
    (λ (y : same_key e.key k ≡ false). rw y (keyed.0, keyed_without k es keyed.1))
    (bool (same_key e.key k))

opened_keyed : (bound clash acceptable : Bool) (n : ℕ) (o : Opening) → open_answer_of bound clash acceptable n o ≡ opens.Opened → HasHmacKey o.key.mode o.config
unfolding open_answer_of
opened_keyed true clash acceptable n o e = absurd cc
opened_keyed false true acceptable n o e = absurd cc
opened_keyed false false acceptable n o e = serves o.key.mode o.config (⊎_elim
    (λ (y : lacks_key o.key.mode o.config ≡ true). absurd (let f : opens.NoKey ≡ opens.Opened = sym (rw y refl) ∙ e in cc))
    (λ (y : lacks_key o.key.mode o.config ≡ false). y)
    (bool (lacks_key o.key.mode o.config)))

set_keyed : (bound acceptable : Bool) (s : Setting) → set_answer_of bound acceptable s ≡ sets.Set → HasHmacKey s.key.mode s.config
unfolding set_answer_of
set_keyed false acceptable s e = absurd cc
set_keyed true acceptable s e = serves s.key.mode s.config (⊎_elim
    (λ (y : lacks_key s.key.mode s.config ≡ true). absurd (let f : sets.NoKey ≡ sets.Set = sym (rw y refl) ∙ e in cc))
    (λ (y : lacks_key s.key.mode s.config ≡ false). y)
    (bool (lacks_key s.key.mode s.config)))

after_open_keyed : (a : OpenAnswer) (t : Table) (o : Opening) → open_answer t o ≡ a → AreKeyed t.sessions → AreKeyed (after_opening a t o).sessions
after_open_keyed opens.Opened t o e keyed = keyed_push t.sessions (opened_entry o) keyed (opened_keyed (is_bound o.key t.sessions) (has_clash o.key t.sessions) (may_accept o.config t.configs) (length t.sessions) o e)
after_open_keyed opens.Duplicate t o e keyed = keyed
after_open_keyed opens.ModeClash t o e keyed = keyed
after_open_keyed opens.Full t o e keyed = keyed
after_open_keyed opens.RowsFull t o e keyed = keyed
after_open_keyed opens.NoKey t o e keyed = keyed

after_set_keyed : (a : SetAnswer) (t : Table) (s : Setting) → set_answer t s ≡ a → AreKeyed t.sessions → AreKeyed (after_setting a t s).sessions
after_set_keyed sets.Set t s e keyed =
    let one = set_keyed (is_bound s.key t.sessions) (may_accept s.config t.configs) s e in
    keyed_update s.key (configured s.config) (λ d same was. subst (λ (k : Key). HasHmacKey k.mode s.config) (sym same) one) t.sessions keyed
after_set_keyed sets.RowsFull t s e keyed = keyed
after_set_keyed sets.NoKey t s e keyed = keyed
after_set_keyed sets.NoSuch t s e keyed = keyed

judged_keyed : (j : Judged) (e : Entry) (t : Table) → AreKeyed t.sessions → AreKeyed (judged_table j e t).sessions
judged_keyed (Silent cause) e t keyed = keyed
judged_keyed Reflect e t keyed = keyed_update e.key raised (λ d same was. was) t.sessions keyed

arrived_keyed : (o : Option Entry) (t : Table) (d : Datagram) → AreKeyed t.sessions → AreKeyed (after_arrival o t d).sessions
arrived_keyed None t d keyed = keyed
arrived_keyed (Some e) t d keyed = judged_keyed (judgement e.key.mode e.config d.octets) e t keyed

keyed_after : (t : Table) (item : Item) → AreKeyed t.sessions → AreKeyed (after t item).sessions
unfolding after
keyed_after t (Opens o) keyed = after_open_keyed (open_answer t o) t o refl keyed
keyed_after t (Sets s) keyed = after_set_keyed (set_answer t s) t s refl keyed
keyed_after t (Closes k) keyed = keyed_without k t.sessions keyed
keyed_after t (Arrives d) keyed = arrived_keyed (session_of t d) t d keyed
keyed_after t (Lists ls) keyed = keyed

pub all_keyed : (t : Table) (records : List Item) → AreKeyed t.sessions → AreKeyed (table_after t records).sessions
unfolding table_after
all_keyed t [] keyed = keyed
all_keyed t (r ∷ rs) keyed = all_keyed (after t r) rs (keyed_after t r keyed)

-- ---- how many there are

some_octets : (item : Item) → 2 ≤ length (spelling item)
some_octets (Opens o) = omega arith
some_octets (Sets s) = omega arith
some_octets (Closes k) = omega arith
some_octets (Arrives d) = omega arith
some_octets (Lists ls) = omega arith

-- a stream has at most 2^29 records
twice : (records : List Item) → length records + length records ≤ length (spellings records)
twice [] = omega arith
twice (r ∷ rs) =
    let rest = twice rs in
    let one = some_octets r in
    let whole = ap length (spellings-cons r rs) in
    omega (arith, rest, one, whole, length-append (spelling r) (spellings rs))

pub few_records : (records : List Item) → AreWithin records → length records ≤ 2 ^ 29
few_records records within = let n = twice records in omega (arith, n, within)
