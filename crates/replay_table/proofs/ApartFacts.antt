-- No record leaves a session that another one excludes.
use Rattle.std.proofs.Common.{◌≡◌, ℕ, Bool, true, false, ◌||◌, List, [], ◌∷◌, ◌++◌, length, Option, Some, None, refl, sym, ap, ◌∙◌, if◌then◌else◌}
use Rattle.std.specs.List.{list_any}
use Rattle.refl_types.specs.declared.types.Key.{Key}
use Rattle.refl_types.specs.Same.{same_key}
use Rattle.session_key.specs.Matching.{excludes}
use Rattle.reflect_core.specs.declared.judging.Judged.{Judged}
use Rattle.reflect_core.specs.declared.judging.Judged.TheVariants.{Reflect, Silent}
use Rattle.reflect_core.specs.Judgement.{judgement}
use Rattle.replay_format.specs.declared.code.OpenAnswer.{OpenAnswer}
use Rattle.replay_format.specs.declared.code.OpenAnswer.TheVariants as opens
use Rattle.replay_format.specs.declared.code.SetAnswer.{SetAnswer}
use Rattle.replay_format.specs.declared.code.SetAnswer.TheVariants as sets
use Rattle.replay_format.specs.Records.{Item, Opens, Sets, Closes, Arrives, Lists, Opening, Setting, Datagram}
use Rattle.replay_table.specs.Table.{Entry, Table, is_bound, has_clash, may_accept, with_entry, update, without, raised, configured}
use Rattle.replay_table.specs.Outcomes.{open_answer_of, open_answer, opened_entry, after_opening, set_answer, after_setting, session_of, judged_table, after_arrival, after, table_after}
use Rattle.replay_table.specs.Apart.{AreApart}

neither : (a b : Bool) → (a || b) ≡ false → (a ≡ false) × (b ≡ false)
neither true b e = absurd cc
neither false b e = (refl, e)

-- ---- a session is opened

none-push : (p : Entry → Bool) (es : List Entry) (e : Entry) → list_any p es ≡ false → p e ≡ false → list_any p (es ++ e ∷ []) ≡ false
none-push p [] e none one = rw one refl
none-push p (f ∷ es) e none one =
    let n = neither (p f) (list_any p es) none in
    rw (n.0, none-push p es e n.1 one) refl

apart-push : (es : List Entry) (e : Entry) → AreApart es → list_any (λ f. excludes f.key e.key) es ≡ false → AreApart (with_entry e es)
apart-push [] e apart none = (refl, tt)
apart-push (f ∷ es) e apart none =
    let n = neither (excludes f.key e.key) (list_any (λ (g : Entry). excludes g.key e.key) es) none in
    (none-push (λ (g : Entry). excludes f.key g.key) es e apart.0 n.0, apart-push es e apart.1 n.1)

pub none_excludes : (k : Key) (es : List Entry) → is_bound k es ≡ false → has_clash k es ≡ false → list_any (λ f. excludes f.key k) es ≡ false
unfolding excludes
none_excludes k [] bound clash = refl
none_excludes k (e ∷ es) bound clash =
    let b = neither _ (is_bound k es) bound in
    let c = neither _ (has_clash k es) clash in
    rw (b.0, c.0, none_excludes k es b.1 c.1) refl

is_free : (bound clash acceptable : Bool) (n : ℕ) (o : Opening) → open_answer_of bound clash acceptable n o ≡ opens.Opened → (bound ≡ false) × (clash ≡ false)
unfolding open_answer_of
is_free true clash acceptable n o e = absurd cc
is_free false true acceptable n o e = absurd cc
is_free false false acceptable n o e = (refl, refl)

opened : (a : OpenAnswer) (t : Table) (o : Opening) → a ≡ open_answer t o → AreApart t.sessions → AreApart (after_opening a t o).sessions
opened opens.Opened t o e apart =
    let free = is_free (is_bound o.key t.sessions) (has_clash o.key t.sessions) (may_accept o.config t.configs) (length t.sessions) o (sym e) in
    apart-push t.sessions (opened_entry o) apart (none_excludes o.key t.sessions free.0 free.1)
opened opens.Duplicate t o e apart = apart
opened opens.ModeClash t o e apart = apart
opened opens.Full t o e apart = apart
opened opens.RowsFull t o e apart = apart
opened opens.NoKey t o e apart = apart

-- ---- a session is changed, and keeps its key

abbrev pub KeepsKey : (Entry → Entry) → Type 0
KeepsKey f = (e : Entry) → (f e).key ≡ e.key

same-update : (p : Key → Bool) (k : Key) (f : Entry → Entry) (es : List Entry) → KeepsKey f → list_any (λ e. p e.key) (update k f es) ≡ list_any (λ e. p e.key) es
same-update p k f [] keeps = refl
same-update p k f (e ∷ es) keeps =
    elim (same_key e.key k) as (λ b. list_any (λ g. p g.key) (if b then f e ∷ es else e ∷ update k f es) ≡ list_any (λ g. p g.key) (e ∷ es)) [
      | true ↦ ap (λ (j : Key). p j || list_any (λ (g : Entry). p g.key) es) (keeps e)
      | false ↦ rw (same-update p k f es keeps) refl
    ]

pub apart-update : (k : Key) (f : Entry → Entry) (es : List Entry) → KeepsKey f → AreApart es → AreApart (update k f es)
apart-update k f [] keeps apart = tt
apart-update k f (e ∷ es) keeps apart =
    elim (same_key e.key k) as (λ b. AreApart (if b then f e ∷ es else e ∷ update k f es)) [
      | true ↦ (ap (λ (j : Key). list_any (λ (g : Entry). excludes j g.key) es) (keeps e) ∙ apart.0, apart.1)
      | false ↦ (same-update (excludes e.key) k f es keeps ∙ apart.0, apart-update k f es keeps apart.1)
    ]

was_set : (a : SetAnswer) (t : Table) (s : Setting) → AreApart t.sessions → AreApart (after_setting a t s).sessions
was_set sets.Set t s apart = apart-update s.key (configured s.config) t.sessions (λ e. refl) apart
was_set sets.RowsFull t s apart = apart
was_set sets.NoKey t s apart = apart
was_set sets.NoSuch t s apart = apart

judged : (j : Judged) (e : Entry) (t : Table) → AreApart t.sessions → AreApart (judged_table j e t).sessions
judged (Silent cause) e t apart = apart
judged Reflect e t apart = apart-update e.key raised t.sessions (λ f. refl) apart

arrived : (o : Option Entry) (t : Table) (d : Datagram) → AreApart t.sessions → AreApart (after_arrival o t d).sessions
arrived None t d apart = apart
arrived (Some e) t d apart = judged (judgement e.key.mode e.config d.octets) e t apart

-- ---- a session is closed

none-without : (p : Entry → Bool) (k : Key) (es : List Entry) → list_any p es ≡ false → list_any p (without k es) ≡ false
none-without p k [] none = refl
none-without p k (e ∷ es) none =
    let n = neither (p e) (list_any p es) none in
    elim (same_key e.key k) as (λ b. list_any p (if b then es else e ∷ without k es) ≡ false) [
      | true ↦ n.1
      | false ↦ rw (n.0, none-without p k es n.1) refl
    ]

apart-without : (k : Key) (es : List Entry) → AreApart es → AreApart (without k es)
apart-without k [] apart = tt
apart-without k (e ∷ es) apart =
    elim (same_key e.key k) as (λ b. AreApart (if b then es else e ∷ without k es)) [
      | true ↦ apart.1
      | false ↦ (none-without (λ (g : Entry). excludes e.key g.key) k es apart.0, apart-without k es apart.1)
    ]

-- ---- each record, and all

pub one : (t : Table) (i : Item) → AreApart t.sessions → AreApart (after t i).sessions
unfolding after
one t (Opens o) apart = opened (open_answer t o) t o refl apart
one t (Sets s) apart = was_set (set_answer t s) t s apart
one t (Closes k) apart = apart-without k t.sessions apart
one t (Arrives d) apart = arrived (session_of t d) t d apart
one t (Lists ls) apart = apart

pub all : (t : Table) (is : List Item) → AreApart t.sessions → AreApart (table_after t is).sessions
unfolding table_after
all t [] apart = apart
all t (i ∷ is) apart = all (after t i) is (one t i apart)
