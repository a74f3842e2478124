-- What is kept stands for the table after one record more.
use Rattle.std.proofs.Common.{◌≡◌, ℕ, suc, ◌+◌, ◌≤◌, ◌^◌, List, [], ◌∷◌, ◌++◌, length, drop, Option, Some, None, refl, sym, ap, subst, ◌∙◌, arith}
use Rattle.std.proofs.lemmas.List.{length-append}
use Rattle.refl_types.specs.declared.types.Key.{Key}
use Rattle.refl_types.specs.declared.types.Endpoint.{Endpoint}
use Rattle.reflect_core.specs.declared.judging.Judged.{Judged}
use Rattle.reflect_core.specs.declared.judging.Judged.TheVariants.{Reflect, Silent}
use Rattle.reflect_core.specs.Judgement.{judgement}
use Rattle.session_world.specs.declared.steps.TableSize.{TableSize}
use Rattle.session_world.specs.declared.steps.Step.{Step}
use Rattle.session_world.specs.declared.steps.Part.{Part}
use Rattle.session_world.specs.Sizes.{IsWithinLimits}
use Rattle.session_world.specs.OneThread.{Begins}
use Rattle.session_rule.specs.declared.seats.Seat.{Seat}
use Rattle.session_rule.specs.Seats.{desk_steps, joined_parts}
use Rattle.session_desk.specs.Book.{Book, steps_of}
use Rattle.session_desk.specs.Parting.{first_book}
use Rattle.replay_table.proofs.StreamFacts.{table_after-push}
use Rattle.shared_replay.specs.Following.{Follows}
use Rattle.session_desk.specs.Fits.{reserves_in}
use Rattle.replay_format.specs.declared.code.OpenAnswer.{OpenAnswer}
use Rattle.replay_format.specs.declared.code.OpenAnswer.TheVariants as opens
use Rattle.replay_format.specs.declared.code.SetAnswer.{SetAnswer}
use Rattle.replay_format.specs.declared.code.SetAnswer.TheVariants as sets
use Rattle.replay_format.specs.Records.{Item, Opens, Sets, Closes, Arrives, Lists, Opening, Setting, Datagram}
use Rattle.replay_format.specs.Answers as answers
use Rattle.replay_format.specs.Answers.{answer_octets}
use Rattle.replay_table.specs.Table.{Entry, Table, empty_table}
use Rattle.replay_table.specs.Outcomes.{open_answer, after_opening, set_answer, after_setting, session_of, judged_table, after_arrival, answer, after, table_after}
use Rattle.replay_table.specs.Apart.{AreApart}
use Rattle.shared_replay.specs.Stands.{HoldsTable, Kept, AreWithin, Stands, HasArrived, HasOpened, HasSet, HasClosed, IsAnswered}
use Rattle.shared_replay.proofs.RecordFacts.{all_keyed, few_records}

abbrev pub at : List Item → Table
at records = table_after empty_table records

more : (records : List Item) (item : Item) → length (records ++ item ∷ []) ≡ suc (length records)
more records item = omega (arith, length-append records (item ∷ []))

-- what is kept stands for the records and one more
stands_more : (records : List Item) (item : Item) (new : Kept) → HoldsTable new.book (after (at records) item) → new.locals ≡ (after (at records) item).locals → reserves_in (steps_of new.book) ≤ suc (length records) → Stands new (records ++ item ∷ [])
stands_more records item new holds locals reserves = record {
  holds = subst (HoldsTable new.book) (sym (table_after-push empty_table records item)) holds;
  locals = locals ∙ ap (λ (t : Table). t.locals) (sym (table_after-push empty_table records item));
  reserves = let n = more records item in omega (arith, n, reserves);
}

-- the answer of a record, and what is kept after it
answered_by : (records : List Item) (item : Item) (new : Kept) (a : answers.Answer) (before written : List ℕ) (n : ℕ) → answer (at records) item ≡ a → written ≡ answer_octets a ++ drop n before → n ≡ length (answer_octets a)
    → Stands new (records ++ item ∷ []) → IsAnswered records new item before written n
answered_by records item new a before written n is octets len stands = record {
  octets = octets ∙ ap (λ (x : answers.Answer). answer_octets x ++ drop n before) (sym is);
  len = len ∙ ap (λ (x : answers.Answer). length (answer_octets x)) (sym is);
  stands = stands;
}

-- ---- datagrams

judged_locals : (j : Judged) (e : Entry) (t : Table) → (judged_table j e t).locals ≡ t.locals
judged_locals (Silent cause) e t = refl
judged_locals Reflect e t = refl

found_locals : (o : Option Entry) (t : Table) (d : Datagram) → (after_arrival o t d).locals ≡ t.locals
found_locals None t d = refl
found_locals (Some e) t d = judged_locals (judgement e.key.mode e.config d.octets) e t

arrival_locals : (t : Table) (d : Datagram) → (after t (Arrives d)).locals ≡ t.locals
unfolding after
arrival_locals t d = found_locals (session_of t d) t d

pub arrived_all : (records : List Item) (old new : Kept) (d : Datagram) (before written : List ℕ) (n : ℕ) → Stands old records → new.locals ≡ old.locals → reserves_in (steps_of new.book) ≡ reserves_in (steps_of old.book)
    → ((t : Table) → HasArrived old.book t old.locals d new.book before written n) → IsAnswered records new (Arrives d) before written n
arrived_all records old new d before written n st locals reserves arrived =
    let one = arrived (at records) st.holds (all_keyed empty_table records tt) st.locals in
    let few = st.reserves in
    record {
      octets = one.octets;
      len = one.len;
      stands = stands_more records (Arrives d) new one.holds (locals ∙ st.locals ∙ sym (arrival_locals (at records) d)) (omega (arith, reserves, few));
    }

-- ---- openings

opening_locals : (a : OpenAnswer) (t : Table) (o : Opening) → (after_opening a t o).locals ≡ t.locals
opening_locals opens.Opened t o = refl
opening_locals opens.Duplicate t o = refl
opening_locals opens.ModeClash t o = refl
opening_locals opens.Full t o = refl
opening_locals opens.RowsFull t o = refl
opening_locals opens.NoKey t o = refl

pub opened_all : (records : List Item) (old new : Kept) (o : Opening) (a : OpenAnswer) (before written : List ℕ) (n : ℕ) → Stands old records → AreWithin records → new.locals ≡ old.locals → reserves_in (steps_of new.book) ≤ reserves_in (steps_of old.book) + 1
    → ((t : Table) → HoldsTable old.book t → reserves_in (steps_of old.book) ≤ 2 ^ 29 → HasOpened t o a new.book)
    → written ≡ answer_octets (answers.Opened a) ++ drop n before → n ≡ length (answer_octets (answers.Opened a)) → IsAnswered records new (Opens o) before written n
unfolding answer after
opened_all records old new o a before written n st within locals reserves opened octets len =
    let few = st.reserves in
    let limit = few_records records within in
    let one = opened (at records) st.holds (omega (arith, few, limit)) in
    answered_by records (Opens o) new (answers.Opened a) before written n (ap (λ (x : OpenAnswer). answers.Opened x) (sym one.answer)) octets len
    (stands_more records (Opens o) new one.holds (locals ∙ st.locals ∙ sym (opening_locals (open_answer (at records) o) (at records) o)) (omega (arith, reserves, few)))

-- ---- settings

setting_locals : (a : SetAnswer) (t : Table) (s : Setting) → (after_setting a t s).locals ≡ t.locals
setting_locals sets.Set t s = refl
setting_locals sets.RowsFull t s = refl
setting_locals sets.NoKey t s = refl
setting_locals sets.NoSuch t s = refl

pub set_all : (records : List Item) (old new : Kept) (s : Setting) (a : SetAnswer) (before written : List ℕ) (n : ℕ) → Stands old records → new.locals ≡ old.locals → reserves_in (steps_of new.book) ≡ reserves_in (steps_of old.book)
    → ((t : Table) → HoldsTable old.book t → HasSet t s a new.book)
    → written ≡ answer_octets (answers.Set a) ++ drop n before → n ≡ length (answer_octets (answers.Set a)) → IsAnswered records new (Sets s) before written n
unfolding answer after
set_all records old new s a before written n st locals reserves set octets len =
    let few = st.reserves in
    let one = set (at records) st.holds in
    answered_by records (Sets s) new (answers.Set a) before written n (ap (λ (x : SetAnswer). answers.Set x) (sym one.answer)) octets len
    (stands_more records (Sets s) new one.holds (locals ∙ st.locals ∙ sym (setting_locals (set_answer (at records) s) (at records) s)) (omega (arith, reserves, few)))

-- ---- closings

pub closed_all : (records : List Item) (old new : Kept) (k : Key) (count : Option ℕ) (before written : List ℕ) (n : ℕ) → Stands old records → new.locals ≡ old.locals → reserves_in (steps_of new.book) ≡ reserves_in (steps_of old.book)
    → ((items : List Item) → AreApart (table_after empty_table items).sessions) → ((t : Table) → HoldsTable old.book t → AreApart t.sessions → HasClosed t k count new.book)
    → written ≡ answer_octets (answers.Closed count) ++ drop n before → n ≡ length (answer_octets (answers.Closed count)) → IsAnswered records new (Closes k) before written n
unfolding answer after
closed_all records old new k count before written n st locals reserves apart closed octets len =
    let few = st.reserves in
    let one = closed (at records) st.holds (apart records) in
    answered_by records (Closes k) new (answers.Closed count) before written n (ap (λ (x : Option ℕ). answers.Closed x) (sym one.count_is)) octets len
    (stands_more records (Closes k) new one.holds (locals ∙ st.locals) (omega (arith, reserves, few)))

-- ---- lists of addresses

pub listed_all : (records : List Item) (old new : Kept) (ls : List Endpoint) (before written : List ℕ) (n : ℕ) → Stands old records → new.book ≡ old.book → new.locals ≡ ls
    → written ≡ answer_octets answers.Listed ++ drop n before → n ≡ length (answer_octets answers.Listed) → IsAnswered records new (Lists ls) before written n
unfolding answer after
listed_all records old new ls before written n st book locals octets len =
    let t = at records in
    let u : Table = record { sessions = t.sessions; configs = t.configs; locals = ls } in
    let held : HoldsTable old.book u = record { follows = st.holds.follows; keys = st.holds.keys; configs = st.holds.configs } in
    let few = subst (λ (b : Book). reserves_in (steps_of b) ≤ length records) (sym book) st.reserves in
    answered_by records (Lists ls) new answers.Listed before written n refl octets len
    (stands_more records (Lists ls) new (subst (λ (b : Book). HoldsTable b u) (sym book) held) locals (omega (arith, few)))

-- the same record
pub for_item : {records : List Item} {new : Kept} {before written : List ℕ} {n : ℕ} (a b : Item) → b ≡ a → IsAnswered records new a before written n → IsAnswered records new b before written n
for_item {records} {new} {before} {written} {n} a b e is = subst (λ (i : Item). IsAnswered records new i before written n) (sym e) is

-- ---- at first

pub stands_first : (z : TableSize) (seat : Seat) (known_book : Book) (locals : List Endpoint) → Begins → IsWithinLimits z → z.workers ≡ 1 → desk_steps seat ≡ [] → joined_parts seat ≡ [] → known_book ≡ first_book seat z → locals ≡ []
    → Stands (record { book = known_book; locals = locals }) []
unfolding table_after
stands_first z seat book locals law within one steps parts is none =
    let held : HoldsTable (first_book seat z) empty_table = record {
      follows = subst (λ (x : List Step × List Part). Follows z x.0 x.1 []) (λ i. (sym steps i, sym parts i)) (record { between = law z within one; tracks = λ k. refl });
      keys = refl;
      configs = refl;
    } in
    record {
      holds = subst (λ (b : Book). HoldsTable b empty_table) (sym is) held;
      locals = none;
      reserves = let n = ap (λ (b : Book). reserves_in (steps_of b)) is in let m = ap reserves_in steps in omega (arith, n, m);
    }
