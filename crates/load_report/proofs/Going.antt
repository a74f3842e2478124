-- A load that is answered up to an index.
use Rattle.std.proofs.Common.{◌≡◌, ℕ, ◌+◌, ◌*◌, ◌≤◌, List, [], ◌∷◌, ◌++◌, length, refl, sym, ap, subst, arith}
use Rattle.std.proofs.lemmas.List.{length-append}
use Rattle.replay_format.specs.Records.{Item, spelling, spellings}
use Rattle.replay_format.specs.Answers.{answer_octets}
use Rattle.replay_table.specs.Table.{empty_table}
use Rattle.replay_table.specs.Outcomes.{answer, answers, answers_from, table_after}
use Rattle.replay_table.proofs.StreamFacts.{answers_from-push}
use Rattle.shared_replay.specs.Stands.{Kept, Stands, AreWithin}
use Rattle.load_gen.specs.Generator.{record_of}
use Rattle.load_report.specs.declared.counting.Counts.{Counts}
use Rattle.load_report.specs.Kinds.{is_sent, lacks_session}
use Rattle.load_report.specs.Counting.{records_from, how_many, counts_of, counted}
use Rattle.load_report.proofs.AnswerCodes.{same_counts}
use Rattle.load_report.proofs.LoadFacts.{records_push, how_many-push, spelled_more}

abbrev pub answered : ℕ → ℕ → List Item
answered seed i = records_from seed 0 i

pub record Going (seed : ℕ) (sessions : Kept) (c : Counts) (i : ℕ) : Type 0 where
  pub stands : Stands sessions (answered seed i)
  pub short : length (spellings (answered seed i)) ≤ 256 * i
  pub sent : c.sent ≡ how_many is_sent empty_table (answered seed i)
  pub no_session : c.no_session ≡ how_many lacks_session empty_table (answered seed i)
  pub octets : c.octets ≡ length (answers (answered seed i))

pub begins : (seed : ℕ) (sessions : Kept) → Stands sessions [] → Going seed sessions (record { sent = 0; no_session = 0; octets = 0 }) 0
unfolding records_from how_many answers_from
begins seed sessions stands = record { stands = stands; short = omega arith; sent = refl; no_session = refl; octets = refl }

-- a load is never too long for a stream
pub load_within : (seed : ℕ) (sessions : Kept) (c : Counts) (i : ℕ) → Going seed sessions c i → i ≤ 1000008 → AreWithin (answered seed i)
load_within seed sessions c i h few = omega (arith, h.short, few)

pub goes_on : (seed : ℕ) (sessions sessions' : Kept) (c c' : Counts) (i : ℕ) → Going seed sessions c i → length (spelling (record_of seed i)) ≤ 256
    → Stands sessions' (answered seed i ++ record_of seed i ∷ []) → c' ≡ counted c (answer (table_after empty_table (answered seed i)) (record_of seed i)) → Going seed sessions' c' (i + 1)
goes_on seed sessions sessions' c c' i h short stands same =
    let records : List Item = answered seed i in
    let item : Item = record_of seed i in
    let more : answered seed (i + 1) ≡ records ++ item ∷ [] = records_push seed 0 i i (omega arith) in
    let one = answers_from-push empty_table records item in
    record {
      stands = subst (Stands sessions') (sym more) stands;
      short = subst (λ (l : List Item). length (spellings l) ≤ 256 * (i + 1)) (sym more) (spelled_more records item i h.short short);
      sent = omega (arith, h.sent, ap (how_many is_sent empty_table) more, how_many-push is_sent empty_table records item, ap (λ (k : Counts). k.sent) same);
      no_session = omega (arith, h.no_session, ap (how_many lacks_session empty_table) more, how_many-push lacks_session empty_table records item, ap (λ (k : Counts). k.no_session) same);
      octets = omega (arith, h.octets, ap (λ (l : List Item). length (answers l)) more, ap length one, length-append (answers records) (answer_octets (answer (table_after empty_table records) item)), ap (λ (k : Counts). k.octets) same);
    }

pub ends : (seed count : ℕ) (sessions : Kept) (c : Counts) (i : ℕ) → Going seed sessions c i → i ≡ 8 + count → c ≡ counts_of seed count
unfolding counts_of
ends seed count sessions c i h all =
    let was = subst (Going seed sessions c) all h in
    same_counts c (counts_of seed count) was.sent was.no_session was.octets
