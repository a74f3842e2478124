-- What a replay keeps from record to record, and what each of its ends says.
use Rattle.std.proofs.Common.{◌≡◌, ℕ, ◌+◌, ◌^◌, ◌<◌, ◌≤◌, inl, inr, List, [], ◌∷◌, ◌++◌, length, take, drop, Option, Some, None, refl, sym, ap, subst, ◌∙◌, append_assoc, arith}
use Rattle.std.specs.Prelude.{IfSome}
use Rattle.std.proofs.lemmas.List.{append-nil, length-append, nil_from_length}
use Rattle.std.proofs.Math.Seq.{take-append-add}
use Rattle.std.specs.Io.KnownBytes.{Appends, Consumes, Keeps, IsAtEnd}
use Rattle.port_io.specs.Outside.{AppendsFront}
use Rattle.port_io.proofs.Known.{appends_none, appends_then, consumes_none, consumes_then, consumes_keeps}
use Rattle.replay_format.specs.Records.{Item, Fits, AllFit, spelling, spellings, Opens, Sets, Closes, Arrives, Lists}
use Rattle.replay_format.specs.View.{IsFront, IsBegun, IsForeign}
use Rattle.replay_format.specs.Answers.{Left, answer_octets}
use Rattle.replay_format.proofs.RecordFacts.{one_front}
use Rattle.replay_format.proofs.Formats.{item_obeys, spelling_short}
use Rattle.replay_format.proofs.StreamFacts.{spellings-cons, spellings-push}
use Rattle.replay_table.specs.Table.{empty_table}
use Rattle.replay_table.specs.Outcomes.{answer, answers, answers_from, table_after}
use Rattle.replay_table.proofs.StreamFacts.{answers_from-push}
use Rattle.shared_replay.specs.Stands.{Kept, Stands}
use Rattle.program.specs.Replay.{IsStream, IsNoStream, Takes, LeavesGrammar, answers_and_offset, IsDone, HasLeft, WasCutOff, WasStopped}

-- ---- one record more

AllFit-push : (records : List Item) (item : Item) → AllFit records → Fits item → AllFit (records ++ item ∷ [])
AllFit-push [] item all one = (one, tt)
AllFit-push (r ∷ rs) item all one = (all.0, AllFit-push rs item all.1 one)

-- ---- one reading

not_empty : (item : Item) (x : List ℕ) → [] ≡ spelling item ++ x → ⊥
not_empty (Opens o) x e = cc
not_empty (Sets s) x e = cc
not_empty (Closes k) x e = cc
not_empty (Arrives d) x e = cc
not_empty (Lists ls) x e = cc

-- a stream that begins with these records has just them at its front
one_reading : (rs qs : List Item) (x : List ℕ) → AllFit rs → AllFit qs → spellings qs ≡ spellings rs ++ x → (ts : List Item) × AllFit ts × (spellings ts ≡ x)
one_reading [] qs x fr fq e = (qs, fq, e)
one_reading (r ∷ rs) [] x fr fq e = absurd (not_empty r (spellings rs ++ x) (e ∙ ap (λ (l : List ℕ). l ++ x) (spellings-cons r rs) ∙ append_assoc (spelling r) (spellings rs) x))
one_reading (r ∷ rs) (q ∷ qs) x fr fq e =
    let same : spelling q ++ spellings qs ≡ spelling r ++ (spellings rs ++ x) = sym (spellings-cons q qs) ∙ e ∙ ap (λ (l : List ℕ). l ++ x) (spellings-cons r rs) ∙ append_assoc (spelling r) (spellings rs) x in
    one_reading rs qs x fr.1 fq.1 (one_front q r (spellings qs) (spellings rs ++ x) fq.0 fr.0 same).1

-- ---- what is kept

pub record Going (left0 left w0 w : Option (List ℕ)) (sessions : Kept) (pending due : List ℕ) (passed : ℕ) (records : List Item) : Type 0 where
  pub fits : AllFit records
  pub limit : length (spellings records) ≤ 2 ^ 30
  pub input : Consumes left0 left (spellings records ++ pending)
  pub sent : List ℕ
  pub out : Appends w0 w sent
  pub joined : sent ++ due ≡ answers records
  pub stands : Stands sessions records
  pub consumed : passed ≡ length (spellings records)

pub going_none : (left w : Option (List ℕ)) (sessions : Kept) → Stands sessions [] → Going left left w w sessions [] [] 0 []
unfolding answers_from table_after
going_none left w sessions st = record { fits = tt; limit = omega arith; input = consumes_none left; sent = []; out = appends_none w; joined = refl; stands = st; consumed = refl }

-- what was written, and what was at the end
front_all : (old new : Option (List ℕ)) (x : List ℕ) → Appends old new x → AppendsFront old new x
front_all old new x h = (length x, subst (λ (l : List ℕ). Appends old new l) (sym (take_all x)) h)
  where
    take_all : (m : List ℕ) → take (length m) m ≡ m
    take_all [] = refl
    take_all (y ∷ m) = ap (λ (r : List ℕ). y ∷ r) (take_all m)

-- a front of what was due, behind what was sent
pub front_behind : (a b c : Option (List ℕ)) (sent x whole : List ℕ) → Appends a b sent → AppendsFront b c x → sent ++ x ≡ whole → AppendsFront a c whole
front_behind a b c sent x whole first front joined = (
  length sent + front.0,
  subst (λ (l : List ℕ). Appends a c l) (sym (take-append-add sent x front.0) ∙ ap (take (length sent + front.0)) joined) (appends_then a b c sent (take front.0 x) first front.1),
)

module _ (left0 left w0 w : Option (List ℕ)) (sessions : Kept) (pending due : List ℕ) (passed : ℕ) (records : List Item) (h : Going left0 left w0 w sessions pending due passed records) where
  pub going_more : (left' : Option (List ℕ)) (pending' octets : List ℕ) → Consumes left left' octets → pending' ≡ pending ++ octets → Going left0 left' w0 w sessions pending' due passed records
  going_more left' pending' octets more e = record {
    fits = h.fits;
    limit = h.limit;
    input = subst (λ (l : List ℕ). Consumes left0 left' l) (append_assoc (spellings records) pending octets ∙ ap (λ (l : List ℕ). spellings records ++ l) (sym e)) (consumes_then left0 left left' (spellings records ++ pending) octets h.input more);
    sent = h.sent;
    out = h.out;
    joined = h.joined;
    stands = h.stands;
    consumed = h.consumed;
  }

  -- the same sessions, and the same that is due
  pub going_same : (sessions' : Kept) (due' : List ℕ) → due' ≡ due → sessions' ≡ sessions → Going left0 left w0 w sessions' pending due' passed records
  going_same sessions' due' e same = rw (e, same) h

  -- some of what was due was written
  pub going_written : (w' : Option (List ℕ)) (octets due' : List ℕ) → Appends w w' octets → octets ++ due' ≡ due → Going left0 left w0 w' sessions pending due' passed records
  going_written w' octets due' wrote e = record {
    fits = h.fits;
    limit = h.limit;
    input = h.input;
    sent = h.sent ++ octets;
    out = appends_then w0 w w' h.sent octets h.out wrote;
    joined = append_assoc h.sent octets due' ∙ ap (λ (l : List ℕ). h.sent ++ l) e ∙ h.joined;
    stands = h.stands;
    consumed = h.consumed;
  }

  pub going_record : (sessions' : Kept) (pending' due' : List ℕ) (n : ℕ) (item : Item) → IsFront pending item n → passed + n ≤ 2 ^ 30
      → due' ≡ due ++ answer_octets (answer (table_after empty_table records) item) → Stands sessions' (records ++ item ∷ []) → pending' ≡ drop n pending
      → Going left0 left w0 w sessions' pending' due' (passed + n) (records ++ item ∷ [])
  going_record sessions' pending' due' n item f within e stands cut = record {
    fits = AllFit-push records item h.fits f.fits;
    limit = omega (arith, ap length (spellings-push records item), length-append (spellings records) (spelling item), h.consumed, f.len);
    input = subst (λ (l : List ℕ). Consumes left0 left l)
        (ap (λ (l : List ℕ). spellings records ++ l) (f.spelled ∙ ap (λ (l : List ℕ). spelling item ++ l) (sym cut)) ∙ sym (append_assoc (spellings records) (spelling item) pending') ∙ ap (λ (l : List ℕ). l ++ pending') (sym (spellings-push records item)))
        h.input;
    sent = h.sent;
    out = h.out;
    joined = ap (λ (l : List ℕ). h.sent ++ l) e ∙ sym (append_assoc h.sent due (answer_octets (answer (table_after empty_table records) item))) ∙ ap (λ (l : List ℕ). l ++ answer_octets (answer (table_after empty_table records) item)) h.joined ∙ sym (answers_from-push empty_table records item);
    stands = stands;
    consumed = omega (arith, ap length (spellings-push records item), length-append (spellings records) (spelling item), h.consumed, f.len);
  }

  -- ---- the ends

  takes : Takes left0 left records pending
  takes = record { fits = h.fits; limit = h.limit; taken = h.input }

  written_all : due ≡ [] → Appends w0 w (answers records)
  written_all none = subst (λ (l : List ℕ). Appends w0 w l) (sym (append-nil h.sent) ∙ ap (λ (l : List ℕ). h.sent ++ l) (sym none) ∙ h.joined) h.out

  pub end_done : pending ≡ [] → IsAtEnd left → due ≡ [] → IsDone left0 left w0 w
  end_done none at_end sent = (records, record { fits = h.fits; limit = h.limit; taken = subst (λ (l : List ℕ). Consumes left0 left (spellings records ++ l)) none h.input }, at_end, written_all sent)

  pub end_cut : (left' : Option (List ℕ)) → Keeps left left' → IsBegun pending → due ≡ [] → WasCutOff left0 left' w0 w
  end_cut left' keeps begun sent = (records, pending, record { fits = h.fits; limit = h.limit; taken = consumes_keeps left0 left left' (spellings records ++ pending) h.input keeps }, begun, written_all sent)

  whole_and_offset : (offset : ℕ) → offset ≡ passed → h.sent ++ (due ++ answer_octets (Left offset)) ≡ answers_and_offset records
  whole_and_offset offset e = sym (append_assoc h.sent due (answer_octets (Left offset))) ∙ ap (λ (l : List ℕ). l ++ answer_octets (Left offset)) h.joined ∙ ap (λ (n : ℕ). answers records ++ answer_octets (Left n)) (e ∙ h.consumed)

  pub end_left : (w' : Option (List ℕ)) → LeavesGrammar left records pending → Appends w w' (due ++ answer_octets (Left passed)) → HasLeft left0 left w0 w'
  end_left w' leaves wrote = (records, pending, takes, leaves, subst (λ (l : List ℕ). Appends w0 w' l) (whole_and_offset passed refl) (appends_then w0 w w' h.sent (due ++ answer_octets (Left passed)) h.out wrote))

  pub end_stopped : (w' : Option (List ℕ)) → AppendsFront w w' due → WasStopped left0 left w0 w'
  end_stopped w' front = (records, pending, answers records, takes, inl refl, front_behind w0 w w' h.sent due (answers records) h.out front h.joined)

  pub end_stopped_leaving : (w' : Option (List ℕ)) → LeavesGrammar left records pending → AppendsFront w w' (due ++ answer_octets (Left passed)) → WasStopped left0 left w0 w'
  end_stopped_leaving w' leaves front = (records, pending, answers_and_offset records, takes, inr (refl, leaves), front_behind w0 w w' h.sent (due ++ answer_octets (Left passed)) (answers_and_offset records) h.out front (whole_and_offset passed refl))

-- ---- a stream, or none

pub done_stream : (left0 left w w' : Option (List ℕ)) → IsDone left0 left w w' → IfSome left0 (λ octets. (records : List Item) × IsStream octets records)
done_stream None left w w' d = tt
done_stream (Some o) None w w' d = absurd (d.1.taken)
done_stream (Some o) (Some m) w w' d =
    let e : o ≡ spellings d.0 = d.1.taken ∙ ap (λ (l : List ℕ). (spellings d.0 ++ []) ++ l) d.2 ∙ append-nil (spellings d.0 ++ []) ∙ append-nil (spellings d.0) in
    (d.0, record { fits = d.1.fits; whole = e; limit = omega (arith, ap length e, d.1.limit) })

no_front : (pending m : List ℕ) (ts : List Item) → IsForeign pending → AllFit ts → spellings ts ≡ pending ++ m → ⊥
no_front pending m [] f fit e =
    let some = item_obeys.some in
    let none : pending ≡ [] = nil_from_length pending (omega (arith, ap length e, length-append pending m)) in
    f some.0 (spelling some.0) [] some.1 (ap (λ (l : List ℕ). l ++ spelling some.0) none ∙ sym (append-nil (spelling some.0)))
no_front pending m (t ∷ ts) f fit e = f t m (spellings ts) fit.0 (sym e ∙ spellings-cons t ts)

no_whole : (pending : List ℕ) (ts : List Item) → IsBegun pending → 0 < length pending → AllFit ts → spellings ts ≡ pending → ⊥
no_whole pending [] b some fit e = omega (arith, ap length e)
no_whole pending (t ∷ ts) b some fit e =
    let same : spelling t ++ (spellings ts ++ b.1) ≡ spelling b.0 ++ [] = sym (append_assoc (spelling t) (spellings ts) b.1) ∙ ap (λ (l : List ℕ). l ++ b.1) (sym (spellings-cons t ts) ∙ e) ∙ b.4 ∙ sym (append-nil (spelling b.0)) in
    let left = (one_front t b.0 (spellings ts ++ b.1) [] fit.0 b.2 same).1 in
    omega (arith, ap length left, length-append (spellings ts) b.1, b.3)

-- a stream that leaves its grammar is none
left_at : (o m : List ℕ) (records : List Item) (more : List ℕ) → Takes (Some o) (Some m) records more → LeavesGrammar (Some m) records more → IsNoStream o
left_at o m records more t leaves rs s =
    let e : spellings rs ≡ spellings records ++ (more ++ m) = sym s.whole ∙ t.taken ∙ append_assoc (spellings records) more m in
    let r = one_reading records rs (more ++ m) t.fits s.fits e in
    let n : length o ≡ length (spellings records) + (length more + length m) = omega (arith, ap length t.taken, length-append (spellings records ++ more) m, length-append (spellings records) more) in
    elim leaves [
      | inl foreign ↦ no_front more m r.0 foreign r.1 r.2
      | inr other ↦ elim other [
        | inl cut ↦ no_whole more r.0 cut.0 cut.1 r.1 (r.2 ∙ ap (λ (l : List ℕ). more ++ l) cut.2 ∙ append-nil more)
        | inr long ↦ elim long [
          | inl front ↦ omega (arith, n, s.limit, front.3, front.2.len, ap length front.2.spelled, length-append (spelling front.0) (drop front.1 more))
          | inr begun ↦ omega (arith, n, s.limit, begun.1)
        ]
      ]
    ]

pub left_no_stream : (left0 left w w' : Option (List ℕ)) → HasLeft left0 left w w' → IfSome left0 IsNoStream
left_no_stream None left w w' h = tt
left_no_stream (Some o) None w w' h = absurd (h.2.taken)
left_no_stream (Some o) (Some m) w w' h = left_at o m h.0 h.1 h.2 h.3

pub begun_short : (octets : List ℕ) → IsBegun octets → length octets < 65551
begun_short octets b = omega (arith, spelling_short b.0 b.2, ap length b.4, length-append octets b.1, b.3)

pub front_length : (octets : List ℕ) (item : Item) (n : ℕ) → IsFront octets item n → n ≤ length octets
front_length octets item n f = omega (arith, f.len, ap length f.spelled, length-append (spelling item) (drop n octets))

-- where the source told a stream it did not leave its grammar, and where it told none it was not done
pub left_none : (left0 left w w' : Option (List ℕ)) (octets : List ℕ) (records : List Item) → HasLeft left0 left w w' → left0 ≡ Some octets → IsStream octets records → ⊥
left_none left0 left w w' octets records h e s = told left0 e (left_no_stream left0 left w w' h)
  where
    told : (l : Option (List ℕ)) → l ≡ Some octets → IfSome l IsNoStream → ⊥
    told None f n = absurd cc
    told (Some o) f n = let same : o ≡ octets = cc in n records (subst (λ (x : List ℕ). IsStream x records) (sym same) s)

pub done_none : (left0 left w w' : Option (List ℕ)) (octets : List ℕ) → IsDone left0 left w w' → left0 ≡ Some octets → IsNoStream octets → ⊥
done_none left0 left w w' octets d e none = told left0 e (done_stream left0 left w w' d)
  where
    told : (l : Option (List ℕ)) → l ≡ Some octets → IfSome l (λ o. (records : List Item) × IsStream o records) → ⊥
    told None f n = absurd cc
    told (Some o) f n = let same : o ≡ octets = cc in none n.0 (subst (λ (x : List ℕ). IsStream x n.0) same n.1)
