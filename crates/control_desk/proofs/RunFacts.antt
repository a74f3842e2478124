-- A run turn by turn, and what a run shows.
use Rattle.std.proofs.Common.{◌≡◌, inl, inr, ℕ, zero, suc, ◌+◌, ◌-◌, ◌^◌, ◌<◌, ◌≤◌, min, Bool, true, false, if◌then◌else◌, IsTrue, List, [], ◌∷◌, ◌++◌, Option, Some, None, Ok, Err, refl, sym, ap, ◌∙◌, append_assoc, arith, subst}
use Rattle.std.proofs.lemmas.List.{append-nil}
use Rattle.port_io.specs.Outside.{Rises}
use Rattle.net_io.specs.declared.desk.Timed.{Timed}
use Rattle.net_io.specs.Log.{Grows}
use Rattle.net_io.specs.Desk.{DeskEntry, opened, open_failed, gave, next_failed, sent, send_failed, hung_up, finished}
use Rattle.session_rule.specs.declared.seats.Table.{Table}
use Rattle.session_desk.specs.Book.{Book}
use Rattle.session_desk.specs.Makes.{BookCall, admits, reserves, keeps_row, starts, abandons, sets, closes, closes_at, counts, ticks, tells_length, tells_key, tells_place}
use Rattle.session_desk.specs.Going.{CallsGoOn, DeskWent, StandsAt}
use Rattle.control_desk.specs.declared.counts.Counts.{Counts}
use Rattle.control_desk.specs.declared.counts.DeskEnd.TheVariants as ends
use Rattle.control_desk.specs.declared.counts.Verdict.{Verdict}
use Rattle.control_desk.specs.declared.counts.Verdict.TheVariants.{GoesOn, Over, Quits}
use Rattle.control_desk.specs.declared.sides.Side.TheVariants.{Operator}
use Rattle.control_desk.specs.State.{Setting, DeskState, is_quits}
use Rattle.control_desk.specs.Connections.{settled_side}
use Rattle.control_desk.specs.Operator.{settled_piece}
use Rattle.control_desk.specs.Plan.{Plan, Act, noted, called, hear, stop, entries_in, MakesAll, counts_with, counts_after, DeskView, ShowsAll, Follows}
use Rattle.control_desk.specs.Run.{GoesAll, event_plan, behind_event, begun, desk_plan, is_over}
use Rattle.control_desk.specs.Faults.{AreFaultsTold}

-- ---- a turn

-- with as many calls left behind this one
abbrev pub heard : Setting → ℕ → DeskState → Timed → List ℕ → Plan
heard f left s t octets = event_plan f (begun s t.moment) t.moment octets (behind_event (desk_plan f left 0)) t.event

abbrev pub unheard : Setting → ℕ → ℕ → DeskState → Plan
unheard f left failed s = if is_over left (failed + 1) then stop ends.Fault else desk_plan f left (failed + 1) s

pub desk_turn : (f : Setting) (left failed : ℕ) (s : DeskState) → 0 < left → desk_plan f left failed s ≡ hear (heard f (left - 1) s) (unheard f (left - 1) failed s)
unfolding desk_plan
desk_turn f zero failed s h = absurd (omega arith)
desk_turn f (suc m) failed s h = let e : m ≡ suc m - 1 = omega arith in ap (λ (k : ℕ). hear (heard f k s) (unheard f k failed s)) e

pub behind_quits : (more : DeskState → Plan) (v : Verdict) (s : DeskState) → is_quits v ≡ true → behind_event more v s ≡ stop ends.Quit
behind_quits more GoesOn s h = absurd cc
behind_quits more Over s h = absurd cc
behind_quits more Quits s h = refl

pub behind_others : (more : DeskState → Plan) (v : Verdict) (s : DeskState) → is_quits v ≡ false → behind_event more v s ≡ more s
behind_others more GoesOn s h = refl
behind_others more Over s h = refl
behind_others more Quits s h = absurd cc

pub desk_out : (f : Setting) (left failed : ℕ) (s : DeskState) → left ≤ 0 → desk_plan f left failed s ≡ stop ends.Budget
unfolding desk_plan
desk_out f zero failed s h = refl
desk_out f (suc m) failed s h = absurd (omega arith)

pub operator_settled : (v : Verdict) (n : ℕ) (held : List ℕ) (s : DeskState) → settled_piece v n held s ≡ settled_side v n (Operator held) s
operator_settled GoesOn n held s = refl
operator_settled Over n held s = refl
operator_settled Quits n held s = refl

-- ---- what is shown

pub grows_then : {E : Type 0} (a b c : Option (List E)) (x y : List E) → Grows a b x → Grows b c y → Grows a c (x ++ y)
grows_then a b None x y p q = tt
grows_then a None (Some n) x y p q = absurd q
grows_then None (Some m) (Some n) x y p q = absurd p
grows_then (Some l) (Some m) (Some n) x y p q = q ∙ ap (λ (r : List _). r ++ y) p ∙ append_assoc l x y

grows_none : {E : Type 0} (l : Option (List E)) → Grows l l []
grows_none None = tt
grows_none (Some l) = sym (append-nil l)

pub log_grows : {S D : Type 0} {goes : D → DeskEntry → D → Type 0} (acts : List Act) (d d' : DeskView S D goes) → ShowsAll acts d d' → Grows d.shown.log d'.shown.log (entries_in acts)
log_grows {S} {D} {goes} [] d d' h = subst (λ (m : DeskView S D goes). Grows d.shown.log m.shown.log []) (sym h) (grows_none d.shown.log)
log_grows (noted e ∷ acts) d d' h = grows_then d.shown.log (h.0).shown.log d'.shown.log (e ∷ []) (entries_in acts) (h.1).log (log_grows acts h.0 d' h.2)
log_grows (called call ∷ acts) d d' h = log_grows acts d d' h

open_stays : {S D : Type 0} {goes : D → DeskEntry → D → Type 0} (acts : List Act) (d d' : DeskView S D goes) → ShowsAll acts d d' → d'.shown.is_open ≡ d.shown.is_open
open_stays {S} {D} {goes} [] d d' h = ap (λ (m : DeskView S D goes). m.shown.is_open) h
open_stays (noted e ∷ acts) d d' h = open_stays acts h.0 d' h.2 ∙ (h.1).is_open
open_stays (called call ∷ acts) d d' h = open_stays acts d d' h

pub made_stays : {S D : Type 0} {goes : D → DeskEntry → D → Type 0} (acts : List Act) (d d' : DeskView S D goes) → ShowsAll acts d d' → d'.shown.made ≡ d.shown.made
made_stays {S} {D} {goes} [] d d' h = ap (λ (m : DeskView S D goes). m.shown.made) h
made_stays (noted e ∷ acts) d d' h = made_stays acts h.0 d' h.2 ∙ (h.1).made
made_stays (called call ∷ acts) d d' h = made_stays acts d d' h

pub open_after : {S D : Type 0} {goes : D → DeskEntry → D → Type 0} {t : Table} {p q : Plan} {d d' : DeskView S D goes} {b b' : Book} {n n' : Counts} → Follows t p q d d' b b' n n' → IsTrue d.shown.is_open → IsTrue d'.shown.is_open
open_after {d = d} {d'} f h = subst (λ (o : Bool). IsTrue o) (sym (open_stays f.acts d d' f.shown)) h

-- ---- faults

-- how many of the acts failed
abbrev pub failures : List Act → ℕ
failures [] = 0
failures (noted next_failed ∷ acts) = suc (failures acts)
failures (noted (send_failed n o) ∷ acts) = suc (failures acts)
failures (_ ∷ acts) = failures acts

called_faults : (n : Counts) (call : BookCall) → (counts_with n (called call)).faults ≡ n.faults
called_faults n (admits k x a) = refl
called_faults n (reserves k e x wait a) = refl
called_faults n (keeps_row x a) = refl
called_faults n (starts p now a) = refl
called_faults n (abandons p a) = refl
called_faults n (sets k x a) = refl
called_faults n (closes k (Ok m)) = refl
called_faults n (closes k (Err e)) = refl
called_faults n (closes_at k moment a) = refl
called_faults n (counts k a) = refl
called_faults n (ticks now t) = refl
called_faults n (tells_length m) = refl
called_faults n (tells_key i o) = refl
called_faults n (tells_place k o) = refl

rises_more : (old mid new k : ℕ) → Rises old mid → min (mid + k) (2 ^ 64 - 1) ≤ new → min (old + suc k) (2 ^ 64 - 1) ≤ new
rises_more old mid new k (inl lt) h = omega (arith, lt, h)
rises_more old mid new k (inr e) h = omega (arith, e.0, e.1, h)

same_more : (old mid new k : ℕ) → mid ≡ old → min (mid + k) (2 ^ 64 - 1) ≤ new → min (old + k) (2 ^ 64 - 1) ≤ new
same_more old mid new k e h = subst (λ (m : ℕ). min (m + k) (2 ^ 64 - 1) ≤ new) e h

faults_rise : {S D : Type 0} {goes : D → DeskEntry → D → Type 0} (acts : List Act) (d d' : DeskView S D goes) → ShowsAll acts d d' → min (d.shown.faults + failures acts) (2 ^ 64 - 1) ≤ d'.shown.faults
faults_rise {S} {D} {goes} [] d d' h = let e : d'.shown.faults ≡ d.shown.faults = ap (λ (m : DeskView S D goes). m.shown.faults) h in omega (arith, e)
faults_rise (noted next_failed ∷ acts) d d' h = rises_more d.shown.faults (h.0).shown.faults d'.shown.faults (failures acts) (h.1).faults (faults_rise acts h.0 d' h.2)
faults_rise (noted (send_failed n o) ∷ acts) d d' h = rises_more d.shown.faults (h.0).shown.faults d'.shown.faults (failures acts) (h.1).faults (faults_rise acts h.0 d' h.2)
faults_rise (noted (opened c o) ∷ acts) d d' h = same_more d.shown.faults (h.0).shown.faults d'.shown.faults (failures acts) (h.1).faults (faults_rise acts h.0 d' h.2)
faults_rise (noted open_failed ∷ acts) d d' h = same_more d.shown.faults (h.0).shown.faults d'.shown.faults (failures acts) (h.1).faults (faults_rise acts h.0 d' h.2)
faults_rise (noted (gave t o) ∷ acts) d d' h = same_more d.shown.faults (h.0).shown.faults d'.shown.faults (failures acts) (h.1).faults (faults_rise acts h.0 d' h.2)
faults_rise (noted (sent n o) ∷ acts) d d' h = same_more d.shown.faults (h.0).shown.faults d'.shown.faults (failures acts) (h.1).faults (faults_rise acts h.0 d' h.2)
faults_rise (noted (hung_up n) ∷ acts) d d' h = same_more d.shown.faults (h.0).shown.faults d'.shown.faults (failures acts) (h.1).faults (faults_rise acts h.0 d' h.2)
faults_rise (noted finished ∷ acts) d d' h = same_more d.shown.faults (h.0).shown.faults d'.shown.faults (failures acts) (h.1).faults (faults_rise acts h.0 d' h.2)
faults_rise (called call ∷ acts) d d' h = faults_rise acts d d' h

faults_stay : {S D : Type 0} {goes : D → DeskEntry → D → Type 0} (acts : List Act) (d d' : DeskView S D goes) → ShowsAll acts d d' → failures acts ≡ 0 → d'.shown.faults ≡ d.shown.faults
faults_stay {S} {D} {goes} [] d d' h z = ap (λ (m : DeskView S D goes). m.shown.faults) h
faults_stay (noted next_failed ∷ acts) d d' h z = absurd (omega (arith, z))
faults_stay (noted (send_failed n o) ∷ acts) d d' h z = absurd (omega (arith, z))
faults_stay (noted (opened c o) ∷ acts) d d' h z = faults_stay acts h.0 d' h.2 z ∙ (h.1).faults
faults_stay (noted open_failed ∷ acts) d d' h z = faults_stay acts h.0 d' h.2 z ∙ (h.1).faults
faults_stay (noted (gave t o) ∷ acts) d d' h z = faults_stay acts h.0 d' h.2 z ∙ (h.1).faults
faults_stay (noted (sent n o) ∷ acts) d d' h z = faults_stay acts h.0 d' h.2 z ∙ (h.1).faults
faults_stay (noted (hung_up n) ∷ acts) d d' h z = faults_stay acts h.0 d' h.2 z ∙ (h.1).faults
faults_stay (noted finished ∷ acts) d d' h z = faults_stay acts h.0 d' h.2 z ∙ (h.1).faults
faults_stay (called call ∷ acts) d d' h z = faults_stay acts d d' h z

-- the tally counts at most these, and it counts some where there are some
counted_few : (acts : List Act) (n : Counts) → (counts_after n acts).faults ≤ n.faults + failures acts
counted_few [] n = omega arith
counted_few (noted next_failed ∷ acts) n = omega (arith, counted_few acts (counts_with n (noted next_failed)))
counted_few (noted (send_failed m o) ∷ acts) n = omega (arith, counted_few acts (counts_with n (noted (send_failed m o))))
counted_few (noted (opened c o) ∷ acts) n = counted_few acts n
counted_few (noted open_failed ∷ acts) n = counted_few acts n
counted_few (noted (gave t o) ∷ acts) n = counted_few acts (counts_with n (noted (gave t o)))
counted_few (noted (sent m o) ∷ acts) n = counted_few acts n
counted_few (noted (hung_up m) ∷ acts) n = counted_few acts n
counted_few (noted finished ∷ acts) n = counted_few acts n
counted_few (called call ∷ acts) n = subst (λ (k : ℕ). (counts_after (counts_with n (called call)) acts).faults ≤ k + failures acts) (called_faults n call) (counted_few acts (counts_with n (called call)))

counted_some : (acts : List Act) (n : Counts) → 0 < n.faults + failures acts → 0 < (counts_after n acts).faults
counted_some [] n h = omega (arith, h)
counted_some (noted next_failed ∷ acts) n h = counted_some acts (counts_with n (noted next_failed)) (omega arith)
counted_some (noted (send_failed m o) ∷ acts) n h = counted_some acts (counts_with n (noted (send_failed m o))) (omega arith)
counted_some (noted (opened c o) ∷ acts) n h = counted_some acts n h
counted_some (noted open_failed ∷ acts) n h = counted_some acts n h
counted_some (noted (gave t o) ∷ acts) n h = counted_some acts (counts_with n (noted (gave t o))) h
counted_some (noted (sent m o) ∷ acts) n h = counted_some acts n h
counted_some (noted (hung_up m) ∷ acts) n h = counted_some acts n h
counted_some (noted finished ∷ acts) n h = counted_some acts n h
counted_some (called call ∷ acts) n h = counted_some acts (counts_with n (called call)) (subst (λ (k : ℕ). 0 < k + failures acts) (sym (called_faults n call)) h)

no_failures : (acts : List Act) (n : Counts) → (counts_after n acts).faults ≡ 0 → (k : ℕ) → failures acts ≡ k → k ≡ 0
no_failures acts n z zero e = refl
no_failures acts n z (suc k) e = let some : 0 < (counts_after n acts).faults = counted_some acts n (omega (arith, e)) in absurd (omega (arith, some, z))

pub faults_told : {S D : Type 0} {goes : D → DeskEntry → D → Type 0} (acts : List Act) (d d' : DeskView S D goes) (n : Counts) → n.faults ≡ 0 → ShowsAll acts d d' → AreFaultsTold d.shown.faults d'.shown.faults (counts_after n acts).faults
faults_told acts d d' n z h = record {
  rises = omega (arith, faults_rise acts d d' h, counted_few acts n, z);
  stays = λ e. faults_stay acts d d' h (no_failures acts n e (failures acts) refl);
}

-- ---- the book

pub book_went : CallsGoOn → {t : Table} (acts : List Act) (b c : Book) → StandsAt t b → MakesAll t acts b c → DeskWent t b c
book_went law {t} [] b c s h = subst (λ (m : Book). DeskWent t b m) (sym h) (law.none t b s)
book_went law (noted e ∷ acts) b c s h = book_went law acts b c s h
book_went law {t} (called call ∷ acts) b c s h =
    let one = law.call t call b h.0 s h.1 in
    law.both t b h.0 c one (book_went law acts h.0 c one.stands h.2)

-- ---- how the desk went on

pub gone_then : {D : Type 0} (goes : D → DeskEntry → D → Type 0) (x y : List DeskEntry) (a b c : D) → GoesAll goes x a b → GoesAll goes y b c → GoesAll goes (x ++ y) a c
gone_then goes [] y a b c h k = subst (λ d. GoesAll goes y d c) h k
gone_then goes (e ∷ x) y a b c h k = (h.0, h.1, gone_then goes x y h.0 b c h.2 k)

pub all_gone : {S D : Type 0} {goes : D → DeskEntry → D → Type 0} (acts : List Act) (d d' : DeskView S D goes) → ShowsAll acts d d' → GoesAll goes (entries_in acts) d.it d'.it
all_gone {S} {D} {goes} [] d d' h = ap (λ (m : DeskView S D goes). m.it) h
all_gone (noted e ∷ acts) d d' h = (h.0.it, h.1.went, all_gone acts h.0 d' h.2)
all_gone (called call ∷ acts) d d' h = all_gone acts d d' h
