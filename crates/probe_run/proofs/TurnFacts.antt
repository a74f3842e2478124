-- A measurement, turn after turn.
use Rattle.std.proofs.Common.{◌≡◌, ◌≢◌, inr, ℕ, ◌+◌, ◌-◌, ◌^◌, ◌≤◌, min, Bool, List, [], ◌∷◌, ◌++◌, length, Option, Some, None, refl, sym, ap, subst, ◌∙◌, append_assoc, arith}
use Rattle.std.specs.Prelude.{cond}
use Rattle.std.proofs.lemmas.List.{append-nil}
use Rattle.refl_types.specs.declared.types.Endpoint.{Endpoint}
use Rattle.net_io.specs.Log.{Grows}
use Rattle.net_io.specs.Port.{PortEntry, read, done}
use Rattle.net_io.specs.PortShown.{PortShown}
use Rattle.sender_core.specs.declared.types.SendPlan.{SendPlan}
use Rattle.sender_core.specs.declared.types.Counts.{Counts}
use Rattle.sender_core.specs.declared.types.Due.{Due}
use Rattle.sender_core.specs.declared.types.Due.TheVariants as due
use Rattle.sender_core.specs.Deeds.{Deed, sendings}
use Rattle.sender_core.specs.Sending.{due_at, request_octets}
use Rattle.sender_core.specs.Counting.{counts_of, strangers, capped}
use Rattle.sender_core.specs.State.{Measurement, IsAfter}
use Rattle.probe_run.specs.declared.progress.Came.{Came}
use Rattle.probe_run.specs.declared.progress.Came.TheVariants as came
use Rattle.probe_run.specs.declared.progress.ProbeEnd.{ProbeEnd}
use Rattle.probe_run.specs.declared.progress.ProbeEnd.TheVariants as end
use Rattle.probe_run.specs.declared.progress.Progress.{Progress}
use Rattle.probe_run.specs.Ends.{end_by, end_due, failed_row, foreign_in, foreigns, is_failed, is_over}
use Rattle.probe_run.specs.Counters.{kind_of, was_over, at_first, with_call, with_turn, progress_after, end_at, NoneAt}
use Rattle.probe_run.specs.Turns.{Outgoing, Incoming, Turn, idle, over, failed, reply, foreign, outgoing_entries, incoming_entry, exchange, entries_of, sent_then, deeds_after, Fits, IsTurn, AreTurns, all_deeds, all_entries}
use Rattle.probe_run.specs.Runs.{NoneDue, EndsAfter, EndsBy, counts_with, lost_in, failed_in, failures, RisesBy, Measures, HasNotBegun}
use Rattle.probe_run.specs.Steps.{HasSamePlan, HasSent, HasReceived, HasTaken}

-- ---- logs and counts of faults

grows_none : {E : Type 0} (l : Option (List E)) → Grows l l []
grows_none None = tt
grows_none (Some l) = sym (append-nil l)

grows_then : {E : Type 0} (a b c : Option (List E)) (x y : List E) → Grows a b x → Grows b c y → Grows a c (x ++ y)
grows_then a b None x y p q = tt
grows_then a None (Some n) x y p q = absurd q
grows_then None (Some m) (Some n) x y p q = absurd p
grows_then (Some l) (Some m) (Some n) x y p q = q ∙ ap (λ (r : List _). r ++ y) p ∙ append_assoc l x y

rises_none : (n m : ℕ) → m ≡ n → RisesBy 0 n m
rises_none n m e = record { none = λ z. e; each = omega (arith, e) }

rises_then : (a b x y z : ℕ) → RisesBy a x y → RisesBy b y z → RisesBy (a + b) x z
rises_then a b x y z p q = record {
  none = λ e. q.none (omega (arith, e)) ∙ p.none (omega (arith, e));
  each = let e = p.each in let f = q.each in omega (arith, e, f);
}

-- ---- one turn more

deeds_push : (ds : List Deed) (ts : List Turn) (t : Turn) → all_deeds ds (ts ++ t ∷ []) ≡ deeds_after (all_deeds ds ts) t
deeds_push ds [] t = refl
deeds_push ds (q ∷ ts) t = deeds_push (deeds_after ds q) ts t

turns_push : (plan : SendPlan) (start : ℕ) (peer : Endpoint) (ds : List Deed) (ts : List Turn) (t : Turn) → AreTurns plan start peer ds ts → IsTurn plan start peer (all_deeds ds ts) t → AreTurns plan start peer ds (ts ++ t ∷ [])
turns_push plan start peer ds [] t h k = (k, tt)
turns_push plan start peer ds (q ∷ ts) t h k = (h.0, turns_push plan start peer (deeds_after ds q) ts t h.1 k)

entries_push : (ssid : ℕ) (peer : Endpoint) (ds : List Deed) (ts : List Turn) (t : Turn) → all_entries ssid peer ds (ts ++ t ∷ []) ≡ all_entries ssid peer ds ts ++ entries_of ssid peer (all_deeds ds ts) t
entries_push ssid peer ds [] t = append-nil (entries_of ssid peer ds t)
entries_push ssid peer ds (q ∷ ts) t =
    ap (λ (l : List PortEntry). entries_of ssid peer ds q ++ l) (entries_push ssid peer (deeds_after ds q) ts t)
    ∙ sym (append_assoc (entries_of ssid peer ds q) (all_entries ssid peer (deeds_after ds q) ts) (entries_of ssid peer (all_deeds (deeds_after ds q) ts) t))

progress_push : (p : Progress) (ts : List Turn) (t : Turn) → progress_after p (ts ++ t ∷ []) ≡ with_turn (progress_after p ts) t
progress_push p [] t = refl
progress_push p (q ∷ ts) t = progress_push (with_turn p q) ts t

none_push : (p : Progress) (ts : List Turn) (t : Turn) → NoneAt p ts → end_at (with_turn (progress_after p ts) t) (kind_of t.incoming) ≡ None → NoneAt p (ts ++ t ∷ [])
none_push p [] t h k = (k, tt)
none_push p (q ∷ ts) t h k = (h.0, none_push (with_turn p q) ts t h.1 k)

failures_push : (ts : List Turn) (t : Turn) → failures (ts ++ t ∷ []) ≡ failures ts + (lost_in t.outgoing + failed_in t.incoming)
failures_push [] t = omega arith
failures_push (q ∷ ts) t = omega (arith, failures_push ts t)

-- ---- one call more

pub calls_more : (p : Progress) (c : Came) → (with_call p c).calls ≡ p.calls + 1
calls_more p came.Idle = refl
calls_more p came.Over = refl
calls_more p came.Failed = refl
calls_more p came.Reply = refl
calls_more p came.Foreign = refl

pub failed_more : (p : Progress) (c : Came) → p.failed ≤ p.calls → (with_call p c).failed ≤ p.calls + 1
failed_more p came.Idle h = omega arith
failed_more p came.Over h = omega arith
failed_more p came.Failed h = omega (arith, h)
failed_more p came.Reply h = omega arith
failed_more p came.Foreign h = omega arith

pub foreign_more : (p : Progress) (c : Came) → p.foreign ≤ p.calls → (with_call p c).foreign ≤ p.calls + 1
foreign_more p came.Idle h = omega (arith, h)
foreign_more p came.Over h = omega (arith, h)
foreign_more p came.Failed h = omega (arith, h)
foreign_more p came.Reply h = omega (arith, h)
foreign_more p came.Foreign h = omega (arith, h)

-- ---- what is kept is what the turns say

calls_kept : (p : Progress) (ts : List Turn) → (progress_after p ts).calls ≡ p.calls + length ts
calls_kept p [] = omega arith
calls_kept p (t ∷ ts) = omega (arith, calls_kept (with_turn p t) ts, calls_more p (kind_of t.incoming))

one_failed : (p : Progress) (i : Incoming) → (with_call p (kind_of i)).failed ≡ cond (is_failed i) (p.failed + 1) 0
one_failed p idle = refl
one_failed p over = refl
one_failed p failed = refl
one_failed p (reply meta octets) = refl
one_failed p (foreign meta octets) = refl

failed_kept : (p : Progress) (ts : List Turn) → (progress_after p ts).failed ≡ failed_row p.failed ts
failed_kept p [] = refl
failed_kept p (t ∷ ts) = failed_kept (with_turn p t) ts ∙ ap (λ (n : ℕ). failed_row n ts) (one_failed p t.incoming)

one_foreign : (p : Progress) (i : Incoming) → (with_call p (kind_of i)).foreign ≡ p.foreign + foreign_in i
one_foreign p idle = omega arith
one_foreign p over = omega arith
one_foreign p failed = omega arith
one_foreign p (reply meta octets) = omega arith
one_foreign p (foreign meta octets) = refl

foreign_kept : (p : Progress) (ts : List Turn) → (progress_after p ts).foreign ≡ p.foreign + foreigns ts
foreign_kept p [] = omega arith
foreign_kept p (t ∷ ts) = omega (arith, foreign_kept (with_turn p t) ts, one_foreign p t.incoming)

over_kept : (i : Incoming) → was_over (kind_of i) ≡ is_over i
over_kept idle = refl
over_kept over = refl
over_kept failed = refl
over_kept (reply meta octets) = refl
over_kept (foreign meta octets) = refl

-- the end that is due by what is kept is due by the turns
end_kept : (ts : List Turn) (i : Incoming) → end_at (progress_after at_first ts) (kind_of i) ≡ end_due ts i
end_kept ts i =
    let p = progress_after at_first ts in
    let calls : p.calls ≡ length ts = omega (arith, calls_kept at_first ts) in
    ap (λ (b : Bool). end_by b p.failed p.calls) (over_kept i) ∙ ap (λ (n : ℕ). end_by (is_over i) n p.calls) (failed_kept at_first ts) ∙ ap (λ (n : ℕ). end_by (is_over i) (failed_row 0 ts) n) calls

none_at : (p : Progress) (before after : List Turn) (t : Turn) → NoneAt p (before ++ t ∷ after) → end_at (progress_after p (before ++ t ∷ [])) (kind_of t.incoming) ≡ None
none_at p [] after t h = h.0
none_at p (q ∷ before) after t h = none_at (with_turn p q) before after t h.1

none_due : (ts : List Turn) → NoneAt at_first ts → NoneDue ts
none_due ts h = λ before after turn e. sym (end_kept (before ++ turn ∷ []) turn.incoming) ∙ none_at at_first before after turn (subst (NoneAt at_first) e h)

others_kept : (p : Progress) (ts : List Turn) → progress_after at_first ts ≡ p → p.foreign ≡ foreigns ts
others_kept p ts e = let f = ap (λ (q : Progress). q.foreign) e in omega (arith, f, foreign_kept at_first ts)

-- ---- what a turn is told by

due_same : (a b : SendPlan) (x y : ℕ) (l k : List ℕ) (now : ℕ) → a ≡ b → x ≡ y → l ≡ k → due_at a x l now ≡ due_at b y k now
due_same a b x y l k now p q r = ap (λ (s : SendPlan). due_at s x l now) p ∙ ap (λ (n : ℕ). due_at b n l now) q ∙ ap (λ (m : List ℕ). due_at b y m now) r

out_same : (peer : Endpoint) (a b : SendPlan) (l k : List ℕ) (now : ℕ) (o : Outgoing) → a ≡ b → l ≡ k
    → outgoing_entries peer (request_octets a.ssid (length l) now) o ≡ outgoing_entries peer (request_octets b.ssid (length k) now) o
out_same peer a b l k now o p r =
    ap (λ (s : SendPlan). outgoing_entries peer (request_octets s.ssid (length l) now) o) p ∙ ap (λ (m : List ℕ). outgoing_entries peer (request_octets b.ssid (length m) now) o) r

ends_by : (plan : SendPlan) (start : ℕ) (turns : List Turn) (e : ProbeEnd) → e ≢ end.Finished → EndsAfter turns [] e → EndsBy plan start turns [] e
ends_by plan start turns end.Finished other h = absurd (other refl)
ends_by plan start turns end.End other h = h
ends_by plan start turns end.PortFault other h = h
ends_by plan start turns end.Budget other h = h

-- ---- the loop

-- a new sender took these turns, and no end was due
pub record Going (peer : Endpoint) (before after : Measurement) (log log' : Option (List PortEntry)) (faults faults' : ℕ) (p : Progress) : Type 0 where
  pub turns : List Turn
  pub are : AreTurns before.plan before.start peer [] turns
  pub none : NoneAt at_first turns
  pub progress : progress_after at_first turns ≡ p
  pub deeds : IsAfter (all_deeds [] turns) after
  pub written : Grows log log' (all_entries before.plan.ssid peer [] turns)
  pub rises : RisesBy (failures turns) faults faults'
  pub same : HasSamePlan before after

pub begins : (peer : Endpoint) (m : Measurement) (log : Option (List PortEntry)) (faults : ℕ) (p : Progress) → IsAfter [] m → p ≡ at_first → Going peer m m log log faults faults p
begins peer m log faults p fresh e = record {
  turns = [];
  are = tt;
  none = tt;
  progress = sym e;
  deeds = fresh;
  written = grows_none log;
  rises = rises_none faults faults refl;
  same = record { plan = refl; start = refl };
}

-- a moment is read at which nothing is due any more
pub finishes : (peer : Endpoint) (before after : Measurement) (k l m : Option (List PortEntry)) (faults faults' faults'' : ℕ) (p : Progress) (now : ℕ)
    → Going peer before after k l faults faults' p → Grows l m (read now ∷ []) → faults'' ≡ faults' → due_at after.plan after.start after.sendings now ≡ due.Finished
    → HasTaken peer before after k m faults faults'' end.Finished p.foreign
finishes peer before after k l m faults faults' faults'' p now g reading still is = record {
  turns = g.turns;
  last = read now ∷ [];
  are = g.are;
  ends = record {
    none = none_due g.turns g.none;
    moment = now;
    reading = refl;
    finished = rw (sym g.same.plan, sym g.same.start, sym g.deeds.sendings) is;
  };
  deeds = g.deeds;
  written = grows_then k l m (all_entries before.plan.ssid peer [] g.turns) (read now ∷ []) g.written reading;
  others = others_kept p g.turns g.progress;
  rises = subst (λ (n : ℕ). RisesBy (failures g.turns) faults n) (sym still) g.rises;
  same = g.same;
}

-- a turn more
record More (peer : Endpoint) (before after : Measurement) (log log' : Option (List PortEntry)) (faults faults' : ℕ) (p : Progress) (cm : Came) : Type 0 where
  turns : List Turn
  turn : Turn
  kind : cm ≡ kind_of turn.incoming
  are : AreTurns before.plan before.start peer [] (turns ++ turn ∷ [])
  none : NoneAt at_first turns
  progress : progress_after at_first (turns ++ turn ∷ []) ≡ p
  deeds : IsAfter (all_deeds [] (turns ++ turn ∷ [])) after
  written : Grows log log' (all_entries before.plan.ssid peer [] (turns ++ turn ∷ []))
  rises : RisesBy (failures (turns ++ turn ∷ [])) faults faults'
  same : HasSamePlan before after

module _ (peer : Endpoint) (before m₁ m₂ m₃ : Measurement) (k l₁ l₂ l₃ l₄ : Option (List PortEntry)) (f₀ f₁ f₂ f₃ f₄ : ℕ) (p p' : Progress) (now : ℕ) (cm : Came)
    (g : Going peer before m₁ k l₁ f₀ f₁ p) (reading : Grows l₁ l₂ (read now ∷ [])) (still : f₂ ≡ f₁)
    (s : HasSent peer now m₁ m₂ l₂ l₃ f₂ f₃) (r : HasReceived peer m₂ m₃ l₃ l₄ f₃ f₄ cm) (counted : p' ≡ with_call p cm) where
  turn : Turn
  turn = record { moment = now; outgoing = s.outgoing; incoming = r.incoming }

  more : More peer before m₃ k l₄ f₀ f₄ p' cm
  unfolding turn
  more = record {
    turns = g.turns;
    turn = turn;
    kind = r.kind;
    are = turns_push before.plan before.start peer [] g.turns turn g.are
        (record {
          fits = subst (λ (d : Due). Fits d s.outgoing) (due_same m₁.plan before.plan m₁.start before.start m₁.sendings (sendings (all_deeds [] g.turns)) now g.same.plan g.same.start g.deeds.sendings) s.fits;
          from = r.from;
        });
    none = g.none;
    progress = progress_push at_first g.turns turn ∙ ap (λ (q : Progress). with_call q (kind_of r.incoming)) g.progress ∙ ap (with_call p) (sym r.kind) ∙ sym counted;
    deeds = subst (λ (ds : List Deed). IsAfter ds m₃) (sym (deeds_push [] g.turns turn)) (r.deeds (sent_then s.outgoing now (all_deeds [] g.turns)) (s.deeds (all_deeds [] g.turns) g.deeds));
    written = subst (Grows k l₄) (sym (entries_push before.plan.ssid peer [] g.turns turn))
        (grows_then k l₁ l₄ (all_entries before.plan.ssid peer [] g.turns) (entries_of before.plan.ssid peer (all_deeds [] g.turns) turn) g.written
        (grows_then l₁ l₂ l₄ (read now ∷ []) (exchange before.plan.ssid peer (all_deeds [] g.turns) now s.outgoing r.incoming) reading
        (grows_then l₂ l₃ l₄ (outgoing_entries peer (request_octets before.plan.ssid (length (sendings (all_deeds [] g.turns))) now) s.outgoing) (incoming_entry r.incoming ∷ [])
        (subst (Grows l₂ l₃) (out_same peer m₁.plan before.plan m₁.sendings (sendings (all_deeds [] g.turns)) now s.outgoing g.same.plan g.deeds.sendings) s.written) r.written)));
    rises = subst (λ (n : ℕ). RisesBy n f₀ f₄) (sym (failures_push g.turns turn))
        (rises_then (failures g.turns) (lost_in s.outgoing + failed_in r.incoming) f₀ f₁ f₄ g.rises
        (rises_then (lost_in s.outgoing) (failed_in r.incoming) f₁ f₃ f₄ (subst (λ (n : ℕ). RisesBy (lost_in s.outgoing) n f₃) still s.rises) r.rises));
    same = record { plan = r.same.plan ∙ s.same.plan ∙ g.same.plan; start = r.same.start ∙ s.same.start ∙ g.same.start };
  }

  due_is : (o : Option ProbeEnd) → end_at p' cm ≡ o → end_at (with_turn (progress_after at_first more.turns) more.turn) (kind_of more.turn.incoming) ≡ o
  due_is o is =
      ap (λ (q : Progress). end_at q (kind_of more.turn.incoming)) (sym (progress_push at_first more.turns more.turn) ∙ more.progress) ∙ ap (end_at p') (sym more.kind) ∙ is

  -- no end is due
  pub goes_on : end_at p' cm ≡ None → Going peer before m₃ k l₄ f₀ f₄ p'
  goes_on none = record {
    turns = more.turns ++ more.turn ∷ [];
    are = more.are;
    none = none_push at_first more.turns more.turn more.none (due_is None none);
    progress = more.progress;
    deeds = more.deeds;
    written = more.written;
    rises = more.rises;
    same = more.same;
  }

  -- this end is due
  pub ends : (e : ProbeEnd) → e ≢ end.Finished → end_at p' cm ≡ Some e → HasTaken peer before m₃ k l₄ f₀ f₄ e p'.foreign
  ends e other is = record {
    turns = more.turns ++ more.turn ∷ [];
    last = [];
    are = more.are;
    ends = ends_by before.plan before.start (more.turns ++ more.turn ∷ []) e other (record {
      before = more.turns;
      turn = more.turn;
      whole = refl;
      none = none_due more.turns more.none;
      due = sym (end_kept (more.turns ++ more.turn ∷ []) more.turn.incoming) ∙ ap (λ (q : Progress). end_at q (kind_of more.turn.incoming)) (progress_push at_first more.turns more.turn) ∙ due_is (Some e) is;
      nothing = refl;
    });
    deeds = more.deeds;
    written = subst (Grows k l₄) (sym (append-nil (all_entries before.plan.ssid peer [] (more.turns ++ more.turn ∷ [])))) more.written;
    others = others_kept p' (more.turns ++ more.turn ∷ []) more.progress;
    rises = more.rises;
    same = more.same;
  }

cap_plus : (n others : ℕ) → min (capped n + others) (2 ^ 64 - 1) ≡ capped (n + others)
cap_plus n others = omega arith

pub counts_more : (ssid : ℕ) (ds : List Deed) (others : ℕ) (counts : Counts) → counts ≡ counts_of ssid ds
    → record counts { strangers = min (counts.strangers + others) (2 ^ 64 - 1) } ≡ counts_with ssid ds others
unfolding counts_of
counts_more ssid ds others counts e = rw e (ap (λ (n : ℕ). record (counts_of ssid ds) { strangers = n }) (cap_plus (strangers ssid ds) others))

-- ---- a whole measurement

pub not_begun : {S : Type 0} (local : Endpoint) (a b c d : PortShown S) (start : ℕ) → b.log ≡ a.log → Grows b.log c.log (read start ∷ []) → Grows c.log d.log (done ∷ []) → d.bound ≡ local ∷ [] → HasNotBegun local a d
not_begun local a b c d start same reading ended bound =
    inr ((start, subst (λ (l : Option (List PortEntry)). Grows l d.log (read start ∷ done ∷ [])) same (grows_then b.log c.log d.log (read start ∷ []) (done ∷ []) reading ended)), bound)

pub whole : (plan : SendPlan) (peer : Endpoint) (before after : Measurement) (a b c d e : Option (List PortEntry)) (f₀ f₁ f₂ f₃ : ℕ) (start others : ℕ) (counts : Counts) (en : ProbeEnd)
    → b ≡ a → Grows b c (read start ∷ []) → HasTaken peer before after c d f₁ f₂ en others → Grows d e (done ∷ []) → f₁ ≡ f₀ → f₃ ≡ f₂ → before.plan ≡ plan → before.start ≡ start
    → ((ds : List Deed) → IsAfter ds after → counts ≡ counts_with after.plan.ssid ds others) → Measures plan peer a e f₀ f₃ counts en
whole plan peer before after a b c d e f₀ f₁ f₂ f₃ start others counts en opened reading t ended still ending same first counted = record {
  start = start;
  turns = t.turns;
  last = t.last;
  are = subst (λ (n : ℕ). AreTurns plan n peer [] t.turns) first (subst (λ (s : SendPlan). AreTurns s before.start peer [] t.turns) same t.are);
  ends = subst (λ (n : ℕ). EndsBy plan n t.turns t.last en) first (subst (λ (s : SendPlan). EndsBy s before.start t.turns t.last en) same t.ends);
  written =
      let entries : List PortEntry = all_entries plan.ssid peer [] t.turns in
      let taken : Grows c d (entries ++ t.last) = subst (λ (s : SendPlan). Grows c d (all_entries s.ssid peer [] t.turns ++ t.last)) same t.written in
      let all : Grows b e (read start ∷ [] ++ ((entries ++ t.last) ++ done ∷ [])) =
      grows_then b c e (read start ∷ []) ((entries ++ t.last) ++ done ∷ []) reading (grows_then c d e (entries ++ t.last) (done ∷ []) taken ended) in
      subst (λ (l : Option (List PortEntry)). Grows l e (read start ∷ [] ++ entries ++ t.last ++ done ∷ [])) opened all;
  counted = counted (all_deeds [] t.turns) t.deeds ∙ ap (λ (s : SendPlan). counts_with s.ssid (all_deeds [] t.turns) others) (t.same.plan ∙ same)
      ∙ ap (counts_with plan.ssid (all_deeds [] t.turns)) t.others;
  rises = subst (λ (n : ℕ). RisesBy (failures t.turns) f₀ n) (sym ending) (subst (λ (n : ℕ). RisesBy (failures t.turns) n f₂) still t.rises);
}
