-- Parts of a run that start no session: the calls that end sessions, ticks, and the end of the run.
use Rattle.std.proofs.Common.{◌≡◌, ℕ, zero, suc, ◌+◌, ◌-◌, ◌≤◌, Bool, List, [], ◌∷◌, ◌++◌, take, Option, Some, None, refl, sym, ap, subst, ◌∙◌, ◌⊎◌, inl, inr, arith}
use Rattle.std.specs.Prelude.{cond}
use Rattle.refl_types.proofs.BitFacts.{true_or_false}
use Rattle.refl_types.specs.declared.outcome.Place.{Place}
use Rattle.net_io.specs.declared.desk.Timed.{Timed}
use Rattle.net_io.specs.declared.desk.DeskEvent.TheVariants as event
use Rattle.session_rule.specs.declared.seats.Table.{Table}
use Rattle.session_desk.specs.Book.{Book}
use Rattle.twamp_control.specs.declared.types.Stage.{Stage}
use Rattle.twamp_control.specs.declared.types.Stage.TheVariants.{SettingUp, Idle, Started, HungUp}
use Rattle.control_desk.specs.declared.own.OwnSession.{OwnSession}
use Rattle.control_desk.specs.declared.counts.DeskEnd.{DeskEnd}
use Rattle.control_desk.specs.declared.counts.DeskEnd.TheVariants as ends
use Rattle.control_desk.specs.declared.sides.OpenConnection.{OpenConnection}
use Rattle.control_desk.specs.declared.sides.Side.{Side}
use Rattle.control_desk.specs.declared.sides.Side.TheVariants.{Control, Operator}
use Rattle.control_desk.specs.Plan as plan
use Rattle.control_desk.specs.Plan.{Plan, Act, noted, called}
use Rattle.control_desk.specs.State.{Setting, DeskState, at_connections}
use Rattle.control_desk.specs.Control.{same_place, while_own, close_one, close_all, close_one_at, close_all_at, closing_moment, abandon_all, stop_all, end_all}
use Rattle.control_desk.specs.Run.{begun, desk_plan, hang_up_side, idle_plan, is_idle_side, ticked_plan, tick_plan}
use Rattle.control_desk.proofs.RunFacts.{desk_turn, desk_out, heard, unheard}
use Rattle.joined_desk.specs.declared.setup.JoinStage.{JoinStage}
use Rattle.joined_desk.specs.declared.setup.JoinStage.TheVariants as at
use Rattle.joined_desk.specs.Joined.{JoinState, after_hang_up, after_next, at_moment, given, given_in, octets_given, octets_in, stage_behind, stage_hung_up, tick_moment}
use Rattle.joined_run.specs.Sessions.{ReservedSession, started_from}
use Rattle.joined_run.proofs.Rests.{Rest, rest_hear, rest_hang_up, rest_close, rest_close_at, rest_abandon, rest_live_place, rest_tick, rest_stop}

take_none : (n : ℕ) → ◌≡◌ {A = List ℕ} (take n []) []
take_none zero = refl
take_none (suc n) = refl

-- Either the run is known to end by an end, or so many calls for an event are left
abbrev pub Lasts : DeskEnd → ℕ → ℕ → Type 0
Lasts fin need left = (fin ≡ ends.End) ⊎ (need ≤ left)

pub lasts_less : (fin : DeskEnd) (need less left : ℕ) → less ≤ need → Lasts fin need left → Lasts fin less left
lasts_less fin need less left le (inl e) = inl e
lasts_less fin need less left le (inr h) = inr (omega (arith, le, h))

pub lasts_after : (fin : DeskEnd) (need left after : ℕ) → after + 1 ≡ left → Lasts fin (need + 1) left → Lasts fin need after
lasts_after fin need left after e (inl i) = inl i
lasts_after fin need left after e (inr h) = inr (omega (arith, e, h))

module _ (t : Table) (fin : DeskEnd) (j' : JoinState) (b' : Book) where
  -- some acts have passed, by which no session was started, and the desk stands there
  pub record Passes (p : Plan) (k : JoinState) (acts : List Act) : Type 0 where
    pub others : List Act
    pub book : Book
    pub same : (rs : List ReservedSession) → started_from rs acts ≡ started_from rs others
    pub rest : Rest t fin p k j' book b' others

  pub passes_none : (p : Plan) (j : JoinState) (b : Book) (acts : List Act) → Rest t fin p j j' b b' acts → Passes p j acts
  passes_none p j b acts r = record { others = acts; book = b; same = λ rs. refl; rest = r }

  -- behind acts that have passed
  pub passes_on : (q : Plan) (k : JoinState) (acts others : List Act) → ((rs : List ReservedSession) → started_from rs acts ≡ started_from rs others) → Passes q k others → Passes q k acts
  passes_on q k acts others same h = record { others = h.others; book = h.book; same = λ rs. same rs ∙ h.same rs; rest = h.rest }

  pub started_same : (rs : List ReservedSession) (acts others : List Act) → acts ≡ others → started_from rs acts ≡ started_from rs others
  started_same rs acts others e = ap (started_from rs) e

  -- ---- ending sessions

  abandons_pass : (os : List OwnSession) (more : Plan) (j : JoinState) (b : Book) (acts : List Act) → Rest t fin (abandon_all os more) j j' b b' acts → Passes more j acts
  abandons_pass [] more j b acts r = passes_none more j b acts r
  abandons_pass (o ∷ os) more j b acts r =
      let a = (rest_abandon t fin j' b' o.place (λ x. abandon_all os more) j b acts r).1 in
      passes_on more j acts a.others (λ rs. started_same rs acts _ a.is) (abandons_pass os more j a.book a.others a.rest)

  owned : (o : OwnSession) (act more : Plan) (j : JoinState) (b : Book) (acts : List Act) (p : Option Place) → Rest t fin (while_own o act more p) j j' b b' acts → (Rest t fin act j j' b b' acts → Passes more j acts) → Passes more j acts
  owned o act more j b acts None r f = passes_none more j b acts r
  owned o act more j b acts (Some p) r f = elim (true_or_false (same_place p o.place)) [
    | inl y ↦ f (subst (λ (c : Bool). Rest t fin (cond c act more) j j' b b' acts) y r)
    | inr n ↦ passes_none more j b acts (subst (λ (c : Bool). Rest t fin (cond c act more) j j' b b' acts) n r)
  ]

  close_passes : (o : OwnSession) (more : Plan) (j : JoinState) (b : Book) (acts : List Act) → Rest t fin (close_one o more) j j' b b' acts → Passes more j acts
  close_passes o more j b acts r =
      let l = rest_live_place t fin j' b' o.key (while_own o (plan.close o.key (λ a. more)) more) j b acts r in
      passes_on more j acts l.1.others (λ rs. started_same rs acts _ l.1.is)
      (owned o (plan.close o.key (λ a. more)) more j l.1.book l.1.others l.0 l.1.rest (λ q.
      let c = (rest_close t fin j' b' o.key (λ a. more) j l.1.book l.1.others q).1 in
      passes_on more j l.1.others c.others (λ rs. started_same rs l.1.others _ c.is) (passes_none more j c.book c.others c.rest)))

  close_at_passes : (now : ℕ) (o : OwnSession) (more : Plan) (j : JoinState) (b : Book) (acts : List Act) → Rest t fin (close_one_at now o more) j j' b b' acts → Passes more j acts
  close_at_passes now o more j b acts r =
      let l = rest_live_place t fin j' b' o.key (while_own o (plan.close_at o.key (closing_moment now o) (λ a. more)) more) j b acts r in
      passes_on more j acts l.1.others (λ rs. started_same rs acts _ l.1.is)
      (owned o (plan.close_at o.key (closing_moment now o) (λ a. more)) more j l.1.book l.1.others l.0 l.1.rest (λ q.
      let c = (rest_close_at t fin j' b' o.key (closing_moment now o) (λ a. more) j l.1.book l.1.others q).1 in
      passes_on more j l.1.others c.others (λ rs. started_same rs l.1.others _ c.is) (passes_none more j c.book c.others c.rest)))

  closes_pass : (os : List OwnSession) (more : Plan) (j : JoinState) (b : Book) (acts : List Act) → Rest t fin (close_all os more) j j' b b' acts → Passes more j acts
  closes_pass [] more j b acts r = passes_none more j b acts r
  closes_pass (o ∷ os) more j b acts r =
      let c = close_passes o (close_all os more) j b acts r in
      passes_on more j acts c.others c.same (closes_pass os more j c.book c.others c.rest)

  closes_at_pass : (now : ℕ) (os : List OwnSession) (more : Plan) (j : JoinState) (b : Book) (acts : List Act) → Rest t fin (close_all_at now os more) j j' b b' acts → Passes more j acts
  closes_at_pass now [] more j b acts r = passes_none more j b acts r
  closes_at_pass now (o ∷ os) more j b acts r =
      let c = close_at_passes now o (close_all_at now os more) j b acts r in
      passes_on more j acts c.others c.same (closes_at_pass now os more j c.book c.others c.rest)

  pub ends_pass : (stage : Stage) (os : List OwnSession) (more : Plan) (j : JoinState) (b : Book) (acts : List Act) → Rest t fin (end_all stage os more) j j' b b' acts → Passes more j acts
  ends_pass Started os more j b acts r = closes_pass os more j b acts r
  ends_pass SettingUp os more j b acts r = abandons_pass os more j b acts r
  ends_pass Idle os more j b acts r = abandons_pass os more j b acts r
  ends_pass HungUp os more j b acts r = abandons_pass os more j b acts r

  pub stops_pass : (stage : Stage) (now : ℕ) (os : List OwnSession) (more : Plan) (j : JoinState) (b : Book) (acts : List Act) → Rest t fin (stop_all stage now os more) j j' b b' acts → Passes more j acts
  stops_pass Started now os more j b acts r = closes_at_pass now os more j b acts r
  stops_pass SettingUp now os more j b acts r = abandons_pass os more j b acts r
  stops_pass Idle now os more j b acts r = abandons_pass os more j b acts r
  stops_pass HungUp now os more j b acts r = abandons_pass os more j b acts r

  -- ---- a turn

  pub record Turn (f : Setting) (calls : ℕ) (s : DeskState) (j : JoinState) (b : Book) (acts : List Act) : Type 0 where
    pub left : ℕ
    pub fewer : left + 1 ≡ calls
    pub others : List Act
    pub same : (rs : List ReservedSession) → started_from rs acts ≡ started_from rs others
    pub rest : Rest t fin (heard f left s (given j) (octets_given j)) (after_next j) j' b b' others

  pub turn : (f : Setting) (left failed : ℕ) (s : DeskState) (j : JoinState) (b : Book) (acts : List Act) → Lasts fin 1 left → Rest t fin (desk_plan f left failed s) j j' b b' acts → Turn f left s j b acts
  turn f zero failed s j b acts (inr h) r = absurd (omega (arith, h))
  turn f zero failed s j b acts (inl end) r =
      let q = rest_stop t fin j' b' ends.Budget j b acts (subst (λ (p : Plan). Rest t fin p j j' b b' acts) (desk_out f 0 failed s (omega arith)) r) in
      let no : ends.Budget ≡ ends.End = q.1 ∙ end in absurd cc
  turn f (suc m) failed s j b acts lasts r =
      let h = rest_hear t fin j' b' (heard f (suc m - 1) s) (unheard f (suc m - 1) failed s) j b acts (subst (λ (p : Plan). Rest t fin p j j' b b' acts) (desk_turn f (suc m) failed s (omega arith)) r) in
      record { left = suc m - 1; fewer = omega arith; others = h.others; same = λ rs. started_same rs acts _ h.is; rest = h.rest }

  -- the same, where it is known what comes
  pub turn_with : (f : Setting) (left failed : ℕ) (s : DeskState) (j : JoinState) (b : Book) (acts : List Act) (u : Timed) (octets : List ℕ) (need : ℕ) → Lasts fin (need + 1) left → Rest t fin (desk_plan f left failed s) j j' b b' acts → given j ≡ u → octets_given j ≡ octets
      → (m : ℕ) × (others : List Act) × Lasts fin need m × ((rs : List ReservedSession) → started_from rs acts ≡ started_from rs others) × Rest t fin (heard f m s u octets) (after_next j) j' b b' others
  turn_with f left failed s j b acts u octets need lasts r eu eo =
      let h = turn f left failed s j b acts (lasts_less fin (need + 1) 1 left (omega arith) lasts) r in
      (h.left, h.others, lasts_after fin need left h.left h.fewer lasts, h.same, subst (λ (o : List ℕ). Rest t fin (heard f h.left s u o) (after_next j) j' b b' h.others) eo (subst (λ (v : Timed). Rest t fin (heard f h.left s v (octets_given j)) (after_next j) j' b b' h.others) eu h.rest))

  -- ---- the end

  -- no session is started any more, and the client stays as it is
  pub record IsQuiet (j : JoinState) (acts : List Act) : Type 0 where
    pub started : (rs : List ReservedSession) → started_from rs acts ≡ []
    pub client : j'.client ≡ j.client
    pub ended : fin ≡ ends.End

  over_quiet : (f : Setting) (left failed : ℕ) (s : DeskState) (j : JoinState) (b : Book) (acts : List Act) → j.stage ≡ at.Over → Lasts fin 1 left → Rest t fin (desk_plan f left failed s) j j' b b' acts → IsQuiet j acts
  over_quiet f left failed s j b acts e lasts r =
      let h = turn_with f left failed s j b acts (at_moment 0 event.End) [] 0 lasts r (ap (λ (g : JoinStage). given_in g j.setup j.pending) e) (ap (λ (g : JoinStage). octets_in g j.setup j.pending) e) in
      let q = rest_stop t fin j' b' ends.End (after_next j) b h.1 h.4 in
      record { started = λ rs. h.3 rs ∙ ap (started_from rs) q.0; client = ap (λ (k : JoinState). k.client) q.2; ended = sym q.1 }

  -- a connection is hung up where nothing more is carried
  pub record Stands (p : Plan) (j : JoinState) (acts : List Act) : Type 0 where
    pub desk : JoinState
    pub client : desk.client ≡ j.client
    pub stage : desk.stage ≡ at.Over
    pub passed : Passes p desk acts

  stands_on : (p : Plan) (j k : JoinState) (acts others : List Act) → k.client ≡ j.client → ((rs : List ReservedSession) → started_from rs acts ≡ started_from rs others) → Stands p k others → Stands p j acts
  stands_on p j k acts others e same h = record { desk = h.desk; client = h.client ∙ e; stage = h.stage; passed = passes_on p h.desk acts others same h.passed }

  hang_up_over : (n : ℕ) (gone : Plan) (j : JoinState) (b : Book) (acts : List Act) → j.stage ≡ at.Over → Rest t fin (plan.hang_up n gone) j j' b b' acts → Stands gone j acts
  hang_up_over n gone j b acts e r =
      let h = rest_hang_up t fin j' b' n gone j b acts r in
      record {
        desk = after_hang_up j n;
        client = refl;
        stage = ap (stage_hung_up n) e;
        passed = passes_on gone (after_hang_up j n) acts h.others (λ rs. started_same rs acts _ h.is) (passes_none gone (after_hang_up j n) b h.others h.rest);
      }

  side_over : (n : ℕ) (side : Side) (gone : Plan) (j : JoinState) (b : Book) (acts : List Act) → j.stage ≡ at.Over → Rest t fin (hang_up_side n side gone) j j' b b' acts → Stands gone j acts
  side_over n (Operator held) gone j b acts e r = hang_up_over n gone j b acts e r
  side_over n (Control c) gone j b acts e r =
      let h = hang_up_over n (end_all c.machine.stage c.sessions gone) j b acts e r in
      let q = ends_pass c.machine.stage c.sessions gone h.desk h.passed.book h.passed.others h.passed.rest in
      record { desk = h.desk; client = h.client; stage = h.stage; passed = passes_on gone h.desk acts h.passed.others h.passed.same q }

  pub record Idles (next : List OpenConnection → Plan) (j : JoinState) (acts : List Act) : Type 0 where
    pub kept : List OpenConnection
    pub stands : Stands (next kept) j acts

  idles : (now : ℕ) (next : List OpenConnection → Plan) (kept cs : List OpenConnection) (j : JoinState) (b : Book) (acts : List Act) → j.stage ≡ at.Over → Rest t fin (idle_plan now next kept cs) j j' b b' acts → Idles next j acts
  unfolding idle_plan
  idles now next kept [] j b acts e r = record { kept = kept; stands = record { desk = j; client = refl; stage = e; passed = passes_none (next kept) j b acts r } }
  idles now next kept (c ∷ cs) j b acts e r = elim (true_or_false (is_idle_side now c.side)) [
    | inl y ↦
        let q = subst (λ (x : Bool). Rest t fin (cond x (hang_up_side c.number c.side (idle_plan now next kept cs)) (idle_plan now next (kept ++ c ∷ []) cs)) j j' b b' acts) y r in
        let h = side_over c.number c.side (idle_plan now next kept cs) j b acts e q in
        let more = idles now next kept cs h.desk h.passed.book h.passed.others h.stage h.passed.rest in
        record { kept = more.kept; stands = stands_on (next more.kept) j h.desk acts h.passed.others h.client h.passed.same more.stands }
    | inr n ↦
        let q = subst (λ (x : Bool). Rest t fin (cond x (hang_up_side c.number c.side (idle_plan now next kept cs)) (idle_plan now next (kept ++ c ∷ []) cs)) j j' b b' acts) n r in
        idles now next (kept ++ c ∷ []) cs j b acts e q
  ]

  -- behind the last octets a tick comes, and then the end
  ticked_quiet : (f : Setting) (m now : ℕ) (s : DeskState) (j : JoinState) (b : Book) (acts : List Act) → j.stage ≡ at.Over → Lasts fin 1 m → Rest t fin (ticked_plan now (desk_plan f m 0) s) j j' b b' acts → IsQuiet j acts
  ticked_quiet f m now s j b acts e lasts r =
      let h = idles now (λ cs. tick_plan now (desk_plan f m 0) (at_connections s cs)) [] s.connections j b acts e r in
      let k = h.stands in
      let a = (rest_tick t fin j' b' now (λ x. desk_plan f m 0 (at_connections s h.kept)) k.desk k.passed.book k.passed.others k.passed.rest).1 in
      let q = over_quiet f m 0 (at_connections s h.kept) k.desk a.book a.others k.stage lasts a.rest in
      record { started = λ rs. k.passed.same rs ∙ started_same rs k.passed.others _ a.is ∙ q.started rs; client = q.client ∙ k.client; ended = q.ended }

  -- nothing more is carried: all was, or the server has hung up
  pub data IsSpent (j : JoinState) : Type 0 where
    all_carried : j.stage ≡ at.Carrying → j.pending ≡ [] → IsSpent j
    was_hung_up : j.stage ≡ at.HungUp → IsSpent j

  pub spent_quiet : (f : Setting) (left failed : ℕ) (s : DeskState) (j : JoinState) (b : Book) (acts : List Act) → IsSpent j → Lasts fin 2 left → Rest t fin (desk_plan f left failed s) j j' b b' acts → IsQuiet j acts
  spent_quiet f left failed s j b acts (all_carried e none) lasts r =
      let comes = ap (λ (g : JoinStage). given_in g j.setup j.pending) e ∙ ap (given_in at.Carrying j.setup) none in
      let octets = ap (λ (g : JoinStage). octets_in g j.setup j.pending) e ∙ ap (octets_in at.Carrying j.setup) none in
      let h = turn_with f left failed s j b acts (at_moment tick_moment event.Tick) [] 1 lasts r comes (octets ∙ take_none j.setup.piece) in
      let stage = ap (λ (g : JoinStage). stage_behind g j.pending) e ∙ ap (stage_behind at.Carrying) none in
      let q = ticked_quiet f h.0 tick_moment (begun s tick_moment) (after_next j) b h.1 stage h.2 h.4 in
      record { started = λ rs. h.3 rs ∙ q.started rs; client = q.client; ended = q.ended }
  spent_quiet f left failed s j b acts (was_hung_up e) lasts r =
      let h = turn_with f left failed s j b acts (at_moment tick_moment event.Tick) [] 1 lasts r (ap (λ (g : JoinStage). given_in g j.setup j.pending) e) (ap (λ (g : JoinStage). octets_in g j.setup j.pending) e) in
      let q = ticked_quiet f h.0 tick_moment (begun s tick_moment) (after_next j) b h.1 (ap (λ (g : JoinStage). stage_behind g j.pending) e) h.2 h.4 in
      record { started = λ rs. h.3 rs ∙ q.started rs; client = q.client; ended = q.ended }
