-- A message of the client is heard by the server, in whatever pieces it is carried.
use Rattle.std.proofs.Common.{◌≡◌, ℕ, zero, suc, ◌+◌, ◌<◌, ◌≤◌, min, Bool, true, false, eqb, List, [], ◌∷◌, ◌++◌, length, take, drop, Some, refl, sym, ap, subst, ◌∙◌, append_assoc, inl, inr, arith}
use Rattle.std.specs.Prelude.{cond}
use Rattle.std.proofs.lemmas.List.{length-append, length-take, length-drop, take-append-drop, take_all, drop_all}
use Rattle.std.proofs.lemmas.Bool.{cases_lt}
use Rattle.std.proofs.lemmas.Bool.Decides.{nat_tests}
use Rattle.refl_types.proofs.BitFacts.{true_or_false}
use Rattle.net_io.specs.declared.desk.DeskEvent.TheVariants as event
use Rattle.session_rule.specs.declared.seats.Table.{Table}
use Rattle.session_desk.specs.Book.{Book}
use Rattle.twamp_control.specs.declared.types.Stage.{Stage}
use Rattle.twamp_control.specs.Stream.{command_length, message_length, message_of}
use Rattle.twamp_control.specs.Connection.{Connection, is_hung_up}
use Rattle.twamp_control.proofs.Streams.{completes, lacks, reading_at}
use Rattle.twamp_control.proofs.Feeding.{connection, feeds_part, feeds_whole, first_kept}
use Rattle.control_desk.specs.declared.sides.ControlSide.{ControlSide}
use Rattle.control_desk.specs.declared.sides.OpenConnection.{OpenConnection}
use Rattle.control_desk.specs.declared.sides.Side.{Side}
use Rattle.control_desk.specs.declared.sides.Side.TheVariants.{Control}
use Rattle.control_desk.specs.declared.counts.DeskEnd.{DeskEnd}
use Rattle.control_desk.specs.Plan.{Plan, Act}
use Rattle.control_desk.specs.State.{Setting, DeskState, put_side, side_in, with_side, without}
use Rattle.control_desk.specs.Control.{control_plan, message_plan}
use Rattle.control_desk.specs.Run.{begun, bytes_plan, behind_event, desk_plan}
use Rattle.control_desk.proofs.RunFacts.{heard}
use Rattle.control_desk.proofs.TalkFacts.{with_machine, fed_none, fed_some, heard_some}
use Rattle.joined_desk.specs.declared.setup.JoinStage.{JoinStage}
use Rattle.joined_desk.specs.declared.setup.JoinStage.TheVariants as at
use Rattle.joined_desk.specs.Joined.{JoinState, after_next, at_moment, carried, given_in, octets_in, pending_behind, stage_behind}
use Rattle.joined_run.specs.Sessions.{ReservedSession, started_from}
use Rattle.joined_run.proofs.Rests.{Rest}
use Rattle.joined_run.proofs.Passing.{Lasts, lasts_less, turn_with}

eqb-same : (m n : ℕ) → m ≡ n → eqb m n ≡ true
eqb-same m n e = grind (arith, nat_tests)

-- ---- the connection's side

pub side_put : (cs : List OpenConnection) (n : ℕ) (side other : Side) → side_in cs n ≡ Some other → side_in (put_side cs n side) n ≡ Some side
side_put [] n side other e = absurd cc
side_put (c ∷ cs) n side other e = elim (true_or_false (eqb c.number n)) [
  | inl y ↦ rw (y, eqb-same n n refl) refl
  | inr f ↦ rw (f, f) (side_put cs n side other (subst (λ (b : Bool). cond b (Some c.side) (side_in cs n) ≡ Some other) f e))
]

-- how the desk goes on behind a message, with so many calls left
abbrev pub goes_on : Setting → ℕ → DeskState → ControlSide → Plan
goes_on f left s d = desk_plan f left 0 (with_side s 0 (Control d))

abbrev pub is_gone : Setting → ℕ → DeskState → Plan
is_gone f left s = desk_plan f left 0 (without s 0)

control_heard : (f : Setting) (m : ℕ) (s : DeskState) (len : ℕ) (octets : List ℕ) (c : ControlSide) → side_in s.connections 0 ≡ Some (Control c)
    → heard f m s (at_moment 0 (event.Bytes 0 len)) octets ≡ control_plan f 0 0 (goes_on f m (begun s 0)) (is_gone f m (begun s 0)) c octets
control_heard f m s len octets c e = ap (bytes_plan f (begun s 0) 0 0 octets (behind_event (desk_plan f m 0))) e

-- ---- octets of one message

begins_part : (first : Bool) (held rest : List ℕ) (n whole : ℕ) → 0 < n → message_length first (held ++ rest) ≡ whole → message_length first (held ++ take n rest) ≡ whole
begins_part true held rest n whole lt e = e
begins_part false held rest n whole lt e = ap command_length (first_kept held rest n lt) ∙ e

module _ (f : Setting) (m : ℕ) (s : DeskState) (c : ControlSide) (start : ℕ) (stage : Stage) (mode sessions : ℕ) (going_on : is_hung_up stage ≡ false) (first : Bool) (held octets : List ℕ) (machine : c.machine ≡ connection start (reading_at first held) stage mode sessions) (some : 0 < length octets) where
  abbrev part_plan : Plan
  part_plan = control_plan f 0 0 (goes_on f m s) (is_gone f m s) c octets

  at_machine : part_plan ≡ control_plan f 0 0 (goes_on f m s) (is_gone f m s) (with_machine c 0 (connection start (reading_at first held) stage mode sessions)) octets
  at_machine = heard_some f 0 0 (goes_on f m s) (is_gone f m s) c octets some ∙ ap (λ (k : Connection). control_plan f 0 0 (goes_on f m s) (is_gone f m s) (with_machine c 0 k) octets) machine

  pub part_heard : (whole : ℕ) → message_length first (held ++ octets) ≡ whole → length held + length octets < whole → part_plan ≡ goes_on f m s (with_machine c 0 (connection start (reading_at first (held ++ octets)) stage mode sessions))
  part_heard whole len lt =
      let l = lacks octets first held whole (record { len = len }) lt in
      at_machine ∙ fed_none f 0 0 (goes_on f m s) (is_gone f m s) c (connection start (reading_at first held) stage mode sessions) (connection start (reading_at first (held ++ octets)) stage mode sessions) octets (length octets) (feeds_part start stage mode sessions going_on first held octets l)

  pub whole_heard : message_length first (held ++ octets) ≡ length held + length octets → part_plan ≡ message_plan f 0 0 (goes_on f m s) (is_gone f m s) (with_machine c 0 (connection start (reading_at false []) stage mode sessions)) (message_of first (held ++ octets) ∷ [])
  unfolding control_plan
  whole_heard len =
      let k = length octets in
      let all : take k octets ≡ octets = take_all k octets (omega arith) in
      let done = completes (take k octets) first held (length held + k) (record { len = ap (λ (o : List ℕ). message_length first (held ++ o)) all ∙ len }) (omega (arith, ap length all)) (omega (arith, ap length all)) in
      let x = message_of first (held ++ take k octets) in
      let new = connection start (reading_at false []) stage mode sessions in
      at_machine
      ∙ fed_some f 0 0 (goes_on f m s) (is_gone f m s) c (connection start (reading_at first held) stage mode sessions) new octets k x (feeds_whole start stage mode sessions going_on first held octets k (omega arith) done)
      ∙ ap (λ (o : List ℕ). message_plan f 0 0 (λ d. control_plan f 0 0 (goes_on f m s) (is_gone f m s) d o) (is_gone f m s) (with_machine c 0 new) (x ∷ [])) (drop_all k octets (omega arith))
      ∙ ap (λ (o : List ℕ). message_plan f 0 0 (goes_on f m s) (is_gone f m s) (with_machine c 0 new) (message_of first (held ++ o) ∷ [])) all

module _ (t : Table) (fin : DeskEnd) (j' : JoinState) (b' : Book) (f : Setting) (start : ℕ) (stage : Stage) (mode sessions : ℕ) (going_on : is_hung_up stage ≡ false) where
  -- the server has heard a whole message, and now does what it asks
  pub record Met (need : ℕ) (first : Bool) (message : List ℕ) (c : ControlSide) (j : JoinState) (b : Book) (acts : List Act) : Type 0 where
    pub left : ℕ
    pub lasts : Lasts fin need left
    pub state : DeskState
    pub side : Side
    pub has : side_in state.connections 0 ≡ Some side
    pub desk : JoinState
    pub client : desk.client ≡ j.client
    pub setup : desk.setup ≡ j.setup
    pub carrying : desk.stage ≡ at.Carrying
    pub pending : desk.pending ≡ []
    pub others : List Act
    pub same : (rs : List ReservedSession) → started_from rs acts ≡ started_from rs others
    pub rest : Rest t fin (message_plan f 0 0 (goes_on f left state) (is_gone f left state) (with_machine c 0 (connection start (reading_at false []) stage mode sessions)) (message_of first message ∷ [])) desk j' b b' others

  pub met : (need fuel left failed : ℕ) (s : DeskState) (c : ControlSide) (first : Bool) (held rest : List ℕ) (j : JoinState) (b : Book) (acts : List Act)
      → Lasts fin (length rest + need) left → length rest ≤ fuel → 0 < length rest → 0 < j.setup.piece
      → side_in s.connections 0 ≡ Some (Control c) → c.machine ≡ connection start (reading_at first held) stage mode sessions
      → message_length first (held ++ rest) ≡ length held + length rest
      → j.stage ≡ at.Carrying → j.pending ≡ rest
      → Rest t fin (desk_plan f left failed s) j j' b b' acts
      → Met need first (held ++ rest) c j b acts
  met need fuel left failed s c first held [] j b acts lasts most some pieces has machine len carrying pending r = absurd (omega arith)
  met need zero left failed s c first held (x ∷ rest) j b acts lasts most some pieces has machine len carrying pending r = absurd (omega arith)
  met need (suc fuel) left failed s c first held (x ∷ rest) j b acts lasts most some pieces has machine len carrying pending r =
      let piece = j.setup.piece in
      let all = x ∷ rest in
      let octets = take piece all in
      let comes = ap (λ (g : JoinStage). given_in g j.setup j.pending) carrying ∙ ap (carried piece) pending in
      let given = ap (λ (g : JoinStage). octets_in g j.setup j.pending) carrying ∙ ap (take piece) pending in
      let h = turn_with t fin j' b' f left failed s j b acts (carried piece all) octets (length rest + need) (lasts_less fin (length all + need) (length rest + need + 1) left (omega arith) lasts) r comes given in
      let m = h.0 in
      let q = subst (λ (p : Plan). Rest t fin p (after_next j) j' b b' h.1) (control_heard f m s (min piece (length all)) octets c has) h.4 in
      let size : length octets ≡ min piece (length all) = length-take piece all in
      let stays : (after_next j).stage ≡ at.Carrying = ap (λ (g : JoinStage). stage_behind g j.pending) carrying ∙ ap (stage_behind at.Carrying) pending in
      let left_over : (after_next j).pending ≡ drop piece all = ap (λ (g : JoinStage). pending_behind g j.setup j.pending) carrying ∙ ap (drop piece) pending in
      elim (cases_lt piece (length all)) [
        | inl lt ↦
            let plan = part_heard f m (begun s 0) c start stage mode sessions going_on first held octets machine (omega (arith, size)) (length held + length all) (begins_part first held all piece (length held + length all) pieces len) (omega (arith, size)) in
            let d = with_machine c 0 (connection start (reading_at first (held ++ octets)) stage mode sessions) in
            let joined : (held ++ octets) ++ drop piece all ≡ held ++ all = append_assoc held octets (drop piece all) ∙ ap (λ (o : List ℕ). held ++ o) (take-append-drop piece all) in
            let sum : length (held ++ octets) + length (drop piece all) ≡ length held + length all = omega (arith, length-append held octets, length-drop piece all, size) in
            let more = met need fuel m 0 (with_side (begun s 0) 0 (Control d)) d first (held ++ octets) (drop piece all) (after_next j) b h.1
            (lasts_less fin (length rest + need) (length (drop piece all) + need) m (omega (arith, length-drop piece all)) h.2) (omega (arith, length-drop piece all)) (omega (arith, length-drop piece all)) pieces (side_put s.connections 0 (Control d) (Control c) has) refl
            (ap (message_length first) joined ∙ len ∙ sym sum) stays left_over (subst (λ (p : Plan). Rest t fin p (after_next j) j' b b' h.1) plan q) in
            record {
              left = more.left;
              lasts = more.lasts;
              state = more.state;
              side = more.side;
              has = more.has;
              desk = more.desk;
              client = more.client;
              setup = more.setup;
              carrying = more.carrying;
              pending = more.pending;
              others = more.others;
              same = λ rs. h.3 rs ∙ more.same rs;
              rest = subst (λ (o : List ℕ). Rest t fin (message_plan f 0 0 (goes_on f more.left more.state) (is_gone f more.left more.state) (with_machine c 0 (connection start (reading_at false []) stage mode sessions)) (message_of first o ∷ [])) more.desk j' b b' more.others) joined more.rest;
            }
        | inr le ↦
            let whole : octets ≡ all = take_all piece all le in
            let plan = whole_heard f m (begun s 0) c start stage mode sessions going_on first held all machine some len in
            let q2 = subst (λ (o : List ℕ). Rest t fin (control_plan f 0 0 (goes_on f m (begun s 0)) (is_gone f m (begun s 0)) c o) (after_next j) j' b b' h.1) whole q in
            record {
              left = m;
              lasts = lasts_less fin (length rest + need) need m (omega arith) h.2;
              state = begun s 0;
              side = Control c;
              has = has;
              desk = after_next j;
              client = refl;
              setup = refl;
              carrying = stays;
              pending = left_over ∙ drop_all piece all le;
              others = h.1;
              same = h.3;
              rest = subst (λ (p : Plan). Rest t fin p (after_next j) j' b b' h.1) plan q2;
            }
      ]
