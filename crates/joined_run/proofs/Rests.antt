-- What is left of a run over a joined desk, act by act.
use Rattle.std.proofs.Common.{◌≡◌, ℕ, List, [], ◌∷◌, ◌++◌, Option, Result, refl, ap, subst, ◌∙◌}
use Rattle.refl_types.specs.declared.types.Key.{Key}
use Rattle.refl_types.specs.declared.types.Extra.{Extra}
use Rattle.refl_types.specs.declared.config.ConfigParts.{ConfigParts}
use Rattle.refl_types.specs.declared.outcome.Place.{Place}
use Rattle.net_io.specs.declared.desk.Timed.{Timed}
use Rattle.net_io.specs.Desk.{DeskEntry, opened, open_failed, gave, next_failed, sent, send_failed, hung_up, finished}
use Rattle.net_io.specs.declared.script_desk.DeskDeed.TheVariants as deed
use Rattle.session_rule.specs.declared.seats.Table.{Table}
use Rattle.session_desk.specs.declared.session.NoSuch.{NoSuch}
use Rattle.session_desk.specs.declared.session.ReserveFault.{ReserveFault}
use Rattle.session_desk.specs.declared.session.Ticked.{Ticked}
use Rattle.session_desk.specs.Book.{Book}
use Rattle.session_desk.specs.Makes.{BookCall, Makes, admits, reserves, keeps_row, starts, abandons, sets, closes, closes_at, counts, ticks, tells_length, tells_key, tells_place}
use Rattle.control_desk.specs.declared.counts.DeskEnd.{DeskEnd}
use Rattle.control_desk.specs.Plan as plan
use Rattle.control_desk.specs.Plan.{Plan, Act, noted, called, IsNext, Leads, MakesAll, entries_in}
use Rattle.control_desk.specs.Run.{GoesAll}
use Rattle.joined_desk.specs.Joined.{JoinState, JoinGoes, after_hang_up, after_next, after_send, given, octets_given, with_deed}

-- acts that lead from a plan to the end, by which the desk and the book went on to their last states
pub record Rest (t : Table) (fin : DeskEnd) (p : Plan) (j j' : JoinState) (b b' : Book) (acts : List Act) : Type 0 where
  pub leads : Leads p acts (plan.stop fin)
  pub gone : GoesAll JoinGoes (entries_in acts ++ finished ∷ []) j j'
  pub made : MakesAll t acts b b'

module _ (t : Table) (fin : DeskEnd) (j' : JoinState) (b' : Book) where
  pub record AfterNext (g : Timed → List ℕ → Plan) (j : JoinState) (b : Book) (acts : List Act) : Type 0 where
    pub others : List Act
    pub is : acts ≡ noted (gave (given j) (octets_given j)) ∷ others
    pub rest : Rest t fin (g (given j) (octets_given j)) (after_next j) j' b b' others

  pub rest_hear : (g : Timed → List ℕ → Plan) (failed : Plan) (j : JoinState) (b : Book) (acts : List Act) → Rest t fin (plan.hear g failed) j j' b b' acts → AfterNext g j b acts
  rest_hear g failed j b [] r = let e : plan.stop fin ≡ plan.hear g failed = r.leads in absurd cc
  rest_hear g failed j b (noted (gave u o) ∷ acts) r =
      let go = r.gone.1 in
      let same : gave u o ≡ gave (given j) (octets_given j) = let a = go.0 in let c = go.1 in cc in
      record {
        others = acts;
        is = ap (λ (e : DeskEntry). noted e ∷ acts) same;
        rest = record {
          leads = subst (λ (p : Plan). Leads p acts (plan.stop fin)) (r.leads.1 ∙ ap (λ (v : Timed). g v o) go.0 ∙ ap (g (given j)) go.1) r.leads.2;
          gone = subst (λ (k : JoinState). GoesAll JoinGoes (entries_in acts ++ finished ∷ []) k j') go.2 r.gone.2;
          made = r.made;
        };
      }
  rest_hear g failed j b (noted next_failed ∷ acts) r = absurd r.gone.1
  rest_hear g failed j b (noted (opened x y) ∷ acts) r = absurd r.leads.1
  rest_hear g failed j b (noted open_failed ∷ acts) r = absurd r.leads.1
  rest_hear g failed j b (noted (sent m o) ∷ acts) r = absurd r.leads.1
  rest_hear g failed j b (noted (send_failed m o) ∷ acts) r = absurd r.leads.1
  rest_hear g failed j b (noted (hung_up m) ∷ acts) r = absurd r.leads.1
  rest_hear g failed j b (noted finished ∷ acts) r = absurd r.leads.1
  rest_hear g failed j b (called call ∷ acts) r = absurd r.leads.1

  pub record AfterEntry (e : DeskEntry) (p : Plan) (k : JoinState) (b : Book) (acts : List Act) : Type 0 where
    pub others : List Act
    pub is : acts ≡ noted e ∷ others
    pub rest : Rest t fin p k j' b b' others

  pub rest_send : (n : ℕ) (octets : List ℕ) (ok failed : Plan) (j : JoinState) (b : Book) (acts : List Act) → Rest t fin (plan.send n octets ok failed) j j' b b' acts → AfterEntry (sent n octets) ok (after_send j n octets) b acts
  rest_send n octets ok failed j b [] r = let e : plan.stop fin ≡ plan.send n octets ok failed = r.leads in absurd cc
  rest_send n octets ok failed j b (noted (sent m o) ∷ acts) r =
      let l = r.leads.1 in
      record {
        others = acts;
        is = ap (λ (k : ℕ). noted (sent k o) ∷ acts) l.0 ∙ ap (λ (k : List ℕ). noted (sent n k) ∷ acts) l.1;
        rest = record {
          leads = subst (λ (p : Plan). Leads p acts (plan.stop fin)) l.2 r.leads.2;
          gone = subst (λ (k : JoinState). GoesAll JoinGoes (entries_in acts ++ finished ∷ []) k j') (r.gone.1 ∙ ap (λ (k : ℕ). after_send j k o) l.0 ∙ ap (after_send j n) l.1) r.gone.2;
          made = r.made;
        };
      }
  rest_send n octets ok failed j b (noted (send_failed m o) ∷ acts) r = absurd r.gone.1
  rest_send n octets ok failed j b (noted (opened x y) ∷ acts) r = absurd r.leads.1
  rest_send n octets ok failed j b (noted open_failed ∷ acts) r = absurd r.leads.1
  rest_send n octets ok failed j b (noted (gave t o) ∷ acts) r = absurd r.leads.1
  rest_send n octets ok failed j b (noted next_failed ∷ acts) r = absurd r.leads.1
  rest_send n octets ok failed j b (noted (hung_up m) ∷ acts) r = absurd r.leads.1
  rest_send n octets ok failed j b (noted finished ∷ acts) r = absurd r.leads.1
  rest_send n octets ok failed j b (called call ∷ acts) r = absurd r.leads.1

  pub rest_hang_up : (n : ℕ) (next : Plan) (j : JoinState) (b : Book) (acts : List Act) → Rest t fin (plan.hang_up n next) j j' b b' acts → AfterEntry (hung_up n) next (after_hang_up j n) b acts
  rest_hang_up n next j b [] r = let e : plan.stop fin ≡ plan.hang_up n next = r.leads in absurd cc
  rest_hang_up n next j b (noted (hung_up m) ∷ acts) r =
      let l = r.leads.1 in
      record {
        others = acts;
        is = ap (λ (k : ℕ). noted (hung_up k) ∷ acts) l.0;
        rest = record {
          leads = subst (λ (p : Plan). Leads p acts (plan.stop fin)) l.1 r.leads.2;
          gone = subst (λ (k : JoinState). GoesAll JoinGoes (entries_in acts ++ finished ∷ []) k j') (r.gone.1 ∙ ap (after_hang_up j) l.0) r.gone.2;
          made = r.made;
        };
      }
  rest_hang_up n next j b (noted (opened x y) ∷ acts) r = absurd r.leads.1
  rest_hang_up n next j b (noted open_failed ∷ acts) r = absurd r.leads.1
  rest_hang_up n next j b (noted (gave t o) ∷ acts) r = absurd r.leads.1
  rest_hang_up n next j b (noted next_failed ∷ acts) r = absurd r.leads.1
  rest_hang_up n next j b (noted (sent m o) ∷ acts) r = absurd r.leads.1
  rest_hang_up n next j b (noted (send_failed m o) ∷ acts) r = absurd r.leads.1
  rest_hang_up n next j b (noted finished ∷ acts) r = absurd r.leads.1
  rest_hang_up n next j b (called call ∷ acts) r = absurd r.leads.1

  pub record AfterCall (call : BookCall) (p : Plan) (j : JoinState) (b : Book) (acts : List Act) : Type 0 where
    pub others : List Act
    pub book : Book
    pub is : acts ≡ called call ∷ others
    pub makes : Makes t call b book
    pub rest : Rest t fin p j j' book b' others

  after_call : (c d : BookCall) (p q : Plan) (j : JoinState) (b : Book) (acts : List Act) (m : Plan) → c ≡ d → q ≡ p → Leads q acts (plan.stop fin) → GoesAll JoinGoes (entries_in acts ++ finished ∷ []) j j' → MakesAll t (called c ∷ acts) b b' → AfterCall d p j b (called c ∷ acts)
  after_call c d p q j b acts m e pq l g made = record {
    others = acts;
    book = made.0;
    is = ap (λ (k : BookCall). called k ∷ acts) e;
    makes = subst (λ (k : BookCall). Makes t k b made.0) e made.1;
    rest = record { leads = subst (λ (r : Plan). Leads r acts (plan.stop fin)) pq l; gone = g; made = made.2 };
  }

  pub rest_reserve : (k : Key) (x : Extra) (c : ConfigParts) (w : ℕ) (next : Result Place ReserveFault → Plan) (j : JoinState) (b : Book) (acts : List Act) → Rest t fin (plan.reserve k x c w next) j j' b b' acts → (answer : Result Place ReserveFault) × AfterCall (reserves k x c w answer) (next answer) j b acts
  rest_reserve k x c w next j b [] r = let e : plan.stop fin ≡ plan.reserve k x c w next = r.leads in absurd cc
  rest_reserve k x c w next j b (noted e ∷ acts) r = absurd r.leads.1
  rest_reserve k x c w next j b (called (admits z0 z1 z2) ∷ acts) r = absurd r.leads.1
  rest_reserve k x c w next j b (called (reserves k' x' c' w' answer) ∷ acts) r =
      let same : reserves k' x' c' w' answer ≡ reserves k x c w answer = let e0 = r.leads.1.0 in let e1 = r.leads.1.1 in let e2 = r.leads.1.2 in let e3 = r.leads.1.3 in cc in
      (answer, after_call (reserves k' x' c' w' answer) (reserves k x c w answer) (next answer) r.leads.0 j b acts r.leads.0 same r.leads.1.4 r.leads.2 r.gone r.made)
  rest_reserve k x c w next j b (called (keeps_row z0 z1) ∷ acts) r = absurd r.leads.1
  rest_reserve k x c w next j b (called (starts z0 z1 z2) ∷ acts) r = absurd r.leads.1
  rest_reserve k x c w next j b (called (abandons z0 z1) ∷ acts) r = absurd r.leads.1
  rest_reserve k x c w next j b (called (sets z0 z1 z2) ∷ acts) r = absurd r.leads.1
  rest_reserve k x c w next j b (called (closes z0 z1) ∷ acts) r = absurd r.leads.1
  rest_reserve k x c w next j b (called (closes_at z0 z1 z2) ∷ acts) r = absurd r.leads.1
  rest_reserve k x c w next j b (called (counts z0 z1) ∷ acts) r = absurd r.leads.1
  rest_reserve k x c w next j b (called (ticks z0 z1) ∷ acts) r = absurd r.leads.1
  rest_reserve k x c w next j b (called (tells_length z0) ∷ acts) r = absurd r.leads.1
  rest_reserve k x c w next j b (called (tells_key z0 z1) ∷ acts) r = absurd r.leads.1
  rest_reserve k x c w next j b (called (tells_place z0 z1) ∷ acts) r = absurd r.leads.1

  pub rest_start : (p : Place) (w : ℕ) (next : Result (Unit {0}) NoSuch → Plan) (j : JoinState) (b : Book) (acts : List Act) → Rest t fin (plan.start p w next) j j' b b' acts → (answer : Result (Unit {0}) NoSuch) × AfterCall (starts p w answer) (next answer) j b acts
  rest_start p w next j b [] r = let e : plan.stop fin ≡ plan.start p w next = r.leads in absurd cc
  rest_start p w next j b (noted e ∷ acts) r = absurd r.leads.1
  rest_start p w next j b (called (admits z0 z1 z2) ∷ acts) r = absurd r.leads.1
  rest_start p w next j b (called (reserves z0 z1 z2 z3 z4) ∷ acts) r = absurd r.leads.1
  rest_start p w next j b (called (keeps_row z0 z1) ∷ acts) r = absurd r.leads.1
  rest_start p w next j b (called (starts p' w' answer) ∷ acts) r =
      let same : starts p' w' answer ≡ starts p w answer = let e0 = r.leads.1.0 in let e1 = r.leads.1.1 in cc in
      (answer, after_call (starts p' w' answer) (starts p w answer) (next answer) r.leads.0 j b acts r.leads.0 same r.leads.1.2 r.leads.2 r.gone r.made)
  rest_start p w next j b (called (abandons z0 z1) ∷ acts) r = absurd r.leads.1
  rest_start p w next j b (called (sets z0 z1 z2) ∷ acts) r = absurd r.leads.1
  rest_start p w next j b (called (closes z0 z1) ∷ acts) r = absurd r.leads.1
  rest_start p w next j b (called (closes_at z0 z1 z2) ∷ acts) r = absurd r.leads.1
  rest_start p w next j b (called (counts z0 z1) ∷ acts) r = absurd r.leads.1
  rest_start p w next j b (called (ticks z0 z1) ∷ acts) r = absurd r.leads.1
  rest_start p w next j b (called (tells_length z0) ∷ acts) r = absurd r.leads.1
  rest_start p w next j b (called (tells_key z0 z1) ∷ acts) r = absurd r.leads.1
  rest_start p w next j b (called (tells_place z0 z1) ∷ acts) r = absurd r.leads.1

  pub rest_abandon : (p : Place) (next : Result (Unit {0}) NoSuch → Plan) (j : JoinState) (b : Book) (acts : List Act) → Rest t fin (plan.abandon p next) j j' b b' acts → (answer : Result (Unit {0}) NoSuch) × AfterCall (abandons p answer) (next answer) j b acts
  rest_abandon p next j b [] r = let e : plan.stop fin ≡ plan.abandon p next = r.leads in absurd cc
  rest_abandon p next j b (noted e ∷ acts) r = absurd r.leads.1
  rest_abandon p next j b (called (admits z0 z1 z2) ∷ acts) r = absurd r.leads.1
  rest_abandon p next j b (called (reserves z0 z1 z2 z3 z4) ∷ acts) r = absurd r.leads.1
  rest_abandon p next j b (called (keeps_row z0 z1) ∷ acts) r = absurd r.leads.1
  rest_abandon p next j b (called (starts z0 z1 z2) ∷ acts) r = absurd r.leads.1
  rest_abandon p next j b (called (abandons p' answer) ∷ acts) r =
      let same : abandons p' answer ≡ abandons p answer = let e0 = r.leads.1.0 in cc in
      (answer, after_call (abandons p' answer) (abandons p answer) (next answer) r.leads.0 j b acts r.leads.0 same r.leads.1.1 r.leads.2 r.gone r.made)
  rest_abandon p next j b (called (sets z0 z1 z2) ∷ acts) r = absurd r.leads.1
  rest_abandon p next j b (called (closes z0 z1) ∷ acts) r = absurd r.leads.1
  rest_abandon p next j b (called (closes_at z0 z1 z2) ∷ acts) r = absurd r.leads.1
  rest_abandon p next j b (called (counts z0 z1) ∷ acts) r = absurd r.leads.1
  rest_abandon p next j b (called (ticks z0 z1) ∷ acts) r = absurd r.leads.1
  rest_abandon p next j b (called (tells_length z0) ∷ acts) r = absurd r.leads.1
  rest_abandon p next j b (called (tells_key z0 z1) ∷ acts) r = absurd r.leads.1
  rest_abandon p next j b (called (tells_place z0 z1) ∷ acts) r = absurd r.leads.1

  pub rest_close : (k : Key) (next : Result ℕ NoSuch → Plan) (j : JoinState) (b : Book) (acts : List Act) → Rest t fin (plan.close k next) j j' b b' acts → (answer : Result ℕ NoSuch) × AfterCall (closes k answer) (next answer) j b acts
  rest_close k next j b [] r = let e : plan.stop fin ≡ plan.close k next = r.leads in absurd cc
  rest_close k next j b (noted e ∷ acts) r = absurd r.leads.1
  rest_close k next j b (called (admits z0 z1 z2) ∷ acts) r = absurd r.leads.1
  rest_close k next j b (called (reserves z0 z1 z2 z3 z4) ∷ acts) r = absurd r.leads.1
  rest_close k next j b (called (keeps_row z0 z1) ∷ acts) r = absurd r.leads.1
  rest_close k next j b (called (starts z0 z1 z2) ∷ acts) r = absurd r.leads.1
  rest_close k next j b (called (abandons z0 z1) ∷ acts) r = absurd r.leads.1
  rest_close k next j b (called (sets z0 z1 z2) ∷ acts) r = absurd r.leads.1
  rest_close k next j b (called (closes k' answer) ∷ acts) r =
      let same : closes k' answer ≡ closes k answer = let e0 = r.leads.1.0 in cc in
      (answer, after_call (closes k' answer) (closes k answer) (next answer) r.leads.0 j b acts r.leads.0 same r.leads.1.1 r.leads.2 r.gone r.made)
  rest_close k next j b (called (closes_at z0 z1 z2) ∷ acts) r = absurd r.leads.1
  rest_close k next j b (called (counts z0 z1) ∷ acts) r = absurd r.leads.1
  rest_close k next j b (called (ticks z0 z1) ∷ acts) r = absurd r.leads.1
  rest_close k next j b (called (tells_length z0) ∷ acts) r = absurd r.leads.1
  rest_close k next j b (called (tells_key z0 z1) ∷ acts) r = absurd r.leads.1
  rest_close k next j b (called (tells_place z0 z1) ∷ acts) r = absurd r.leads.1

  pub rest_close_at : (k : Key) (w : ℕ) (next : Result (Unit {0}) NoSuch → Plan) (j : JoinState) (b : Book) (acts : List Act) → Rest t fin (plan.close_at k w next) j j' b b' acts → (answer : Result (Unit {0}) NoSuch) × AfterCall (closes_at k w answer) (next answer) j b acts
  rest_close_at k w next j b [] r = let e : plan.stop fin ≡ plan.close_at k w next = r.leads in absurd cc
  rest_close_at k w next j b (noted e ∷ acts) r = absurd r.leads.1
  rest_close_at k w next j b (called (admits z0 z1 z2) ∷ acts) r = absurd r.leads.1
  rest_close_at k w next j b (called (reserves z0 z1 z2 z3 z4) ∷ acts) r = absurd r.leads.1
  rest_close_at k w next j b (called (keeps_row z0 z1) ∷ acts) r = absurd r.leads.1
  rest_close_at k w next j b (called (starts z0 z1 z2) ∷ acts) r = absurd r.leads.1
  rest_close_at k w next j b (called (abandons z0 z1) ∷ acts) r = absurd r.leads.1
  rest_close_at k w next j b (called (sets z0 z1 z2) ∷ acts) r = absurd r.leads.1
  rest_close_at k w next j b (called (closes z0 z1) ∷ acts) r = absurd r.leads.1
  rest_close_at k w next j b (called (closes_at k' w' answer) ∷ acts) r =
      let same : closes_at k' w' answer ≡ closes_at k w answer = let e0 = r.leads.1.0 in let e1 = r.leads.1.1 in cc in
      (answer, after_call (closes_at k' w' answer) (closes_at k w answer) (next answer) r.leads.0 j b acts r.leads.0 same r.leads.1.2 r.leads.2 r.gone r.made)
  rest_close_at k w next j b (called (counts z0 z1) ∷ acts) r = absurd r.leads.1
  rest_close_at k w next j b (called (ticks z0 z1) ∷ acts) r = absurd r.leads.1
  rest_close_at k w next j b (called (tells_length z0) ∷ acts) r = absurd r.leads.1
  rest_close_at k w next j b (called (tells_key z0 z1) ∷ acts) r = absurd r.leads.1
  rest_close_at k w next j b (called (tells_place z0 z1) ∷ acts) r = absurd r.leads.1

  pub rest_tick : (w : ℕ) (next : Ticked → Plan) (j : JoinState) (b : Book) (acts : List Act) → Rest t fin (plan.tick w next) j j' b b' acts → (answer : Ticked) × AfterCall (ticks w answer) (next answer) j b acts
  rest_tick w next j b [] r = let e : plan.stop fin ≡ plan.tick w next = r.leads in absurd cc
  rest_tick w next j b (noted e ∷ acts) r = absurd r.leads.1
  rest_tick w next j b (called (admits z0 z1 z2) ∷ acts) r = absurd r.leads.1
  rest_tick w next j b (called (reserves z0 z1 z2 z3 z4) ∷ acts) r = absurd r.leads.1
  rest_tick w next j b (called (keeps_row z0 z1) ∷ acts) r = absurd r.leads.1
  rest_tick w next j b (called (starts z0 z1 z2) ∷ acts) r = absurd r.leads.1
  rest_tick w next j b (called (abandons z0 z1) ∷ acts) r = absurd r.leads.1
  rest_tick w next j b (called (sets z0 z1 z2) ∷ acts) r = absurd r.leads.1
  rest_tick w next j b (called (closes z0 z1) ∷ acts) r = absurd r.leads.1
  rest_tick w next j b (called (closes_at z0 z1 z2) ∷ acts) r = absurd r.leads.1
  rest_tick w next j b (called (counts z0 z1) ∷ acts) r = absurd r.leads.1
  rest_tick w next j b (called (ticks w' answer) ∷ acts) r =
      let same : ticks w' answer ≡ ticks w answer = let e0 = r.leads.1.0 in cc in
      (answer, after_call (ticks w' answer) (ticks w answer) (next answer) r.leads.0 j b acts r.leads.0 same r.leads.1.1 r.leads.2 r.gone r.made)
  rest_tick w next j b (called (tells_length z0) ∷ acts) r = absurd r.leads.1
  rest_tick w next j b (called (tells_key z0 z1) ∷ acts) r = absurd r.leads.1
  rest_tick w next j b (called (tells_place z0 z1) ∷ acts) r = absurd r.leads.1

  pub rest_live_place : (k : Key) (next : Option Place → Plan) (j : JoinState) (b : Book) (acts : List Act) → Rest t fin (plan.live_place k next) j j' b b' acts → (answer : Option Place) × AfterCall (tells_place k answer) (next answer) j b acts
  rest_live_place k next j b [] r = let e : plan.stop fin ≡ plan.live_place k next = r.leads in absurd cc
  rest_live_place k next j b (noted e ∷ acts) r = absurd r.leads.1
  rest_live_place k next j b (called (admits z0 z1 z2) ∷ acts) r = absurd r.leads.1
  rest_live_place k next j b (called (reserves z0 z1 z2 z3 z4) ∷ acts) r = absurd r.leads.1
  rest_live_place k next j b (called (keeps_row z0 z1) ∷ acts) r = absurd r.leads.1
  rest_live_place k next j b (called (starts z0 z1 z2) ∷ acts) r = absurd r.leads.1
  rest_live_place k next j b (called (abandons z0 z1) ∷ acts) r = absurd r.leads.1
  rest_live_place k next j b (called (sets z0 z1 z2) ∷ acts) r = absurd r.leads.1
  rest_live_place k next j b (called (closes z0 z1) ∷ acts) r = absurd r.leads.1
  rest_live_place k next j b (called (closes_at z0 z1 z2) ∷ acts) r = absurd r.leads.1
  rest_live_place k next j b (called (counts z0 z1) ∷ acts) r = absurd r.leads.1
  rest_live_place k next j b (called (ticks z0 z1) ∷ acts) r = absurd r.leads.1
  rest_live_place k next j b (called (tells_length z0) ∷ acts) r = absurd r.leads.1
  rest_live_place k next j b (called (tells_key z0 z1) ∷ acts) r = absurd r.leads.1
  rest_live_place k next j b (called (tells_place k' answer) ∷ acts) r =
      let same : tells_place k' answer ≡ tells_place k answer = let e0 = r.leads.1.0 in cc in
      (answer, after_call (tells_place k' answer) (tells_place k answer) (next answer) r.leads.0 j b acts r.leads.0 same r.leads.1.1 r.leads.2 r.gone r.made)

  pub rest_stop : (e : DeskEnd) (j : JoinState) (b : Book) (acts : List Act) → Rest t fin (plan.stop e) j j' b b' acts → (acts ≡ []) × (e ≡ fin) × (j' ≡ with_deed j deed.Finished [])
  rest_stop e j b [] r = (refl, let s : plan.stop fin ≡ plan.stop e = r.leads in let q : e ≡ fin = cc in q, r.gone.2 ∙ r.gone.1)
  rest_stop e j b (noted n ∷ acts) r = absurd r.leads.1
  rest_stop e j b (called c ∷ acts) r = absurd r.leads.1
