-- A request of the client: what comes of its candidates, and which sessions are reserved then.
use Rattle.std.proofs.Common.{◌≡◌, ℕ, ◌+◌, ◌^◌, ◌<◌, Bool, true, false, ◌&&◌, ◌||◌, not, eqb, List, [], ◌∷◌, ◌++◌, length, Option, Some, None, Result, Ok, Err, refl, sym, ap, subst, ◌∙◌, append_assoc, inl, inr, arith}
use Rattle.std.specs.Prelude.{cond, nat_le}
use Rattle.std.specs.List.{list_any, slice_get}
use Rattle.std.proofs.lemmas.List.{length-append}
use Rattle.refl_types.proofs.BitFacts.{true_or_false}
use Rattle.refl_types.specs.declared.types.Address.{Address}
use Rattle.refl_types.specs.declared.types.Endpoint.{Endpoint}
use Rattle.refl_types.specs.declared.types.Extra.{Extra}
use Rattle.refl_types.specs.declared.config.ConfigParts.{ConfigParts}
use Rattle.refl_types.specs.declared.outcome.Place.{Place}
use Rattle.control_msgs.specs.declared.codes.Accept.{Accept}
use Rattle.control_msgs.specs.declared.codes.Accept.TheVariants.{NotSupported, PermanentLimit, TemporaryLimit}
use Rattle.control_msgs.specs.declared.types.Request.{Request as SessionRequest}
use Rattle.control_msgs.specs.Codes.{accept_code}
use Rattle.session_rule.specs.declared.seats.Table.{Table}
use Rattle.session_desk.specs.declared.session.ReserveFault.{ReserveFault}
use Rattle.session_desk.specs.declared.session.ReserveFault.TheVariants.{Duplicate, ModeClash, NoKey, RowsFull, Full}
use Rattle.session_desk.specs.declared.session.Session.{Session}
use Rattle.session_desk.specs.Sessions.{is_in_slot, new_session}
use Rattle.session_desk.specs.Book.{Book}
use Rattle.session_desk.specs.Calls.{has_session}
use Rattle.session_desk.specs.Refusals.{IsUnmoved}
use Rattle.session_desk.specs.Makes.{Makes, reserves}
use Rattle.twamp_control.specs.declared.types.DeskAnswer.TheVariants.{Reserved, Refused}
use Rattle.control_desk.specs.declared.own.OwnSession.{OwnSession}
use Rattle.control_desk.specs.declared.sides.ControlSide.{ControlSide}
use Rattle.control_desk.specs.declared.counts.DeskEnd.{DeskEnd}
use Rattle.control_desk.specs.Plan.{Act, called}
use Rattle.control_desk.specs.State.{Setting}
use Rattle.control_desk.specs.Control.{Candidate, NextAnswer, candidates, chosen, chosen_one, extra_of, is_candidate, is_served, is_taken, key_at, or_else, own_session, request_plan, reserved_wait, session_limit, tried, try_all, under_twamp}
use Rattle.joined_desk.specs.Joined.{JoinState}
use Rattle.joined_run.specs.Sessions.{ReservedSession, port_of, started_from}
use Rattle.joined_run.proofs.Rests.{Rest, rest_reserve}

-- ---- candidates are locals

abbrev pub PortsFit : List Endpoint → Type 0
PortsFit [] = Unit {0}
PortsFit (l ∷ ls) = (l.port < 2 ^ 16) × PortsFit ls

pub record IsLocal (locals : List Endpoint) (c : Candidate) : Type 0 where
  pub port : port_of (slice_get locals c.local) ≡ c.port
  pub fits : c.port < 2 ^ 16

abbrev pub AreLocals : List Endpoint → List Candidate → Type 0
AreLocals locals [] = Unit {0}
AreLocals locals (c ∷ cs) = IsLocal locals c × AreLocals locals cs

locals_then : (locals : List Endpoint) (a b : List Candidate) → AreLocals locals a → AreLocals locals b → AreLocals locals (a ++ b)
locals_then locals [] b h k = k
locals_then locals (c ∷ a) b h k = (h.0, locals_then locals a b h.1 k)

get_middle : (before rest : List Endpoint) (l : Endpoint) → slice_get (before ++ l ∷ rest) (length before) ≡ Some l
get_middle [] rest l = refl
get_middle (x ∷ before) rest l = get_middle before rest l

chosen_locals : (test : Endpoint → Bool) (before ls : List Endpoint) (i : ℕ) → i ≡ length before → PortsFit ls → AreLocals (before ++ ls) (chosen test i ls)
chosen_locals test before [] i e h = tt
chosen_locals test before (l ∷ ls) i e h =
    let here : AreLocals (before ++ l ∷ ls) (chosen_one test i l) = one (test l) in
    let more = chosen_locals test (before ++ l ∷ []) ls (i + 1) (omega (arith, e, length-append before (l ∷ []))) h.1 in
    locals_then (before ++ l ∷ ls) (chosen_one test i l) (chosen test (i + 1) ls) here (subst (λ (x : List Endpoint). AreLocals x (chosen test (i + 1) ls)) (append_assoc before (l ∷ []) ls) more)
  where
    one : (b : Bool) → AreLocals (before ++ l ∷ ls) (cond b (record { local = i; port = l.port } ∷ []) [])
    one true = (record { port = ap (λ (k : ℕ). port_of (slice_get (before ++ l ∷ ls) k)) e ∙ ap port_of (get_middle before ls l); fits = h.0 }, tt)
    one false = tt

pub candidates_local : (locals : List Endpoint) (v6 : Bool) (a : Address) (port : ℕ) → PortsFit locals → AreLocals locals (candidates locals v6 a port)
candidates_local locals v6 a port h =
    locals_then locals (chosen (is_candidate v6 a port true) 0 locals) (chosen (is_candidate v6 a port false) 0 locals)
    (chosen_locals (is_candidate v6 a port true) [] locals 0 refl h) (chosen_locals (is_candidate v6 a port false) [] locals 0 refl h)

-- ---- what a refusal leaves

unmoved_reserved : (t : Table) (b c : Book) (e : ReserveFault) → IsUnmoved t b e c → c.reserved ≡ b.reserved
unmoved_reserved t b c (Duplicate k) h = ap (λ (x : Book). x.reserved) h
unmoved_reserved t b c (ModeClash k) h = ap (λ (x : Book). x.reserved) h
unmoved_reserved t b c NoKey h = ap (λ (x : Book). x.reserved) h
unmoved_reserved t b c RowsFull h = ap (λ (x : Book). x.reserved) h
unmoved_reserved t b c (Full live reserved retired held) h = ap (λ (x : Book). x.reserved) h.book

none_there : (b : Book) (i : ℕ) (x : Bool) → (not (has_session b i) && x) ≡ true → list_any (is_in_slot i) b.reserved ≡ false
none_there b i x e = lower (list_any (is_in_slot i) b.live) (list_any (is_in_slot i) b.reserved) x e where
  lower : (p q x : Bool) → (not (p || q) && x) ≡ true → q ≡ false
  lower true q x e = absurd cc
  lower false true x e = absurd cc
  lower false false x e = refl

module _ (t : Table) (fin : DeskEnd) (j' : JoinState) (b' : Book) (f : Setting) where
  -- a session was reserved at a local, in a slot that had none
  pub record Takes (next : NextAnswer) (j : JoinState) (b : Book) (acts : List Act) : Type 0 where
    pub own : OwnSession
    pub port : ℕ
    pub is_port : port_of (slice_get f.locals own.key.local) ≡ port
    pub fits : port < 2 ^ 16
    pub session : Session
    pub place : session.place ≡ own.place
    pub free : list_any (is_in_slot own.place.slot) b.reserved ≡ false
    pub book : Book
    pub reserved : book.reserved ≡ b.reserved ++ session ∷ []
    pub others : List Act
    pub same : (rs : List ReservedSession) → started_from rs acts ≡ started_from (record { place = own.place; key = own.key } ∷ rs) others
    pub rest : Rest t fin (next (Reserved own.place port) (own ∷ [])) j j' book b' others

  -- none was
  pub record Refuses (next : NextAnswer) (j : JoinState) (b : Book) (acts : List Act) : Type 0 where
    pub accept : Accept
    pub some : eqb (accept_code accept) 0 ≡ false
    pub small : accept_code accept < 256
    pub book : Book
    pub reserved : book.reserved ≡ b.reserved
    pub others : List Act
    pub same : (rs : List ReservedSession) → started_from rs acts ≡ started_from rs others
    pub rest : Rest t fin (next (Refused accept) []) j j' book b' others

  pub data Answers (next : NextAnswer) (j : JoinState) (b : Book) (acts : List Act) : Type 0 where
    takes : Takes next j b acts → Answers next j b acts
    refuses : Refuses next j b acts → Answers next j b acts

  refuses_now : (next : NextAnswer) (accept : Accept) (j : JoinState) (b : Book) (acts : List Act) → eqb (accept_code accept) 0 ≡ false → accept_code accept < 256 → Rest t fin (next (Refused accept) []) j j' b b' acts → Answers next j b acts
  refuses_now next accept j b acts e lt r = refuses (record { accept = accept; some = e; small = lt; book = b; reserved = refl; others = acts; same = λ rs. refl; rest = r })

  behind : (next : NextAnswer) (j : JoinState) (b c : Book) (acts others : List Act) → c.reserved ≡ b.reserved → ((rs : List ReservedSession) → started_from rs acts ≡ started_from rs others) → Answers next j c others → Answers next j b acts
  behind next j b c acts others e same (takes a) = takes (record {
    own = a.own;
    port = a.port;
    is_port = a.is_port;
    fits = a.fits;
    session = a.session;
    place = a.place;
    free = ap (list_any (is_in_slot a.own.place.slot)) (sym e) ∙ a.free;
    book = a.book;
    reserved = a.reserved ∙ ap (λ (l : List Session). l ++ a.session ∷ []) e;
    others = a.others;
    same = λ rs. same rs ∙ a.same rs;
    rest = a.rest;
  })
  behind next j b c acts others e same (refuses a) = refuses (record { accept = a.accept; some = a.some; small = a.small; book = a.book; reserved = a.reserved ∙ e; others = a.others; same = λ rs. same rs ∙ a.same rs; rest = a.rest })

  tries : (config : ConfigParts) (x : Extra) (a : Address) (r : SessionRequest) (next : NextAnswer) (cs : List Candidate) (j : JoinState) (b : Book) (acts : List Act) → AreLocals f.locals cs → Rest t fin (try_all config x a r next cs) j j' b b' acts → Answers next j b acts
  unfolding try_all
  tries config x a r next [] j b acts h q = refuses_now next TemporaryLimit j b acts refl (omega arith) q
  tries config x a r next (c ∷ cs) j b acts h q =
      let k = key_at c a r.sender_port in
      let one = rest_reserve t fin j' b' k x config reserved_wait (tried k c.port r next (try_all config x a r next cs)) j b acts q in
      came (λ book others rest. tries config x a r next cs j book others h.1 rest) one.0 one.1.others one.1.book one.1.is one.1.makes one.1.rest where
        came : ((book : Book) (others : List Act) → Rest t fin (try_all config x a r next cs) j j' book b' others → Answers next j book others) → (answer : Result Place ReserveFault) (others : List Act) (book : Book) → acts ≡ called (reserves (key_at c a r.sender_port) x config reserved_wait answer) ∷ others → Makes t (reserves (key_at c a r.sender_port) x config reserved_wait answer) b book
            → Rest t fin (tried (key_at c a r.sender_port) c.port r next (try_all config x a r next cs) answer) j j' book b' others → Answers next j b acts
        came again (Ok p) others book is makes rest = takes (record {
          own = own_session (key_at c a r.sender_port) p r;
          port = c.port;
          is_port = h.0.port;
          fits = h.0.fits;
          session = new_session (key_at c a r.sender_port) x makes.row p reserved_wait;
          place = refl;
          free = none_there b p.slot _ makes.first.free;
          book = book;
          reserved = makes.reserved;
          others = others;
          same = λ rs. ap (started_from rs) is;
          rest = rest;
        })
        came again (Err e) others book is makes rest =
            let same = λ (rs : List ReservedSession). ap (started_from rs) is in
            let kept = unmoved_reserved t b book e makes.1 in
            elim (true_or_false (is_taken e)) [
              | inl y ↦ behind next j b book acts others kept same (again book others (subst (λ (z : Bool). Rest t fin (cond z (try_all config x a r next cs) (next (Refused TemporaryLimit) [])) j j' book b' others) y rest))
              | inr n ↦ behind next j b book acts others kept same (refuses_now next TemporaryLimit j book others refl (omega arith) (subst (λ (z : Bool). Rest t fin (cond z (try_all config x a r next cs) (next (Refused TemporaryLimit) [])) j j' book b' others) n rest))
            ]

  under : (c : ControlSide) (r : SessionRequest) (next : NextAnswer) (config : Option ConfigParts) (j : JoinState) (b : Book) (acts : List Act) → PortsFit f.locals → Rest t fin (under_twamp f c r next config) j j' b b' acts → Answers next j b acts
  under c r next None j b acts h q = refuses_now next TemporaryLimit j b acts refl (omega arith) q
  under c r next (Some config) j b acts h q =
      let from = or_else r.sender c.peer in
      let to = or_else r.receiver c.local in
      let served = try_all config (extra_of c.machine.mode r) from r next (candidates f.locals r.v6 to r.receiver_port) in
      elim (true_or_false (is_served f.locals r from to)) [
        | inl y ↦ tries config (extra_of c.machine.mode r) from r next (candidates f.locals r.v6 to r.receiver_port) j b acts (candidates_local f.locals r.v6 to r.receiver_port h) (subst (λ (z : Bool). Rest t fin (cond z served (next (Refused NotSupported) [])) j j' b b' acts) y q)
        | inr n ↦ refuses_now next NotSupported j b acts refl (omega arith) (subst (λ (z : Bool). Rest t fin (cond z served (next (Refused NotSupported) [])) j j' b b' acts) n q)
      ]

  pub answers : (c : ControlSide) (r : SessionRequest) (next : NextAnswer) (j : JoinState) (b : Book) (acts : List Act) → PortsFit f.locals → Rest t fin (request_plan f c r next) j j' b b' acts → Answers next j b acts
  answers c r next j b acts h q = elim (true_or_false (nat_le session_limit (length c.sessions))) [
    | inl y ↦ refuses_now next PermanentLimit j b acts refl (omega arith) (subst (λ (z : Bool). Rest t fin (cond z (next (Refused PermanentLimit) []) (under_twamp f c r next f.twamp)) j j' b b' acts) y q)
    | inr n ↦ under c r next f.twamp j b acts h (subst (λ (z : Bool). Rest t fin (cond z (next (Refused PermanentLimit) []) (under_twamp f c r next f.twamp)) j j' b b' acts) n q)
  ]
