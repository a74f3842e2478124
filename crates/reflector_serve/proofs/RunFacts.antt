-- From what each thread did, and the laws, to what the whole run leaves.
use Rattle.std.proofs.Common.{◌≡◌, ℕ, zero, suc, ◌+◌, List, [], ◌∷◌, ◌++◌, length, map, take, sym, refl, ap, ◌∙◌, subst, arith}
use Rattle.refl_types.specs.declared.config.ConfigParts.{ConfigParts}
use Rattle.net_io.specs.Port.{PortEntry}
use Rattle.net_io.specs.Desk.{DeskEntry}
use Rattle.session_world.specs.declared.steps.Step.{Step}
use Rattle.session_world.specs.Sizes.{IsWithinLimits}
use Rattle.session_world.specs.Desk.{config_at}
use Rattle.session_world.specs.Rows.{ReadsRows}
use Rattle.session_world.specs.History.{Event}
use Rattle.session_world.specs.Joined.{AllTold, JoinedHistory}
use Rattle.session_rule.specs.declared.seats.Table.{Table}
use Rattle.session_rule.specs.Seats.{size_of, joined_parts, worker_steps}
use Rattle.session_desk.specs.Book.{Book, steps_of}
use Rattle.session_desk.specs.Fits.{BookFits}
use Rattle.conf_text.specs.File.{File}
use Rattle.reflector_serve.specs.declared.post.Post.{Post}
use Rattle.receive_worker.specs.declared.tally.Tally.{Tally}
use Rattle.control_desk.specs.State.{Room}
use Rattle.reflector_serve.specs.declared.report.Report.{Report}
use Rattle.receive_worker.specs.Faults.{RisesBy}
use Rattle.receive_worker.specs.Accounts.{Accounts}
use Rattle.receive_worker.specs.Work.{HasWorked}
use Rattle.reflector_serve.specs.Ports.{PortView}
use Rattle.reflector_serve.specs.Posts.{AllSeated, AreSeated, AreNumbered, AreFresh, lists_of, WorkedAt, AllWorked}
use Rattle.reflector_serve.specs.Phases.{Phase, JoinsAll}
use Rattle.reflector_serve.specs.Served.{DeskView, AllPorts, IsServed, AllServed}
use Rattle.reflector_serve.specs.Opening.{IsOpening}
use Rattle.reflector_serve.specs.Running.{DeskRan, HasServed}
use Rattle.reflector_serve.proofs.PhaseFacts.{run_phase, last_phase}
use Rattle.reflector_serve.proofs.LiveFacts.{live_bound}

-- ---- after the run the seats are as many, of the same workers

pub as_long : {P S : Type 0} (v : PortView P S) (t : Table) (f : File) (ps qs : List P) (rs mid : List (Post P)) → AllWorked v t f ps qs rs mid → length mid ≡ length rs
as_long v t f ps qs [] mid a = ap length a.1
as_long v t f (p ∷ ps) (q ∷ qs) (r ∷ rs) (m ∷ mid) a = ap suc (as_long v t f ps qs rs mid a.1)
as_long v t f [] qs (r ∷ rs) mid a = absurd a
as_long v t f (p ∷ ps) [] (r ∷ rs) mid a = absurd a
as_long v t f (p ∷ ps) (q ∷ qs) (r ∷ rs) [] a = absurd a

seated : {P S : Type 0} (v : PortView P S) (t : Table) (f : File) (ps qs : List P) (rs mid : List (Post P)) → AllWorked v t f ps qs rs mid → AllSeated t mid
seated {P} v t f ps qs [] mid a = subst (λ (xs : List (Post P)). AllSeated t xs) (sym a.1) tt
seated v t f (p ∷ ps) (q ∷ qs) (r ∷ rs) (m ∷ mid) a = (a.0.worked.come.seat, seated v t f ps qs rs mid a.1)
seated v t f [] qs (r ∷ rs) mid a = absurd a
seated v t f (p ∷ ps) [] (r ∷ rs) mid a = absurd a
seated v t f (p ∷ ps) (q ∷ qs) (r ∷ rs) [] a = absurd a

pub seated_after : {P S : Type 0} (v : PortView P S) (t : Table) (f : File) (ps qs : List P) (rs mid : List (Post P)) → AllWorked v t f ps qs rs mid → AreSeated t mid
seated_after v t f ps qs rs mid a = record { all = seated v t f ps qs rs mid a }

pub numbered_after : {P S : Type 0} (v : PortView P S) (t : Table) (f : File) (w : ℕ) (ps qs : List P) (rs mid : List (Post P)) → AllWorked v t f ps qs rs mid → AreNumbered w rs → AreNumbered w mid
numbered_after {P} v t f w ps qs [] mid a n = subst (λ (xs : List (Post P)). AreNumbered w xs) (sym a.1) tt
numbered_after v t f w (p ∷ ps) (q ∷ qs) (r ∷ rs) (m ∷ mid) a n = (a.0.worked.come.number ∙ n.0, numbered_after v t f (suc w) ps qs rs mid a.1 n.1)
numbered_after v t f w [] qs (r ∷ rs) mid a n = absurd a
numbered_after v t f w (p ∷ ps) [] (r ∷ rs) mid a n = absurd a
numbered_after v t f w (p ∷ ps) (q ∷ qs) (r ∷ rs) [] a n = absurd a

-- ---- each worker's answers beside its port's log

one_served : {P S : Type 0} (v : PortView P S) (t : Table) (f : File) (config : ℕ → ConfigParts) (told : List PortEntry) (p o q : P) (r m : Post P) → IsOpening v f.locals told p o → WorkedAt v t f o q r m → worker_steps r.seat ≡ []
    → ReadsRows config (worker_steps m.seat) → IsServed v t f config told p q (worker_steps m.seat) m.tally
one_served v t f config told p o q r m opening w none reads = record {
  opened = o;
  opening = opening.quiet;
  rounds = w.worked.rounds;
  worked = subst (λ (xs : List Step). HasWorked config (size_of t) f.locals f.limit f.turns w.worked.rounds xs (worker_steps m.seat) (v o).log (v q).log m.tally) none (w.worked.worked config reads);
  accounts = subst (λ (xs : List Step). Accounts (size_of t).slots xs (worker_steps m.seat) m.tally) none w.accounts;
  retired = w.worked.retired;
  bound = w.bound ∙ opening.bound;
  made = w.made ∙ opening.quiet.made;
  faults = subst (λ (n : ℕ). RisesBy (m.tally.recv_fault + m.tally.send_fault) n (v q).faults) opening.still w.faults;
}

all_served : {P S : Type 0} (v : PortView P S) (t : Table) (f : File) (ds : List Step) (h : List (Event ConfigParts)) (w : ℕ) (told : List PortEntry) (ps os qs : List P) (rs mid : List (Post P))
    → AllPorts (IsOpening v f.locals told) (IsOpening v f.locals []) ps os → AllWorked v t f os qs rs mid → length os ≡ length rs → AreFresh rs → AllTold (size_of t) ds h w (lists_of mid)
    → AllServed v t f (config_at ds) told ps qs (lists_of mid) (map (λ (m : Post P). m.tally) mid)
all_served {P} v t f ds h w told [] os qs [] mid opening a len fresh all = subst (λ (xs : List (Post P)). AllServed v t f (config_at ds) told [] qs (lists_of xs) (map (λ (m : Post P). m.tally) xs)) (sym a.1) (a.0 ∙ opening)
all_served v t f ds h w told (p ∷ ps) (o ∷ os) qs [] mid opening a len fresh all = absurd (omega (arith, len))
all_served v t f ds h w told (p ∷ ps) [] qs rs mid opening a len fresh all = absurd opening
all_served v t f ds h w told (p ∷ ps) (o ∷ os) (q ∷ qs) (r ∷ rs) (m ∷ mid) opening a len fresh all =
    (one_served v t f (config_at ds) told p o q r m opening.0 a.0 fresh.0 all.1, all_served v t f ds h (suc w) [] ps os qs rs mid opening.1 a.1 (omega (arith, len)) fresh.1 all.2)
all_served v t f ds h w told (p ∷ ps) (o ∷ os) [] (r ∷ rs) mid opening a len fresh all = absurd a
all_served v t f ds h w told (p ∷ ps) (o ∷ os) (q ∷ qs) (r ∷ rs) [] opening a len fresh all = absurd a
all_served v t f ds h w told [] [] qs (r ∷ rs) mid opening a len fresh all = absurd a
all_served v t f ds h w told [] (o ∷ os) qs (r ∷ rs) mid opening a len fresh all = absurd (let e = ap length opening in omega (arith, e))

lists_length : {P : Type 0} (rs : List (Post P)) → length (lists_of rs) ≡ length rs
lists_length [] = refl
lists_length (r ∷ rs) = ap suc (lists_length rs)

-- ---- all

module _ {P S D T : Type 0} (v : PortView P S) (w : DeskView D T) (goes : D → DeskEntry → D → Type 0) (t : Table) (f : File) (room : Room) (os qs : List P) (d e : D) (rs mid : List (Post P)) (b at_end c : Book) (report : Report) where
  pub has_served : JoinedHistory → IsWithinLimits (size_of t) → BookFits c → AreFresh rs → length os ≡ length rs → AllWorked v t f os qs rs mid → (ran : DeskRan t w goes f.turns room d e b at_end report.desk)
      → ((first base : List Step) → Phase t first base at_end (length mid) [] → Phase t first base c 0 (lists_of mid)) → JoinsAll t 1 (lists_of mid) at_end c
      → report.workers.items ≡ map (λ (p : Post P). p.tally) mid → report.live ≡ length c.live
      → (first base : List Step) → Phase t first base b (length rs) [] → HasServed v w goes t f room first os qs d e b c report
  has_served law within fits fresh len worked ran joins calls tallies live first base p =
      let p1 = run_phase t first base b at_end (length rs) p ran.went in
      let p2 = joins first (steps_of at_end) (subst (λ (n : ℕ). Phase t first (steps_of at_end) at_end n []) (sym (as_long v t f os qs rs mid worked)) p1) in
      let o = law (size_of t) first (steps_of c) (joined_parts c.seat) (lists_of mid) within (last_phase t first (steps_of at_end) c (lists_of mid) p2) in
      record {
        at_end = at_end;
        desk = ran;
        lists = lists_of mid;
        joins = calls;
        fits = fits;
        workers = lists_length mid ∙ as_long v t f os qs rs mid worked ∙ sym len;
        one = o;
        grew = (p2.more, p2.grew);
        ports = λ ps told opening. subst (λ (ys : List Tally). AllServed v t f (config_at (steps_of c)) told ps qs (lists_of mid) ys) (sym tallies)
            (all_served v t f (steps_of c) o.history 1 told ps os qs rs mid opening worked len fresh o.workers);
        live = live_bound o.history c (config_at (steps_of c)) o.explains.legal o.desk_events fits.lines;
        live_count = live;
      }

-- a vector whose slice was lent whole
pub whole : {X : Type 0} (n : ℕ) (xs ys : List X) → length xs ≡ n → take n (xs ++ ys) ≡ xs
whole zero [] ys e = refl
whole zero (x ∷ xs) ys e = absurd (omega (arith, e))
whole (suc n) [] ys e = absurd (omega (arith, e))
whole {X} (suc n) (x ∷ xs) ys e = ap (λ (l : List X). x ∷ l) (whole n xs ys (omega (arith, e)))
