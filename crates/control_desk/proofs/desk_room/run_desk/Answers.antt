use Rattle.std.proofs.Common.{rules, ◌≡◌, ℕ, ◌∷◌, [], refl, sym, subst, ◌∙◌}
use Rattle.net_io.specs.Log.{Grows}
use Rattle.net_io.specs.Desk.{finished}
use Rattle.session_world.specs.declared.steps.TableSize.{TableSize}
use Rattle.session_rule.specs.Seats.{IsDeskOfOneSchedule, joined_parts}
use Rattle.session_desk.specs.Book.{Book, steps_of}
use Rattle.session_desk.specs.Going.{DeskWent}
use Rattle.control_desk.specs.declared.counts.Counts.{Counts}
use Rattle.control_desk.specs.State.{Room}
use Rattle.control_desk.specs.Plan.{Leads, stop, entries_in, MakesAll, counts_after}
use Rattle.control_desk.specs.Run.{GoesAll, no_counts, desk_plan}
use Rattle.control_desk.specs.Faults.{AreFaultsTold}
use Rattle.control_desk.proofs.RunFacts.{all_gone, gone_then, grows_then, log_grows, made_stays, faults_told, book_went}
use Rattle.control_desk.proofs.desk_room.run_desk.Goals as goal

-- what was lent is what the hands leave

pub returns-clause-run : goal.returns-clause-run
returns-clause-run g c =
    let run = c.hear_all-end.ensures.done in
    let same = c.hear_all-end.ensures.same in
    record {
      acts = run.acts;
      leads = subst (λ (r : Room). Leads (desk_plan r.setting c.args.turns 0 r.state) run.acts (stop c.hear_all-end.result)) c.room.view_is run.leads;
      written = grows_then _ _ _ (entries_in run.acts) (finished ∷ [])
          (subst (λ (d : _). Grows (g.D.Desk.shown c.args.desk.now).log (g.D.Desk.shown d).log (entries_in run.acts)) (search (same.desk, rules)) (log_grows run.acts _ _ run.shown)) c.finish.ensures.log;
      made = subst (λ (b : Book). MakesAll c.args.table.now run.acts c.args.book.now b) (search (same.book, rules)) run.made;
      counted = subst (λ (n : Counts). n ≡ counts_after no_counts run.acts) (search (same.counts, rules)) run.counted;
    }

pub returns-clause-gone : goal.returns-clause-gone
returns-clause-gone g c =
    let run = c.hear_all-end.ensures.done in
    let same = c.hear_all-end.ensures.same in
    record {
      acts = run.acts;
      leads = subst (λ (r : Room). Leads (desk_plan r.setting c.args.turns 0 r.state) run.acts (stop c.hear_all-end.result)) c.room.view_is run.leads;
      gone = gone_then _ (entries_in run.acts) (finished ∷ []) _ _ _
          (subst (λ (d : _). GoesAll g.D.Desk.goes (entries_in run.acts) c.args.desk.now d) (search (same.desk, rules)) (all_gone run.acts _ _ run.shown)) (_, c.finish.ensures.goes, refl);
      made = subst (λ (b : Book). MakesAll c.args.table.now run.acts c.args.book.now b) (search (same.book, rules)) run.made;
      counted = subst (λ (n : Counts). n ≡ counts_after no_counts run.acts) (search (same.counts, rules)) run.counted;
    }

pub returns-clause-went : goal.returns-clause-went
returns-clause-went g c =
    let b = c.args.book.now in
    let run = c.hear_all-end.ensures.done in
    let same = c.hear_all-end.ensures.same in
    let schedule = subst (λ (z : TableSize). IsDeskOfOneSchedule z (steps_of b) (joined_parts b.seat)) (sym c.requires.book.1) c.law_fits.ensures.schedule in
    subst (λ (e : Book). DeskWent c.args.table.now b e) (search (same.book, rules))
    (book_went c.law_calls_go_on.ensures run.acts _ _ (record { book = c.requires.book; schedule = schedule }) run.made)

pub returns-clause-faults : goal.returns-clause-faults
returns-clause-faults g c =
    let run = c.hear_all-end.ensures.done in
    let same = c.hear_all-end.ensures.same in
    let told = faults_told run.acts _ _ no_counts refl run.shown in
    let old = (g.D.Desk.shown c.args.desk.now).faults in
    let n = c.hear_all-end.new.hands.counts.now in
    subst (λ (k : ℕ). AreFaultsTold old (g.D.Desk.shown c.finish.new.self).faults k) (search (same.counts, rules))
    (subst (λ (new : ℕ). AreFaultsTold old new n.faults) (sym c.finish.ensures.still)
    (subst (λ (d : _). AreFaultsTold old (g.D.Desk.shown d).faults n.faults) (search (same.desk, rules))
    (subst (λ (m : Counts). AreFaultsTold old (g.D.Desk.shown c.hear_all-end.new.hands.desk.now).faults m.faults) (sym run.counted) told)))

pub returns-clause-made : goal.returns-clause-made
returns-clause-made g c =
    let run = c.hear_all-end.ensures.done in
    let same = c.hear_all-end.ensures.same in
    c.finish.ensures.made ∙ subst (λ (d : _). (g.D.Desk.shown d).made ≡ (g.D.Desk.shown c.args.desk.now).made) (search (same.desk, rules)) (made_stays run.acts _ _ run.shown)
