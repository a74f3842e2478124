use Rattle.std.proofs.Common.{Ok}
use Rattle.session_desk.specs.Makes.{reserves, sets}
use Rattle.session_desk.proofs.Serving.{row_given}
use Rattle.reflector_serve.proofs.Named.{at_split_stands, made_at, stands}
use Rattle.reflector_serve.proofs.laws.law_named.Goals as goal

pub returns : goal.returns
returns g c = record {
  reserved = λ f ps qs d e report s place k x config wait p is.
      let call = reserves k x config wait (Ok p) in
      let acts = s.desk.ran.acts in
      let m = made_at s.table acts place call s.at_split s.at_end is s.desk.ran.made in
      let first = at_split_stands s.table f s.moment f.workers s.before s.at_first s.at_split s.new s.opening s.splits in
      (m, stands s.table acts place call s.at_split s.at_end s.joined config m.made.row 1 s.lists first m (row_given m.before.rows m.after.rows config m.made.row m.made.made m.made.kept) s.joins s.fits);
  set = λ f ps qs d e report s place k config is.
      let call = sets k config (Ok tt) in
      let acts = s.desk.ran.acts in
      let m = made_at s.table acts place call s.at_split s.at_end is s.desk.ran.made in
      let first = at_split_stands s.table f s.moment f.workers s.before s.at_first s.at_split s.new s.opening s.splits in
      (m, stands s.table acts place call s.at_split s.at_end s.joined config m.made.row 1 s.lists first m (row_given m.before.rows m.after.rows config m.made.row m.made.made m.made.kept) s.joins s.fits);
}
