use Rattle.std.proofs.Common.{sym, ◌∙◌}
use Rattle.session_desk.proofs.BoolFacts.{true_ne_false}
use Rattle.session_desk.proofs.Serving.{row_stays, row_given}
use Rattle.session_desk.proofs.laws.law_rows_serve.Goals as goal

pub returns : goal.returns
returns c = record {
  kept = λ t g u b d m. (m.row, row_given b.rows d.rows g m.row m.made m.kept);
  stays = row_stays;
  row = λ t k x g wait row b d is m. m.0.2.0 row is;
  key = λ t k x g wait b d none m. true_ne_false (sym m.0.1.0 ∙ none);
}
