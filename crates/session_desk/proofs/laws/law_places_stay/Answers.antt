use Rattle.std.proofs.Common.{sym, ap, ◌∙◌}
use Rattle.std.specs.List.{list_any}
use Rattle.session_desk.proofs.BoolFacts.{true_ne_false}
use Rattle.session_desk.specs.Sessions.{is_at}
use Rattle.session_desk.proofs.Serving.{place_reserved, place_stays}
use Rattle.session_desk.proofs.laws.law_places_stay.Goals as goal

pub returns : goal.returns
returns c = record {
  reserved = λ t k x g wait p b d m. ap (list_any (is_at p)) m.reserved ∙ place_reserved p k x m.row wait b.reserved;
  stays = place_stays;
  starts = λ t p now f b d h m. true_ne_false (sym h ∙ m.0);
}
