use Rattle.twamp_control.proofs.Talks.{talk_ends, talk_feeds, talk_in_pieces-concat}
use Rattle.twamp_control.proofs.laws.one_talk.Goals as goal

pub returns : goal.returns
returns c = record {
  message = talk_feeds;
  end = talk_ends;
  pieces = λ t pieces. talk_in_pieces-concat pieces t;
}
