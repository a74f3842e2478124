use Rattle.twamp_control.proofs.Client.{request_read, request_whole, set_up_read, set_up_whole, start_read, start_whole, stop_read, stop_whole}
use Rattle.twamp_control.proofs.laws.client_messages.Goals as goal

pub returns : goal.returns
returns c = record {
  set_up_whole = set_up_whole;
  set_up = set_up_read;
  request_whole = request_whole;
  request = request_read;
  start_whole = start_whole;
  start = start_read;
  stop_whole = stop_whole;
  stop = stop_read;
}
