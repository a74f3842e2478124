-- The shared table follows the table of a replay: all answers so far, of the desk and of its only worker, are in one order, and
-- leave the sessions of that table (this project's own).
use Rattle.std.specs.Prelude.{List}
use Rattle.session_key.specs.declared.matching.Query.{Query}
use Rattle.session_key.specs.Matching.{query_of}
use Rattle.session_world.specs.declared.steps.TableSize.{TableSize}
use Rattle.session_world.specs.declared.steps.Step.{Step}
use Rattle.session_world.specs.declared.steps.Part.{Part}
use Rattle.session_world.specs.OneOrder.{table_of}
use Rattle.session_world.specs.OneThread.{IsBetween}
use Rattle.replay_format.specs.Records.{Datagram}
use Rattle.replay_table.specs.Table.{Entry}
use Rattle.shared_replay.specs.Tracks.{Tracks}

-- the worker isn't split off now
pub record Follows (z : TableSize) (ds : List Step) (ps : List Part) (es : List Entry) : Type 0 where
  pub between : IsBetween z ds ps
  pub tracks : Tracks (table_of z.slots ds ps) es

abbrev pub query_for : Datagram → Query
query_for d = query_of d.local d.peer d.octets
