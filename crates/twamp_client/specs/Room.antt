-- How many octets a client may write in all.
use Rattle.std.specs.Prelude.{ℕ, ◌+◌, ◌-◌, ◌*◌, length}
use Rattle.twamp_client.specs.declared.types.ClientState.{ClientState}
use Rattle.twamp_client.specs.declared.types.ClientState.TheVariants.{Greeting, ServerStart, Accepting, StartAck, Started, Stopped, NoMode, Denied, NoSession}
use Rattle.twamp_client.specs.Client.{ControlClient}

-- with so many wishes that have no answer: a Set-Up-Response, a request for each, a Start-Sessions and a Stop-Sessions
abbrev pub left_in : ClientState → ℕ → ℕ
left_in Greeting n = 164 + 112 * n + 64
left_in ServerStart n = 112 * n + 64
left_in Accepting n = 112 * (n - 1) + 64
left_in StartAck n = 32
left_in Started n = 32
left_in Stopped n = 0
left_in NoMode n = 0
left_in (Denied accept) n = 0
left_in NoSession n = 0

abbrev pub left_to_write : ControlClient → ℕ
left_to_write c = left_in c.state (length c.wishes - length c.answers)

-- the most that any client writes
abbrev pub write_limit : ℕ
write_limit = 2020
