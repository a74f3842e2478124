-- What a client becomes and writes by the octets of its server, one by one.
use Rattle.std.specs.Prelude.{◌≡◌, ℕ, List, [], ◌∷◌, ◌++◌, drop, if◌then◌else◌}
use Rattle.twamp_client.specs.Client.{ControlClient, Said, is_over, told}
use Rattle.twamp_client.specs.Feeding.{fed, taken, with_octets}

-- with one octet more; behind its last message nothing is taken
abbrev pub hears : ControlClient → ℕ → Said
hears c b = if is_over c.state then record { client = c; message = [] } else with_octets c (c.held ++ b ∷ [])

-- the client behind more octets, and all that it has written by then
unfoldable pub client_after : ControlClient → List ℕ → ControlClient
client_after c [] = c
client_after c (b ∷ octets) = client_after (hears c b).client octets

unfoldable pub written_by : ControlClient → List ℕ → List ℕ
written_by c [] = []
written_by c (b ∷ octets) = (hears c b).message ++ written_by (hears c b).client octets

-- the same, where the octets come in pieces
abbrev pub client_after_pieces : ControlClient → List (List ℕ) → ControlClient
client_after_pieces c [] = c
client_after_pieces c (piece ∷ pieces) = client_after_pieces (client_after c piece) pieces

abbrev pub written_in_pieces : ControlClient → List (List ℕ) → List ℕ
written_in_pieces c [] = []
written_in_pieces c (piece ∷ pieces) = written_by c piece ++ written_in_pieces (client_after c piece) pieces

-- A client that is fed a piece, and then what it has left of it, hears all of it
pub record FedHears (c : ControlClient) (piece : List ℕ) : Type 0 where
  pub client : client_after c piece ≡ client_after (fed c piece).client (drop (taken c piece) piece)
  pub written : written_by c piece ≡ (fed c piece).message ++ written_by (fed c piece).client (drop (taken c piece) piece)

-- A whole message does just what the table says, and the octets behind it are heard then
pub record TellsWhole (c : ControlClient) (message rest : List ℕ) : Type 0 where
  pub client : client_after c (message ++ rest) ≡ client_after (told c message).client rest
  pub written : written_by c (message ++ rest) ≡ (told c message).message ++ written_by (told c message).client rest
