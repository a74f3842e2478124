-- Every cut of a stream, and its whole messages.
use Rattle.std.proofs.Common.{◌≡◌, ℕ, ◌<◌, Bool, false, List, [], ◌∷◌, ◌++◌, length, refl, sym, ap, ◌∙◌, arith}
use Rattle.std.specs.List.{concat}
use Rattle.twamp_control.specs.declared.types.Message.{Message}
use Rattle.twamp_control.specs.declared.types.Stage.{Stage}
use Rattle.twamp_control.specs.declared.types.Stage.TheVariants.{SettingUp, Idle, Started, HungUp}
use Rattle.twamp_control.specs.Stream.{IsWhole, Reading, message_length, message_of, messages_from, reading_after}
use Rattle.twamp_control.specs.Connection.{Connection, connection_after, connection_after_pieces, messages_in, messages_in_pieces, unless_hung_up}
use Rattle.twamp_control.proofs.Streams.{completes, lacks, messages_from-append, reading_after-append, reading_at}
use Rattle.twamp_control.proofs.Feeding.{connection, none_of_nothing, same_after_nothing}

messages_at-append : (stage : Stage) (r : Reading) (a b : List ℕ) → unless_hung_up stage [] (messages_from r (a ++ b)) ≡ unless_hung_up stage [] (messages_from r a) ++ unless_hung_up stage [] (messages_from (unless_hung_up stage r (reading_after r a)) b)
messages_at-append HungUp r a b = refl
messages_at-append SettingUp r a b = messages_from-append a b r
messages_at-append Idle r a b = messages_from-append a b r
messages_at-append Started r a b = messages_from-append a b r

reading_at-append : (stage : Stage) (r : Reading) (a b : List ℕ) → unless_hung_up stage r (reading_after r (a ++ b)) ≡ unless_hung_up stage (unless_hung_up stage r (reading_after r a)) (reading_after (unless_hung_up stage r (reading_after r a)) b)
reading_at-append HungUp r a b = refl
reading_at-append SettingUp r a b = reading_after-append a b r
reading_at-append Idle r a b = reading_after-append a b r
reading_at-append Started r a b = reading_after-append a b r

pub messages_in-append : (c : Connection) (a b : List ℕ) → messages_in c (a ++ b) ≡ messages_in c a ++ messages_in (connection_after c a) b
messages_in-append c a b = messages_at-append c.stage c.reading a b

pub connection_after-append : (c : Connection) (a b : List ℕ) → connection_after c (a ++ b) ≡ connection_after (connection_after c a) b
connection_after-append c a b = ap (λ (r : Reading). connection c.start r c.stage c.mode c.sessions) (reading_at-append c.stage c.reading a b)

pub messages_in_pieces-concat : (pieces : List (List ℕ)) (c : Connection) → messages_in_pieces c pieces ≡ messages_in c (concat pieces)
messages_in_pieces-concat [] c = sym (none_of_nothing c)
messages_in_pieces-concat (piece ∷ pieces) c =
    ap (λ (l : List Message). messages_in c piece ++ l) (messages_in_pieces-concat pieces (connection_after c piece))
    ∙ sym (messages_in-append c piece (concat pieces))

pub connection_after_pieces-concat : (pieces : List (List ℕ)) (c : Connection) → connection_after_pieces c pieces ≡ connection_after c (concat pieces)
connection_after_pieces-concat [] c = sym (same_after_nothing c)
connection_after_pieces-concat (piece ∷ pieces) c =
    connection_after_pieces-concat pieces (connection_after c piece) ∙ sym (connection_after-append c piece (concat pieces))

pub messages_from-message : (first : Bool) (octets rest : List ℕ) → IsWhole first octets → messages_from (reading_at first []) (octets ++ rest) ≡ message_of first octets ∷ messages_from (reading_at false []) rest
messages_from-message first octets rest whole =
    let done = completes octets first [] (message_length first octets) (record { len = refl }) whole.some (omega (arith, whole.whole)) in
    messages_from-append octets rest (reading_at first [])
    ∙ ap (λ (l : List Message). l ++ messages_from (reading_after (reading_at first []) octets) rest) done.messages
    ∙ ap (λ (r : Reading). message_of first octets ∷ messages_from r rest) done.reading

pub messages_from-begun : (first : Bool) (octets : List ℕ) → length octets < message_length first octets → messages_from (reading_at first []) octets ≡ []
messages_from-begun first octets lt = (lacks octets first [] (message_length first octets) (record { len = refl }) (omega (arith, lt))).messages
