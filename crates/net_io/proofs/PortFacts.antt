-- What a scripted port logs, and what it has left.
use Rattle.std.proofs.Common.{◌≡◌, ℕ, List, [], ◌∷◌, refl, subst}
use Rattle.std.specs.Prelude.{map, option_map}
use Rattle.net_io.specs.declared.port.Got.{Got}
use Rattle.net_io.specs.declared.port.Got.TheVariants.{Datagram, Nothing, End}
use Rattle.net_io.specs.declared.script_port.PortDeed.{PortDeed}
use Rattle.net_io.specs.Log.{LogState, Grows, noted}
use Rattle.net_io.specs.Port.{PortEntry, got_entry}
use Rattle.net_io.specs.ScriptPort.{port_entry, got_deed, got_octets}
use Rattle.net_io.proofs.LogFacts.{noted_grows}

port_entry-got : (got : Got) (buf : List ℕ) → port_entry (got_deed got, got_octets got buf) ≡ got_entry buf got
port_entry-got (Datagram meta) buf = refl
port_entry-got Nothing buf = refl
port_entry-got End buf = refl

-- the log tells what was done
pub log_grows : (old new : LogState PortDeed) (deed : PortDeed) (octets : List ℕ) → new ≡ noted old deed octets
    → Grows (option_map (map port_entry) old.told) (option_map (map port_entry) new.told) (port_entry (deed, octets) ∷ [])
log_grows old new deed octets e = noted_grows port_entry old new deed octets e

-- the log tells what a receive gave
pub log_grows_got : (old new : LogState PortDeed) (got : Got) (buf : List ℕ) → new ≡ noted old (got_deed got) (got_octets got buf)
    → Grows (option_map (map port_entry) old.told) (option_map (map port_entry) new.told) (got_entry buf got ∷ [])
log_grows_got old new got buf e =
    subst (λ (x : PortEntry). Grows (option_map (map port_entry) old.told) (option_map (map port_entry) new.told) (x ∷ [])) (port_entry-got got buf)
    (log_grows old new (got_deed got) (got_octets got buf) e)
