-- The row of a session that was reserved.
use Rattle.std.proofs.Common.{◌≡◌, ℕ, ◌+◌, ◌-◌, ◌^◌, ◌≤◌, min, Bool, false, List, length, sym, ap, ◌∙◌}
use Rattle.refl_types.specs.declared.outcome.Place.{Place}
use Rattle.control_msgs.specs.Layout.{accept_session}
use Rattle.twamp_control.specs.declared.types.Stage.TheVariants.{Idle}
use Rattle.twamp_control.specs.declared.types.DeskAnswer.TheVariants.{Reserved}
use Rattle.twamp_control.specs.declared.types.Stepped.{Stepped}
use Rattle.twamp_control.specs.Connection.{Connection, is_hung_up}
use Rattle.twamp_control.specs.Table.{Steps, reflected, request_row, session_id, written_over}

pub accepted : (c : Connection) (octets old new sid back : List ℕ) (place : Place) (port now n len : ℕ)
    → c.stage ≡ Idle
    → sid ≡ session_id place now
    → back ≡ reflected c.mode octets
    → n ≡ min (c.sessions + 1) (2 ^ 32 - 1)
    → new ≡ written_over old (accept_session 0 port sid back)
    → len ≡ length (accept_session 0 port sid back)
    → len ≤ length new
    → Steps (request_row c octets (Reserved place port) now) old new (record c { sessions = n }) (record { len = len; hang_up = false })
accepted c octets old new sid back place port now n len idle id given count reply size within =
    let same : accept_session 0 port sid back ≡ accept_session 0 port (session_id place now) (reflected c.mode octets) = ap (λ (s : List ℕ). accept_session 0 port s back) id ∙ ap (accept_session 0 port (session_id place now)) given in
    record {
      reply = reply ∙ ap (written_over old) same;
      within = within;
      stepped = ap (λ (k : ℕ). let s : Stepped = record { len = k; hang_up = false } in s) (size ∙ ap length same) ∙ ap (λ (b : Bool). let s : Stepped = record { len = length (accept_session 0 port (session_id place now) (reflected c.mode octets)); hang_up = b } in s) (sym (ap is_hung_up idle));
      goes_on = ap (λ (k : ℕ). let d : Connection = record c { sessions = k } in d) count;
    }
