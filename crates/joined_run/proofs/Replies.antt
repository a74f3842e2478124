-- What the client reads in the server's messages, and what the desk holds when it was told one.
use Rattle.std.proofs.Common.{◌≡◌, ℕ, ◌^◌, ◌<◌, Bool, true, false, ◌&&◌, eqb, List, [], ◌∷◌, ◌++◌, length, replicate, refl, sym, ap, ◌∙◌, append_assoc, arith}
use Rattle.std.specs.Prelude.{cond}
use Rattle.std.specs.Int.{w16, from_be_bytes, to_be_bytes}
use Rattle.std.proofs.lemmas.List.{append-nil, length-append, take_at}
use Rattle.std.proofs.lemmas.Nat.{from_be_bytes-to_be_bytes_2}
use Rattle.std.proofs.lemmas.Bool.Decides.{nat_tests}
use Rattle.octet_format.specs.Octets.{field}
use Rattle.refl_types.specs.declared.outcome.Place.{Place}
use Rattle.refl_types.proofs.BitFacts.{allowed_each, allowed_from_each}
use Rattle.control_msgs.specs.Layout.{accept_session, greeting, server_start, start_ack}
use Rattle.control_msgs.specs.Modes.{has_bit, is_offered, is_open_mode}
use Rattle.twamp_control.specs.Table.{session_id}
use Rattle.twamp_client.specs.declared.types.Grant.TheVariants.{Granted, Refused}
use Rattle.twamp_client.specs.Client.{ControlClient, Said, accept_in, answer_in, are_offered, awaited, is_over, modes_in, server_accept, told}
use Rattle.twamp_client.specs.Hearing.{client_after, written_by}
use Rattle.twamp_client.proofs.Hears.{tells_whole}
use Rattle.joined_desk.specs.declared.setup.JoinStage.{JoinStage}
use Rattle.joined_desk.specs.declared.setup.JoinStage.TheVariants as at
use Rattle.joined_desk.specs.Joined.{JoinState, after_send, client_then, reaches, stop_in, stopped_in, written_if, written_then}

-- ---- each message

pub greeting_len : length greeting ≡ 64
unfolding greeting
greeting_len = refl

pub greeting_modes : modes_in greeting ≡ 97
unfolding greeting
greeting_modes = refl

pub server_start_len : (accept start : ℕ) → length (server_start accept start) ≡ 48
unfolding server_start
server_start_len accept start = refl

pub server_start_accept : (accept start : ℕ) → server_accept (server_start accept start) ≡ accept
unfolding server_start
server_start_accept accept start = refl

pub start_ack_len : (accept : ℕ) → length (start_ack accept) ≡ 32
unfolding start_ack
start_ack_len accept = refl

pub start_ack_accept : (accept : ℕ) → accept_in (start_ack accept) ≡ accept
unfolding start_ack
start_ack_accept accept = refl

pub accept_session_len : (accept port : ℕ) (sid reflected : List ℕ) → length sid ≡ 16 → length reflected ≡ 2 → length (accept_session accept port sid reflected) ≡ 48
unfolding accept_session
accept_session_len accept port sid reflected l m = grind (arith, length-append)

pub accept_session_accept : (accept port : ℕ) (sid reflected : List ℕ) → accept_in (accept_session accept port sid reflected) ≡ accept
unfolding accept_session
accept_session_accept accept port sid reflected = refl

accept_session_port : (accept port : ℕ) (sid reflected : List ℕ) → port < 2 ^ 16 → from_be_bytes w16 (field 2 2 (accept_session accept port sid reflected)) ≡ port
unfolding accept_session
accept_session_port accept port sid reflected lt = from_be_bytes-to_be_bytes_2 port lt

accept_session_sid : (accept port : ℕ) (sid reflected : List ℕ) → length sid ≡ 16 → field 4 16 (accept_session accept port sid reflected) ≡ sid
unfolding accept_session
accept_session_sid accept port sid reflected len =
    let back = replicate 2 0 ++ (replicate 8 0 ++ replicate 16 0) in
    let front : List ℕ = accept ∷ 0 ∷ to_be_bytes w16 port in
    let e : accept_session accept port sid reflected ≡ front ++ (sid ++ (reflected ++ back)) = simp append_assoc refl in
    ap (field 4 16) e ∙ take_at sid (reflected ++ back) 16 len

pub granted_read : (port : ℕ) (place : Place) (now : ℕ) (reflected : List ℕ) → port < 2 ^ 16 → answer_in (accept_session 0 port (session_id place now) reflected) ≡ Granted port (session_id place now)
granted_read port place now reflected lt =
    let o = accept_session 0 port (session_id place now) reflected in
    let a : eqb (accept_in o) 0 ≡ true = ap (λ (n : ℕ). eqb n 0) (accept_session_accept 0 port (session_id place now) reflected) in
    ap (λ (b : Bool). cond b (Granted (from_be_bytes w16 (field 2 2 o)) (field 4 16 o)) (Refused (accept_in o))) a
    ∙ ap (λ (p : ℕ). Granted p (field 4 16 o)) (accept_session_port 0 port (session_id place now) reflected lt)
    ∙ ap (λ (s : List ℕ). Granted port s) (accept_session_sid 0 port (session_id place now) reflected refl)

pub refused_read : (accept : ℕ) (reflected : List ℕ) → eqb accept 0 ≡ false → answer_in (accept_session accept 0 (replicate 16 0) reflected) ≡ Refused accept
refused_read accept reflected e =
    let o = accept_session accept 0 (replicate 16 0) reflected in
    let n = accept_session_accept accept 0 (replicate 16 0) reflected in
    let a : eqb (accept_in o) 0 ≡ false = ap (λ (k : ℕ). eqb k 0) n ∙ e in
    ap (λ (b : Bool). cond b (Granted (from_be_bytes w16 (field 2 2 o)) (field 4 16 o)) (Refused (accept_in o))) a ∙ ap (λ (k : ℕ). Refused k) n

-- an open mode is one that the greeting offers
pub open_offered : (mode : ℕ) → is_open_mode mode ≡ true → are_offered 97 mode ≡ true
unfolding is_open_mode are_offered
open_offered mode e = allowed_from_each (has_bit 97) mode (λ t h bit. offered t (allowed_each is_offered mode t (second (has_bit mode 0) _ e) h bit)) where
  second : (a b : Bool) → (a && b) ≡ true → b ≡ true
  second true b e = e
  second false b e = absurd cc

  offered : (t : ℕ) → is_offered t ≡ true → has_bit 97 t ≡ true
  offered t e = grind (arith, nat_tests)

-- ---- the desk when the client was told a message

-- what the client says, and the Stop-Sessions behind it where it was started
abbrev pub stops : Said → Said
stops said = record { client = stopped_in said.client.state said.client; message = said.message ++ stop_in said.client.state said.client }

pub record IsTold (j k : JoinState) (said : Said) : Type 0 where
  pub client : k.client ≡ said.client
  pub pending : k.pending ≡ said.message
  pub carrying : k.stage ≡ at.Carrying
  pub setup : k.setup ≡ j.setup

pub sent_told : (j : JoinState) (octets : List ℕ) → j.stage ≡ at.Carrying → j.pending ≡ [] → is_over j.client.state ≡ false → j.client.held ≡ [] → length octets ≡ awaited j.client.state → IsTold j (after_send j 0 octets) (stops (told j.client octets))
unfolding client_after written_by
sent_told j octets carrying none going held len =
    let w = tells_whole j.client octets [] going held len in
    let all : octets ++ [] ≡ octets = append-nil octets in
    let said = told j.client octets in
    let client : client_after j.client octets ≡ said.client = ap (client_after j.client) (sym all) ∙ w.client in
    let written : written_by j.client octets ≡ said.message = ap (written_by j.client) (sym all) ∙ w.written ∙ append-nil said.message in
    record {
      client = ap (λ (g : JoinStage). client_then (reaches 0 g) j.client octets) carrying ∙ ap (λ (d : ControlClient). stopped_in d.state d) client;
      pending =
          ap (λ (g : JoinStage). j.pending ++ written_if (reaches 0 g) j.client octets) carrying
          ∙ ap (λ (l : List ℕ). l ++ written_then j.client octets) none
          ∙ ap (λ (d : ControlClient). written_by j.client octets ++ stop_in d.state d) client
          ∙ ap (λ (l : List ℕ). l ++ stop_in said.client.state said.client) written;
      carrying = carrying;
      setup = refl;
    }
