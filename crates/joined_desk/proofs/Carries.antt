-- Octets that are carried piece by piece, and the events that carry them.
use Rattle.std.proofs.Common.{◌≡◌, ℕ, zero, suc, ◌+◌, ◌<◌, ◌≤◌, true, List, [], ◌∷◌, ◌++◌, length, take, drop, refl, sym, ap, subst, ◌∙◌, append_assoc, ◌⊎◌, inl, inr, arith}
use Rattle.std.proofs.lemmas.List.{length-take, length-drop, take-append-drop, drop-append-le, drop-drop, drop_all, append-nil}
use Rattle.refl_types.proofs.BitFacts.{true_or_false}
use Rattle.twamp_client.specs.Client.{ControlClient, HoldsPart, IsSound, Said, is_over}
use Rattle.twamp_client.specs.Feeding.{fed, taken}
use Rattle.twamp_client.specs.Hearing.{client_after, hears, written_by}
use Rattle.joined_desk.specs.declared.setup.JoinSetup.{JoinSetup}
use Rattle.joined_desk.specs.declared.setup.JoinStage.{JoinStage}
use Rattle.joined_desk.specs.declared.setup.JoinStage.TheVariants.{Unopened, Carrying, HungUp, Over}
use Rattle.net_io.specs.declared.desk.Timed.{Timed}
use Rattle.net_io.specs.declared.script_desk.DeskDeed.{DeskDeed}
use Rattle.net_io.specs.declared.script_desk.DeskDeed.TheVariants.{Gave}
use Rattle.net_io.specs.Log.{LogState, noted}
use Rattle.net_io.specs.Desk.{gave, octet_count}
use Rattle.joined_desk.specs.Joined.{JoinGoes, JoinState, given, given_in, octets_given, octets_in, pending_behind, stage_behind}
use Rattle.twamp_client.proofs.Hears.{client_after-append, written_by-append, fed_hears}
use Rattle.twamp_client.proofs.Writes.{keeps_fed}

-- a client that awaits nothing hears nothing
pub over_client : (octets : List ℕ) (c : ControlClient) → is_over c.state ≡ true → client_after c octets ≡ c
unfolding client_after
over_client [] c over = refl
over_client (b ∷ octets) c over = ap (λ (s : Said). client_after s.client octets) (over_hears c b over) ∙ over_client octets c over where
  over_hears : (c : ControlClient) (b : ℕ) → is_over c.state ≡ true → hears c b ≡ record { client = c; message = [] }
  over_hears c b over = rw over refl

pub over_written : (octets : List ℕ) (c : ControlClient) → is_over c.state ≡ true → written_by c octets ≡ []
unfolding written_by
over_written [] c over = refl
over_written (b ∷ octets) c over = ap (λ (s : Said). s.message ++ written_by s.client octets) (over_hears c b over) ∙ over_written octets c over where
  over_hears : (c : ControlClient) (b : ℕ) → is_over c.state ≡ true → hears c b ≡ record { client = c; message = [] }
  over_hears c b over = rw over refl

-- one call of feed with a piece of the octets that are left
pub record Carried (c : ControlClient) (piece : ℕ) (rest : List ℕ) : Type 0 where
  pub client : client_after c rest ≡ client_after (fed c (take piece rest)).client (drop (taken c (take piece rest)) rest)
  pub written : written_by c rest ≡ (fed c (take piece rest)).message ++ written_by (fed c (take piece rest)).client (drop (taken c (take piece rest)) rest)

pub carried_on : (c : ControlClient) (piece : ℕ) (rest : List ℕ) → HoldsPart c → Carried c piece rest
carried_on c piece rest h =
    let front = take piece rest in
    let back = drop piece rest in
    let n = taken c front in
    let f = fed_hears c front h in
    let d = (fed c front).client in
    let all : front ++ back ≡ rest = take-append-drop piece rest in
    let left : drop n front ++ back ≡ drop n rest = sym (drop-append-le n front back (omega arith)) ∙ ap (drop n) all in
    record {
      client =
          ap (client_after c) (sym all)
          ∙ client_after-append front back c
          ∙ ap (λ (e : ControlClient). client_after e back) f.client
          ∙ sym (client_after-append (drop n front) back d)
          ∙ ap (client_after d) left;
      written =
          ap (written_by c) (sym all)
          ∙ written_by-append front back c
          ∙ ap (λ (e : ControlClient). written_by c front ++ written_by e back) f.client
          ∙ ap (λ (l : List ℕ). l ++ written_by (client_after d (drop n front)) back) f.written
          ∙ append_assoc (fed c front).message (written_by d (drop n front)) (written_by (client_after d (drop n front)) back)
          ∙ ap (λ (l : List ℕ). (fed c front).message ++ l) (sym (written_by-append (drop n front) back d) ∙ ap (written_by d) left);
    }

-- nothing is taken of some octets only by a client that awaits nothing
pub none_taken : (c : ControlClient) (piece : ℕ) (rest : List ℕ) → HoldsPart c → 0 < piece → 0 < length rest → taken c (take piece rest) ≡ 0 → is_over c.state ≡ true
none_taken c piece rest h some more none = elim (true_or_false (is_over c.state)) [
  | inl over ↦ over
  | inr going ↦ let lt = h.part going in absurd (omega (arith, lt, none, length-take piece rest))
]

-- how far the octets have been carried, from a client and what it had written, to those now
pub record IsCarried (c d : ControlClient) (written now : List ℕ) (octets : List ℕ) (at : ℕ) : Type 0 where
  pub within : at ≤ length octets
  pub sound : IsSound d
  pub heard : client_after d (drop at octets) ≡ client_after c octets
  pub said : now ++ written_by d (drop at octets) ≡ written ++ written_by c octets

pub carried_none : (c : ControlClient) (written octets : List ℕ) → IsSound c → IsCarried c c written written octets 0
carried_none c written octets s = record { within = omega arith; sound = s; heard = refl; said = refl }

pub carried_more : (c d e : ControlClient) (written now then_ said : List ℕ) (octets : List ℕ) (at piece n : ℕ) → IsCarried c d written now octets at
    → n ≡ taken d (take piece (drop at octets)) → e ≡ (fed d (take piece (drop at octets))).client → said ≡ (fed d (take piece (drop at octets))).message → then_ ≡ now ++ said
    → IsCarried c e written then_ octets (at + n)
carried_more c d e written now then_ said octets at piece n i en ee es et =
    let rest = drop at octets in
    let one = carried_on d piece rest i.sound.held in
    let more : drop (taken d (take piece rest)) rest ≡ drop (at + n) octets = drop-drop (taken d (take piece rest)) at octets ∙ ap (λ (k : ℕ). drop (at + k) octets) (sym en) in
    record {
      within = omega (arith, en, i.within, length-take piece rest, length-drop at octets);
      sound = subst IsSound (sym ee) (keeps_fed d (take piece rest) i.sound).sound;
      heard = sym (one.client ∙ ap (client_after (fed d (take piece rest)).client) more ∙ ap (λ (k : ControlClient). client_after k (drop (at + n) octets)) (sym ee)) ∙ i.heard;
      said =
          ap (λ (l : List ℕ). l ++ written_by e (drop (at + n) octets)) et
          ∙ append_assoc now said (written_by e (drop (at + n) octets))
          ∙ ap (λ (l : List ℕ). now ++ l) (ap (λ (l : List ℕ). l ++ written_by e (drop (at + n) octets)) es ∙ ap (λ (k : ControlClient). (fed d (take piece rest)).message ++ written_by k (drop (at + n) octets)) ee ∙ ap (λ (l : List ℕ). (fed d (take piece rest)).message ++ written_by (fed d (take piece rest)).client l) (sym more) ∙ sym one.written)
          ∙ i.said;
    }

pub record IsAllCarried (c d : ControlClient) (written now octets : List ℕ) : Type 0 where
  pub heard : d ≡ client_after c octets
  pub said : now ≡ written ++ written_by c octets

pub carried_all : (c d : ControlClient) (written now octets : List ℕ) (at : ℕ) → IsCarried c d written now octets at → (length octets ≤ at) ⊎ (is_over d.state ≡ true) → IsAllCarried c d written now octets
unfolding client_after written_by
carried_all c d written now octets at i (inl le) =
    let none : drop at octets ≡ [] = drop_all at octets le in
    record {
      heard = sym (ap (client_after d) none) ∙ i.heard;
      said = sym (append-nil now) ∙ sym (ap (λ (l : List ℕ). now ++ written_by d l) none) ∙ i.said;
    }
carried_all c d written now octets at i (inr over) = record {
  heard = sym (over_client (drop at octets) d over) ∙ i.heard;
  said = sym (append-nil now) ∙ sym (ap (λ (l : List ℕ). now ++ l) (over_written (drop at octets) d over)) ∙ i.said;
}

-- ---- pending octets

pub drop_taken : (n : ℕ) (l : List ℕ) → drop (length (take n l)) l ≡ drop n l
drop_taken zero l = refl
drop_taken (suc n) [] = refl
drop_taken (suc n) (x ∷ l) = drop_taken n l

pub pending_left : (stage : JoinStage) (setup : JoinSetup) (octets : List ℕ) (at n : ℕ) → n ≡ length (octets_in stage setup (drop at octets)) → drop (at + n) octets ≡ pending_behind stage setup (drop at octets)
pending_left Carrying setup octets at n e = ap (λ (k : ℕ). drop (at + k) octets) e ∙ sym (drop-drop (length (take setup.piece (drop at octets))) at octets) ∙ drop_taken setup.piece (drop at octets)
pending_left Unopened setup octets at n e = ap (λ (k : ℕ). drop k octets) (let z : at + n ≡ at = omega (arith, e) in z)
pending_left HungUp setup octets at n e = ap (λ (k : ℕ). drop k octets) (let z : at + n ≡ at = omega (arith, e) in z)
pending_left Over setup octets at n e = ap (λ (k : ℕ). drop k octets) (let z : at + n ≡ at = omega (arith, e) in z)

pub next_goes : (setup : JoinSetup) (client : ControlClient) (octets : List ℕ) (at : ℕ) (stage : JoinStage) (log : LogState DeskDeed) (t : Timed) (n : ℕ) (buf pending : List ℕ) (stage' : JoinStage) (log' : LogState DeskDeed) → pending ≡ drop at octets
    → t ≡ given_in stage setup pending → n ≡ octet_count t.event → n ≡ length (octets_in stage setup pending) → take n buf ≡ octets_in stage setup pending → stage' ≡ stage_behind stage pending → log' ≡ noted log (Gave t) (take n buf)
    → JoinGoes (record { setup = setup; client = client; pending = drop at octets; stage = stage; log = log }) (gave t (take (octet_count t.event) buf)) (record { setup = setup; client = client; pending = drop (at + n) octets; stage = stage'; log = log' })
next_goes setup client octets at stage log t n buf pending stage' log' ep et ec el eo es en =
    let s : JoinState = record { setup = setup; client = client; pending = drop at octets; stage = stage; log = log } in
    let event : t ≡ given s = et ∙ ap (given_in stage setup) ep in
    let came : take n buf ≡ octets_given s = eo ∙ ap (octets_in stage setup) ep in
    let left : drop (at + n) octets ≡ pending_behind stage setup (drop at octets) = pending_left stage setup octets at n (el ∙ ap (λ (l : List ℕ). length (octets_in stage setup l)) ep) in
    let behind : stage' ≡ stage_behind stage (drop at octets) = es ∙ ap (stage_behind stage) ep in
    let logged : log' ≡ noted log (Gave (given s)) (octets_given s) = en ∙ ap (λ (u : Timed). noted log (Gave u) (take n buf)) event ∙ ap (noted log (Gave (given s))) came in (
      event,
      ap (λ (k : ℕ). take k buf) (sym ec) ∙ came,
      ap (λ (l : List ℕ). let q : JoinState = record { setup = setup; client = client; pending = l; stage = stage'; log = log' } in q) left
          ∙ ap (λ (g : JoinStage). let q : JoinState = record { setup = setup; client = client; pending = pending_behind stage setup (drop at octets); stage = g; log = log' } in q) behind
          ∙ ap (λ (m : LogState DeskDeed). let q : JoinState = record { setup = setup; client = client; pending = pending_behind stage setup (drop at octets); stage = stage_behind stage (drop at octets); log = m } in q) logged,
    )
