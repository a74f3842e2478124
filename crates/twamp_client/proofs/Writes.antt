-- What a client has behind any octets is sound again, and how much it may write then.
use Rattle.std.proofs.Common.{◌≡◌, ℕ, ◌+◌, ◌-◌, ◌*◌, ◌<◌, ◌≤◌, true, false, eqb, List, [], ◌∷◌, ◌++◌, length, take, Option, Some, None, refl, sym, ap, subst, ◌∙◌, inl, inr, arith}
use Rattle.std.specs.List.{filter, slice_get}
use Rattle.std.proofs.lemmas.List.{length-append, length-take}
use Rattle.std.proofs.lemmas.Option.{slice_get_within, get_or_from_slice_get}
use Rattle.std.proofs.lemmas.Bool.Decides.{nat_tests}
use Rattle.refl_types.proofs.BitFacts.{true_or_false}
use Rattle.control_msgs.specs.Layout.{request_message, set_up, start_sessions}
use Rattle.twamp_client.specs.declared.types.Wish.{Wish}
use Rattle.twamp_client.specs.declared.types.Grant.{Grant}
use Rattle.twamp_client.specs.declared.types.ClientState.{ClientState}
use Rattle.twamp_client.specs.declared.types.ClientState.TheVariants.{Greeting, ServerStart, Accepting, StartAck, Started, Stopped, NoMode, Denied, NoSession}
use Rattle.twamp_client.specs.Client.{ControlClient, FitsState, IsSized, IsSound, Said, accept_in, answer_in, are_offered, asks, at_state, awaited, granted, held_none, is_granted, is_over, modes_in, next_message, next_state, request_of, says_nothing, server_accept, told, told_in, unless_denied}
use Rattle.twamp_client.specs.Feeding.{fed, holding, taken}
use Rattle.twamp_client.specs.Hearing.{client_after, hears, written_by}
use Rattle.twamp_client.specs.Room.{left_in, left_to_write}
use Rattle.twamp_client.proofs.Hears.{fed_over}
use Rattle.twamp_client.proofs.Sounds.{is_answer-answer_in, sound_behind, wish_fits}

-- ---- lengths

length-set_up : (mode : ℕ) → length (set_up mode) ≡ 164
unfolding set_up
length-set_up mode = refl

length-start : length start_sessions ≡ 32
unfolding start_sessions
length-start = refl

pub length-request : (w : Wish) → IsSized w → length (request_message (request_of w)) ≡ 112
unfolding request_message
length-request w s = grind (arith, s.timeout, s.octets, length-append)

-- ---- a message that is told

-- the client behind it is sound, and what it has written was its to write
pub record Keeps (c : ControlClient) (said : Said) : Type 0 where
  pub sound : IsSound said.client
  pub room : length said.message + left_to_write said.client ≤ left_to_write c

module _ (c : ControlClient) (s : IsSound c) where
  -- with another state and nothing held
  sound_at : (state : ClientState) → FitsState state (length c.answers) (length c.wishes) → (is_over state ≡ false → 0 < awaited state) → IsSound (at_state (held_none c) state)
  sound_at state fits some = record {
    mode = s.mode;
    some = s.some;
    few = s.few;
    ports = s.ports;
    sized = s.sized;
    fits_mode = s.fits_mode;
    answers = s.answers;
    fits = fits;
    held = record { part = some; none = λ _. refl };
  }

  request_len : (answers : List Grant) (w : Wish) → slice_get c.wishes (length answers) ≡ Some w → length (request_message (request_of w)) ≡ 112
  request_len answers w e =
      let lt = slice_get_within c.wishes (length answers) w e in
      length-request w (subst IsSized (get_or_from_slice_get c.wishes (length answers) w w e) (s.sized (length answers) w lt))

  -- room behind an answer or a Server-Start, with so many wishes left
  next_room : (w : Option Wish) (gs : List Grant) (n : ℕ) → ((x : Wish) → w ≡ Some x → (length (request_message (request_of x)) ≡ 112) × (0 < n)) → length (next_message w gs) + left_in (next_state w gs) n ≤ 112 * n + 64
  next_room (Some w) gs n some = let h = some w refl in omega (arith, h.0, h.1)
  next_room None [] n some = omega arith
  next_room None (g ∷ gs) n some = omega (arith, length-start)

  left_room : (answers : List Grant) (gs : List Grant) → length answers ≤ length c.wishes
      → length (next_message (slice_get c.wishes (length answers)) gs) + left_in (next_state (slice_get c.wishes (length answers)) gs) (length c.wishes - length answers) ≤ 112 * (length c.wishes - length answers) + 64
  left_room answers gs le = next_room (slice_get c.wishes (length answers)) gs (length c.wishes - length answers) (λ x e. (request_len answers x e, let lt = slice_get_within c.wishes (length answers) x e in omega (arith, lt)))

  next_some : (w : Option Wish) (gs : List Grant) → is_over (next_state w gs) ≡ false → 0 < awaited (next_state w gs)
  next_some (Some w) gs going = omega arith
  next_some None [] going = absurd cc
  next_some None (g ∷ gs) going = omega arith

  denied : (state : ClientState) (accept : ℕ) (said : Said) → state ≡ c.state → FitsState (Denied accept) (length c.answers) (length c.wishes) → Keeps c said → Keeps c (unless_denied (held_none c) accept said)
  denied state accept said e fits k = elim (true_or_false (eqb accept 0)) [
    | inl y ↦ rw y k
    | inr f ↦ rw f (record { sound = sound_at (Denied accept) fits (λ going. absurd cc); room = omega arith })
  ]

  keeps_greeting : (octets : List ℕ) → c.state ≡ Greeting → Keeps c (told_in Greeting (held_none c) octets)
  keeps_greeting octets at =
      let fits : length c.answers ≡ 0 = subst (λ (x : ClientState). FitsState x (length c.answers) (length c.wishes)) at s.fits in
      let left : left_to_write c ≡ 164 + 112 * (length c.wishes - length c.answers) + 64 = ap (λ (x : ClientState). left_in x (length c.wishes - length c.answers)) at in
      elim (true_or_false (are_offered (modes_in octets) c.mode)) [
        | inl y ↦ rw y (record { sound = sound_at ServerStart fits (λ _. omega arith); room = omega (arith, left, length-set_up c.mode) })
        | inr f ↦ rw f (record { sound = sound_at NoMode fits (λ going. absurd cc); room = omega arith })
      ]

  keeps_server_start : (octets : List ℕ) → c.state ≡ ServerStart → Keeps c (told_in ServerStart (held_none c) octets)
  keeps_server_start octets at =
      let fits : length c.answers ≡ 0 = subst (λ (x : ClientState). FitsState x (length c.answers) (length c.wishes)) at s.fits in
      let left : left_to_write c ≡ 112 * (length c.wishes - length c.answers) + 64 = ap (λ (x : ClientState). left_in x (length c.wishes - length c.answers)) at in
      let w = slice_get c.wishes (length c.answers) in
      denied ServerStart (server_accept octets) (asks (held_none c)) (sym at) (omega (arith, fits)) (record {
        sound = sound_at (next_state w (granted c)) (wish_fits c.wishes (granted c) (length c.answers) (omega (arith, fits))) (next_some w (granted c));
        room = let r = left_room c.answers (granted c) (omega (arith, fits)) in omega (arith, r, left);
      })

  keeps_accepting : (octets : List ℕ) → c.state ≡ Accepting → Keeps c (told_in Accepting (held_none c) octets)
  keeps_accepting octets at =
      let fits : length c.answers < length c.wishes = subst (λ (x : ClientState). FitsState x (length c.answers) (length c.wishes)) at s.fits in
      let left : left_to_write c ≡ 112 * (length c.wishes - length c.answers - 1) + 64 = ap (λ (x : ClientState). left_in x (length c.wishes - length c.answers)) at in
      let answers = c.answers ++ answer_in octets ∷ [] in
      let w = slice_get c.wishes (length answers) in
      let gs = filter is_granted answers in
      let len : length answers ≡ length c.answers + 1 = length-append c.answers (answer_in octets ∷ []) in
      record {
        sound = sound_behind c (answer_in octets) (next_state w gs) s at (is_answer-answer_in octets) refl;
        room = let r = left_room answers gs (omega (arith, fits, len)) in omega (arith, r, left, len);
      }

  keeps_start_ack : (octets : List ℕ) → c.state ≡ StartAck → Keeps c (told_in StartAck (held_none c) octets)
  keeps_start_ack octets at =
      let fits : length c.answers ≡ length c.wishes = subst (λ (x : ClientState). FitsState x (length c.answers) (length c.wishes)) at s.fits in
      let left : left_to_write c ≡ 32 = ap (λ (x : ClientState). left_in x (length c.wishes - length c.answers)) at in
      denied StartAck (accept_in octets) (says_nothing (held_none c) Started) (sym at) (omega (arith, fits)) (record { sound = sound_at Started fits (λ going. absurd cc); room = omega (arith, left) })

  keeps_in : (state : ClientState) (octets : List ℕ) → c.state ≡ state → is_over state ≡ false → Keeps c (told_in state (held_none c) octets)
  keeps_in Greeting octets at going = keeps_greeting octets at
  keeps_in ServerStart octets at going = keeps_server_start octets at
  keeps_in Accepting octets at going = keeps_accepting octets at
  keeps_in StartAck octets at going = keeps_start_ack octets at
  keeps_in Started octets at going = absurd cc
  keeps_in Stopped octets at going = absurd cc
  keeps_in NoMode octets at going = absurd cc
  keeps_in (Denied accept) octets at going = absurd cc
  keeps_in NoSession octets at going = absurd cc

  pub keeps_told : (octets : List ℕ) → is_over c.state ≡ false → Keeps c (told c octets)
  keeps_told octets going = keeps_in c.state octets refl going

  keeps_none : Keeps c (record { client = c; message = [] })
  keeps_none = record { sound = s; room = omega arith }

  keeps_holding : (octets : List ℕ) → is_over c.state ≡ false → length octets < awaited c.state → Keeps c (holding c octets)
  keeps_holding octets going lt = record {
    sound = record {
      mode = s.mode;
      some = s.some;
      few = s.few;
      ports = s.ports;
      sized = s.sized;
      fits_mode = s.fits_mode;
      answers = s.answers;
      fits = s.fits;
      held = record { part = λ _. lt; none = λ over. let no : true ≡ false = sym over ∙ going in absurd cc };
    };
    room = omega arith;
  }

  pub keeps_hears : (b : ℕ) → Keeps c (hears c b)
  keeps_hears b = elim (true_or_false (is_over c.state)) [
    | inl over ↦ rw over keeps_none
    | inr going ↦
        let lt = s.held.part going in
        let len : length (c.held ++ b ∷ []) ≡ length c.held + 1 = length-append c.held (b ∷ []) in
        elim (true_or_false (eqb (length (c.held ++ b ∷ [])) (awaited c.state))) [
          | inl y ↦ rw (going, y) (keeps_told (c.held ++ b ∷ []) going)
          | inr f ↦ rw (going, f) (keeps_holding (c.held ++ b ∷ []) going (less lt len f))
        ]
  ] where
    less : {m n k : ℕ} → m < n → k ≡ m + 1 → eqb k n ≡ false → k < n
    less lt e f = grind (arith, nat_tests)

pub keeps_fed : (c : ControlClient) (piece : List ℕ) → IsSound c → Keeps c (fed c piece)
keeps_fed c piece s = elim (true_or_false (is_over c.state)) [
  | inl over ↦ let f = fed_over c piece over (s.held.none over) in subst (λ (said : Said). Keeps c said) (sym f.1) (keeps_none c s)
  | inr going ↦
      let lt = s.held.part going in
      let octets = c.held ++ take (taken c piece) piece in
      let len : length octets ≡ length c.held + length (take (taken c piece) piece) = length-append c.held (take (taken c piece) piece) in
      elim (true_or_false (eqb (length octets) (awaited c.state))) [
        | inl y ↦ rw y (keeps_told c s octets going)
        | inr f ↦ rw f (keeps_holding c s octets going (less (length octets) (awaited c.state) f (omega (arith, lt, len, length-take (taken c piece) piece))))
      ]
] where
  less : (k n : ℕ) → eqb k n ≡ false → k ≤ n → k < n
  less k n f le = grind (arith, nat_tests)

pub keeps_all : (octets : List ℕ) (c : ControlClient) → IsSound c → IsSound (client_after c octets) × (length (written_by c octets) + left_to_write (client_after c octets) ≤ left_to_write c)
unfolding client_after written_by
keeps_all [] c s = (s, omega arith)
keeps_all (b ∷ octets) c s =
    let k = keeps_hears c s b in
    let more = keeps_all octets (hears c b).client k.sound in
    let len : length ((hears c b).message ++ written_by (hears c b).client octets) ≡ length (hears c b).message + length (written_by (hears c b).client octets) = length-append (hears c b).message (written_by (hears c b).client octets) in
    (more.0, let m = more.1 in let r = k.room in omega (arith, m, r, len))
