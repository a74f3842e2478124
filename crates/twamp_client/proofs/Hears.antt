-- Octets of the server, one by one, by pieces and by whole messages.
use Rattle.std.proofs.Common.{◌≡◌, ℕ, ◌+◌, ◌<◌, true, false, eqb, List, [], ◌∷◌, ◌++◌, length, take, drop, refl, sym, ap, subst, ◌∙◌, append_assoc, inl, inr, arith}
use Rattle.std.specs.List.{concat}
use Rattle.std.proofs.lemmas.List.{length-append, length-take, append-nil, take-append-drop}
use Rattle.std.proofs.lemmas.Bool.{cases_lt}
use Rattle.std.proofs.lemmas.Bool.Decides.{nat_tests}
use Rattle.refl_types.proofs.BitFacts.{true_or_false}
use Rattle.twamp_client.specs.declared.types.ClientState.{ClientState}
use Rattle.twamp_client.specs.declared.types.ClientState.TheVariants.{Greeting, ServerStart, Accepting, StartAck, Started, Stopped, NoMode, Denied, NoSession}
use Rattle.twamp_client.specs.Client.{ControlClient, HoldsPart, Said, awaited, held_none, is_over, told, told_in}
use Rattle.twamp_client.specs.Feeding.{fed, holding, taken}
use Rattle.twamp_client.specs.Hearing.{FedHears, TellsWhole, client_after, client_after_pieces, hears, written_by, written_in_pieces}

-- ---- in two parts

pub client_after-append : (a b : List ℕ) (c : ControlClient) → client_after c (a ++ b) ≡ client_after (client_after c a) b
unfolding client_after
client_after-append [] b c = refl
client_after-append (x ∷ a) b c = client_after-append a b (hears c x).client

pub written_by-append : (a b : List ℕ) (c : ControlClient) → written_by c (a ++ b) ≡ written_by c a ++ written_by (client_after c a) b
unfolding client_after written_by
written_by-append [] b c = refl
written_by-append (x ∷ a) b c =
    ap (λ (l : List ℕ). (hears c x).message ++ l) (written_by-append a b (hears c x).client)
    ∙ sym (append_assoc (hears c x).message (written_by (hears c x).client a) (written_by (client_after (hears c x).client a) b))

pub pieces_client : (pieces : List (List ℕ)) (c : ControlClient) → client_after_pieces c pieces ≡ client_after c (concat pieces)
unfolding client_after
pieces_client [] c = refl
pieces_client (p ∷ pieces) c = pieces_client pieces (client_after c p) ∙ sym (client_after-append p (concat pieces) c)

pub pieces_written : (pieces : List (List ℕ)) (c : ControlClient) → written_in_pieces c pieces ≡ written_by c (concat pieces)
unfolding written_by
pieces_written [] c = refl
pieces_written (p ∷ pieces) c =
    ap (λ (l : List ℕ). written_by c p ++ l) (pieces_written pieces (client_after c p)) ∙ sym (written_by-append p (concat pieces) c)

-- ---- one octet

abbrev pub at_held : ControlClient → List ℕ → ControlClient
at_held c held = record c { held = held }

-- the octets at the front of a stream, where the client has become d and has written this
pub record Goes (c : ControlClient) (front rest : List ℕ) (said : Said) : Type 0 where
  pub client : client_after c (front ++ rest) ≡ client_after said.client rest
  pub written : written_by c (front ++ rest) ≡ said.message ++ written_by said.client rest

eqb-less : (m n : ℕ) → m < n → eqb m n ≡ false
eqb-less m n lt = grind (arith, nat_tests)

eqb-same : (m n : ℕ) → m ≡ n → eqb m n ≡ true
eqb-same m n e = grind (arith, nat_tests)

one_less : (c : ControlClient) (b : ℕ) → is_over c.state ≡ false → length c.held + 1 < awaited c.state → hears c b ≡ holding c (c.held ++ b ∷ [])
one_less c b going lt =
    let test : eqb (length (c.held ++ b ∷ [])) (awaited c.state) ≡ false = eqb-less (length (c.held ++ b ∷ [])) (awaited c.state) (omega (arith, length-append c.held (b ∷ []))) in
    rw (going, test) refl

one_last : (c : ControlClient) (b : ℕ) → is_over c.state ≡ false → length c.held + 1 ≡ awaited c.state → hears c b ≡ told c (c.held ++ b ∷ [])
one_last c b going same =
    let test : eqb (length (c.held ++ b ∷ [])) (awaited c.state) ≡ true = eqb-same (length (c.held ++ b ∷ [])) (awaited c.state) (omega (arith, length-append c.held (b ∷ []))) in
    rw (going, test) refl

goes_none : (c : ControlClient) (rest : List ℕ) → Goes c [] rest (holding c (c.held ++ []))
goes_none c rest = rw (append-nil c.held) (record { client = refl; written = refl })

goes_octet : (c : ControlClient) (b : ℕ) (front rest : List ℕ) (first said : Said) → hears c b ≡ first → Goes first.client front rest said → first.message ≡ [] → Goes c (b ∷ front) rest said
unfolding client_after written_by
goes_octet c b front rest first said e g none = record {
  client = ap (λ (s : Said). client_after s.client (front ++ rest)) e ∙ g.client;
  written = ap (λ (s : Said). s.message ++ written_by s.client (front ++ rest)) e ∙ ap (λ (l : List ℕ). l ++ written_by first.client (front ++ rest)) none ∙ g.written;
}

-- octets that lack the end of the message are held
pub goes_part : (front rest : List ℕ) (c : ControlClient) → is_over c.state ≡ false → length c.held + length front < awaited c.state → Goes c front rest (holding c (c.held ++ front))
goes_part [] rest c going lt = goes_none c rest
goes_part (b ∷ front) rest c going lt =
    let first = holding c (c.held ++ b ∷ []) in
    let more = goes_part front rest (at_held c (c.held ++ b ∷ [])) going (omega (arith, length-append c.held (b ∷ []))) in
    let joined = subst (λ (h : List ℕ). Goes (at_held c (c.held ++ b ∷ [])) front rest (holding c h)) (append_assoc c.held (b ∷ []) front) more in
    goes_octet c b front rest first (holding c (c.held ++ b ∷ front)) (one_less c b going (omega arith)) joined refl

-- octets up to the end of the message are told
pub goes_whole : (front rest : List ℕ) (c : ControlClient) → is_over c.state ≡ false → 0 < length front → length c.held + length front ≡ awaited c.state → Goes c front rest (told c (c.held ++ front))
unfolding client_after written_by
goes_whole [] rest c going some e = absurd (omega arith)
goes_whole (b ∷ []) rest c going some e =
    let last = one_last c b going (omega arith) in
    record { client = ap (λ (s : Said). client_after s.client rest) last; written = ap (λ (s : Said). s.message ++ written_by s.client rest) last }
goes_whole (b ∷ d ∷ front) rest c going some e =
    let first = holding c (c.held ++ b ∷ []) in
    let more = goes_whole (d ∷ front) rest (at_held c (c.held ++ b ∷ [])) going (omega arith) (omega (arith, length-append c.held (b ∷ []))) in
    let joined = subst (λ (h : List ℕ). Goes (at_held c (c.held ++ b ∷ [])) (d ∷ front) rest (told c h)) (append_assoc c.held (b ∷ []) (d ∷ front)) more in
    goes_octet c b (d ∷ front) rest first (told c (c.held ++ b ∷ d ∷ front)) (one_less c b going (omega arith)) joined refl

-- ---- a call of feed

none_awaited : (s : ClientState) → is_over s ≡ true → awaited s ≡ 0
none_awaited s e = grind (arith, nat_tests)

told_over : (s : ClientState) (c : ControlClient) (octets : List ℕ) → is_over s ≡ true → told_in s c octets ≡ record { client = c; message = [] }
told_over Greeting c octets e = absurd cc
told_over ServerStart c octets e = absurd cc
told_over Accepting c octets e = absurd cc
told_over StartAck c octets e = absurd cc
told_over Started c octets e = refl
told_over Stopped c octets e = refl
told_over NoMode c octets e = refl
told_over (Denied accept) c octets e = refl
told_over NoSession c octets e = refl

abbrev same_said : ControlClient → Said
same_said c = record { client = c; message = [] }

pub fed_over : (c : ControlClient) (piece : List ℕ) → is_over c.state ≡ true → c.held ≡ [] → (taken c piece ≡ 0) × (fed c piece ≡ same_said c)
fed_over c piece over none =
    let no : awaited c.state ≡ 0 = none_awaited c.state over in
    let zero_ : taken c piece ≡ 0 = omega (arith, no) in
    let octets : c.held ++ take (taken c piece) piece ≡ [] = ap (λ (n : ℕ). c.held ++ take n piece) zero_ ∙ ap (λ (h : List ℕ). h ++ []) none in
    let test : eqb (length (c.held ++ take (taken c piece) piece)) (awaited c.state) ≡ true = eqb-same (length (c.held ++ take (taken c piece) piece)) (awaited c.state) (ap length octets ∙ sym no) in
    (zero_, rw test (told_over c.state (held_none c) (c.held ++ take (taken c piece) piece) over ∙ ap (λ (h : List ℕ). same_said (at_held c h)) (sym none)))

goes_fed : (c : ControlClient) (piece : List ℕ) → is_over c.state ≡ false → length c.held < awaited c.state → Goes c (take (taken c piece) piece) (drop (taken c piece) piece) (fed c piece)
goes_fed c piece going part =
    let n = taken c piece in
    let len : length (take n piece) ≡ n = length-take n piece ∙ omega arith in
    elim (cases_lt (length c.held + n) (awaited c.state)) [
      | inl lt ↦
          let test : eqb (length (c.held ++ take n piece)) (awaited c.state) ≡ false = eqb-less (length (c.held ++ take n piece)) (awaited c.state) (omega (arith, length-append c.held (take n piece), len)) in
          rw test (goes_part (take n piece) (drop n piece) c going (omega (arith, len)))
      | inr le ↦
          let sum : length c.held + n ≡ awaited c.state = omega arith in
          let test : eqb (length (c.held ++ take n piece)) (awaited c.state) ≡ true = eqb-same (length (c.held ++ take n piece)) (awaited c.state) (omega (arith, length-append c.held (take n piece), len)) in
          rw test (goes_whole (take n piece) (drop n piece) c going (omega (arith, len)) (omega (arith, len)))
    ]

pub fed_hears : (c : ControlClient) (piece : List ℕ) → HoldsPart c → FedHears c piece
unfolding written_by
fed_hears c piece h = elim (true_or_false (is_over c.state)) [
  | inl over ↦
      let f = fed_over c piece over (h.none over) in
      record {
        client = sym (ap (λ (s : Said). client_after s.client (drop (taken c piece) piece)) f.1 ∙ ap (λ (n : ℕ). client_after c (drop n piece)) f.0);
        written = sym (ap (λ (s : Said). s.message ++ written_by s.client (drop (taken c piece) piece)) f.1 ∙ ap (λ (n : ℕ). written_by c (drop n piece)) f.0);
      }
  | inr going ↦
      let g = goes_fed c piece going (h.part going) in
      let all = take-append-drop (taken c piece) piece in
      record {
        client = ap (client_after c) (sym all) ∙ g.client;
        written = ap (written_by c) (sym all) ∙ g.written;
      }
]

-- ---- a whole message

pub tells_whole : (c : ControlClient) (message rest : List ℕ) → is_over c.state ≡ false → c.held ≡ [] → length message ≡ awaited c.state → TellsWhole c message rest
tells_whole c message rest going none len =
    let some : 0 < awaited c.state = some_awaited c.state going in
    let g = goes_whole message rest c going (omega (arith, len)) (omega (arith, ap length none, len)) in
    let octets : c.held ++ message ≡ message = ap (λ (h : List ℕ). h ++ message) none in
    record { client = g.client ∙ ap (λ (o : List ℕ). client_after (told c o).client rest) octets; written = g.written ∙ ap (λ (o : List ℕ). (told c o).message ++ written_by (told c o).client rest) octets }
  where
    some_awaited : (s : ClientState) → is_over s ≡ false → 0 < awaited s
    some_awaited s e = grind (arith, nat_tests)
