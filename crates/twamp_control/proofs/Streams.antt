-- The messages of a stream: octets that come later, and octets that are one message.
use Rattle.std.proofs.Common.{◌≡◌, ℕ, ◌+◌, ◌<◌, Bool, true, false, eqb, List, [], ◌∷◌, ◌++◌, length, refl, sym, ap, ◌∙◌, append_assoc, arith}
use Rattle.std.proofs.lemmas.List.{length-append, append-nil}
use Rattle.std.proofs.lemmas.Bool.Decides.{nat_tests}
use Rattle.twamp_control.specs.declared.types.Message.{Message}
use Rattle.twamp_control.specs.Stream.{Reading, completed, is_whole, message_length, message_of, messages_from, reading_after, reading_with}

-- ---- in two parts

pub messages_from-append : (a b : List ℕ) (r : Reading) → messages_from r (a ++ b) ≡ messages_from r a ++ messages_from (reading_after r a) b
unfolding messages_from reading_after
messages_from-append [] b r = refl
messages_from-append (x ∷ a) b r =
    let octets = r.held ++ x ∷ [] in
    let next = reading_with r.first octets in
    ap (λ (l : List Message). completed r.first octets ++ l) (messages_from-append a b next)
    ∙ sym (append_assoc (completed r.first octets) (messages_from next a) (messages_from (reading_after next a) b))

pub reading_after-append : (a b : List ℕ) (r : Reading) → reading_after r (a ++ b) ≡ reading_after (reading_after r a) b
unfolding reading_after
reading_after-append [] b r = refl
reading_after-append (x ∷ a) b r = reading_after-append a b (reading_with r.first (r.held ++ x ∷ []))

pub messages_from-none : (r : Reading) → messages_from r [] ≡ []
unfolding messages_from
messages_from-none r = refl

pub reading_after-none : (r : Reading) → reading_after r [] ≡ r
unfolding reading_after
reading_after-none r = refl

-- ---- one octet

-- the first octet tells the length
message_length-front : (first : Bool) (held rest : List ℕ) (b : ℕ) → message_length first (held ++ b ∷ rest) ≡ message_length first (held ++ b ∷ [])
message_length-front true held rest b = refl
message_length-front false [] rest b = refl
message_length-front false (x ∷ held) rest b = refl

abbrev pub reading_at : Bool → List ℕ → Reading
reading_at first held = record { first = first; held = held }

messages_from-partial : (first : Bool) (held stream : List ℕ) (b : ℕ) → is_whole first (held ++ b ∷ []) ≡ false → messages_from (reading_at first held) (b ∷ stream) ≡ messages_from (reading_at first (held ++ b ∷ [])) stream
unfolding messages_from
messages_from-partial first held stream b e = rw e refl

reading_after-partial : (first : Bool) (held stream : List ℕ) (b : ℕ) → is_whole first (held ++ b ∷ []) ≡ false → reading_after (reading_at first held) (b ∷ stream) ≡ reading_after (reading_at first (held ++ b ∷ [])) stream
unfolding reading_after
reading_after-partial first held stream b e = rw e refl

messages_from-whole : (first : Bool) (held : List ℕ) (b : ℕ) → is_whole first (held ++ b ∷ []) ≡ true → messages_from (reading_at first held) (b ∷ []) ≡ message_of first (held ++ b ∷ []) ∷ []
unfolding messages_from
messages_from-whole first held b e = rw e refl

reading_after-whole : (first : Bool) (held : List ℕ) (b : ℕ) → is_whole first (held ++ b ∷ []) ≡ true → reading_after (reading_at first held) (b ∷ []) ≡ reading_at false []
unfolding reading_after
reading_after-whole first held b e = rw e refl

eqb-less : (m n : ℕ) → m < n → eqb m n ≡ false
eqb-less m n lt = grind (arith, nat_tests)

eqb-same : (m n : ℕ) → m ≡ n → eqb m n ≡ true
eqb-same m n e = grind (arith, nat_tests)

-- ---- octets of one message

-- these octets begin a message of this length
pub record Begins (first : Bool) (held stream : List ℕ) (whole : ℕ) : Type 0 where
  pub len : message_length first (held ++ stream) ≡ whole

begins_more : (first : Bool) (held stream : List ℕ) (b whole : ℕ) → Begins first held (b ∷ stream) whole → Begins first (held ++ b ∷ []) stream whole
begins_more first held stream b whole h = record { len = ap (message_length first) (append_assoc held (b ∷ []) stream) ∙ h.len }

still_partial : (first : Bool) (held stream : List ℕ) (b whole : ℕ) → Begins first held (b ∷ stream) whole → length held + 1 < whole → is_whole first (held ++ b ∷ []) ≡ false
still_partial first held stream b whole h lt =
    let len : message_length first (held ++ b ∷ []) ≡ whole = sym (message_length-front first held stream b) ∙ h.len in
    eqb-less (length (held ++ b ∷ [])) (message_length first (held ++ b ∷ [])) (omega (arith, len, length-append held (b ∷ [])))

-- what is read of octets that lack the end of a message
pub record Lacks (first : Bool) (held stream : List ℕ) : Type 0 where
  pub messages : messages_from (reading_at first held) stream ≡ []
  pub reading : reading_after (reading_at first held) stream ≡ reading_at first (held ++ stream)

pub lacks : (stream : List ℕ) (first : Bool) (held : List ℕ) (whole : ℕ) → Begins first held stream whole → length held + length stream < whole → Lacks first held stream
lacks [] first held whole h lt = record {
  messages = messages_from-none (reading_at first held);
  reading = reading_after-none (reading_at first held) ∙ ap (reading_at first) (sym (append-nil held));
}
lacks (b ∷ stream) first held whole h lt =
    let part = still_partial first held stream b whole h (omega arith) in
    let more = lacks stream first (held ++ b ∷ []) whole (begins_more first held stream b whole h) (omega (arith, length-append held (b ∷ []))) in
    record {
      messages = messages_from-partial first held stream b part ∙ more.messages;
      reading = reading_after-partial first held stream b part ∙ more.reading ∙ ap (reading_at first) (append_assoc held (b ∷ []) stream);
    }

-- what is read of octets that complete a message
pub record Completes (first : Bool) (held stream : List ℕ) : Type 0 where
  pub messages : messages_from (reading_at first held) stream ≡ message_of first (held ++ stream) ∷ []
  pub reading : reading_after (reading_at first held) stream ≡ reading_at false []

pub completes : (stream : List ℕ) (first : Bool) (held : List ℕ) (whole : ℕ) → Begins first held stream whole → 0 < length stream → length held + length stream ≡ whole → Completes first held stream
completes [] first held whole h some e = absurd (omega arith)
completes (b ∷ []) first held whole h some e =
    let test : is_whole first (held ++ b ∷ []) ≡ true = eqb-same (length (held ++ b ∷ [])) (message_length first (held ++ b ∷ [])) (omega (arith, h.len, length-append held (b ∷ []))) in
    record { messages = messages_from-whole first held b test; reading = reading_after-whole first held b test }
completes (b ∷ d ∷ stream) first held whole h some e =
    let part = still_partial first held (d ∷ stream) b whole h (omega arith) in
    let more = completes (d ∷ stream) first (held ++ b ∷ []) whole (begins_more first held (d ∷ stream) b whole h) (omega arith) (omega (arith, length-append held (b ∷ []))) in
    record {
      messages = messages_from-partial first held (d ∷ stream) b part ∙ more.messages ∙ ap (λ (o : List ℕ). message_of first o ∷ []) (append_assoc held (b ∷ []) (d ∷ stream));
      reading = reading_after-partial first held (d ∷ stream) b part ∙ more.reading;
    }
