-- What one call of feed does, over the parts of a connection.
use Rattle.std.proofs.Common.{◌≡◌, ℕ, ◌+◌, ◌-◌, ◌<◌, ◌≤◌, inl, inr, min, Bool, true, false, List, [], ◌∷◌, ◌++◌, length, take, drop, get_or, Some, None, refl, sym, ap, subst, ◌∙◌, arith}
use Rattle.std.proofs.lemmas.List.{length-append, length-take, take_all, take_at, drop_all, take-append-drop, get_or-take, get_or_append_left}
use Rattle.std.proofs.lemmas.Bool.{cases_lt}
use Rattle.std.proofs.lemmas.Bool.Decides.{nat_tests}
use Rattle.twamp_control.specs.declared.types.Message.{Message}
use Rattle.twamp_control.specs.declared.types.Stage.{Stage}
use Rattle.twamp_control.specs.declared.types.Stage.TheVariants.{SettingUp, Idle, Started, HungUp}
use Rattle.twamp_control.specs.Stream.{Reading, command_length, message_length, message_of, messages_from, reading_after}
use Rattle.twamp_control.specs.Connection.{Connection, Feeds, connection_after, is_hung_up, messages_in, unless_hung_up}
use Rattle.twamp_control.proofs.Streams.{Begins, Completes, Lacks, completes, lacks, messages_from-append, messages_from-none, reading_after-none, reading_at}

-- ---- stages

over : {A : Type 0} (s : Stage) (x y : A) → is_hung_up s ≡ true → unless_hung_up s x y ≡ x
over HungUp x y e = refl
over SettingUp x y e = absurd cc
over Idle x y e = absurd cc
over Started x y e = absurd cc

pub going : {A : Type 0} (s : Stage) (x y : A) → is_hung_up s ≡ false → unless_hung_up s x y ≡ y
going HungUp x y e = absurd cc
going SettingUp x y e = refl
going Idle x y e = refl
going Started x y e = refl

same_either : {A : Type 0} (s : Stage) (x : A) → unless_hung_up s x x ≡ x
same_either HungUp x = refl
same_either SettingUp x = refl
same_either Idle x = refl
same_either Started x = refl

-- ---- nothing is read

pub feeds_over : (c : Connection) (piece : List ℕ) → is_hung_up c.stage ≡ true → Feeds c c piece (length piece) None
feeds_over c piece e = record {
  taken = omega arith;
  message = sym (over c.stage [] (messages_from c.reading (take (length piece) piece)) e);
  after = ap (λ (r : Reading). let d : Connection = record c { reading = r } in d) (sym (over c.stage c.reading (reading_after c.reading (take (length piece) piece)) e));
  none = (λ _. over c.stage [] (messages_from c.reading piece) e, λ _. refl);
  all = refl;
  end = tt;
  rest = over c.stage [] (messages_from c.reading piece) e ∙ sym (over c.stage [] (messages_from c.reading (drop (length piece) piece)) e);
}

pub none_of_nothing : (c : Connection) → messages_in c [] ≡ []
none_of_nothing c = ap (unless_hung_up c.stage []) (messages_from-none c.reading) ∙ same_either c.stage []

pub same_after_nothing : (c : Connection) → connection_after c [] ≡ c
same_after_nothing c = ap (λ (r : Reading). let d : Connection = record c { reading = r } in d) (ap (unless_hung_up c.stage c.reading) (reading_after-none c.reading) ∙ same_either c.stage c.reading)

feeds_nothing : (c : Connection) → Feeds c c [] 0 None
feeds_nothing c = record {
  taken = omega arith;
  message = sym (none_of_nothing c);
  after = sym (same_after_nothing c);
  none = (λ _. none_of_nothing c, λ _. refl);
  all = refl;
  end = tt;
  rest = refl;
}

pub feeds_empty : (c : Connection) (piece : List ℕ) → length piece ≡ 0 → Feeds c c piece 0 None
feeds_empty c [] e = feeds_nothing c
feeds_empty c (b ∷ piece) e = absurd (omega arith)

-- ---- the parts of a connection

abbrev pub connection : ℕ → Reading → Stage → ℕ → ℕ → Connection
connection start reading stage mode sessions = record { start = start; reading = reading; stage = stage; mode = mode; sessions = sessions }

module _ (start : ℕ) (stage : Stage) (mode sessions : ℕ) (going_on : is_hung_up stage ≡ false) where
  pub feeds_part : (first : Bool) (held piece : List ℕ) → Lacks first held piece
      → Feeds (connection start (reading_at first held) stage mode sessions) (connection start (reading_at first (held ++ piece)) stage mode sessions) piece (length piece) None
  feeds_part first held piece l =
      let c : Connection = connection start (reading_at first held) stage mode sessions in
      let d : Connection = connection start (reading_at first (held ++ piece)) stage mode sessions in
      let all : take (length piece) piece ≡ piece = take_all (length piece) piece (omega arith) in
      let nothing : messages_in c piece ≡ [] = going stage [] (messages_from (reading_at first held) piece) going_on ∙ l.messages in
      let reading : unless_hung_up stage (reading_at first held) (reading_after (reading_at first held) piece) ≡ reading_at first (held ++ piece) = going stage (reading_at first held) (reading_after (reading_at first held) piece) going_on ∙ l.reading in
      let same : connection_after c piece ≡ d = ap (λ (r : Reading). connection start r stage mode sessions) reading in
      record {
        taken = omega arith;
        message = sym (ap (messages_in c) all ∙ nothing);
        after = sym (ap (connection_after c) all ∙ same);
        none = (λ _. nothing, λ _. refl);
        all = refl;
        end = tt;
        rest = nothing ∙ sym (ap (messages_in d) (drop_all (length piece) piece (omega arith)) ∙ none_of_nothing d);
      }

  pub feeds_whole : (first : Bool) (held piece : List ℕ) (n : ℕ) → n ≤ length piece → Completes first held (take n piece)
      → Feeds (connection start (reading_at first held) stage mode sessions) (connection start (reading_at false []) stage mode sessions) piece n (Some (message_of first (held ++ take n piece)))
  feeds_whole first held piece n within h =
      let c : Connection = connection start (reading_at first held) stage mode sessions in
      let d : Connection = connection start (reading_at false []) stage mode sessions in
      let m = message_of first (held ++ take n piece) in
      let one : messages_in c (take n piece) ≡ m ∷ [] = going stage [] (messages_from (reading_at first held) (take n piece)) going_on ∙ h.messages in
      let reading : unless_hung_up stage (reading_at first held) (reading_after (reading_at first held) (take n piece)) ≡ reading_at false [] = going stage (reading_at first held) (reading_after (reading_at first held) (take n piece)) going_on ∙ h.reading in
      let same : connection_after c (take n piece) ≡ d = ap (λ (r : Reading). connection start r stage mode sessions) reading in
      let split : messages_from (reading_at first held) piece ≡ (m ∷ []) ++ messages_from (reading_at false []) (drop n piece) =
      ap (messages_from (reading_at first held)) (sym (take-append-drop n piece))
      ∙ messages_from-append (take n piece) (drop n piece) (reading_at first held)
      ∙ ap (λ (l : List Message). l ++ messages_from (reading_after (reading_at first held) (take n piece)) (drop n piece)) h.messages
      ∙ ap (λ (r : Reading). (m ∷ []) ++ messages_from r (drop n piece)) h.reading in
      let more : messages_in c piece ≡ (m ∷ []) ++ messages_in d (drop n piece) =
      going stage [] (messages_from (reading_at first held) piece) going_on
      ∙ split
      ∙ ap (λ (l : List Message). (m ∷ []) ++ l) (sym (going stage [] (messages_from (reading_at false []) (drop n piece)) going_on)) in
      record {
        taken = within;
        message = sym one;
        after = sym same;
        none = (λ e. absurd cc, λ e. absurd (let z : m ∷ messages_in d (drop n piece) ≡ [] = sym more ∙ e in cc));
        all = tt;
        end = refl;
        rest = more;
      }

-- ---- the buffer

message_length-first : (first : Bool) (a b : List ℕ) → get_or a 0 0 ≡ get_or b 0 0 → message_length first a ≡ message_length first b
message_length-first true a b e = refl
message_length-first false a b e = ap command_length e

some_octets : (first : Bool) (octets : List ℕ) → 0 < message_length first octets
some_octets true octets = omega arith
some_octets false octets = grind (arith, nat_tests)

-- a call of feed with octets to read
pub record Fed (first : Bool) (buffer piece : List ℕ) (count octet whole n : ℕ) : Type 0 where
  pub size : length buffer ≡ 164
  pub room : count < message_length first buffer
  pub some : 0 < length piece
  pub front : get_or (take count buffer ++ piece) 0 0 ≡ octet
  pub wanted : whole ≡ message_length first (octet ∷ [])
  pub taken : n ≡ min (length piece) (whole - count)

at_most : (first : Bool) (octets : List ℕ) → message_length first octets ≤ 164
at_most true octets = omega arith
at_most false octets = grind (arith, nat_tests)

-- what the buffer holds once n octets were put
pub record Buffered (first : Bool) (buffer piece buffer' : List ℕ) (count whole n : ℕ) : Type 0 where
  pub within : n ≤ length piece
  pub some : 0 < n
  pub room : count < whole
  pub held : length (take count buffer) ≡ count
  pub begins : Begins first (take count buffer) (take n piece) whole
  pub front : take (count + n) buffer' ≡ take count buffer ++ take n piece
  pub wanted : message_length first buffer' ≡ whole

pub first_kept : (a b : List ℕ) (n : ℕ) → 0 < n → get_or (a ++ take n b) 0 0 ≡ get_or (a ++ b) 0 0
first_kept [] b n lt = get_or-take n b 0 0 lt
first_kept (x ∷ a) b n lt = refl

-- a message that has begun lacks an octet
room_left : (first : Bool) (buffer piece : List ℕ) (count octet whole n : ℕ) → Fed first buffer piece count octet whole n → length (take count buffer) ≡ count → count < whole
room_left first buffer piece count octet whole n f held =
    elim (cases_lt 0 count) [
      | inl lt ↦
          let same : get_or buffer 0 0 ≡ octet = sym (get_or-take count buffer 0 0 lt) ∙ sym (get_or_append_left (take count buffer) piece 0 0 (omega (arith, held))) ∙ f.front in
          let len : message_length first buffer ≡ whole = message_length-first first buffer (octet ∷ []) same ∙ sym f.wanted in
          omega (arith, f.room, len)
      | inr le ↦ omega (arith, f.wanted, some_octets first (octet ∷ []))
    ]

pub buffered : (first : Bool) (buffer piece buffer' : List ℕ) (count octet whole n : ℕ) → Fed first buffer piece count octet whole n
    → buffer' ≡ take count buffer ++ take n piece ++ drop (count + length (take n piece)) buffer
    → Buffered first buffer piece buffer' count whole n
buffered first buffer piece buffer' count octet whole n f e =
    let most = at_most first buffer in
    let held : length (take count buffer) ≡ count = omega (arith, length-take count buffer, f.size, f.room) in
    let room : count < whole = room_left first buffer piece count octet whole n f held in
    let some : 0 < n = omega (arith, f.taken, f.some) in
    let within : n ≤ length piece = omega (arith, f.taken) in
    let first_octet : get_or (take count buffer ++ take n piece) 0 0 ≡ octet = first_kept (take count buffer) piece n some ∙ f.front in
    let len : message_length first (take count buffer ++ take n piece) ≡ whole = message_length-first first (take count buffer ++ take n piece) (octet ∷ []) first_octet ∙ sym f.wanted in
    let front_len : length (take count buffer ++ take n piece) ≡ count + n = omega (arith, length-append (take count buffer) (take n piece), length-take n piece, held) in
    let front : take (count + n) buffer' ≡ take count buffer ++ take n piece = ap (take (count + n)) e ∙ take_at (take count buffer ++ take n piece) (drop (count + length (take n piece)) buffer) (count + n) front_len in
    let same : get_or buffer' 0 0 ≡ octet = ap (λ (l : List ℕ). get_or l 0 0) e ∙ get_or_append_left (take count buffer ++ take n piece) (drop (count + length (take n piece)) buffer) 0 0 (omega (arith, front_len)) ∙ first_octet in
    record {
      within = within;
      some = some;
      room = room;
      held = held;
      begins = record { len = len };
      front = front;
      wanted = message_length-first first buffer' (octet ∷ []) same ∙ sym f.wanted;
    }

-- ---- the two ends of a call

module _ (start : ℕ) (stage : Stage) (mode sessions : ℕ) (going_on : is_hung_up stage ≡ false) (first : Bool) (buffer piece buffer' : List ℕ) (count octet whole n : ℕ) (f : Fed first buffer piece count octet whole n) (put : buffer' ≡ take count buffer ++ take n piece ++ drop (count + length (take n piece)) buffer) where
  abbrev before : Connection
  before = connection start (reading_at first (take count buffer)) stage mode sessions

  pub fed_part : count + n < whole → Feeds before (connection start (reading_at first (take (count + n) buffer')) stage mode sessions) piece n None
  fed_part lt =
      let b = buffered first buffer piece buffer' count octet whole n f put in
      let all : n ≡ length piece = omega (arith, f.taken) in
      let same : take n piece ≡ piece = take_all n piece (omega (arith, all)) in
      let lack : Lacks first (take count buffer) piece = lacks piece first (take count buffer) whole (subst (λ (p : List ℕ). Begins first (take count buffer) p whole) same b.begins) (omega (arith, all, b.held)) in
      let held : take (count + n) buffer' ≡ take count buffer ++ piece = b.front ∙ ap (λ (p : List ℕ). take count buffer ++ p) same in
      subst (λ (k : ℕ). Feeds before (connection start (reading_at first (take (count + n) buffer')) stage mode sessions) piece k None) (sym all)
      (subst (λ (h : List ℕ). Feeds before (connection start (reading_at first h) stage mode sessions) piece (length piece) None) (sym held)
      (feeds_part start stage mode sessions going_on first (take count buffer) piece lack))

  pub fed_whole : whole ≤ count + n → Feeds before (connection start (reading_at false []) stage mode sessions) piece n (Some (message_of first (take (message_length first buffer') buffer')))
  fed_whole le =
      let b = buffered first buffer piece buffer' count octet whole n f put in
      let sum : count + n ≡ whole = omega (arith, f.taken, b.room) in
      let octets : take (message_length first buffer') buffer' ≡ take count buffer ++ take n piece = ap (λ (k : ℕ). take k buffer') (b.wanted ∙ sym sum) ∙ b.front in
      let done : Completes first (take count buffer) (take n piece) = completes (take n piece) first (take count buffer) whole b.begins (omega (arith, length-take n piece, b.some, b.within)) (omega (arith, length-take n piece, b.held, b.within, sum)) in
      subst (λ (o : List ℕ). Feeds before (connection start (reading_at false []) stage mode sessions) piece n (Some (message_of first o))) (sym octets)
      (feeds_whole start stage mode sessions going_on first (take count buffer) piece n b.within done)
