-- A talk is the same for every cut of its octets, and feed and step hold it.
use Rattle.std.proofs.Common.{◌≡◌, ℕ, ◌⊎◌, inl, inr, Bool, true, false, cond, List, [], ◌∷◌, ◌++◌, take, drop, Some, None, refl, sym, ap, subst, ◌∙◌, append_assoc, arith}
use Rattle.std.proofs.lemmas.List.{append-nil, take-append-drop, take_all}
use Rattle.std.specs.List.{concat}
use Rattle.twamp_control.specs.declared.types.Message.{Message}
use Rattle.twamp_control.specs.declared.types.Stage.{Stage}
use Rattle.twamp_control.specs.declared.types.Stage.TheVariants.{SettingUp, Idle, Started, HungUp}
use Rattle.twamp_control.specs.Stream.{Reading, completed, is_whole, message_of, messages_from, reading_after, reading_with}
use Rattle.twamp_control.specs.Connection.{Connection, Feeds, connection_after, is_hung_up, messages_in, unless_hung_up}
use Rattle.twamp_control.specs.Talk.{Talk, all_said, at_connection, heard, said, talk, talk_in_pieces}
use Rattle.twamp_control.proofs.Cuts.{connection_after-append, messages_in-append}
use Rattle.twamp_control.proofs.Feeding.{going, none_of_nothing, same_after_nothing}
use Rattle.twamp_control.proofs.Streams.{messages_from-none, reading_after-none}

pub talk-append : (a b : List ℕ) (t : Talk) → talk t (a ++ b) ≡ talk (talk t a) b
unfolding talk
talk-append [] b t = refl
talk-append (x ∷ a) b t = talk-append a b (heard t x)

talk-none : (t : Talk) → talk t [] ≡ t
unfolding talk
talk-none t = refl

talk-octet : (t : Talk) (b : ℕ) (stream : List ℕ) → talk t (b ∷ stream) ≡ talk (heard t b) stream
unfolding talk
talk-octet t b stream = refl

pub talk_in_pieces-concat : (pieces : List (List ℕ)) (t : Talk) → talk_in_pieces t pieces ≡ talk t (concat pieces)
talk_in_pieces-concat [] t = sym (talk-none t)
talk_in_pieces-concat (piece ∷ pieces) t = talk_in_pieces-concat pieces (talk t piece) ∙ sym (talk-append piece (concat pieces) t)

-- ---- lists of messages

pub both_empty : (a b : List Message) → a ++ b ≡ [] → (a ≡ []) × (b ≡ [])
both_empty [] b e = (refl, e)
both_empty (x ∷ a) b e = absurd cc

pub just_one : (a b : List Message) (m : Message) → a ++ b ≡ m ∷ [] → ((a ≡ []) × (b ≡ m ∷ [])) ⊎ ((a ≡ m ∷ []) × (b ≡ []))
just_one [] b m e = inl (refl, e)
just_one (x ∷ a) b m e =
    let rest : a ++ b ≡ [] = cc in
    let first : x ≡ m = cc in
    let none = both_empty a b rest in
    inr (ap (λ (y : Message). y ∷ a) first ∙ ap (λ (l : List Message). m ∷ l) none.0, none.1)

-- ---- octets that complete no message are held

no_message : (b : Bool) (m : Message) → cond b (m ∷ []) [] ≡ [] → b ≡ false
no_message true m e = absurd cc
no_message false m e = refl

a_message : (b : Bool) (m n : Message) → cond b (m ∷ []) [] ≡ n ∷ [] → b ≡ true
a_message true m n e = refl
a_message false m n e = absurd cc

reading_with-begun : (first : Bool) (octets : List ℕ) → is_whole first octets ≡ false → (reading_with first octets).held ≡ octets
reading_with-begun first octets e = rw e refl

reading_with-whole : (first : Bool) (octets : List ℕ) → is_whole first octets ≡ true → (reading_with first octets).held ≡ []
reading_with-whole first octets e = rw e refl

reading_after-octet : (r : Reading) (b : ℕ) (stream : List ℕ) → reading_after r (b ∷ stream) ≡ reading_after (reading_with r.first (r.held ++ b ∷ [])) stream
unfolding reading_after
reading_after-octet r b stream = refl

messages_from-octet : (r : Reading) (b : ℕ) (stream : List ℕ) → messages_from r (b ∷ stream) ≡ completed r.first (r.held ++ b ∷ []) ++ messages_from (reading_with r.first (r.held ++ b ∷ [])) stream
unfolding messages_from
messages_from-octet r b stream = refl

held_grows : (stream : List ℕ) (r : Reading) → messages_from r stream ≡ [] → (reading_after r stream).held ≡ r.held ++ stream
held_grows [] r e = ap (λ (q : Reading). q.held) (reading_after-none r) ∙ sym (append-nil r.held)
held_grows (b ∷ stream) r e =
    let octets = r.held ++ b ∷ [] in
    let none = both_empty (completed r.first octets) (messages_from (reading_with r.first octets) stream) (sym (messages_from-octet r b stream) ∙ e) in
    let test = no_message (is_whole r.first octets) (message_of r.first octets) none.0 in
    ap (λ (q : Reading). q.held) (reading_after-octet r b stream)
    ∙ held_grows stream (reading_with r.first octets) none.1
    ∙ ap (λ (h : List ℕ). h ++ stream) (reading_with-begun r.first octets test)
    ∙ append_assoc r.held (b ∷ []) stream

held_emptied : (r : Reading) (b : ℕ) (m : Message) → messages_from r (b ∷ []) ≡ m ∷ [] → (reading_after r (b ∷ [])).held ≡ []
held_emptied r b m e =
    let octets = r.held ++ b ∷ [] in
    let one : completed r.first octets ≡ m ∷ [] = sym (append-nil (completed r.first octets)) ∙ ap (λ (l : List Message). completed r.first octets ++ l) (sym (messages_from-none (reading_with r.first octets))) ∙ sym (messages_from-octet r b []) ∙ e in
    let test = a_message (is_whole r.first octets) (message_of r.first octets) m one in
    ap (λ (q : Reading). q.held) (reading_after-octet r b [] ∙ reading_after-none (reading_with r.first octets)) ∙ reading_with-whole r.first octets test

open_stage : (s : Stage) (l : List Message) (m : Message) (ms : List Message) → unless_hung_up s [] l ≡ m ∷ ms → is_hung_up s ≡ false
open_stage HungUp l m ms e = absurd cc
open_stage SettingUp l m ms e = refl
open_stage Idle l m ms e = refl
open_stage Started l m ms e = refl

-- ---- octets of one message

quiet : (stream : List ℕ) (t : Talk) → messages_in t.connection stream ≡ [] → talk t stream ≡ at_connection t (connection_after t.connection stream)
quiet [] t e = talk-none t ∙ ap (at_connection t) (sym (same_after_nothing t.connection))
quiet (b ∷ stream) t e =
    let c = t.connection in
    let next = connection_after c (b ∷ []) in
    let none = both_empty (messages_in c (b ∷ [])) (messages_in next stream) (sym (messages_in-append c (b ∷ []) stream) ∙ e) in
    talk-octet t b stream
    ∙ ap (λ (l : List Message). talk (all_said (at_connection t next) l) stream) none.0
    ∙ quiet stream (at_connection t next) none.1
    ∙ ap (at_connection t) (sym (connection_after-append c (b ∷ []) stream))

one_octet : (t : Talk) (b : ℕ) (m : Message) → messages_in t.connection (b ∷ []) ≡ m ∷ [] → talk t (b ∷ []) ≡ said (at_connection t (connection_after t.connection (b ∷ []))) m
one_octet t b m e =
    talk-octet t b []
    ∙ talk-none (heard t b)
    ∙ ap (all_said (at_connection t (connection_after t.connection (b ∷ [])))) e

pub nothing_after : (c : Connection) (b : ℕ) (stream : List ℕ) (m : Message) → messages_in c (b ∷ []) ≡ m ∷ [] → messages_in (connection_after c (b ∷ [])) stream ≡ [] → (connection_after c (b ∷ stream)).reading.held ≡ [] → stream ≡ []
nothing_after c b stream m e none held =
    let next = connection_after c (b ∷ []) in
    let open_ = open_stage c.stage (messages_from c.reading (b ∷ [])) m [] e in
    let one : messages_from c.reading (b ∷ []) ≡ m ∷ [] = sym (going c.stage [] (messages_from c.reading (b ∷ [])) open_) ∙ e in
    let reading : next.reading ≡ reading_after c.reading (b ∷ []) = going c.stage c.reading (reading_after c.reading (b ∷ [])) open_ in
    let empty : next.reading.held ≡ [] = ap (λ (r : Reading). r.held) reading ∙ held_emptied c.reading b m one in
    let quiet_rest : messages_from next.reading stream ≡ [] = sym (going c.stage [] (messages_from next.reading stream) open_) ∙ none in
    let last : (connection_after next stream).reading.held ≡ next.reading.held ++ stream = ap (λ (r : Reading). r.held) (going c.stage next.reading (reading_after next.reading stream) open_) ∙ held_grows stream next.reading quiet_rest in
    sym (ap (λ (h : List ℕ). h ++ stream) empty) ∙ sym last ∙ ap (λ (d : Connection). d.reading.held) (sym (connection_after-append c (b ∷ []) stream)) ∙ held

one_message : (stream : List ℕ) (t : Talk) (m : Message) → messages_in t.connection stream ≡ m ∷ [] → (connection_after t.connection stream).reading.held ≡ [] → talk t stream ≡ said (at_connection t (connection_after t.connection stream)) m
one_message [] t m e held = let none : [] ≡ m ∷ [] = sym (none_of_nothing t.connection) ∙ e in absurd cc
one_message (b ∷ stream) t m e held =
    let c = t.connection in
    let next = connection_after c (b ∷ []) in
    let split = messages_in-append c (b ∷ []) stream in
    let onward = connection_after-append c (b ∷ []) stream in
    elim (just_one (messages_in c (b ∷ [])) (messages_in next stream) m (sym split ∙ e)) [
      | inl later ↦
          talk-octet t b stream
          ∙ ap (λ (l : List Message). talk (all_said (at_connection t next) l) stream) later.0
          ∙ one_message stream (at_connection t next) m later.1 (ap (λ (d : Connection). d.reading.held) (sym onward) ∙ held)
          ∙ ap (λ (d : Connection). said (at_connection t d) m) (sym onward)
      | inr now ↦
          let rest = nothing_after c b stream m now.0 now.1 held in
          subst (λ (s : List ℕ). talk t (b ∷ s) ≡ said (at_connection t (connection_after c (b ∷ s))) m) (sym rest) (one_octet t b m now.0)
    ]

-- ---- one call of feed

pub talk_feeds : (t : Talk) (new : Connection) (piece : List ℕ) (n : ℕ) (m : Message) → Feeds t.connection new piece n (Some m) → talk t piece ≡ talk (said (at_connection t new) m) (drop n piece)
talk_feeds t new piece n m f =
    let held : (connection_after t.connection (take n piece)).reading.held ≡ [] = ap (λ (d : Connection). d.reading.held) (sym f.after) ∙ f.end in
    ap (talk t) (sym (take-append-drop n piece))
    ∙ talk-append (take n piece) (drop n piece) t
    ∙ ap (λ (u : Talk). talk u (drop n piece)) (one_message (take n piece) t m (sym f.message) held ∙ ap (λ (d : Connection). said (at_connection t d) m) (sym f.after))

pub talk_ends : (t : Talk) (new : Connection) (piece : List ℕ) (n : ℕ) → Feeds t.connection new piece n None → talk t piece ≡ at_connection t new
talk_ends t new piece n f =
    let all : take n piece ≡ piece = take_all n piece (omega (arith, f.all)) in
    ap (talk t) (sym all)
    ∙ quiet (take n piece) t (sym f.message)
    ∙ ap (at_connection t) (sym f.after)
