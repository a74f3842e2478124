-- One call of feed, seen from the plan of a control connection's octets.
use Rattle.std.proofs.Common.{◌≡◌, ℕ, zero, suc, ◌<◌, inl, inr, List, [], ◌∷◌, ◌++◌, length, take, drop, Some, None, refl, sym, ap, subst, ◌∙◌, arith}
use Rattle.std.proofs.lemmas.List.{append-nil, take-append-drop, take_all}
use Rattle.twamp_control.specs.declared.types.Message.{Message}
use Rattle.twamp_control.specs.Connection.{Connection, Feeds, connection_after, messages_in}
use Rattle.twamp_control.proofs.Cuts.{connection_after-append, messages_in-append}
use Rattle.twamp_control.proofs.Feeding.{none_of_nothing, same_after_nothing}
use Rattle.twamp_control.proofs.Talks.{both_empty, just_one, nothing_after}
use Rattle.control_desk.specs.declared.sides.ControlSide.{ControlSide}
use Rattle.control_desk.specs.State.{Setting}
use Rattle.control_desk.specs.Plan.{Plan}
use Rattle.control_desk.specs.Control.{message_plan, with_octet, control_plan}

-- the side with a machine, heard now
abbrev pub with_machine : ControlSide → ℕ → Connection → ControlSide
with_machine c now m = record c { machine = m; heard = now }

module _ (f : Setting) (n now : ℕ) (more : ControlSide → Plan) (gone : Plan) where
  pub ends : (c : ControlSide) → control_plan f n now more gone c [] ≡ more c
  unfolding control_plan
  ends c = refl

  octet : (c : ControlSide) (b : ℕ) (rest : List ℕ) → control_plan f n now more gone c (b ∷ rest)
      ≡ message_plan f n now (λ d. control_plan f n now more gone d rest) gone (with_octet c now b) (messages_in c.machine (b ∷ []))
  unfolding control_plan
  octet c b rest = refl

  heard_first : (c : ControlSide) (b : ℕ) (rest : List ℕ) → control_plan f n now more gone c (b ∷ rest) ≡ control_plan f n now more gone (with_machine c now c.machine) (b ∷ rest)
  heard_first c b rest = octet c b rest ∙ sym (octet (with_machine c now c.machine) b rest)

  pub heard_some : (c : ControlSide) (octets : List ℕ) → 0 < length octets → control_plan f n now more gone c octets ≡ control_plan f n now more gone (with_machine c now c.machine) octets
  heard_some c [] h = absurd (omega arith)
  heard_some c (b ∷ octets) h = heard_first c b octets

  quiet : (stream : List ℕ) (c : ControlSide) (m : Connection) (rest : List ℕ) → messages_in m stream ≡ []
      → control_plan f n now more gone (with_machine c now m) (stream ++ rest) ≡ control_plan f n now more gone (with_machine c now (connection_after m stream)) rest
  quiet [] c m rest e = ap (λ (k : Connection). control_plan f n now more gone (with_machine c now k) rest) (sym (same_after_nothing m))
  quiet (b ∷ stream) c m rest e =
      let next = connection_after m (b ∷ []) in
      let none = both_empty (messages_in m (b ∷ [])) (messages_in next stream) (sym (messages_in-append m (b ∷ []) stream) ∙ e) in
      octet (with_machine c now m) b (stream ++ rest)
      ∙ ap (message_plan f n now (λ d. control_plan f n now more gone d (stream ++ rest)) gone (with_machine c now next)) none.0
      ∙ quiet stream c next rest none.1
      ∙ ap (λ (k : Connection). control_plan f n now more gone (with_machine c now k) rest) (sym (connection_after-append m (b ∷ []) stream))

  one_message : (stream : List ℕ) (c : ControlSide) (m : Connection) (x : Message) (rest : List ℕ) → messages_in m stream ≡ x ∷ [] → (connection_after m stream).reading.held ≡ []
      → control_plan f n now more gone (with_machine c now m) (stream ++ rest)
      ≡ message_plan f n now (λ d. control_plan f n now more gone d rest) gone (with_machine c now (connection_after m stream)) (x ∷ [])
  one_message [] c m x rest e held = let none : [] ≡ x ∷ [] = sym (none_of_nothing m) ∙ e in absurd cc
  one_message (b ∷ stream) c m x rest e held =
      let next = connection_after m (b ∷ []) in
      let split = messages_in-append m (b ∷ []) stream in
      let onward = connection_after-append m (b ∷ []) stream in
      elim (just_one (messages_in m (b ∷ [])) (messages_in next stream) x (sym split ∙ e)) [
        | inl later ↦
            octet (with_machine c now m) b (stream ++ rest)
            ∙ ap (message_plan f n now (λ d. control_plan f n now more gone d (stream ++ rest)) gone (with_machine c now next)) later.0
            ∙ one_message stream c next x rest later.1 (ap (λ (d : Connection). d.reading.held) (sym onward) ∙ held)
            ∙ ap (λ (k : Connection). message_plan f n now (λ d. control_plan f n now more gone d rest) gone (with_machine c now k) (x ∷ [])) (sym onward)
        | inr now_ ↦
            let none = nothing_after m b stream x now_.0 now_.1 held in
            subst (λ (s : List ℕ). control_plan f n now more gone (with_machine c now m) (b ∷ (s ++ rest))
            ≡ message_plan f n now (λ d. control_plan f n now more gone d rest) gone (with_machine c now (connection_after m (b ∷ s))) (x ∷ [])) (sym none)
            (octet (with_machine c now m) b rest
            ∙ ap (message_plan f n now (λ d. control_plan f n now more gone d rest) gone (with_machine c now next)) now_.0)
      ]

  -- without a message the whole piece was taken
  pub fed_none : (c : ControlSide) (m new : Connection) (piece : List ℕ) (k : ℕ) → Feeds m new piece k None
      → control_plan f n now more gone (with_machine c now m) piece ≡ more (with_machine c now new)
  fed_none c m new piece k h =
      let all : take k piece ≡ piece = take_all k piece (omega (arith, h.all)) in
      ap (control_plan f n now more gone (with_machine c now m)) (sym (append-nil piece))
      ∙ quiet piece c m [] (h.none.0 refl)
      ∙ ends (with_machine c now (connection_after m piece))
      ∙ ap (λ (d : Connection). more (with_machine c now d)) (ap (connection_after m) (sym all) ∙ sym h.after)

  pub fed_some : (c : ControlSide) (m new : Connection) (piece : List ℕ) (k : ℕ) (x : Message) → Feeds m new piece k (Some x)
      → control_plan f n now more gone (with_machine c now m) piece
      ≡ message_plan f n now (λ d. control_plan f n now more gone d (drop k piece)) gone (with_machine c now new) (x ∷ [])
  fed_some c m new piece k x h =
      let held : (connection_after m (take k piece)).reading.held ≡ [] = ap (λ (d : Connection). d.reading.held) (sym h.after) ∙ h.end in
      ap (control_plan f n now more gone (with_machine c now m)) (sym (take-append-drop k piece))
      ∙ one_message (take k piece) c m x (drop k piece) (sym h.message) held
      ∙ ap (λ (d : Connection). message_plan f n now (λ e. control_plan f n now more gone e (drop k piece)) gone (with_machine c now d) (x ∷ [])) (sym h.after)

-- a message takes at least one octet
taken_zero : (m new : Connection) (piece : List ℕ) (k : ℕ) (x : Message) → Feeds m new piece k (Some x) → k ≡ 0 → ⊥
taken_zero m new piece k x h e =
    let none : x ∷ [] ≡ [] = h.message ∙ ap (λ (j : ℕ). messages_in m (take j piece)) e ∙ none_of_nothing m in
    absurd cc

pub takes_some : (m new : Connection) (piece : List ℕ) (k : ℕ) (x : Message) → Feeds m new piece k (Some x) → 0 < k
takes_some m new piece zero x h = absurd (taken_zero m new piece zero x h refl)
takes_some m new piece (suc k) x h = omega arith
