-- Steps that a call of the rule made, as additions to the desk's list.
use Rattle.std.proofs.Common.{◌∙◌, List, [], ◌∷◌, ◌++◌, ap, sym, refl, append_assoc}
use Rattle.session_world.specs.declared.steps.Step.{Step}
use Rattle.session_rule.specs.declared.seats.Table.{Table}
use Rattle.session_rule.specs.declared.seats.Seat.{Seat}
use Rattle.session_rule.specs.Seats.{size_of, IsDeskOf, desk_steps, joined_parts, IsDeskOfOneSchedule, DeskHasMade}
use Rattle.session_desk.specs.Writes.{HasAdded}

pub added_one : (t : Table) (a b : Seat) (s : Step) → DeskHasMade t a b s → HasAdded t a b (s ∷ [])
added_one t a b s m = record { steps = m.step; joined = m.joined; seat = m.seat; schedule = m.schedule }

pub added_two : (t : Table) (a b c : Seat) (r s : Step) → DeskHasMade t a b s → DeskHasMade t b c r → HasAdded t a c (r ∷ s ∷ [])
added_two t a b c r s m n = record { steps = n.step ∙ ap (λ (xs : List Step). r ∷ xs) m.step; joined = n.joined ∙ m.joined; seat = n.seat; schedule = n.schedule }

pub added_none : (t : Table) (a : Seat) → IsDeskOf t a → IsDeskOfOneSchedule (size_of t) (desk_steps a) (joined_parts a) → HasAdded t a a []
added_none t a d s = record { steps = refl; joined = refl; seat = d; schedule = s }

pub added_then : (t : Table) (a b c : Seat) (xs ys : List Step) → HasAdded t a b xs → HasAdded t b c ys → HasAdded t a c (ys ++ xs)
added_then t a b c xs ys m n = record { steps = n.steps ∙ ap (λ (zs : List Step). ys ++ zs) m.steps ∙ sym (append_assoc ys xs (desk_steps a)); joined = n.joined ∙ m.joined; seat = n.seat; schedule = n.schedule }
