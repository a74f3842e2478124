use Rattle.std.proofs.Common.{List, Option, ℕ, ap, ◌∙◌}
use Rattle.std.specs.Option.{is_some}
use Rattle.control_desk.specs.declared.sides.OpenConnection.{OpenConnection}
use Rattle.control_desk.specs.Connections.{index_from}
use Rattle.control_desk.proofs.IndexFacts.{has_same}
use Rattle.control_desk.proofs.room.Places.has.Goals as goal

pub returns : goal.returns
returns c = c.is_some.ensures ∙ ap (λ (o : Option ℕ). is_some o) (c.index_of.ensures.value ∙ ap (λ (l : List OpenConnection). index_from 0 l c.args.number) c.deref.ensures.value) ∙ has_same c.args.self.now.connections.items c.args.number
