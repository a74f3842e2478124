use Rattle.std.proofs.Common.{◌∙◌, ap, sym, subst, refl}
use Rattle.config_rows.specs.Rows.{IsSought}
use Rattle.config_rows.specs.declared.book.Sought.TheVariants.{RowsFull}
use Rattle.session_world.specs.declared.steps.TableSize.{TableSize}
use Rattle.session_world.specs.Allowed.{DeskDid}
use Rattle.session_rule.specs.Seats.{IsDeskOfOneSchedule, joined_parts, desk_steps}
use Rattle.session_desk.specs.Kept.{book_of}
use Rattle.session_desk.specs.Calls.{HasKeptRow}
use Rattle.session_desk.proofs.Keeping.{kept_by}
use Rattle.session_desk.proofs.Rowed.{row_kept, row_does}
use Rattle.session_desk.proofs.book.DeskBook.keep_row.Goals as goal

pub returns-in_default-clause-made : goal.returns-in_default-clause-made
returns-in_default-clause-made c = let f = c.in_default.ensures.full in (
  subst (λ b. IsSought b.rows c.args.config.now RowsFull) c.self.view_is f.0,
  (λ p. book_of (f.1 p) c.self.inside.size (f.2 p) c.self.inside.slots.items c.self.inside.live.items c.self.inside.reserved.items c.self.inside.taken.items) ∙ c.self.view_is,
)

schedule : (c : goal.In-Ok) → IsDeskOfOneSchedule c.self.inside.size (desk_steps c.use_row.new.seat) (joined_parts c.use_row.new.seat)
schedule c = let same = c.requires.same in subst (λ (z : TableSize). IsDeskOfOneSchedule z (desk_steps c.use_row.new.seat) (joined_parts c.use_row.new.seat)) (same.1 ∙ ap (λ b. b.size) (sym c.self.view_is)) c.in-Ok.ensures.row.1.schedule

pub invariant_of-self-2 : goal.invariant_of-self-2
invariant_of-self-2 c = let k = c.self.invariant.0 in let m = c.in-Ok.ensures.row in (
  kept_by _ _ _ _ _ _ _ _ _ _ _ _ _ m.1.steps refl refl refl refl
      (row_kept c.self.inside.size (desk_steps c.self.inside.seat) m.0 c.self.inside.rows c.use_row.new.rows _ _ _ _ _ c.args.config.now c.in-Ok._row k m.2 (subst (DeskDid c.self.inside.size) m.1.steps (c.law_desk_did.ensures _ _ _ (schedule c))) (c.law_words.ensures.back c.args.config.now)),
  schedule c,
  c.self.invariant.2,
  c.self.invariant.3,
  c.self.invariant.4,
)

pub returns-clause-made : goal.returns-clause-made
returns-clause-made c = let m = c.in-Ok.ensures.row in
    subst (λ b. HasKeptRow c.args.table.now b c.args.config.now (book_of c.use_row.new.seat c.self.inside.size c.use_row.new.rows c.self.inside.slots.items c.self.inside.live.items c.self.inside.reserved.items c.self.inside.taken.items)) c.self.view_is
    (row_does c.args.table.now c.self.inside.size c.self.inside.seat c.use_row.new.seat m.0 c.self.inside.rows c.use_row.new.rows _ _ _ _ c.args.config.now c.in-Ok._row m.2 m.1)
