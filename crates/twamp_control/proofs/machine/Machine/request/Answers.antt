use Rattle.std.proofs.Common.{false, take, sym, ap, subst, ◌∙◌, arith}
use Rattle.twamp_control.specs.declared.types.DeskAnswer.{DeskAnswer}
use Rattle.twamp_control.specs.declared.types.DeskAnswer.TheVariants.{Reserved}
use Rattle.twamp_control.specs.declared.types.Stepped.{Stepped}
use Rattle.twamp_control.specs.Connection.{Connection}
use Rattle.twamp_control.specs.Table.{Steps, request_row}
use Rattle.twamp_control.proofs.Streams.{reading_at}
use Rattle.twamp_control.proofs.Feeding.{connection}
use Rattle.twamp_control.proofs.Rows.{accepted}
use Rattle.twamp_control.proofs.machine.Machine.request.Goals as goal

pub returns-in-Reserved : goal.returns-in-Reserved
returns-in-Reserved c =
    let m = c.self.inside in
    let before : Connection = connection m.start (reading_at m.first (take m.count m.buffer)) m.stage m.mode m.sessions in
    let after : Connection = connection m.start (reading_at m.first (take m.count m.buffer)) m.stage m.mode c.saturating_add-self-inside.result in
    let result : Stepped = record { len = c.put_accept-len.result; hang_up = false } in
    subst (λ (a : DeskAnswer). Steps (request_row c.args.self.now c.args.octets.now a c.args.now) c.args.out.now c.put_accept-len.new.out after result) (sym c.in-Reserved.is)
    (subst (λ (s : Connection). Steps (request_row s c.args.octets.now (Reserved c.in-Reserved.place c.in-Reserved.port) c.args.now) c.args.out.now c.put_accept-len.new.out after result) c.self.view_is
    (accepted before c.args.octets.now c.args.out.now c.put_accept-len.new.out c.session_id.result c.reflected-reflected.result c.in-Reserved.place c.in-Reserved.port c.args.now c.saturating_add-self-inside.result c.put_accept-len.result
    (ap (λ (s : Connection). s.stage) c.self.view_is ∙ c.requires) c.session_id.ensures c.reflected-reflected.ensures c.saturating_add-self-inside.ensures c.put_accept-len.ensures.reply c.put_accept-len.ensures.len (omega arith)))
