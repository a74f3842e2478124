use Rattle.std.proofs.Common.{◌≡◌, ◌∙◌, ℕ, List, [], ◌++◌, length, take, drop, sym, ap, arith}
use Rattle.std.specs.Int.{w32, to_be_bytes}
use Rattle.std.proofs.lemmas.List.{take-append-drop, append-nil}
use Rattle.std.proofs.Math.ListN.{drop_of_length-le}
use Rattle.octet_format.specs.Octets.{field}
use Rattle.tlv_actions.specs.Rows.{Facts}
use Rattle.reflect_core.specs.Tail.{tail_reply, tail_after}
use Rattle.reflect_core.proofs.Empty.{tail_reply-nil, intact_empty}
use Rattle.reflect_core.proofs.tails.write_tail_after.Goals as goal

pub returns-clause-octets : goal.returns-clause-octets
returns-clause-octets c =
    let input = c.args.input.now in
    let facts : Facts = record { n = c.args.number; plan = c.args.plan.now } in
    let out = c.args.out.now in
    let at = c.args.at in
    let same : at ≡ length input = omega arith in
    let none : drop at input ≡ [] = drop_of_length-le input (omega arith) in
    let asked = field 0 4 input in
    let answered : List ℕ = to_be_bytes w32 c.args.sequence in
    let empty : tail_after at c.args.mode c.args.config.now facts c.args.sequence input ≡ [] =
    ap (tail_reply c.args.mode c.args.config.now facts asked answered) none ∙ tail_reply-nil c.args.mode c.args.config.now facts asked answered in
    sym (take-append-drop at out)
    ∙ ap (λ (x : List ℕ). x ++ drop at out) (sym (append-nil (take at out)))
    ∙ ap (λ (x : List ℕ). take at out ++ x ++ drop at out) (sym empty)
    ∙ ap (λ (n : ℕ). take at out ++ tail_after at c.args.mode c.args.config.now facts c.args.sequence input ++ drop n out) same

pub returns-clause-intact : goal.returns-clause-intact
returns-clause-intact c = intact_empty c.args.at c.args.mode c.args.config.now c.args.input.now (drop_of_length-le c.args.input.now (omega arith))
