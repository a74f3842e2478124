use Rattle.std.proofs.Common.{◌≡◌, ◌+◌, ◌∙◌, ℕ, List, [], ◌∷◌, ◌++◌, length, take, drop, ap, sym, append_assoc}
use Rattle.std.specs.Int.{w16, to_be_bytes}
use Rattle.std.proofs.lemmas.List.{drop-drop}
use Rattle.tlv_actions.proofs.reply.write_flags.Goals as goal

pub returns : goal.returns
returns c =
    let old = c.args.out.now in
    let s = c.args.span.now in
    let value = c.args.value.now in
    let later : List ℕ = drop (s.at + 4 + s.len) old in
    let tail : List ℕ = (s.kind ∷ to_be_bytes w16 (length value)) ++ value in
    let rest : drop (s.at + 1) old ≡ tail ++ later = sym (drop-drop 1 s.at old) ∙ ap (drop 1) c.requires.holds.holds in
    record { octets = c.put.ensures ∙ ap (λ (x : List ℕ). take s.at old ++ (c.args.flags ∷ []) ++ x) rest ∙ append_assoc (take s.at old) (c.args.flags ∷ []) (tail ++ later) ∙ sym (append_assoc (take s.at old) (c.args.flags ∷ tail) later) }
