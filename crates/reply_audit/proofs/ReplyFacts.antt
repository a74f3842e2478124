-- A reply that was written, and one that was recorded.
use Rattle.std.proofs.Common.{◌≡◌, ℕ, ◌%◌, ◌^◌, List, length, take, drop, sym, ap, ◌∙◌}
use Rattle.std.proofs.lemmas.List.{take_at}
use Rattle.refl_types.specs.declared.types.Endpoint.{Endpoint}
use Rattle.refl_types.specs.declared.types.Meta.{Meta}
use Rattle.reflect_core.specs.Reflection.{Reflected, reflection}
use Rattle.reply_audit.specs.declared.kept.Written.{Written}
use Rattle.reply_audit.specs.Written.{IsWritten}
use Rattle.replay_format.specs.Answers.{Sending}
use Rattle.replay_table.specs.Table.{Entry}
use Rattle.replay_table.specs.Reflection.{meta_of, sent_under, sending}
use Rattle.reply_audit.specs.Claims.{Arrival, replied_at}

abbrev reflected : List Endpoint → Entry → ℕ → Meta → List ℕ → Reflected
reflected locals e t3 m octets = reflection e.key.mode e.extra e.config (record { number = e.count % 2 ^ 32; sending = t3 }) (record { meta = m; octets = octets; locals = locals })

-- what is sent is the reflection of what the look copied
pub same_sending : (locals : List Endpoint) (e : Entry) (a : Arrival) (t3 : ℕ) (m : Meta) (octets : List ℕ) → m ≡ meta_of (replied_at t3 a) → octets ≡ a.octets
    → sent_under (e.count % 2 ^ 32) (reflected locals e t3 m octets) ≡ sending locals e (replied_at t3 a)
unfolding sending
same_sending locals e a t3 m octets same text =
    ap (λ (x : Meta). sent_under (e.count % 2 ^ 32) (reflected locals e t3 x octets)) same
    ∙ ap (λ (x : List ℕ). sent_under (e.count % 2 ^ 32) (reflected locals e t3 (meta_of (replied_at t3 a)) x)) text

abbrev told : ℕ → Endpoint → ℕ → List ℕ → Sending
told from to number octets = record { from = from; to = to; number = number; octets = octets }

module _ (r : Reflected) (reply : Written) (old new : List ℕ) (n : ℕ) (is : IsWritten r reply old new) (from : ℕ) (to : Endpoint) (number : ℕ) (octets : List ℕ) where
  pub told_yes : n ≡ number → reply.from ≡ from → reply.to ≡ to → reply.len ≡ length octets → take (length octets) new ≡ octets → told from to number octets ≡ sent_under n r
  told_yes a b c d e =
      let size : length r.octets ≡ length octets = sym is.len ∙ d in
      let text : r.octets ≡ octets = sym (take_at r.octets (drop reply.len old) (length octets) size) ∙ ap (take (length octets)) (sym is.octets) ∙ e in
      ap (λ x. told x to number octets) (sym b ∙ is.from)
      ∙ ap (λ x. told r.from x number octets) (sym c ∙ is.to)
      ∙ ap (λ x. told r.from r.to x octets) (sym a)
      ∙ ap (λ x. told r.from r.to n x) (sym text)

  pub told_number : told from to number octets ≡ sent_under n r → n ≡ number
  told_number e = ap (λ (s : Sending). s.number) (sym e)

  pub told_from : told from to number octets ≡ sent_under n r → reply.from ≡ from
  told_from e = is.from ∙ ap (λ (s : Sending). s.from) (sym e)

  pub told_to : told from to number octets ≡ sent_under n r → reply.to ≡ to
  told_to e = is.to ∙ ap (λ (s : Sending). s.to) (sym e)

  pub told_len : told from to number octets ≡ sent_under n r → reply.len ≡ length octets
  told_len e = is.len ∙ ap (λ (s : Sending). length s.octets) (sym e)

  pub told_octets : told from to number octets ≡ sent_under n r → take (length octets) new ≡ octets
  told_octets e =
      let text : octets ≡ r.octets = ap (λ (s : Sending). s.octets) e in
      ap (take (length octets)) is.octets ∙ take_at r.octets (drop reply.len old) (length octets) (ap length (sym text)) ∙ sym text
