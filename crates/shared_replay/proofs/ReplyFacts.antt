-- The reply under what was seen and drawn is the reply of the entry that has it.
use Rattle.std.proofs.Common.{◌≡◌, ℕ, ◌+◌, ◌-◌, ◌%◌, ◌^◌, ◌≤◌, List, ◌++◌, length, take, drop, sym, ap, ◌∙◌, arith}
use borrow.Rule.Slice.PartMut.{put_mid}
use Rattle.refl_types.specs.Limits.{datagram_limit}
use Rattle.refl_types.specs.declared.types.Endpoint.{Endpoint}
use Rattle.refl_types.specs.declared.types.Meta.{Meta}
use Rattle.refl_types.specs.declared.types.Mode.{Mode}
use Rattle.refl_types.specs.declared.types.Extra.{Extra}
use Rattle.refl_types.specs.declared.config.ConfigParts.{ConfigParts}
use Rattle.reflect_core.specs.declared.reflecting.Reply.{Reply}
use Rattle.reflect_core.specs.declared.ends.Ends.{Ends}
use Rattle.reflect_core.specs.Ends.{ends_told}
use Rattle.reflect_core.specs.Reflection.{Reflected, reflection, IsReply}
use Rattle.replay_format.specs.Records.{datagram_of}
use Rattle.replay_format.specs.Answers.{Sending, answer_octets, sent_octets}
use Rattle.replay_format.proofs.AnswerFacts.{framed_behind}
use Rattle.replay_table.specs.Table.{Entry}
use Rattle.replay_table.specs.Reflection.{sending, sent_under, meta_of}
use Rattle.shared_replay.specs.Turn.{IsEntryOf, IsSent}

measured : (m : Meta) (t3 : ℕ) (octets : List ℕ) → m.len ≡ length octets → meta_of (datagram_of m t3 octets) ≡ m
measured m t3 octets e = ap (λ (n : ℕ). let x : Meta = record { local = m.local; peer = m.peer; len = n; ttl = m.ttl; arrival = m.arrival } in x) (sym e)

abbrev reply_under : Mode → Extra → ConfigParts → ℕ → Meta → ℕ → List ℕ → List Endpoint → Reflected
reply_under mode x c n m t3 octets locals = reflection mode x c (record { number = n; sending = t3 }) (record { meta = m; octets = octets; locals = locals })

sending_is : (locals : List Endpoint) (e : Entry) (mode : Mode) (x : Extra) (c : ConfigParts) (n : ℕ) (m : Meta) (t3 : ℕ) (octets : List ℕ) → m.len ≡ length octets → IsEntryOf e mode x c n
    → sending locals e (datagram_of m t3 octets) ≡ sent_under n (reply_under mode x c n m t3 octets locals)
unfolding sending
sending_is locals e mode x c n m t3 octets len is =
    let was : ℕ = e.count % 2 ^ 32 in
    ap (λ (y : Meta). sent_under was (reply_under e.key.mode e.extra e.config was y t3 octets locals)) (measured m t3 octets len)
    ∙ ap (λ (i : ℕ). sent_under i (reply_under e.key.mode e.extra e.config i m t3 octets locals)) is.count
    ∙ ap (λ (y : Mode). sent_under n (reply_under y e.extra e.config n m t3 octets locals)) is.mode
    ∙ ap (λ (y : Extra). sent_under n (reply_under mode y e.config n m t3 octets locals)) is.extra
    ∙ ap (λ (y : ConfigParts). sent_under n (reply_under mode x y n m t3 octets locals)) is.config

pub framed_sent : (locals : List Endpoint) (mode : Mode) (x : Extra) (c : ConfigParts) (number : ℕ) (m : Meta) (t3 : ℕ) (octets : List ℕ) (reply : Reply) (ends : Ends) (old part new : List ℕ)
    → ends ≡ ends_told reply.elsewhere m
    → m.len ≡ length octets
    → 31 + reply.len ≤ length old
    → reply.len ≤ datagram_limit
    → IsReply (reply_under mode x c number m t3 octets locals) m reply (take (length old - 31) (drop 31 old)) part
    → new ≡ sent_octets (record { from = ends.from; to = ends.to; number = number; octets = take reply.len (drop 31 (put_mid 31 (length old - 31) old part)) }) ++ drop (31 + reply.len) (put_mid 31 (length old - 31) old part)
    → ((o : List ℕ) → length (sent_octets (record { from = ends.from; to = ends.to; number = number; octets = o })) ≡ 31 + length o)
    → IsSent locals mode x c number (datagram_of m t3 octets) old new (31 + reply.len)
unfolding answer_octets
framed_sent locals mode x c number m t3 octets reply ends old part new told measured room limit is framed len =
    let r : Reflected = reply_under mode x c number m t3 octets locals in
    let n = reply.len in
    let from : ends.from ≡ r.from = ap (λ (e : Ends). e.from) told ∙ is.from in
    let to : ends.to ≡ r.to = ap (λ (e : Ends). e.to) told ∙ is.to in
    let put = put_mid 31 (length old - 31) old part in
    record {
      octets = λ e stands.
          framed_behind (sent_under number r) n old part new (sym is.len) room is.octets
          (framed
          ∙ ap (λ (y : ℕ). sent_octets (record { from = y; to = ends.to; number = number; octets = take n (drop 31 put) }) ++ drop (31 + n) put) from
          ∙ ap (λ (y : Endpoint). sent_octets (record { from = r.from; to = y; number = number; octets = take n (drop 31 put) }) ++ drop (31 + n) put) to)
          ∙ ap (λ (y : Sending). sent_octets y ++ drop (31 + n) old) (sym (sending_is locals e mode x c number m t3 octets measured stands));
      len = λ e stands.
          ap (λ (i : ℕ). 31 + i) is.len
          ∙ sym (len r.octets)
          ∙ ap (λ (y : ℕ). length (sent_octets (record { from = y; to = ends.to; number = number; octets = r.octets }))) from
          ∙ ap (λ (y : Endpoint). length (sent_octets (record { from = r.from; to = y; number = number; octets = r.octets }))) to
          ∙ ap (λ (y : Sending). length (sent_octets y)) (sym (sending_is locals e mode x c number m t3 octets measured stands));
      fits = omega (arith, limit);
    }
