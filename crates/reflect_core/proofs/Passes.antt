-- What a pass over the TLVs of a tail keeps: what was written, with the reply of what is left, is the whole reply.
use Rattle.std.proofs.Common.{◌≡◌, ℕ, ◌+◌, ◌≤◌, ◌∙◌, Bool, true, false, if◌then◌else◌, List, [], ◌++◌, length, take, drop, refl, sym, ap, subst, append_assoc, arith}
use Rattle.std.proofs.lemmas.List.{take_at, drop_at, drop-drop, length-append, length-drop}
use Rattle.octet_format.specs.Octets.{IsBytes}
use Rattle.octet_format.proofs.Obeys.{IsBytes-drop}
use Rattle.refl_types.specs.declared.config.ConfigParts.{ConfigParts}
use Rattle.tlv_chain.specs.declared.span.Span.{Span}
use Rattle.tlv_chain.specs.Tlv.{Tlv, tlv_octets, tlvs_octets}
use Rattle.tlv_chain.specs.Split.{Split, split, add_first}
use Rattle.tlv_chain.specs.Walking.{Walking, IsAtRest, WentPast, tlv_at}
use Rattle.tlv_chain.proofs.SplitFacts.{split_is}
use Rattle.tlv_chain.proofs.Walks.{step_of, rest_of, past, length-value_at}
use Rattle.tlv_actions.specs.declared.facts.Plan.{Plan}
use Rattle.tlv_actions.specs.declared.reply.Acted.{Acted}
use Rattle.tlv_actions.specs.declared.reply.Acted.TheVariants.{Done, Malformed}
use Rattle.tlv_actions.specs.Rows.{Facts, WritesTlv, HoldsTlv, reply_tlv, is_malformed_at, acted_on}
use Rattle.reflect_core.specs.Tail.{failed_reply, flagged, processed_from}

-- the reply of a split from a place on is whole
pub record IsUnderWay (whole : ℕ → Split → List ℕ) (tail : List ℕ) (w : Walking) (out : List ℕ) : Type 0 where
  pub of : w.tail ≡ tail
  pub within : w.at ≤ length tail
  pub room : length out ≡ length tail
  pub so_far : take w.at out ++ whole w.at (split (drop w.at tail)) ≡ whole 0 (split tail)

pub begun : (whole : ℕ → Split → List ℕ) (tail out : List ℕ) → length out ≡ length tail → let w : Walking = record { tail = tail; at = 0 } in IsUnderWay whole tail w out
begun whole tail out room = record { of = refl; within = omega arith; room = room; so_far = refl }

-- the front up to the place past a TLV that was written
front_past : (old new : List ℕ) (s : Span) (t : Tlv) (n : ℕ) → WritesTlv old s t new → length new ≡ n → length old ≡ n → past s ≤ n → take (past s) new ≡ take s.at old ++ tlv_octets t
front_past old new s t n writes ln lo le =
    let front = take s.at old ++ tlv_octets t in
    let len : length front ≡ past s = omega (arith, ap length writes.octets, length-append front (drop (past s) old), length-drop (past s) old, ln, lo) in
    ap (take (past s)) writes.octets ∙ take_at front (drop (past s) old) (past s) len

-- a TLV was written, and the pass goes on
pub goes_on : (whole : ℕ → Split → List ℕ) (tail : List ℕ) (old : Walking) (s : Span) (new : Walking) (out out' : List ℕ) (t : Tlv) → IsUnderWay whole tail old out → WentPast old s new → WritesTlv out s t out' → length out' ≡ length out → ((rest : Split) → whole s.at (add_first (tlv_at tail s) rest) ≡ tlv_octets t ++ whole (past s) rest) → IsUnderWay whole tail new out'
goes_on whole tail old s new out out' t way went writes same next =
    let step = step_of tail old s new way.of went in
    let to : new.at ≡ past s = omega (arith, went.to, went.from) in
    let left = split (drop (past s) tail) in
    let here : take s.at out ++ whole s.at (split (drop s.at tail)) ≡ whole 0 (split tail) = subst (λ (n : ℕ). take n out ++ whole n (split (drop n tail)) ≡ whole 0 (split tail)) (sym went.from) way.so_far in
    let front : take (past s) out' ≡ take s.at out ++ tlv_octets t = front_past out out' s t (length tail) writes (same ∙ way.room) way.room step.within in
    let there : take (past s) out' ++ whole (past s) left ≡ whole 0 (split tail) =
    ap (λ (x : List ℕ). x ++ whole (past s) left) front
    ∙ append_assoc (take s.at out) (tlv_octets t) (whole (past s) left)
    ∙ ap (λ (x : List ℕ). take s.at out ++ x) (sym (ap (whole s.at) step.split ∙ next left))
    ∙ here in
    record {
      of = went.tail ∙ way.of;
      within = omega (arith, to, step.within);
      room = same ∙ way.room;
      so_far = subst (λ (n : ℕ). take n out' ++ whole n (split (drop n tail)) ≡ whole 0 (split tail)) (sym to) there;
    }

-- the rest was written, and the reply is whole
pub ended : (whole : ℕ → Split → List ℕ) (tail : List ℕ) (old new : Walking) (out out' rest : List ℕ) → IsUnderWay whole tail old out → IsAtRest old new → out' ≡ take new.at out ++ rest → rest ≡ whole new.at (record { tlvs = []; rest = drop new.at tail }) → out' ≡ whole 0 (split tail)
ended whole tail old new out out' rest way stay e last =
    let none = rest_of tail old new way.of stay in
    let at : old.at ≡ new.at = ap (λ (w : Walking). w.at) (sym stay.same) in
    let here : take new.at out ++ whole new.at (split (drop new.at tail)) ≡ whole 0 (split tail) = subst (λ (n : ℕ). take n out ++ whole n (split (drop n tail)) ≡ whole 0 (split tail)) at way.so_far in
    e ∙ ap (λ (x : List ℕ). take new.at out ++ x) (last ∙ ap (whole new.at) (sym none)) ∙ here

-- a malformed TLV was written, and all after it as received
pub stopped : (whole : ℕ → Split → List ℕ) (tail : List ℕ) (old : Walking) (s : Span) (new : Walking) (out out' out'' : List ℕ) (t : Tlv) → IsBytes tail → IsUnderWay whole tail old out → WentPast old s new → WritesTlv out s t out' → length out' ≡ length out → ((rest : Split) → whole s.at (add_first (tlv_at tail s) rest) ≡ tlv_octets t ++ (tlvs_octets rest.tlvs ++ rest.rest)) → out'' ≡ take (past s) out' ++ drop (past s) tail → out'' ≡ whole 0 (split tail)
stopped whole tail old s new out out' out'' t bytes way went writes same next e =
    let step = step_of tail old s new way.of went in
    let left = split (drop (past s) tail) in
    let here : take s.at out ++ whole s.at (split (drop s.at tail)) ≡ whole 0 (split tail) = subst (λ (n : ℕ). take n out ++ whole n (split (drop n tail)) ≡ whole 0 (split tail)) (sym went.from) way.so_far in
    let front : take (past s) out' ≡ take s.at out ++ tlv_octets t = front_past out out' s t (length tail) writes (same ∙ way.room) way.room step.within in
    let later : drop (past s) tail ≡ tlvs_octets left.tlvs ++ left.rest = (split_is (drop (past s) tail) (IsBytes-drop (past s) tail bytes)).parts in
    e
    ∙ ap (λ (x : List ℕ). x ++ drop (past s) tail) front
    ∙ append_assoc (take s.at out) (tlv_octets t) (drop (past s) tail)
    ∙ ap (λ (x : List ℕ). take s.at out ++ (tlv_octets t ++ x)) later
    ∙ ap (λ (x : List ℕ). take s.at out ++ x) (sym (ap (whole s.at) step.split ∙ next left))
    ∙ here

-- ---- the two passes

pub flags_first : (tail : List ℕ) (s : Span) (rest : Split) → failed_reply (add_first (tlv_at tail s) rest) ≡ tlv_octets (flagged (tlv_at tail s)) ++ failed_reply rest
flags_first tail s rest = append_assoc (tlv_octets (flagged (tlv_at tail s))) _ _

-- the failed reply, wherever it begins
abbrev pub failed_from : ℕ → Split → List ℕ
failed_from at s = failed_reply s

goes_first : (c : ConfigParts) (facts : Facts) (at to : ℕ) (t : Tlv) (rest : Split) → at + 4 + length t.value ≡ to → is_malformed_at c facts.plan at t ≡ false → processed_from c facts at (add_first t rest) ≡ tlv_octets (reply_tlv c facts at t) ++ processed_from c facts to rest
goes_first c facts at to t rest same e = rw e (ap (λ (n : ℕ). tlv_octets (reply_tlv c facts at t) ++ processed_from c facts n rest) same)

pub processes_first : (c : ConfigParts) (facts : Facts) (tail : List ℕ) (s : Span) (rest : Split) → past s ≤ length tail → is_malformed_at c facts.plan s.at (tlv_at tail s) ≡ false → processed_from c facts s.at (add_first (tlv_at tail s) rest) ≡ tlv_octets (reply_tlv c facts s.at (tlv_at tail s)) ++ processed_from c facts (past s) rest
processes_first c facts tail s rest le e = goes_first c facts s.at (past s) (tlv_at tail s) rest (ap (λ (n : ℕ). s.at + 4 + n) (length-value_at tail s le)) e

pub stops_first : (c : ConfigParts) (facts : Facts) (at : ℕ) (t : Tlv) (rest : Split) → is_malformed_at c facts.plan at t ≡ true → processed_from c facts at (add_first t rest) ≡ tlv_octets (reply_tlv c facts at t) ++ (tlvs_octets rest.tlvs ++ rest.rest)
stops_first c facts at t rest e = rw e refl

malformed_if : (b : Bool) → (if b then Malformed else Done) ≡ Malformed → b ≡ true
malformed_if true e = refl
malformed_if false e = absurd cc

pub malformed_is : (c : ConfigParts) (plan : Plan) (at : ℕ) (t : Tlv) (acted : Acted) → acted ≡ acted_on c plan at t → acted ≡ Malformed → is_malformed_at c plan at t ≡ true
malformed_is c plan at t acted e f = malformed_if (is_malformed_at c plan at t) (sym e ∙ f)

-- ---- a pass over a copy of the tail

-- what isn't walked yet stands there as received
pub record IsOver (whole : ℕ → Split → List ℕ) (tail : List ℕ) (w : Walking) (out : List ℕ) : Type 0 where
  pub way : IsUnderWay whole tail w out
  pub later : drop w.at out ≡ drop w.at tail

pub begun_over : (whole : ℕ → Split → List ℕ) (tail out : List ℕ) → out ≡ tail → let w : Walking = record { tail = tail; at = 0 } in IsOver whole tail w out
begun_over whole tail out e = record { way = begun whole tail out (ap length e); later = e }

-- a TLV of the tail, and then what is behind it
tlv_stands : (tail : List ℕ) (old : Walking) (s : Span) (new : Walking) → IsBytes tail → old.tail ≡ tail → WentPast old s new → drop s.at tail ≡ tlv_octets (tlv_at tail s) ++ drop (past s) tail
tlv_stands tail old s new bytes of went =
    let step = step_of tail old s new of went in
    let left = split (drop (past s) tail) in
    let here : drop s.at tail ≡ tlvs_octets (split (drop s.at tail)).tlvs ++ (split (drop s.at tail)).rest = (split_is (drop s.at tail) (IsBytes-drop s.at tail bytes)).parts in
    let there : drop (past s) tail ≡ tlvs_octets left.tlvs ++ left.rest = (split_is (drop (past s) tail) (IsBytes-drop (past s) tail bytes)).parts in
    here
    ∙ ap (λ (x : Split). tlvs_octets x.tlvs ++ x.rest) step.split
    ∙ append_assoc (tlv_octets (tlv_at tail s)) (tlvs_octets left.tlvs) left.rest
    ∙ ap (λ (x : List ℕ). tlv_octets (tlv_at tail s) ++ x) (sym there)

later_at : (tail out : List ℕ) (at : ℕ) (s : Span) → drop at out ≡ drop at tail → s.at ≡ at → drop (past s) out ≡ drop (past s) tail
later_at tail out at s e same =
    let n = 4 + s.len in
    let sum : at + n ≡ past s = omega (arith, same) in
    ap (λ (m : ℕ). drop m out) (sym sum) ∙ sym (drop-drop n at out) ∙ ap (drop n) e ∙ drop-drop n at tail ∙ ap (λ (m : ℕ). drop m tail) sum

pub holds_over : (whole : ℕ → Split → List ℕ) (tail : List ℕ) (old : Walking) (s : Span) (new : Walking) (out : List ℕ) → IsBytes tail → IsOver whole tail old out → WentPast old s new → HoldsTlv out s (tlv_at tail s)
holds_over whole tail old s new out bytes over went = record {
  holds =
      ap (λ (m : ℕ). drop m out) went.from ∙ over.later ∙ ap (λ (m : ℕ). drop m tail) (sym went.from)
      ∙ tlv_stands tail old s new bytes over.way.of went
      ∙ ap (λ (x : List ℕ). tlv_octets (tlv_at tail s) ++ x) (sym (later_at tail out old.at s over.later went.from));
}

-- what is behind a TLV that was written stays
behind : (old new : List ℕ) (s : Span) (t : Tlv) (n : ℕ) → WritesTlv old s t new → length new ≡ n → length old ≡ n → past s ≤ n → drop (past s) new ≡ drop (past s) old
behind old new s t n writes ln lo le =
    let front = take s.at old ++ tlv_octets t in
    let len : length front ≡ past s = omega (arith, ap length writes.octets, length-append front (drop (past s) old), length-drop (past s) old, ln, lo) in
    ap (drop (past s)) writes.octets ∙ drop_at front (drop (past s) old) (past s) len

pub behind_over : (whole : ℕ → Split → List ℕ) (tail : List ℕ) (old : Walking) (s : Span) (new : Walking) (out out' : List ℕ) (t : Tlv) → IsOver whole tail old out → WentPast old s new → WritesTlv out s t out' → length out' ≡ length out → drop (past s) out' ≡ drop (past s) tail
behind_over whole tail old s new out out' t over went writes same =
    let step = step_of tail old s new over.way.of went in
    behind out out' s t (length tail) writes (same ∙ over.way.room) over.way.room step.within ∙ later_at tail out old.at s over.later went.from

pub goes_over : (whole : ℕ → Split → List ℕ) (tail : List ℕ) (old : Walking) (s : Span) (new : Walking) (out out' : List ℕ) (t : Tlv) → IsOver whole tail old out → WentPast old s new → WritesTlv out s t out' → length out' ≡ length out → ((rest : Split) → whole s.at (add_first (tlv_at tail s) rest) ≡ tlv_octets t ++ whole (past s) rest) → IsOver whole tail new out'
goes_over whole tail old s new out out' t over went writes same next =
    let to : new.at ≡ past s = omega (arith, went.to, went.from) in
    record {
      way = goes_on whole tail old s new out out' t over.way went writes same next;
      later = ap (λ (m : ℕ). drop m out') to ∙ behind_over whole tail old s new out out' t over went writes same ∙ ap (λ (m : ℕ). drop m tail) (sym to);
    }

done_if : (b : Bool) → ((if b then Malformed else Done) ≡ Malformed → ⊥) → b ≡ false
done_if true f = absurd (f refl)
done_if false f = refl

pub done_is : (c : ConfigParts) (plan : Plan) (at : ℕ) (t : Tlv) (acted : Acted) → acted ≡ acted_on c plan at t → (acted ≡ Malformed → ⊥) → is_malformed_at c plan at t ≡ false
done_is c plan at t acted e f = done_if (is_malformed_at c plan at t) (λ b. f (e ∙ b))
