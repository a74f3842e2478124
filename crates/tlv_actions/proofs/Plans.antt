-- Where the plan of a tail is the usual one, and what of a plan the TLVs of a reply tell.
use Rattle.std.proofs.Common.{◌≡◌, ℕ, Bool, true, false, ◌||◌, List, [], None, refl}
use Rattle.refl_types.specs.declared.types.Endpoint.{Endpoint}
use Rattle.refl_types.specs.declared.types.Meta.{Meta}
use Rattle.refl_types.specs.declared.config.ConfigParts.{ConfigParts}
use Rattle.tlv_chain.specs.Tlv.{Tlv}
use Rattle.tlv_chain.specs.Split.{split, split_within}
use Rattle.tlv_actions.specs.declared.facts.Plan.{Plan}
use Rattle.tlv_actions.specs.Rows.{is_understood, reply_tlv}
use Rattle.tlv_actions.specs.Planned.{planned, no_reply}

-- from where the datagram arrived, to its sender
abbrev pub usual_plan : Meta → Plan
usual_plan d = record { from = d.local; to = d.peer; nine = None; own_at = None; path_at = None }

planned_if : (c : ConfigParts) (locals : List Endpoint) (d : Meta) (nine ten : Bool) → is_understood c 9 ≡ nine → is_understood c 10 ≡ ten → planned c locals d [] ≡ usual_plan d
unfolding planned split split_within
planned_if c locals d true true e f = rw (e, f) refl
planned_if c locals d true false e f = rw (e, f) refl
planned_if c locals d false true e f = rw (e, f) refl
planned_if c locals d false false e f = rw (e, f) refl

pub planned-nil : (c : ConfigParts) (locals : List Endpoint) (d : Meta) → planned c locals d [] ≡ usual_plan d
planned-nil c locals d = planned_if c locals d (is_understood c 9) (is_understood c 10) refl refl

-- neither type is understood
planned_not : (c : ConfigParts) (locals : List Endpoint) (d : Meta) (tail : List ℕ) → is_understood c 9 ≡ false → is_understood c 10 ≡ false → planned c locals d tail ≡ usual_plan d
unfolding planned
planned_not c locals d tail e f = rw (e, f) refl

neither : (a b : Bool) → (a || b) ≡ false → (a ≡ false) × (b ≡ false)
neither true b e = absurd cc
neither false b e = (refl, e)

pub planned_usual : (c : ConfigParts) (locals : List Endpoint) (d : Meta) (tail : List ℕ) → (is_understood c 9 || is_understood c 10) ≡ false → planned c locals d tail ≡ usual_plan d
planned_usual c locals d tail e = let p = neither (is_understood c 9) (is_understood c 10) e in planned_not c locals d tail p.0 p.1

-- a plan of other ends
abbrev pub with_ends : ℕ → Endpoint → Plan → Plan
with_ends from to p = record { from = from; to = to; nine = p.nine; own_at = p.own_at; path_at = p.path_at }

pub reply_tlv-ends : (c : ConfigParts) (n from : ℕ) (to : Endpoint) (p : Plan) (at : ℕ) (t : Tlv) → reply_tlv c (record { n = n; plan = with_ends from to p }) at t ≡ reply_tlv c (record { n = n; plan = p }) at t
unfolding reply_tlv
reply_tlv-ends c n from to p at t = refl

-- ---- no reply

no_reply_not : (c : ConfigParts) (tail : List ℕ) → is_understood c 10 ≡ false → no_reply c tail ≡ false
unfolding no_reply
no_reply_not c tail e = rw e refl

pub no_reply_usual : (c : ConfigParts) (tail : List ℕ) → (is_understood c 9 || is_understood c 10) ≡ false → no_reply c tail ≡ false
no_reply_usual c tail e = no_reply_not c tail (neither (is_understood c 9) (is_understood c 10) e).1
