-- The entry at the front of what was read (this project's own).
use Rattle.std.specs.Prelude.{◌≡◌, ℕ, ◌<◌, ◌≤◌, List, ◌++◌, length, drop, take, ⊤}
use Rattle.reply_audit.specs.Claims.{Claim, claim_octets, FitsClaim, IsNoClaim}
use Rattle.reply_audit.specs.Fronts.{entry_limit}
use Rattle.reply_audit.specs.Looks.{State}
use Rattle.reply_audit.specs.Holding.{Holds, state_after}
use Rattle.audit_report.specs.declared.front.Front.{Front}
use Rattle.audit_report.specs.declared.front.Front.TheVariants as front

-- no claim is whole at the front
abbrev pub LacksFront : List ℕ → Type 0
LacksFront octets = (c : Claim) (rest : List ℕ) → FitsClaim c → octets ≡ claim_octets c ++ rest → ⊥

-- no claim of at most so many octets begins with these, whatever comes behind them
abbrev pub NoneWithin : ℕ → List ℕ → Type 0
NoneWithin limit octets = (c : Claim) (rest tail : List ℕ) → FitsClaim c → octets ++ rest ≡ claim_octets c ++ tail → limit < length (claim_octets c)

-- a claim of at most so many octets is at the front, and it doesn't hold
pub record FailsFront (s : State) (octets : List ℕ) (limit : ℕ) : Type 0 where
  pub claim : Claim
  pub rest : List ℕ
  pub fits : FitsClaim claim
  pub front : octets ≡ claim_octets claim ++ rest
  pub within : length (claim_octets claim) ≤ limit
  pub fails : Holds s claim → ⊥

-- a claim of just so many octets is at the front, within the limit, and it holds
pub record HoldsFront (s : State) (octets : List ℕ) (limit n : ℕ) (s' : State) : Type 0 where
  pub claim : Claim
  pub fits : FitsClaim claim
  pub front : octets ≡ claim_octets claim ++ drop n octets
  pub len : length (claim_octets claim) ≡ n
  pub within : n ≤ limit
  pub holds : Holds s claim
  pub after : s' ≡ state_after s claim

-- the front of octets, of which a claim may have as many as the limit
abbrev pub ChecksFront : State → List ℕ → ℕ → Front → State → Type 0
ChecksFront s octets limit (front.Holds n) s' = HoldsFront s octets limit n s'
ChecksFront s octets limit front.Fails s' = FailsFront s octets limit
ChecksFront s octets limit front.Bad s' = (0 < length octets) × NoneWithin limit octets
ChecksFront s octets limit front.More s' = LacksFront octets × (length octets < entry_limit) × (length octets ≤ limit) × (s' ≡ s)
ChecksFront s octets limit front.Memory s' = ⊤

-- the first octets, which are a claim if there is one
abbrev pub ChecksEntry : State → List ℕ → ℕ → Front → State → Type 0
ChecksEntry s octets n (front.Holds m) s' = HoldsFront s octets n n s' × (m ≡ n)
ChecksEntry s octets n front.Fails s' = FailsFront s octets n
ChecksEntry s octets n front.Bad s' = IsNoClaim (take n octets)
ChecksEntry s octets n front.More s' = ⊥
ChecksEntry s octets n front.Memory s' = ⊤
