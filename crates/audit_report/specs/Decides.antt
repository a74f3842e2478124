-- Where no call fails, what the source holds decides how an audit ends (this project's own).
use Rattle.std.specs.Prelude.{ℕ, ◌≡◌, ◌⊎◌, ◌≤◌, List, length, Option, Some}
use Rattle.port_io.specs.Outside.{Rises}
use Rattle.port_io.specs.SinkShown.{SinkShown}
use Rattle.read_ahead.specs.Buffers.{stream_limit}
use Rattle.reply_audit.specs.Claims.{Claim, AllFit}
use Rattle.reply_audit.specs.Holding.{IsHistory}
use Rattle.audit_report.specs.Runs.{Audited, claims_octets}

-- the octets are these claims, and not too many
pub record AreClaims (octets : List ℕ) (cs : List Claim) : Type 0 where
  pub fits : AllFit cs
  pub whole : octets ≡ claims_octets cs
  pub limit : length octets ≤ stream_limit

-- no claims that are a history make these octets
abbrev pub IsNoHistory : List ℕ → Type 0
IsNoHistory octets = (cs : List Claim) → AreClaims octets cs → IsHistory cs → ⊥

-- a history ends with 0, and what is none with 12 or 6, or either with 4
abbrev pub RunDecides : Type 0
RunDecides = (octets : List ℕ) (left' : Option (List ℕ)) (failed failed' : ℕ) (old new : SinkShown) (status : ℕ)
    → Audited (Some octets) left' failed failed' old new status → (Rises failed failed' → ⊥) → (Rises old.faults new.faults → ⊥)
    → ((cs : List Claim) → AreClaims octets cs → IsHistory cs → (status ≡ 0) ⊎ (status ≡ 4))
    × (IsNoHistory octets → (status ≡ 12) ⊎ (status ≡ 6) ⊎ (status ≡ 4))
    × (status ≡ 6 → (cs : List Claim) → AreClaims octets cs → ⊥)
