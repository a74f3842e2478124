-- What an audit reads of a recorded run, and what it tells of it (this project's own).
use Rattle.std.specs.Prelude.{ℕ, ◌≡◌, ◌⊎◌, ◌-◌, ◌<◌, ◌≤◌, List, [], ◌++◌, length, Option}
use Rattle.std.specs.List.{flat_map}
use Rattle.std.specs.Io.KnownBytes.{Appends, Consumes, IsAtEnd}
use Rattle.port_io.specs.Outside.{Rises, AppendsPart}
use Rattle.port_io.specs.SinkShown.{SinkShown}
use Rattle.read_ahead.specs.Buffers.{stream_limit}
use Rattle.reply_audit.specs.Claims.{Claim, claim_octets, AllFit}
use Rattle.reply_audit.specs.Looks.{Look, State, first_state}
use Rattle.reply_audit.specs.Holding.{HoldFrom, state_from, IsHistory}
use Rattle.audit_report.specs.declared.lines.Verdict.{Verdict}
use Rattle.audit_report.specs.declared.lines.Verdict.TheVariants.{Yes, No, Bad}
use Rattle.audit_report.specs.declared.auditing.RunEnd.{RunEnd}
use Rattle.audit_report.specs.declared.auditing.RunEnd.TheVariants as ends
use Rattle.audit_report.specs.Fronts.{FailsFront, LacksFront, NoneWithin}
use Rattle.audit_report.specs.Verdicts.{line_of, status_of}

-- the octets of claims, one after the other
abbrev pub claims_octets : List Claim → List ℕ
claims_octets cs = flat_map claim_octets cs

-- how many octets a claim behind these may have
abbrev pub room_behind : List Claim → ℕ
room_behind cs = stream_limit - length (claims_octets cs)

-- what stands behind these claims
abbrev pub state_behind : List Claim → State
state_behind cs = state_from first_state cs

-- these claims were read from the source, each of which holds, and then the octets that follow them
pub record Reads (left left' : Option (List ℕ)) (cs : List Claim) (more : List ℕ) : Type 0 where
  pub fits : AllFit cs
  pub hold : HoldFrom first_state cs
  pub limit : length (claims_octets cs) ≤ stream_limit
  pub taken : Consumes left left' (claims_octets cs ++ more)

-- the source ended behind these claims, and a look was left open
pub record IsLeftOpen (left' : Option (List ℕ)) (cs : List Claim) (more : List ℕ) : Type 0 where
  pub none : more ≡ []
  pub ended : IsAtEnd left'
  pub open_look : (state_behind cs).looks ≡ [] → ⊥

-- some octets follow these claims that are none: no claim within the limit begins with them, or they are cut off
pub record LeavesGrammar (left' : Option (List ℕ)) (cs : List Claim) (more : List ℕ) : Type 0 where
  pub some : 0 < length more
  pub none : NoneWithin (room_behind cs) more ⊎ (LacksFront more × IsAtEnd left')

-- what a run is: a history of so many claims; claims of which one doesn't hold or a look was left open; or no claims
abbrev pub IsRun : Option (List ℕ) → Option (List ℕ) → Verdict → Type 0
IsRun left left' (Yes n) = (cs : List Claim) × Reads left left' cs [] × IsAtEnd left' × IsHistory cs × (n ≡ length cs)
IsRun left left' (No n) =
    (cs : List Claim) × (more : List ℕ) × Reads left left' cs more × (FailsFront (state_behind cs) more (room_behind cs) ⊎ IsLeftOpen left' cs more)
    × (n ≡ length (claims_octets cs))
IsRun left left' (Bad n) = (cs : List Claim) × (more : List ℕ) × Reads left left' cs more × LeavesGrammar left' cs more × (n ≡ length (claims_octets cs))

-- all claims that were whole hold
abbrev pub WasCutOff : Option (List ℕ) → Option (List ℕ) → Type 0
WasCutOff left left' = (cs : List Claim) × (more : List ℕ) × Reads left left' cs more × LacksFront more

-- all claims that were dealt with hold
abbrev pub WasStopped : Option (List ℕ) → Option (List ℕ) → Type 0
WasStopped left left' = (cs : List Claim) × (more : List ℕ) × Reads left left' cs more

abbrev pub EndsRun : Option (List ℕ) → Option (List ℕ) → RunEnd → Type 0
EndsRun left left' (ends.Told verdict) = IsRun left left' verdict
EndsRun left left' ends.Memory = WasStopped left left'
EndsRun left left' ends.Input = WasCutOff left left'

-- what is told where the source ended, behind claims that hold: of so many octets that are left, and these open looks
abbrev pub TellsEnd : List Look → (held passed count : ℕ) → Verdict → Type 0
TellsEnd looks held passed count (Yes n) = (held ≡ 0) × (looks ≡ []) × (n ≡ count)
TellsEnd looks held passed count (No n) = (held ≡ 0) × (looks ≡ [] → ⊥) × (n ≡ passed)
TellsEnd looks held passed count (Bad n) = (0 < held) × (n ≡ passed)

-- the line of a verdict was written, or a part of it, since a write failed
abbrev pub TellsVerdict : Verdict → SinkShown → SinkShown → ℕ → Type 0
TellsVerdict verdict old new status =
    ((status ≡ status_of verdict) × Appends old.written new.written (line_of verdict) × (new.faults ≡ old.faults))
    ⊎ ((status ≡ 8) × AppendsPart old.written new.written (line_of verdict) × Rises old.faults new.faults)

-- A recorded run was audited, with this status: 0, 12 or 6 with the line that says what it is, 8 where that line wasn't
-- wholly written; 4 for want of memory and 7 where a read failed, and then nothing was written.
abbrev pub Audited : Option (List ℕ) → Option (List ℕ) → ℕ → ℕ → SinkShown → SinkShown → ℕ → Type 0
Audited left left' failed failed' old new status =
    ((verdict : Verdict) × IsRun left left' verdict × TellsVerdict verdict old new status × (failed' ≡ failed))
    ⊎ ((status ≡ 4) × WasStopped left left' × (new ≡ old) × (failed' ≡ failed))
    ⊎ ((status ≡ 7) × WasCutOff left left' × (new ≡ old) × Rises failed failed')
