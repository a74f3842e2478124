-- The ports at the opening (this project's own).
use Rattle.std.specs.Prelude.{◌≡◌, ℕ, ◌<◌, List, [], ◌∷◌, length, slice_index_or}
use Rattle.refl_types.specs.declared.types.Endpoint.{Endpoint}
use Rattle.port_io.specs.Outside.{Rises}
use Rattle.net_io.specs.Log.{Grows}
use Rattle.net_io.specs.Port.{read}
use Rattle.net_io.specs.PortShown.{PortShown}

-- how ports of the type P show themselves
abbrev pub PortView : Type 0 → Type 0 → Type 0
PortView P S = P → PortShown S

-- nothing was received, sent or read
pub record IsIdle {P S : Type 0} (v : PortView P S) (p q : P) : Type 0 where
  pub log : (v q).log ≡ (v p).log
  pub coming : (v q).coming ≡ (v p).coming
  pub made : (v q).made ≡ (v p).made

-- and it is bound to these local addresses
pub record IsBound {P S : Type 0} (v : PortView P S) (locals : List Endpoint) (p q : P) : Type 0 where
  pub idle : IsIdle v p q
  pub bound : (v q).bound ≡ locals
  pub still : (v q).faults ≡ (v p).faults

-- it told a moment, and did nothing else
pub record HasTold {P S : Type 0} (v : PortView P S) (moment : ℕ) (p q : P) : Type 0 where
  pub log : Grows (v p).log (v q).log (read moment ∷ [])
  pub coming : (v q).coming ≡ (v p).coming
  pub bound : (v q).bound ≡ (v p).bound
  pub made : (v q).made ≡ (v p).made
  pub still : (v q).faults ≡ (v p).faults

-- as many ports, each as R says
pub record Each {P : Type 0} (R : P → P → Type 0) (ps qs : List P) : Type 0 where
  pub len : length qs ≡ length ps
  pub each : (i : ℕ) (d : P) → i < length ps → R (slice_index_or ps i d) (slice_index_or qs i d)

-- a port's count of faults rose
pub record OneFails {P S : Type 0} (v : PortView P S) (ps qs : List P) : Type 0 where
  pub place : ℕ
  pub inside : place < length ps
  pub rises : (d : P) → Rises (v (slice_index_or ps place d)).faults (v (slice_index_or qs place d)).faults

-- the first port told a moment, and the others are as they were
pub record FirstTold {P S : Type 0} (v : PortView P S) (moment : ℕ) (ps qs : List P) : Type 0 where
  pub len : length qs ≡ length ps
  pub first : (d : P) → HasTold v moment (slice_index_or ps 0 d) (slice_index_or qs 0 d)
  pub others : (i : ℕ) (d : P) → 0 < i → i < length ps → slice_index_or qs i d ≡ slice_index_or ps i d
