-- From the fault of one reading to that of a longer one.
use Rattle.std.proofs.Common.{◌≡◌, Option, Some, None, IfSome, IsErrAnd, Result, Ok, Err, ap, sym, subst, ◌∙◌}
use Rattle.conf_text.specs.declared.fault.ConfFault.{ConfFault}
use Rattle.conf_text.specs.Faults.{Fault, fault_of, Tells, Gives, ◌>>=◌}

told_by : {A : Type 0} (o : Option Fault) (f : Fault) (read : Result A Fault) → read ≡ Err f → IfSome o (λ g. f ≡ g) → IfSome o (λ g. read ≡ Err g)
told_by None f read same tells = tt
told_by (Some g) f read same tells = same ∙ ap Err tells

-- the code tells the fault that the definition has
pub told : {A : Type 0} (e : ConfFault) (f : Fault) (read : Result A Fault) → read ≡ Err f → Tells e f → IfSome (fault_of e) (λ g. read ≡ Err g)
told e f read same tells = told_by (fault_of e) f read same tells

passed_by : {A B : Type 0} (o : Option Fault) (first : Result A Fault) (f : A → Result B Fault) → IfSome o (λ g. first ≡ Err g) → IfSome o (λ g. (first >>= f) ≡ Err g)
passed_by None first f tells = tt
passed_by (Some g) first f tells = ap (λ r. r >>= f) tells

-- a fault of the first of two readings is that of both
pub passed : {A B : Type 0} (e : ConfFault) (first : Result A Fault) (f : A → Result B Fault) → IfSome (fault_of e) (λ g. first ≡ Err g) → IfSome (fault_of e) (λ g. (first >>= f) ≡ Err g)
passed e first f tells = passed_by (fault_of e) first f tells

-- what `?` hands on
pub handed : {X Y : Type 0} (view : X → Y) (r : Result X ConfFault) (e : ConfFault) (read : Result Y Fault) → IsErrAnd r (λ f. f ≡ e) → IfSome (fault_of e) (λ f. read ≡ Err f) → Gives view r read
handed view (Ok x) e read is told = absurd is
handed view (Err f) e read is told = let P : ConfFault → Type 0 = λ g. IfSome (fault_of g) (λ h. read ≡ Err h) in subst P (sym is) told
