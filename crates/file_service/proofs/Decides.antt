-- Where nothing fails, the content of the file decides how a run ends.
use Rattle.std.proofs.Common.{◌≡◌, ◌⊎◌, ◌<◌, ◌≤◌, ℕ, inl, inr, List, length, Option, Some, Ok, subst, arith}
use Rattle.std.proofs.lemmas.Grind.{common_steps}
use Rattle.port_io.specs.Outside.{Rises}
use Rattle.port_io.specs.SinkShown.{SinkShown}
use Rattle.port_io.specs.Files as port
use Rattle.port_io.specs.Files.{content}
use Rattle.net_io.specs.Desk.{DeskEntry}
use Rattle.conf_text.specs.File.{File, file_in}
use Rattle.conf_check.specs.Loading.{file_limit, IsAccepted}
use Rattle.conf_check.specs.Checking.{content_status}
use Rattle.reflector_serve.specs.Ports.{PortView}
use Rattle.reflector_serve.specs.Served.{DeskView}
use Rattle.file_service.specs.Service.{WasNotTaken, HasTooFewPorts, ServeEnds, RunEnds, NothingFails}
use Rattle.file_service.specs.Decides.{ContentDecides, RunDecides}

module _ (fs : List port.File) (name text : List ℕ) (failed failed' : ℕ) (old new : SinkShown) (status : ℕ) (known : content name fs ≡ Some text) (loads : Rises failed failed' → ⊥) where
  -- a file that isn't taken has the status of its content
  not_taken : WasNotTaken (Some fs) name failed failed' old new status → (status ≡ content_status text) ⊎ (status ≡ 4)
  not_taken (inl h) = grind (arith, common_steps)
  not_taken (inr (inl h)) = inr h.0
  not_taken (inr (inr h)) = grind (arith, common_steps)

  -- and one that is taken is the file of its content
  taken : (f : File) → IsAccepted (Some fs) name f → content_status text ≡ 0
  taken f h = grind (arith, common_steps)

  same_file : (f g : File) → IsAccepted (Some fs) name f → file_in text ≡ Ok g → f ≡ g
  same_file f g h e = grind (arith, common_steps)

  no_fault : (g : File) → length text ≤ file_limit → file_in text ≡ Ok g → content_status text ≡ 0
  no_fault g limit e = grind (arith, common_steps)

  not_taken_well : (g : File) → length text ≤ file_limit → file_in text ≡ Ok g → WasNotTaken (Some fs) name failed failed' old new status → status ≡ 4
  not_taken_well g limit e (inl h) = grind (arith, common_steps)
  not_taken_well g limit e (inr (inl h)) = h.0
  not_taken_well g limit e (inr (inr h)) = grind (arith, common_steps)

few_ports : (f : File) (count : ℕ) (old new : SinkShown) (status : ℕ) → HasTooFewPorts f count old new status → (status ≡ 3) ⊎ (status ≡ 4)
few_ports f count old new status (more, inl h) = inl h.0
few_ports f count old new status (more, inr h) = inr h.0

module _ {P S D T : Type 0} (v : PortView P S) (w : DeskView D T) (goes : D → DeskEntry → D → Type 0) where
  serve_well : (f : File) (ps qs : List P) (d e : D) (old new : SinkShown) (status : ℕ) → ServeEnds v w goes f ps qs d e old new status
      → NothingFails v w ps qs d e old new → (status ≡ 0) ⊎ (status ≡ 4) ⊎ (status ≡ 11)
  serve_well f ps qs d e old new status (inl h) none = inl h.0
  serve_well f ps qs d e old new status (inr (inl h)) none = inr (inl h.0)
  serve_well f ps qs d e old new status (inr (inr (inl h))) none = absurd (none.writes h.1.3)
  serve_well f ps qs d e old new status (inr (inr (inr (inl h)))) none = absurd (none.ports h.2)
  serve_well f ps qs d e old new status (inr (inr (inr (inr (inl h))))) none = absurd (none.desk_calls h.2)
  serve_well f ps qs d e old new status (inr (inr (inr (inr (inr h))))) none = inr (inr h.0)

  by_ends : (fs : List port.File) (name text : List ℕ) (failed failed' : ℕ) (ps qs : List P) (d e : D) (old new : SinkShown) (status : ℕ)
      → RunEnds v w goes (Some fs) name failed failed' ps qs d e old new status → content name fs ≡ Some text → (Rises failed failed' → ⊥) → ContentDecides v w text ps qs d e old new status
  by_ends fs name text failed failed' ps qs d e old new status (inl h) known loads = record {
    turned_away = λ _. not_taken fs name text failed failed' old new status known loads h.0;
    crowded = λ f limit is _. inr (not_taken_well fs name text failed failed' old new status known loads f limit is h.0);
    served = λ f limit is _ _. inr (inl (not_taken_well fs name text failed failed' old new status known loads f limit is h.0));
  }
  by_ends fs name text failed failed' ps qs d e old new status (inr (f, accepted, still, inl h)) known loads = record {
    turned_away = λ away. absurd (away (taken fs name text failed failed' old new status known loads f accepted));
    crowded = λ g limit is _. few_ports f (length ps) old new status h.0;
    served = λ g limit is enough _.
        let same : f ≡ g = same_file fs name text failed failed' old new status known loads f g accepted is in
        let few : length ps < f.workers = h.0.0 in
        let more : length ps < g.workers = subst (λ (k : File). length ps < k.workers) same few in
        absurd (omega (arith, more, enough));
  }
  by_ends fs name text failed failed' ps qs d e old new status (inr (f, accepted, still, inr h)) known loads = record {
    turned_away = λ away. absurd (away (taken fs name text failed failed' old new status known loads f accepted));
    crowded = λ g limit is few.
        let same : f ≡ g = same_file fs name text failed failed' old new status known loads f g accepted is in
        let enough : g.workers ≤ length ps = subst (λ (k : File). k.workers ≤ length ps) same h.0 in
        absurd (omega (arith, few, enough));
    served = λ g limit is enough none. serve_well f ps qs d e old new status h.1 none;
  }

  pub run_decides : RunDecides v w goes
  run_decides files fs name text failed failed' ps qs d e old new status ends loads =
      by_ends fs name text failed failed' ps qs d e old new status
      (subst (λ (o : Option (List port.File)). RunEnds v w goes o name failed failed' ps qs d e old new status) loads.told ends)
      loads.content loads.loads
