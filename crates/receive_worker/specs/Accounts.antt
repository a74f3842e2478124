-- What the answers of a worker's seat alone say of its tally (this project's own).
use Rattle.std.specs.Prelude.{◌≡◌, ℕ, suc, ◌+◌, List, [], ◌∷◌}
use Rattle.session_world.specs.declared.steps.Step.{Step}
use Rattle.session_world.specs.Answers.{Answer, seen, drew, missed, late, worker_answers}
use Rattle.receive_worker.specs.declared.tally.Tally.{Tally}

-- how many draws there are among answers
abbrev pub draws : List (Answer ℕ) → ℕ
draws [] = 0
draws (drew k n c ∷ rest) = suc (draws rest)
draws (_ ∷ rest) = draws rest

-- how many groups: each begins with a sight or is a miss
abbrev pub groups : List (Answer ℕ) → ℕ
groups [] = 0
groups (seen q k x c ∷ rest) = suc (groups rest)
groups (missed q ∷ rest) = suc (groups rest)
groups (_ ∷ rest) = groups rest

-- how many found no session: a miss, or a draw that came too late
abbrev pub without_session : List (Answer ℕ) → ℕ
without_session [] = 0
without_session (missed q ∷ rest) = suc (without_session rest)
without_session (late q ∷ rest) = suc (without_session rest)
without_session (_ ∷ rest) = without_session rest

-- Of the answers gained, the draws are the datagrams that were sent, changed or lost in sending; the groups are those that were
-- taken; and those without a session are the tally's
pub record Accounts (slots : ℕ) (old new : List Step) (t : Tally) : Type 0 where
  pub draws : draws (worker_answers slots new) ≡ t.sent + t.changed + t.send_fault + draws (worker_answers slots old)
  pub groups : groups (worker_answers slots new) ≡ t.taken + groups (worker_answers slots old)
  pub unmatched : without_session (worker_answers slots new) ≡ t.no_session + without_session (worker_answers slots old)
