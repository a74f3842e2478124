-- When a session whose slot word was noted has idled away (this project's own).
use Rattle.std.specs.Prelude.{ℕ, ◌+◌, ◌==◌, nat_le, Bool, ◌&&◌, not, if◌then◌else◌}
use Rattle.expiry.specs.declared.Note.{Note}
use Rattle.expiry.specs.declared.Verdict.{Verdict}
use Rattle.expiry.specs.declared.Verdict.TheVariants.{Keep, Renew, Expire}

-- the wait has passed since a moment; a wait of 0 never passes
abbrev pub has_passed : (since now wait : ℕ) → Bool
has_passed since now wait = not (wait == 0) && nat_le (since + wait) now

unfoldable pub verdict : Note → (word now wait : ℕ) → Verdict
verdict note word now wait =
    if not (word == note.word) then Renew
    else if has_passed note.moment now wait then Expire
    else Keep
