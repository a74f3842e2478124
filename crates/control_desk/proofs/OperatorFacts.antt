-- The plans of an operator's lines, case by case.
use Rattle.std.proofs.Common.{◌≡◌, ℕ, zero, suc, List, ◌+◌, ◌-◌, ◌<◌, ◌≤◌, leb, eqb, ◌++◌, [], ◌∷◌, length, drop, get_or, true, false, Option, Some, None, refl, ap, ◌∙◌, arith}
use Rattle.std.proofs.Math.Seq.{drop-cons}
use Rattle.std.specs.Option.{is_some}
use Rattle.refl_types.specs.declared.config.ConfigParts.{ConfigParts}
use Rattle.operator_lines.specs.declared.answer.Refusal.TheVariants as refusals
use Rattle.operator_lines.specs.declared.answer.Answer.TheVariants.{Number, Refused}
use Rattle.control_desk.specs.declared.counts.Verdict.{Verdict}
use Rattle.control_desk.specs.declared.counts.Verdict.TheVariants.{GoesOn, Over, Quits}
use Rattle.control_desk.specs.State.{Setting, DeskState, with_side, without, settled}
use Rattle.control_desk.specs.declared.sides.Side.TheVariants.{Operator}
use Rattle.operator_lines.specs.Reading.{line_from}
use Rattle.operator_lines.specs.Answers.{answer_text}
use Rattle.control_desk.proofs.Choices.{if_true, if_false}
use Rattle.control_desk.specs.Plan.{live_at, send, hang_up}
use Rattle.operator_lines.specs.declared.line.Line.{Line}
use Rattle.operator_lines.specs.declared.line.Line.TheVariants as lines
use Rattle.operator_lines.specs.Lines.{IsLine}
use Rattle.control_desk.specs.Operator.{HasSoundKey, Next, say, refuse, new_name, list_from, list_key, operator_plan, line_limit, read_plan, behind_line, behind_octet}

pub known_name : (n : ℕ) (s : DeskState) (name : List ℕ) (c : ConfigParts) (next : Next) (o : Option ConfigParts)
    → is_some o ≡ true → new_name n s name c next o ≡ refuse n refusals.Exists s next
known_name n s name c next None h = absurd cc
known_name n s name c next (Some d) h = refl

pub other_name : (o : Option ConfigParts) → is_some o ≡ false → o ≡ None
other_name None h = refl
other_name (Some d) h = absurd cc

-- one session of the list more
pub list_step : (n : ℕ) (s : DeskState) (next : Next) (all index : ℕ) → index < all
    → list_from n s next all index (all - index) ≡ live_at index (list_key n s next (list_from n s next all (index + 1) (all - (index + 1))))
unfolding list_from
list_step n s next all index h = let e : all - index ≡ suc (all - (index + 1)) = omega arith in rw e refl

pub list_end : (n : ℕ) (s : DeskState) (next : Next) (all index : ℕ) → all ≤ index → list_from n s next all index (all - index) ≡ say n (Number all) s next
unfolding list_from
list_end n s next all index h = let e : all - index ≡ zero = omega arith in rw e refl

-- ---- one octet more

pub full_octet : (f : Setting) (n now : ℕ) (s : DeskState) (next : Next) (held : List ℕ) (b : ℕ) (rest : List ℕ) → leb line_limit (length held) ≡ true
    → operator_plan f n now s next held (b ∷ rest) ≡ send n (answer_text (Refused refusals.Line)) (hang_up n (next Over (without s n))) (hang_up n (next Over (without s n)))
unfolding operator_plan
full_octet f n now s next held b rest h = if_true _ _ _ h

pub plain_octet : (f : Setting) (n now : ℕ) (s : DeskState) (next : Next) (held : List ℕ) (b : ℕ) (rest : List ℕ) → leb line_limit (length held) ≡ false → eqb b 10 ≡ false
    → operator_plan f n now s next held (b ∷ rest) ≡ operator_plan f n now s next (held ++ b ∷ []) rest
unfolding operator_plan
plain_octet f n now s next held b rest h k = if_false _ _ _ h ∙ if_false _ _ _ k

pub last_octet : (f : Setting) (n now : ℕ) (s : DeskState) (next : Next) (held : List ℕ) (b : ℕ) (rest : List ℕ) → leb line_limit (length held) ≡ false → eqb b 10 ≡ true
    → operator_plan f n now s next held (b ∷ rest) ≡ read_plan f n now s (behind_line (λ t. operator_plan f n now t next [] rest) next) (line_from (held ++ b ∷ []))
unfolding operator_plan
last_octet f n now s next held b rest h k = if_false _ _ _ h ∙ if_true _ _ _ k

pub behind_last : (f : Setting) (n now : ℕ) (next : Next) (rest : List ℕ) (v : Verdict) (s : DeskState)
    → behind_line (λ t. operator_plan f n now t next [] rest) next v (settled v n s) ≡ behind_octet f n now next [] rest v s
behind_last f n now next rest GoesOn s = refl
behind_last f n now next rest Over s = refl
behind_last f n now next rest Quits s = refl

pub no_octet : (f : Setting) (n now : ℕ) (s : DeskState) (next : Next) (held : List ℕ) → operator_plan f n now s next held [] ≡ next GoesOn (with_side s n (Operator held))
unfolding operator_plan
no_octet f n now s next held = refl

pub next_octet : (l : List ℕ) (i : ℕ) → i < length l → drop i l ≡ get_or l i 0 ∷ drop (i + 1) l
next_octet l i h = let e : suc i ≡ i + 1 = omega arith in drop-cons l i 0 h ∙ ap (λ (j : ℕ). get_or l i 0 ∷ drop j l) e

-- a text that is a line names a sound key alone
pub line_sound : (s : List ℕ) (line : Line) → IsLine s line → HasSoundKey line
line_sound s (lines.Open k name wait) h = (h.1).3.sound
line_sound s (lines.Config name octets) h = tt
line_sound s (lines.Set k name) h = tt
line_sound s (lines.Close k) h = tt
line_sound s (lines.Count k) h = tt
line_sound s lines.List h = tt
line_sound s lines.Quit h = tt
