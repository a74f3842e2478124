-- The answers to lines (this project's own): how each is spelled, with its end.
use Rattle.std.specs.Prelude.{ℕ, List, [], ◌++◌, codes, decimal}
use Rattle.operator_lines.specs.declared.answer.Answer.{Answer}
use Rattle.operator_lines.specs.declared.answer.Answer.TheVariants as answers
use Rattle.operator_lines.specs.declared.answer.Refusal.{Refusal}
use Rattle.operator_lines.specs.declared.answer.Refusal.TheVariants as refusals
use Rattle.operator_lines.specs.Lines.{key_text}

abbrev pub refusal_word : Refusal → List ℕ
refusal_word refusals.Line = codes "line"
refusal_word refusals.Config = codes "config"
refusal_word refusals.Exists = codes "exists"
refusal_word refusals.NamesFull = codes "names full"
refusal_word refusals.Local = codes "local"
refusal_word refusals.NoConfig = codes "no config"
refusal_word refusals.Duplicate = codes "duplicate"
refusal_word refusals.ModeClash = codes "mode clash"
refusal_word refusals.NoSuch = codes "no such"
refusal_word refusals.NoKey = codes "no key"
refusal_word refusals.RowsFull = codes "rows full"
refusal_word (refusals.Full live reserved retired held) = codes "full"

-- how the slots are used, where none is free
abbrev pub counts_text : Refusal → List ℕ
counts_text (refusals.Full live reserved retired held) =
    codes " live " ++ decimal live ++ codes " reserved " ++ decimal reserved ++ codes " retired " ++ decimal retired ++ codes " held " ++ decimal held
counts_text _ = []

unfoldable pub answer_text : Answer → List ℕ
answer_text answers.Done = codes "ok\n"
answer_text (answers.Number n) = codes "ok " ++ decimal n ++ codes "\n"
answer_text (answers.Listed k n) = key_text k ++ codes " " ++ decimal n ++ codes "\n"
answer_text answers.Bye = codes "bye\n"
answer_text (answers.Refused r) = codes "refused " ++ refusal_word r ++ counts_text r ++ codes "\n"
