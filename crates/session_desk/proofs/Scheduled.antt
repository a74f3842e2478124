-- The words that the desk has read.
use Rattle.std.proofs.Common.{◌≡◌, ℕ, List, ◌∷◌, subst, ◌∙◌}
use Rattle.session_world.specs.declared.steps.TableSize.{TableSize}
use Rattle.session_world.specs.declared.steps.Step.{Step}
use Rattle.session_world.specs.declared.steps.Part.{Part}
use Rattle.session_world.specs.Sizes.{IsWithinLimits}
use Rattle.session_world.specs.declared.steps.Step.TheVariants.{Peek}
use Rattle.session_world.specs.Loads.{LoadedWords, DeskWords, IsWordOf}
use Rattle.session_rule.specs.Seats.{IsDeskOfOneSchedule}

pub word_peeked : LoadedWords → (z : TableSize) (ds es : List Step) (ps : List Part) (i n : ℕ) → IsWithinLimits z → es ≡ Peek i n ∷ ds → IsDeskOfOneSchedule z es ps → IsWordOf ds i n
word_peeked law z ds es ps i n l e s = (subst DeskWords (s.2 ∙ e) ((law z s.0 l s.1).desk)).0

pub words_read : LoadedWords → (z : TableSize) (ds : List Step) (ps : List Part) → IsWithinLimits z → IsDeskOfOneSchedule z ds ps → DeskWords ds
words_read law z ds ps l s = subst DeskWords s.2 ((law z s.0 l s.1).desk)
