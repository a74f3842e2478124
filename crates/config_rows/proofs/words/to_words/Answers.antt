use Rattle.std.proofs.Common.{◌≡◌, ℕ, List, ◌∷◌, [], sym, ap, ◌∙◌, subst}
use Rattle.std.specs.Int.{w32, from_be_bytes}
use Rattle.refl_types.specs.declared.config.ConfigParts.{ConfigParts}
use Rattle.refl_types.specs.Spelling.{config_flags, block_octets}
use Rattle.config_rows.specs.Words.{row_words, words_of, AreConfigWords}
use Rattle.config_rows.proofs.WordLaws.{eight, are_config_words}
use Rattle.config_rows.proofs.words.to_words.Goals as goal

words_are : (p c : ConfigParts) (head info tlvs : ℕ) (block : List ℕ) (words : List ℕ) → p ≡ c
    → head ≡ from_be_bytes w32 (config_flags p ∷ p.offset ∷ p.scale ∷ p.multiplier ∷ [])
    → info ≡ from_be_bytes w32 p.info → tlvs ≡ p.tlvs → block ≡ block_octets p.key → words ≡ words_of 8 block
    → (head ∷ info ∷ tlvs ∷ 0 ∷ words) ≡ row_words c
unfolding row_words
words_are p c head info tlvs block words e h i t b w =
    (λ j. h j ∷ i j ∷ t j ∷ 0 ∷ (w ∙ ap (words_of 8) b) j) ∙ ap row_words e

pub returns-clause-value : goal.returns-clause-value
returns-clause-value c =
    let p = c.as_parts-parts.result.now in
    let words = eight c.block-block.result _ _ _ _ _ _ _ _ c.word_at.ensures c.word_at-2.ensures c.word_at-3.ensures c.word_at-4.ensures c.word_at-5.ensures c.word_at-6.ensures c.word_at-7.ensures c.word_at-8.ensures in
    let head = c.from.ensures ∙ (c.from_be_bytes.ensures ∙ ap (λ (f : ℕ). from_be_bytes w32 (f ∷ p.offset ∷ p.scale ∷ p.multiplier ∷ [])) c.flags.ensures.value) in
    words_are p c.args.config.now _ _ _ c.block-block.result _ c.as_parts-parts.ensures.value head (c.from-2.ensures ∙ c.from_be_bytes-2.ensures) c.from-3.ensures c.block-block.ensures words

pub returns-clause-words : goal.returns-clause-words
returns-clause-words c = subst AreConfigWords (sym (returns-clause-value c)) (are_config_words c.args.config.now c.fits.ensures)
